-- What is kept of the threads of a space.
use Rattle.std.specs.Prelude.{ℕ, ◌≡◌, ◌==◌, ◌||◌, if◌then◌else◌, ◌+◌, ◌≤◌, Bool, true, false, not, List, [], ◌∷◌, ◌++◌, filter, drop, slice_index_or, slice_set, Option}
use Rattle.std.specs.List.{list_all}
use Rattle.oz_base.specs.Lists.{is_empty, first}
use Rattle.oz_semantics.specs.Configurations.{in_thread}
use Rattle.oz_semantics.specs.declared.configuration.Frame.{Frame}
use Rattle.oz_semantics.specs.declared.configuration.Thread.{Thread}
use Rattle.space_core.specs.declared.ended.Ended.{Ended}
use Rattle.space_core.specs.declared.ended.Ended.TheVariants.{Nobody, AtMost, Several}

-- the threads, and the number that the next one gets
pub record Running : Type 0 where
  pub list : List Thread
  pub next : ℕ

-- their numbers ascend from low on, and each is less than high
abbrev pub Ascends : ℕ → ℕ → List Thread → Type 0
Ascends low high [] = low ≤ high
Ascends low high (t ∷ ts) = (low ≤ t.number) × Ascends (t.number + 1) high ts

-- whether a thread has statements
abbrev pub goes_on : Thread → Bool
goes_on t = not (is_empty t.frames)

-- whether the thread with a number may have ended
abbrev pub may_end : Ended → ℕ → Bool
may_end Nobody number = false
may_end (AtMost one) number = number == one
may_end Several number = true

-- the thread with a number may have ended too
abbrev pub with_ended : ℕ → Ended → Ended
with_ended number Nobody = AtMost number
with_ended number (AtMost one) = if one == number then AtMost one else Several
with_ended number Several = Several

-- a thread that was changed may have ended too where it has no statements
abbrev pub with_seen : Thread → Ended → Ended
with_seen t ended = if is_empty t.frames then with_ended t.number ended else ended

-- the threads of another space came, under other numbers
abbrev pub with_other : Ended → Ended → Ended
with_other Nobody ended = ended
with_other (AtMost one) ended = Several
with_other Several ended = Several

-- whether a thread has statements where it is not noted that it may have ended
abbrev pub is_noted : Ended → Thread → Bool
is_noted ended t = goes_on t || may_end ended t.number

-- The numbers ascend from 1 on, each less than the next one, and each thread has statements of which it is not noted that it may have ended
pub record IsKept (threads : List Thread) (next : ℕ) (ended : Ended) : Type 0 where
  pub ascends : Ascends 1 next threads
  pub noted : list_all (is_noted ended) threads ≡ true

-- a thread's stack, changed
abbrev pub with_stack : ℕ → (List Frame → List Frame) → Running → Running
with_stack number change r = record r { list = in_thread number (λ t. record t { frames = change t.frames }) r.list }

-- a new thread with these statements
abbrev pub with_new : List Frame → Running → Running
with_new frames r = record { list = r.list ++ record { number = r.next; frames = frames } ∷ []; next = r.next + 1 }

-- those without statements are gone
abbrev pub without_ended : Running → Running
without_ended r = record r { list = filter goes_on r.list }

-- the statement on top of the stack of the thread at a place was taken off
pub record IsPopped (place : ℕ) (old new : Running) (frame : Option Frame) : Type 0 where
  pub thread : Thread
  pub read : thread ≡ slice_index_or old.list place thread
  pub popped : frame ≡ first thread.frames
  pub left : new ≡ record old { list = slice_set old.list place (record thread { frames = drop 1 thread.frames }) }
