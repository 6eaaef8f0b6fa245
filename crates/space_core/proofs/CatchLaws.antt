-- A handler that goes on a thread's stack, and what stands below it that is cut out.
use Rattle.std.proofs.Common.{◌≡◌, ℕ, ◌+◌, ◌≤◌, arith, List, ◌++◌, length, drop, refl, ap, ◌∙◌, Option, Some, None, is_some, true, length-append}
use Rattle.oz_base.specs.declared.names.Ident.{Ident}
use Rattle.oz_semantics.specs.Configurations.{is_numbered, thread_at, frames_in, in_thread, with_frames}
use Rattle.oz_semantics.specs.Exceptions.{unwound}
use Rattle.oz_semantics.specs.declared.configuration.Frame.{Frame}
use Rattle.oz_semantics.specs.declared.configuration.Thread.{Thread}
use Rattle.oz_semantics.specs.declared.configuration.Layer.{Layer}
use Rattle.view_laws.proofs.ListLaws.{found_in}
use Rattle.space_core.specs.Shown.{shown, IsQuiet}
use Rattle.space_core.specs.Stacks.{cut_out}
use Rattle.space_core.specs.declared.level.Level.{Level}
use Rattle.space_core.proofs.Firsts.{found_edited}
use Rattle.space_core.proofs.LayerLaws.{frames_twice, frames_agree, cut_handler}

-- One quiet change after another
pub quiet_twice : (f g : Layer → Layer) (l m n : Level) → IsQuiet f l m → IsQuiet g m n → IsQuiet (λ k. g (f k)) l n
quiet_twice f g l m n p q = record {
  becomes = q.becomes ∙ ap g p.becomes;
  space = q.space ∙ p.space;
  store = q.store ∙ p.store;
  told_from = q.told_from ∙ p.told_from;
  touched = q.touched ∙ p.touched;
  traced = q.traced ∙ p.traced;
  knows = q.knows ∙ p.knows;
  bare = q.bare ∙ p.bare;
  variables = let a = p.variables in let b = q.variables in omega (arith, a, b);
  children = let a = p.children in let b = q.children in omega (arith, a, b);
}

-- as another that comes to the same
pub quiet_as : (f g : Layer → Layer) (l m : Level) → IsQuiet f l m → f (shown l) ≡ g (shown l) → IsQuiet g l m
quiet_as f g l m q e = record {
  becomes = q.becomes ∙ e;
  space = q.space;
  store = q.store;
  told_from = q.told_from;
  touched = q.touched;
  traced = q.traced;
  knows = q.knows;
  bare = q.bare;
  variables = q.variables;
  children = q.children;
}

-- a stack that an exception leaves is one of a thread that is there
pub there_by : (x : Ident) (o : Option Thread) (left : List Frame) → unwound x (drop 1 (frames_in o)) ≡ Some left → is_some o ≡ true
there_by x None left u = absurd (cc)
there_by x (Some t) left u = refl

-- or as none at all
pub quiet_same : (l m : Level) → IsQuiet (λ k. k) l m → m ≡ l
quiet_same l m q = λ i. record {
  space = q.space i;
  status = (q.becomes i).status;
  constraints = record { store = q.store i; propagators = (q.becomes i).propagators };
  told_from = q.told_from i;
  touched = q.touched i;
  threads = record { list = (q.becomes i).threads; next = (q.becomes i).next.thread };
  triggers = (q.becomes i).triggers;
  objects = record { cells = (q.becomes i).cells; ports = (q.becomes i).ports };
  numbers = record { variable = (q.becomes i).next.variable; procedure = (q.becomes i).next.procedure; name = (q.becomes i).next.name; child = (q.becomes i).next.child };
  traced = q.traced i;
  knows_space = q.knows i;
  bare = q.bare i;
}

module _ (n : ℕ) (handler : List Frame) (l l1 : Level) (q : IsQuiet (with_frames n (λ stack. handler ++ stack)) l l1) where
  abbrev stack : List Frame
  stack = frames_in (thread_at l.threads.list n)

  abbrev pushing : Thread → Thread
  pushing t = record t { frames = handler ++ t.frames }

  pushed_frames : is_some (thread_at l.threads.list n) ≡ true → frames_in (thread_at l1.threads.list n) ≡ handler ++ stack
  pushed_frames there = ap (λ (k : Layer). frames_in (thread_at k.threads n)) q.becomes ∙ by (thread_at l.threads.list n) refl there
    where
      by : (o : Option Thread) → thread_at l.threads.list n ≡ o → is_some o ≡ true → frames_in (thread_at (in_thread n pushing l.threads.list) n) ≡ handler ++ frames_in o
      by None e v = absurd (cc)
      by (Some t) e v = ap frames_in (found_edited (is_numbered n) pushing l.threads.list t e (found_in (is_numbered n) pushing l.threads.list t e).1)

  -- there is room for what is cut out
  pub room_for : is_some (thread_at l.threads.list n) ≡ true → (h c : ℕ) → h ≡ length handler → c ≤ length stack → h + c ≤ length (frames_in (thread_at l1.threads.list n))
  room_for there h c e within =
      let whole : length (frames_in (thread_at l1.threads.list n)) ≡ length handler + length stack = ap length (pushed_frames there) ∙ length-append handler stack in
      omega (arith, whole, e, within)

  pub room_to_cut : (x : Ident) (left : List Frame) (h c : ℕ) → unwound x (drop 1 stack) ≡ Some left → h ≡ length handler → c ≤ length stack → h + c ≤ length (frames_in (thread_at l1.threads.list n))
  room_to_cut x left h c u = room_for (there_by x (thread_at l.threads.list n) left u) h c

  pub caught_quietly : (m : Level) (h c : ℕ) → IsQuiet (with_frames n (cut_out h c)) l1 m → h ≡ length handler → IsQuiet (with_frames n (λ rest. handler ++ drop c stack)) l m
  caught_quietly m h c r e =
      quiet_as (λ k. with_frames n (cut_out h c) (with_frames n (λ stack. handler ++ stack) k)) (with_frames n (λ rest. handler ++ drop c stack)) l m
      (quiet_twice (with_frames n (λ stack. handler ++ stack)) (with_frames n (cut_out h c)) l l1 m q r)
      (frames_twice n (cut_out h c) (λ stack. handler ++ stack) (shown l)
      ∙ frames_agree n (λ s. cut_out h c (handler ++ s)) (λ rest. handler ++ drop c stack) (shown l) (cut_handler handler stack h c e))
