-- What threads wait for goes by the states of spaces only so far as a space is there and was not merged.
use Rattle.std.proofs.Common.{◌≡◌, ℕ, Bool, true, false, cond, if◌then◌else◌, List, [], ◌∷◌, ◌++◌, refl, sym, ap, ap₂, ◌∙◌, Option, Some, None, map, flat_map}
use Rattle.std.specs.Prelude.{option_map, ℤ, pos, negsuc, nat_le, ◌&&◌}
use Rattle.std.specs.List.{find}
use Rattle.oz_base.specs.Lists.{list_eq}
use Rattle.oz_base.specs.declared.names.Ident.{Ident}
use Rattle.oz_language.specs.declared.kernel.Statement.{Statement}
use Rattle.oz_semantics.specs.Store.{View, value_of}
use Rattle.oz_semantics.specs.Values.{integer_in, is_procedure}
use Rattle.oz_semantics.specs.Configurations.{is_open, view}
use Rattle.oz_semantics.specs.Sights.{Sight, States, state_in, Offer, Readiness, waits_of}
use Rattle.oz_semantics.specs.Answers.{Commits, Answer, Acts, Edits, RaisesKind, RaisesTerm, Operates, Widens, Rests, given, of_kind}
use Rattle.oz_semantics.specs.Operations.{once_decided, alternative_of, committed_in, injected_in, injects, operated, with_state, by_state}
use Rattle.oz_semantics.specs.Statements.{stack_answer}
use Rattle.oz_semantics.specs.Readiness.{answer_ready}
use Rattle.oz_semantics.specs.Spaces.{sight, ready_in, subtree_goes_on, is_stable, offer_in, is_left, stable_state, state_by, states_behind, states_of, waited_in}
use Rattle.oz_semantics.specs.declared.value.SpaceOperation.{SpaceOperation}
use Rattle.oz_semantics.specs.declared.value.SpaceOperation.TheVariants as operation
use Rattle.oz_semantics.specs.declared.value.Value.{Value}
use Rattle.oz_semantics.specs.declared.configuration.Thread.{Thread}
use Rattle.oz_semantics.specs.declared.configuration.Status.{Status}
use Rattle.oz_semantics.specs.declared.configuration.Status.TheVariants as status
use Rattle.oz_semantics.specs.declared.configuration.Layer.{Layer}
use Rattle.oz_semantics.specs.declared.outcome.RaiseKind.TheVariants as raise
use Rattle.oz_semantics.specs.declared.outcome.State.{State}
use Rattle.oz_semantics.specs.declared.outcome.State.TheVariants as states
use Rattle.need_laws.specs.Needs.{AllFire}

-- a state of a space that was not merged
abbrev pub is_live : State → Bool
is_live states.Running = true
is_live states.Suspended = true
is_live states.Failed = true
is_live (states.Raised x) = true
is_live states.Merged = false
is_live (states.Alternatives n) = true
is_live states.Solved = true
is_live states.Stuck = true

abbrev pub found_live : Option State → Bool
found_live None = false
found_live (Some st) = is_live st

-- What an answer waits for

abbrev waits : Answer → List Ident
waits a = waits_of (answer_ready a)

decided_waits : (st : State) (op : SpaceOperation) (space : List ℕ) (x : Ident) (a : Answer) → waits a ≡ [] → waits (once_decided st (Operates op space x) a) ≡ []
decided_waits states.Running op space x a e = refl
decided_waits states.Suspended op space x a e = refl
decided_waits states.Failed op space x a e = e
decided_waits (states.Raised y) op space x a e = e
decided_waits states.Merged op space x a e = e
decided_waits (states.Alternatives n) op space x a e = e
decided_waits states.Solved op space x a e = e
decided_waits states.Stuck op space x a e = e

abbrev waits_for : Ident → Option Value → List Ident
waits_for x None = x ∷ []
waits_for x (Some v) = []

injected_waits : (space : List ℕ) (p : Ident) (st : State) → waits (injected_in space p st) ≡ []
injected_waits space p states.Running = refl
injected_waits space p states.Suspended = refl
injected_waits space p states.Failed = refl
injected_waits space p (states.Raised y) = refl
injected_waits space p states.Merged = refl
injected_waits space p (states.Alternatives n) = refl
injected_waits space p states.Solved = refl
injected_waits space p states.Stuck = refl

inject_waits : (space : List ℕ) (x : Ident) (st : State) (o : Option Value) → waits (given x o (injects space x st)) ≡ waits_for x o
inject_waits space x st None = refl
inject_waits space x st (Some v) = by (is_procedure v)
  where
    by : (b : Bool) → waits (if b then injected_in space x st else RaisesKind raise.BadKind) ≡ []
    by true = injected_waits space x st
    by false = refl

alternative_waits : (space : List ℕ) (n : ℕ) (i : ℤ) → waits (alternative_of space n i) ≡ []
alternative_waits space n (pos i) = by (nat_le 1 i && nat_le i n)
  where
    by : (b : Bool) → waits (if b then Edits (Commits space i) else RaisesKind raise.SpaceChoice) ≡ []
    by true = refl
    by false = refl
alternative_waits space n (negsuc i) = refl

committed_waits : (space : List ℕ) (st : State) (i : ℤ) → waits (committed_in space st i) ≡ []
committed_waits space states.Running i = refl
committed_waits space states.Suspended i = refl
committed_waits space states.Failed i = refl
committed_waits space (states.Raised y) i = refl
committed_waits space states.Merged i = refl
committed_waits space (states.Alternatives n) i = alternative_waits space n i
committed_waits space states.Solved i = refl
committed_waits space states.Stuck i = refl

kind_waits : (space : List ℕ) (st : State) (o : Option ℤ) → waits (of_kind o (committed_in space st)) ≡ []
kind_waits space st None = refl
kind_waits space st (Some i) = committed_waits space st i

abbrev commits_with : List ℕ → Ident → State → Value → Answer
commits_with space x st v = once_decided st (Operates operation.Commit space x) (of_kind (integer_in v) (committed_in space st))

commit_waits : (space : List ℕ) (x : Ident) (st : State) (o : Option Value) → waits (given x o (commits_with space x st)) ≡ waits_for x o
commit_waits space x st None = refl
commit_waits space x st (Some v) = decided_waits st operation.Commit space x (of_kind (integer_in v) (committed_in space st)) (kind_waits space st (integer_in v))

-- what an operation waits for on a space that is there and was not merged
abbrev operand_waits : View → SpaceOperation → Ident → List Ident
operand_waits view operation.Ask x = []
operand_waits view operation.Commit x = waits_for x (value_of view x)
operand_waits view operation.Clone x = []
operand_waits view operation.Inject x = waits_for x (value_of view x)
operand_waits view operation.Merge x = []

module _ (s : Sight) (inner : View) (space : List ℕ) (x : Ident) where
  abbrev Waiting : SpaceOperation → State → Type 0
  Waiting op st = waits (operated s inner op space x st) ≡ (if is_live st then operand_waits s.view op x else [])

  ask_operated : (st : State) → Waiting operation.Ask st
  ask_operated states.Running = refl
  ask_operated states.Suspended = refl
  ask_operated states.Failed = refl
  ask_operated (states.Raised y) = refl
  ask_operated states.Merged = refl
  ask_operated (states.Alternatives n) = refl
  ask_operated states.Solved = refl
  ask_operated states.Stuck = refl

  commit_operated : (st : State) → Waiting operation.Commit st
  commit_operated states.Running = commit_waits space x states.Running (value_of s.view x)
  commit_operated states.Suspended = commit_waits space x states.Suspended (value_of s.view x)
  commit_operated states.Failed = commit_waits space x states.Failed (value_of s.view x)
  commit_operated (states.Raised y) = commit_waits space x (states.Raised y) (value_of s.view x)
  commit_operated states.Merged = refl
  commit_operated (states.Alternatives n) = commit_waits space x (states.Alternatives n) (value_of s.view x)
  commit_operated states.Solved = commit_waits space x states.Solved (value_of s.view x)
  commit_operated states.Stuck = commit_waits space x states.Stuck (value_of s.view x)

  clone_operated : (st : State) → Waiting operation.Clone st
  clone_operated states.Running = refl
  clone_operated states.Suspended = refl
  clone_operated states.Failed = refl
  clone_operated (states.Raised y) = refl
  clone_operated states.Merged = refl
  clone_operated (states.Alternatives n) = refl
  clone_operated states.Solved = refl
  clone_operated states.Stuck = refl

  inject_operated : (st : State) → Waiting operation.Inject st
  inject_operated states.Running = inject_waits space x states.Running (value_of s.view x)
  inject_operated states.Suspended = inject_waits space x states.Suspended (value_of s.view x)
  inject_operated states.Failed = inject_waits space x states.Failed (value_of s.view x)
  inject_operated (states.Raised y) = inject_waits space x (states.Raised y) (value_of s.view x)
  inject_operated states.Merged = refl
  inject_operated (states.Alternatives n) = inject_waits space x (states.Alternatives n) (value_of s.view x)
  inject_operated states.Solved = inject_waits space x states.Solved (value_of s.view x)
  inject_operated states.Stuck = inject_waits space x states.Stuck (value_of s.view x)

  merge_operated : (st : State) → Waiting operation.Merge st
  merge_operated states.Running = refl
  merge_operated states.Suspended = refl
  merge_operated states.Failed = refl
  merge_operated (states.Raised y) = refl
  merge_operated states.Merged = refl
  merge_operated (states.Alternatives n) = refl
  merge_operated states.Solved = refl
  merge_operated states.Stuck = refl

  all_operated : (op : SpaceOperation) (st : State) → Waiting op st
  all_operated operation.Ask st = ask_operated st
  all_operated operation.Commit st = commit_operated st
  all_operated operation.Clone st = clone_operated st
  all_operated operation.Inject st = inject_operated st
  all_operated operation.Merge st = merge_operated st

  state_waits : (op : SpaceOperation) (o : Option State) → waits (with_state o (operated s inner op space x)) ≡ (if found_live o then operand_waits s.view op x else [])
  state_waits op None = refl
  state_waits op (Some st) = all_operated op st

-- By two lists of states in which the same spaces are there and were not merged, threads wait for the same
abbrev pub AreLive : States → States → Type 0
AreLive one other = (space : List ℕ) → found_live (state_in one space) ≡ found_live (state_in other space)

module _ (one other : List Layer) (s : Sight) (known later : States) (live : AreLive known later) where
  answer_waits : (a : Answer) → waits (by_state one s known a) ≡ waits (by_state other s later a)
  answer_waits (Operates op space x) =
      state_waits s (view one space) space x op (state_in known space)
      ∙ ap (λ (b : Bool). if b then operand_waits s.view op x else []) (live space)
      ∙ sym (state_waits s (view other space) space x op (state_in later space))
  answer_waits (Acts act) = refl
  answer_waits (Edits edit) = refl
  answer_waits (RaisesKind kind) = refl
  answer_waits (RaisesTerm x) = refl
  answer_waits (Widens ts) = refl
  answer_waits (Rests ready) = refl

thread_waits : (statements : List Statement) (one other : List Layer) (known later : States) (space : List ℕ) (t : Thread) → view other space ≡ view one space → AreLive known later
    → waits_of (ready_in statements other later space t) ≡ waits_of (ready_in statements one known space t)
thread_waits statements one other known later space t e live =
    ap (λ (v : View). waits (by_state other (record { statements = statements; space = space; view = v }) later (stack_answer (record { statements = statements; space = space; view = v }) t.frames))) e
    ∙ sym (answer_waits one other (sight statements one space) known later live (stack_answer (sight statements one space) t.frames))

flat_waits : (f g : Thread → Readiness) → ((t : Thread) → waits_of (f t) ≡ waits_of (g t)) → (ts : List Thread) → flat_map waits_of (map f ts) ≡ flat_map waits_of (map g ts)
flat_waits f g h [] = refl
flat_waits f g h (t ∷ ts) = ap₂ (λ (xs ys : List Ident). xs ++ ys) (h t) (flat_waits f g h ts)

pub layer_waits : (statements : List Statement) (one other : List Layer) (known later : States) (l : Layer) → view other l.space ≡ view one l.space → AreLive known later
    → waited_in statements other later l ≡ waited_in statements one known l
layer_waits statements one other known later l e live = by (is_open l.status)
  where
    by : (b : Bool)
        → flat_map waits_of (if b then map (ready_in statements other later l.space) l.threads else []) ≡ flat_map waits_of (if b then map (ready_in statements one known l.space) l.threads else [])
    by true =
        flat_waits (ready_in statements other later l.space) (ready_in statements one known l.space) (λ t. thread_waits statements one other known later l.space t e live) l.threads
    by false = refl

-- Which spaces are there and were not merged, layer by layer

abbrev was_left : Status → Bool
was_left status.Open = true
was_left status.Failed = true
was_left (status.Raised x) = true
was_left status.Merged = false

stable_live : (o : Option Offer) (left : Bool) → is_live (stable_state o left) ≡ true
stable_live (Some offer) left = refl
stable_live None true = refl
stable_live None false = refl

open_live : (goes stable : Bool) (o : Option Offer) (left : Bool) → is_live (if goes then states.Running else (if stable then stable_state o left else states.Suspended)) ≡ true
open_live true stable o left = refl
open_live false true o left = stable_live o left
open_live false false o left = refl

status_live : (statements : List Statement) (layers : List Layer) (known : States) (l : Layer) (st : Status) → is_live (state_by statements layers known l st) ≡ was_left st
status_live statements layers known l status.Open =
    open_live (subtree_goes_on statements layers known l.space) (is_stable statements layers known l.space) (offer_in statements layers known l) (is_left (view layers l.space) l)
status_live statements layers known l status.Failed = refl
status_live statements layers known l (status.Raised x) = refl
status_live statements layers known l status.Merged = refl

abbrev left_in : List ℕ → List Layer → Bool
left_in space [] = false
left_in space (l ∷ ls) = if list_eq l.space space then was_left l.status else left_in space ls

found_left : (statements : List Statement) (layers ls : List Layer) (space : List ℕ) → found_live (state_in (states_behind statements layers ls) space) ≡ left_in space ls
found_left statements layers [] space = refl
found_left statements layers (l ∷ ls) space = by (states_behind statements layers ls) (list_eq l.space space) (found_left statements layers ls space)
  where
    by : (rest : States) (b : Bool) → found_live (state_in rest space) ≡ left_in space ls
        → found_live (option_map (λ (s : List ℕ × State). s.1) (cond b (Some (l.space, state_by statements layers rest l l.status)) (find (λ (s : List ℕ × State). list_eq s.0 space) rest)))
        ≡ (if b then was_left l.status else left_in space ls)
    by rest true e = status_live statements layers rest l l.status
    by rest false e = e

left_fired : (space : List ℕ) (ls ms : List Layer) → AllFire ls ms → left_in space ms ≡ left_in space ls
left_fired space [] [] f = refl
left_fired space (l ∷ ls) (m ∷ ms) f =
    ap₂ (λ (s : List ℕ) (st : Status). if list_eq s space then was_left st else left_in space ms) f.0.space f.0.status
    ∙ ap (λ (b : Bool). if list_eq l.space space then was_left l.status else b) (left_fired space ls ms f.1)
left_fired space [] (m ∷ ms) f = elim f [ ]
left_fired space (l ∷ ls) [] f = elim f [ ]

-- Triggers that give way to their threads leave the same
pub live_fired : (statements : List Statement) (layers after : List Layer) → AllFire layers after → AreLive (states_of statements layers) (states_of statements after)
live_fired statements layers after f space = found_left statements layers layers space ∙ sym (left_fired space layers after f) ∙ sym (found_left statements after after space)
