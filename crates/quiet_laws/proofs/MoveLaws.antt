-- What can step while a space runs can step by any other state of it.
use Rattle.std.proofs.Common.{◌≡◌, ◌⊎◌, inl, inr, ℕ, Bool, true, false, if◌then◌else◌, List, refl, sym, subst, Contains, Option, Some, None}
use Rattle.std.proofs.lemmas.Bool.{false≢true}
use Rattle.oz_base.specs.declared.names.Ident.{Ident}
use Rattle.oz_language.specs.declared.kernel.Statement.{Statement}
use Rattle.oz_semantics.specs.Names.{is_child_of}
use Rattle.oz_semantics.specs.Values.{is_procedure}
use Rattle.oz_semantics.specs.Store.{View, value_of}
use Rattle.oz_semantics.specs.Configurations.{view}
use Rattle.oz_semantics.specs.Sights.{Sight, States, state_in, can_step}
use Rattle.oz_semantics.specs.Answers.{Answer, RaisesKind, Operates, given}
use Rattle.oz_semantics.specs.Operations.{unless_merged, injected_in, injects, operated, with_state, by_state}
use Rattle.oz_semantics.specs.Statements.{stack_answer}
use Rattle.oz_semantics.specs.Readiness.{answer_ready}
use Rattle.oz_semantics.specs.Spaces.{sight, ready_in}
use Rattle.oz_semantics.specs.declared.value.Value.{Value}
use Rattle.oz_semantics.specs.declared.value.Value.TheVariants as value
use Rattle.oz_semantics.specs.declared.value.Tell.TheVariants.{Is}
use Rattle.oz_semantics.specs.declared.value.SpaceOperation.{SpaceOperation}
use Rattle.oz_semantics.specs.declared.value.SpaceOperation.TheVariants as operation
use Rattle.oz_semantics.specs.declared.configuration.Frame.{Frame}
use Rattle.oz_semantics.specs.declared.configuration.Thread.{Thread}
use Rattle.oz_semantics.specs.declared.configuration.Layer.{Layer}
use Rattle.oz_semantics.specs.declared.outcome.RaiseKind.TheVariants as raise
use Rattle.oz_semantics.specs.declared.outcome.State.{State}
use Rattle.oz_semantics.specs.declared.outcome.State.TheVariants as states
use Rattle.view_laws.proofs.AnswerLaws.{stack_holds}

abbrev steps : Answer → Bool
steps a = can_step (answer_ready a)

-- An injection

injected_steps : (space : List ℕ) (p : Ident) (st : State) → steps (injected_in space p st) ≡ true
injected_steps space p states.Failed = refl
injected_steps space p st = refl

injects_steps : (space : List ℕ) (x : Ident) (st : State) (v : Value) → steps (injects space x st v) ≡ true
injects_steps space x st v = by (is_procedure v)
  where
    by : (b : Bool) → steps (if b then injected_in space x st else RaisesKind raise.BadKind) ≡ true
    by true = injected_steps space x st
    by false = refl

given_steps : (x : Ident) (o : Option Value) (go more : Value → Answer) → ((v : Value) → steps (more v) ≡ true) → steps (given x o go) ≡ true → steps (given x o more) ≡ true
given_steps x None go more h e = absurd (false≢true e)
given_steps x (Some v) go more h e = h v

unmerged_steps : (st : State) (a : Answer) → steps a ≡ true → steps (unless_merged st a) ≡ true
unmerged_steps states.Merged a e = refl
unmerged_steps st a e = e

-- what waits for a value, and then for the state of a running space, does not step
commit_waits : (x : Ident) (o : Option Value) (space : List ℕ) → steps (given x o (λ v. Operates operation.Commit space x)) ≡ true → ⊥
commit_waits x None space e = false≢true e
commit_waits x (Some v) space e = false≢true e

module _ (s : Sight) (inner : View) (space : List ℕ) (x : Ident) where
  -- Of the operations only an injection steps on a space that runs
  running_steps : (op : SpaceOperation) (o : Option State) → steps (operated s inner op space x states.Running) ≡ true → steps (with_state o (operated s inner op space x)) ≡ true
  running_steps op None e = refl
  running_steps operation.Ask (Some st) e = absurd (false≢true e)
  running_steps operation.Commit (Some st) e = absurd (commit_waits x (value_of s.view x) space e)
  running_steps operation.Clone (Some st) e = absurd (false≢true e)
  running_steps operation.Merge (Some st) e = absurd (false≢true e)
  running_steps operation.Inject (Some st) e =
      unmerged_steps st (given x (value_of s.view x) (injects space x st)) (given_steps x (value_of s.view x) (injects space x states.Running) (injects space x st) (injects_steps space x st) e)

-- a state stays, or was that of a space that ran
abbrev pub Moves : Option State → Option State → Type 0
Moves o p = (p ≡ o) ⊎ (o ≡ Some states.Running)

moved_steps : (s : Sight) (inner : View) (op : SpaceOperation) (space : List ℕ) (x : Ident) (o p : Option State) → Moves o p
    → steps (with_state o (operated s inner op space x)) ≡ true → steps (with_state p (operated s inner op space x)) ≡ true
moved_steps s inner op space x o p (inl m) e = subst (λ q. steps (with_state q (operated s inner op space x)) ≡ true) (sym m) e
moved_steps s inner op space x o p (inr m) e = running_steps s inner space x op p (subst (λ q. steps (with_state q (operated s inner op space x)) ≡ true) m e)

module _ (layers : List Layer) (s : Sight) (known later : States) (moves : (c : List ℕ) → is_child_of s.space c ≡ true → Moves (state_in known c) (state_in later c)) where
  abbrev StepsStill : Answer → Type 0
  StepsStill a = steps (by_state layers s known a) ≡ true → steps (by_state layers s later a) ≡ true

  operation_still : (op : SpaceOperation) (child : List ℕ) (x y : Ident) → Contains s.view (Is y (value.Space child)) → is_child_of s.space child ≡ true → StepsStill (Operates op child x)
  operation_still op child x y told below = moved_steps s (view layers child) op child x (state_in known child) (state_in later child) (moves child below)

  stack_still : (frames : List Frame) → StepsStill (stack_answer s frames)
  stack_still frames = stack_holds s StepsStill (λ act e. e) (λ procedure x e. e) (λ kind e. e) (λ x e. e) (λ ts e. e) (λ ready e. e) operation_still frames

-- So a thread that can step can step still, where the states of the spaces in its own stay, but for those of spaces that ran
pub ready_still : (statements : List Statement) (layers : List Layer) (space : List ℕ) (known later : States) → ((c : List ℕ) → is_child_of space c ≡ true → Moves (state_in known c) (state_in later c))
    → (t : Thread) → can_step (ready_in statements layers known space t) ≡ true → can_step (ready_in statements layers later space t) ≡ true
ready_still statements layers space known later moves t = stack_still layers (sight statements layers space) known later moves t.frames
