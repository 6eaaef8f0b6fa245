-- An edit that a step comes to fits the layers: the thread's space is there, and the space that is edited, which is a child of it.
use Rattle.std.proofs.Common.{◌≡◌, ℕ, ℤ, Bool, true, false, cond, if◌then◌else◌, List, [], ◌∷◌, refl, sym, ap, ◌∙◌, Option, Some, None, is_some, unwrap_or}
use Rattle.std.specs.Prelude.{option_map, pos, negsuc, nat_le, ◌&&◌}
use Rattle.std.specs.List.{find}
use Rattle.oz_base.specs.Lists.{list_eq}
use Rattle.oz_base.specs.declared.names.Ident.{Ident}
use Rattle.oz_language.specs.declared.kernel.Statement.{Statement}
use Rattle.oz_semantics.specs.Names.{is_child_of}
use Rattle.oz_semantics.specs.Values.{integer_in, is_procedure}
use Rattle.oz_semantics.specs.Store.{View, value_of}
use Rattle.oz_semantics.specs.Configurations.{is_of, layer_at, new_layer, frames_in, thread_at, stack_of, view, in_layer}
use Rattle.oz_semantics.specs.Sights.{Sight, States, state_in}
use Rattle.oz_semantics.specs.Answers.{Edit, Creates, Commits, Copies, Injects, TakesIn, Answer, Acts, Edits, RaisesKind, RaisesTerm, Operates, Widens, Rests, given, of_kind}
use Rattle.oz_semantics.specs.Operations.{once_decided, unless_merged, unless_ended, alternative_of, committed_in, injected_in, injects, operated, with_state, by_state}
use Rattle.oz_semantics.specs.Statements.{stack_answer}
use Rattle.oz_semantics.specs.Spaces.{sight, state_by, states_behind, states_of, answer_in}
use Rattle.oz_semantics.specs.declared.value.SpaceOperation.{SpaceOperation}
use Rattle.oz_semantics.specs.declared.value.SpaceOperation.TheVariants as operation
use Rattle.oz_semantics.specs.declared.value.Value.{Value}
use Rattle.oz_semantics.specs.declared.configuration.Frame.{Frame}
use Rattle.oz_semantics.specs.declared.configuration.Layer.{Layer}
use Rattle.oz_semantics.specs.declared.outcome.RaiseKind.TheVariants as raise
use Rattle.oz_semantics.specs.declared.outcome.State.{State}
use Rattle.oz_semantics.specs.declared.outcome.State.TheVariants as states
use Rattle.view_laws.proofs.AnswerLaws.{stack_holds}
use Rattle.edit_laws.specs.Edits.{HasChild}
use Rattle.settle_laws.proofs.ListEdits.{is_found_edit}

-- what an edit by a thread of the space is of
abbrev pub FitsIn : List Layer → List ℕ → Edit → Type 0
FitsIn layers parent (Creates procedure x) = is_some (layer_at layers parent) ≡ true
FitsIn layers parent (Commits child i) = HasChild layers parent child
FitsIn layers parent (Copies child x) = HasChild layers parent child
FitsIn layers parent (Injects child procedure) = HasChild layers parent child
FitsIn layers parent (TakesIn child x) = HasChild layers parent child

abbrev pub AnswerFits : List Layer → List ℕ → Answer → Type 0
AnswerFits layers parent (Edits edit) = FitsIn layers parent edit
AnswerFits layers parent (Acts act) = Unit {0}
AnswerFits layers parent (RaisesKind kind) = Unit {0}
AnswerFits layers parent (RaisesTerm x) = Unit {0}
AnswerFits layers parent (Operates op space x) = Unit {0}
AnswerFits layers parent (Widens ts) = Unit {0}
AnswerFits layers parent (Rests ready) = Unit {0}

-- An operation on a child that is there

module _ (layers : List Layer) (parent child : List ℕ) (has : HasChild layers parent child) where
  abbrev Fits : Answer → Type 0
  Fits = AnswerFits layers parent

  decided_fits : (st : State) (op : SpaceOperation) (x : Ident) (a : Answer) → Fits a → Fits (once_decided st (Operates op child x) a)
  decided_fits states.Running op x a h = tt
  decided_fits states.Suspended op x a h = tt
  decided_fits states.Failed op x a h = h
  decided_fits (states.Raised y) op x a h = h
  decided_fits states.Merged op x a h = h
  decided_fits (states.Alternatives n) op x a h = h
  decided_fits states.Solved op x a h = h
  decided_fits states.Stuck op x a h = h

  unmerged_fits : (st : State) (a : Answer) → Fits a → Fits (unless_merged st a)
  unmerged_fits states.Running a h = h
  unmerged_fits states.Suspended a h = h
  unmerged_fits states.Failed a h = h
  unmerged_fits (states.Raised y) a h = h
  unmerged_fits states.Merged a h = tt
  unmerged_fits (states.Alternatives n) a h = h
  unmerged_fits states.Solved a h = h
  unmerged_fits states.Stuck a h = h

  unended_fits : (st : State) (edit : Edit) → FitsIn layers parent edit → Fits (unless_ended st edit)
  unended_fits states.Running edit h = h
  unended_fits states.Suspended edit h = h
  unended_fits states.Failed edit h = tt
  unended_fits (states.Raised y) edit h = tt
  unended_fits states.Merged edit h = h
  unended_fits (states.Alternatives n) edit h = h
  unended_fits states.Solved edit h = h
  unended_fits states.Stuck edit h = h

  given_fits : (x : Ident) (o : Option Value) (go : Value → Answer) → ((v : Value) → Fits (go v)) → Fits (given x o go)
  given_fits x None go h = tt
  given_fits x (Some v) go h = h v

  alternative_fits : (n : ℕ) (i : ℤ) → Fits (alternative_of child n i)
  alternative_fits n (pos i) = by (nat_le 1 i && nat_le i n)
    where
      by : (b : Bool) → Fits (if b then Edits (Commits child i) else RaisesKind raise.SpaceChoice)
      by true = has
      by false = tt
  alternative_fits n (negsuc i) = tt

  committed_fits : (st : State) (o : Option ℤ) → Fits (of_kind o (committed_in child st))
  committed_fits st None = tt
  committed_fits states.Running (Some i) = tt
  committed_fits states.Suspended (Some i) = tt
  committed_fits states.Failed (Some i) = tt
  committed_fits (states.Raised y) (Some i) = tt
  committed_fits states.Merged (Some i) = tt
  committed_fits (states.Alternatives n) (Some i) = alternative_fits n i
  committed_fits states.Solved (Some i) = tt
  committed_fits states.Stuck (Some i) = tt

  injected_fits : (p : Ident) (st : State) → Fits (injected_in child p st)
  injected_fits p states.Running = has
  injected_fits p states.Suspended = has
  injected_fits p states.Failed = tt
  injected_fits p (states.Raised y) = tt
  injected_fits p states.Merged = has
  injected_fits p (states.Alternatives n) = has
  injected_fits p states.Solved = has
  injected_fits p states.Stuck = has

  injects_fits : (p : Ident) (st : State) (v : Value) → Fits (injects child p st v)
  injects_fits p st v = by (is_procedure v)
    where
      by : (b : Bool) → Fits (if b then injected_in child p st else RaisesKind raise.BadKind)
      by true = injected_fits p st
      by false = tt

  operated_fits : (s : Sight) (inner : View) (op : SpaceOperation) (x : Ident) (st : State) → Fits (operated s inner op child x st)
  operated_fits s inner operation.Ask x st = decided_fits st operation.Ask x (Acts _) tt
  operated_fits s inner operation.Commit x st =
      unmerged_fits st _
      (given_fits x (value_of s.view x) (λ v. once_decided st (Operates operation.Commit child x) (of_kind (integer_in v) (committed_in child st)))
      (λ v. decided_fits st operation.Commit x (of_kind (integer_in v) (committed_in child st)) (committed_fits st (integer_in v))))
  operated_fits s inner operation.Clone x st = unmerged_fits st _ (decided_fits st operation.Clone x (unless_ended st (Copies child x)) (unended_fits st (Copies child x) has))
  operated_fits s inner operation.Inject x st = unmerged_fits st _ (given_fits x (value_of s.view x) (injects child x st) (injects_fits x st))
  operated_fits s inner operation.Merge x st = unmerged_fits st _ (decided_fits st operation.Merge x (unless_ended st (TakesIn child x)) (unended_fits st (TakesIn child x) has))

-- A space has a state just where it is there

state_there : (statements : List Statement) (layers ls : List Layer) (space : List ℕ) → is_some (state_in (states_behind statements layers ls) space) ≡ is_some (layer_at ls space)
state_there statements layers [] space = refl
state_there statements layers (l ∷ ls) space = by (states_behind statements layers ls) (list_eq l.space space) (state_there statements layers ls space)
  where
    by : (rest : States) (b : Bool) → is_some (state_in rest space) ≡ is_some (layer_at ls space)
        → is_some (option_map (λ (s : List ℕ × State). s.1) (cond b (Some (l.space, state_by statements layers rest l l.status)) (find (λ (s : List ℕ × State). list_eq s.0 space) rest)))
        ≡ is_some (cond b (Some l) (layer_at ls space))
    by rest true e = refl
    by rest false e = e

-- Answers

module _ (statements : List Statement) (layers : List Layer) (parent : List ℕ) (there : is_some (layer_at layers parent) ≡ true) where
  abbrev known : States
  known = states_of statements layers

  abbrev own : Sight
  own = sight statements layers parent

  -- by the states of the spaces
  abbrev FitsOnce : Answer → Type 0
  FitsOnce a = AnswerFits layers parent (by_state layers own known a)

  operation_fits : (op : SpaceOperation) (child : List ℕ) (x : Ident) → is_child_of parent child ≡ true → FitsOnce (Operates op child x)
  operation_fits op child x below = by (state_in known child) refl
    where
      by : (o : Option State) → state_in known child ≡ o → AnswerFits layers parent (with_state o (operated own (view layers child) op child x))
      by None e = tt
      by (Some st) e =
          operated_fits layers parent child (record { below = below; parent_there = there; child_there = sym (state_there statements layers layers child) ∙ ap is_some e }) own (view layers child) op x st

  stack_fits : (frames : List Frame) → FitsOnce (stack_answer own frames)
  stack_fits frames = stack_holds own FitsOnce (λ act. tt) (λ procedure x. there) (λ kind. tt) (λ x. tt) (λ ts. tt) (λ ready. tt) (λ op child x y told below. operation_fits op child x below) frames

-- what a thread answers; one whose space is not there has no stack
pub answer_fits : (statements : List Statement) (layers : List Layer) (id : Ident)
    → AnswerFits layers id.space (answer_in statements layers (states_of statements layers) id.space (stack_of layers id))
answer_fits statements layers id = by (layer_at layers id.space) refl
  where
    by : (o : Option Layer) → layer_at layers id.space ≡ o
        → AnswerFits layers id.space (answer_in statements layers (states_of statements layers) id.space (frames_in (thread_at (unwrap_or o (new_layer id.space)).threads id.number)))
    by None e = tt
    by (Some l) e = stack_fits statements layers id.space (ap is_some e) (frames_in (thread_at l.threads id.number))

-- An edit fits still where a layer keeps its name

child_kept : (space : List ℕ) (f : Layer → Layer) (layers : List Layer) (parent child : List ℕ) → ((l : Layer) → (f l).space ≡ l.space) → HasChild layers parent child → HasChild (in_layer space f layers) parent child
child_kept space f layers parent child named h = record {
  below = h.below;
  parent_there = is_found_edit (is_of parent) (is_of space) f (λ l. ap (λ s. list_eq s parent) (named l)) layers ∙ h.parent_there;
  child_there = is_found_edit (is_of child) (is_of space) f (λ l. ap (λ s. list_eq s child) (named l)) layers ∙ h.child_there;
}

pub fits_kept : (space : List ℕ) (f : Layer → Layer) (layers : List Layer) (parent : List ℕ) (edit : Edit) → ((l : Layer) → (f l).space ≡ l.space) → FitsIn layers parent edit
    → FitsIn (in_layer space f layers) parent edit
fits_kept space f layers parent (Creates procedure x) named h = is_found_edit (is_of parent) (is_of space) f (λ l. ap (λ s. list_eq s parent) (named l)) layers ∙ h
fits_kept space f layers parent (Commits child i) named h = child_kept space f layers parent child named h
fits_kept space f layers parent (Copies child x) named h = child_kept space f layers parent child named h
fits_kept space f layers parent (Injects child procedure) named h = child_kept space f layers parent child named h
fits_kept space f layers parent (TakesIn child x) named h = child_kept space f layers parent child named h
