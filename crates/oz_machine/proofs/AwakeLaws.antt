-- Threads that wait for no variable: where they alone changed, and told nothing, no by-need computation is needed.
use Rattle.std.proofs.Common.{◌≡◌, ◌∙◌, inl, inr, ℕ, Bool, true, false, not, ◌||◌, List, [], ◌∷◌, Option, Some, None, refl, ap}
use Rattle.std.specs.Prelude.{option_to_list}
use Rattle.std.specs.List.{list_any, list_all}
use Rattle.oz_base.specs.Lists.{first, holds_of, is_empty}
use Rattle.oz_base.specs.declared.names.Ident.{Ident}
use Rattle.oz_language.specs.declared.kernel.Statement.{Statement}
use Rattle.oz_semantics.specs.Configurations.{layer_of, thread_at, frames_in, stack_of, in_layer, with_frames, without_terminated}
use Rattle.oz_semantics.specs.Sights.{Sight, States, Readiness, Waits, can_step, waits_of}
use Rattle.oz_semantics.specs.Statements.{stack_answer}
use Rattle.oz_semantics.specs.Operations.{by_state}
use Rattle.oz_semantics.specs.Readiness.{answer_ready}
use Rattle.oz_semantics.specs.Spaces.{sight, states_of, thread_ready}
use Rattle.oz_semantics.specs.Changes.{Change, changed_all}
use Rattle.oz_semantics.specs.Steps.{without_top}
use Rattle.oz_semantics.specs.declared.configuration.Frame.{Frame}
use Rattle.oz_semantics.specs.declared.configuration.Thread.{Thread}
use Rattle.oz_semantics.specs.declared.configuration.Layer.{Layer}
use Rattle.oz_laws.proofs.SameLaws.{and-left, and-right}
use Rattle.view_laws.specs.Needs.{NoneNeeded}
use Rattle.view_laws.proofs.Members.{decide}
use Rattle.need_laws.specs.Needs.{has_triggers}
use Rattle.need_laws.proofs.RoundLaws.{none_there}
use Rattle.unneeded_laws.specs.Unneeded.{adds_trigger, is_waiting, waits_by}
use Rattle.unneeded_laws.proofs.UnneededLaws.{able_waits_not, changes_need_none, stack_needs_none}
use Rattle.quiet_laws.proofs.AwakeLaws.{able_ready, able_there}
use Rattle.oz_machine.specs.Quiet.{top_steps, AreSpaceless, IsHead, names_in, news_of}

-- a thread that can step waits for none
pub able_awake : (statements : List Statement) (layers : List Layer) (id : Ident) → top_steps statements layers id ≡ true → is_waiting statements layers id ≡ false
able_awake statements layers id e =
    let there = able_there (sight statements layers id.space) (thread_at (layer_of layers id.space).threads id.number) e in
    able_waits_not statements layers id
    (ap (holds_of (λ (t : Thread). can_step (thread_ready statements layers id.space t))) there.1 ∙ able_ready statements layers id.space there.0 there.2)

no_statement : (layers : List Layer) (s : Sight) (known : States) (frames : List Frame) → None ≡ first frames → answer_ready (by_state layers s known (stack_answer s frames)) ≡ Waits []
no_statement layers s known [] e = refl
no_statement layers s known (frame ∷ frames) e = absurd (cc)

-- nor does one that has ended
pub ended_awake : (statements : List Statement) (layers : List Layer) (id : Ident) → None ≡ first (stack_of layers id) → is_waiting statements layers id ≡ false
ended_awake statements layers id e = by (thread_at (layer_of layers id.space).threads id.number) e
  where
    by : (o : Option Thread) → None ≡ first (frames_in o) → not (is_empty (waits_by (thread_ready statements layers id.space) o)) ≡ false
    by None k = refl
    by (Some t) k = ap (λ (r : Readiness). not (is_empty (waits_of r))) (no_statement layers (sight statements layers id.space) (states_of statements layers) t.frames k)

-- so none does of threads of which each can step
pub all_awake : (statements : List Statement) (layers : List Layer) (ids : List Ident) → list_all (top_steps statements layers) ids ≡ true → list_any (is_waiting statements layers) ids ≡ false
all_awake statements layers [] e = refl
all_awake statements layers (id ∷ ids) e = both (is_waiting statements layers id) (list_any (is_waiting statements layers) ids) (able_awake statements layers id (and-left _ _ e)) (all_awake statements layers ids (and-right _ _ e))
  where
    both : (a b : Bool) → a ≡ false → b ≡ false → (a || b) ≡ false
    both true b h k = h
    both false b h k = k

-- after changes
pub quiet_content : (statements : List Statement) (id : Ident) (layers old new : List Layer) (queue : List Ident) (shown : List (List ℕ)) (changes : List Change) (started : Option Ident)
    → IsHead statements id layers queue shown → old ≡ changed_all id changes (without_top id layers) → names_in id.space (news_of (layer_of layers id.space) changes) ≡ option_to_list started
    → list_any adds_trigger changes ≡ false → new ≡ in_layer id.space without_terminated old → list_any (is_waiting statements new) (id ∷ option_to_list started) ≡ false → NoneNeeded statements new
quiet_content statements id layers old new queue shown changes started head is names quiet left none =
    changes_need_none statements (record { layers = layers; queue = queue; shown = shown }) id queue changes head quiet new (left ∙ ap (in_layer id.space without_terminated) is)
    (ap (λ (ids : List Ident). list_any (is_waiting statements new) (id ∷ ids)) names ∙ none)

-- and where the thread goes on with another stack
pub unwound_content : (statements : List Statement) (id : Ident) (layers old new : List Layer) (queue : List Ident) (shown : List (List ℕ)) (frames : List Frame)
    → IsHead statements id layers queue shown → old ≡ in_layer id.space (with_frames id.number (λ rest. frames)) (without_top id layers)
    → new ≡ in_layer id.space without_terminated old → list_any (is_waiting statements new) (id ∷ []) ≡ false → NoneNeeded statements new
unwound_content statements id layers old new queue shown frames head is left none =
    stack_needs_none statements (record { layers = layers; queue = queue; shown = shown }) id queue frames head new (left ∙ ap (in_layer id.space without_terminated) is)
    (alone (is_waiting statements new id) none)
  where
    alone : (b : Bool) → (b || false) ≡ false → b ≡ false
    alone true k = k
    alone false k = refl

-- where there is no by-need computation, none is needed either
pub spaceless_content : (statements : List Statement) (layers : List Layer) (ids : List Ident) → AreSpaceless statements layers ids → (list_any (is_waiting statements layers) ids ≡ false → NoneNeeded statements layers)
    → NoneNeeded statements layers
spaceless_content statements layers ids plain content = elim (decide (has_triggers layers)) [
  | inl e ↦ content (plain.waits e)
  | inr e ↦ none_there statements layers e
]
