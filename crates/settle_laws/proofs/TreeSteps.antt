-- Steps leave a tree in which nothing is inconsistent.
use Rattle.std.proofs.Common.{◌≡◌, inl, inr, ℕ, ◌≤◌, Bool, true, false, if◌then◌else◌, List, [], ◌∷◌, refl, sym, ap, subst, ◌∙◌, arith, Option, None}
use Rattle.std.proofs.lemmas.Bool.{false≢true}
use Rattle.oz_base.specs.declared.names.Ident.{Ident}
use Rattle.oz_language.specs.declared.kernel.Statement.{Statement}
use Rattle.oz_language.specs.declared.kernel.Kernel.{Kernel}
use Rattle.oz_semantics.specs.Names.{is_top}
use Rattle.oz_semantics.specs.Configurations.{layer_at, layer_of, spawning, frames_of}
use Rattle.oz_semantics.specs.Spaces.{sight}
use Rattle.oz_semantics.specs.Answers.{Edit, Creates, Commits, Copies, Injects, TakesIn}
use Rattle.oz_semantics.specs.Edits.{committing}
use Rattle.oz_semantics.specs.Exceptions.{raise_term, with_term}
use Rattle.oz_semantics.specs.Triggers.{triggered}
use Rattle.oz_semantics.specs.Settling.{Turned, top_is_inconsistent, top_failed, with_raised, requeued, without_inconsistent, runnable, queue_after, settled}
use Rattle.oz_semantics.specs.Steps.{edited, stepped}
use Rattle.oz_semantics.specs.Schedule.{turn}
use Rattle.oz_semantics.specs.Runs.{left_by, opening_environment, top_layer}
use Rattle.oz_semantics.specs.declared.configuration.Layer.{Layer}
use Rattle.oz_semantics.specs.declared.configuration.Configuration.{Configuration}
use Rattle.oz_semantics.specs.declared.outcome.RaiseKind.TheVariants.{FailureTop}
use Rattle.oz_semantics.specs.declared.outcome.Stepped.TheVariants.{Moved, TopEnded, Quiescent}
use Rattle.oz_laws.proofs.SameLaws.{In-from_contains}
use Rattle.view_laws.specs.Trees.{IsTree}
use Rattle.view_laws.specs.Steps.{IsSound}
use Rattle.view_laws.proofs.NeedLaws.{nothing_fires}
use Rattle.need_laws.proofs.RoundLaws.{none_there}
use Rattle.view_laws.proofs.TreeLaws.{change_tree, end_tree, tree_created}
use Rattle.edit_laws.proofs.GraftLaws.{there_of}
use Rattle.edit_laws.proofs.CopyLaws.{injected_tree, copied_tree}
use Rattle.edit_laws.proofs.MergeLaws.{taken_tree}
use Rattle.settle_laws.specs.Turns.{opening_layers}
use Rattle.settle_laws.specs.Sound.{StepTree, StepSound, TurnTree, TurnSound, OpeningTree, OpeningLeft}
use Rattle.settle_laws.proofs.SettleLaws.{settled_by}
use Rattle.settle_laws.proofs.SoundLaws.{left_tree, left_sound, begun_good, sound_settles}
use Rattle.settle_laws.proofs.OpeningLaws.{opening_sound}
use Rattle.settle_laws.proofs.FitLaws.{FitsIn}
use Rattle.settle_laws.proofs.StepLaws.{step_holds, turn_holds}

-- a tree is left, and where the machine moved nothing is inconsistent
abbrev LeavesTree : Turned → Type 0
LeavesTree (Moved cost, d) = IsTree d.layers × IsSound d.layers
LeavesTree (TopEnded x cost, d) = IsTree d.layers
LeavesTree (Quiescent, d) = IsTree d.layers

failed_top : (layers : List Layer) → IsTree layers → IsTree (with_raised FailureTop [] layers)
failed_top layers tree = change_tree [] (with_term (raise_term FailureTop)) layers (λ l e. (refl, omega arith)) tree

settled_leaves : (statements : List Statement) (mover : Option Ident) (cost : ℕ) (c : Configuration) → IsTree c.layers → LeavesTree (settled statements mover cost c)
settled_leaves statements mover cost c tree = by (top_is_inconsistent c.layers)
  where
    by : (b : Bool) → LeavesTree (if b then top_failed cost c else (Moved cost, requeued statements mover c (triggered statements (without_inconsistent c.layers))))
    by true = failed_top c.layers tree
    by false = begun_good statements (without_inconsistent c.layers) (left_tree c.layers tree) (left_sound c.layers tree)

-- the edits of a tree that fit it
edited_tree : (statements : List Statement) (parent : List ℕ) (edit : Edit) (layers : List Layer) → FitsIn layers parent edit → IsTree layers → IsTree (edited statements parent edit layers)
edited_tree statements parent (Creates procedure x) layers fits tree =
    tree_created parent procedure layers (layer_of layers parent) tree (there_of (layer_at layers parent) parent fits)
edited_tree statements parent (Commits child i) layers fits tree = change_tree child (committing (sight statements layers child) i) layers (λ l e. (refl, omega arith)) tree
edited_tree statements parent (Copies child x) layers fits tree = copied_tree parent child layers fits tree
edited_tree statements parent (Injects child procedure) layers fits tree = injected_tree child procedure layers tree
edited_tree statements parent (TakesIn child x) layers fits tree = taken_tree parent child layers fits tree

step_leaves : (k : Kernel) (id : Ident) (c : Configuration) → IsTree c.layers → LeavesTree (stepped k id c)
step_leaves k id c tree =
    step_holds IsTree LeavesTree k (λ space f layers h good. change_tree space f layers (λ l e. h l) good) (edited_tree k.statements) (λ space how layers h good. end_tree space how layers h good)
    (λ mover cost d good h. settled_leaves k.statements mover cost d good) (λ x layers d good. left_tree layers good) (λ d good. failed_top d.layers good) id c tree

tree_of : (t : Turned) → LeavesTree t → IsTree t.1.layers
tree_of (Moved cost, d) h = h.0
tree_of (TopEnded x cost, d) h = h
tree_of (Quiescent, d) h = h

pub step_tree : StepTree
step_tree k id c tree = tree_of (stepped k id c) (step_leaves k id c tree)

pub step_sound : StepSound
step_sound k id c n d tree e = (subst LeavesTree e (step_leaves k id c tree)).1

turn_leaves : (k : Kernel) (c : Configuration) → IsTree c.layers → LeavesTree (turn k c)
turn_leaves k c tree =
    turn_holds IsTree LeavesTree k (λ space f layers h good. change_tree space f layers (λ l e. h l) good) (edited_tree k.statements) (λ space how layers h good. end_tree space how layers h good)
    (λ mover cost d good h. settled_leaves k.statements mover cost d good) (λ x layers d good. left_tree layers good) (λ d good. failed_top d.layers good) (λ d good. good) c tree

pub turn_tree : TurnTree
turn_tree k c tree = tree_of (turn k c) (turn_leaves k c tree)

pub turn_sound : TurnSound
turn_sound k c n d tree e = (subst LeavesTree e (turn_leaves k c tree)).1

-- Where a program opens

alone_tree : (l : Layer) → is_top l.space ≡ true → 1 ≤ l.next.child → IsTree (l ∷ [])
alone_tree l top begins = record {
  ordered = refl;
  begins = λ m c. elim (In-from_contains (l ∷ []) m c) [ inl e ↦ subst (λ (n : Layer). 1 ≤ n.next.child) e begins | inr h ↦ elim h [ ] ];
  given = λ m c inner. elim (In-from_contains (l ∷ []) m c) [
    | inl e ↦ absurd (false≢true (sym inner ∙ ap (λ (n : Layer). is_top n.space) (sym e) ∙ top))
    | inr h ↦ elim h [ ]
  ];
}

pub opening_tree : OpeningTree
opening_tree k = alone_tree (spawning (frames_of opening_environment k.body) top_layer) refl (omega arith)

pub opening_left : OpeningLeft
opening_left k =
    ap (λ (t : Turned). left_by t) (settled_by k.statements None 0 [] (opening_layers k) (opening_layers k) [] [] (sound_settles [] (opening_layers k) (opening_sound k)))
    ∙ ap (λ (ls : List Layer). record { layers = ls; queue = queue_after (runnable k.statements ls) None []; shown = [] })
    (nothing_fires k.statements (opening_layers k) (none_there k.statements (opening_layers k) refl))
