-- A child that goes on with an alternative.
use Rattle.std.proofs.Common.{◌≡◌, ℕ, nat_eq, Bool, true, false, List, [], ◌∷◌, ◌++◌, drop, refl, sym, ap, subst, ◌∙◌, Some}
use Rattle.std.specs.Prelude.{position, Result, Ok, Err, IfOk}
use Rattle.std.specs.declared.alloc.AllocError.{AllocError}
use Rattle.oz_base.specs.declared.names.Ident.{Ident}
use Rattle.oz_language.specs.declared.kernel.Statement.{Statement}
use Rattle.oz_semantics.specs.Store.{View, is_consistent}
use Rattle.oz_semantics.specs.Answers.{Edit, Commits}
use Rattle.oz_semantics.specs.Configurations.{is_of, view, in_layer, with_frames, telling}
use Rattle.oz_semantics.specs.Edits.{committing, committed}
use Rattle.oz_semantics.specs.Names.{is_below, is_properly_below, is_child_of}
use Rattle.oz_semantics.specs.Spaces.{sight}
use Rattle.oz_semantics.specs.Steps.{without_top}
use Rattle.oz_semantics.specs.declared.configuration.Layer.{Layer}
use Rattle.oz_semantics.specs.declared.value.Tell.{Tell}
use Rattle.settle_laws.specs.Settles.{Settles}
use Rattle.settle_laws.proofs.EditLaws.{pop_view, are_quiet}
use Rattle.settle_laws.proofs.ListEdits.{edits_apart}
use Rattle.settle_laws.proofs.SettleLaws.{quiet_settles}
use Rattle.edit_laws.specs.Edits.{HasChild}
use Rattle.edit_laws.proofs.NameLaws.{child_of}
use Rattle.edit_laws.proofs.ViewLaws.{child_above}
use Rattle.oz_laws.proofs.SameLaws.{eq-refl}
use Rattle.view_laws.proofs.Members.{and_both, not_both}
use Rattle.view_laws.proofs.NameLaws.{below_itself, properly, properly_by, properly_trans}
use Rattle.space_core.specs.Levels.{OfLayer}
use Rattle.space_core.specs.SpaceEdits.{IsEdited, IsEditedBy}
use Rattle.space_core.proofs.SpaceEditLaws.{untold, untold_consistent, child_apart}

below_append : (s t : List ℕ) → is_below s (s ++ t) ≡ true
below_append [] t = refl
below_append (n ∷ s) t = and_both (nat_eq n n) (is_below s (s ++ t)) (eq-refl n) (below_append s t)

-- a child is properly below its parent
child_properly : (parent child : List ℕ) → is_child_of parent child ≡ true → is_properly_below parent child ≡ true
child_properly parent child e =
    let c = child_of parent child e in
    properly_by parent child (subst (λ (s : List ℕ). is_below parent s ≡ true) (sym c.1) (below_append parent (c.0 ∷ [])))
    (λ same. not_both _ (below_itself child) (subst (λ (s : List ℕ). is_below child s ≡ false) same (child_above parent child e)))

module _ (statements : List Statement) (id : Ident) (old : List Layer) (child : List ℕ) (i : ℕ) (has : HasChild old id.space child) where
  -- the thread's own statement is taken off before or after that
  popped_after : committed statements child i (without_top id old) ≡ without_top id (committed statements child i old)
  popped_after =
      ap (λ (v : View). in_layer child (committing (record { statements = statements; space = child; view = v }) i) (without_top id old)) (pop_view id old child)
      ∙ edits_apart (is_of child) (is_of id.space) (committing (sight statements old child) i) (with_frames id.number (λ frames. drop 1 frames)) (λ l. refl) (λ l. refl)
      (child_apart id old has.parent_there child has) old

  -- what fails is below the child, and so below the space
  settles_above : (before after : List Layer) → Settles child before after → Settles id.space before after
  settles_above before after h = record {
    below = λ t k. properly_trans id.space child t (child_properly id.space child has.below) (properly child t (h.below t k)).0;
    left = h.left;
  }

  pub commit_done : (place : ℕ) → Some place ≡ position (is_of id.space) old → (store : List Tell) → OfLayer old place (λ l. store ≡ view old l.space) → is_consistent store ≡ true → (chosen new : List Layer)
      → Settles child (committed statements child i old) chosen → new ≡ without_top id chosen → IsEditedBy statements id (Commits child i) old new true
  commit_done place p store sees consistent chosen new settles popped =
      let pop : Layer → Layer = with_frames id.number (λ frames. drop 1 frames) in
      let made : committed statements child i (in_layer id.space (telling []) (without_top id old)) ≡ without_top id (committed statements child i old)
      = ap (committed statements child i) (untold id old has.parent_there) ∙ popped_after in (
        untold_consistent id old has.parent_there place p store sees consistent,
        subst (λ (ls : List Layer). Settles id.space ls new) (sym made)
            (subst (Settles id.space (without_top id (committed statements child i old))) (sym popped)
            (quiet_settles pop id.space (committed statements child i old) chosen (are_quiet.frames id.number (λ frames. drop 1 frames)) (settles_above (committed statements child i old) chosen settles))),
      )

-- what holds whatever the statements are holds of these
pub by_these : (statements : List Statement) (id : Ident) (edit : Edit) (old new : List Layer) (r : Result Bool AllocError) → IfOk r (IsEdited id edit old new) → IfOk r (IsEditedBy statements id edit old new)
by_these statements id edit old new (Ok done) h = h statements
by_these statements id edit old new (Err fault) h = h
