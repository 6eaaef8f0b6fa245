-- Edits of spaces that are not the top: they leave it as it was, and what it sees.
use Rattle.std.proofs.Common.{◌≡◌, inl, inr, ℕ, true, false, not, ◌&&◌, List, [], ◌∷◌, refl, sym, ap, subst, ◌∙◌, Option, Some, is_some, unwrap_or, filter, fold}
use Rattle.std.specs.List.{list_any}
use Rattle.std.proofs.lemmas.Bool.{false≢true}
use Rattle.oz_base.specs.Lists.{list_eq}
use Rattle.oz_language.specs.declared.kernel.Statement.{Statement}
use Rattle.oz_semantics.specs.Names.{is_top, is_below, is_properly_below}
use Rattle.oz_semantics.specs.Store.{View, is_consistent}
use Rattle.oz_semantics.specs.Configurations.{is_of, layer_at, layer_of, view, in_layer, ending, failed, new_layer}
use Rattle.oz_semantics.specs.Spaces.{states_of, waited_in}
use Rattle.oz_semantics.specs.Triggers.{has_needed, triggered}
use Rattle.oz_semantics.specs.Settling.{may_fail, is_inconsistent, inconsistent_spaces, failing, without_inconsistent, top_is_inconsistent}
use Rattle.oz_semantics.specs.declared.configuration.Layer.{Layer}
use Rattle.oz_laws.proofs.SameLaws.{In, In-from_contains, contains-from_In, and-left, and-right}
use Rattle.view_laws.specs.Sights.{IsEnd}
use Rattle.view_laws.specs.Steps.{IsSound}
use Rattle.view_laws.specs.Needs.{NoneNeeded}
use Rattle.view_laws.specs.Spaceless.{gives_space, knows_space}
use Rattle.view_laws.proofs.Members.{decide, not_both, and_both, some_of, by_some}
use Rattle.view_laws.proofs.ListLaws.{filter_in, in_map, found_in}
use Rattle.view_laws.proofs.NameLaws.{equal_names}
use Rattle.view_laws.proofs.TreeLaws.{same_named_layer}
use Rattle.view_laws.proofs.SightLaws.{space_of, change_unseen, end_unseen}
use Rattle.need_laws.proofs.FireLaws.{all_fired}
use Rattle.need_laws.proofs.AfterLaws.{fired_view}
use Rattle.need_laws.proofs.RoundLaws.{none_in, needed_same, unneeded_stays}
use Rattle.settle_laws.proofs.ListEdits.{find_edit, find_filter}
use Rattle.turn_laws.specs.Orderly.{KeepsNumbered, AreOrderly}
use Rattle.turn_laws.proofs.NumberedLaws.{edits_numbered}
use Rattle.turn_laws.proofs.OrderlyLaws.{IsEdit, edit_orderly, end_orderly, fired_orderly, is_there}
use Rattle.top_laws.proofs.SeenLaws.{spaceless_top, waited_same}

-- the layers `after` are orderly, and have the top of those before, which sees what it saw
pub record LeavesTop (before after : List Layer) : Type 0 where
  pub good : AreOrderly after
  pub same : layer_at after [] ≡ layer_at before []
  pub seen : view after [] ≡ view before []

-- Names

pub is_empty_name : (s : List ℕ) → is_top s ≡ true → s ≡ []
is_empty_name [] e = refl
is_empty_name (n ∷ s) e = absurd (false≢true e)

pub not_named : (s : List ℕ) → is_top s ≡ false → list_eq s [] ≡ false
not_named [] e = absurd (false≢true (sym e))
not_named (n ∷ s) e = refl

not_above : (s : List ℕ) → is_top s ≡ false → is_below s [] ≡ false
not_above [] e = absurd (false≢true (sym e))
not_above (n ∷ s) e = refl

pub never_properly : (s : List ℕ) → is_properly_below s [] ≡ false
never_properly [] = refl
never_properly (n ∷ s) = refl

-- One edit

module _ (space : List ℕ) (inner : is_top space ≡ false) where
  -- a layer of the space is not that of the top
  pub apart : (l : Layer) → is_of space l ≡ true → is_of [] l ≡ false
  apart l e = ap (λ s. list_eq s []) (equal_names l.space space e) ∙ not_named space inner

  pub edit_leaves : (f : Layer → Layer) (before layers : List Layer) → IsEdit f → LeavesTop before layers → LeavesTop before (in_layer space f layers)
  edit_leaves f before layers edit leaves = record {
    good = edit_orderly space f layers edit leaves.good;
    same = find_edit (is_of []) (is_of space) f (λ l. ap (λ s. list_eq s []) (edit.space l)) apart layers ∙ leaves.same;
    seen = change_unseen f layers space [] (λ l e. edit.space l) (not_above space inner) ∙ leaves.seen;
  }

  top_left : (l : Layer) → is_of [] l ≡ true → not (is_properly_below space l.space) ≡ true
  top_left l e = ap (λ s. not (is_properly_below space s)) (equal_names l.space [] e) ∙ ap not (never_properly space)

  pub end_leaves : (how : Layer → Layer) (before layers : List Layer) → IsEnd how → KeepsNumbered how → LeavesTop before layers → LeavesTop before (ending space how layers)
  end_leaves how before layers end keeps leaves = record {
    good = end_orderly space how layers end keeps leaves.good;
    same =
        find_edit (is_of []) (is_of space) how (λ l. ap (λ s. list_eq s []) (end l).0) apart (filter (λ (l : Layer). not (is_properly_below space l.space)) layers)
        ∙ find_filter (is_of []) (λ (l : Layer). not (is_properly_below space l.space)) top_left layers ∙ leaves.same;
    seen = end_unseen layers space [] how end (not_above space inner) ∙ leaves.seen;
  }

-- Spaces that see what is inconsistent

fold_leaves : (ts : List (List ℕ)) (before layers : List Layer) → ((t : List ℕ) → In t ts → is_top t ≡ false) → LeavesTop before layers → LeavesTop before (fold failing layers ts)
fold_leaves [] before layers inner leaves = leaves
fold_leaves (t ∷ ts) before layers inner leaves =
    fold_leaves ts before (failing layers t) (λ s i. inner s (inr i)) (end_leaves t (inner t (inl refl)) failed before layers (λ l. (refl, refl)) edits_numbered.failure leaves)

-- where the top does not, it is none of them
inner_fail : (layers : List Layer) → top_is_inconsistent layers ≡ false → (t : List ℕ) → In t (inconsistent_spaces layers) → is_top t ≡ false
inner_fail layers fits t i = elim (decide (is_top t)) [
  | inl top ↦ (let l = in_map (λ (l : Layer). l.space) (filter (is_inconsistent layers) layers) t i in
      let bad = filter_in (is_inconsistent layers) layers l.0 l.1 in
      absurd (not_both _
      (by_some (λ (m : Layer). is_top m.space && is_inconsistent layers m) layers l.0 (contains-from_In layers l.0 bad.0) (and_both (is_top l.0.space) (is_inconsistent layers l.0) (ap is_top l.2 ∙ top) bad.1))
      fits))
  | inr e ↦ e
]

pub left_leaves : (before layers : List Layer) → top_is_inconsistent layers ≡ false → LeavesTop before layers → LeavesTop before (without_inconsistent layers)
left_leaves before layers fits leaves = fold_leaves (inconsistent_spaces layers) before layers (inner_fail layers fits) leaves

-- What is needed begins

-- the top was told of no space, and no trigger of it is needed
pub record TopUnneeded (statements : List Statement) (layers : List Layer) : Type 0 where
  pub plain : knows_space (layer_of layers []) ≡ false
  pub unneeded : has_needed statements layers (layer_of layers []) ≡ false

pub top_unneeded : (statements : List Statement) (layers : List Layer) → is_some (layer_at layers []) ≡ true → NoneNeeded statements layers
    → knows_space (layer_of layers []) ≡ false → TopUnneeded statements layers
top_unneeded statements layers there content plain = record {
  plain = plain;
  unneeded =
      none_in (has_needed statements layers) layers content (layer_of layers []) (found_in (is_of []) (λ (m : Layer). m) layers (layer_of layers []) (is_there layers [] there)).0;
}

-- a top that was left was told of no space where it was told of none before
pub left_spaceless : (before layers : List Layer) → LeavesTop before layers → knows_space (layer_of before []) ≡ false → list_any gives_space (view before []) ≡ false
left_spaceless before layers leaves plain =
    ap (list_any gives_space) (sym leaves.seen)
    ∙ spaceless_top layers leaves.good (ap (λ (o : Option Layer). knows_space (unwrap_or o (new_layer []))) leaves.same ∙ plain)

-- then it stays as it is
pub begun_leaves : (statements : List Statement) (before layers : List Layer) → TopUnneeded statements before → LeavesTop before layers → LeavesTop before (triggered statements layers)
begun_leaves statements before layers unneeded leaves =
    let fires = all_fired statements layers in
    let at : layer_at layers [] ≡ Some (layer_of layers []) = is_there layers [] leaves.good.top in
    let name : (layer_of layers []).space ≡ [] = space_of layers [] (layer_of layers []) at in
    let own : layer_of layers [] ≡ layer_of before [] = ap (λ (o : Option Layer). unwrap_or o (new_layer [])) leaves.same in
    let seen : view layers (layer_of layers []).space ≡ view before (layer_of layers []).space = subst (λ s. view layers s ≡ view before s) (sym name) leaves.seen in
    let waited : waited_in statements layers (states_of statements layers) (layer_of layers []) ≡ waited_in statements before (states_of statements before) (layer_of layers []) =
    waited_same statements before layers (layer_of layers []) name leaves.seen (left_spaceless before layers leaves unneeded.plain) in
    let still : has_needed statements layers (layer_of layers []) ≡ false =
    needed_same statements before layers (layer_of layers []) seen waited ∙ ap (has_needed statements before) own ∙ unneeded.unneeded in
    record {
      good = fired_orderly layers (triggered statements layers) fires leaves.good;
      same = unneeded_stays statements layers [] (layer_of layers []) at still ∙ sym at ∙ leaves.same;
      seen = fired_view layers (triggered statements layers) [] fires ∙ leaves.seen;
    }

-- the top that was left is not inconsistent where no space was
module _ (before layers : List Layer) (sound : IsSound before) (leaves : LeavesTop before layers) where
  -- it is the top's layer
  own_top : (l : Layer) → In l layers → is_top l.space ≡ true → layer_at before [] ≡ Some l
  own_top l i top =
      let at : layer_at layers [] ≡ Some (layer_of layers []) = is_there layers [] leaves.good.top in
      let found = found_in (is_of []) (λ (m : Layer). m) layers (layer_of layers []) at in
      let own : layer_of layers [] ≡ l =
      same_named_layer layers (layer_of layers []) l leaves.good.tree.ordered found.0 i (equal_names (layer_of layers []).space [] found.1 ∙ sym (is_empty_name l.space top)) in
      sym leaves.same ∙ at ∙ ap (λ (m : Layer). Some m) own

  own_fits : (l : Layer) → In l layers → is_top l.space ≡ true → is_inconsistent layers l ≡ false
  own_fits l i top =
      let name = is_empty_name l.space top in
      ap (λ s. may_fail l.status && not (is_consistent (view layers s))) name
      ∙ ap (λ (v : View). may_fail l.status && not (is_consistent v)) leaves.seen
      ∙ ap (λ s. may_fail l.status && not (is_consistent (view before s))) (sym name)
      ∙ sound l (contains-from_In before l (found_in (is_of []) (λ (m : Layer). m) before l (own_top l i top)).0)

  pub top_fits : top_is_inconsistent layers ≡ false
  top_fits = elim (decide (top_is_inconsistent layers)) [
    | inl e ↦ (let l = some_of (λ (m : Layer). is_top m.space && is_inconsistent layers m) layers e in
        let top = and-left (is_top l.0.space) (is_inconsistent layers l.0) l.2 in
        absurd (not_both _ (and-right (is_top l.0.space) (is_inconsistent layers l.0) l.2) (own_fits l.0 (In-from_contains layers l.0 l.1) top)))
    | inr e ↦ e
  ]
