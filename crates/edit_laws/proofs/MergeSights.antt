-- What is there, and what is seen, after a child became a part of its parent.
use Rattle.std.proofs.Common.{◌≡◌, inl, inr, ℕ, ◌+◌, ◌-◌, ◌≤◌, Bool, true, false, not, ◌&&◌, List, [], ◌∷◌, ◌++◌, drop, filter, map, length, refl, sym, ap, ap₂, subst, ◌∙◌, append_assoc, Option, Some, None, is_some, option_map, unwrap_or}
use Rattle.std.proofs.lemmas.List.{append-nil}
use Rattle.oz_base.specs.Lists.{list_eq}
use Rattle.oz_semantics.specs.Names.{is_below, is_properly_below}
use Rattle.oz_semantics.specs.Configurations.{is_of, layer_at, layer_of, view, in_layer, new_layer, counting_child}
use Rattle.oz_semantics.specs.Renamings.{Renaming, renamed_tell, renamed_layer}
use Rattle.oz_semantics.specs.Edits.{is_under, space_into, merging, joined, merged_away, taken_in}
use Rattle.oz_semantics.specs.declared.value.Tell.{Tell}
use Rattle.oz_semantics.specs.declared.configuration.Layer.{Layer}
use Rattle.oz_laws.proofs.SameLaws.{In}
use Rattle.view_laws.specs.Trees.{IsTree}
use Rattle.view_laws.proofs.Members.{decide, not_both}
use Rattle.view_laws.proofs.NameLaws.{below_itself, below_trans, properly}
use Rattle.view_laws.proofs.ListLaws.{found_in}
use Rattle.view_laws.proofs.SightLaws.{space_of, not_false, quiet_unseen, change_unseen}
use Rattle.edit_laws.specs.Edits.{HasChild}
use Rattle.edit_laws.specs.Layers.{TakenLayer, TakenGone, TakenChild, TakenParent, TakenOther}
use Rattle.edit_laws.specs.Sights.{view_under, TakenUnseen, TakenAway, TakenSeen}
use Rattle.edit_laws.proofs.NameLaws.{goes_on_from, built}
use Rattle.edit_laws.proofs.GraftLaws.{there_of, found_itself}
use Rattle.edit_laws.proofs.MergeLaws.{into_front, IsCut, cut_at, p_named, s_named, s_child, name_fresh, take_goes, take_comes, under_gone, left_stays, child_stays, parent_stays, deep_number, taken_name, taken_is_tree}
use Rattle.edit_laws.proofs.ViewLaws.{all_put_silent, filter_silent, view_step, grow_alike, whole_at, step_at, under_of, under_itself, child_above, child_inner, child_parent, image_found}

module _ (parent child : List ℕ) (layers : List Layer) (has : HasChild layers parent child) (t : IsTree layers) where
  abbrev p : Layer
  p = layer_of layers parent

  abbrev s : Layer
  s = layer_of layers child

  abbrev r : Renaming
  r = merging s p

  abbrev raise : ℕ
  raise = p.next.child - 1

  abbrev after : List Layer
  after = taken_in parent child layers

  after_tree : IsTree after
  after_tree = taken_is_tree parent child layers has t

  parent_named : p.space ≡ parent
  parent_named = p_named parent child layers has t

  child_named : s.space ≡ child
  child_named = s_named parent child layers has t

  child_numbered : (n : ℕ) × (s.space ≡ p.space ++ n ∷ [])
  child_numbered = s_child parent child layers has t

  -- What is there

  taken_at : (n : ℕ) (u : List ℕ) → 1 ≤ n → layer_at after (p.space ++ (n + raise) ∷ u) ≡ option_map (renamed_layer r) (layer_at layers (s.space ++ n ∷ u))
  taken_at n u low =
      image_found layers after (renamed_layer r) (s.space ++ n ∷ u) (p.space ++ (n + raise) ∷ u) after_tree.ordered (take_goes parent child layers has t n u) (take_comes parent child layers has t n u low)

  pub layer_gone : (space : List ℕ) → is_properly_below child space ≡ true → layer_at after space ≡ None
  layer_gone space e = by (layer_at after space) refl
    where
      by : (o : Option Layer) → layer_at after space ≡ o → o ≡ None
      by None k = refl
      by (Some m) k =
          let c = cut_at s.space space (ap (λ v. is_properly_below v space) child_named ∙ e) in
          absurd (under_gone parent child layers has t m (found_in (is_of space) counting_child after m k).0 c.number c.rest (space_of after space m k ∙ c.whole))

  pub layer_child : layer_at after child ≡ Some (merged_away s)
  layer_child = ap (layer_at after) (sym child_named) ∙ found_itself after (merged_away s) after_tree.ordered (child_stays parent child layers has t)

  pub layer_parent : layer_at after parent ≡ Some (joined (renamed_layer r s) p)
  layer_parent = ap (layer_at after) (sym parent_named) ∙ found_itself after (joined (renamed_layer r s) p) after_tree.ordered (parent_stays parent child layers has t)

  -- a layer that is there
  module _ (other : List ℕ) (there : is_some (layer_at layers other) ≡ true) (apart : is_below child other ≡ false) where
    abbrev o : Layer
    o = layer_of layers other

    o_at : layer_at layers other ≡ Some o
    o_at = there_of (layer_at layers other) other there

    o_in : In o layers
    o_in = (found_in (is_of other) counting_child layers o o_at).0

    o_named : o.space ≡ other
    o_named = space_of layers other o o_at

    o_apart : is_below s.space o.space ≡ false
    o_apart = ap₂ is_below child_named o_named ∙ apart

    o_not_child : o.space ≡ s.space → ⊥
    o_not_child e = not_both _ (ap (is_below s.space) e ∙ below_itself s.space) o_apart

    pub layer_other : (other ≡ parent → ⊥) → layer_at after other ≡ layer_at layers other
    layer_other distinct =
        ap (layer_at after) (sym o_named)
        ∙ found_itself after o after_tree.ordered (left_stays parent child layers has t o o_in (ap (λ (b : Bool). not (b && not (list_eq s.space o.space))) o_apart) o_not_child (λ e. distinct (sym o_named ∙ e ∙ parent_named)))
        ∙ sym o_at

    not_above_new : (n : ℕ) (u : List ℕ) → 1 ≤ n → (v : List ℕ) → v ≡ p.space ++ (n + raise) ∷ u → is_below v other ≡ false
    not_above_new n u low v e = elim (decide (is_below v other)) [
      | inl k ↦ absurd (name_fresh parent child layers has t o o_in n (u ++ drop (length v) other) low
          (o_named ∙ goes_on_from v other k ∙ ap (λ w. w ++ drop (length v) other) e ∙ append_assoc p.space ((n + raise) ∷ u) (drop (length v) other)))
      | inr k ↦ k
    ]

    abbrev left : Layer → Bool
    left l = not (is_under s.space l)

    pub view_stays : view after other ≡ view layers other
    view_stays =
        all_put_silent (map (renamed_layer r) (filter (is_under s.space) layers)) (in_layer p.space (joined (renamed_layer r s)) (in_layer s.space merged_away (filter left layers))) other
        (λ n i. let x = taken_name parent child layers has t n i in not_above_new x.0 x.1 x.2 n.space x.3)
        ∙ quiet_unseen (joined (renamed_layer r s)) (in_layer s.space merged_away (filter left layers)) p.space other (λ l e. refl) (λ l e. refl)
        ∙ change_unseen merged_away (filter left layers) s.space other (λ l e. refl) (ap (λ v. is_below v other) child_named ∙ apart)
        ∙ filter_silent left other gone layers
      where
        gone : (l : Layer) → left l ≡ false → is_below l.space other ≡ false
        gone l e = elim (decide (is_below l.space other)) [
          | inl k ↦ absurd (not_both _ (below_trans child l.space other (subst (λ v. is_below v l.space ≡ true) child_named (properly s.space l.space (not_false _ e)).0) k) apart)
          | inr k ↦ k
        ]

  pub parent_view : view after parent ≡ view layers parent
  parent_view = view_stays parent has.parent_there (child_above parent child has.below)

  pub child_view : view after child ≡ view layers parent
  child_view =
      view_step child (child_inner parent child has.below) after after_tree.ordered
      ∙ ap₂ (λ v (o : Option Layer). view after v ++ (unwrap_or o (new_layer child)).tells) (child_parent parent child has.below) layer_child
      ∙ append-nil (view after parent) ∙ parent_view

  -- What was below the child

  module _ (n : ℕ) (low : 1 ≤ n) where
    abbrev own : List ℕ → List Tell
    own u = (layer_of layers (s.space ++ n ∷ u)).tells

    abbrev seen : List ℕ → List Tell
    seen u = view after (p.space ++ (n + raise) ∷ u)

    abbrev under : List ℕ → List Tell
    under u = view_under layers s.space (s.space ++ n ∷ u)

    taken_own : (u : List ℕ) → (layer_of after (p.space ++ (n + raise) ∷ u)).tells ≡ map (renamed_tell r) (own u)
    taken_own u = ap (λ (o : Option Layer). (unwrap_or o (new_layer (p.space ++ (n + raise) ∷ u))).tells) (taken_at n u low) ∙ by (layer_at layers (s.space ++ n ∷ u))
      where
        by : (o : Option Layer) → (unwrap_or (option_map (renamed_layer r) o) (new_layer (p.space ++ (n + raise) ∷ u))).tells ≡ map (renamed_tell r) (unwrap_or o (new_layer (s.space ++ n ∷ u))).tells
        by None = refl
        by (Some l) = refl

    under_first : under [] ≡ own []
    under_first =
        step_at (is_under s.space) s.space layers t.ordered [] n (under_of s.space n [])
        ∙ ap (λ (ts : List Tell). ts ++ own []) (ap (view_under layers s.space) (append-nil s.space) ∙ under_itself s.space layers)

    seen_first : seen [] ≡ view layers parent ++ map (renamed_tell r) (under [])
    seen_first =
        whole_at p.space after after_tree.ordered [] (n + raise)
        ∙ ap₂ (λ (ts us : List Tell). ts ++ us) (ap (view after) (append-nil p.space ∙ parent_named) ∙ parent_view) (taken_own [] ∙ ap (map (renamed_tell r)) (sym under_first))

    pub seen_at : (u : List ℕ) → seen u ≡ view layers parent ++ map (renamed_tell r) (under u)
    seen_at u =
        grow_alike (renamed_tell r) own seen under (view layers parent) seen_first
        (λ front last. whole_at p.space after after_tree.ordered ((n + raise) ∷ front) last ∙ ap (λ (ts : List Tell). seen front ++ ts) (taken_own (front ++ last ∷ [])))
        (λ front last. step_at (is_under s.space) s.space layers t.ordered (n ∷ front) last (under_of s.space n (front ++ last ∷ []))) u (built u)

  module _ (space : List ℕ) (there : is_some (layer_at layers space) ≡ true) (inside : is_properly_below child space ≡ true) where
    cut : IsCut s.space space
    cut = cut_at s.space space (ap (λ v. is_properly_below v space) child_named ∙ inside)

    counted : 1 ≤ cut.number
    counted =
        let l = layer_of layers space in
        let e : layer_at layers space ≡ Some l = there_of (layer_at layers space) space there in
        deep_number parent child layers has t l (found_in (is_of space) counting_child layers l e).0 cut.number cut.rest (space_of layers space l e ∙ cut.whole)

    new_name : space_into s p space ≡ p.space ++ (cut.number + raise) ∷ cut.rest
    new_name = ap (space_into s p) cut.whole ∙ into_front s p cut.number cut.rest

    pub layer_taken : layer_at after (space_into s p space) ≡ option_map (renamed_layer r) (layer_at layers space)
    layer_taken = ap (layer_at after) new_name ∙ taken_at cut.number cut.rest counted ∙ ap (λ v. option_map (renamed_layer r) (layer_at layers v)) (sym cut.whole)

    pub view_taken : view after (space_into s p space) ≡ view layers parent ++ map (renamed_tell r) (view_under layers child space)
    view_taken =
        ap (view after) new_name ∙ seen_at cut.number counted cut.rest
        ∙ ap₂ (λ a b. view layers parent ++ map (renamed_tell r) (view_under layers a b)) child_named (sym cut.whole)

pub taken_layer : TakenLayer
taken_layer parent child space layers has t there inside = layer_taken parent child layers has t space there inside

pub taken_gone : TakenGone
taken_gone parent child space layers has t inside = layer_gone parent child layers has t space inside

pub taken_child : TakenChild
taken_child parent child layers has t = layer_child parent child layers has t

pub taken_parent : TakenParent
taken_parent parent child layers has t = layer_parent parent child layers has t

pub taken_other : TakenOther
taken_other parent child other layers has t there apart distinct = layer_other parent child layers has t other there apart distinct

pub taken_unseen : TakenUnseen
taken_unseen parent child other layers has t there apart = view_stays parent child layers has t other there apart

pub taken_away : TakenAway
taken_away parent child layers has t = child_view parent child layers has t

pub taken_seen : TakenSeen
taken_seen parent child space layers has t there inside = view_taken parent child layers has t space there inside
