-- What is there, and what is seen, after a copy.
use Rattle.std.proofs.Common.{◌≡◌, inl, inr, ℕ, Bool, true, false, cond, List, [], ◌∷◌, ◌++◌, drop, filter, map, length, refl, sym, ap, ap₂, subst, ◌∙◌, append_assoc, Option, Some, None, option_map, unwrap_or}
use Rattle.std.proofs.lemmas.List.{append-nil, map-append}
use Rattle.oz_semantics.specs.Names.{is_below, parent_of, child_name}
use Rattle.oz_semantics.specs.Configurations.{is_of, layer_at, layer_of, view, in_layer, new_layer, placed, counting_child}
use Rattle.oz_semantics.specs.Renamings.{Renaming, renamed_tell, renamed_layer}
use Rattle.oz_semantics.specs.Edits.{all_placed, is_in, moved, moving, copied}
use Rattle.oz_semantics.specs.declared.value.Tell.{Tell}
use Rattle.oz_semantics.specs.declared.configuration.Layer.{Layer}
use Rattle.oz_laws.proofs.SameLaws.{In}
use Rattle.view_laws.specs.Trees.{IsTree}
use Rattle.view_laws.proofs.Members.{decide, not_both}
use Rattle.view_laws.proofs.NameLaws.{below_trans, equal_names}
use Rattle.view_laws.proofs.ListLaws.{in_map, filter_in}
use Rattle.view_laws.proofs.SightLaws.{space_of, quiet_unseen}
use Rattle.edit_laws.specs.Edits.{HasChild}
use Rattle.edit_laws.specs.Layers.{copy_name, CopiedLayer, CopiedOther}
use Rattle.edit_laws.specs.Sights.{view_from, CopyUnseen, CopySeen, CopyRenamed}
use Rattle.edit_laws.proofs.NameLaws.{goes_on_from, below_front, moved_front, not_top_longer, parent_child, longer, built}
use Rattle.edit_laws.proofs.GraftLaws.{there_of, is_before}
use Rattle.edit_laws.proofs.CopyLaws.{copy_goes, copy_comes, copied_is_tree}
use Rattle.edit_laws.proofs.ViewLaws.{all_put_silent, view_step, grow_alike, whole_at, from_step, from_first, view_parts, image_found}

-- Layers of other names put among others

put_other : (n : Layer) (u : List ℕ) → is_of u n ≡ false → (ls : List Layer) → layer_at (placed n ls) u ≡ layer_at ls u
put_other n u e [] = ap (λ (b : Bool). cond b (Some n) None) e
put_other n u e (l ∷ ls) = by (is_before n l) (put_other n u e ls)
  where
    by : (b : Bool) → layer_at (placed n ls) u ≡ layer_at ls u → layer_at (cond b (n ∷ l ∷ ls) (l ∷ placed n ls)) u ≡ layer_at (l ∷ ls) u
    by true rest = ap (λ (b : Bool). cond b (Some n) (layer_at (l ∷ ls) u)) e
    by false rest = ap (λ (o : Option Layer). cond (is_of u l) (Some l) o) rest

pub all_put_other : (ns ls : List Layer) (u : List ℕ) → ((n : Layer) → In n ns → is_of u n ≡ false) → layer_at (all_placed ns ls) u ≡ layer_at ls u
all_put_other [] ls u h = refl
all_put_other (n ∷ ns) ls u h = all_put_other ns (placed n ls) u (λ m i. h m (inr i)) ∙ put_other n u (h n (inl refl)) ls

-- A space that is not below the copy

module _ (parent child other : List ℕ) (layers : List Layer) (apart : is_below (copy_name layers parent) other ≡ false) where
  abbrev news : List Layer
  news = map (renamed_layer (moving child (copy_name layers parent))) (filter (is_in child) layers)

  -- each new layer is at the copy or below it
  news_below : (n : Layer) → In n news → is_below (copy_name layers parent) n.space ≡ true
  news_below n i =
      let x = in_map (renamed_layer (moving child (copy_name layers parent))) (filter (is_in child) layers) n i in
      let e = goes_on_from child x.0.space (filter_in (is_in child) layers x.0 x.1).1 in
      subst (λ (l : Layer). is_below (copy_name layers parent) l.space ≡ true) x.2
      (ap (is_below (copy_name layers parent)) (ap (moved child (copy_name layers parent)) e ∙ moved_front child (copy_name layers parent) (drop (length child) x.0.space))
      ∙ below_front (copy_name layers parent) (drop (length child) x.0.space))

  not_above_other : (n : Layer) → In n news → is_below n.space other ≡ false
  not_above_other n i = elim (decide (is_below n.space other)) [
    | inl k ↦ absurd (not_both _ (below_trans (copy_name layers parent) n.space other (news_below n i) k) apart)
    | inr k ↦ k
  ]

  not_other : (n : Layer) → In n news → is_of other n ≡ false
  not_other n i = elim (decide (is_of other n)) [
    | inl k ↦ absurd (not_both _ (subst (λ u. is_below (copy_name layers parent) u ≡ true) (equal_names n.space other k) (news_below n i)) apart)
    | inr k ↦ k
  ]

  pub unseen : view (copied parent child layers) other ≡ view layers other
  unseen = all_put_silent news (in_layer parent counting_child layers) other not_above_other ∙ quiet_unseen counting_child layers parent other (λ l e. refl) (λ l e. refl)

  pub elsewhere : layer_at (copied parent child layers) other ≡ layer_at (in_layer parent counting_child layers) other
  elsewhere = all_put_other news (in_layer parent counting_child layers) other not_other

pub copy_unseen : CopyUnseen
copy_unseen parent child other layers apart = unseen parent child other layers apart

pub copied_other : CopiedOther
copied_other parent child other layers apart = elsewhere parent child other layers apart

-- The copy and what is below it

module _ (parent child : List ℕ) (layers : List Layer) (has : HasChild layers parent child) (t : IsTree layers) where
  abbrev new : List ℕ
  new = copy_name layers parent

  abbrev after : List Layer
  after = copied parent child layers

  abbrev r : Renaming
  r = moving child new

  after_tree : IsTree after
  after_tree = copied_is_tree parent child layers has t

  pub copied_at : (u : List ℕ) → layer_at after (new ++ u) ≡ option_map (renamed_layer r) (layer_at layers (child ++ u))
  copied_at u = image_found layers after (renamed_layer r) (child ++ u) (new ++ u) after_tree.ordered (copy_goes parent child layers has t u) (copy_comes parent child layers has t u)

  abbrev own : List ℕ → List Tell
  own u = (layer_of layers (child ++ u)).tells

  copied_own : (u : List ℕ) → (layer_of after (new ++ u)).tells ≡ map (renamed_tell r) (own u)
  copied_own u = ap (λ (o : Option Layer). (unwrap_or o (new_layer (new ++ u))).tells) (copied_at u) ∙ by (layer_at layers (child ++ u))
    where
      by : (o : Option Layer) → (unwrap_or (option_map (renamed_layer r) o) (new_layer (new ++ u))).tells ≡ map (renamed_tell r) (unwrap_or o (new_layer (child ++ u))).tells
      by None = refl
      by (Some l) = refl

  p_named : (layer_of layers parent).space ≡ parent
  p_named = space_of layers parent (layer_of layers parent) (there_of (layer_at layers parent) parent has.parent_there)

  new_parent : parent_of new ≡ parent
  new_parent = parent_child (layer_of layers parent).space (layer_of layers parent).next.child ∙ p_named

  pub parent_apart : is_below new parent ≡ false
  parent_apart = elim (decide (is_below new parent)) [
    | inl k ↦ absurd (longer parent number (drop (length new) parent)
        (goes_on_from new parent k ∙ ap (λ u. child_name u number ++ drop (length new) parent) p_named ∙ append_assoc parent (number ∷ []) (drop (length new) parent)))
    | inr k ↦ k
  ]
    where
      number : ℕ
      number = (layer_of layers parent).next.child

  abbrev seen : List ℕ → List Tell
  seen u = view after (new ++ u)

  seen_first : seen [] ≡ view layers parent ++ map (renamed_tell r) (view_from layers child (child ++ []))
  seen_first =
      whole ∙ ap₂ (λ (ts us : List Tell). ts ++ us) (ap (view after) new_parent ∙ copy_unseen parent child parent layers parent_apart) told
    where
      whole : seen [] ≡ view after (parent_of new) ++ (layer_of after new).tells
      whole = ap (view after) (append-nil new) ∙ view_step new (not_top_longer (layer_of layers parent).space (layer_of layers parent).next.child []) after after_tree.ordered

      told : (layer_of after new).tells ≡ map (renamed_tell r) (view_from layers child (child ++ []))
      told =
          ap (λ u. (layer_of after u).tells) (sym (append-nil new)) ∙ copied_own []
          ∙ ap (map (renamed_tell r)) (ap (λ u. (layer_of layers u).tells) (append-nil child) ∙ sym (from_first layers parent child t has.below))

  pub seen_at : (u : List ℕ) → seen u ≡ view layers parent ++ map (renamed_tell r) (view_from layers child (child ++ u))
  seen_at u =
      grow_alike (renamed_tell r) own seen (λ v. view_from layers child (child ++ v)) (view layers parent) seen_first
      (λ front last. whole_at new after after_tree.ordered front last ∙ ap (λ (ts : List Tell). seen front ++ ts) (copied_own (front ++ last ∷ [])))
      (from_step layers parent child t has.below) u (built u)

pub copied_layer : CopiedLayer
copied_layer parent child space layers has t inside =
    let e = goes_on_from child space inside in
    ap (λ s. layer_at (copied parent child layers) (moved child (copy_name layers parent) s)) e
    ∙ ap (layer_at (copied parent child layers)) (moved_front child (copy_name layers parent) (drop (length child) space))
    ∙ copied_at parent child layers has t (drop (length child) space)
    ∙ ap (λ s. option_map (renamed_layer (moving child (copy_name layers parent))) (layer_at layers s)) (sym e)

pub copy_seen : CopySeen
copy_seen parent child space layers has t inside =
    let e = goes_on_from child space inside in
    ap (λ s. view (copied parent child layers) (moved child (copy_name layers parent) s)) e
    ∙ ap (view (copied parent child layers)) (moved_front child (copy_name layers parent) (drop (length child) space))
    ∙ seen_at parent child layers has t (drop (length child) space)
    ∙ ap (λ s. view layers parent ++ map (renamed_tell (moving child (copy_name layers parent))) (view_from layers child s)) (sym e)

pub copy_renamed : CopyRenamed
copy_renamed parent child space layers r has t inside above within =
    copy_seen parent child space layers has t inside
    ∙ ap₂ (λ (ts us : List Tell). ts ++ us) (sym above) (sym within)
    ∙ sym (map-append (renamed_tell r) (view layers parent) (view_from layers child space))
    ∙ ap (map (renamed_tell r)) (sym (view_parts layers parent child space t has.below inside))
