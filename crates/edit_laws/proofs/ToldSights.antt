-- What is seen where the parent is told something, and then a child of it is copied or becomes a part of it.
use Rattle.std.proofs.Common.{◌≡◌, inl, inr, ℕ, Bool, true, false, cond, List, [], ◌∷◌, ◌++◌, filter, map, refl, sym, ap, ap₂, subst, ◌∙◌, arith, Option, Some, is_some, unwrap_or}
use Rattle.std.proofs.lemmas.List.{map-append}
use Rattle.oz_base.specs.Lists.{edit_first}
use Rattle.oz_semantics.specs.Names.{is_below, is_properly_below, root_of}
use Rattle.oz_semantics.specs.Configurations.{is_of, layer_at, layer_of, view, in_layer, new_layer, next_child, telling, counting_child}
use Rattle.oz_semantics.specs.Renamings.{Renaming, renamed_tell}
use Rattle.oz_semantics.specs.Edits.{is_in, is_under, moved, moving, copied, space_into, merging, taken_in}
use Rattle.oz_semantics.specs.declared.value.Tell.{Tell}
use Rattle.oz_semantics.specs.declared.value.Tell.TheVariants.{Equal}
use Rattle.oz_semantics.specs.declared.configuration.Layer.{Layer}
use Rattle.oz_laws.proofs.SameLaws.{In}
use Rattle.view_laws.specs.Sights.{SeesBesides}
use Rattle.view_laws.specs.Trees.{IsTree}
use Rattle.view_laws.proofs.Members.{decide, not_both, has-left, has-right, has-cases}
use Rattle.view_laws.proofs.NameLaws.{below_itself, below_trans, properly}
use Rattle.view_laws.proofs.ListLaws.{edit_in, edited_in, found_in}
use Rattle.view_laws.proofs.SightLaws.{of_space, space_of, change_unseen}
use Rattle.view_laws.proofs.TreeLaws.{tree_changed}
use Rattle.edit_laws.specs.Edits.{HasChild}
use Rattle.edit_laws.specs.Layers.{copy_name, merging_in, into_parent}
use Rattle.edit_laws.specs.Sights.{view_from, view_under, tells_merged, merged, CloneUnseen, CloneBeside, CloneSeen, CloneBelow, MergeUnseen, MergeBeside, MergeSeen, MergeBelow, MergeRenamed}
use Rattle.edit_laws.proofs.NameLaws.{below_front, child_of}
use Rattle.edit_laws.proofs.GraftLaws.{there_of, has_of_in, found_itself}
use Rattle.edit_laws.proofs.ViewLaws.{child_above, view_parts, from_parts, tell_last}
use Rattle.edit_laws.proofs.CopySights.{copy_unseen, copy_seen, parent_apart}
use Rattle.edit_laws.proofs.MergeSights.{taken_unseen, taken_seen}

-- a change of what is left out is not there
edited_out : (keep test : Layer → Bool) (change : Layer → Layer) → ((l : Layer) → test l ≡ true → (keep l ≡ false) × (keep (change l) ≡ false)) → (ls : List Layer)
    → filter keep (edit_first test change ls) ≡ filter keep ls
edited_out keep test change h [] = refl
edited_out keep test change h (l ∷ ls) = by (test l) refl (edited_out keep test change h ls)
  where
    by : (b : Bool) → test l ≡ b → filter keep (edit_first test change ls) ≡ filter keep ls → filter keep (cond b (change l ∷ ls) (l ∷ edit_first test change ls)) ≡ filter keep (l ∷ ls)
    by true e rest =
        let k = h l e in
        ap (λ (b : Bool). cond b (change l ∷ filter keep ls) (filter keep ls)) k.1 ∙ sym (ap (λ (b : Bool). cond b (l ∷ filter keep ls) (filter keep ls)) k.0)
    by false e rest = ap (λ (ms : List Layer). cond (keep l) (l ∷ ms) ms) rest

module _ (parent child : List ℕ) (ts : List Tell) (layers : List Layer) (has : HasChild layers parent child) (t : IsTree layers) where
  abbrev p : Layer
  p = layer_of layers parent

  abbrev s : Layer
  s = layer_of layers child

  abbrev told : List Layer
  told = in_layer parent (telling ts) layers

  p_at : layer_at layers parent ≡ Some p
  p_at = there_of (layer_at layers parent) parent has.parent_there

  s_at : layer_at layers child ≡ Some s
  s_at = there_of (layer_at layers child) child has.child_there

  s_in : In s layers
  s_in = (found_in (is_of child) counting_child layers s s_at).0

  told_tree : IsTree told
  told_tree = tree_changed parent (telling ts) layers (λ l e. (refl, omega arith)) t

  told_p : layer_at told parent ≡ Some (telling ts p)
  told_p =
      subst (λ u. layer_at told u ≡ Some (telling ts p)) (space_of layers parent p p_at)
      (found_itself told (telling ts p) told_tree.ordered (edited_in (is_of parent) (telling ts) layers p p_at))

  told_s : layer_at told child ≡ Some s
  told_s = subst (λ u. layer_at told u ≡ Some s) s_named (found_itself told s told_tree.ordered (elim (edit_in (is_of parent) (telling ts) layers s s_in) [
    | inl i ↦ i
    | inr e ↦ absurd (not_both _ (subst (λ u. is_below u parent ≡ true) (sym (space_of layers parent s e) ∙ s_named) (below_itself parent)) (child_above parent child has.below))
  ]))
    where
      s_named : s.space ≡ child
      s_named = space_of layers child s s_at

  told_has : HasChild told parent child
  told_has = record {
    below = has.below;
    parent_there = ap (λ (o : Option Layer). is_some o) told_p;
    child_there = ap (λ (o : Option Layer). is_some o) told_s;
  }

  told_there : (other : List ℕ) → is_some (layer_at layers other) ≡ true → is_some (layer_at told other) ≡ true
  told_there other e =
      let o = layer_of layers other in
      let at : layer_at layers other ≡ Some o = there_of (layer_at layers other) other e in
      let named : o.space ≡ other = space_of layers other o at in
      elim (edit_in (is_of parent) (telling ts) layers o (found_in (is_of other) counting_child layers o at).0) [
        | inl i ↦ has_of_in told o other i named
        | inr k ↦ has_of_in told (telling ts o) other (edited_in (is_of parent) (telling ts) layers o k) named
      ]

  p_told : layer_of told parent ≡ telling ts p
  p_told = ap (λ (o : Option Layer). unwrap_or o (new_layer parent)) told_p

  s_told : layer_of told child ≡ s
  s_told = ap (λ (o : Option Layer). unwrap_or o (new_layer child)) told_s

  -- the parent's tells change no name
  same_renaming : merging_in told parent child ≡ merging_in layers parent child
  same_renaming = ap₂ merging s_told p_told

  same_name : (space : List ℕ) → into_parent told parent child space ≡ into_parent layers parent child space
  same_name space = ap₂ (λ (a b : Layer). space_into a b space) s_told p_told

  same_under : filter (is_under child) told ≡ filter (is_under child) layers
  same_under = edited_out (is_under child) (is_of parent) (telling ts) (λ l e. (out l e, out l e)) layers
    where
      out : (l : Layer) → is_of parent l ≡ true → is_under child l ≡ false
      out l e = elim (decide (is_under child l)) [
        | inl k ↦ absurd (not_both _ (subst (λ u. is_below child u ≡ true) (of_space parent l e) (properly child l.space k).0) (child_above parent child has.below))
        | inr k ↦ k
      ]

  same_copy : copy_name told parent ≡ copy_name layers parent
  same_copy = ap next_child p_told

  same_from : filter (is_in child) told ≡ filter (is_in child) layers
  same_from = edited_out (is_in child) (is_of parent) (telling ts) (λ l e. (out l e, out l e)) layers
    where
      out : (l : Layer) → is_of parent l ≡ true → is_in child l ≡ false
      out l e = ap (is_below child) (of_space parent l e) ∙ child_above parent child has.below

  pub parent_tells : view told parent ≡ view layers parent ++ ts
  parent_tells = tell_last layers parent ts t has.parent_there

  pub beside : (other : List ℕ) → is_some (layer_at layers other) ≡ true → is_below child other ≡ false → view (taken_in parent child told) other ≡ view told other
  beside other there apart = taken_unseen parent child other told told_has told_tree (told_there other there) apart

  pub unseen : (other : List ℕ) → is_some (layer_at layers other) ≡ true → is_below parent other ≡ false → view (taken_in parent child told) other ≡ view layers other
  unseen other there apart = beside other there below ∙ change_unseen (telling ts) layers parent other (λ l e. refl) apart
    where
      below : is_below child other ≡ false
      below = elim (decide (is_below child other)) [
        | inl k ↦ (let c = child_of parent child has.below in
            absurd (not_both _ (below_trans parent child other (ap (is_below parent) c.1 ∙ below_front parent (c.0 ∷ [])) k) apart))
        | inr k ↦ k
      ]

  pub below_seen : (space : List ℕ) → is_some (layer_at layers space) ≡ true → is_properly_below child space ≡ true
      → view (taken_in parent child told) (into_parent layers parent child space)
      ≡ view layers parent ++ ts ++ map (renamed_tell (merging_in layers parent child)) (view_under layers child space)
  below_seen space there inside =
      ap (view (taken_in parent child told)) (sym (same_name space))
      ∙ taken_seen parent child space told told_has told_tree (told_there space there) inside
      ∙ ap₂ (λ (us : List Tell) (r : Renaming). us ++ map (renamed_tell r) (view_under told child space)) parent_tells same_renaming
      ∙ ap (λ (ls : List Layer). view layers parent ++ ts ++ map (renamed_tell (merging_in layers parent child)) (view ls space)) same_under

  -- Copies

  pub copy_beside : (other : List ℕ) → is_below (copy_name layers parent) other ≡ false → view (copied parent child told) other ≡ view told other
  copy_beside other apart = copy_unseen parent child other told (ap (λ u. is_below u other) same_copy ∙ apart)

  pub copy_outside : (other : List ℕ) → is_below parent other ≡ false → view (copied parent child told) other ≡ view layers other
  copy_outside other apart = copy_beside other below ∙ change_unseen (telling ts) layers parent other (λ l e. refl) apart
    where
      below : is_below (copy_name layers parent) other ≡ false
      below = elim (decide (is_below (copy_name layers parent) other)) [
        | inl k ↦ absurd (not_both _
            (below_trans parent (copy_name layers parent) other (subst (λ u. is_below u (copy_name layers parent) ≡ true) (space_of layers parent p p_at) (below_front p.space (p.next.child ∷ []))) k) apart)
        | inr k ↦ k
      ]

  pub copy_below : (space : List ℕ) → is_below child space ≡ true
      → view (copied parent child told) (moved child (copy_name layers parent) space)
      ≡ view layers parent ++ ts ++ map (renamed_tell (moving child (copy_name layers parent))) (view_from layers child space)
  copy_below space inside =
      ap (λ u. view (copied parent child told) (moved child u space)) (sym same_copy)
      ∙ copy_seen parent child space told told_has told_tree inside
      ∙ ap₂ (λ (us : List Tell) (n : List ℕ). us ++ map (renamed_tell (moving child n)) (view_from told child space)) parent_tells same_copy
      ∙ ap (λ (ls : List Layer). view layers parent ++ ts ++ map (renamed_tell (moving child (copy_name layers parent))) (view ls space)) same_from

pub clone_unseen : CloneUnseen
clone_unseen parent child other ts layers has t apart = copy_outside parent child ts layers has t other apart

pub clone_beside : CloneBeside
clone_beside parent child other ts layers has t apart = copy_beside parent child ts layers has t other apart

pub clone_seen : CloneSeen
clone_seen parent child ts layers has t = copy_beside parent child ts layers has t parent (parent_apart parent child layers has t) ∙ parent_tells parent child ts layers has t

pub clone_below : CloneBelow
clone_below parent child space ts layers has t inside = copy_below parent child ts layers has t space inside

pub merge_unseen : MergeUnseen
merge_unseen parent child other x layers has t there apart = unseen parent child (tells_merged layers parent child x) layers has t other there apart

pub merge_beside : MergeBeside
merge_beside parent child other x layers has t there apart = beside parent child (tells_merged layers parent child x) layers has t other there apart

pub merge_seen : MergeSeen
merge_seen parent child x layers has t =
    beside parent child (tells_merged layers parent child x) layers has t parent has.parent_there (child_above parent child has.below)
    ∙ parent_tells parent child (tells_merged layers parent child x) layers has t

pub merge_below : MergeBelow
merge_below parent child space x layers has t there inside = below_seen parent child (tells_merged layers parent child x) layers has t space there inside

-- All that was seen, and one tell besides

besides_amid : (a b c es : List Tell) → SeesBesides (a ++ (b ++ c)) (a ++ (b ++ es) ++ c) es
besides_amid a b c es = record {
  kept = λ t h. elim (has-cases t a (b ++ c) h) [
    | inl k ↦ has-left t (a ++ (b ++ es)) c (has-left t a (b ++ es) k)
    | inr k ↦ elim (has-cases t b c k) [
      | inl m ↦ has-left t (a ++ (b ++ es)) c (has-right t a (b ++ es) (has-left t b es m))
      | inr m ↦ has-right t (a ++ (b ++ es)) c m
    ]
  ];
  only = λ t h. elim (has-cases t (a ++ (b ++ es)) c h) [
    | inl k ↦ elim (has-cases t a (b ++ es) k) [
      | inl m ↦ inl (has-left t a (b ++ c) m)
      | inr m ↦ elim (has-cases t b es m) [
        | inl n ↦ inl (has-right t a (b ++ c) (has-left t b c n))
        | inr n ↦ inr n
      ]
    ]
    | inr k ↦ inl (has-right t a (b ++ c) (has-right t b c k))
  ];
}

pub merge_renamed : MergeRenamed
merge_renamed parent child space x layers r has t there inside above within =
    let m = merging_in layers parent child in
    let es : List Tell = Equal x (m.variable (root_of (layer_of layers child).space)) ∷ [] in
    let own = map (renamed_tell m) (layer_of layers child).tells in
    let under = map (renamed_tell m) (view_under layers child space) in
    let below = (properly child space inside).0 in
    let before : map (renamed_tell r) (view layers space) ≡ view layers parent ++ (own ++ under) =
    ap (map (renamed_tell r)) (view_parts layers parent child space t has.below below)
    ∙ map-append (renamed_tell r) (view layers parent) (view_from layers child space)
    ∙ ap₂ (λ (us vs : List Tell). us ++ vs) above
    (within ∙ ap (map (renamed_tell m)) (from_parts layers parent child space t has.below below) ∙ map-append (renamed_tell m) (layer_of layers child).tells (view_under layers child space)) in
    subst (λ (us : List Tell). SeesBesides us (view (merged parent child x layers) (into_parent layers parent child space)) es) (sym before)
    (subst (λ (us : List Tell). SeesBesides (view layers parent ++ (own ++ under)) us es) (sym (merge_below parent child space x layers has t there inside)) (besides_amid (view layers parent) own under es))
