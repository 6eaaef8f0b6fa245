-- What edits below a space do to the layers that are not below it: nothing.
use Rattle.std.proofs.Common.{◌≡◌, inl, inr, ℕ, ◌+◌, ◌-◌, Bool, true, false, not, if◌then◌else◌, List, [], ◌∷◌, ◌++◌, filter, map, length, drop, refl, sym, ap, subst, ◌∙◌}
use Rattle.oz_base.specs.Lists.{list_eq}
use Rattle.oz_base.specs.declared.names.Ident.{Ident}
use Rattle.oz_semantics.specs.Names.{is_below, is_properly_below, is_top, parent_of, child_name, is_child_of, space_lt}
use Rattle.oz_semantics.specs.Configurations.{is_of, layer_at, layer_of, new_layer, view, in_layer, placed, next_child, counting_child, ending}
use Rattle.oz_semantics.specs.Edits.{starting, created, moved, moving, all_placed, is_in, is_under, copied, raised_child, merging, joined, merged_away, taken_in}
use Rattle.oz_semantics.specs.Renamings.{Renaming, renamed_layer}
use Rattle.oz_semantics.specs.declared.configuration.Layer.{Layer}
use Rattle.oz_laws.proofs.SameLaws.{In, and-right}
use Rattle.view_laws.proofs.Members.{decide, not_both}
use Rattle.view_laws.proofs.NameLaws.{below_itself, below_trans, equal_names, above_parent, properly}
use Rattle.view_laws.proofs.ListLaws.{in_filter, filter_in, in_map}
use Rattle.edit_laws.proofs.NameLaws.{below_front}
use Rattle.settle_laws.proofs.ListEdits.{filter_dropped, filter_inside, find_filter}
use Rattle.alone_laws.proofs.Lists.{put_out, flat_out, fold_keeps}

-- Names

pub child_below : (s t : List ℕ) → is_child_of s t ≡ true → is_below s t ≡ true
child_below s t e = elim (decide (list_eq s t)) [
  | inl k ↦ subst (λ u. is_below s u ≡ true) (equal_names s t k) (below_itself s)
  | inr k ↦ above_parent s t k ∙ parent
]
  where
    parent : is_below s (parent_of t) ≡ true
    parent = subst (λ u. is_below s u ≡ true) (sym (equal_names (parent_of t) s (and-right (not (is_top t)) _ e))) (below_itself s)

-- where a space is not below t, a child of it that is not t is not below t
pub child_outside : (t u c : List ℕ) → is_child_of u c ≡ true → is_below t u ≡ false → list_eq t c ≡ false → is_below t c ≡ false
child_outside t u c k e n = above_parent t c n ∙ ap (is_below t) (equal_names (parent_of c) u (and-right (not (is_top c)) _ k)) ∙ e

pub layer_named : (layers : List Layer) (s : List ℕ) → (layer_of layers s).space ≡ s
layer_named [] s = refl
layer_named (l ∷ ls) s = by (list_eq l.space s) refl (layer_named ls s)
  where
    by : (b : Bool) → list_eq l.space s ≡ b → (layer_of ls s).space ≡ s → (layer_of (l ∷ ls) s).space ≡ s
    by true e rest = rw e (equal_names l.space s e)
    by false e rest = rw e rest

-- The layers outside

abbrev pub is_outside : List ℕ → Layer → Bool
is_outside space l = not (is_below space l.space)

-- the layers that are not below the space, in their order
abbrev pub outside : List ℕ → List Layer → List Layer
outside space layers = filter (is_outside space) layers

module _ (t : List ℕ) where
  -- the layers that are not below it stay
  abbrev pub Stay : List Layer → List Layer → Type 0
  Stay before after = outside t after ≡ outside t before

  pub change_stays : (s : List ℕ) (change : Layer → Layer) (layers : List Layer) → is_below t s ≡ true → ((l : Layer) → (change l).space ≡ l.space) → Stay layers (in_layer s change layers)
  change_stays s change layers e h =
      filter_dropped (is_outside t) (is_of s) change (λ l. ap (λ u. not (is_below t u)) (h l)) (λ l k. ap not (subst (λ u. is_below t u ≡ true) (sym (equal_names l.space s k)) e)) layers

  pub put_stays : (l : Layer) (layers : List Layer) → is_below t l.space ≡ true → Stay layers (placed l layers)
  put_stays l layers e = put_out (is_outside t) (λ (other : Layer). space_lt l.space other.space) l layers (ap not e)

  -- each of the new ones is below it
  abbrev pub AllInside : List Layer → Type 0
  AllInside news = (l : Layer) → In l news → is_below t l.space ≡ true

  pub all_put_stay : (news layers : List Layer) → AllInside news → Stay layers (all_placed news layers)
  all_put_stay news layers e = fold_keeps (Stay layers) (λ ls l. placed l ls) news (λ ls l i n. put_stays l ls (e l i) ∙ n) layers refl

  pub dropped_stays : (s : List ℕ) (layers : List Layer) → is_below t s ≡ true → Stay layers (filter (λ (l : Layer). not (is_properly_below s l.space)) layers)
  dropped_stays s layers e =
      filter_inside (is_outside t) (λ (l : Layer). not (is_properly_below s l.space)) (λ l k. ap not (below_trans t s l.space e (properly s l.space (passes _ k)).0)) layers
    where
      passes : (b : Bool) → not b ≡ false → b ≡ true
      passes true k = refl
      passes false k = sym k

  pub end_stays : (s : List ℕ) (how : Layer → Layer) (layers : List Layer) → is_below t s ≡ true → ((l : Layer) → (how l).space ≡ l.space) → Stay layers (ending s how layers)
  end_stays s how layers e h = change_stays s how (filter (λ (l : Layer). not (is_properly_below s l.space)) layers) e h ∙ dropped_stays s layers e

  pub next_inside : (layers : List Layer) → is_below t (next_child (layer_of layers t)) ≡ true
  next_inside layers = subst (λ u. is_below t (child_name u (layer_of layers t).next.child) ≡ true) (sym (layer_named layers t)) (below_front t ((layer_of layers t).next.child ∷ []))

  pub creation_stays : (procedure : Ident) (layers : List Layer) → Stay layers (created t procedure layers)
  creation_stays procedure layers =
      put_stays (starting procedure (new_layer (next_child (layer_of layers t)))) (in_layer t counting_child layers) (next_inside layers)
      ∙ change_stays t counting_child layers (below_itself t) (λ l. refl)

  -- layers under new names
  pub renamed_inside : (r : Renaming) (keep : Layer → Bool) → ((l : Layer) → keep l ≡ true → is_below t (r.space l.space) ≡ true) → (layers : List Layer)
      → AllInside (map (renamed_layer r) (filter keep layers))
  renamed_inside r keep h layers l i =
      let m = in_map (renamed_layer r) (filter keep layers) l i in
      subst (λ (k : Layer). is_below t k.space ≡ true) m.2 (h m.0 (filter_in keep layers m.0 m.1).1)

  pub moved_inside : (s new u : List ℕ) → is_below t new ≡ true → is_below s u ≡ true → is_below t (moved s new u) ≡ true
  moved_inside s new u e f = rw f (below_trans t new (new ++ drop (length s) u) e (below_front new (drop (length s) u)))

  pub raised_inside : (by : ℕ) (u : List ℕ) → is_below t (raised_child t by u) ≡ true
  raised_inside by [] = below_itself t
  raised_inside by (n ∷ ns) = below_front t ((n + by) ∷ ns)

  -- the copies of a child
  abbrev pub copies : List ℕ → List Layer → List Layer
  copies s layers = map (renamed_layer (moving s (next_child (layer_of layers t)))) (filter (is_in s) layers)

  pub copies_inside : (s : List ℕ) (layers : List Layer) → AllInside (copies s layers)
  copies_inside s layers =
      renamed_inside (moving s (next_child (layer_of layers t))) (is_in s) (λ l k. moved_inside s (next_child (layer_of layers t)) l.space (next_inside layers) k) layers

  pub copy_stays : (s : List ℕ) (layers : List Layer) → Stay layers (copied t s layers)
  copy_stays s layers = all_put_stay (copies s layers) (in_layer t counting_child layers) (copies_inside s layers) ∙ change_stays t counting_child layers (below_itself t) (λ l. refl)

  -- the layers below a child that it takes in, under new names
  abbrev pub grafts : List ℕ → List Layer → List Layer
  grafts s layers = map (renamed_layer (merging (layer_of layers s) (layer_of layers t))) (filter (is_under (layer_of layers s).space) layers)

  pub grafts_inside : (s : List ℕ) (layers : List Layer) → AllInside (grafts s layers)
  grafts_inside s layers =
      let child = layer_of layers s in
      let parent = layer_of layers t in
      renamed_inside (merging child parent) (is_under child.space)
      (λ l k. rw k (subst (λ u. is_below t (raised_child u (parent.next.child - 1) (drop (length child.space) l.space)) ≡ true) (sym (layer_named layers t)) (raised_inside (parent.next.child - 1) (drop (length child.space) l.space))))
      layers

  pub taken_stays : (s : List ℕ) (layers : List Layer) → is_below t s ≡ true → Stay layers (taken_in t s layers)
  taken_stays s layers e =
      let child = layer_of layers s in
      let parent = layer_of layers t in
      let r = merging child parent in
      let child_inside : is_below t child.space ≡ true = subst (λ u. is_below t u ≡ true) (sym (layer_named layers s)) e in
      let parent_inside : is_below t parent.space ≡ true = subst (λ u. is_below t u ≡ true) (sym (layer_named layers t)) (below_itself t) in
      let rest = filter (λ (l : Layer). not (is_under child.space l)) layers in
      all_put_stay (grafts s layers) (in_layer parent.space (joined (renamed_layer r child)) (in_layer child.space merged_away rest)) (grafts_inside s layers)
      ∙ change_stays parent.space (joined (renamed_layer r child)) (in_layer child.space merged_away rest) parent_inside (λ l. refl)
      ∙ change_stays child.space merged_away rest child_inside (λ l. refl)
      ∙ dropped_stays child.space layers child_inside

  -- What a space that is not below it sees, and its layer

  above_outside : (u : List ℕ) (l : Layer) → is_below t u ≡ false → is_below l.space u ≡ true → is_below t l.space ≡ false
  above_outside u l e f = elim (decide (is_below t l.space)) [
    | inl k ↦ absurd (not_both _ (below_trans t l.space u k f) e)
    | inr k ↦ k
  ]

  pub view_outside : (u : List ℕ) (layers : List Layer) → is_below t u ≡ false → view (outside t layers) u ≡ view layers u
  view_outside u layers e = flat_out (is_outside t) (λ (l : Layer). if is_below l.space u then l.tells else []) (λ l k. by l k (is_below l.space u) refl) layers
    where
      by : (l : Layer) → is_outside t l ≡ false → (b : Bool) → is_below l.space u ≡ b → (if is_below l.space u then l.tells else []) ≡ []
      by l k true f = absurd (not_both _ (ap not (above_outside u l e f)) k)
      by l k false f = rw f refl

  pub layer_outside : (u : List ℕ) (layers : List Layer) → is_below t u ≡ false → layer_at (outside t layers) u ≡ layer_at layers u
  layer_outside u layers e = find_filter (is_of u) (is_outside t) (λ l k. ap (λ v. not (is_below t v)) (equal_names l.space u k) ∙ ap not e) layers

  pub view_stays : (u : List ℕ) (before after : List Layer) → is_below t u ≡ false → Stay before after → view after u ≡ view before u
  view_stays u before after e n = sym (view_outside u after e) ∙ ap (λ ls. view ls u) n ∙ view_outside u before e

  pub layer_stays : (u : List ℕ) (before after : List Layer) → is_below t u ≡ false → Stay before after → layer_at after u ≡ layer_at before u
  layer_stays u before after e n = sym (layer_outside u after e) ∙ ap (λ ls. layer_at ls u) n ∙ layer_outside u before e

  -- a layer that is not below it was there
  pub among_before : (before after : List Layer) (l : Layer) → Stay before after → In l after → is_below t l.space ≡ false → In l before
  among_before before after l n i e =
      (filter_in (is_outside t) before l (subst (In l) n (in_filter (is_outside t) after l i (ap not e)))).0
