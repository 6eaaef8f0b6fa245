-- A copy of a child leaves a tree.
use Rattle.std.proofs.Common.{◌≡◌, inl, inr, ℕ, ◌≤◌, true, false, List, [], ◌∷◌, ◌++◌, drop, filter, map, length, refl, sym, ap, subst, ◌∙◌, arith, append_assoc, Some}
use Rattle.std.proofs.lemmas.List.{append-nil}
use Rattle.oz_base.specs.Lists.{list_eq}
use Rattle.oz_semantics.specs.Names.{is_below, is_top, parent_of, child_name}
use Rattle.oz_semantics.specs.Configurations.{is_of, layer_at, layer_of, in_layer, next_child, counting_child}
use Rattle.oz_semantics.specs.Renamings.{Renaming, renamed_layer}
use Rattle.oz_semantics.specs.Edits.{starting, all_placed, is_in, moved, moving}
use Rattle.oz_semantics.specs.declared.configuration.Layer.{Layer}
use Rattle.oz_laws.proofs.SameLaws.{In, In-from_contains, contains-from_In}
use Rattle.view_laws.specs.Trees.{IsGivenOut, IsTree}
use Rattle.view_laws.proofs.Members.{decide, not_both}
use Rattle.view_laws.proofs.NameLaws.{equal_names, above_parent}
use Rattle.view_laws.proofs.ListLaws.{map_in, in_map, filter_in, in_filter, in_edit, edited_in, found_in}
use Rattle.view_laws.proofs.TreeLaws.{tree_changed}
use Rattle.edit_laws.specs.Edits.{HasChild, InjectedTree, CopiedTree}
use Rattle.edit_laws.proofs.NameLaws.{append_cancel, goes_on_from, not_above_top, parent_child, below_front, moved_front, child_front}
use Rattle.edit_laws.proofs.GraftLaws.{there_of, number_given, AreApart, apart_mapped, in_all_put, old_all_put, new_all_put, tree_grafted}

pub injected_tree : InjectedTree
injected_tree space procedure layers t = tree_changed space (starting procedure) layers (λ l e. (refl, omega arith)) t

module _ (parent child : List ℕ) (layers : List Layer) (has : HasChild layers parent child) (t : IsTree layers) where
  abbrev p : Layer
  p = layer_of layers parent

  p_at : layer_at layers parent ≡ Some p
  p_at = there_of (layer_at layers parent) parent has.parent_there

  p_in : In p layers
  p_in = (found_in (is_of parent) counting_child layers p p_at).0

  abbrev new : List ℕ
  new = next_child p

  abbrev base : List Layer
  base = in_layer parent counting_child layers

  base_tree : IsTree base
  base_tree = tree_changed parent counting_child layers (λ l e. (refl, omega arith)) t

  -- nothing is of the new name or below it
  fresh : (u : List ℕ) (m : Layer) → In m base → m.space ≡ new ++ u → ⊥
  fresh u m i e = elim (in_edit (is_of parent) counting_child layers m i) [
    | inl k ↦ before m k e
    | inr r ↦ before r.0 (found_in (is_of parent) counting_child layers r.0 r.1).0 (ap (λ (l : Layer). l.space) (sym r.2) ∙ e)
  ]
    where
      before : (m : Layer) → In m layers → m.space ≡ new ++ u → ⊥
      before m i e =
          let c = number_given layers t p p_in p.next.child u m i (e ∙ append_assoc p.space (p.next.child ∷ []) u) in
          let less = c.given in
          absurd (omega (arith, less))

  abbrev r : Renaming
  r = moving child new

  abbrev copy : Layer → Layer
  copy l = renamed_layer r l

  abbrev copies : List Layer
  copies = map copy (filter (is_in child) layers)

  abbrev after : List Layer
  after = all_placed copies base

  cut : (l : Layer) → is_in child l ≡ true → l.space ≡ child ++ drop (length child) l.space
  cut l e = goes_on_from child l.space e

  -- what a copy is called
  named_from : (u : List ℕ) (l : Layer) → l.space ≡ child ++ u → (copy l).space ≡ new ++ u
  named_from u l e = ap (moved child new) e ∙ moved_front child new u

  copy_name : (l : Layer) → is_in child l ≡ true → (copy l).space ≡ new ++ drop (length child) l.space
  copy_name l e = named_from (drop (length child) l.space) l (cut l e)

  copies_apart : AreApart copies
  copies_apart =
      apart_mapped copy (is_in child)
      (λ x y a b e. cut x a ∙ ap (λ u. child ++ u) (append_cancel new (drop (length child) x.space) (drop (length child) y.space) (sym (copy_name x a) ∙ e ∙ copy_name y b)) ∙ sym (cut y b))
      layers t.ordered

  copies_fresh : (n m : Layer) → In n copies → In m base → m.space ≡ n.space → ⊥
  copies_fresh n m i j e =
      let x = in_map copy (filter (is_in child) layers) n i in
      let y = filter_in (is_in child) layers x.0 x.1 in
      fresh (drop (length child) x.0.space) m j (e ∙ sym (ap (λ (l : Layer). l.space) x.2) ∙ copy_name x.0 y.1)

  copies_begin : (n : Layer) → In n copies → 1 ≤ n.next.child
  copies_begin n i =
      let x = in_map copy (filter (is_in child) layers) n i in
      subst (λ (l : Layer). 1 ≤ l.next.child) x.2 (t.begins x.0 (contains-from_In layers x.0 (filter_in (is_in child) layers x.0 x.1).0))

  -- the copy of the child is a child of the parent
  given_child : (l : Layer) → l.space ≡ child → IsGivenOut after (copy l).space
  given_child l e = record {
    parent = counting_child p;
    among = contains-from_In after (counting_child p) (old_all_put copies base (counting_child p) (edited_in (is_of parent) counting_child layers p p_at));
    number = p.next.child;
    name = named_from [] l (e ∙ sym (append-nil child)) ∙ append-nil new;
    counted = t.begins p (contains-from_In layers p p_in);
    given = omega arith;
  }

  -- and what is below it is in the copy of its parent
  given_below : (l : Layer) → In l layers → is_in child l ≡ true → list_eq child l.space ≡ false → IsGivenOut after (copy l).space
  given_below l i e other = record {
    parent = copy g.parent;
    among = contains-from_In after (copy g.parent)
        (new_all_put copies base (copy g.parent) (map_in copy (filter (is_in child) layers) g.parent (in_filter (is_in child) layers g.parent (In-from_contains layers g.parent g.among) inside)));
    number = g.number;
    name = named_from (front ++ g.number ∷ []) l (g.name ∙ ap (λ u. child_name u g.number) (cut g.parent inside) ∙ child_front child front g.number)
        ∙ sym (child_front new front g.number) ∙ ap (λ u. child_name u g.number) (sym (copy_name g.parent inside));
    counted = g.counted;
    given = g.given;
  }
    where
      not_top : is_top l.space ≡ false
      not_top = by l.space e other
        where
          by : (u : List ℕ) → is_below child u ≡ true → list_eq child u ≡ false → is_top u ≡ false
          by [] a b = absurd (not_both _ (subst (λ v. list_eq v [] ≡ true) (sym (not_above_top child a)) refl) b)
          by (n ∷ u) a b = refl

      g : IsGivenOut layers l.space
      g = t.given l (contains-from_In layers l i) not_top

      inside : is_in child g.parent ≡ true
      inside = ap (is_below child) (sym (parent_child g.parent.space g.number) ∙ ap parent_of (sym g.name)) ∙ sym (above_parent child l.space other) ∙ e

      front : List ℕ
      front = drop (length child) g.parent.space

  copies_given : (n : Layer) → In n copies → is_top n.space ≡ false → IsGivenOut after n.space
  copies_given n i top =
      let x = in_map copy (filter (is_in child) layers) n i in
      let y = filter_in (is_in child) layers x.0 x.1 in
      subst (λ (l : Layer). IsGivenOut after l.space) x.2
      (elim (decide (list_eq child x.0.space)) [
        | inl k ↦ given_child x.0 (sym (equal_names child x.0.space k))
        | inr k ↦ given_below x.0 y.0 y.1 k
      ])

  -- The layers of the copy are those of the child

  pub copy_goes : (u : List ℕ) (l : Layer) → In l layers → l.space ≡ child ++ u → In (copy l) after × ((copy l).space ≡ new ++ u)
  copy_goes u l i e = (
    new_all_put copies base (copy l) (map_in copy (filter (is_in child) layers) l (in_filter (is_in child) layers l i (ap (is_below child) e ∙ below_front child u))),
    named_from u l e,
  )

  pub copy_comes : (u : List ℕ) (m : Layer) → In m after → m.space ≡ new ++ u → (l : Layer) × In l layers × (l.space ≡ child ++ u)
  copy_comes u m i e = elim (in_all_put copies base m i) [
    | inl j ↦ (let x = in_map copy (filter (is_in child) layers) m j in
        let y = filter_in (is_in child) layers x.0 x.1 in
        (x.0, y.0, cut x.0 y.1 ∙ ap (λ v. child ++ v) (append_cancel new (drop (length child) x.0.space) u (sym (copy_name x.0 y.1) ∙ ap (λ (l : Layer). l.space) x.2 ∙ e))))
    | inr j ↦ absurd (fresh u m j e)
  ]

  pub copied_is_tree : IsTree after
  copied_is_tree = tree_grafted copies base base_tree copies_apart copies_fresh copies_begin copies_given

pub copied_tree : CopiedTree
copied_tree parent child layers has t = copied_is_tree parent child layers has t
