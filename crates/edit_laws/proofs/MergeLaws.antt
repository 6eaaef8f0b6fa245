-- A child that becomes a part of its parent leaves a tree.
use Rattle.std.proofs.Common.{◌≡◌, inl, inr, ℕ, ◌+◌, ◌-◌, ◌≤◌, Bool, true, false, not, if◌then◌else◌, List, [], ◌∷◌, ◌++◌, drop, filter, map, length, refl, sym, ap, ap₂, subst, ◌∙◌, arith, append_assoc, Some}
use Rattle.std.proofs.lemmas.List.{append-nil}
use Rattle.std.proofs.Math.Seq.{drop-append_seam}
use Rattle.oz_semantics.specs.Names.{is_properly_below, is_top, child_name}
use Rattle.oz_semantics.specs.Configurations.{is_of, layer_at, layer_of, in_layer, counting_child}
use Rattle.oz_semantics.specs.Renamings.{Renaming, renamed_layer}
use Rattle.oz_semantics.specs.Edits.{all_placed, is_under, raised_child, space_into, merging, joined, merged_away, taken_into}
use Rattle.oz_semantics.specs.declared.configuration.Layer.{Layer}
use Rattle.oz_laws.proofs.SameLaws.{In, In-from_contains, contains-from_In}
use Rattle.view_laws.specs.Trees.{is_ascending, IsGivenOut, IsTree}
use Rattle.view_laws.proofs.Members.{not_both}
use Rattle.view_laws.proofs.NameLaws.{properly}
use Rattle.view_laws.proofs.ListLaws.{map_in, in_map, filter_in, in_filter, in_edit, edit_in, edited_in, found_in}
use Rattle.view_laws.proofs.SightLaws.{space_of}
use Rattle.view_laws.proofs.TreeLaws.{names_edited, tree_changed, tree_left, last_apart}
use Rattle.edit_laws.specs.Edits.{HasChild, TakenTree}
use Rattle.edit_laws.proofs.NameLaws.{cons_head, cons_tail, append_cancel, goes_on_from, longer, properly_front, not_top_longer, Built, empty, more, built, child_of, child_front}
use Rattle.edit_laws.proofs.GraftLaws.{there_of, found_itself, IsCounted, number_given, AreApart, apart_mapped, in_all_put, old_all_put, new_all_put, tree_grafted}

-- the name of a space below the child
pub into_front : (s p : Layer) (n : ℕ) (u : List ℕ) → space_into s p (s.space ++ n ∷ u) ≡ p.space ++ (n + (p.next.child - 1)) ∷ u
into_front s p n u =
    ap (λ (b : Bool). if b then raised_child p.space (p.next.child - 1) (drop (length s.space) (s.space ++ n ∷ u)) else s.space ++ n ∷ u) (properly_front s.space n u)
    ∙ ap (raised_child p.space (p.next.child - 1)) (drop-append_seam s.space (n ∷ u))

-- a name properly below that of a space goes on with a number
pub record IsCut (space name : List ℕ) : Type 0 where
  pub number : ℕ
  pub rest : List ℕ
  pub whole : name ≡ space ++ number ∷ rest

pub cut_at : (space name : List ℕ) → is_properly_below space name ≡ true → IsCut space name
cut_at space name e = by (drop (length space) name) (goes_on_from space name (properly space name e).0)
  where
    by : (u : List ℕ) → name ≡ space ++ u → IsCut space name
    by [] k = absurd ((properly space name e).1 (sym (k ∙ append-nil space)))
    by (n ∷ u) k = record { number = n; rest = u; whole = k }

module _ (parent child : List ℕ) (layers : List Layer) (has : HasChild layers parent child) (t : IsTree layers) where
  abbrev p : Layer
  p = layer_of layers parent

  abbrev s : Layer
  s = layer_of layers child

  p_at : layer_at layers parent ≡ Some p
  p_at = there_of (layer_at layers parent) parent has.parent_there

  s_at : layer_at layers child ≡ Some s
  s_at = there_of (layer_at layers child) child has.child_there

  pub p_in : In p layers
  p_in = (found_in (is_of parent) counting_child layers p p_at).0

  pub s_in : In s layers
  s_in = (found_in (is_of child) counting_child layers s s_at).0

  pub p_named : p.space ≡ parent
  p_named = space_of layers parent p p_at

  pub s_named : s.space ≡ child
  s_named = space_of layers child s s_at

  abbrev raise : ℕ
  raise = p.next.child - 1

  p_begins : 1 ≤ p.next.child
  p_begins = t.begins p (contains-from_In layers p p_in)

  s_begins : 1 ≤ s.next.child
  s_begins = t.begins s (contains-from_In layers s s_in)

  -- the child's name
  pub s_child : (n : ℕ) × (s.space ≡ p.space ++ n ∷ [])
  s_child = let c = child_of parent child has.below in (c.0, s_named ∙ c.1 ∙ ap (λ u. child_name u c.0) (sym p_named))

  abbrev r : Renaming
  r = merging s p

  abbrev deep : Layer → Bool
  deep l = is_under s.space l

  abbrev is_left : Layer → Bool
  is_left l = not (is_under s.space l)

  -- What is not below the child

  abbrev left : List Layer
  left = filter is_left layers

  left_tree : IsTree left
  left_tree = tree_left s.space layers t

  not_deep : (m : Layer) → In m left → (n : ℕ) (q : List ℕ) → m.space ≡ s.space ++ n ∷ q → ⊥
  not_deep m i n q e =
      not_both _ (sym (ap (λ u. not (is_properly_below s.space u)) e) ∙ (filter_in is_left layers m i).1) (ap not (properly_front s.space n q))

  abbrev away : List Layer
  away = in_layer s.space merged_away left

  away_given : (m : Layer) → In m left → is_top m.space ≡ false → IsGivenOut away m.space
  away_given m i top =
      let g = left_tree.given m (contains-from_In left m i) top in
      record {
        parent = g.parent;
        among = contains-from_In away g.parent (elim (edit_in (is_of s.space) merged_away left g.parent (In-from_contains left g.parent g.among)) [
          | inl k ↦ k
          | inr e ↦ absurd (not_deep m i g.number [] (g.name ∙ ap (λ u. child_name u g.number) (space_of left s.space g.parent e)))
        ]);
        number = g.number;
        name = g.name;
        counted = g.counted;
        given = g.given;
      }

  away_tree : IsTree away
  away_tree = record {
    ordered = ap is_ascending (names_edited (is_of s.space) merged_away left (λ l e. refl)) ∙ left_tree.ordered;
    begins = λ m c. elim (in_edit (is_of s.space) merged_away left m (In-from_contains away m c)) [
      | inl i ↦ left_tree.begins m (contains-from_In left m i)
      | inr e ↦ subst (λ (l : Layer). 1 ≤ l.next.child) (sym e.2) (omega arith)
    ];
    given = λ m c top. elim (in_edit (is_of s.space) merged_away left m (In-from_contains away m c)) [
      | inl i ↦ away_given m i top
      | inr e ↦ (let same : m.space ≡ e.0.space = ap (λ (l : Layer). l.space) e.2 in
          subst (IsGivenOut away) (sym same) (away_given e.0 (found_in (is_of s.space) merged_away left e.0 e.1).0 (sym (ap is_top same) ∙ top)))
    ];
  }

  -- The parent with what was in the child

  abbrev join : Layer → Layer
  join l = joined (renamed_layer r s) l

  abbrev base : List Layer
  base = in_layer p.space join away

  base_tree : IsTree base
  base_tree = tree_changed p.space join away (λ l e. (refl, omega arith)) away_tree

  p_left : In p left
  p_left = in_filter is_left layers p p_in (by (is_properly_below s.space p.space) refl)
    where
      by : (b : Bool) → is_properly_below s.space p.space ≡ b → not b ≡ true
      by true e =
          let c = cut_at s.space p.space e in
          absurd (longer p.space s_child.0 (c.number ∷ c.rest) (c.whole ∙ ap (λ u. u ++ c.number ∷ c.rest) s_child.1 ∙ append_assoc p.space (s_child.0 ∷ []) (c.number ∷ c.rest)))
      by false e = refl

  p_away : In p away
  p_away = elim (edit_in (is_of s.space) merged_away left p p_left) [
    | inl i ↦ i
    | inr e ↦ absurd (longer p.space s_child.0 [] (space_of left s.space p e ∙ s_child.1))
  ]

  p_base : In (join p) base
  p_base = edited_in (is_of p.space) join away p (found_itself away p away_tree.ordered p_away)

  -- each of these layers is of a space that was left
  base_from : (m : Layer) → In m base → (x : Layer) × In x left × (x.space ≡ m.space)
  base_from m i = elim (in_edit (is_of p.space) join away m i) [
    | inl j ↦ from_away m j
    | inr e ↦ (let x = from_away e.0 (found_in (is_of p.space) join away e.0 e.1).0 in (x.0, x.1, x.2 ∙ sym (ap (λ (l : Layer). l.space) e.2)))
  ]
    where
      from_away : (m : Layer) → In m away → (x : Layer) × In x left × (x.space ≡ m.space)
      from_away m i = elim (in_edit (is_of s.space) merged_away left m i) [
        | inl j ↦ (m, j, refl)
        | inr e ↦ (e.0, (found_in (is_of s.space) merged_away left e.0 e.1).0, sym (ap (λ (l : Layer). l.space) e.2))
      ]

  -- What was below the child

  abbrev take : Layer → Layer
  take l = renamed_layer r l

  abbrev taken : List Layer
  taken = map take (filter deep layers)

  abbrev after : List Layer
  after = all_placed taken base

  take_name : (l : Layer) (n : ℕ) (u : List ℕ) → l.space ≡ s.space ++ n ∷ u → (take l).space ≡ p.space ++ (n + raise) ∷ u
  take_name l n u e = ap (space_into s p) e ∙ into_front s p n u

  deep_counted : (l : Layer) → In l layers → (c : IsCut s.space l.space) → IsCounted s c.number
  deep_counted l i c = number_given layers t s s_in c.number c.rest l i c.whole

  taken_apart : AreApart taken
  taken_apart = apart_mapped take deep same layers t.ordered
    where
      same : (x y : Layer) → deep x ≡ true → deep y ≡ true → (take x).space ≡ (take y).space → x.space ≡ y.space
      same x y a b e =
          let c = cut_at s.space x.space a in
          let d = cut_at s.space y.space b in
          let names : p.space ++ (c.number + raise) ∷ c.rest ≡ p.space ++ (d.number + raise) ∷ d.rest = sym (take_name x c.number c.rest c.whole) ∙ e ∙ take_name y d.number d.rest d.whole in
          let tails : (c.number + raise) ∷ c.rest ≡ (d.number + raise) ∷ d.rest = append_cancel p.space ((c.number + raise) ∷ c.rest) ((d.number + raise) ∷ d.rest) names in
          let heads = cons_head (c.number + raise) (d.number + raise) c.rest d.rest tails in
          let number : c.number ≡ d.number = omega (arith, heads) in
          c.whole ∙ ap₂ (λ n u. s.space ++ n ∷ u) number (cons_tail (c.number + raise) (d.number + raise) c.rest d.rest tails) ∙ sym d.whole

  -- the new names are new
  pub name_fresh : (l : Layer) → In l layers → (n : ℕ) (u : List ℕ) → 1 ≤ n → l.space ≡ p.space ++ (n + raise) ∷ u → ⊥
  name_fresh l i n u low e =
      let k = number_given layers t p p_in (n + raise) u l i e in
      let less = k.given in
      let one = p_begins in
      absurd (omega (arith, low, less, one))

  base_fresh : (m : Layer) → In m base → (n : ℕ) (u : List ℕ) → 1 ≤ n → m.space ≡ p.space ++ (n + raise) ∷ u → ⊥
  base_fresh m i n u low e = let x = base_from m i in name_fresh x.0 (filter_in is_left layers x.0 x.1).0 n u low (x.2 ∙ e)

  -- where a layer comes from that was below the child
  record IsTaken (m : Layer) : Type 0 where
    from : Layer
    among : In from layers
    name : IsCut s.space from.space
    is : take from ≡ m
    counted : 1 ≤ name.number
    new : m.space ≡ p.space ++ (name.number + raise) ∷ name.rest

  taken_from : (m : Layer) → In m taken → IsTaken m
  taken_from m i =
      let x = in_map take (filter deep layers) m i in
      let y = filter_in deep layers x.0 x.1 in
      let c = cut_at s.space x.0.space y.1 in
      record {
        from = x.0;
        among = y.0;
        name = c;
        is = x.2;
        counted = (deep_counted x.0 y.0 c).counted;
        new = sym (ap (λ (l : Layer). l.space) x.2) ∙ take_name x.0 c.number c.rest c.whole;
      }

  taken_fresh : (n m : Layer) → In n taken → In m base → m.space ≡ n.space → ⊥
  taken_fresh n m i j e = let x = taken_from n i in base_fresh m j x.name.number x.name.rest x.counted (e ∙ x.new)

  taken_begin : (n : Layer) → In n taken → 1 ≤ n.next.child
  taken_begin n i =
      let x = in_map take (filter deep layers) n i in
      subst (λ (l : Layer). 1 ≤ l.next.child) x.2 (t.begins x.0 (contains-from_In layers x.0 (filter_in deep layers x.0 x.1).0))

  given_built : (l : Layer) → In l layers → (n : ℕ) (u : List ℕ) → l.space ≡ s.space ++ n ∷ u → Built u → IsGivenOut after (take l).space
  given_built l i n u e (empty k) =
      let c = number_given layers t s s_in n u l i e in
      let low = c.counted in
      let high = c.given in
      let one = p_begins in
      let other = s_begins in
      record {
        parent = join p;
        among = contains-from_In after (join p) (old_all_put taken base (join p) p_base);
        number = n + raise;
        name = take_name l n u e ∙ ap (λ v. p.space ++ (n + raise) ∷ v) k;
        counted = omega (arith, low);
        given = omega (arith, high, one, other);
      }
  given_built l i n u e (more {front = front} last k b) =
      let whole : l.space ≡ child_name (s.space ++ n ∷ front) last = e ∙ ap (λ v. s.space ++ n ∷ v) k ∙ sym (child_front s.space (n ∷ front) last) in
      let g = t.given l (contains-from_In layers l i) (ap is_top e ∙ not_top_longer s.space n u) in
      let q = last_apart g.parent.space (s.space ++ n ∷ front) g.number last (sym g.name ∙ whole) in
      record {
        parent = take g.parent;
        among = contains-from_In after (take g.parent)
            (new_all_put taken base (take g.parent)
            (map_in take (filter deep layers) g.parent (in_filter deep layers g.parent (In-from_contains layers g.parent g.among) (ap (is_properly_below s.space) q.0 ∙ properly_front s.space n front))));
        number = g.number;
        name = take_name l n u e ∙ ap (λ v. p.space ++ (n + raise) ∷ v) (k ∙ ap (λ m. front ++ m ∷ []) (sym q.1)) ∙ sym (child_front p.space ((n + raise) ∷ front) g.number)
            ∙ ap (λ v. child_name v g.number) (sym (take_name g.parent n front q.0));
        counted = g.counted;
        given = g.given;
      }

  taken_given : (n : Layer) → In n taken → is_top n.space ≡ false → IsGivenOut after n.space
  taken_given n i top =
      let x = in_map take (filter deep layers) n i in
      let y = filter_in deep layers x.0 x.1 in
      let c = cut_at s.space x.0.space y.1 in
      subst (λ (l : Layer). IsGivenOut after l.space) x.2 (given_built x.0 y.0 c.number c.rest c.whole (built c.rest))

  -- What is there

  pub take_goes : (n : ℕ) (u : List ℕ) (l : Layer) → In l layers → l.space ≡ s.space ++ n ∷ u → In (take l) after × ((take l).space ≡ p.space ++ (n + raise) ∷ u)
  take_goes n u l i e = (
    new_all_put taken base (take l) (map_in take (filter deep layers) l (in_filter deep layers l i (ap (is_properly_below s.space) e ∙ properly_front s.space n u))),
    take_name l n u e,
  )

  pub take_comes : (n : ℕ) (u : List ℕ) → 1 ≤ n → (m : Layer) → In m after → m.space ≡ p.space ++ (n + raise) ∷ u → (l : Layer) × In l layers × (l.space ≡ s.space ++ n ∷ u)
  take_comes n u low m i e = elim (in_all_put taken base m i) [
    | inl j ↦ (let x = taken_from m j in (x.from, x.among, x.name.whole ∙ same x.name.number x.name.rest (sym x.new ∙ e)))
    | inr j ↦ absurd (base_fresh m j n u low e)
  ]
    where
      same : (k : ℕ) (v : List ℕ) → p.space ++ (k + raise) ∷ v ≡ p.space ++ (n + raise) ∷ u → s.space ++ k ∷ v ≡ s.space ++ n ∷ u
      same k v f =
          let tails : (k + raise) ∷ v ≡ (n + raise) ∷ u = append_cancel p.space ((k + raise) ∷ v) ((n + raise) ∷ u) f in
          let heads = cons_head (k + raise) (n + raise) v u tails in
          let number : k ≡ n = omega (arith, heads) in
          ap₂ (λ a b. s.space ++ a ∷ b) number (cons_tail (k + raise) (n + raise) v u tails)

  -- a name properly below that of the child is of no layer
  pub under_gone : (m : Layer) → In m after → (k : ℕ) (q : List ℕ) → m.space ≡ s.space ++ k ∷ q → ⊥
  under_gone m i k q e = elim (in_all_put taken base m i) [
    | inl j ↦ (let x = taken_from m j in
        let own = number_given layers t p p_in s_child.0 [] s s_in s_child.1 in
        let names : p.space ++ (x.name.number + raise) ∷ x.name.rest ≡ p.space ++ s_child.0 ∷ (k ∷ q) =
        sym x.new ∙ e ∙ ap (λ u. u ++ k ∷ q) s_child.1 ∙ append_assoc p.space (s_child.0 ∷ []) (k ∷ q) in
        let heads = cons_head (x.name.number + raise) s_child.0 x.name.rest (k ∷ q) (append_cancel p.space ((x.name.number + raise) ∷ x.name.rest) (s_child.0 ∷ (k ∷ q)) names) in
        let low = x.counted in
        let less = own.given in
        let one = p_begins in
        absurd (omega (arith, low, less, one, heads)))
    | inr j ↦ (let x = base_from m j in not_deep x.0 x.1 k q (x.2 ∙ e))
  ]

  -- a layer that is left, of another space than the child and the parent, stays
  pub left_stays : (l : Layer) → In l layers → is_left l ≡ true → (l.space ≡ s.space → ⊥) → (l.space ≡ p.space → ⊥) → In l after
  left_stays l i e apart other = old_all_put taken base l (in_base (in_away (in_filter is_left layers l i e)))
    where
      in_away : In l left → In l away
      in_away j = elim (edit_in (is_of s.space) merged_away left l j) [ inl k ↦ k | inr k ↦ absurd (apart (space_of left s.space l k)) ]

      in_base : In l away → In l base
      in_base j = elim (edit_in (is_of p.space) join away l j) [ inl k ↦ k | inr k ↦ absurd (other (space_of away p.space l k)) ]

  s_left : In s left
  s_left = in_filter is_left layers s s_in (by (is_properly_below s.space s.space) refl)
    where
      by : (b : Bool) → is_properly_below s.space s.space ≡ b → not b ≡ true
      by true e = absurd ((properly s.space s.space e).1 refl)
      by false e = refl

  pub child_stays : In (merged_away s) after
  child_stays = old_all_put taken base (merged_away s) (elim (edit_in (is_of p.space) join away (merged_away s) (edited_in (is_of s.space) merged_away left s (found_itself left s left_tree.ordered s_left))) [
    | inl k ↦ k
    | inr k ↦ absurd (longer p.space s_child.0 [] (sym (space_of away p.space (merged_away s) k) ∙ s_child.1))
  ])

  pub parent_stays : In (join p) after
  parent_stays = old_all_put taken base (join p) p_base

  -- what is at the numbers of the child
  pub deep_number : (l : Layer) → In l layers → (n : ℕ) (u : List ℕ) → l.space ≡ s.space ++ n ∷ u → 1 ≤ n
  deep_number l i n u e = (number_given layers t s s_in n u l i e).counted

  pub taken_name : (m : Layer) → In m taken → (n : ℕ) × (u : List ℕ) × (1 ≤ n) × (m.space ≡ p.space ++ (n + raise) ∷ u)
  taken_name m i = let x = taken_from m i in (x.name.number, x.name.rest, x.counted, x.new)

  pub taken_is_tree : IsTree (taken_into s p layers)
  taken_is_tree = tree_grafted taken base base_tree taken_apart taken_fresh taken_begin taken_given

pub taken_tree : TakenTree
taken_tree parent child layers has t = taken_is_tree parent child layers has t
