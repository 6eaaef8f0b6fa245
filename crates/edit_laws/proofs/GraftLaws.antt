-- Layers of a tree, and layers that are put into one.
use Rattle.std.proofs.Common.{◌≡◌, ◌⊎◌, inl, inr, ℕ, ◌<◌, ◌≤◌, Bool, true, false, cond, List, [], ◌∷◌, ◌++◌, filter, map, refl, sym, ap, subst, ◌∙◌, arith, Option, Some, None, is_some, unwrap_or}
use Rattle.std.specs.List.{find}
use Rattle.std.proofs.lemmas.Bool.{false≢true}
use Rattle.oz_base.specs.Lists.{list_eq, put_before}
use Rattle.oz_semantics.specs.Names.{is_top, space_lt}
use Rattle.oz_semantics.specs.Configurations.{is_of, layer_at, new_layer, placed}
use Rattle.oz_semantics.specs.Edits.{all_placed}
use Rattle.oz_semantics.specs.declared.configuration.Layer.{Layer}
use Rattle.oz_laws.proofs.SameLaws.{In, In-from_contains, contains-from_In, and-right}
use Rattle.view_laws.specs.Trees.{is_ascending, names_of, IsGivenOut, IsTree}
use Rattle.view_laws.proofs.Members.{not_both}
use Rattle.view_laws.proofs.NameLaws.{names_equal}
use Rattle.view_laws.proofs.ListLaws.{filter_in, in_map}
use Rattle.view_laws.proofs.SightLaws.{of_space}
use Rattle.view_laws.proofs.TreeLaws.{in_put, put_in, ascending_put, one_of_name, same_named_layer, last_apart, given_in}
use Rattle.edit_laws.proofs.NameLaws.{Built, empty, more, built, not_top_longer, child_front}

-- Looking up

pub there_of : (o : Option Layer) (u : List ℕ) → is_some o ≡ true → o ≡ Some (unwrap_or o (new_layer u))
there_of None u e = absurd (false≢true e)
there_of (Some p) u e = refl

in_found : (ls : List Layer) (m : Layer) → In m ls → is_some (layer_at ls m.space) ≡ true
in_found [] m h = elim h [ ]
in_found (l ∷ ls) m h = by (is_of m.space l) refl h (in_found ls m)
  where
    by : (b : Bool) → is_of m.space l ≡ b → In m (l ∷ ls) → (In m ls → is_some (layer_at ls m.space) ≡ true) → is_some (cond b (Some l) (find (is_of m.space) ls)) ≡ true
    by true e k rest = refl
    by false e (inl k) rest = absurd (not_both _ (ap (λ (n : Layer). list_eq n.space m.space) k ∙ names_equal m.space) e)
    by false e (inr k) rest = rest k

-- where a layer of the name is there, one is found
pub has_of_in : (ls : List Layer) (m : Layer) (u : List ℕ) → In m ls → m.space ≡ u → is_some (layer_at ls u) ≡ true
has_of_in ls m u h e = subst (λ v. is_some (layer_at ls v) ≡ true) e (in_found ls m h)

-- and it is the only one of it
pub found_itself : (ls : List Layer) (m : Layer) → is_ascending (names_of ls) ≡ true → In m ls → layer_at ls m.space ≡ Some m
found_itself [] m e h = elim h [ ]
found_itself (l ∷ ls) m e h = by (is_of m.space l) refl h (found_itself ls m (and-right _ _ e))
  where
    by : (b : Bool) → is_of m.space l ≡ b → In m (l ∷ ls) → (In m ls → layer_at ls m.space ≡ Some m) → cond b (Some l) (find (is_of m.space) ls) ≡ Some m
    by true k (inl q) rest = ap (λ (n : Layer). Some n) q
    by true k (inr q) rest = absurd (one_of_name l ls m e q (sym (of_space m.space l k)))
    by false k (inl q) rest = absurd (not_both _ (ap (λ (n : Layer). list_eq n.space m.space) q ∙ names_equal m.space) k)
    by false k (inr q) rest = rest q

-- The numbers that a space gave out

pub record IsCounted (l : Layer) (n : ℕ) : Type 0 where
  pub counted : 1 ≤ n
  pub given : n < l.next.child

-- a name goes on from that of a space with a number that this gave out
module _ (layers : List Layer) (t : IsTree layers) (l : Layer) (i : In l layers) where
  number_built : (n : ℕ) (rest : List ℕ) → Built rest → (m : Layer) → In m layers → m.space ≡ l.space ++ n ∷ rest → IsCounted l n
  number_built n rest (empty e) m j q =
      let g = t.given m (contains-from_In layers m j) (ap is_top q ∙ not_top_longer l.space n rest) in
      let r = last_apart g.parent.space l.space g.number n (sym g.name ∙ q ∙ ap (λ u. l.space ++ n ∷ u) e) in
      let same : g.parent ≡ l = same_named_layer layers g.parent l t.ordered (In-from_contains layers g.parent g.among) i r.0 in
      let counted = g.counted in
      let less : g.number < l.next.child = subst (λ (p : Layer). g.number < p.next.child) same g.given in
      let equal = r.1 in
      record { counted = omega (arith, counted, equal); given = omega (arith, less, equal) }
  number_built n rest (more {front = front} last e b) m j q =
      let g = t.given m (contains-from_In layers m j) (ap is_top q ∙ not_top_longer l.space n rest) in
      let r = last_apart g.parent.space (l.space ++ n ∷ front) g.number last (sym g.name ∙ q ∙ ap (λ u. l.space ++ n ∷ u) e ∙ sym (child_front l.space (n ∷ front) last)) in
      number_built n front b g.parent (In-from_contains layers g.parent g.among) r.0

  pub number_given : (n : ℕ) (rest : List ℕ) (m : Layer) → In m layers → m.space ≡ l.space ++ n ∷ rest → IsCounted l n
  number_given n rest m j q = number_built n rest (built rest) m j q

-- Layers put among others

new_put : {A : Type 0} (test : A → Bool) (new : A) (xs : List A) → In new (put_before test new xs)
new_put test new [] = inl refl
new_put {A = A} test new (y ∷ ys) = by (test y) (new_put test new ys)
  where
    by : (b : Bool) → In new (put_before test new ys) → In new (cond b (new ∷ y ∷ ys) (y ∷ put_before test new ys))
    by true rest = inl refl
    by false rest = inr rest

abbrev pub is_before : Layer → Layer → Bool
is_before n other = space_lt n.space other.space

pub in_all_put : (ns ls : List Layer) (m : Layer) → In m (all_placed ns ls) → In m ns ⊎ In m ls
in_all_put [] ls m i = inr i
in_all_put (n ∷ ns) ls m i = elim (in_all_put ns (placed n ls) m i) [
  | inl j ↦ inl (inr j)
  | inr j ↦ elim (in_put (is_before n) n ls m j) [ inl q ↦ inl (inl (sym q)) | inr q ↦ inr q ]
]

pub old_all_put : (ns ls : List Layer) (m : Layer) → In m ls → In m (all_placed ns ls)
old_all_put [] ls m i = i
old_all_put (n ∷ ns) ls m i = old_all_put ns (placed n ls) m (put_in (is_before n) n ls m i)

pub new_all_put : (ns ls : List Layer) (m : Layer) → In m ns → In m (all_placed ns ls)
new_all_put [] ls m i = elim i [ ]
new_all_put (n ∷ ns) ls m (inl q) = subst (λ (k : Layer). In k (all_placed (n ∷ ns) ls)) q (old_all_put ns (placed n ls) n (new_put (is_before n) n ls))
new_all_put (n ∷ ns) ls m (inr i) = new_all_put ns (placed n ls) m i

-- no two have one name
abbrev pub AreApart : List Layer → Type 0
AreApart [] = Unit {0}
AreApart (n ∷ ns) = ((m : Layer) → In m ns → m.space ≡ n.space → ⊥) × AreApart ns

pub ascending_all_put : (ns ls : List Layer) → is_ascending (names_of ls) ≡ true → AreApart ns → ((n m : Layer) → In n ns → In m ls → m.space ≡ n.space → ⊥) → is_ascending (names_of (all_placed ns ls)) ≡ true
ascending_all_put [] ls e a fresh = e
ascending_all_put (n ∷ ns) ls e a fresh =
    ascending_all_put ns (placed n ls) (ascending_put n ls e (λ m i. fresh n m (inl refl) i)) a.1
    (λ q m i j k. elim (in_put (is_before n) n ls m j) [
      | inl r ↦ a.0 q i (sym k ∙ ap (λ (x : Layer). x.space) r)
      | inr r ↦ fresh q m (inr i) r k
    ])

-- layers under other names have different names if they had
pub apart_mapped : (f : Layer → Layer) (keep : Layer → Bool) → ((x y : Layer) → keep x ≡ true → keep y ≡ true → (f x).space ≡ (f y).space → x.space ≡ y.space)
    → (ls : List Layer) → is_ascending (names_of ls) ≡ true → AreApart (map f (filter keep ls))
apart_mapped f keep h [] e = tt
apart_mapped f keep h (l ∷ ls) e = by (keep l) refl (apart_mapped f keep h ls (and-right _ _ e))
  where
    by : (b : Bool) → keep l ≡ b → AreApart (map f (filter keep ls)) → AreApart (map f (cond b (l ∷ filter keep ls) (filter keep ls)))
    by true k rest = (
      λ m i q.
          let x = in_map f (filter keep ls) m i in
          let y = filter_in keep ls x.0 x.1 in
          one_of_name l ls x.0 e y.0 (h x.0 l y.1 k (ap (λ (n : Layer). n.space) x.2 ∙ q)),
      rest,
    )
    by false k rest = rest

-- A tree stays one where new layers are put into it whose names are new, and were given out by one of the old or the new
module _ (ns ls : List Layer) (t : IsTree ls) (apart : AreApart ns) (fresh : (n m : Layer) → In n ns → In m ls → m.space ≡ n.space → ⊥) (begins : (n : Layer) → In n ns → 1 ≤ n.next.child)
    (given : (n : Layer) → In n ns → is_top n.space ≡ false → IsGivenOut (all_placed ns ls) n.space) where
  given_among : (m : Layer) → In m (all_placed ns ls) → is_top m.space ≡ false → IsGivenOut (all_placed ns ls) m.space
  given_among m h top = elim (in_all_put ns ls m h) [
    | inl i ↦ given m i top
    | inr i ↦ given_in ls (all_placed ns ls) m.space (λ p j. (p, old_all_put ns ls p j, refl, omega arith)) (t.given m (contains-from_In ls m i) top)
  ]

  begins_among : (m : Layer) → In m (all_placed ns ls) → 1 ≤ m.next.child
  begins_among m h = elim (in_all_put ns ls m h) [ inl i ↦ begins m i | inr i ↦ t.begins m (contains-from_In ls m i) ]

  pub tree_grafted : IsTree (all_placed ns ls)
  tree_grafted = record {
    ordered = ascending_all_put ns ls t.ordered apart fresh;
    begins = λ m c. begins_among m (In-from_contains (all_placed ns ls) m c);
    given = λ m c top. given_among m (In-from_contains (all_placed ns ls) m c) top;
  }
