-- Paths, and the alternatives to which they lead.
use Rattle.std.proofs.Common.{Less, Equal, Greater, ⊎_elim, ◌≡◌, ℕ, zero, suc, ◌≤◌, Bool, true, false, ◌||◌, List, [], ◌∷◌, ◌++◌, refl, ap, sym, ◌∙◌, arith, eqb-true, eq-eqb}
use lib.Dec.{leb}
use Rattle.std.specs.Ordering.{ordering_then}
use Rattle.std.specs.declared.cmp.Ordering.{Ordering}
use Rattle.std.proofs.lemmas.Bool.Decides.{nat_tests}
use Rattle.std.proofs.lemmas.Bool.{or_left, or_right, or_cases, and_parts, both_ways}
use Rattle.std.proofs.lemmas.Slice.Eq.{slice_eq-Decides}
use Rattle.oz_search.specs.Searches.{Search}
use Rattle.oz_search.specs.Paths.{Taking, same_path, path_cmp, is_among, is_child, same_alternative}
use Rattle.search_law.proofs.Settings.{Setting}
use Rattle.search_law.proofs.Booleans.{one_end}

module _ {B L : Type 0} (its : Setting B L) where
  abbrev k : Search B L
  k = its.k

  abbrev branch : Taking B
  branch = its.branch

  -- ---- equal paths
  pub same_is : (p q : List B) → same_path k p q ≡ true → p ≡ q
  same_is p q e = (slice_eq-Decides its.is.exact p q (same_path k p q) refl).0 e

  pub is_same : (p q : List B) → p ≡ q → same_path k p q ≡ true
  is_same p q e = (slice_eq-Decides its.is.exact p q (same_path k p q) refl).1 e

  pub same_itself : (p : List B) → same_path k p p ≡ true
  same_itself p = is_same p p refl

  pub branch_itself : (b : B) → k.same b b ≡ true
  branch_itself b = (its.is.exact b b).1 refl

  pub branch_is : (b c : B) → k.same b c ≡ true → b ≡ c
  branch_is b c e = (its.is.exact b c).0 e

  tied_then : (x y : B) (r : Ordering) → ordering_then (k.cmp x y) r ≡ Equal → (x ≡ y) × (r ≡ Equal)
  tied_then x y r e = by (k.cmp x y) refl e
    where
      by : (o : Ordering) → k.cmp x y ≡ o → ordering_then o r ≡ Equal → (x ≡ y) × (r ≡ Equal)
      by Less i g = absurd (cc (g))
      by Equal i g = (its.is.tied x y i, g)
      by Greater i g = absurd (cc (g))

  pub exact_path : (p q : List B) → path_cmp k p q ≡ Equal → p ≡ q
  exact_path [] [] e = refl
  exact_path [] (y ∷ q) e = absurd (cc (e))
  exact_path (x ∷ p) [] e = absurd (cc (e))
  exact_path (x ∷ p) (y ∷ q) e =
      let both = tied_then x y (path_cmp k p q) e in
      let tails = exact_path p q both.1 in
      cc (both.0, tails)

  -- ---- alternatives
  pub place_itself : (p : List B) → same_alternative k p p ≡ true
  place_itself [] = refl
  place_itself (x ∷ []) = eq-eqb (k.number x) (k.number x) refl
  place_itself (x ∷ w ∷ p) = rw (branch_itself x) (place_itself (w ∷ p))

  pub same_is_place : (p q : List B) → same_path k p q ≡ true → same_alternative k p q ≡ true
  same_is_place p q e = rw (← same_is p q e) (place_itself p)

  -- what leads to the alternative of a child is a child of the same node, by the same alternative
  pub place_is : (p : List B) (b : B) (q : List B) → same_alternative k (p ++ b ∷ []) q ≡ true → (c : B) × (q ≡ p ++ c ∷ []) × (k.number b ≡ k.number c)
  place_is [] b [] e = absurd (both_ways false refl e)
  place_is [] b (c ∷ []) e = (c, refl, eqb-true (k.number b) (k.number c) e)
  place_is [] b (c ∷ d ∷ q) e = absurd (both_ways false refl e)
  place_is (x ∷ []) b [] e = absurd (both_ways false refl e)
  place_is (x ∷ y ∷ p) b [] e = absurd (both_ways false refl e)
  place_is (x ∷ []) b (c ∷ []) e = absurd (both_ways false refl e)
  place_is (x ∷ y ∷ p) b (c ∷ []) e = absurd (both_ways false refl e)
  place_is (x ∷ []) b (c ∷ d ∷ q) e =
      let parts = and_parts (k.same x c) (same_alternative k (b ∷ []) (d ∷ q)) e in
      let r = place_is [] b (d ∷ q) parts.1 in
      let same = branch_is x c parts.0 in
      (r.0, cc (same, r.1), r.2)
  place_is (x ∷ y ∷ p) b (c ∷ d ∷ q) e =
      let parts = and_parts (k.same x c) (same_alternative k (y ∷ p ++ b ∷ []) (d ∷ q)) e in
      let r = place_is (y ∷ p) b (d ∷ q) parts.1 in
      let same = branch_is x c parts.0 in
      (r.0, cc (same, r.1), r.2)

  -- and the other way round
  pub is_place : (p : List B) (b c : B) → k.number b ≡ k.number c → same_alternative k (p ++ b ∷ []) (p ++ c ∷ []) ≡ true
  is_place [] b c e = eq-eqb (k.number b) (k.number c) e
  is_place (x ∷ []) b c e = rw (branch_itself x) (is_place [] b c e)
  is_place (x ∷ y ∷ p) b c e = rw (branch_itself x) (is_place (y ∷ p) b c e)

  pub root_place : (q : List B) → same_alternative k [] q ≡ true → q ≡ []
  root_place [] e = refl
  root_place (y ∷ q) e = absurd (both_ways false refl e)

  -- ---- children
  pub among_child : (p : List B) (n : ℕ) (b : B) → is_among k n b ≡ true → is_child k p n (p ++ b ∷ []) ≡ true
  among_child [] n b e = e
  among_child (x ∷ p) n b e = rw (branch_itself x) (among_child p n b e)

  pub child_is : (p : List B) (n : ℕ) (q : List B) → is_child k p n q ≡ true → (b : B) × (q ≡ p ++ b ∷ []) × (is_among k n b ≡ true)
  child_is [] n [] e = absurd (both_ways false refl e)
  child_is [] n (b ∷ []) e = (b, refl, e)
  child_is [] n (b ∷ c ∷ q) e = absurd (both_ways false refl e)
  child_is (x ∷ p) n [] e = absurd (both_ways false refl e)
  child_is (x ∷ p) n (y ∷ q) e =
      let parts = and_parts (k.same y x) (is_child k p n q) e in
      let r = child_is p n q parts.1 in
      let same = branch_is y x parts.0 in
      (r.0, cc (same, r.1), r.2)

  pub end_not_root : (p : List B) (b : B) → same_path k (p ++ b ∷ []) [] ≡ false
  end_not_root [] b = refl
  end_not_root (x ∷ p) b = refl

  -- ---- children by the branches that are taken

  -- whether q is p with the branch that is taken to one of the alternatives 1 to n behind it
  unfoldable pub is_kid : List B → ℕ → List B → Bool
  is_kid p zero q = false
  is_kid p (suc n) q = is_kid p n q || same_path k q (p ++ branch p (suc n) ∷ [])

  pub kid_is : (p : List B) (n : ℕ) (q : List B) → is_kid p n q ≡ true → (i : ℕ) × (1 ≤ i) × (i ≤ n) × (q ≡ p ++ branch p i ∷ [])
  unfolding is_kid
  kid_is p zero q e = absurd (both_ways false refl e)
  kid_is p (suc n) q e =
      ⊎_elim
      (λ a. let r = kid_is p n q a in let l = r.2 in (r.0, r.1, omega (arith, l), r.3))
      (λ b. (suc n, omega arith, omega arith, same_is q (p ++ branch p (suc n) ∷ []) b))
      (or_cases (is_kid p n q) (same_path k q (p ++ branch p (suc n) ∷ [])) e)

  pub kid_at : (p : List B) (n i : ℕ) → 1 ≤ i → i ≤ n → is_kid p n (p ++ branch p i ∷ []) ≡ true
  unfolding is_kid
  kid_at p zero i low high = absurd (omega (arith, low, high))
  kid_at p (suc n) i low high =
      let step : (b : Bool) → leb i n ≡ b → (is_kid p n (p ++ branch p i ∷ []) || same_path k (p ++ branch p i ∷ []) (p ++ branch p (suc n) ∷ [])) ≡ true
      = elim [
        | true ↦ λ e. or_left (is_kid p n (p ++ branch p i ∷ [])) _ (kid_at p n i low (grind (arith, nat_tests, e)))
        | false ↦ λ e.
            let last : i ≡ suc n = grind (arith, nat_tests, e, high) in
            or_right (is_kid p n (p ++ branch p i ∷ [])) _ (is_same _ _ (ap (λ j. p ++ branch p j ∷ []) last))
      ] in
      step (leb i n) refl

  among_number : (n i : ℕ) (b : B) → 1 ≤ i → i ≤ n → k.number b ≡ i → is_among k n b ≡ true
  among_number n i b low high e = rw e (grind (arith, nat_tests, low, high))

  pub among_bounds : (n : ℕ) (b : B) → is_among k n b ≡ true → (1 ≤ k.number b) × (k.number b ≤ n)
  among_bounds n b e = let parts = and_parts (leb 1 (k.number b)) (leb (k.number b) n) e in let a = parts.0 in let c = parts.1 in (grind (arith, nat_tests, a), grind (arith, nat_tests, c))

  pub kid_child : (p : List B) (n : ℕ) (q : List B) → is_kid p n q ≡ true → is_child k p n q ≡ true
  kid_child p n q e =
      let r = kid_is p n q e in
      rw (r.3) (among_child p n (branch p r.0) (among_number n r.0 (branch p r.0) r.1 r.2 (its.taking p r.0)))

  -- the last branch of q, if any, is the one that is taken
  abbrev pub IsBy : List B → Type 0
  IsBy q = (p : List B) (b : B) → q ≡ p ++ b ∷ [] → branch p (k.number b) ≡ b

  pub child_kid : (p : List B) (n : ℕ) (q : List B) → is_child k p n q ≡ true → IsBy q → is_kid p n q ≡ true
  child_kid p n q e by =
      let r = child_is p n q e in
      let bounds = among_bounds n r.0 r.2 in
      let end : q ≡ p ++ branch p (k.number r.0) ∷ [] = rw (by p r.0 r.1) (r.1) in
      rw end (kid_at p n (k.number r.0) bounds.0 bounds.1)

  pub kid_parent : (p q : List B) (m n : ℕ) (c : List B) → is_kid p m c ≡ true → is_kid q n c ≡ true → same_path k p q ≡ true
  kid_parent p q m n c a b =
      let r = kid_is p m c a in
      let s = kid_is q n c b in
      is_same p q (one_end p q (branch p r.0) (branch q s.0) (sym r.3 ∙ s.3)).0

  pub no_root_kid : (p : List B) (n : ℕ) (c : List B) → is_kid p n c ≡ true → same_path k c [] ≡ false
  no_root_kid p n c e = let r = kid_is p n c e in rw (r.3) (end_not_root p (branch p r.0))
