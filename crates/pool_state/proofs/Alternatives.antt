-- What leads to the same alternative of the same node.
use Rattle.std.proofs.Common.{◌≡◌, ℕ, ◌==◌, ⊎_elim, true, false, ◌&&◌, List, [], ◌∷◌, map, refl, ap, sym, ◌∙◌, subst, arith}
use lib.Dec.{leb}
use Rattle.std.specs.List.{list_any}
use Rattle.std.specs.Ordering.{ordering_then, nat_cmp}
use Rattle.std.specs.declared.cmp.Ordering.TheVariants.{Equal}
use Rattle.std.proofs.lemmas.Bool.{and_parts, both_ways, or_cases, or_left, or_right}
use Rattle.std.proofs.lemmas.Bool.Decides.{nat_tests}
use Rattle.oz_search.specs.declared.history.Entry.TheVariants.{Claim, Split, Leaf, Stop}
use Rattle.oz_search.specs.Searches.{Search}
use Rattle.oz_search.specs.Paths.{same_path, same_alternative, alternatives_cmp, is_child, is_among}
use Rattle.oz_search.specs.Histories.{History, offers, is_claimed, is_alternative_claimed, is_offered}
use Rattle.search_law.proofs.Settings.{Setting}
use Rattle.search_law.proofs.Places.{same_is, same_itself, branch_is, child_is, place_is, among_child}
use Rattle.pool_state.specs.Branching.{by_last}
use Rattle.pool_state.specs.Frontier.{covers}

module _ {B L : Type 0} (its : Setting B L) where
  abbrev k : Search B L
  k = its.k

  same_back : (x y : B) → k.same x y ≡ true → k.same y x ≡ true
  same_back x y e = (its.is.exact y x).1 (sym (branch_is its x y e))

  pub place_back : (p q : List B) → same_alternative k p q ≡ true → same_alternative k q p ≡ true
  place_back [] [] e = refl
  place_back [] (y ∷ []) e = absurd (cc (e))
  place_back [] (y ∷ z ∷ q) e = absurd (cc (e))
  place_back (x ∷ []) [] e = absurd (cc (e))
  place_back (x ∷ w ∷ p) [] e = absurd (cc (e))
  place_back (x ∷ []) (y ∷ []) e = grind (arith, nat_tests, e)
  place_back (x ∷ []) (y ∷ z ∷ q) e = absurd (cc (e))
  place_back (x ∷ w ∷ p) (y ∷ []) e = absurd (cc (e))
  place_back (x ∷ w ∷ p) (y ∷ z ∷ q) e =
      let parts = and_parts (k.same x y) (same_alternative k (w ∷ p) (z ∷ q)) e in
      rw (same_back x y parts.0) (place_back (w ∷ p) (z ∷ q) parts.1)

  -- they are level by their alternatives
  pub place_level : (p q : List B) → same_alternative k p q ≡ true → alternatives_cmp k p q ≡ Equal
  place_level [] [] e = refl
  place_level [] (y ∷ []) e = absurd (cc (e))
  place_level [] (y ∷ z ∷ q) e = absurd (cc (e))
  place_level (x ∷ []) [] e = absurd (cc (e))
  place_level (x ∷ w ∷ p) [] e = absurd (cc (e))
  place_level (x ∷ []) (y ∷ []) e = grind (arith, nat_tests, e)
  place_level (x ∷ []) (y ∷ z ∷ q) e = absurd (cc (e))
  place_level (x ∷ w ∷ p) (y ∷ []) e = absurd (cc (e))
  place_level (x ∷ w ∷ p) (y ∷ z ∷ q) e =
      let parts = and_parts (k.same x y) (same_alternative k (w ∷ p) (z ∷ q)) e in
      let n = ap k.number (branch_is its x y parts.0) in
      let level : nat_cmp (k.number x) (k.number y) ≡ Equal = grind (arith, nat_tests, n) in
      ap (λ r. ordering_then r (alternatives_cmp k (w ∷ p) (z ∷ q))) level ∙ place_level (w ∷ p) (z ∷ q) parts.1

  -- ---- the last branch by which it is taken does not matter
  module _ (f : B → B) (keeps : (b : B) → k.number (f b) ≡ k.number b) where
    pub numbers_by : (p : List B) → map k.number (by_last f p) ≡ map k.number p
    numbers_by [] = refl
    numbers_by (x ∷ []) = ap (λ n. n ∷ []) (keeps x)
    numbers_by (x ∷ y ∷ p) = ap (λ ns. k.number x ∷ ns) (numbers_by (y ∷ p))

    pub place_by : (q p : List B) → same_alternative k q (by_last f p) ≡ same_alternative k q p
    place_by [] [] = refl
    place_by [] (y ∷ []) = refl
    place_by [] (y ∷ z ∷ p) = refl
    place_by (x ∷ []) [] = refl
    place_by (x ∷ w ∷ q) [] = refl
    place_by (x ∷ []) (y ∷ []) = ap (λ n. k.number x == n) (keeps y)
    place_by (x ∷ []) (y ∷ z ∷ []) = refl
    place_by (x ∷ []) (y ∷ z ∷ u ∷ p) = refl
    place_by (x ∷ w ∷ q) (y ∷ []) = refl
    place_by (x ∷ w ∷ q) (y ∷ z ∷ []) = ap (λ b. k.same x y && b) (place_by (w ∷ q) (z ∷ []))
    place_by (x ∷ w ∷ q) (y ∷ z ∷ u ∷ p) = ap (λ b. k.same x y && b) (place_by (w ∷ q) (z ∷ u ∷ p))

    pub covers_by : (p q : List B) (n : ℕ) → covers k (by_last f p) q n ≡ covers k p q n
    covers_by [] [] n = refl
    covers_by [] (y ∷ []) n = refl
    covers_by [] (y ∷ z ∷ q) n = refl
    covers_by (x ∷ []) [] n = refl
    covers_by (x ∷ w ∷ p) [] n = no_root p
      where
        no_root : (r : List B) → covers k (by_last f (x ∷ w ∷ r)) [] n ≡ false
        no_root r = refl
    covers_by (x ∷ []) (y ∷ []) n = ap (λ i. leb (k.number y) i && leb i n) (keeps x)
    covers_by (x ∷ []) (y ∷ z ∷ q) n = refl
    covers_by (x ∷ w ∷ []) (y ∷ []) n = refl
    covers_by (x ∷ w ∷ u ∷ p) (y ∷ []) n = refl
    covers_by (x ∷ w ∷ []) (y ∷ z ∷ q) n = ap (λ b. k.same x y && b) (covers_by (w ∷ []) (z ∷ q) n)
    covers_by (x ∷ w ∷ u ∷ p) (y ∷ z ∷ q) n = ap (λ b. k.same x y && b) (covers_by (w ∷ u ∷ p) (z ∷ q) n)

  -- ---- a claimed alternative is offered
  -- where an alternative is claimed, some path to it is
  pub claimed_by : (h : History B L) (q : List B) → is_alternative_claimed k h q ≡ true → (p : List B) × (is_claimed k h p ≡ true) × (same_alternative k q p ≡ true)
  claimed_by [] q t = absurd (both_ways false refl t)
  claimed_by (Claim w p ∷ h) q t =
      ⊎_elim
      (λ here. (p, or_left (same_path k p p) (is_claimed k h p) (same_itself its p), here))
      (λ later. let r = claimed_by h q later in (r.0, or_right (same_path k r.0 p) (is_claimed k h r.0) r.1, r.2))
      (or_cases (same_alternative k q p) (is_alternative_claimed k h q) t)
  claimed_by (Split w p n s ∷ h) q t = claimed_by h q t
  claimed_by (Leaf w p l s ∷ h) q t = claimed_by h q t
  claimed_by (Stop x ∷ h) q t = claimed_by h q t

  among_by : (n : ℕ) (b c : B) → k.number b ≡ k.number c → is_among k n b ≡ true → is_among k n c ≡ true
  among_by n b c e t = rw (← e) t

  child_by : (z : List B) (n : ℕ) (p q : List B) → same_alternative k p q ≡ true → is_child k z n p ≡ true → is_child k z n q ≡ true
  child_by z n p q same child =
      let c = child_is its z n p child in
      let P : List B → Type 0 = λ y. same_alternative k y q ≡ true in
      let r = place_is its z c.0 q (subst P c.1 same) in
      let Q : List B → Type 0 = λ y. is_child k z n y ≡ true in
      subst Q (sym r.1) (among_child its z n r.0 (among_by n c.0 r.0 r.2 c.2))

  any_offer_by : (h : History B L) (p q : List B) → same_alternative k p q ≡ true → list_any (offers k p) h ≡ true → list_any (offers k q) h ≡ true
  any_offer_by [] p q same t = t
  any_offer_by (Claim w z ∷ h) p q same t = any_offer_by h p q same t
  any_offer_by (Split w z n s ∷ h) p q same t =
      ⊎_elim
      (λ here. or_left (is_child k z n q) (list_any (offers k q) h) (child_by z n p q same here))
      (λ later. or_right (is_child k z n q) (list_any (offers k q) h) (any_offer_by h p q same later))
      (or_cases (is_child k z n p) (list_any (offers k p) h) t)
  any_offer_by (Leaf w z l s ∷ h) p q same t = any_offer_by h p q same t
  any_offer_by (Stop x ∷ h) p q same t = any_offer_by h p q same t

  from_root : (q : List B) → same_alternative k [] q ≡ true → same_path k q [] ≡ true
  from_root [] e = refl
  from_root (y ∷ []) e = absurd (cc (e))
  from_root (y ∷ z ∷ q) e = absurd (cc (e))

  pub offered_by : (h : History B L) (p q : List B) → same_alternative k p q ≡ true → is_offered k h p ≡ true → is_offered k h q ≡ true
  offered_by h p q same t =
      ⊎_elim
      (λ root.
      let P : List B → Type 0 = λ y. same_alternative k y q ≡ true in
      or_left (same_path k q []) (list_any (offers k q) h) (from_root q (subst P (same_is its p [] root) same)))
      (λ child. or_right (same_path k q []) (list_any (offers k q) h) (any_offer_by h p q same child))
      (or_cases (same_path k p []) (list_any (offers k p) h) t)

  pub alternative_offered : (h : History B L) → ((p : List B) → is_claimed k h p ≡ true → is_offered k h p ≡ true) → (q : List B) → is_alternative_claimed k h q ≡ true → is_offered k h q ≡ true
  alternative_offered h offered q t = let r = claimed_by h q t in offered_by h r.0 q (place_back q r.0 r.2) (offered r.0 r.1)
