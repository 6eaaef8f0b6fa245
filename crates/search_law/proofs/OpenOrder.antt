-- Open paths to different alternatives are in the same order by their alternatives alone as by their branches.
use Rattle.std.proofs.Common.{◌≡◌, ◌⊎◌, inl, inr, ⊎_elim, ℕ, ◌≤◌, nat_lt, not, Bool, true, false, ◌&&◌, ◌||◌, List, [], ◌∷◌, ◌++◌, refl, ap, sym, ◌∙◌, subst, arith}
use Rattle.std.specs.List.{list_any}
use Rattle.std.specs.Ordering.{nat_cmp}
use Rattle.std.specs.declared.cmp.Ordering.TheVariants.{Less, Equal, Greater}
use Rattle.std.proofs.lemmas.Bool.{or_left, or_right, or_cases, and_parts, both_ways, false_from_ne_true}
use Rattle.std.proofs.lemmas.Bool.Decides.{nat_tests}
use Rattle.oz_search.specs.declared.history.Entry.TheVariants.{Claim, Split, Leaf, Stop}
use Rattle.oz_search.specs.Searches.{Search}
use Rattle.oz_search.specs.Paths.{Taking, same_path, path_cmp, alternatives_cmp, same_alternative, is_child}
use Rattle.oz_search.specs.Histories.{History, is_open, is_offered, is_alternative_claimed, is_claimed, is_settled, offers}
use Rattle.search_law.specs.Counting.{one_if}
use Rattle.search_law.specs.Law.{OpenLaw}
use Rattle.search_law.specs.Taken.{taken}
use Rattle.search_law.proofs.Settings.{Setting}
use Rattle.search_law.proofs.Booleans.{one_end, not_true}
use Rattle.search_law.proofs.Places.{same_is, place_is, is_place, child_is, is_kid, kid_at, among_bounds}
use Rattle.search_law.proofs.Entries.{is_put, puts, claimed_taken}
use Rattle.search_law.proofs.Fronts.{Item, Todo, Done, awaiting, front, is_left, IsSorted}
use Rattle.search_law.proofs.Items.{left_less, left_greater, left_cases, left_more, left_awaiting}
use Rattle.search_law.proofs.FrontLaws.{IsKept, is_due}
use Rattle.search_law.proofs.Orders.{kept_by}
use Rattle.search_law.proofs.Takings.{taken_law}

same_bools : (a b : Bool) → (a ≡ true → b ≡ true) → (b ≡ true → a ≡ true) → a ≡ b
same_bools true b f g = sym (f refl)
same_bools false true f g = g refl
same_bools false false f g = refl

module _ {B L : Type 0} (its : Setting B L) where
  abbrev k : Search B L
  k = its.k

  abbrev branch : Taking B
  branch = its.branch

  -- ---- what else the last branch fixes does not matter
  same_place_by : (q : List B) (b c : B) (z : List B) → k.number b ≡ k.number c → same_alternative k (q ++ b ∷ []) z ≡ true → same_alternative k (q ++ c ∷ []) z ≡ true
  same_place_by q b c z e t =
      let r = place_is its q b z t in
      let P : List B → Type 0 = λ y. same_alternative k (q ++ c ∷ []) y ≡ true in
      subst P (sym r.1) (is_place its q c r.0 (sym e ∙ r.2))

  taken_by_number : (h : History B L) (q : List B) (b c : B) → k.number b ≡ k.number c → is_alternative_claimed k h (q ++ b ∷ []) ≡ true → is_alternative_claimed k h (q ++ c ∷ []) ≡ true
  taken_by_number [] q b c e t = t
  taken_by_number (Claim w z ∷ h) q b c e t =
      ⊎_elim
      (λ here. or_left (same_alternative k (q ++ c ∷ []) z) (is_alternative_claimed k h (q ++ c ∷ [])) (same_place_by q b c z e here))
      (λ later. or_right (same_alternative k (q ++ c ∷ []) z) (is_alternative_claimed k h (q ++ c ∷ [])) (taken_by_number h q b c e later))
      (or_cases (same_alternative k (q ++ b ∷ []) z) (is_alternative_claimed k h (q ++ b ∷ [])) t)
  taken_by_number (Split w z n s ∷ h) q b c e t = taken_by_number h q b c e t
  taken_by_number (Leaf w z l s ∷ h) q b c e t = taken_by_number h q b c e t
  taken_by_number (Stop x ∷ h) q b c e t = taken_by_number h q b c e t

  -- the same alternative by the branch that is taken
  abbrev by_taken : List B → B → List B
  by_taken q b = q ++ branch q (k.number b) ∷ []

  any_by_taken : (h : History B L) (q : List B) (b : B) → list_any (offers k (q ++ b ∷ [])) h ≡ true → list_any (puts its (by_taken q b)) h ≡ true
  any_by_taken [] q b t = t
  any_by_taken (Claim w z ∷ h) q b t = any_by_taken h q b t
  any_by_taken (Split w z n s ∷ h) q b t =
      ⊎_elim
      (λ here.
      let c = child_is its z n (q ++ b ∷ []) here in
      let ends = one_end q z b c.0 c.1 in
      let bounds = among_bounds its n c.0 c.2 in
      let P : List B → Type 0 = λ y. is_kid its z n (y ++ branch y (k.number b) ∷ []) ≡ true in
      let Q : B → Type 0 = λ x. is_kid its z n (z ++ branch z (k.number x) ∷ []) ≡ true in
      let kid : is_kid its z n (z ++ branch z (k.number b) ∷ []) ≡ true = subst Q (sym ends.1) (kid_at its z n (k.number c.0) bounds.0 bounds.1) in
      or_left (is_kid its z n (by_taken q b)) (list_any (puts its (by_taken q b)) h) (subst P (sym ends.0) kid))
      (λ later. or_right (is_kid its z n (by_taken q b)) (list_any (puts its (by_taken q b)) h) (any_by_taken h q b later))
      (or_cases (is_child k z n (q ++ b ∷ [])) (list_any (offers k (q ++ b ∷ [])) h) t)
  any_by_taken (Leaf w z l s ∷ h) q b t = any_by_taken h q b t
  any_by_taken (Stop x ∷ h) q b t = any_by_taken h q b t

  module _ (budget : ℕ) (h : History B L) (kept : IsKept its budget h) where
    put_awaits : (x : List B) → is_put its h x ≡ true → is_alternative_claimed k h x ≡ false → 1 ≤ awaiting its x (front its h)
    put_awaits x put untaken =
        let unclaimed : is_claimed k h x ≡ false = false_from_ne_true (is_claimed k h x) (λ t. both_ways (is_alternative_claimed k h x) untaken (claimed_taken its h x t)) in
        let unsettled : is_settled k h x ≡ false = false_from_ne_true (is_settled k h x) (λ t. both_ways (is_claimed k h x) unclaimed (kept.claimed x t)) in
        let due : is_due its h x ≡ true = rw (put, unsettled) refl in
        let one : awaiting its x (front its h) ≡ 1 = kept.due x ∙ ap one_if due in
        omega (arith, one)

    root_awaits : is_open k h [] ≡ true → 1 ≤ awaiting its [] (front its h)
    root_awaits t =
        let parts = and_parts (is_offered k h []) (not (is_alternative_claimed k h [])) t in
        put_awaits [] (or_left (same_path k [] []) (list_any (puts its []) h) refl) (not_true (is_alternative_claimed k h []) parts.1)

    child_awaits : (q : List B) (b : B) → is_open k h (q ++ b ∷ []) ≡ true → 1 ≤ awaiting its (by_taken q b) (front its h)
    child_awaits q b t =
        let p = q ++ b ∷ [] in
        let parts = and_parts (is_offered k h p) (not (is_alternative_claimed k h p)) t in
        let number : k.number (branch q (k.number b)) ≡ k.number b = its.taking q (k.number b) in
        let untaken : is_alternative_claimed k h (by_taken q b) ≡ false =
        false_from_ne_true (is_alternative_claimed k h (by_taken q b)) (λ u. both_ways (is_alternative_claimed k h p) (not_true (is_alternative_claimed k h p) parts.1) (taken_by_number h q (branch q (k.number b)) b number u)) in
        let put : is_put its h (by_taken q b) ≡ true =
        ⊎_elim
        (λ root. absurd (not_root q b (same_is its p [] root)))
        (λ child. or_right (same_path k (by_taken q b) []) (list_any (puts its (by_taken q b)) h) (any_by_taken h q b child))
        (or_cases (same_path k p []) (list_any (offers k p) h) parts.0) in
        put_awaits (by_taken q b) put untaken
      where
        not_root : (x : List B) (y : B) → x ++ y ∷ [] ≡ [] → ⊥
        not_root [] y e = absurd (cc (e))
        not_root (z ∷ x) y e = absurd (cc (e))

  -- ---- two paths that await
  apart : (f : List (Item B L)) → IsSorted its f → (x y : List B) → 1 ≤ awaiting its x f → 1 ≤ awaiting its y f → (x ≡ y) ⊎ ((is_left its x y ≡ true) ⊎ (is_left its y x ≡ true))
  apart [] sorted x y a b = absurd (omega (arith, a))
  apart (Done q l s ∷ f) sorted x y a b = apart f sorted.1 x y (omega (arith, a)) (omega (arith, b))
  apart (Todo q ∷ f) sorted x y a b =
      let step : (s t : Bool) → same_path k x q ≡ s → same_path k y q ≡ t → (x ≡ y) ⊎ ((is_left its x y ≡ true) ⊎ (is_left its y x ≡ true))
      = elim [
        | true ↦ elim [
          | true ↦ λ d e. inl (same_is its x q d ∙ sym (same_is its y q e))
          | false ↦ λ d e.
              let o = ap one_if e in
              let P : List B → Type 0 = λ z. is_left its z y ≡ true in
              inr (inl (subst P (sym (same_is its x q d)) (left_awaiting its q y f sorted.0 (omega (arith, o, b)))))
        ]
        | false ↦ elim [
          | true ↦ λ d e.
              let o = ap one_if d in
              let P : List B → Type 0 = λ z. is_left its z x ≡ true in
              inr (inr (subst P (sym (same_is its y q e)) (left_awaiting its q x f sorted.0 (omega (arith, o, a)))))
          | false ↦ λ d e.
              let o = ap one_if d in
              let u = ap one_if e in
              apart f sorted.1 x y (omega (arith, o, a)) (omega (arith, u, b))
        ]
      ] in
      step (same_path k x q) (same_path k y q) refl refl

  -- ---- left of, by numbers at the ends
  no_left_of_root : (p : List B) → is_left its p [] ≡ false
  no_left_of_root [] = refl
  no_left_of_root (x ∷ p) = refl

  less_by : (a b c d : B) (e f : Bool) → k.number a ≡ k.number c → k.number b ≡ k.number d → (nat_lt (k.number a) (k.number b) || (e && false)) ≡ true → (nat_lt (k.number c) (k.number d) || f) ≡ true
  less_by a b c d e f u v t =
      or_left (nat_lt (k.number c) (k.number d)) f
      (⊎_elim
      (λ l. rw (← u, ← v) l)
      (λ r. absurd (both_ways false refl (and_parts e false r).1))
      (or_cases (nat_lt (k.number a) (k.number b)) (e && false) t))

  left_by : (p q : List B) (a b c d : B) → k.number a ≡ k.number c → k.number b ≡ k.number d → is_left its (p ++ a ∷ []) (q ++ b ∷ []) ≡ true → is_left its (p ++ c ∷ []) (q ++ d ∷ []) ≡ true
  left_by [] [] a b c d u v t = less_by a b c d (k.same a b) (k.same c d && false) u v t
  left_by [] (y ∷ q) a b c d u v t = less_by a y c y (k.same a y) (k.same c y && false) u refl t
  left_by (x ∷ []) [] a b c d u v t = less_by x b x d (k.same x b) (k.same x d && false) refl v t
  left_by (x ∷ z ∷ p) [] a b c d u v t = less_by x b x d (k.same x b) (k.same x d && false) refl v t
  left_by (x ∷ p) (y ∷ q) a b c d u v t =
      left_more its (nat_lt (k.number x) (k.number y)) (k.same x y) (is_left its (p ++ a ∷ []) (q ++ b ∷ [])) (is_left its (p ++ c ∷ []) (q ++ d ∷ [])) (left_by p q a b c d u v) t

  place_less : (p q : List B) → is_left its p q ≡ true → alternatives_cmp k p q ≡ Less
  place_less [] q h = absurd (cc (h))
  place_less (x ∷ p) [] h = absurd (cc (h))
  place_less (x ∷ p) (y ∷ q) h =
      ⊎_elim
      (λ l. let e : nat_cmp (k.number x) (k.number y) ≡ Less = grind (arith, nat_tests, l) in rw e refl)
      (λ r. let e : nat_cmp (k.number x) (k.number y) ≡ Equal = let n = ap k.number r.0 in grind (arith, nat_tests, n) in rw e (place_less p q r.1))
      (left_cases its x y (is_left its p q) h)

  place_greater : (p q : List B) → is_left its p q ≡ true → alternatives_cmp k q p ≡ Greater
  place_greater [] q h = absurd (cc (h))
  place_greater (x ∷ p) [] h = absurd (cc (h))
  place_greater (x ∷ p) (y ∷ q) h =
      ⊎_elim
      (λ l. let e : nat_cmp (k.number y) (k.number x) ≡ Greater = grind (arith, nat_tests, l) in rw e refl)
      (λ r. let e : nat_cmp (k.number y) (k.number x) ≡ Equal = let n = ap k.number r.0 in grind (arith, nat_tests, n) in rw e (place_greater p q r.1))
      (left_cases its x y (is_left its p q) h)

  abbrev Ordered : List B → List B → Type 0
  Ordered p q = (same_alternative k p q ≡ true) ⊎ (((path_cmp k p q ≡ Less) × (alternatives_cmp k p q ≡ Less)) ⊎ ((path_cmp k p q ≡ Greater) × (alternatives_cmp k p q ≡ Greater)))

  by_left : (p q : List B) → is_left its p q ≡ true → Ordered p q
  by_left p q t = inr (inl (left_less its p q t, place_less p q t))

  by_right : (p q : List B) → is_left its q p ≡ true → Ordered p q
  by_right p q t = inr (inr (left_greater its q p t, place_greater q p t))

  -- the ends of a path
  pub ends : (p : List B) → (p ≡ []) ⊎ ((q : List B) × (b : B) × (p ≡ q ++ b ∷ []))
  ends [] = inl refl
  ends (x ∷ p) =
      inr (⊎_elim
      (λ e. ([], x, ap (λ z. x ∷ z) e))
      (λ r. (x ∷ r.0, r.1, ap (λ z. x ∷ z) r.2))
      (ends p))

  module _ (budget : ℕ) (h : History B L) (kept : IsKept its budget h) where
    root_child : (q : List B) (b : B) → is_open k h [] ≡ true → is_open k h (q ++ b ∷ []) ≡ true → ⊥
    root_child q b s t =
        ⊎_elim
        (λ e. is_root q (branch q (k.number b)) e)
        (λ r. ⊎_elim (λ e. both_ways false refl e) (λ e. both_ways (is_left its (by_taken q b) []) (no_left_of_root (by_taken q b)) e) r)
        (apart (front its h) kept.sorted [] (by_taken q b) (root_awaits budget h kept s) (child_awaits budget h kept q b t))
      where
        is_root : (x : List B) (y : B) → [] ≡ x ++ y ∷ [] → ⊥
        is_root [] y e = absurd (cc (e))
        is_root (z ∷ x) y e = absurd (cc (e))

    two_children : (p : List B) (a : B) (q : List B) (b : B) → is_open k h (p ++ a ∷ []) ≡ true → is_open k h (q ++ b ∷ []) ≡ true → Ordered (p ++ a ∷ []) (q ++ b ∷ [])
    two_children p a q b s t =
        let u = its.taking p (k.number a) in
        let v = its.taking q (k.number b) in
        ⊎_elim
        (λ e.
        let r = one_end p q (branch p (k.number a)) (branch q (k.number b)) e in
        let number : k.number a ≡ k.number b = sym u ∙ (ap k.number r.1 ∙ v) in
        let P : List B → Type 0 = λ z. same_alternative k (p ++ a ∷ []) (z ++ b ∷ []) ≡ true in
        inl (subst P r.0 (is_place its p a b number)))
        (λ r.
        ⊎_elim
        (λ l. by_left (p ++ a ∷ []) (q ++ b ∷ []) (left_by p q (branch p (k.number a)) (branch q (k.number b)) a b u v l))
        (λ l. by_right (p ++ a ∷ []) (q ++ b ∷ []) (left_by q p (branch q (k.number b)) (branch p (k.number a)) b a v u l))
        r)
        (apart (front its h) kept.sorted (by_taken p a) (by_taken q b) (child_awaits budget h kept p a s) (child_awaits budget h kept q b t))

    pub ordered : (p q : List B) → is_open k h p ≡ true → is_open k h q ≡ true → Ordered p q
    ordered p q s t =
        let P : List B → Type 0 = λ z. is_open k h z ≡ true in
        ⊎_elim
        (λ e.
        ⊎_elim
        (λ d. let Q : List B → Type 0 = λ z. Ordered z q in let R : List B → Type 0 = λ z. Ordered [] z in subst Q (sym e) (subst R (sym d) (inl refl)))
        (λ d. absurd (root_child d.0 d.1 (subst P e s) (subst P d.2 t)))
        (ends q))
        (λ e.
        ⊎_elim
        (λ d. absurd (root_child e.0 e.1 (subst P d t) (subst P e.2 s)))
        (λ d. let Q : List B → Type 0 = λ z. Ordered z q in let R : List B → Type 0 = λ z. Ordered (e.0 ++ e.1 ∷ []) z in
        subst Q (sym e.2) (subst R (sym d.2) (two_children e.0 e.1 d.0 d.1 (subst P e.2 s) (subst P d.2 t))))
        (ends q))
        (ends p)

pub open_law : (B L : Type 0) → OpenLaw B L
open_law B L k is budget h replays p q s t =
    let law = taken_law B L k is budget h replays in
    let its : Setting B L = record { k = k; is = is; branch = taken k h; taking = law.0 } in
    ordered its budget h (kept_by its budget h replays law.1) p q s t
