-- Lists in lexicographic order.
use Rattle.std.proofs.Common.{◌≡◌, ◌↔◌, zero, suc, inl, inr, ℤ, List, [], ◌∷◌, Contains, All, AllPairs, refl, sym, subst, arith}
use Rattle.std.proofs.lemmas.List.Elements.{All-contains}
use Rattle.std.specs.Cmp.{int_cmp_total, tied_itself}
use Rattle.std.proofs.lemmas.Cmp.{lists_total}
use Rattle.fd_problems.specs.Problems.{IsLeft}
use Rattle.fd_stores.proofs.Lists.{contains_none, contains_head, contains_tail, contains_cases}
use Rattle.fd_trees.specs.Laws.{OrderLaw}

not_left_itself : (u : List ℤ) → IsLeft u u → ⊥
not_left_itself u h = (let e = tied_itself (lists_total int_cmp_total) u in cc)

not_both : (u v : List ℤ) → IsLeft u v → IsLeft v u → ⊥
not_both u v h k = (let o = lists_total int_cmp_total in not_left_itself u (o.trans u v u h k))

pairs_head : (u : List ℤ) (us : List (List ℤ)) → AllPairs IsLeft (u ∷ us) → All (IsLeft u) us
pairs_head u us h = λ k d l. h zero (suc k) d (omega (arith, l)) (omega (arith, l))

pairs_tail : (u : List ℤ) (us : List (List ℤ)) → AllPairs IsLeft (u ∷ us) → AllPairs IsLeft us
pairs_tail u us h = λ i j d l m. h (suc i) (suc j) d (omega (arith, l)) (omega (arith, m))

-- the first of one list is the first of the other
same_first : (u v : List ℤ) (us vs : List (List ℤ)) → AllPairs IsLeft (u ∷ us) → AllPairs IsLeft (v ∷ vs) → Contains (v ∷ vs) u → Contains (u ∷ us) v → u ≡ v
same_first u v us vs h k i j = elim (contains_cases v u vs i) [
  | inl e ↦ sym e
  | inr a ↦ elim (contains_cases u v us j) [
    | inl e ↦ e
    | inr b ↦ absurd (not_both u v (All-contains (IsLeft u) us v (pairs_head u us h) b) (All-contains (IsLeft v) vs u (pairs_head v vs k) a))
  ]
]

-- a later member of one list is a later one of the other
later : (u : List ℤ) (us vs : List (List ℤ)) → AllPairs IsLeft (u ∷ us) → ((w : List ℤ) → Contains (u ∷ us) w → Contains (u ∷ vs) w) → (w : List ℤ) → Contains us w → Contains vs w
later u us vs h i w c = elim (contains_cases u w vs (i w (contains_tail u w us c))) [
  | inl e ↦ absurd (not_left_itself u (subst (IsLeft u) (sym e) (All-contains (IsLeft u) us w (pairs_head u us h) c)))
  | inr k ↦ k
]

pub order_law : OrderLaw
order_law [] [] h k i = refl
order_law [] (v ∷ vs) h k i = absurd (contains_none v ((i v).1 (contains_head v vs)))
order_law (u ∷ us) [] h k i = absurd (contains_none u ((i u).0 (contains_head u us)))
order_law (u ∷ us) (v ∷ vs) h k i =
    let e = same_first u v us vs h k ((i u).0 (contains_head u us)) ((i v).1 (contains_head v vs)) in
    let k2 : AllPairs IsLeft (u ∷ vs) = subst (λ z. AllPairs IsLeft (z ∷ vs)) (sym e) k in
    let i2 : (w : List ℤ) → Contains (u ∷ us) w ↔ Contains (u ∷ vs) w = subst (λ z. (w : List ℤ) → Contains (u ∷ us) w ↔ Contains (z ∷ vs) w) (sym e) i in
    let f = order_law us vs (pairs_tail u us h) (pairs_tail u vs k2) (λ w. (later u us vs h (λ x. (i2 x).0) w, later u vs us k2 (λ x. (i2 x).1) w)) in
    λ j. e j ∷ f j
