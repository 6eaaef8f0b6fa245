-- The place of a number in a list without doubles, counted from its end.
use Rattle.std.proofs.Common.{◌≡◌, ◌∙◌, ℕ, suc, ◌+◌, ◌-◌, ◌<◌, ◌≤◌, nat_eq, nat_lt, Bool, true, false, cond, if◌then◌else◌, not, ◌||◌, List, [], ◌∷◌, ◌++◌, Some, None, length, reverse, position, refl, sym, ap, subst, arith}
use Rattle.indexmap.specs.IndexSet.{insert_key}
use Rattle.std.specs.List.{position_or_len, list_any, IsDistinct, AllByRecursion}
use Rattle.std.proofs.lemmas.Bool.Decides.{nat_tests}
use Rattle.std.proofs.lemmas.List.{reverse-append, length-reverse}
use Rattle.std.proofs.lemmas.List.Folds.{position_or_len_push}
use Rattle.std.proofs.lemmas.List.Sums.{prefix_len-le-length}
use Rattle.std.proofs.lemmas.Map.Keys.{IsDistinct-head, IsDistinct-tail}
use Rattle.std.proofs.lemmas.Grind.{reverse_onto}

reverse_push : (xs : List ℕ) (x : ℕ) → reverse (xs ++ x ∷ []) ≡ x ∷ reverse xs
reverse_push xs x = reverse-append xs (x ∷ [])

-- no number that differs from all is found
absent : (p : ℕ) (xs : List ℕ) → AllByRecursion (λ y. nat_eq p y ≡ false) xs → position_or_len (nat_eq p) xs ≡ length xs
absent p [] h = refl
absent p (x ∷ xs) h = rw h.0 (omega (arith, absent p xs h.1))

one_number : (p x : ℕ) → nat_eq p x ≡ true → x ≡ p
one_number p x e = grind (arith, nat_tests, e)

-- from here on `from` is the place in a list, `back` that in its reverse, and n the length
abbrev Mirrors : ℕ → ℕ → ℕ → Type 0
Mirrors n from back = (from ≡ n → back ≡ n) × (from < n → back + from + 1 ≡ n)

mirrors_here : (n from back whole : ℕ) → from ≡ n → Mirrors n from back → whole ≡ cond (nat_eq back n) (n + 0) back → Mirrors (suc n) 0 whole
mirrors_here n from back whole e m w =
    let b : back ≡ n = m.0 e in
    (λ f. absurd (omega (arith, f)), λ l. grind (arith, nat_tests, b, w))

mirrors_on : (n from back whole : ℕ) → from ≤ n → Mirrors n from back → whole ≡ cond (nat_eq back n) (n + 1) back → Mirrors (suc n) (1 + from) whole
mirrors_on n from back whole e m w = (
  λ f. let b : back ≡ n = m.0 (omega (arith, f)) in grind (arith, nat_tests, b, w),
  λ l. let b : back + from + 1 ≡ n = m.1 (omega (arith, l)) in grind (arith, nat_tests, b, w),
)

mirrored_far : (n from back : ℕ) → from ≤ n → Mirrors n from back → back ≡ n → from ≡ n
mirrored_far n from back l m e = by (nat_lt from n) refl
  where
    by : (b : Bool) → nat_lt from n ≡ b → from ≡ n
    by true t =
        let less : from < n = grind (arith, nat_tests, t) in
        absurd (omega (arith, m.1 less, e))
    by false t = grind (arith, nat_tests, t, l)

one_more : (p x : ℕ) (xs : List ℕ) (b : Bool) → nat_eq p x ≡ b → AllByRecursion (λ y. nat_eq x y ≡ false) xs → Mirrors (length xs) (position_or_len (nat_eq p) xs) (position_or_len (nat_eq p) (reverse xs))
    → position_or_len (nat_eq p) (reverse (x ∷ xs)) ≡ cond (nat_eq (position_or_len (nat_eq p) (reverse xs)) (length xs)) (length xs + cond (nat_eq p x) 0 1) (position_or_len (nat_eq p) (reverse xs))
    → Mirrors (suc (length xs)) (position_or_len (nat_eq p) (x ∷ xs)) (position_or_len (nat_eq p) (reverse (x ∷ xs)))
one_more p x xs true e d on whole =
    let far : position_or_len (nat_eq p) xs ≡ length xs = absent p xs (subst (λ (y : ℕ). AllByRecursion (λ z. nat_eq y z ≡ false) xs) (one_number p x e) d) in
    rw e (mirrors_here (length xs) (position_or_len (nat_eq p) xs) (position_or_len (nat_eq p) (reverse xs)) (position_or_len (nat_eq p) (reverse (x ∷ xs))) far on (rw e at whole))
one_more p x xs false e d on whole =
    rw e (mirrors_on (length xs) (position_or_len (nat_eq p) xs) (position_or_len (nat_eq p) (reverse xs)) (position_or_len (nat_eq p) (reverse (x ∷ xs))) (prefix_len-le-length (λ y. not (nat_eq p y)) xs) on (rw e at whole))

push_place : (p x : ℕ) (xs : List ℕ) → position_or_len (nat_eq p) (reverse (x ∷ xs)) ≡ cond (nat_eq (position_or_len (nat_eq p) (reverse xs)) (length xs)) (length xs + cond (nat_eq p x) 0 1) (position_or_len (nat_eq p) (reverse xs))
push_place p x xs =
    ap (λ ys. position_or_len (nat_eq p) ys) (reverse_onto xs x [])
    ∙ position_or_len_push (nat_eq p) (reverse xs) x
    ∙ ap (λ n. cond (nat_eq (position_or_len (nat_eq p) (reverse xs)) n) (n + cond (nat_eq p x) 0 1) (position_or_len (nat_eq p) (reverse xs))) (length-reverse xs)

reversed : (p : ℕ) (xs : List ℕ) → IsDistinct nat_eq xs → Mirrors (length xs) (position_or_len (nat_eq p) xs) (position_or_len (nat_eq p) (reverse xs))
reversed p [] d = (λ e. refl, λ l. absurd (omega (arith, l)))
reversed p (x ∷ xs) d = one_more p x xs (nat_eq p x) refl (IsDistinct-head nat_eq x xs d) (reversed p xs (IsDistinct-tail nat_eq x xs d)) (push_place p x xs)

-- what a position says of the place, and what says it

not_there : (n k : ℕ) → k ≤ n → cond (nat_lt k n) (Some k) None ≡ None → k ≡ n
not_there n k l e = by (nat_lt k n) refl
  where
    by : (b : Bool) → nat_lt k n ≡ b → k ≡ n
    by true t = absurd (cc)
    by false t = grind (arith, nat_tests, l, t)

there : (n k i : ℕ) → cond (nat_lt k n) (Some k) None ≡ Some i → (k < n) × (k ≡ i)
there n k i e = by (nat_lt k n) refl
  where
    by : (b : Bool) → nat_lt k n ≡ b → (k < n) × (k ≡ i)
    by true t = (grind (arith, nat_tests, t), (cc))
    by false t = absurd (cc)

is_none : (n k : ℕ) → k ≡ n → cond (nat_lt k n) (Some k) None ≡ None
is_none n k e = grind (arith, nat_tests, e)

is_some : (n k i : ℕ) → k < n → k ≡ i → cond (nat_lt k n) (Some k) None ≡ Some i
is_some n k i l e = grind (arith, nat_tests, l, e)

pub absent_reversed : (p : ℕ) (xs : List ℕ) → IsDistinct nat_eq xs → position (nat_eq p) xs ≡ None → position (nat_eq p) (reverse xs) ≡ None
absent_reversed p xs d e =
    let far : position_or_len (nat_eq p) xs ≡ length xs = not_there (length xs) (position_or_len (nat_eq p) xs) (prefix_len-le-length (λ y. not (nat_eq p y)) xs) e in
    is_none (length (reverse xs)) (position_or_len (nat_eq p) (reverse xs)) ((reversed p xs d).0 far ∙ sym (length-reverse xs))

pub position_reversed : (p : ℕ) (xs : List ℕ) (i : ℕ) → IsDistinct nat_eq xs → position (nat_eq p) xs ≡ Some i → position (nat_eq p) (reverse xs) ≡ Some (length xs - 1 - i)
position_reversed p xs i d e =
    let at = there (length xs) (position_or_len (nat_eq p) xs) i e in
    let back = (reversed p xs d).1 at.0 in
    is_some (length (reverse xs)) (position_or_len (nat_eq p) (reverse xs)) (length xs - 1 - i) (omega (arith, at.1, back, length-reverse xs)) (omega (arith, at.1, back))

-- a number more

none_any : (test : ℕ → Bool) (xs : List ℕ) → position_or_len test xs ≡ length xs → list_any test xs ≡ false
none_any test [] e = refl
none_any test (x ∷ xs) e = by (test x) refl (none_any test xs)
  where
    by : (b : Bool) → test x ≡ b → (position_or_len test xs ≡ length xs → list_any test xs ≡ false) → (test x || list_any test xs) ≡ false
    by true t on = absurd (omega (arith, rw t at e))
    by false t on = rw t (on (omega (arith, rw t at e)))

pub pushed : (p : ℕ) (xs ks : List ℕ) → IsDistinct nat_eq xs → position (nat_eq p) (reverse xs) ≡ None → ks ≡ insert_key nat_eq xs p → reverse ks ≡ p ∷ reverse xs
pushed p xs ks d e k =
    let far = not_there (length (reverse xs)) (position_or_len (nat_eq p) (reverse xs)) (prefix_len-le-length (λ y. not (nat_eq p y)) (reverse xs)) e in
    let m = reversed p xs d in
    let all = mirrored_far (length xs) (position_or_len (nat_eq p) xs) (position_or_len (nat_eq p) (reverse xs)) (prefix_len-le-length (λ y. not (nat_eq p y)) xs) m (far ∙ length-reverse xs) in
    ap reverse (k ∙ ap (λ (b : Bool). if b then xs else xs ++ p ∷ []) (none_any (nat_eq p) xs all)) ∙ reverse_push xs p
