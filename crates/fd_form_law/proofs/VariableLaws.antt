-- The variables of a script have different words.
use Rattle.std.proofs.Common.{◌≡◌, ◌⊎◌, inl, inr, ℕ, zero, suc, ◌<◌, ◌≤◌, nat_eq, ◌==◌, ◌||◌, Bool, true, false, not, List, [], ◌∷◌, length, Contains, refl, sym, ◌∙◌, subst, arith, slice_index_or}
use Rattle.std.specs.List.{list_all}
use Rattle.std.proofs.lemmas.Bool.Decides.{nat_tests}
use Rattle.oz_language.specs.Refusals.{contains}
use Rattle.fd_form.specs.FdScripts as form
use Rattle.fd_domain.proofs.SetLaws.{and_left, and_right}
use Rattle.fd_stores.proofs.Lists.{contains_none, contains_head, contains_tail, contains_cases}
use Rattle.fd_form_law.specs.Shapes.{Differ}
use Rattle.fd_form_law.proofs.FormLaws.{contained}

-- ---- a list without a place

abbrev without : List ℕ → ℕ → List ℕ
without [] i = []
without (x ∷ xs) zero = xs
without (x ∷ xs) (suc i) = x ∷ without xs i

shorter : (xs : List ℕ) (i : ℕ) → i < length xs → suc (length (without xs i)) ≡ length xs
shorter [] i l = absurd (omega (arith, l))
shorter (x ∷ xs) zero l = omega arith
shorter (x ∷ xs) (suc i) l = (let e = shorter xs i (omega (arith, l)) in omega (arith, e))

kept : (xs : List ℕ) (i d y : ℕ) → Contains xs y → (slice_index_or xs i d ≡ y → ⊥) → Contains (without xs i) y
kept [] i d y c h = absurd (contains_none y c)
kept (x ∷ xs) zero d y c h = elim (contains_cases x y xs c) [ inl e ↦ absurd (h e) | inr k ↦ k ]
kept (x ∷ xs) (suc i) d y c h = elim (contains_cases x y xs c) [
  | inl e ↦ subst (Contains (x ∷ without xs i)) e (contains_head x (without xs i))
  | inr k ↦ contains_tail x y (without xs i) (kept xs i d y k h)
]

before : (xs : List ℕ) (x y d : ℕ) → x < y → y < length xs → slice_index_or (without xs y) x d ≡ slice_index_or xs x d
before [] x y d l m = absurd (omega (arith, m))
before (z ∷ xs) x zero d l m = absurd (omega (arith, l))
before (z ∷ xs) zero (suc y) d l m = refl
before (z ∷ xs) (suc x) (suc y) d l m = before xs x y d (omega (arith, l)) (omega (arith, m))

any_default : (xs : List ℕ) (i d e : ℕ) → i < length xs → slice_index_or xs i d ≡ slice_index_or xs i e
any_default [] i d e l = absurd (omega (arith, l))
any_default (x ∷ xs) zero d e l = refl
any_default (x ∷ xs) (suc i) d e l = any_default xs i d e (omega (arith, l))

-- ---- different names among so many

abbrev Apart : List ℕ → Type 0
Apart [] = Unit {0}
Apart (x ∷ xs) = (Contains xs x → ⊥) × Apart xs

fits : (names vs : List ℕ) → Apart names → ((y : ℕ) → Contains names y → Contains vs y) → length names ≤ length vs
fits [] vs a h = omega arith
fits (x ∷ xs) vs a h =
    let c = h x (contains_head x xs) in
    let rest = fits xs (without vs c.0) a.1 (λ y k. kept vs c.0 x y (h y (contains_tail x y xs k)) (λ q. a.0 (subst (Contains xs) (sym q ∙ c.2) k))) in
    let e = shorter vs c.0 c.1 in
    omega (arith, rest, e)

same_or_not : (a b : ℕ) → (a ≡ b) ⊎ (a ≡ b → ⊥)
same_or_not a b = grind arith

not_twice : (names vs : List ℕ) → Apart names → ((y : ℕ) → Contains names y → Contains vs y) → length names ≡ length vs → (x y : ℕ) → x < y → y < length vs → slice_index_or vs x 0 ≡ slice_index_or vs y 0 → ⊥
not_twice names vs a h n x y l m e =
    let s = shorter vs y m in
    let first : (z : ℕ) → slice_index_or vs y 0 ≡ z → slice_index_or (without vs y) x z ≡ z = λ z q. before vs x y z l m ∙ any_default vs x z 0 (omega (arith, l, m)) ∙ e ∙ q in
    let inside : (z : ℕ) → Contains names z → Contains (without vs y) z = λ z k. elim (same_or_not (slice_index_or vs y 0) z) [
      | inl q ↦ (x, omega (arith, s, l, m), first z q)
      | inr q ↦ kept vs y 0 z (h z k) q
    ] in
    let f = fits names (without vs y) a inside in
    omega (arith, f, s, n)

different : (names vs : List ℕ) → Apart names → ((y : ℕ) → Contains names y → Contains vs y) → length names ≡ length vs → (x y : ℕ) → x < length vs → y < length vs → slice_index_or vs x 0 ≡ slice_index_or vs y 0 → x ≡ y
different names vs a h n x y l m e = by_order x y (λ k. not_twice names vs a h n x y k m e) (λ k. not_twice names vs a h n y x k l (sym e)) where
  by_order : (x y : ℕ) → (x < y → ⊥) → (y < x → ⊥) → x ≡ y
  by_order x y f g = grind arith

-- ---- by the tests

no_both : (b : Bool) → not b ≡ true → b ≡ true → ⊥
no_both true e f = absurd (cc)
no_both false e f = absurd (cc)

later : (t b : Bool) → b ≡ true → (t || b) ≡ true
later true b h = refl
later false b h = h

either : (t b : Bool) → t ≡ true → (t || b) ≡ true
either true b h = refl
either false b h = absurd (cc)

equal_itself : (x : ℕ) → nat_eq x x ≡ true
equal_itself x = grind (arith, nat_tests)

equal_lengths : (a b : ℕ) → (a == b) ≡ true → a ≡ b
equal_lengths a b h = grind (arith, nat_tests, h)

outside : (others xs : List ℕ) (y : ℕ) → form.are_apart others xs ≡ true → contains others y ≡ true → Contains xs y → ⊥
outside others [] y a k c = contains_none y c
outside others (x ∷ xs) y a k c = elim (contains_cases x y xs c) [
  | inl e ↦ no_both (contains others x) (and_left _ _ a) (subst (λ z. contains others z ≡ true) (sym e) k)
  | inr j ↦ outside (x ∷ others) xs y (and_right (not (contains others x)) _ a) (later (nat_eq y x) (contains others y) k) j
]

apart_by : (others xs : List ℕ) → form.are_apart others xs ≡ true → Apart xs
apart_by others [] a = tt
apart_by others (x ∷ xs) a =
    let rest = and_right (not (contains others x)) _ a in
    (outside (x ∷ others) xs x rest (either (nat_eq x x) (contains others x) (equal_itself x)), apart_by (x ∷ others) xs rest)

passes : (names vs : List ℕ) → list_all (contains vs) names ≡ true → (y : ℕ) → Contains names y → Contains vs y
passes [] vs h y c = absurd (contains_none y c)
passes (x ∷ xs) vs h y c = elim (contains_cases x y xs c) [
  | inl e ↦ subst (Contains vs) e (contained [] vs x (and_left _ _ h))
  | inr k ↦ passes xs vs (and_right (contains vs x) _ h) y k
]

-- what the tests of a script say
pub fields_differ : (others names vs : List ℕ) → form.are_apart others names ≡ true → form.are_fields names vs ≡ true → Differ vs
fields_differ others names vs a f =
    different names vs (apart_by others names a) (passes names vs (and_right (length names == length vs) _ f)) (equal_lengths (length names) (length vs) (and_left (length names == length vs) (list_all (contains vs) names) f))

-- ---- which names are declared

among : (y : ℕ) (xs : List ℕ) → Contains xs y ⊎ (Contains xs y → ⊥)
among y [] = inr (contains_none y)
among y (x ∷ xs) = elim (same_or_not x y) [
  | inl e ↦ inl (subst (Contains (x ∷ xs)) e (contains_head x xs))
  | inr n ↦ elim (among y xs) [ inl k ↦ inl (contains_tail x y xs k) | inr m ↦ inr (λ c. elim (contains_cases x y xs c) [ inl e ↦ n e | inr k ↦ m k ]) ]
]

-- those of all variables
pub names_all : (others names vs : List ℕ) → form.are_apart others names ≡ true → form.are_fields names vs ≡ true → (x : ℕ) → x < length vs → Contains names (slice_index_or vs x 0)
names_all others names vs a f x l = elim (among (slice_index_or vs x 0) names) [
  | inl k ↦ k
  | inr n ↦ (
      let inside = passes names vs (and_right (length names == length vs) (list_all (contains vs) names) f) in
      let long = equal_lengths (length names) (length vs) (and_left (length names == length vs) (list_all (contains vs) names) f) in
      let few = fits names (without vs x) (apart_by others names a) (λ z c. kept vs x 0 z (inside z c) (λ q. n (subst (Contains names) (sym q) c))) in
      let s = shorter vs x l in
      absurd (omega (arith, few, s, long)))
]

-- none of the root's and of `FD`
pub names_other : (root script fd : ℕ) (names : List ℕ) → form.are_apart (root ∷ script ∷ fd ∷ []) names ≡ true → (Contains names root → ⊥) × (Contains names fd → ⊥)
names_other root script fd names a = (
  outside (root ∷ script ∷ fd ∷ []) names root a (either (nat_eq root root) _ (equal_itself root)),
  outside (root ∷ script ∷ fd ∷ []) names fd a (later (nat_eq fd root) _ (later (nat_eq fd script) _ (either (nat_eq fd fd) _ (equal_itself fd)))),
)
