-- Words on lists, on names in scope and on tests that the other files share.
use Rattle.std.proofs.Common.{◌≡◌, ◌⊎◌, inl, inr, ℕ, List, [], ◌∷◌, ◌++◌, Bool, true, false, ◌&&◌, ◌||◌, nat_eq, map, if◌then◌else◌, refl, ap, arith}
use Rattle.std.specs.List.{Contains, AllByRecursion}
use Rattle.std.proofs.lemmas.Bool.{eqb-true}
use Rattle.std.proofs.lemmas.List.Elements.{Contains-append_left, Contains-append_right, Contains-append_cases, Contains-push, Contains-push_cases}
use Rattle.oz_language.specs.Refusals.{contains}

-- ---- tests

pub both : (a b : Bool) → (a && b) ≡ true → (a ≡ true) × (b ≡ true)
both true b h = (refl, h)
both false b h = absurd (cc)

pub either : (a b : Bool) → (a || b) ≡ true → (a ≡ true) ⊎ (b ≡ true)
either true b h = inl refl
either false b h = inr h

or_right : (a b : Bool) → b ≡ true → (a || b) ≡ true
or_right true b h = refl
or_right false b h = h

-- what both branches of a test are
pub by_test : {X : Type 0} (P : X → Type 0) (b : Bool) (x y : X) → P x → P y → P (if b then x else y)
by_test P true x y h k = h
by_test P false x y h k = k

-- ---- what is in a list

pub here : {X : Type 0} (x : X) (xs : List X) → Contains (x ∷ xs) x
here x xs = Contains-append_left (x ∷ []) xs x (Contains-push [] x)

pub there : {X : Type 0} (x y : X) (xs : List X) → Contains xs y → Contains (x ∷ xs) y
there x y xs h = Contains-append_right (x ∷ []) xs y h

pub in_none : {X : Type 0} {P : Type 0} (x : X) → Contains [] x → P
in_none x h = absurd (omega (arith, h.1))

-- in the first place or behind it
pub first_or : {X : Type 0} (x y : X) (xs : List X) → Contains (x ∷ xs) y → (x ≡ y) ⊎ Contains xs y
first_or x y xs h = elim (Contains-append_cases (x ∷ []) xs y h) [
  | inl k ↦ elim (Contains-push_cases [] x y k) [ inl l ↦ in_none y l | inr e ↦ inl e ]
  | inr k ↦ inr k
]

-- parts of a list one behind the other
pub parts_kept : {X : Type 0} (a b c d : List X) (x : X) → (Contains a x → Contains c x) → (Contains b x → Contains d x) → Contains (a ++ b) x → Contains (c ++ d) x
parts_kept a b c d x f g h = elim (Contains-append_cases a b x h) [ inl k ↦ Contains-append_left c d x (f k) | inr k ↦ Contains-append_right c d x (g k) ]

pub parts_swapped : {X : Type 0} (a b c : List X) (x : X) → Contains (a ++ (b ++ c)) x → Contains (b ++ (a ++ c)) x
parts_swapped a b c x h = elim (Contains-append_cases a (b ++ c) x h) [
  | inl k ↦ Contains-append_right b (a ++ c) x (Contains-append_left a c x k)
  | inr k ↦ parts_kept b c b (a ++ c) x (λ l. l) (Contains-append_right a c x) k
]

-- each of a list and of another
pub each_append : {X : Type 0} (P : X → Type 0) (xs ys : List X) → AllByRecursion P xs → AllByRecursion P ys → AllByRecursion P (xs ++ ys)
each_append P [] ys h k = k
each_append P (x ∷ xs) ys h k = (h.0, each_append P xs ys h.1 k)

-- ---- numbers among numbers

pub first_name : (x w : ℕ) (xs : List ℕ) → contains (x ∷ xs) w ≡ true → (w ≡ x) ⊎ (contains xs w ≡ true)
first_name x w xs h = elim (either (nat_eq w x) _ h) [ inl e ↦ inl (eqb-true w x e) | inr k ↦ inr k ]

pub append_name : (xs ys : List ℕ) (w : ℕ) → contains (xs ++ ys) w ≡ true → (contains xs w ≡ true) ⊎ (contains ys w ≡ true)
append_name [] ys w h = inr h
append_name (x ∷ xs) ys w h = elim (either (nat_eq w x) _ h) [
  | inl e ↦ inl (ap (λ b. b || contains xs w) e)
  | inr k ↦ elim (append_name xs ys w k) [ inl l ↦ inl (or_right (nat_eq w x) _ l) | inr l ↦ inr l ]
]

-- the names of variables with their places
abbrev pub firsts : List (ℕ × ℕ) → List ℕ
firsts xs = map (λ (x : ℕ × ℕ). x.0) xs

pub append_first : (xs ys : List (ℕ × ℕ)) (w : ℕ) → contains (firsts (xs ++ ys)) w ≡ true → (contains (firsts xs) w ≡ true) ⊎ (contains (firsts ys) w ≡ true)
append_first xs ys w h = append_name (firsts xs) (firsts ys) w (firsts_append xs ys w h) where
  firsts_append : (xs ys : List (ℕ × ℕ)) (w : ℕ) → contains (firsts (xs ++ ys)) w ≡ true → contains (firsts xs ++ firsts ys) w ≡ true
  firsts_append [] ys w h = h
  firsts_append (x ∷ xs) ys w h = elim (either (nat_eq w x.0) _ h) [
    | inl e ↦ ap (λ b. b || contains (firsts xs ++ firsts ys) w) e
    | inr k ↦ or_right (nat_eq w x.0) _ (firsts_append xs ys w k)
  ]
