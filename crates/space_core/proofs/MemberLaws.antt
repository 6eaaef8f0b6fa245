-- Members of lists after edits.
use Rattle.std.proofs.Common.{◌≡◌, ◌≢◌, ◌⊎◌, inl, inr, ℕ, ◌<◌, zero, suc, nat_eq, Bool, true, false, cond, List, [], ◌∷◌, ◌++◌, map, filter, length, take, drop, get_or, slice_set, refl, sym, ap, ap₂, ◌∙◌, arith, Contains}
use Rattle.std.specs.Prelude.{insert}
use Rattle.std.specs.List.{list_all, flat_map}
use Rattle.std.proofs.lemmas.List.{get_or-set_same, get_or-set_other, length-set}
use Rattle.std.proofs.lemmas.List.Folds.{list_all-append}
use Rattle.oz_laws.proofs.SameLaws.{In, In-from_contains, contains-from_In, eq-true}
use Rattle.view_laws.proofs.Members.{In-cases}
use Rattle.view_laws.proofs.ListLaws.{filter_in}

-- at a place other than this
pub record IsElsewhere {A : Type 0} (xs : List A) (place : ℕ) (x : A) : Type 0 where
  pub at : ℕ
  pub within : at < length xs
  pub item : get_or xs at x ≡ x
  pub other : at ≢ place

pub elsewhere_in : {A : Type 0} (xs : List A) (place : ℕ) (x : A) → IsElsewhere xs place x → Contains xs x
elsewhere_in xs place x h = (h.at, h.within, h.item)

pub set_member : {A : Type 0} (xs : List A) (place : ℕ) (new x : A) → place < length xs → Contains (slice_set xs place new) x → (x ≡ new) ⊎ IsElsewhere xs place x
set_member {A = A} xs place new x within (k, l, e) = by (nat_eq k place) refl
  where
    inside : k < length xs
    inside = omega (arith, l, length-set xs place new)

    differ : nat_eq k place ≡ false → k ≡ place → ⊥
    differ f q = absurd (grind (arith, f, q))

    by : (b : Bool) → nat_eq k place ≡ b → (x ≡ new) ⊎ IsElsewhere xs place x
    by true f =
        let same : k ≡ place = eq-true k place f in
        inl (sym e ∙ ap (λ n. get_or (slice_set xs place new) n x) same ∙ get_or-set_same xs place new x within)
    by false f = inr (record { at = k; within = inside; item = sym (get_or-set_other xs place k new x (differ f)) ∙ e; other = differ f })

pub taken_in : {A : Type 0} (n : ℕ) (xs : List A) (x : A) → In x (take n xs) → In x xs
taken_in zero xs x h = elim h [ ]
taken_in (suc n) [] x h = elim h [ ]
taken_in (suc n) (y ∷ ys) x (inl e) = inl e
taken_in (suc n) (y ∷ ys) x (inr h) = inr (taken_in n ys x h)

pub dropped_in : {A : Type 0} (n : ℕ) (xs : List A) (x : A) → In x (drop n xs) → In x xs
dropped_in zero xs x h = h
dropped_in (suc n) [] x h = elim h [ ]
dropped_in (suc n) (y ∷ ys) x h = inr (dropped_in n ys x h)

pub insert_member : {A : Type 0} (xs : List A) (place : ℕ) (new x : A) → Contains (insert xs place new) x → (x ≡ new) ⊎ Contains xs x
insert_member xs place new x c = elim (In-cases x (take place xs) (new ∷ drop place xs) (In-from_contains (insert xs place new) x c)) [
  | inl h ↦ inr (contains-from_In xs x (taken_in place xs x h))
  | inr h ↦ elim h [ inl e ↦ inl (sym e) | inr k ↦ inr (contains-from_In xs x (dropped_in place xs x k)) ]
]

pub filter_member : {A : Type 0} (test : A → Bool) (xs : List A) (x : A) → Contains (filter test xs) x → Contains xs x × (test x ≡ true)
filter_member test xs x c = let r = filter_in test xs x (In-from_contains (filter test xs) x c) in (contains-from_In xs x r.0, r.1)

pub map_filter : {A B : Type 0} (f : A → B) (test : B → Bool) (xs : List A) → map f (filter (λ x. test (f x)) xs) ≡ filter test (map f xs)
map_filter f test [] = refl
map_filter f test (x ∷ xs) = by (test (f x)) (map_filter f test xs)
  where
    by : (b : Bool) → map f (filter (λ x. test (f x)) xs) ≡ filter test (map f xs)
        → map f (cond b (x ∷ filter (λ x. test (f x)) xs) (filter (λ x. test (f x)) xs)) ≡ cond b (f x ∷ filter test (map f xs)) (filter test (map f xs))
    by true e = ap (λ ys. f x ∷ ys) e
    by false e = e

map_take : {A B : Type 0} (f : A → B) (n : ℕ) (xs : List A) → map f (take n xs) ≡ take n (map f xs)
map_take f zero xs = refl
map_take f (suc n) [] = refl
map_take f (suc n) (x ∷ xs) = ap (λ ys. f x ∷ ys) (map_take f n xs)

map_drop : {A B : Type 0} (f : A → B) (n : ℕ) (xs : List A) → map f (drop n xs) ≡ drop n (map f xs)
map_drop f zero xs = refl
map_drop f (suc n) [] = refl
map_drop f (suc n) (x ∷ xs) = map_drop f n xs

map_parts : {A B : Type 0} (f : A → B) (xs ys : List A) → map f (xs ++ ys) ≡ map f xs ++ map f ys
map_parts f [] ys = refl
map_parts f (x ∷ xs) ys = ap (λ zs. f x ∷ zs) (map_parts f xs ys)

pub map_insert : {A B : Type 0} (f : A → B) (xs : List A) (place : ℕ) (new : A) → map f (insert xs place new) ≡ insert (map f xs) place (f new)
map_insert f xs place new = map_parts f (take place xs) (new ∷ drop place xs) ∙ ap₂ (λ ys zs. ys ++ f new ∷ zs) (map_take f place xs) (map_drop f place xs)

pub all_flat : {A B : Type 0} (p : B → Bool) (f : A → List B) (xs : List A) → list_all p (flat_map f xs) ≡ list_all (λ x. list_all p (f x)) xs
all_flat p f [] = refl
all_flat p f (x ∷ xs) = list_all-append p (f x) (flat_map f xs) ∙ rw (all_flat p f xs) refl
