-- Membership in lists, and tests of all or any of a list.
use Rattle.std.proofs.Common.{◌≡◌, ◌⊎◌, inl, inr, Bool, true, false, ◌&&◌, ◌||◌, List, [], ◌∷◌, ◌++◌, refl, sym, ap, ◌∙◌, Contains}
use Rattle.std.specs.List.{list_all, list_any}
use Rattle.std.proofs.lemmas.Bool.{false≢true}
use Rattle.oz_laws.proofs.SameLaws.{In, In-from_contains, contains-from_In, and-left, and-right}

pub bool_eq : (a b : Bool) → (a ≡ true → b ≡ true) → (b ≡ true → a ≡ true) → a ≡ b
bool_eq true b f g = sym (f refl)
bool_eq false true f g = g refl
bool_eq false false f g = refl

pub not_both : (b : Bool) → b ≡ true → b ≡ false → ⊥
not_both b e f = false≢true (sym f ∙ e)

pub or_cases : (a b : Bool) → (a || b) ≡ true → (a ≡ true) ⊎ (b ≡ true)
or_cases true b e = inl refl
or_cases false b e = inr e

pub or_left : (a b : Bool) → a ≡ true → (a || b) ≡ true
or_left true b e = refl
or_left false b e = absurd (false≢true e)

pub or_right : (a b : Bool) → b ≡ true → (a || b) ≡ true
or_right true b e = refl
or_right false b e = e

pub and_both : (a b : Bool) → a ≡ true → b ≡ true → (a && b) ≡ true
and_both true b e f = f
and_both false b e f = absurd (false≢true e)

-- whether a test passes, with the equation
pub decide : (b : Bool) → (b ≡ true) ⊎ (b ≡ false)
decide true = inl refl
decide false = inr refl

module _ {A : Type 0} where
  pub In-left : (x : A) (xs ys : List A) → In x xs → In x (xs ++ ys)
  In-left x [] ys h = elim h [ ]
  In-left x (y ∷ xs) ys (inl e) = inl e
  In-left x (y ∷ xs) ys (inr h) = inr (In-left x xs ys h)

  pub In-right : (x : A) (xs ys : List A) → In x ys → In x (xs ++ ys)
  In-right x [] ys h = h
  In-right x (y ∷ xs) ys h = inr (In-right x xs ys h)

  pub In-cases : (x : A) (xs ys : List A) → In x (xs ++ ys) → In x xs ⊎ In x ys
  In-cases x [] ys h = inr h
  In-cases x (y ∷ xs) ys (inl e) = inl (inl e)
  In-cases x (y ∷ xs) ys (inr h) = elim (In-cases x xs ys h) [ inl a ↦ inl (inr a) | inr b ↦ inr b ]

  pub has-left : (x : A) (xs ys : List A) → Contains xs x → Contains (xs ++ ys) x
  has-left x xs ys h = contains-from_In (xs ++ ys) x (In-left x xs ys (In-from_contains xs x h))

  pub has-right : (x : A) (xs ys : List A) → Contains ys x → Contains (xs ++ ys) x
  has-right x xs ys h = contains-from_In (xs ++ ys) x (In-right x xs ys (In-from_contains ys x h))

  pub has-cases : (x : A) (xs ys : List A) → Contains (xs ++ ys) x → Contains xs x ⊎ Contains ys x
  has-cases x xs ys h = elim (In-cases x xs ys (In-from_contains (xs ++ ys) x h)) [
    | inl a ↦ inl (contains-from_In xs x a)
    | inr b ↦ inr (contains-from_In ys x b)
  ]

  all_in : (p : A → Bool) (xs : List A) → list_all p xs ≡ true → (x : A) → In x xs → p x ≡ true
  all_in p [] e x h = elim h [ ]
  all_in p (y ∷ ys) e x (inl k) = ap p (sym k) ∙ and-left _ _ e
  all_in p (y ∷ ys) e x (inr h) = all_in p ys (and-right _ _ e) x h

  all_from : (p : A → Bool) (xs : List A) → ((x : A) → In x xs → p x ≡ true) → list_all p xs ≡ true
  all_from p [] h = refl
  all_from p (y ∷ ys) h = and_both _ _ (h y (inl refl)) (all_from p ys (λ x k. h x (inr k)))

  any_in : (p : A → Bool) (xs : List A) → list_any p xs ≡ true → (x : A) × In x xs × (p x ≡ true)
  any_in p [] e = absurd (false≢true e)
  any_in p (y ∷ ys) e = elim (or_cases (p y) (list_any p ys) e) [
    | inl k ↦ (y, inl refl, k)
    | inr k ↦ (let r = any_in p ys k in (r.0, inr r.1, r.2))
  ]

  any_from : (p : A → Bool) (xs : List A) (x : A) → In x xs → p x ≡ true → list_any p xs ≡ true
  any_from p [] x h e = elim h [ ]
  any_from p (y ∷ ys) x (inl k) e = or_left _ _ (ap p k ∙ e)
  any_from p (y ∷ ys) x (inr h) e = or_right _ _ (any_from p ys x h e)

  -- all pass exactly where each does, and any passes exactly where one does
  pub each : (p : A → Bool) (xs : List A) → list_all p xs ≡ true → (x : A) → Contains xs x → p x ≡ true
  each p xs e x h = all_in p xs e x (In-from_contains xs x h)

  pub by_each : (p : A → Bool) (xs : List A) → ((x : A) → Contains xs x → p x ≡ true) → list_all p xs ≡ true
  by_each p xs h = all_from p xs (λ x k. h x (contains-from_In xs x k))

  pub some_of : (p : A → Bool) (xs : List A) → list_any p xs ≡ true → (x : A) × Contains xs x × (p x ≡ true)
  some_of p xs e = let r = any_in p xs e in (r.0, contains-from_In xs r.0 r.1, r.2)

  pub by_some : (p : A → Bool) (xs : List A) (x : A) → Contains xs x → p x ≡ true → list_any p xs ≡ true
  by_some p xs x h e = any_from p xs x (In-from_contains xs x h) e
