-- What more tells keep: equalities, and the first value that was told of a class.
use Rattle.std.proofs.Common.{◌≡◌, ◌⊎◌, inl, inr, ℕ, zero, suc, Bool, true, false, if◌then◌else◌, List, [], ◌∷◌, ◌++◌, refl, sym, ap, subst, ◌∙◌, Contains, Option, Some, None, is_some, option_map, option_and_then, flat_map, slice_get}
use Rattle.std.proofs.lemmas.Bool.{false≢true}
use Rattle.oz_base.specs.Lists.{given_or, first_given}
use Rattle.oz_base.specs.declared.names.Ident.{Ident}
use Rattle.oz_semantics.specs.Values.{integer, fields_of}
use Rattle.oz_semantics.specs.Store.{Same, told, itself, reversed, joined, field, same, named_by, value_given, told_value, told_domain, value_of, is_determined}
use Rattle.oz_domains.specs.Domains.{only}
use Rattle.oz_semantics.specs.declared.value.Value.{Value}
use Rattle.oz_semantics.specs.declared.value.Tell.{Tell}
use Rattle.oz_semantics.specs.declared.value.Tell.TheVariants.{Equal, Is}
use Rattle.oz_laws.proofs.SameLaws.{In, In-from_contains, contains-from_In, In-flat, tests_same}
use Rattle.oz_laws.proofs.StoreLaws.{value_row, told_value_by}
use Rattle.view_laws.specs.Readies.{Keeps}
use Rattle.view_laws.proofs.Members.{bool_eq}

pub same_kept : (before after : List Tell) → Keeps before after → {x y : Ident} → Same before x y → Same after x y
same_kept before after k (told {x = x} {y = y} c) = told (k (Equal x y) c)
same_kept before after k itself = itself
same_kept before after k (reversed s) = reversed (same_kept before after k s)
same_kept before after k (joined s t) = joined (same_kept before after k s) (same_kept before after k t)
same_kept before after k (field {x = x} {y = y} {v = v} {w = w} i s c d l a b) = field i (same_kept before after k s) (k (Is x v) c) (k (Is y w) d) l a b

-- the test of equality, by its meaning
pub same_by_meaning : (one other : List Tell) (x y a b : Ident) → (Same one x y → Same other a b) → (Same other a b → Same one x y) → same one x y ≡ same other a b
same_by_meaning one other x y a b f g =
    bool_eq _ _ (λ e. (tests_same other a b).1 (f ((tests_same one x y).0 e))) (λ e. (tests_same one x y).1 (g ((tests_same other a b).0 e)))

pub got_in : (xs : List Ident) (i : ℕ) (a : Ident) → slice_get xs i ≡ Some a → In a xs
got_in [] i a e = cc
got_in (x ∷ xs) zero a e = inl (let k : x ≡ a = cc in k)
got_in (x ∷ xs) (suc i) a e = inr (got_in xs i a e)

-- one and the same, or both in the list
abbrev pub OneOrIn : List Ident → Ident → Ident → Type 0
OneOrIn ns x y = (x ≡ y) ⊎ (In x ns × In y ns)

one_or_joined : (ns : List Ident) (x y z : Ident) → OneOrIn ns x y → OneOrIn ns y z → OneOrIn ns x z
one_or_joined ns x y z (inl e) (inl f) = inl (e ∙ f)
one_or_joined ns x y z (inl e) (inr h) = inr (subst (λ u. In u ns) (sym e) h.0, h.1)
one_or_joined ns x y z (inr h) (inl f) = inr (h.0, subst (λ u. In u ns) f h.1)
one_or_joined ns x y z (inr h) (inr k) = inr (h.0, k.1)

one_or_reversed : (ns : List Ident) (x y : Ident) → OneOrIn ns x y → OneOrIn ns y x
one_or_reversed ns x y (inl e) = inl (sym e)
one_or_reversed ns x y (inr h) = inr (h.1, h.0)

-- equal variables are one, or tells name both
pub same_named : (ts : List Tell) {x y : Ident} → Same ts x y → OneOrIn (flat_map named_by ts) x y
same_named ts (told {x = x} {y = y} c) =
    let h = In-from_contains ts (Equal x y) c in
    inr (In-flat named_by (Equal x y) x ts h (inl refl), In-flat named_by (Equal x y) y ts h (inr (inl refl)))
same_named ts itself = inl refl
same_named ts (reversed {x = x} {y = y} s) = one_or_reversed (flat_map named_by ts) x y (same_named ts s)
same_named ts (joined {x = x} {y = y} {z = z} s t) = one_or_joined (flat_map named_by ts) x y z (same_named ts s) (same_named ts t)
same_named ts (field {x = x} {y = y} {a = a} {b = b} {v = v} {w = w} i s c d l p q) =
    inr (
      In-flat named_by (Is x v) a ts (In-from_contains ts (Is x v) c) (inr (got_in (fields_of v) i a p)),
      In-flat named_by (Is y w) b ts (In-from_contains ts (Is y w) d) (inr (got_in (fields_of w) i b q)),
    )

-- variables that are equal to one of the list, where all that is named is in the list
pub same_home : (ts : List Tell) (xs : List Ident) → ((x : Ident) → Contains (flat_map named_by ts) x → Contains xs x) → {x y : Ident} → Same ts x y → Contains xs x → Contains xs y
same_home ts xs within {x} {y} s h = elim (same_named ts s) [
  | inl e ↦ subst (Contains xs) e h
  | inr k ↦ within y (contains-from_In (flat_map named_by ts) y k.1)
]

-- The first value of a class

pub first_same : {A B : Type 0} (f g : A → Option B) → ((x : A) → f x ≡ g x) → (xs : List A) → first_given f xs ≡ first_given g xs
first_same {A = A} {B = B} f g h xs = ap (λ (k : A → Option B). first_given k xs) (λ i x. h x i)

given_again : {B : Type 0} (o a b : Option B) → given_or o (given_or a b) ≡ given_or (given_or o a) b
given_again None a b = refl
given_again (Some u) a b = refl

pub first_append : {A B : Type 0} (f : A → Option B) (xs ys : List A) → first_given f (xs ++ ys) ≡ given_or (first_given f xs) (first_given f ys)
first_append f [] ys = refl
first_append f (x ∷ xs) ys = ap (given_or (f x)) (first_append f xs ys) ∙ given_again (f x) (first_given f xs) (first_given f ys)

pub first_none : {A B : Type 0} (f : A → Option B) (xs : List A) → ((x : A) → In x xs → f x ≡ None) → first_given f xs ≡ None
first_none f [] h = refl
first_none f (x ∷ xs) h = ap (λ o. given_or o (first_given f xs)) (h x (inl refl)) ∙ first_none f xs (λ y k. h y (inr k))

pub value_same : (ts : List Tell) (x y : Ident) → Same ts x y → value_of ts x ≡ value_of ts y
value_same ts x y s = value_row ts x y s

pub determined_same : (ts : List Tell) (x y : Ident) → Same ts x y → is_determined ts x ≡ is_determined ts y
determined_same ts x y s = ap is_some (value_row ts x y s)

pub given_test : (f g : Ident → Bool) → ((x : Ident) → f x ≡ g x) → (t : Tell) → value_given f t ≡ value_given g t
given_test f g h t = ap (λ (k : Ident → Bool). value_given k t) (λ i x. h x i)

pub some_or : {B : Type 0} (o p : Option B) → is_some o ≡ true → is_some (given_or o p) ≡ true
some_or None p e = absurd (false≢true e)
some_or (Some u) p e = refl

or_some : {B : Type 0} (o p : Option B) → is_some p ≡ true → is_some (given_or o p) ≡ true
or_some None p e = e
or_some (Some u) p e = refl

given_found : {A B : Type 0} (f : A → Option B) (xs : List A) (x : A) → In x xs → is_some (f x) ≡ true → is_some (first_given f xs) ≡ true
given_found f [] x h e = elim h [ ]
given_found f (y ∷ xs) x (inl k) e = some_or (f y) (first_given f xs) (ap (λ z. is_some (f z)) k ∙ e)
given_found f (y ∷ xs) x (inr h) e = or_some (f y) (first_given f xs) (given_found f xs x h e)

-- a variable that is equal to one that was told a value was told one
pub told_some : (ts : List Tell) (x y : Ident) (w : Value) → Same ts x y → Contains ts (Is y w) → is_some (told_value ts x) ≡ true
told_some ts x y w s c =
    given_found (value_given (λ z. same ts z x)) ts (Is y w) (In-from_contains ts (Is y w) c) (ap (λ (b : Bool). is_some (if b then Some w else None)) ((tests_same ts y x).1 (reversed s)))

pub has_value : (ts : List Tell) (x y : Ident) (w : Value) → Same ts x y → Contains ts (Is y w) → is_determined ts x ≡ true
has_value ts x y w s c = some_or (told_value ts x) _ (told_some ts x y w s c)

-- Where a value comes from

pub some_is : (o : Option Value) → is_some o ≡ true → (w : Value) × (o ≡ Some w)
some_is None e = absurd (false≢true e)
some_is (Some w) e = (w, refl)

pub none_is : (o : Option Value) → is_some o ≡ false → o ≡ None
none_is None e = refl
none_is (Some w) e = absurd (false≢true (sym e))

pub record Given (ts : List Tell) (x : Ident) (v : Value) : Type 0 where
  pub variable : Ident
  pub told : Contains ts (Is variable v)
  pub equal : Same ts variable x

pub given_told : (ts : List Tell) (x : Ident) (v : Value) → told_value ts x ≡ Some v → Given ts x v
given_told ts x v e = let r = told_value_by ts x v e in record { variable = r.variable; told = r.tells; equal = r.equal }

-- a variable without a value was told none
pub free_told : (ts : List Tell) (x : Ident) → is_determined ts x ≡ false → told_value ts x ≡ None
free_told ts x e = by (told_value ts x) e
  where
    by : (o : Option Value) → is_some (given_or o (option_map integer (option_and_then only (told_domain ts x)))) ≡ false → o ≡ None
    by None k = refl
    by (Some v) k = absurd (false≢true (sym k))
