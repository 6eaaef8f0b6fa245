-- The variables that tells name.
use Rattle.std.proofs.Common.{ℕ, zero, suc, ◌≡◌, inl, inr, List, [], ◌∷◌, Some, refl, sym, subst, slice_get}
use Rattle.std.specs.Prelude.{Contains}
use Rattle.std.specs.List.{flat_map}
use Rattle.oz_base.specs.declared.names.Ident.{Ident}
use Rattle.oz_laws.proofs.SameLaws.{In, In-from_contains, contains-from_In, In-flat}
use Rattle.oz_semantics.specs.Store.{Same, told, itself, reversed, joined, field, named_by}
use Rattle.oz_semantics.specs.Values.{fields_of}
use Rattle.oz_semantics.specs.declared.value.Value.{Value}
use Rattle.oz_semantics.specs.declared.value.Tell.{Tell}
use Rattle.oz_semantics.specs.declared.value.Tell.TheVariants.{Equal, Is}

-- Equal variables are one, or the tells name both

pub data Named (ts : List Tell) (a b : Ident) : Type 0 where
  one : a ≡ b → Named ts a b
  both : Contains (flat_map named_by ts) a → Contains (flat_map named_by ts) b → Named ts a b

pub named_in : (ts : List Tell) (t : Tell) (a : Ident) → Contains ts t → In a (named_by t) → Contains (flat_map named_by ts) a
named_in ts t a c i = contains-from_In (flat_map named_by ts) a (In-flat named_by t a ts (In-from_contains ts t c) i)

field_in : (ts : List Tell) (x : Ident) (v : Value) (i : ℕ) (a : Ident) → Contains ts (Is x v) → slice_get (fields_of v) i ≡ Some a → Contains (flat_map named_by ts) a
field_in ts x v i a c e = named_in ts (Is x v) a c (inr (at (fields_of v) i e))
  where
    at : (xs : List Ident) (i : ℕ) → slice_get xs i ≡ Some a → In a xs
    at [] i e = absurd (cc)
    at (x ∷ xs) zero e = inl (cc)
    at (x ∷ xs) (suc i) e = inr (at xs i e)

named_joined : (ts : List Tell) (a b c : Ident) → Named ts a b → Named ts b c → Named ts a c
named_joined ts a b c (one e) n = subst (λ z. Named ts z c) (sym e) n
named_joined ts a b c (both m n) (one e) = subst (λ z. Named ts a z) e (both m n)
named_joined ts a b c (both m n) (both k l) = both m l

named_reversed : (ts : List Tell) (a b : Ident) → Named ts a b → Named ts b a
named_reversed ts a b (one e) = one (sym e)
named_reversed ts a b (both m n) = both n m

pub named : (ts : List Tell) {a b : Ident} → Same ts a b → Named ts a b
named ts (told {x = a} {y = b} c) = both (named_in ts (Equal a b) a c (inl refl)) (named_in ts (Equal a b) b c (inr (inl refl)))
named ts itself = one refl
named ts (reversed {x = a} {y = b} s) = named_reversed ts a b (named ts s)
named ts (joined {x = a} {y = b} {z = c} s t) = named_joined ts a b c (named ts s) (named ts t)
named ts (field {x = p} {y = q} {a = a} {b = b} {v = v} {w = w} i s tp tq l ea eb) = both (field_in ts p v i a tp ea) (field_in ts q w i b tq eb)
