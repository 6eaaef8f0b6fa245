-- The values that tells give, by class.
use Rattle.std.proofs.Common.{◌≡◌, ◌∙◌, zero, suc, Bool, true, false, if◌then◌else◌, List, [], ◌∷◌, Contains, Option, Some, None, refl, ap, subst, arith}
use Rattle.oz_base.specs.Lists.{given_or, first_given}
use Rattle.oz_base.specs.declared.names.Ident.{Ident}
use Rattle.oz_laws.proofs.SameLaws.{tests_same}
use Rattle.oz_semantics.specs.Store.{Same, itself, same, value_given, told_value}
use Rattle.oz_semantics.specs.declared.value.Value.{Value}
use Rattle.oz_semantics.specs.declared.value.Tell.{Tell}
use Rattle.oz_semantics.specs.declared.value.Tell.TheVariants.{Equal, Is, Within}

given_some : (f : Tell → Option Value) (ts : List Tell) (t : Tell) (v : Value) → Contains ts t → f t ≡ Some v → (u : Value) × (first_given f ts ≡ Some u)
given_some f [] t v (k, l, q) e = absurd (omega (arith, l))
given_some f (s ∷ ts) t v (zero, l, q) e = (v, ap (λ o. given_or o (first_given f ts)) (ap f q ∙ e))
given_some f (s ∷ ts) t v (suc k, l, q) e = by (f s) (given_some f ts t v (k, omega (arith, l), q) e)
  where
    by : (o : Option Value) → (u : Value) × (first_given f ts ≡ Some u) → (u : Value) × (given_or o (first_given f ts) ≡ Some u)
    by None rest = rest
    by (Some w) rest = (w, refl)

-- what is told of a variable gives it a value
pub some_told : (ts : List Tell) (x : Ident) (v : Value) → Contains ts (Is x v) → (u : Value) × (told_value ts x ≡ Some u)
some_told ts x v c = given_some (value_given (λ y. same ts y x)) ts (Is x v) v c (ap (λ (b : Bool). if b then Some v else None) ((tests_same ts x x).1 itself))

pub given_by : (f : Tell → Option Value) (ts : List Tell) (u : Value) → first_given f ts ≡ Some u → (t : Tell) × Contains ts t × (f t ≡ Some u)
given_by f [] u e = cc
given_by f (s ∷ ts) u e = by (f s) refl e (given_by f ts u)
  where
    by : (o : Option Value) → f s ≡ o → given_or o (first_given f ts) ≡ Some u → (first_given f ts ≡ Some u → (t : Tell) × Contains ts t × (f t ≡ Some u)) → (t : Tell) × Contains (s ∷ ts) t × (f t ≡ Some u)
    by None q e rest = let h = rest e in let c = h.1 in (h.0, (suc c.0, omega (arith, c.1), c.2), h.2)
    by (Some w) q e rest = (s, (0, omega arith, refl), q ∙ e)

-- a tell that gives the class of x its value
pub record Gives (ts : List Tell) (x : Ident) (v : Value) : Type 0 where
  pub variable : Ident
  pub told : Contains ts (Is variable v)
  pub class : Same ts variable x

-- the value of a variable was told of one that is equal to it
pub value_from : (ts : List Tell) (x : Ident) (v : Value) → told_value ts x ≡ Some v → Gives ts x v
value_from ts x v e = let h = given_by (value_given (λ y. same ts y x)) ts v e in by h.0 h.1 h.2
  where
    by : (t : Tell) → Contains ts t → value_given (λ y. same ts y x) t ≡ Some v → Gives ts x v
    by (Equal a b) c q = cc
    by (Within a is) c q = cc
    by (Is y w) c q = by_test (same ts y x) refl q
      where
        by_test : (b : Bool) → same ts y x ≡ b → (if b then Some w else None) ≡ Some v → Gives ts x v
        by_test true k p = let is : w ≡ v = cc in record { variable = y; told = subst (λ u. Contains ts (Is y u)) is c; class = (tests_same ts y x).0 k }
        by_test false k p = cc
