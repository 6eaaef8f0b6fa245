-- What is kept of what was told, also while pairs wait to be joined: g is the variable that stands for the class of each, and f the
-- place at which the first value of a class was told, by the variable that stands for it.
use Rattle.std.specs.Prelude.{ℕ, ◌≡◌, ◌+◌, ◌≤◌, ◌⊎◌, Bool, true, false, IsTrue, if◌then◌else◌, List, [], ◌∷◌, length, map, Contains, Option, Some, None, slice_get}
use Rattle.std.specs.List.{flat_map}
use Rattle.std.specs.Option.{option_and_then}
use Rattle.oz_base.specs.Names.{ident_eq}
use Rattle.oz_base.specs.declared.names.Ident.{Ident}
use Rattle.oz_laws.specs.Touched.{Meets}
use Rattle.oz_semantics.specs.Store.{Same, named_by, is_consistent}
use Rattle.oz_semantics.specs.Values.{is_like, fields_of}
use Rattle.oz_semantics.specs.declared.value.Value.{Value}
use Rattle.oz_semantics.specs.declared.value.Tell.{Tell}
use Rattle.oz_semantics.specs.declared.value.Tell.TheVariants.{Equal, Is}
use Rattle.term_store.specs.Bounds.{Bounded}
use Rattle.term_store.specs.Classes.{Table, first_in, domain_in, root_in}
use Rattle.term_store.specs.Places.{value_at}

-- h joins all that g joins
abbrev pub Coarser : (Ident → Ident) → (Ident → Ident) → Type 0
Coarser g h = (x y : Ident) → g x ≡ g y → h x ≡ h y

-- h joins the two of each pair
abbrev pub Joins : (Ident → Ident) → List (Ident × Ident) → Type 0
Joins h ps = (x y : Ident) → Contains ps (x, y) → h x ≡ h y

-- whatever joins what g and the pairs do joins the fields of the values
abbrev pub Agree : (Ident → Ident) → List (Ident × Ident) → Value → Value → Type 0
Agree g ps v w = (h : Ident → Ident) → Coarser g h → Joins h ps → map h (fields_of v) ≡ map h (fields_of w)

-- the class of r was told a value at this place
pub record ToldAt (ts : List Tell) (g : Ident → Ident) (r : Ident) (place : ℕ) : Type 0 where
  pub variable : Ident
  pub value : Value
  pub told : slice_get ts place ≡ Some (Is variable value)
  pub class : g variable ≡ r

-- the first value of its class stands for the value w that was told of y at the place k
pub record Stands (ts : List Tell) (g : Ident → Ident) (f : Ident → Option ℕ) (ps : List (Ident × Ident)) (k : ℕ) (y : Ident) (w : Value) : Type 0 where
  pub place : ℕ
  pub found : f (g y) ≡ Some place
  pub early : place ≤ k
  pub value : Value
  pub told : value_at ts place ≡ Some value
  pub like : IsTrue (is_like value w)
  pub agree : Agree g ps value w

pub record Closing (ts : List Tell) (g : Ident → Ident) (f : Ident → Option ℕ) (ps : List (Ident × Ident)) : Type 0 where
  pub idem : (x : Ident) → g (g x) ≡ g x
  pub sound : (x : Ident) → Same ts x (g x)
  pub due : (x y : Ident) → Contains ps (x, y) → Same ts x y
  pub equal : (x y : Ident) → Contains ts (Equal x y) → (h : Ident → Ident) → Coarser g h → Joins h ps → h x ≡ h y
  pub firsts : (r : Ident) (p : ℕ) → g r ≡ r → f r ≡ Some p → ToldAt ts g r p
  pub stands : (k : ℕ) (y : Ident) (w : Value) → slice_get ts k ≡ Some (Is y w) → Stands ts g f ps k y w

-- a closing in course, over a table
pub record Going (ts : List Tell) (t : Table) (ps : List (Ident × Ident)) : Type 0 where
  pub values : Closing ts (root_in t) (first_in t) ps
  pub bounds : Bounded ts (root_in t) (first_in t) (domain_in t)

-- What of one class was equal before, or the list meets both
abbrev pub Tied : List Tell → List Ident → (Ident → Ident) → Type 0
Tied before touched g = (x y : Ident) → g x ≡ g y → Same before x y ⊎ (Meets before touched x × Meets before touched y)

-- what was noted before the joins of a closing and after them
abbrev pub Follows : List Ident → List Ident → Table → Table → Type 0
Follows now now' t t' = (before : List Tell) → Tied before now (root_in t) → Tied before now' (root_in t')

abbrev pub width_of : Option Value → ℕ
width_of None = 0
width_of (Some v) = length (fields_of v)

-- how many fields the first value of a class has
abbrev pub width : List Tell → (Ident → Option ℕ) → Ident → ℕ
width ts f r = width_of (option_and_then (value_at ts) (f r))

-- how many fields the first values of classes have
abbrev pub weight : List Tell → (Ident → Ident) → (Ident → Option ℕ) → List Ident → ℕ
weight ts g f [] = 0
weight ts g f (x ∷ xs) = (if ident_eq (g x) x then width ts f x else 0) + weight ts g f xs

-- what is still to do, at most: each field of a value that is no first one of a class any more waits to be joined
abbrev pub left_over : List Tell → Table → List (Ident × Ident) → ℕ
left_over ts t ps = weight ts (root_in t) (first_in t) (flat_map named_by ts) + length ps

-- a pair was joined
pub record GoesOn (ts : List Tell) (t t' : Table) (ps ps' : List (Ident × Ident)) (now now' : List Ident) : Type 0 where
  pub going : Going ts t' ps'
  pub lighter : left_over ts t' ps' ≤ left_over ts t ps
  pub follows : Follows now now' t t'

-- or its values differ
abbrev pub Comes : List Tell → Table → Table → List (Ident × Ident) → List (Ident × Ident) → List Ident → List Ident → Bool → Type 0
Comes ts t t' ps ps' now now' true = GoesOn ts t t' ps ps' now now'
Comes ts t t' ps ps' now now' false = is_consistent ts ≡ false

-- all pairs were joined, or values differ
abbrev pub Settles : List Tell → Table → Table → List Ident → List Ident → Bool → Type 0
Settles ts t t' now now' true = Going ts t' [] × Follows now now' t t'
Settles ts t t' now now' false = is_consistent ts ≡ false
