-- The joining of two classes: x and y stand for them, t is what was kept before, and t' what is kept then.
use Rattle.std.specs.Prelude.{ℕ, ◌≡◌, Bool, true, false, List, ◌++◌, min, Option, Some, None}
use Rattle.std.specs.List.{zip}
use Rattle.oz_base.specs.declared.names.Ident.{Ident}
use Rattle.oz_semantics.specs.Values.{is_like, fields_of}
use Rattle.oz_semantics.specs.declared.value.Value.{Value}
use Rattle.oz_semantics.specs.declared.value.Tell.{Tell}
use Rattle.term_store.specs.Bounds.{Keeps}
use Rattle.term_store.specs.Classes.{Table, first_in, domain_in, UnitesFree, UnitesWith}
use Rattle.term_store.specs.Places.{value_at}
use Rattle.term_store.specs.declared.cell.Kept.{Kept}
use Rattle.term_store.specs.declared.closing.FirstOfTwo.{FirstOfTwo}
use Rattle.term_store.specs.declared.closing.FirstOfTwo.TheVariants.{Differ, First}

-- the values at two places differ
pub record Differing (ts : List Tell) (p q : ℕ) : Type 0 where
  pub left : Value
  pub right : Value
  pub at_left : value_at ts p ≡ Some left
  pub at_right : value_at ts q ≡ Some right
  pub unlike : is_like left right ≡ false

-- they are alike, and their fields are to be joined
pub record Agreeing (ts : List Tell) (p q : ℕ) (ps ps' : List (Ident × Ident)) : Type 0 where
  pub left : Value
  pub right : Value
  pub at_left : value_at ts p ≡ Some left
  pub at_right : value_at ts q ≡ Some right
  pub like : is_like left right ≡ true
  pub more : ps' ≡ ps ++ zip (fields_of left) (fields_of right)

-- the first of the values at two places
abbrev pub ValuesMeet : List Tell → ℕ → ℕ → List (Ident × Ident) → List (Ident × Ident) → FirstOfTwo → Type 0
ValuesMeet ts p q ps ps' Differ = Differing ts p q
ValuesMeet ts p q ps ps' (First first) = (first ≡ Some (min p q)) × Agreeing ts p q ps ps'

-- the first value of two classes
abbrev pub FirstsMeet : List Tell → Option ℕ → Option ℕ → List (Ident × Ident) → List (Ident × Ident) → FirstOfTwo → Type 0
FirstsMeet ts (Some p) (Some q) ps ps' met = ValuesMeet ts p q ps ps' met
FirstsMeet ts None other ps ps' met = (met ≡ First other) × (ps' ≡ ps)
FirstsMeet ts (Some p) None ps ps' met = (met ≡ First (Some p)) × (ps' ≡ ps)

-- what is kept of the class of both, if they have an integer in common
abbrev pub JoinsKept : List Tell → Table → Table → Ident → Ident → Option ℕ → Bool → Type 0
JoinsKept ts t t' x y first true = (k : Kept) × Keeps ts first (domain_in t x) (domain_in t y) (Some k) × UnitesWith t t' x y k
JoinsKept ts t t' x y first false = Keeps ts first (domain_in t x) (domain_in t y) None

pub data Takes (ts : List Tell) (t t' : Table) (x y : Ident) (ps ps' : List (Ident × Ident)) (goes : Bool) : Type 0 where
  free : goes ≡ true → UnitesFree t t' x y → ps' ≡ ps → Takes ts t t' x y ps ps' goes
  differ : goes ≡ false → FirstsMeet ts (first_in t x) (first_in t y) ps ps' Differ → Takes ts t t' x y ps ps' goes
  kept : (first : Option ℕ) → FirstsMeet ts (first_in t x) (first_in t y) ps ps' (First first) → JoinsKept ts t t' x y first goes → Takes ts t t' x y ps ps' goes
