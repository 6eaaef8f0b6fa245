-- The domains of classes: g is the variable that stands for the class of each, and d what is left to a class, by that variable.
use Rattle.std.specs.Prelude.{ℕ, ◌≡◌, ◌⊎◌, Bool, true, false, List, Option, Some, None}
use Rattle.std.specs.List.{filter_map}
use Rattle.std.specs.FinSet as set
use Rattle.oz_base.specs.Lists.{holds_of}
use Rattle.oz_base.specs.Names.{ident_eq}
use Rattle.oz_base.specs.declared.names.Ident.{Ident}
use Rattle.oz_domains.specs.Domains.{IntSet, IsDomain}
use Rattle.oz_semantics.specs.Store.{set_given, common}
use Rattle.oz_semantics.specs.Values.{integer_in}
use Rattle.oz_semantics.specs.declared.value.Value.{Value}
use Rattle.oz_semantics.specs.declared.value.Tell.{Tell}
use Rattle.term_store.specs.Places.{value_at}
use Rattle.term_store.specs.declared.cell.Kept.{Kept}
use Rattle.term_store.specs.declared.class_domain.Met.{Met}
use Rattle.term_store.specs.declared.class_domain.Met.TheVariants.{Nothing, Left}

-- the integers that two domains have in common, where there is one
abbrev pub meets : Option IntSet → Option IntSet → Option IntSet
meets None other = other
meets (Some s) None = Some s
meets (Some s) (Some t) = Some (set.intersection s t)

-- it is a domain, if there is one
abbrev pub AreDomain : Option IntSet → Type 0
AreDomain domain = (s : IntSet) → domain ≡ Some s → IsDomain s

-- what two domains have in common, if that is not nothing
abbrev pub Meeting : Option IntSet → Option IntSet → Met → Type 0
Meeting one other Nothing = meets one other ≡ Some set.empty
Meeting one other (Left domain) = (domain ≡ meets one other) × AreDomain domain

-- a value is an integer of the set
abbrev pub has_value : IntSet → Value → Bool
has_value s v = holds_of (set.contains s) (integer_in v)

-- and of the domain, if there is one
abbrev pub admits : Option IntSet → Value → Bool
admits None v = true
admits (Some s) v = has_value s v

-- the value at the place, if there is one, is an integer of the domain, if there is one
abbrev pub Suits : List Tell → Option ℕ → Option IntSet → Type 0
Suits ts first domain = (p : ℕ) (v : Value) (s : IntSet) → first ≡ Some p → value_at ts p ≡ Some v → domain ≡ Some s → has_value s v ≡ true

-- the value at the place is no integer of the domain
pub record Clashes (ts : List Tell) (first : Option ℕ) (domain : Option IntSet) : Type 0 where
  pub place : ℕ
  pub value : Value
  pub integers : IntSet
  pub found : first ≡ Some place
  pub told : value_at ts place ≡ Some value
  pub left : domain ≡ Some integers
  pub missing : has_value integers value ≡ false

-- whether it is
abbrev pub Fits : List Tell → Option ℕ → Option IntSet → Bool → Type 0
Fits ts first domain true = Suits ts first domain
Fits ts first domain false = Clashes ts first domain

-- what is kept of a class that two domains are told, and whose first value is at the place, if there is one: not if nothing is left,
-- or the value is no integer that is
abbrev pub Keeps : List Tell → Option ℕ → Option IntSet → Option IntSet → Option Kept → Type 0
Keeps ts first one other None = (meets one other ≡ Some set.empty) ⊎ Clashes ts first (meets one other)
Keeps ts first one other (Some kept) = (kept ≡ record { first = first; domain = meets one other }) × AreDomain (meets one other) × Suits ts first (meets one other)

-- the integers that all domains have which are told of variables that pass the test
abbrev pub left_by : (Ident → Bool) → List Tell → Option IntSet
left_by test ts = common (filter_map (set_given test) ts)

-- the domain of each class is what was told of it, and has its value
pub record Bounded (ts : List Tell) (g : Ident → Ident) (f : Ident → Option ℕ) (d : Ident → Option IntSet) : Type 0 where
  pub left : (r : Ident) → g r ≡ r → d r ≡ left_by (λ y. ident_eq (g y) r) ts
  pub domains : (r : Ident) → g r ≡ r → AreDomain (d r)
  pub suits : (r : Ident) → g r ≡ r → Suits ts (f r) (d r)
