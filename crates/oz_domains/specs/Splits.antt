-- What a distributor chooses: a variable, and a test that splits its domain (CTM chapter 12; Schulte, LNCS 2302).
use Rattle.std.specs.Prelude.{◌≡◌, ◌<◌, ◌≤◌, ◌⊎◌, ◌↔◌, ℕ, suc, nat_lt, ℤ, pos, ◌+ℤ◌, int_le, Bool, true, false, not, List, [], ◌∷◌, length, Option, Some, None, option_map, if◌then◌else◌}
use Rattle.std.specs.Int.{int_div_euclid}
use Rattle.std.specs.Ordering.{int_eq}
use Rattle.std.specs.FinSet as set
use Rattle.oz_base.specs.declared.distribution.Rule.{Rule}
use Rattle.oz_base.specs.declared.distribution.Rule.TheVariants.{Naive, FirstFail, Split as Halve}
use Rattle.oz_base.specs.declared.distribution.Test.{Test}
use Rattle.oz_base.specs.declared.distribution.Test.TheVariants.{Is, AtMost}
use Rattle.oz_base.specs.declared.distribution.Split.{Split}
use Rattle.oz_domains.specs.Domains.{IntSet, Has, least, greatest, is_single}
use Rattle.oz_domains.specs.Positions.{domain}

-- ---- the variable

-- the first place whose variable is not determined
abbrev pub first_place : List IntSet → Option ℕ
first_place [] = None
first_place (d ∷ ds) = (if is_single d then option_map suc (first_place ds) else Some 0)

-- of place 0, whose domain is d, and the best of the later places: the later only where it is smaller
abbrev pub smaller_place : IntSet → List IntSet → Option ℕ → ℕ
smaller_place d ds None = 0
smaller_place d ds (Some i) = (if nat_lt (set.len (domain ds i)) (set.len d) then suc i else 0)

-- of the places whose variable is not determined, that of smallest domain, and of several the first
abbrev pub smallest_place : List IntSet → Option ℕ
smallest_place [] = None
smallest_place (d ∷ ds) = (if is_single d then option_map suc (smallest_place ds) else Some (smaller_place d ds (smallest_place ds)))

abbrev pub place_of : Rule → List IntSet → Option ℕ
place_of Naive ds = first_place ds
place_of FirstFail ds = smallest_place ds
place_of Halve ds = smallest_place ds

-- ---- the test

-- the least value; or at most half of the least and the greatest value, rounded down
abbrev pub test_of : Rule → IntSet → Test
test_of Naive d = Is (least d)
test_of FirstFail d = Is (least d)
test_of Halve d = AtMost (int_div_euclid (least d +ℤ greatest d) (pos 2))

abbrev pub passes : Test → ℤ → Bool
passes (Is x) v = int_eq v x
passes (AtMost x) v = int_le v x

-- what is left of a domain in the first alternative, and in the second
abbrev pub first_part : Test → IntSet → IntSet
first_part t d = set.retain d (passes t)

abbrev pub second_part : Test → IntSet → IntSet
second_part t d = set.retain d (λ v. not (passes t v))

-- ---- the choice

-- None where all variables are determined
abbrev pub split_of : Rule → List IntSet → Option Split
split_of r ds = option_map (λ i. record { var = i; test = test_of r (domain ds i) }) (place_of r ds)

-- ---- what is so of each choice

-- each value is in exactly one part, and each part has a value
pub record AreHalves (t : Test) (d : IntSet) : Type 0 where
  pub cover : (v : ℤ) → Has d v ↔ (Has (first_part t d) v ⊎ Has (second_part t d) v)
  pub disjoint : (v : ℤ) → Has (first_part t d) v → Has (second_part t d) v → ⊥
  pub first : (v : ℤ) × Has (first_part t d) v
  pub second : (v : ℤ) × Has (second_part t d) v

-- the first place that is not determined
pub record IsFirst (ds : List IntSet) (i : ℕ) : Type 0 where
  pub inside : i < length ds
  pub undetermined : is_single (domain ds i) ≡ false
  pub before : (j : ℕ) → j < i → is_single (domain ds j) ≡ true

-- of the places below n that are not determined, the first of smallest domain
pub record IsSmallest (n : ℕ) (ds : List IntSet) (i : ℕ) : Type 0 where
  pub inside : i < n
  pub undetermined : is_single (domain ds i) ≡ false
  pub before : (j : ℕ) → j < i → is_single (domain ds j) ≡ false → set.len (domain ds i) < set.len (domain ds j)
  pub after : (j : ℕ) → i < j → j < n → is_single (domain ds j) ≡ false → set.len (domain ds i) ≤ set.len (domain ds j)

abbrev pub IsTaken : Rule → List IntSet → ℕ → Type 0
IsTaken Naive ds i = IsFirst ds i
IsTaken FirstFail ds i = IsSmallest (length ds) ds i
IsTaken Halve ds i = IsSmallest (length ds) ds i
