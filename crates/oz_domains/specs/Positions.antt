-- The positions of a relation: a domain for each, and a value for each.
use Rattle.std.specs.Prelude.{◌≡◌, ◌<◌, ◌≤ℤ◌, ℕ, ℤ, pos, Bool, true, ◌&&◌, List, [], ◌∷◌, length, slice_index_or}
use Rattle.std.specs.FinSet as set
use Rattle.oz_base.specs.declared.interval.TheConstants.{LEAST_VALUE, GREATEST_VALUE}
use Rattle.oz_domains.specs.Domains.{IntSet, Has, IsDomain, is_single}

-- the domain of position i
abbrev pub domain : List IntSet → ℕ → IntSet
domain ds i = slice_index_or ds i set.empty

-- the value of a tuple at position i
abbrev pub value : List ℤ → ℕ → ℤ
value t i = slice_index_or t i (pos 0)

-- the tuple has a value of each domain
pub record IsIn (ds : List IntSet) (t : List ℤ) : Type 0 where
  pub long : length t ≡ length ds
  pub each : (i : ℕ) → i < length ds → Has (domain ds i) (value t i)

-- each new domain is a part of the old one
pub record AreParts (new old : List IntSet) : Type 0 where
  pub long : length new ≡ length old
  pub each : (i : ℕ) (v : ℤ) → Has (domain new i) v → Has (domain old i) v

-- each is a set of domain values that is not empty
abbrev pub AreDomains : List IntSet → Type 0
AreDomains ds = (i : ℕ) → i < length ds → IsDomain (domain ds i)

-- all positions are determined
abbrev pub all_single : List IntSet → Bool
all_single [] = true
all_single (d ∷ ds) = is_single d && all_single ds

-- the values are domain values
abbrev pub AreValues : List ℤ → Type 0
AreValues t = (i : ℕ) → i < length t → (LEAST_VALUE ≤ℤ value t i) × (value t i ≤ℤ GREATEST_VALUE)
