-- Where the first item that passes a test stands.
use Rattle.std.specs.Prelude.{ℕ, ◌≡◌, ◌+◌, ◌<◌, Bool, true, List, Option, Some, None, length, drop, position, option_map, slice_get, slice_set}
use Rattle.std.specs.List.{find}
use Rattle.oz_base.specs.Lists.{edit_first}

-- no item passes
pub record IsAbsent {A : Type 0} (test : A → Bool) (xs : List A) : Type 0 where
  pub none : find test xs ≡ None
  pub same : (change : A → A) → edit_first test change xs ≡ xs

-- the first item that passes is x, at this place
pub record IsFirst {A : Type 0} (test : A → Bool) (xs : List A) (place : ℕ) (x : A) : Type 0 where
  pub at : position test xs ≡ Some place
  pub within : place < length xs
  pub item : slice_get xs place ≡ Some x
  pub passes : test x ≡ true
  pub found : find test xs ≡ Some x
  pub edited : (change : A → A) → edit_first test change xs ≡ slice_set xs place (change x)

-- the place of the first item from a place on that passes
abbrev pub from_place : {A : Type 0} → (A → Bool) → List A → ℕ → Option ℕ
from_place test xs i = option_map (λ n. i + n) (position test (drop i xs))
