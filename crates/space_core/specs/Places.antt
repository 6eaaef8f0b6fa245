-- Where the first item that passes a test stands.
use Rattle.std.specs.Prelude.{ℕ, ◌≡◌, ◌<◌, Bool, List, [], ◌∷◌, ◌++◌, Some, None, length, insert, position, slice_index_or, slice_set}
use Rattle.std.specs.List.{find}
use Rattle.oz_base.specs.Lists.{edit_first, put_before}

-- no item passes
pub record IsAbsent {A : Type 0} (test : A → Bool) (xs : List A) : Type 0 where
  pub none : find test xs ≡ None
  pub same : (change : A → A) → edit_first test change xs ≡ xs
  pub put : (new : A) → put_before test new xs ≡ xs ++ new ∷ []

-- the first item that passes is x, at this place
pub record IsFirst {A : Type 0} (test : A → Bool) (xs : List A) (place : ℕ) (x : A) : Type 0 where
  pub at : position test xs ≡ Some place
  pub within : place < length xs
  pub item : slice_index_or xs place x ≡ x
  pub found : find test xs ≡ Some x
  pub edited : (change : A → A) → edit_first test change xs ≡ slice_set xs place (change x)
  pub put : (new : A) → put_before test new xs ≡ insert xs place new
