-- Kinds of search (CTM, chapter 12; Schulte, LNCS 2302, on search). A search goes through a tree of choices. From a node it goes
-- to a child by a branch, which says which alternative it takes, and whatever else is fixed as it is taken: nothing in plain
-- search, in best search the bound. Of a leaf it has a report.
use Rattle.std.specs.Prelude.{◌≡◌, ℕ, ◌<◌, Bool, List}
use Rattle.std.specs.Bool.{Decides}
use Rattle.std.specs.declared.cmp.Ordering.{Ordering}
use Rattle.std.specs.declared.cmp.Ordering.TheVariants.{Less, Equal, Greater}
use Rattle.oz_search.specs.declared.history.Entry.{Entry}

-- a kind of search, with branches B and reports L of leaves
pub record Search (B L : Type 0) : Type 0 where
  -- the alternative that a branch takes, counted from 1
  pub number : B → ℕ
  -- the branch to an alternative by which nothing else is fixed
  pub free : ℕ → B
  -- whether two branches are the same
  pub same : B → B → Bool
  -- their order
  pub cmp : B → B → Ordering
  -- whether the leaf is a failed node, which is not reported
  pub fails : L → Bool
  -- whether after this history an open node may be claimed by this path
  pub admits : List (Entry (List B) L) → List B → Bool

-- what has to hold of it
pub record IsSearch {B L : Type 0} (k : Search B L) : Type 0 where
  -- the free branch to an alternative takes that alternative
  pub numbered : (i : ℕ) → k.number (k.free i) ≡ i
  -- the test for sameness is exact
  pub exact : (x y : B) → Decides (k.same x y) (x ≡ y)
  -- a branch is level with itself, and with no other one
  pub level : (x : B) → k.cmp x x ≡ Equal
  pub tied : (x y : B) → k.cmp x y ≡ Equal → x ≡ y
  -- an alternative of less number comes first
  pub ordered : (x y : B) → k.number x < k.number y → (k.cmp x y ≡ Less) × (k.cmp y x ≡ Greater)
