-- The nodes of a tree of choices, each named by the branches that lead to it from the root (CTM, chapter 12).
use Rattle.std.specs.Prelude.{◌≡◌, ℕ, zero, suc, ◌==◌, Bool, true, false, ◌&&◌, List, [], ◌∷◌, ◌++◌, map}
use Rattle.std.specs.Ordering.{nat_cmp}
use Rattle.std.specs.declared.cmp.Ordering.{Ordering}
use Rattle.std.specs.Cmp.Lexicographic.{slice_cmp, pointwise}
use lib.Dec.{leb}
use Rattle.oz_search.specs.Searches.{Search}

module _ {B L : Type 0} (k : Search B L) where
  abbrev pub same_path : List B → List B → Bool
  same_path = pointwise k.same

  -- lexicographic, and a path stands before those that go on from it
  abbrev pub path_cmp : List B → List B → Ordering
  path_cmp = slice_cmp k.cmp

  -- the order by the alternatives alone: from left to right in the tree
  abbrev pub alternatives_cmp : List B → List B → Ordering
  alternatives_cmp p q = slice_cmp nat_cmp (map k.number p) (map k.number q)

  -- whether the branch takes one of the alternatives 1 to n
  abbrev pub is_among : ℕ → B → Bool
  is_among n b = leb 1 (k.number b) && leb (k.number b) n

  -- whether p is q with a branch to one of the alternatives 1 to n behind it
  abbrev pub is_child : List B → ℕ → List B → Bool
  is_child [] n [] = false
  is_child [] n (b ∷ []) = is_among n b
  is_child [] n (b ∷ c ∷ p) = false
  is_child (x ∷ q) n [] = false
  is_child (x ∷ q) n (y ∷ p) = k.same y x && is_child q n p

  -- whether p and q lead to the same alternative of the same node, or are both the root's. Only what else their last branches
  -- fix may differ
  abbrev pub same_alternative : List B → List B → Bool
  same_alternative [] [] = true
  same_alternative [] (y ∷ q) = false
  same_alternative (x ∷ p) [] = false
  same_alternative (x ∷ []) (y ∷ []) = (k.number x == k.number y)
  same_alternative (x ∷ []) (y ∷ z ∷ q) = false
  same_alternative (x ∷ w ∷ p) (y ∷ []) = false
  same_alternative (x ∷ w ∷ p) (y ∷ z ∷ q) = k.same x y && same_alternative (w ∷ p) (z ∷ q)

-- the branch by which each alternative of each node is taken
abbrev pub Taking : Type 0 → Type 0
Taking B = List B → ℕ → B

-- it takes the alternative that it is for
abbrev pub IsTaking : {B L : Type 0} → Search B L → Taking B → Type 0
IsTaking {B} k branch = (p : List B) (i : ℕ) → k.number (branch p i) ≡ i

-- the children of p by the alternatives 1 to n, in this order
abbrev pub children : {B : Type 0} → Taking B → List B → ℕ → List (List B)
children branch p zero = []
children branch p (suc n) = children branch p n ++ (p ++ branch p (suc n) ∷ []) ∷ []
