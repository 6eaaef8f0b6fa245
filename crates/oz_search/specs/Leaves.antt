-- The unfailed leaves of a history.
use Rattle.std.specs.Prelude.{◌≡◌, ℕ, zero, suc, List, [], ◌∷◌, Option, Some, None, if◌then◌else◌}
use Rattle.std.specs.List.{fold, sum_by}
use Rattle.std.specs.BTreeMap.{insert_entry}
use Rattle.std.specs.declared.cmp.Ordering.TheVariants.{Less}
use Rattle.oz_search.specs.declared.history.Entry.{Entry}
use Rattle.oz_search.specs.declared.history.Entry.TheVariants.{Claim, Split, Leaf, Stop}
use Rattle.oz_search.specs.Searches.{Search}
use Rattle.oz_search.specs.Paths.{path_cmp}
use Rattle.oz_search.specs.Histories.{History}

module _ {B L : Type 0} (k : Search B L) where
  -- the leaf that an entry is, where it is an unfailed one
  abbrev pub leaf_of : Entry (List B) L → Option (List B × L)
  leaf_of (Claim w p) = None
  leaf_of (Split w p n s) = None
  leaf_of (Leaf w p l s) = if k.fails l then None else Some (p, l)
  leaf_of (Stop e) = None

  -- the leaf that the entry at a place of the history is, where the first entry has the place 0
  abbrev pub leaf_at_place : History B L → ℕ → Option (List B × L)
  leaf_at_place [] i = None
  leaf_at_place (e ∷ h) zero = leaf_of e
  leaf_at_place (e ∷ h) (suc i) = leaf_at_place h i

  -- the leaves after one entry more: a leaf goes to its place in the order of the paths
  abbrev pub leaves_after : List (List B × L) → Entry (List B) L → List (List B × L)
  leaves_after ls (Claim w p) = ls
  leaves_after ls (Split w p n s) = ls
  leaves_after ls (Leaf w p l s) = if k.fails l then ls else insert_entry (path_cmp k) ls p l
  leaves_after ls (Stop e) = ls

  -- the unfailed leaves with their paths, from left to right
  abbrev pub leaves_of : History B L → List (List B × L)
  leaves_of h = fold leaves_after [] h

  -- at these places of h, each with the path of its leaf, stand these leaves
  abbrev pub Names : History B L → List (List B × ℕ) → List (List B × L) → Type 0
  Names h [] [] = Unit {0}
  Names h [] (y ∷ ls) = ⊥
  Names h (x ∷ places) [] = ⊥
  Names h (x ∷ places) (y ∷ ls) = (x.0 ≡ y.0) × (leaf_at_place h x.1 ≡ Some y) × Names h places ls

  -- p is left of each of these
  abbrev pub IsBelowAll : List B → List (List B × L) → Type 0
  IsBelowAll p [] = Unit {0}
  IsBelowAll p (x ∷ ls) = (path_cmp k p x.0 ≡ Less) × IsBelowAll p ls

  -- each path is left of all later ones
  abbrev pub IsInOrder : List (List B × L) → Type 0
  IsInOrder [] = Unit {0}
  IsInOrder (x ∷ ls) = IsBelowAll x.0 ls × IsInOrder ls

  -- what the entry weighs, where a leaf l at p weighs g p l
  abbrev pub weight_of : (List B → L → ℕ) → Entry (List B) L → ℕ
  weight_of g (Claim w p) = 0
  weight_of g (Split w p n s) = 0
  weight_of g (Leaf w p l s) = if k.fails l then 0 else g p l
  weight_of g (Stop e) = 0

  -- each leaf comes as often in ls as unfailed in h: whatever the leaves weigh, the sums agree
  abbrev pub SameLeaves : History B L → List (List B × L) → Type 0
  SameLeaves h ls = (g : List B → L → ℕ) → sum_by (λ x. g x.0 x.1) ls ≡ sum_by (weight_of g) h
