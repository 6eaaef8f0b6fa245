-- The open paths, as runs of siblings: the free path to the first one, and the number of the last.
use Rattle.std.specs.Prelude.{◌≡◌, ℕ, ◌+◌, ◌≤◌, ◌==◌, Bool, true, false, ◌&&◌, List, [], ◌∷◌, ◌++◌}
use Rattle.std.specs.List.{list_all, count_by, All}
use Rattle.std.specs.Map.{keys_of}
use Rattle.std.specs.declared.cmp.Ordering.TheVariants.{Less}
use lib.Dec.{leb}
use Rattle.oz_search.specs.Searches.{Search}
use Rattle.oz_search.specs.Paths.{path_cmp, same_alternative, is_child}
use Rattle.search_law.specs.Counting.{one_if}
use Rattle.pool_state.specs.Branching.{by_last}

-- p is the first key, and below all others
abbrev pub Leads : {B L : Type 0} → Search B L → List (List B × ℕ) → List B → List (List B × ℕ) → Type 0
Leads k es p fs = (n : ℕ) × (es ≡ (p, n) ∷ fs) × All (λ y. path_cmp k p y ≡ Less) (keys_of fs)

module _ {B L : Type 0} (k : Search B L) where
  -- p leads to the alternative of q or to a later one of the same node, up to the number n. The root stands alone, with the number 0
  abbrev pub covers : List B → List B → ℕ → Bool
  covers [] [] n = n == 0
  covers [] (y ∷ q) n = false
  covers (x ∷ p) [] n = false
  covers (x ∷ []) (y ∷ []) n = leb (k.number y) (k.number x) && leb (k.number x) n
  covers (x ∷ []) (y ∷ z ∷ q) n = false
  covers (x ∷ w ∷ p) (y ∷ []) n = false
  covers (x ∷ w ∷ p) (y ∷ z ∷ q) n = k.same x y && covers (w ∷ p) (z ∷ q) n

  -- p is in the run
  abbrev pub in_run : List B → List B × ℕ → Bool
  in_run p e = covers p e.0 e.1

  -- how many runs have p
  abbrev pub runs_with : List B → List (List B × ℕ) → ℕ
  runs_with p es = count_by (in_run p) es

  -- a run has its own key
  abbrev pub starts : List B × ℕ → Bool
  starts e = in_run e.0 e

  -- n runs have p
  abbrev pub IsCovered : List (List B × ℕ) → List B → ℕ → Type 0
  IsCovered es p n = runs_with p es ≡ n

  -- each run has its own key, and no path is in two runs
  abbrev pub IsFrontier : List (List B × ℕ) → Type 0
  IsFrontier es = (list_all starts es ≡ true) × ((p : List B) → runs_with p es ≤ 1)

  -- p with the free branch to its first alternative
  abbrev pub first_child : List B → List B
  first_child p = p ++ k.free 1 ∷ []

  -- p is the first key, and below all others
  abbrev pub IsFirst : List B → List (List B × ℕ) → Type 0
  IsFirst p [] = ⊥
  IsFirst p (e ∷ es) = (p ≡ e.0) × All (λ y. path_cmp k p y ≡ Less) (keys_of es)

  -- p, which was the first key, is gone, and with it what else leads to the same alternative
  pub record TakesLeftmost (es : List (List B × ℕ)) (p : List B) (fs : List (List B × ℕ)) : Type 0 where
    pub first : IsFirst p es
    pub others : (q : List B) → runs_with q fs + one_if (same_alternative k q p) ≡ runs_with q es
    pub own : list_all starts fs ≡ true

  -- the first key is gone, and c leads to the same alternative by the branch that f makes of its last one
  abbrev pub TakesBearing : (B → B) → List (List B × ℕ) → List B → List (List B × ℕ) → Type 0
  TakesBearing f es c fs = (p : List B) × TakesLeftmost es p fs × (c ≡ by_last f p)

  -- the children of p are there besides
  pub record Opens (es : List (List B × ℕ)) (p : List B) (n : ℕ) (fs : List (List B × ℕ)) : Type 0 where
    pub children : (q : List B) → runs_with q fs ≡ runs_with q es + one_if (is_child k p n q)
    pub own : list_all starts fs ≡ true
