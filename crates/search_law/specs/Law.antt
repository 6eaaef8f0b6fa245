-- What holds of every history that replays, or that is legal for a tree.
use Rattle.std.specs.Prelude.{◌≡◌, ◌⊎◌, ℕ, ◌≤◌, Bool, true, false, List, [], ◌∷◌, ◌++◌, Option, Some, None}
use Rattle.std.specs.declared.cmp.Ordering.TheVariants.{Less, Greater}
use Rattle.oz_search.specs.declared.history.Entry.TheVariants.{Claim, Stop}
use Rattle.oz_search.specs.declared.history.Halt.{Halt}
use Rattle.oz_search.specs.declared.history.StopCause.{StopCause}
use Rattle.oz_search.specs.declared.history.StopCause.TheVariants.{Memory, Fuel, Total}
use Rattle.oz_search.specs.Searches.{Search, IsSearch}
use Rattle.oz_search.specs.Paths.{Taking, IsTaking, same_path, same_alternative, path_cmp, alternatives_cmp}
use Rattle.oz_search.specs.Trees.{Tree, Costs, explore, depth_first}
use Rattle.oz_search.specs.Nodes.{Fuelled, IsFuelled}
use Rattle.oz_search.specs.Histories.{History, Replays, IsLegal, IsNothingOpen, IsNothingOut, is_open, is_claimed, is_out_to, claim_of, total_of, stop_of}
use Rattle.oz_search.specs.Leaves.{leaves_of, IsInOrder, SameLeaves, Names}
use Rattle.oz_search.specs.Plain.{plain, itself}
use Rattle.oz_search.specs.Best.{best}
use Rattle.search_law.specs.Places.{places_of}
use Rattle.search_law.specs.Taken.{taken}

-- a worker stopped for want of steps
abbrev pub IsSpent : StopCause → Type 0
IsSpent Memory = ⊥
IsSpent Fuel = Unit {0}
IsSpent (Total t) = Unit {0}

module _ {B L : Type 0} (k : Search B L) where
  -- ---- the tree

  -- each claim of h takes the branch that is given for its alternative
  abbrev pub Follows : Taking B → History B L → Type 0
  Follows branch h = (p : List B) (b : B) → is_claimed k h (p ++ b ∷ []) ≡ true → branch p (k.number b) ≡ b

  -- where nothing is open and nothing out, h has the leaves and the total of the depth-first traversal
  abbrev pub HoldsTree : Taking B → Tree B L → ℕ → History B L → Type 0
  HoldsTree branch node budget h = IsNothingOpen k h → IsNothingOut k h → depth_first k branch node budget ≡ Some (leaves_of k h, total_of h)

  -- where h has a stop for want of steps, the traversal gives none
  abbrev pub StopsRightly : Taking B → Tree B L → ℕ → History B L → Type 0
  StopsRightly branch node budget h = (e : Halt) → stop_of h ≡ Some e → IsSpent e.cause → depth_first k branch node budget ≡ None

  -- ---- claims

  -- whether the claim is p
  abbrev pub is_at : Option (List B) → List B → Bool
  is_at None p = false
  is_at (Some q) p = same_path k p q

-- so it is of each legal history, by the branches that it follows
abbrev pub FinishedLaw : Type 0 → Type 0 → Type 0
FinishedLaw B L =
    (k : Search B L) → IsSearch k → (branch : Taking B) → IsTaking k branch → (within : Fuelled B L) (budget : ℕ) (h : History B L) → Costs (within budget) → IsLegal within k budget h → Follows k branch h
    → HoldsTree k branch (within budget) budget h

abbrev pub SpentLaw : Type 0 → Type 0 → Type 0
SpentLaw B L =
    (k : Search B L) → IsSearch k → (branch : Taking B) → IsTaking k branch → (within : Fuelled B L) (budget : ℕ) (h : History B L) → IsFuelled k within → IsLegal within k budget h → Follows k branch h
    → StopsRightly k branch (within budget) budget h

-- a history that replays follows the branches that it has taken
abbrev pub TakenLaw : Type 0 → Type 0 → Type 0
TakenLaw B L = (k : Search B L) → IsSearch k → (budget : ℕ) (h : History B L) → Replays k budget h → IsTaking k (taken k h) × Follows k (taken k h) h

-- in plain search each history follows the only branches that there are
abbrev pub PlainLaw : Type 0 → Type 0
PlainLaw L =
    (fails : L → Bool) (within : Fuelled ℕ L) (budget : ℕ) (h : History ℕ L) → IsFuelled (plain fails) within → IsLegal within (plain fails) budget h
    → HoldsTree (plain fails) itself (within budget) budget h × StopsRightly (plain fails) itself (within budget) budget h

-- the bound on the depth does not matter, where it is not below the fuel
abbrev pub BoundLaw : Type 0 → Type 0 → Type 0
BoundLaw B L =
    (k : Search B L) → IsSearch k → (branch : Taking B) → IsTaking k branch → (node : Tree B L) → Costs node → (bound : ℕ) (p : List B) (fuel : ℕ) → fuel ≤ bound → explore k branch node bound p fuel ≡ explore k branch node fuel p fuel

-- ---- the end of a history

-- nothing more comes, or one stop for want of memory
abbrev pub IsLast : {B L : Type 0} → History B L → Type 0
IsLast after = (after ≡ []) ⊎ ((x : Halt) × (x.cause ≡ Memory) × (after ≡ Stop x ∷ []))

-- so it is once nothing is open and nothing out
abbrev pub LastLaw : Type 0 → Type 0 → Type 0
LastLaw B L = (k : Search B L) → IsSearch k → (budget : ℕ) (before after : History B L) → Replays k budget (before ++ after) → IsNothingOpen k before → IsNothingOut k before → IsLast after

-- and then nothing is open and nothing out for good
abbrev pub StaysLaw : Type 0 → Type 0 → Type 0
StaysLaw B L =
    (k : Search B L) → IsSearch k → (budget : ℕ) (before after : History B L) → Replays k budget (before ++ after) → IsNothingOpen k before → IsNothingOut k before
    → IsNothingOpen k (before ++ after) × IsNothingOut k (before ++ after)

-- what is out to a worker is its claim
abbrev pub ClaimLaw : Type 0 → Type 0 → Type 0
ClaimLaw B L = (k : Search B L) → IsSearch k → (budget : ℕ) (h : History B L) → Replays k budget h → (w : ℕ) (p : List B) → is_out_to k h w p ≡ is_at k (claim_of h w) p

-- no alternative of a node is claimed twice
abbrev pub OnceLaw : Type 0 → Type 0 → Type 0
OnceLaw B L =
    (k : Search B L) → IsSearch k → (budget : ℕ) (h before between after : History B L) (v w : ℕ) (p q : List B) → Replays k budget h → h ≡ (before ++ Claim v p ∷ between) ++ Claim w q ∷ after → same_alternative k q p ≡ true → ⊥

-- open paths to different alternatives are in one order by their alternatives and by their branches
abbrev pub OpenLaw : Type 0 → Type 0 → Type 0
OpenLaw B L =
    (k : Search B L) → IsSearch k → (budget : ℕ) (h : History B L) → Replays k budget h → (p q : List B) → is_open k h p ≡ true → is_open k h q ≡ true
    → (same_alternative k p q ≡ true) ⊎ (((path_cmp k p q ≡ Less) × (alternatives_cmp k p q ≡ Less)) ⊎ ((path_cmp k p q ≡ Greater) × (alternatives_cmp k p q ≡ Greater)))

-- ---- leaves

-- the leaves of a history that replays are its unfailed leaves, each once, in path order
abbrev pub LeavesLaw : Type 0 → Type 0 → Type 0
LeavesLaw B L = (k : Search B L) → IsSearch k → (budget : ℕ) (h : History B L) → Replays k budget h → IsInOrder k (leaves_of k h) × SameLeaves k h (leaves_of k h)

-- the places in the history that are noted as the leaves come are theirs, in their order
abbrev pub PlacesLaw : Type 0 → Type 0 → Type 0
PlacesLaw B L = (k : Search B L) → IsSearch k → (h : History B L) → Names k h (places_of k h) (leaves_of k h)

-- ---- kinds of search

-- plain search, with whatever report of leaves, and best search are kinds of search
abbrev pub PlainSearch : Type 0 → Type 0
PlainSearch L = (fails : L → Bool) → IsSearch (plain fails)

abbrev pub BestSearch : Type 0
BestSearch = IsSearch best
