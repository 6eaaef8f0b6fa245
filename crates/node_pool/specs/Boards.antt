-- What lies under the lock.
use Rattle.oz_search.specs.Histories.{History}
use Rattle.std.specs.Prelude.{◌≡◌, ℕ, List, Option, Some, None}
use Rattle.oz_search.specs.Trees.{Tree}
use Rattle.oz_search.specs.declared.history.StopCause.{StopCause}
use Rattle.oz_search.specs.declared.history.StopCause.TheVariants.{Memory, Fuel, Total}

-- a pool with the tag of its tree. The budget is in steps
pub record Ledger (T B L : Type 0) : Type 0 where
  pub tag : T
  pub budget : ℕ
  pub history : History B L

-- of these parts
abbrev pub ledger : {T B L : Type 0} → T → ℕ → History B L → Ledger T B L
ledger x b h = record { tag = x; budget = b; history = h }

-- for this cause a worker may stop by itself, where c is its claim: want of memory, or a node that has more own steps than the
-- budget, so that it is not in the tree within the budget. A stop by the total comes from a split or a leaf alone
abbrev pub IsCause : {B L : Type 0} → Tree B L → Option (List B) → StopCause → Type 0
IsCause node c Memory = Unit {0}
IsCause {B} node c Fuel = (p : List B) × (c ≡ Some p) × (node p ≡ None)
IsCause node c (Total t) = ⊥
