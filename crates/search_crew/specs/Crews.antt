-- Workers that explore one tree.
use Rattle.std.specs.Prelude.{◌≡◌, ◌≢◌, ℕ, ◌<◌, ◌≤◌, ◌⊎◌, true, Some, None, Result, Ok, Err}
use Rattle.turn_lock.specs.Views.{has}
use Rattle.pool_state.specs.declared.pool.Settled.{Settled}
use Rattle.pool_state.specs.declared.pool.Settled.TheVariants as settled
use Rattle.node_pool.specs.Workers.{PoolView, WorkerView, IsOf, claim}
use Rattle.node_pool.specs.Calls.{StopTurn}
use Rattle.oz_search.specs.Searches.{Search}
use Rattle.oz_search.specs.Histories.{History, IsNothingOpen, IsNothingOut, stop_of}
use Rattle.oz_search.specs.declared.history.Halt.{Halt}
use Rattle.oz_search.specs.declared.history.StopCause.{StopCause}
use Rattle.oz_search.specs.declared.history.StopCause.TheVariants.{Memory, Fuel}
use Rattle.recompute.specs.declared.explorer.Solved.{Solved}
use Rattle.recompute.specs.declared.explorer.Solved.TheVariants as solved
use Rattle.search_crew.specs.declared.explore.After.{After}
use Rattle.search_crew.specs.declared.explore.After.TheVariants as then

-- the search is over: nothing is open and nothing out, or somebody has stopped
abbrev pub IsOver : {B L : Type 0} → Search B L → History B L → Type 0
IsOver k h = (IsNothingOpen k h × IsNothingOut k h) ⊎ ((e : Halt) × (stop_of h ≡ Some e))

-- the first who stopped did so for want of steps
abbrev pub WantsSteps : {B L : Type 0} → History B L → Type 0
WantsSteps h = (e : Halt) × (stop_of h ≡ Some e) × (e.cause ≢ Memory)

-- the pool is for the search of this tag, with so many steps
abbrev pub IsFor : {T : Type 0} → T → ℕ → PoolView T → Type 0
IsFor x steps p = (p.tag ≡ x) × (p.budget ≡ steps)

module _ {T B L : Type 0} where
  -- a worker of the pool that has nothing out
  abbrev pub IsReady : PoolView T → WorkerView T B L → Type 0
  IsReady p w = IsOf w p × (claim w ≡ None)

  -- for the same numbers
  abbrev pub IsSame : WorkerView T B L → WorkerView T B L → Type 0
  IsSame w u = (u.numbers ≡ w.numbers) × (u.drawn ≡ w.drawn)

  -- it has explored, until the search was over
  abbrev pub HasExplored : Search B L → PoolView T → WorkerView T B L → WorkerView T B L → Type 0
  HasExplored k p w u = IsOf u p × IsSame w u × IsOver k u.seen

  -- what it was told of a node: it is settled, or the search is over; or memory was refused
  abbrev pub IsTold : {E : Type 0} → Search B L → WorkerView T B L → Result Settled E → Type 0
  IsTold k u (Ok settled.Done) = claim u ≡ None
  IsTold k u (Ok (settled.Spent t)) = IsOver k u.seen
  IsTold k u (Ok (settled.Stopped e)) = IsOver k u.seen
  IsTold k u (Err e) = Unit {0}

  -- the worker w goes on, or the search is over
  abbrev pub GoesOn : Search B L → PoolView T → WorkerView T B L → After (WorkerView T B L) → Type 0
  GoesOn k p w (then.Free u) = IsReady p u × IsSame w u
  GoesOn k p w (then.Over u) = HasExplored k p w u

  -- the search is over, since the worker stops it for this cause
  abbrev pub StopsFor : StopCause → WorkerView T B L → After (WorkerView T B L) → Type 0
  StopsFor cause w (then.Free u) = ⊥
  StopsFor cause w (then.Over u) = StopTurn cause w u

  -- where there are too few steps for what is at the node, or there is none, the worker stops for want of steps, and for want of
  -- memory where that was refused
  abbrev pub StopsWhere : {M E : Type 0} → Result (Solved M) E → WorkerView T B L → After (WorkerView T B L) → Type 0
  StopsWhere (Ok (solved.Node r)) w a = Unit {0}
  StopsWhere (Ok (solved.OutOfFuel n)) w a = StopsFor Fuel w a
  StopsWhere (Ok (solved.NotANode n)) w a = StopsFor Fuel w a
  StopsWhere (Err e) w a = StopsFor Memory w a

  -- it has drawn the numbers below n, and stands for its own and for those from k on
  abbrev pub StandsFrom : ℕ → ℕ → WorkerView T B L → WorkerView T B L → Type 0
  StandsFrom k n w u = (u.drawn ≡ Some n) × ((i : ℕ) → i < n → (has i w.numbers ≡ true) ⊎ (k ≤ i) → has i u.numbers ≡ true)
