-- What ties the pool to its history.
use Rattle.std.specs.Prelude.{◌≡◌, ℕ, ◌≤◌, ◌<◌, ◌^◌, List, Option, None}
use Rattle.oz_search.specs.declared.history.Halt.{Halt}
use Rattle.oz_search.specs.Searches.{Search}
use Rattle.oz_search.specs.Histories.{History}
use Rattle.search_law.specs.Places.{places_of}
use Rattle.pool_state.specs.Branching.{so_far}
use Rattle.pool_state.specs.Tied.{IsTied}

-- the fields fit the history h, and while nobody has stopped there is room for one entry more. A search begins with c, and each leaf
-- adds to it
pub record IsKept {B L C : Type 0} (k : Search B L) (c : C) (more : C → L → C) (budget : ℕ) (runs : List (List B × ℕ)) (out : List (List B)) (total : ℕ) (halt : Option Halt)
    (leaves : List (List B × ℕ)) (now : C) (h : History B L) (len capacity : ℕ) : Type 0 where
  pub tied : IsTied k budget runs out total halt h
  pub placed : leaves ≡ places_of k h
  pub bears : now ≡ so_far more c h
  pub small : budget ≤ 2 ^ 48
  pub room : halt ≡ None → len < capacity
