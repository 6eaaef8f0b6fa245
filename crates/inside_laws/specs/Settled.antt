-- Configurations that what follows a step leaves as they are.
use Rattle.std.specs.Prelude.{ℕ, ◌≡◌, true, List, [], None}
use Rattle.oz_language.specs.declared.kernel.Statement.{Statement}
use Rattle.oz_semantics.specs.Settling.{inconsistent_spaces, settled}
use Rattle.oz_semantics.specs.declared.configuration.Configuration.{Configuration}
use Rattle.view_laws.specs.Trees.{is_ascending, names_of}
use Rattle.view_laws.specs.Needs.{NoneNeeded}
use Rattle.settle_laws.specs.Turns.{Left, HasExact}
use Rattle.turn_laws.specs.Kept.{IsKept}

-- the layers stand in the order of their names, no space that may fail sees what is inconsistent, no trigger is needed, and the queue
-- holds exactly the threads that can step
pub record IsSettled (statements : List Statement) (c : Configuration) : Type 0 where
  pub ordered : is_ascending (names_of c.layers) ≡ true
  pub sound : inconsistent_spaces c.layers ≡ []
  pub content : NoneNeeded statements c.layers
  pub exact : HasExact statements c

-- What is so of a configuration from turn to turn has it settled
abbrev pub KeptSettled : Type 0
KeptSettled = (statements : List Statement) (c : Configuration) → IsKept statements c → IsSettled statements c

-- Where the layers stand in order, it is settled exactly where what follows a step leaves it as it is
abbrev pub LeftAsTheyAre : Type 0
LeftAsTheyAre =
    (statements : List Statement) (c : Configuration) (cost : ℕ) → is_ascending (names_of c.layers) ≡ true
    → (IsSettled statements c → Left (settled statements None cost c) cost c) × (Left (settled statements None cost c) cost c → IsSettled statements c)
