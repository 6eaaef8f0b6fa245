-- What a thread goes by: the program, its space, what that sees, and the states of the spaces in it. By these it can step or not.
use Rattle.std.specs.Prelude.{ℕ, Bool, true, false, List, [], length, Option, Some, None, option_map}
use Rattle.std.specs.List.{find}
use Rattle.oz_base.specs.Lists.{list_eq}
use Rattle.oz_base.specs.declared.names.Ident.{Ident}
use Rattle.oz_language.specs.declared.kernel.Statement.{Statement}
use Rattle.oz_semantics.specs.Store.{View}
use Rattle.oz_semantics.specs.declared.value.Tell.{Tell}
use Rattle.oz_semantics.specs.declared.configuration.Frame.{Frame}
use Rattle.oz_semantics.specs.declared.outcome.State.{State}

pub record Sight : Type 0 where
  pub statements : List Statement
  pub space : List ℕ
  pub view : View

-- spaces, each with its state
abbrev pub States : Type 0
States = List (List ℕ × State)

abbrev pub state_in : States → List ℕ → Option State
state_in states space = option_map (λ (s : List ℕ × State). s.1) (find (λ (s : List ℕ × State). list_eq s.0 space) states)

-- what is offered to be chosen from
pub data Offer : Type 0 where
  -- one of these bodies goes on
  Bodies : List (List Frame) → Offer
  -- the variable becomes a number from 1 to n
  Number : ℕ → Ident → Offer
  -- one of the two is told, and the statement stays
  Parts : Tell → Tell → Offer

-- how many alternatives
abbrev pub count_of : Offer → ℕ
count_of (Bodies bodies) = length bodies
count_of (Number n x) = n
count_of (Parts one other) = 2

-- what a thread can do where it stands
pub data Readiness : Type 0 where
  Steps : Readiness
  -- until one of these variables is determined, or becomes equal to another
  Waits : List Ident → Readiness
  -- until this space neither runs nor is suspended
  WaitsForState : List ℕ → Readiness
  -- alternatives, while it waits for these variables
  Offers : Offer → List Ident → Readiness

abbrev pub can_step : Readiness → Bool
can_step Steps = true
can_step (Waits xs) = false
can_step (WaitsForState space) = false
can_step (Offers offer xs) = false

-- the variables that it waits for
abbrev pub waits_of : Readiness → List Ident
waits_of Steps = []
waits_of (Waits xs) = xs
waits_of (WaitsForState space) = []
waits_of (Offers offer xs) = xs

abbrev pub offer_of : Readiness → Option Offer
offer_of Steps = None
offer_of (Waits xs) = None
offer_of (WaitsForState space) = None
offer_of (Offers offer xs) = Some offer
