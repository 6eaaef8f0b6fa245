-- What calls of built-ins wait for.
use Rattle.std.specs.Prelude.{ℕ, ◌≡◌, ◌<◌, if◌then◌else◌, List, [], ◌∷◌, Option, Some, None}
use Rattle.oz_base.specs.declared.names.Ident.{Ident}
use Rattle.oz_semantics.specs.Names.{is_child_of}
use Rattle.oz_semantics.specs.Values.{space_in}
use Rattle.oz_semantics.specs.Inputs.{Input, Known, Unknown, OtherKind}
use Rattle.oz_semantics.specs.Distributors.{Distribution, Widens, Finished, Splits}
use Rattle.oz_semantics.specs.Sights.{Number, Parts, Readiness, Steps, Waits, WaitsForState, Offers}
use Rattle.oz_semantics.specs.Builtins.{arguments_of}
use Rattle.oz_semantics.specs.declared.value.Builtin.{Builtin}
use Rattle.oz_semantics.specs.declared.value.Value.{Value}
use Rattle.fd_inputs.specs.declared.input.Input as inputs
use Rattle.fd_inputs.specs.declared.input.Input.TheVariants as input
use Rattle.builtins.specs.Choices.{choice_in}

-- the arguments of a call begin with these, as far as the built-in takes so many
pub record Given (b : Builtin) (x y z : Ident) (given : ℕ → Ident) : Type 0 where
  pub first : given 0 ≡ x
  pub second : 1 < arguments_of b → given 1 ≡ y
  pub third : 2 < arguments_of b → given 2 ≡ z

-- the inputs that a call waits for are among these: no third argument is an input
pub record Inputs (b : Builtin) (x y : Ident) (given : ℕ → Ident) : Type 0 where
  pub first : given 0 ≡ x
  pub second : 1 < arguments_of b → given 1 ≡ y

-- it steps, unless it waits for a variable
abbrev pub ready_by : Option Ident → Readiness
ready_by None = Steps
ready_by (Some x) = Waits (x ∷ [])

-- it waits for x, where that has no value, and else goes on like this
abbrev pub awaiting : Ident → Option Value → Readiness → Readiness
awaiting x None ready = Waits (x ∷ [])
awaiting x (Some v) ready = ready

-- it offers so many alternatives for x, or steps
abbrev pub offering : Ident → Option ℕ → Readiness
offering x None = Steps
offering x (Some n) = Offers (Number n x) []

-- it offers alternatives for x, so many as y says, which is waited for
abbrev pub choosing : Ident → Ident → Option Value → Readiness
choosing x y None = Waits (y ∷ [])
choosing x y (Some v) = offering x (choice_in v)

-- it goes by the state of a space, where that is a child, and else steps
abbrev pub operating : List ℕ → Option (List ℕ) → Readiness
operating space None = Steps
operating space (Some other) = if is_child_of space other then WaitsForState other else Steps

-- the same of y, which is waited for
abbrev pub operating_on : List ℕ → Ident → Option Value → Readiness
operating_on space y None = Waits (y ∷ [])
operating_on space y (Some v) = operating space (space_in v)

-- the variable that an input waits for
abbrev pub awaited_by : {A : Type 0} → inputs.Input A → Option Ident
awaited_by (input.Known a) = None
awaited_by (input.Unknown x) = Some x
awaited_by input.OtherKind = None

-- it waits for what an input waits for, and else steps
abbrev pub input_ready : {A : Type 0} → Input A → Readiness
input_ready (Known a) = Steps
input_ready (Unknown x) = Waits (x ∷ [])
input_ready OtherKind = Steps

-- a distributor offers as long as there are parts
abbrev pub distributing : Input Distribution → Readiness
distributing (Known (Widens xs)) = Steps
distributing (Known Finished) = Steps
distributing (Known (Splits one other xs)) = Offers (Parts one other) xs
distributing (Unknown x) = Waits (x ∷ [])
distributing OtherKind = Steps
