-- A turn within a fuel.
use Rattle.std.specs.Prelude.{ℕ, ◌≡◌, ◌<◌, ◌≤◌, Option, Some, None}
pub use Rattle.settle_laws.specs.Turns.{cost_of}
use Rattle.oz_semantics.specs.Settling.{Turned}
use Rattle.oz_semantics.specs.declared.configuration.Configuration.{Configuration}
use Rattle.oz_semantics.specs.declared.outcome.Stepped.{Stepped}
use Rattle.oz_semantics.specs.declared.outcome.Stepped.TheVariants.{Moved, Quiescent, TopEnded}

-- a turn that makes a step costs 1 at least, and no more than the fuel
abbrev pub CostsWithin : ℕ → Stepped → Type 0
CostsWithin fuel (Moved cost) = (1 ≤ cost) × (cost ≤ fuel)
CostsWithin fuel (TopEnded exception cost) = (1 ≤ cost) × (cost ≤ fuel)
CostsWithin fuel Quiescent = Unit {0}

-- the turn was made, and left the new configuration; or it costs more than the fuel, and nothing changed
abbrev pub IsTurn : Turned → ℕ → Configuration → Configuration → Option Stepped → Type 0
IsTurn turned fuel old new (Some stepped) = turned ≡ (stepped, new)
IsTurn turned fuel old new None = (fuel < cost_of turned.0) × (new ≡ old)

-- the top has not ended with this turn
abbrev pub HasNotEnded : Stepped → Type 0
HasNotEnded (Moved cost) = Unit {0}
HasNotEnded (TopEnded exception cost) = ⊥
HasNotEnded Quiescent = Unit {0}
