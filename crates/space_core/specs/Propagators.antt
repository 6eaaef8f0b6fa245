-- Propagators of a space.
use Rattle.std.specs.Prelude.{ℕ, Bool, not, List}
use Rattle.std.specs.List.{list_any}
use Rattle.oz_base.specs.Lists.{is_empty}
use Rattle.oz_base.specs.declared.interval.Interval.{Interval}
use Rattle.oz_semantics.specs.declared.configuration.LastRun.TheVariants.{Saw}
use Rattle.oz_semantics.specs.declared.configuration.Propagator.{Propagator}
use Rattle.oz_semantics.specs.declared.configuration.Layer.{Layer}
use Rattle.space_core.specs.Firing.{at_place}

-- a layer has one
abbrev pub has_propagators : List Layer → Bool
has_propagators layers = list_any (λ (l : Layer). not (is_empty l.propagators)) layers

-- the last run of the propagator at a place saw these domains
abbrev pub noting_at : ℕ → List (List Interval) → Layer → Layer
noting_at n ds l = record l { propagators = at_place n (λ (p : Propagator). record p { last = Saw ds }) l.propagators }
