-- The layers that are not below a space: a step of the space leaves them as they are.
use Rattle.std.specs.Prelude.{ℕ, ◌≡◌, Bool, false, not, List, ◌∷◌, Some, None, filter}
use Rattle.oz_base.specs.declared.names.Ident.{Ident}
use Rattle.oz_language.specs.declared.kernel.Kernel.{Kernel}
use Rattle.oz_semantics.specs.Names.{is_below}
use Rattle.oz_semantics.specs.Configurations.{layer_at}
use Rattle.oz_semantics.specs.Schedule.{least_due, turn}
use Rattle.oz_semantics.specs.declared.configuration.Propagator.{Propagator}
use Rattle.oz_semantics.specs.declared.configuration.Layer.{Layer}
use Rattle.oz_semantics.specs.declared.configuration.Configuration.{Configuration}
use Rattle.inside_laws.specs.Settled.{IsSettled}

-- the layer's space is not below this one
abbrev pub stands_outside : List ℕ → Layer → Bool
stands_outside space l = not (is_below space l.space)

-- the layers that are not below the space, in their order
abbrev pub outside : List ℕ → List Layer → List Layer
outside space layers = filter (stands_outside space) layers

-- A step of a thread, where no propagator is due, leaves the layers as they are that are not below its space, each whole, and in their order,
-- whatever the turn comes to
abbrev pub StepsStayInside : Type 0
StepsStayInside =
    (k : Kernel) (c : Configuration) (id : Ident) (rest : List Ident) → IsSettled k.statements c → least_due c.layers ≡ None → c.queue ≡ id ∷ rest
    → outside id.space (turn k c).1.layers ≡ outside id.space c.layers

-- so each of them that is looked up
abbrev pub LayersStay : Type 0
LayersStay =
    (k : Kernel) (c : Configuration) (id : Ident) (rest : List Ident) (other : List ℕ) → IsSettled k.statements c → least_due c.layers ≡ None
    → c.queue ≡ id ∷ rest → is_below id.space other ≡ false
    → layer_at (turn k c).1.layers other ≡ layer_at c.layers other

-- A run of the least propagator that is due leaves those that are not below its space
abbrev pub RunsStayInside : Type 0
RunsStayInside =
    (k : Kernel) (c : Configuration) (due : Layer × Propagator) → IsSettled k.statements c → least_due c.layers ≡ Some due
    → outside due.0.space (turn k c).1.layers ≡ outside due.0.space c.layers

abbrev pub RunLayersStay : Type 0
RunLayersStay =
    (k : Kernel) (c : Configuration) (due : Layer × Propagator) (other : List ℕ) → IsSettled k.statements c → least_due c.layers ≡ Some due
    → is_below due.0.space other ≡ false → layer_at (turn k c).1.layers other ≡ layer_at c.layers other
