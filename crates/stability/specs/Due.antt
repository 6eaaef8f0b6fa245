-- Which propagators are due, by the places of their spaces.
use Rattle.std.specs.Prelude.{ℕ, ◌≡◌, if◌then◌else◌, List, Option, Some, None, position}
use Rattle.oz_semantics.specs.Store.{View}
use Rattle.oz_semantics.specs.Configurations.{is_of, is_open, view}
use Rattle.oz_semantics.specs.Propagation.{is_due}
use Rattle.oz_semantics.specs.Schedule.{least_due}
use Rattle.oz_semantics.specs.declared.configuration.Propagator.{Propagator}
use Rattle.oz_semantics.specs.declared.configuration.Status.TheVariants as status
use Rattle.oz_semantics.specs.declared.configuration.Layer.{Layer}
use Rattle.stability.specs.Places.{IsFirst}
use Rattle.stability.specs.declared.due.DuePropagator.{DuePropagator}

-- the place of the first propagator of an open space that is due
abbrev pub due_place : View → Layer → Option ℕ
due_place view l = if is_open l.status then position (is_due view) l.propagators else None

-- The least propagator that is due: the first of its layer, which is open and the first of its space
pub record IsLeastDue (layers : List Layer) (due : DuePropagator) : Type 0 where
  pub layer : Layer
  pub propagator : Propagator
  pub least : least_due layers ≡ Some (layer, propagator)
  pub there : IsFirst (is_of layer.space) layers due.place layer
  pub goes : layer.status ≡ status.Open
  pub first : IsFirst (is_due (view layers layer.space)) layer.propagators due.index propagator
