-- The changes of layers of which a step is made, in words of the thread that steps and of its space.
use Rattle.std.specs.Prelude.{ℕ, List, ◌++◌}
use Rattle.std.specs.List.{fold}
use Rattle.oz_base.specs.declared.names.Ident.{Ident}
use Rattle.oz_semantics.specs.Configurations.{in_layer, with_frames, telling, giving_out, counting_procedure, counting_name, spawning, adding_cell, with_content, adding_port, with_end, adding_trigger}
use Rattle.oz_base.specs.declared.relation.Relation.{Relation}
use Rattle.oz_semantics.specs.Propagation.{posting}
use Rattle.oz_semantics.specs.declared.value.Tell.{Tell}
use Rattle.oz_semantics.specs.declared.configuration.Frame.{Frame}
use Rattle.oz_semantics.specs.declared.configuration.Layer.{Layer}

pub data Change : Type 0 where
  -- so many variables are given out
  GivesOut : ℕ → Change
  -- a number for a procedure, and for a name
  CountsProcedure : Change
  CountsName : Change
  -- these go on top of the thread's stack
  Pushes : List Frame → Change
  -- a new thread with these
  Spawns : List Frame → Change
  -- a new cell with this content, and what a cell contains from now on
  AddsCell : Ident → Change
  Holds : ℕ → Ident → Change
  -- a new port with this stream, and where the stream of a port ends from now on
  AddsPort : Ident → Change
  EndsAt : ℕ → Ident → Change
  -- a trigger, by its procedure and its variable
  AddsTrigger : Ident → Ident → Change
  -- a propagator
  AddsPropagator : Relation → List Ident → Change

-- by this thread
abbrev pub changed : Ident → List Layer → Change → List Layer
changed id layers (GivesOut n) = in_layer id.space (giving_out n) layers
changed id layers CountsProcedure = in_layer id.space counting_procedure layers
changed id layers CountsName = in_layer id.space counting_name layers
changed id layers (Pushes frames) = in_layer id.space (with_frames id.number (λ rest. frames ++ rest)) layers
changed id layers (Spawns frames) = in_layer id.space (spawning frames) layers
changed id layers (AddsCell content) = in_layer id.space (adding_cell content) layers
changed id layers (Holds n content) = in_layer id.space (with_content n content) layers
changed id layers (AddsPort end) = in_layer id.space (adding_port end) layers
changed id layers (EndsAt n end) = in_layer id.space (with_end n end) layers
changed id layers (AddsTrigger procedure variable) = in_layer id.space (adding_trigger procedure variable) layers
changed id layers (AddsPropagator r xs) = in_layer id.space (posting r xs) layers

abbrev pub changed_all : Ident → List Change → List Layer → List Layer
changed_all id changes layers = fold (changed id) layers changes

-- what a thread's space is told, and then the changes
abbrev pub done : Ident → List Tell → List Change → List Layer → List Layer
done id ts changes layers = changed_all id changes (in_layer id.space (telling ts) layers)
