-- The changes of a step, each as an edit of one layer.
use Rattle.std.proofs.Common.{◌≡◌, ℕ, List, ◌++◌, refl}
use Rattle.oz_base.specs.declared.names.Ident.{Ident}
use Rattle.oz_semantics.specs.Configurations.{in_layer, with_frames, giving_out, counting_procedure, counting_name, spawning, adding_cell, with_content, adding_port, with_end, adding_trigger}
use Rattle.oz_semantics.specs.Changes.{Change, GivesOut, CountsProcedure, CountsName, Pushes, Spawns, AddsCell, Holds, AddsPort, EndsAt, AddsTrigger, AddsPropagator, changed}
use Rattle.oz_semantics.specs.Propagation.{posting}
use Rattle.oz_semantics.specs.declared.configuration.Layer.{Layer}

-- what a change by the thread of this number makes of the layer of its space
abbrev pub edit_of : ℕ → Change → Layer → Layer
edit_of number (GivesOut n) = giving_out n
edit_of number CountsProcedure = counting_procedure
edit_of number CountsName = counting_name
edit_of number (Pushes frames) = with_frames number (λ rest. frames ++ rest)
edit_of number (Spawns frames) = spawning frames
edit_of number (AddsCell content) = adding_cell content
edit_of number (Holds n content) = with_content n content
edit_of number (AddsPort end) = adding_port end
edit_of number (EndsAt n end) = with_end n end
edit_of number (AddsTrigger procedure variable) = adding_trigger procedure variable
edit_of number (AddsPropagator relation variables) = posting relation variables

pub changed_by : (id : Ident) (layers : List Layer) (change : Change) → changed id layers change ≡ in_layer id.space (edit_of id.number change) layers
changed_by id layers (GivesOut n) = refl
changed_by id layers change = refl

-- what each of them keeps
pub record KeptByEdit (f : Layer → Layer) : Type 0 where
  pub space : (l : Layer) → (f l).space ≡ l.space
  pub status : (l : Layer) → (f l).status ≡ l.status
  pub tells : (l : Layer) → (f l).tells ≡ l.tells
  pub children : (l : Layer) → (f l).next.child ≡ l.next.child

pub edit_keeps : (number : ℕ) (change : Change) → KeptByEdit (edit_of number change)
edit_keeps number (GivesOut n) = record { space = λ l. refl; status = λ l. refl; tells = λ l. refl; children = λ l. refl }
edit_keeps number change = record { space = λ l. refl; status = λ l. refl; tells = λ l. refl; children = λ l. refl }
