-- What follows a step by need: which triggers give way to their threads, and what stays as it is.
use Rattle.std.specs.Prelude.{ℕ, ◌≡◌, ◌+◌, Bool, false, not, List, [], ◌∷◌, ◌++◌, Contains, Some, length, is_some}
use Rattle.std.specs.List.{list_any}
use Rattle.oz_base.specs.Lists.{is_empty}
use Rattle.oz_base.specs.declared.names.Ident.{Ident}
use Rattle.oz_language.specs.declared.kernel.Statement.{Statement}
use Rattle.oz_semantics.specs.Configurations.{layer_at, thread_at, view}
use Rattle.oz_semantics.specs.Triggers.{has_needed, triggered}
use Rattle.oz_semantics.specs.declared.configuration.Frame.{Frame}
use Rattle.oz_semantics.specs.declared.configuration.Thread.{Thread}
use Rattle.oz_semantics.specs.declared.configuration.Layer.{Layer}
use Rattle.view_laws.specs.Trees.{IsTree}
use Rattle.view_laws.specs.Needs.{NoneNeeded}
use Rattle.view_laws.specs.Steps.{IsNumbered, IsSound}

-- some layer has a trigger
abbrev pub has_triggers : List Layer → Bool
has_triggers layers = list_any (λ (l : Layer). not (is_empty l.triggers)) layers

-- Where none has, none is needed
abbrev pub NoneThere : Type 0
NoneThere = (statements : List Statement) (layers : List Layer) → has_triggers layers ≡ false → NoneNeeded statements layers

-- Afterwards none is needed: there are rounds enough
abbrev pub NoneLeft : Type 0
NoneLeft = (statements : List Statement) (layers : List Layer) → NoneNeeded statements (triggered statements layers)

-- threads with these frames, by their numbers from n on
abbrev pub begun_from : ℕ → List Frame → List Thread
begun_from n [] = []
begun_from n (frame ∷ frames) = record { number = n; frames = frame ∷ [] } ∷ begun_from (n + 1) frames

-- a layer in which some triggers have given way to threads, which stand behind the others under the next numbers: all else stays
pub record Fires (before after : Layer) : Type 0 where
  pub space : after.space ≡ before.space
  pub status : after.status ≡ before.status
  pub tells : after.tells ≡ before.tells
  pub propagators : after.propagators ≡ before.propagators
  pub cells : after.cells ≡ before.cells
  pub ports : after.ports ≡ before.ports
  pub begun : List Frame
  pub threads : after.threads ≡ before.threads ++ begun_from before.next.thread begun
  pub next : after.next ≡ record before.next { thread = before.next.thread + length begun }

-- one layer after another
abbrev pub AllFire : List Layer → List Layer → Type 0
AllFire [] [] = Unit {0}
AllFire (l ∷ ls) (m ∷ ms) = Fires l m × AllFire ls ms
AllFire [] (m ∷ ms) = ⊥
AllFire (l ∷ ls) [] = ⊥

-- This is all that happens
abbrev pub AllFired : Type 0
AllFired = (statements : List Statement) (layers : List Layer) → AllFire layers (triggered statements layers)

-- So what each space sees stays
abbrev pub FiredView : Type 0
FiredView = (layers after : List Layer) (space : List ℕ) → AllFire layers after → view after space ≡ view layers space

-- and the layers of a tree are those of a tree
abbrev pub FiredTree : Type 0
FiredTree = (layers after : List Layer) → AllFire layers after → IsTree layers → IsTree after

-- in which a space is there where it was
abbrev pub FiredThere : Type 0
FiredThere = (layers after : List Layer) (space : List ℕ) → AllFire layers after → is_some (layer_at after space) ≡ is_some (layer_at layers space)

-- their threads in the order of their numbers
abbrev pub FiredNumbered : Type 0
FiredNumbered =
    (layers after : List Layer) → AllFire layers after → ((l : Layer) → Contains layers l → IsNumbered l) → (l : Layer) → Contains after l → IsNumbered l

-- and no space sees what is inconsistent, where none did
abbrev pub FiredSound : Type 0
FiredSound = (layers after : List Layer) → AllFire layers after → IsSound layers → IsSound after

-- A thread that is there keeps its stack
abbrev pub FiredStack : Type 0
FiredStack =
    (layers after : List Layer) (id : Ident) (l : Layer) (t : Thread) → AllFire layers after → layer_at layers id.space ≡ Some l → thread_at l.threads id.number ≡ Some t
    → (m : Layer) × (layer_at after id.space ≡ Some m) × Fires l m × (thread_at m.threads id.number ≡ Some t)

-- A layer of which no trigger is needed stays as it is: what fires elsewhere makes none of its needed
abbrev pub UnneededStays : Type 0
UnneededStays =
    (statements : List Statement) (layers : List Layer) (space : List ℕ) (l : Layer) → layer_at layers space ≡ Some l → has_needed statements layers l ≡ false
    → layer_at (triggered statements layers) space ≡ Some l
