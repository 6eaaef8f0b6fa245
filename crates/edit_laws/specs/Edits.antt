-- Edits of the tree of spaces: they leave a tree, the top, and the threads of each space in the order of their numbers.
use Rattle.std.specs.Prelude.{ℕ, ◌≡◌, true, List, [], Contains, is_some}
use Rattle.oz_base.specs.declared.names.Ident.{Ident}
use Rattle.oz_semantics.specs.Names.{is_child_of}
use Rattle.oz_semantics.specs.Configurations.{layer_at}
use Rattle.oz_semantics.specs.Edits.{injected, copied, taken_in}
use Rattle.oz_semantics.specs.declared.configuration.Layer.{Layer}
use Rattle.view_laws.specs.Trees.{IsTree}
use Rattle.view_laws.specs.Steps.{IsNumbered}

abbrev pub AreNumbered : List Layer → Type 0
AreNumbered layers = (l : Layer) → Contains layers l → IsNumbered l

abbrev pub HasTop : List Layer → Type 0
HasTop layers = is_some (layer_at layers []) ≡ true

-- a space and a child of it are there
pub record HasChild (layers : List Layer) (parent child : List ℕ) : Type 0 where
  pub below : is_child_of parent child ≡ true
  pub parent_there : is_some (layer_at layers parent) ≡ true
  pub child_there : is_some (layer_at layers child) ≡ true

-- A procedure is applied in a space
abbrev pub InjectedTree : Type 0
InjectedTree = (space : List ℕ) (procedure : Ident) (layers : List Layer) → IsTree layers → IsTree (injected space procedure layers)

abbrev pub InjectedNumbered : Type 0
InjectedNumbered = (space : List ℕ) (procedure : Ident) (layers : List Layer) → AreNumbered layers → AreNumbered (injected space procedure layers)

abbrev pub InjectedTop : Type 0
InjectedTop = (space : List ℕ) (procedure : Ident) (layers : List Layer) → HasTop layers → HasTop (injected space procedure layers)

-- A child is copied
abbrev pub CopiedTree : Type 0
CopiedTree = (parent child : List ℕ) (layers : List Layer) → HasChild layers parent child → IsTree layers → IsTree (copied parent child layers)

abbrev pub CopiedNumbered : Type 0
CopiedNumbered = (parent child : List ℕ) (layers : List Layer) → AreNumbered layers → AreNumbered (copied parent child layers)

abbrev pub CopiedTop : Type 0
CopiedTop = (parent child : List ℕ) (layers : List Layer) → HasTop layers → HasTop (copied parent child layers)

-- A child becomes a part of its parent
abbrev pub TakenTree : Type 0
TakenTree = (parent child : List ℕ) (layers : List Layer) → HasChild layers parent child → IsTree layers → IsTree (taken_in parent child layers)

abbrev pub TakenNumbered : Type 0
TakenNumbered =
    (parent child : List ℕ) (layers : List Layer) → HasChild layers parent child → IsTree layers → AreNumbered layers → AreNumbered (taken_in parent child layers)

abbrev pub TakenTop : Type 0
TakenTop = (parent child : List ℕ) (layers : List Layer) → HasChild layers parent child → IsTree layers → HasTop layers → HasTop (taken_in parent child layers)
