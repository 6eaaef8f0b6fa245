-- What each space sees after an edit of the tree of spaces.
use Rattle.std.specs.Prelude.{ℕ, ◌≡◌, true, false, List, [], ◌∷◌, ◌++◌, map, filter, is_some}
use Rattle.oz_base.specs.declared.names.Ident.{Ident}
use Rattle.oz_semantics.specs.Names.{is_below, is_properly_below, is_child_of, root_of}
use Rattle.oz_semantics.specs.Store.{View}
use Rattle.oz_semantics.specs.Configurations.{layer_at, layer_of, view, in_layer, telling}
use Rattle.oz_semantics.specs.Renamings.{Renaming, renamed_tell}
use Rattle.oz_semantics.specs.Edits.{injected, is_in, is_under, moved, moving, copied, merge_tells, taken_in}
use Rattle.oz_semantics.specs.declared.configuration.Layer.{Layer}
use Rattle.oz_semantics.specs.declared.value.Tell.TheVariants.{Equal}
use Rattle.view_laws.specs.Sights.{SeesBesides}
use Rattle.view_laws.specs.Trees.{IsTree}
use Rattle.edit_laws.specs.Edits.{HasChild}
use Rattle.edit_laws.specs.Layers.{copy_name, merging_in, into_parent}

-- what was told to a space and to those above it, from this one on
abbrev pub view_from : List Layer → List ℕ → List ℕ → View
view_from layers from space = view (filter (is_in from) layers) space

-- and from its children on
abbrev pub view_under : List Layer → List ℕ → List ℕ → View
view_under layers above space = view (filter (is_under above) layers) space

-- What a space sees is what the parent of one above it sees, and then what was told from that one on
abbrev pub ViewParts : Type 0
ViewParts =
    (layers : List Layer) (parent child space : List ℕ) → IsTree layers → is_child_of parent child ≡ true → is_below child space ≡ true
    → view layers space ≡ view layers parent ++ view_from layers child space

-- which is what that one was told, and then what was told below it
abbrev pub FromParts : Type 0
FromParts =
    (layers : List Layer) (parent child space : List ℕ) → IsTree layers → is_child_of parent child ≡ true → is_below child space ≡ true
    → view_from layers child space ≡ (layer_of layers child).tells ++ view_under layers child space

-- what a space that is there is told, it sees behind all else
abbrev pub TellLast : Type 0
TellLast =
    (layers : List Layer) (space : List ℕ) (ts : View) → IsTree layers → is_some (layer_at layers space) ≡ true
    → view (in_layer space (telling ts) layers) space ≡ view layers space ++ ts

-- A procedure that is applied in a space is not seen
abbrev pub InjectionUnseen : Type 0
InjectionUnseen = (space other : List ℕ) (procedure : Ident) (layers : List Layer) → view (injected space procedure layers) other ≡ view layers other

-- Copies

-- A space that is not below the copy sees what it saw
abbrev pub CopyUnseen : Type 0
CopyUnseen =
    (parent child other : List ℕ) (layers : List Layer) → is_below (copy_name layers parent) other ≡ false
    → view (copied parent child layers) other ≡ view layers other

-- and the copy and those below it see what the parent sees, and then, under other names, what was told from the child on
abbrev pub CopySeen : Type 0
CopySeen =
    (parent child space : List ℕ) (layers : List Layer) → HasChild layers parent child → IsTree layers → is_below child space ≡ true
    → view (copied parent child layers) (moved child (copy_name layers parent) space)
    ≡ view layers parent ++ map (renamed_tell (moving child (copy_name layers parent))) (view_from layers child space)

-- So all that was seen is seen under other names, where a renaming leaves what the parent sees, and does with the rest as the copy does.
-- The copy's own does not always leave what the parent sees: that may be told that a variable is the child
abbrev pub CopyRenamed : Type 0
CopyRenamed =
    (parent child space : List ℕ) (layers : List Layer) (r : Renaming) → HasChild layers parent child → IsTree layers → is_below child space ≡ true
    → map (renamed_tell r) (view layers parent) ≡ view layers parent
    → map (renamed_tell r) (view_from layers child space) ≡ map (renamed_tell (moving child (copy_name layers parent))) (view_from layers child space)
    → view (copied parent child layers) (moved child (copy_name layers parent) space) ≡ map (renamed_tell r) (view layers space)

-- the parent is told something, as that a variable is the copy, and then the child is copied
abbrev pub cloned : List ℕ → List ℕ → View → List Layer → List Layer
cloned parent child ts layers = copied parent child (in_layer parent (telling ts) layers)

-- A space that is not below the parent sees what it saw
abbrev pub CloneUnseen : Type 0
CloneUnseen =
    (parent child other : List ℕ) (ts : View) (layers : List Layer) → HasChild layers parent child → IsTree layers → is_below parent other ≡ false
    → view (cloned parent child ts layers) other ≡ view layers other

-- one below it that is not below the copy sees what it does where the parent is told alone
abbrev pub CloneBeside : Type 0
CloneBeside =
    (parent child other : List ℕ) (ts : View) (layers : List Layer) → HasChild layers parent child → IsTree layers → is_below (copy_name layers parent) other ≡ false
    → view (cloned parent child ts layers) other ≡ view (in_layer parent (telling ts) layers) other

-- the parent sees it behind all else
abbrev pub CloneSeen : Type 0
CloneSeen =
    (parent child : List ℕ) (ts : View) (layers : List Layer) → HasChild layers parent child → IsTree layers
    → view (cloned parent child ts layers) parent ≡ view layers parent ++ ts

-- and the copy and those below it see what the parent sees, and then, under other names, what was told from the child on
abbrev pub CloneBelow : Type 0
CloneBelow =
    (parent child space : List ℕ) (ts : View) (layers : List Layer) → HasChild layers parent child → IsTree layers → is_below child space ≡ true
    → view (cloned parent child ts layers) (moved child (copy_name layers parent) space)
    ≡ view layers parent ++ ts ++ map (renamed_tell (moving child (copy_name layers parent))) (view_from layers child space)

-- Merging

-- A space that is there and not below the child sees what it saw
abbrev pub TakenUnseen : Type 0
TakenUnseen =
    (parent child other : List ℕ) (layers : List Layer) → HasChild layers parent child → IsTree layers → is_some (layer_at layers other) ≡ true → is_below child other ≡ false
    → view (taken_in parent child layers) other ≡ view layers other

-- the child itself, of which the name is left, sees what the parent sees
abbrev pub TakenAway : Type 0
TakenAway = (parent child : List ℕ) (layers : List Layer) → HasChild layers parent child → IsTree layers → view (taken_in parent child layers) child ≡ view layers parent

-- and a space that was below the child sees what the parent sees, and then, under other names, what was told below the child
abbrev pub TakenSeen : Type 0
TakenSeen =
    (parent child space : List ℕ) (layers : List Layer) → HasChild layers parent child → IsTree layers → is_some (layer_at layers space) ≡ true → is_properly_below child space ≡ true
    → view (taken_in parent child layers) (into_parent layers parent child space)
    ≡ view layers parent ++ map (renamed_tell (merging_in layers parent child)) (view_under layers child space)

-- what the parent is told before
abbrev pub tells_merged : List Layer → List ℕ → List ℕ → Ident → View
tells_merged layers parent child x = merge_tells (layer_of layers child) (layer_of layers parent) x

-- a merge: the parent is told what the child was told, and then the child becomes a part of it
abbrev pub merged : List ℕ → List ℕ → Ident → List Layer → List Layer
merged parent child x layers = taken_in parent child (in_layer parent (telling (tells_merged layers parent child x)) layers)

-- A space that is there and not below the parent sees what it saw
abbrev pub MergeUnseen : Type 0
MergeUnseen =
    (parent child other : List ℕ) (x : Ident) (layers : List Layer) → HasChild layers parent child → IsTree layers → is_some (layer_at layers other) ≡ true → is_below parent other ≡ false
    → view (merged parent child x layers) other ≡ view layers other

-- one below it that is not below the child sees what it does where the parent is told alone
abbrev pub MergeBeside : Type 0
MergeBeside =
    (parent child other : List ℕ) (x : Ident) (layers : List Layer) → HasChild layers parent child → IsTree layers → is_some (layer_at layers other) ≡ true → is_below child other ≡ false
    → view (merged parent child x layers) other ≡ view (in_layer parent (telling (tells_merged layers parent child x)) layers) other

-- the parent sees it behind all else
abbrev pub MergeSeen : Type 0
MergeSeen =
    (parent child : List ℕ) (x : Ident) (layers : List Layer) → HasChild layers parent child → IsTree layers
    → view (merged parent child x layers) parent ≡ view layers parent ++ tells_merged layers parent child x

-- and a space that was below the child sees what the parent sees, and then, under other names, what was told below the child
abbrev pub MergeBelow : Type 0
MergeBelow =
    (parent child space : List ℕ) (x : Ident) (layers : List Layer) → HasChild layers parent child → IsTree layers → is_some (layer_at layers space) ≡ true → is_properly_below child space ≡ true
    → view (merged parent child x layers) (into_parent layers parent child space)
    ≡ view layers parent ++ tells_merged layers parent child x ++ map (renamed_tell (merging_in layers parent child)) (view_under layers child space)

-- So all that was seen is seen under other names, and besides that a variable is the former root variable of the child, where a renaming
-- leaves what the parent sees, and does with the rest as the merge does
abbrev pub MergeRenamed : Type 0
MergeRenamed =
    (parent child space : List ℕ) (x : Ident) (layers : List Layer) (r : Renaming) → HasChild layers parent child → IsTree layers → is_some (layer_at layers space) ≡ true
    → is_properly_below child space ≡ true → map (renamed_tell r) (view layers parent) ≡ view layers parent
    → map (renamed_tell r) (view_from layers child space) ≡ map (renamed_tell (merging_in layers parent child)) (view_from layers child space)
    → SeesBesides (map (renamed_tell r) (view layers space)) (view (merged parent child x layers) (into_parent layers parent child space))
    (Equal x ((merging_in layers parent child).variable (root_of (layer_of layers child).space)) ∷ [])
