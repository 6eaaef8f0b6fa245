-- Which layers are there after an edit of the tree of spaces.
use Rattle.std.specs.Prelude.{ℕ, ◌≡◌, true, false, List, Some, None, is_some, option_map}
use Rattle.oz_semantics.specs.Names.{is_below, is_properly_below}
use Rattle.oz_semantics.specs.Configurations.{layer_at, layer_of, in_layer, next_child, counting_child}
use Rattle.oz_semantics.specs.Renamings.{Renaming, renamed_layer}
use Rattle.oz_semantics.specs.Edits.{moved, moving, copied, space_into, merging, joined, merged_away, taken_in}
use Rattle.oz_semantics.specs.declared.configuration.Layer.{Layer}
use Rattle.view_laws.specs.Trees.{IsTree}
use Rattle.edit_laws.specs.Edits.{HasChild}

-- Copies

-- the name of a copy
abbrev pub copy_name : List Layer → List ℕ → List ℕ
copy_name layers parent = next_child (layer_of layers parent)

-- what is at or below a child is at or below the copy, under other names
abbrev pub CopiedLayer : Type 0
CopiedLayer =
    (parent child space : List ℕ) (layers : List Layer) → HasChild layers parent child → IsTree layers → is_below child space ≡ true
    → layer_at (copied parent child layers) (moved child (copy_name layers parent) space) ≡ option_map (renamed_layer (moving child (copy_name layers parent))) (layer_at layers space)

-- and all else is as where the parent counts a child
abbrev pub CopiedOther : Type 0
CopiedOther =
    (parent child other : List ℕ) (layers : List Layer) → is_below (copy_name layers parent) other ≡ false
    → layer_at (copied parent child layers) other ≡ layer_at (in_layer parent counting_child layers) other

-- Merging

-- where the names of a child go that becomes a part of its parent
abbrev pub merging_in : List Layer → List ℕ → List ℕ → Renaming
merging_in layers parent child = merging (layer_of layers child) (layer_of layers parent)

abbrev pub into_parent : List Layer → List ℕ → List ℕ → List ℕ → List ℕ
into_parent layers parent child space = space_into (layer_of layers child) (layer_of layers parent) space

-- what was below the child is below the parent, under other names
abbrev pub TakenLayer : Type 0
TakenLayer =
    (parent child space : List ℕ) (layers : List Layer) → HasChild layers parent child → IsTree layers → is_some (layer_at layers space) ≡ true → is_properly_below child space ≡ true
    → layer_at (taken_in parent child layers) (into_parent layers parent child space) ≡ option_map (renamed_layer (merging_in layers parent child)) (layer_at layers space)

-- and no more below the child
abbrev pub TakenGone : Type 0
TakenGone =
    (parent child space : List ℕ) (layers : List Layer) → HasChild layers parent child → IsTree layers → is_properly_below child space ≡ true
    → layer_at (taken_in parent child layers) space ≡ None

-- the child keeps its name
abbrev pub TakenChild : Type 0
TakenChild =
    (parent child : List ℕ) (layers : List Layer) → HasChild layers parent child → IsTree layers
    → layer_at (taken_in parent child layers) child ≡ Some (merged_away (layer_of layers child))

-- what was in it is in the parent
abbrev pub TakenParent : Type 0
TakenParent =
    (parent child : List ℕ) (layers : List Layer) → HasChild layers parent child → IsTree layers
    → layer_at (taken_in parent child layers) parent ≡ Some (joined (renamed_layer (merging_in layers parent child) (layer_of layers child)) (layer_of layers parent))

-- and each other layer is as it was
abbrev pub TakenOther : Type 0
TakenOther =
    (parent child other : List ℕ) (layers : List Layer) → HasChild layers parent child → IsTree layers → is_some (layer_at layers other) ≡ true → is_below child other ≡ false
    → (other ≡ parent → ⊥) → layer_at (taken_in parent child layers) other ≡ layer_at layers other
