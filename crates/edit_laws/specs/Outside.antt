-- Tells that name nothing of a space or below it: other names in these leave them as they are.
use Rattle.std.specs.Prelude.{ℕ, ◌≡◌, Bool, true, not, ◌&&◌, if◌then◌else◌, List, [], ◌∷◌, map, is_some}
use Rattle.std.specs.List.{list_all}
use Rattle.std.specs.FinMap as maps
use Rattle.oz_base.specs.Lists.{list_eq, holds_of}
use Rattle.oz_base.specs.declared.names.Ident.{Ident}
use Rattle.oz_semantics.specs.Names.{is_below, is_properly_below, root_of}
use Rattle.oz_semantics.specs.Values.{space_in}
use Rattle.oz_semantics.specs.Configurations.{layer_at, layer_of, view}
use Rattle.oz_semantics.specs.Renamings.{Renaming, renamed_tell}
use Rattle.oz_semantics.specs.Edits.{moved, moving, copied}
use Rattle.oz_semantics.specs.declared.value.Value.{Value}
use Rattle.oz_semantics.specs.declared.value.Value.TheVariants as value
use Rattle.oz_semantics.specs.declared.value.Tell.{Tell}
use Rattle.oz_semantics.specs.declared.value.Tell.TheVariants.{Equal, Is, Within}
use Rattle.oz_semantics.specs.declared.configuration.Layer.{Layer}
use Rattle.view_laws.specs.Sights.{SeesBesides}
use Rattle.view_laws.specs.Trees.{IsTree}
use Rattle.edit_laws.specs.Edits.{HasChild}
use Rattle.edit_laws.specs.Layers.{copy_name, merging_in, into_parent}
use Rattle.edit_laws.specs.Sights.{view_from, merged}

-- a variable or other entry that neither the space nor one below it gave out
abbrev pub is_outside : List ℕ → Ident → Bool
is_outside space x = not (is_below space x.space)

abbrev pub value_outside : List ℕ → Value → Bool
value_outside space (value.Constant c) = true
value_outside space (value.Name n) = is_outside space n
value_outside space (value.Record r) = list_all (is_outside space) r.fields
value_outside space (value.Procedure p) = is_outside space p.name && list_all (λ (b : ℕ × Ident). is_outside space b.1) (maps.entries p.environment)
value_outside space (value.Builtin b) = true
value_outside space (value.Cell c) = is_outside space c
value_outside space (value.Port p) = is_outside space p
value_outside space (value.Space s) = not (is_properly_below space s)

-- a tell that names none of these. It may name the space itself: its parent is told that a variable is it
abbrev pub tell_outside : List ℕ → Tell → Bool
tell_outside space (Equal x y) = is_outside space x && is_outside space y
tell_outside space (Is x v) = is_outside space x && value_outside space v
tell_outside space (Within x is) = is_outside space x

-- a tell that says of no variable that it is the space itself
abbrev pub tell_of_other : List ℕ → Tell → Bool
tell_of_other space (Equal x y) = true
tell_of_other space (Is x v) = not (holds_of (list_eq space) (space_in v))
tell_of_other space (Within x is) = true

-- as a copy does, but that the space itself keeps its name as a value
abbrev pub moving_inside : List ℕ → List ℕ → Renaming
moving_inside from to = record (moving from to) { space = λ s. if list_eq from s then s else moved from to s }

-- Where what the parent sees names nothing of the child, and what was told from the child on does not name the child as a value, the copy
-- and those below it see all that was seen under other names
abbrev pub CopyNamed : Type 0
CopyNamed =
    (parent child space : List ℕ) (layers : List Layer) → HasChild layers parent child → IsTree layers → is_below child space ≡ true
    → list_all (tell_outside child) (view layers parent) ≡ true → list_all (tell_of_other child) (view_from layers child space) ≡ true
    → view (copied parent child layers) (moved child (copy_name layers parent) space) ≡ map (renamed_tell (moving_inside child (copy_name layers parent))) (view layers space)

-- and a space that was below the child sees after a merge all that it saw under other names, and what variable was the child's root
abbrev pub MergeNamed : Type 0
MergeNamed =
    (parent child space : List ℕ) (x : Ident) (layers : List Layer) → HasChild layers parent child → IsTree layers → is_some (layer_at layers space) ≡ true
    → is_properly_below child space ≡ true → list_all (tell_outside child) (view layers parent) ≡ true
    → SeesBesides (map (renamed_tell (merging_in layers parent child)) (view layers space)) (view (merged parent child x layers) (into_parent layers parent child space))
    (Equal x ((merging_in layers parent child).variable (root_of (layer_of layers child).space)) ∷ [])
