-- What a step of a thread makes of the layers where it edits the tree of spaces.
use Rattle.std.specs.Prelude.{◌≡◌, Bool, true, false, List, ◌++◌}
use Rattle.oz_base.specs.declared.names.Ident.{Ident}
use Rattle.oz_language.specs.declared.kernel.Statement.{Statement}
use Rattle.oz_semantics.specs.Store.{is_consistent}
use Rattle.oz_semantics.specs.Configurations.{layer_of, view, in_layer, telling}
use Rattle.oz_semantics.specs.Answers.{Edit}
use Rattle.oz_semantics.specs.Steps.{edit_tells, edited, without_top}
use Rattle.oz_semantics.specs.declared.value.Tell.{Tell}
use Rattle.oz_semantics.specs.declared.configuration.Layer.{Layer}
use Rattle.settle_laws.specs.Settles.{Settles}

-- what the thread's space is told with an edit, once the statement is off the stack
abbrev pub tells_with : Ident → Edit → List Layer → List Tell
tells_with id edit layers = edit_tells layers (layer_of layers id.space) edit

-- it was told that, the edit was made, and each space below it failed that then saw what is inconsistent
abbrev pub Edits : List Statement → Ident → Edit → List Layer → List Layer → Type 0
Edits statements id edit layers new = Settles id.space (edited statements id.space edit (in_layer id.space (telling (tells_with id edit layers)) layers)) new

-- the statement was taken off the thread's stack, and the edit was made; or what is told clashes with what the space sees, and nothing was done
abbrev pub IsEditedBy : List Statement → Ident → Edit → List Layer → List Layer → Bool → Type 0
IsEditedBy statements id edit old new true =
    (is_consistent (view (without_top id old) id.space ++ tells_with id edit (without_top id old)) ≡ true) × Edits statements id edit (without_top id old) new
IsEditedBy statements id edit old new false =
    (is_consistent (view (without_top id old) id.space ++ tells_with id edit (without_top id old)) ≡ false) × (new ≡ old)

-- whatever the statements of the program are
abbrev pub IsEdited : Ident → Edit → List Layer → List Layer → Bool → Type 0
IsEdited id edit old new done = (statements : List Statement) → IsEditedBy statements id edit old new done
