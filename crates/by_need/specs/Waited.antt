-- Variables that are waited for, as more of them are found.
use Rattle.std.specs.Prelude.{◌≡◌, ◌||◌, List}
use Rattle.std.specs.List.{list_any}
use Rattle.oz_base.specs.declared.names.Ident.{Ident}
use Rattle.oz_semantics.specs.Store.{View, same}

-- the classes of these came to those of the others
abbrev pub AddsClasses : View → List Ident → List Ident → List Ident → Type 0
AddsClasses view more old new = (z : Ident) → list_any (same view z) new ≡ (list_any (same view z) old || list_any (same view z) more)
