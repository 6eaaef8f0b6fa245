-- Classes that have grown, by variables that the tells besides have touched: the table t is of the classes afterwards.
use Rattle.std.specs.Prelude.{Bool, not, ◌&&◌, List}
use Rattle.std.specs.List.{list_any}
use Rattle.oz_base.specs.Names.{ident_eq}
use Rattle.oz_base.specs.declared.names.Ident.{Ident}
use Rattle.oz_semantics.specs.Store.{same, is_determined}
use Rattle.oz_semantics.specs.declared.value.Tell.{Tell}
use Rattle.term_store.specs.Classes.{Table, root_in}

-- z stands for the class of x, which was not equal to it
abbrev pub has_moved : List Tell → Table → Ident → Ident → Bool
has_moved before t z x = ident_eq z (root_in t x) && not (same before x (root_in t x))

-- z stands for the class of a variable that was not equal to it
abbrev pub has_grown : List Tell → Table → List Ident → Ident → Bool
has_grown before t touched z = list_any (has_moved before t z) touched

-- x has no value, and is of a class that has grown
abbrev pub awaits : List Tell → Table → List Ident → Ident → Bool
awaits before t touched x = not (is_determined before x) && has_grown before t touched (root_in t x)
