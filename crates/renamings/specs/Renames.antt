-- Where names go: of a copied space, and of one that becomes a part of its parent.
use Rattle.std.specs.Prelude.{ℕ, ◌+◌, if◌then◌else◌, List}
use Rattle.oz_base.specs.Lists.{list_eq}
use Rattle.oz_base.specs.declared.names.Ident.{Ident}
use Rattle.renamings.specs.Given.{given_of}
use Rattle.renamings.specs.Spaces.{moved, merged}
use Rattle.renamings.specs.declared.given.Kind.{Kind}
use Rattle.renamings.specs.declared.given.GivenOut.{GivenOut}
use Rattle.renamings.specs.declared.renaming.Renaming.{Renaming}
use Rattle.renamings.specs.declared.renaming.Renaming.TheVariants.{Move, Merge}

-- the new name of a space
abbrev pub space_by : Renaming → List ℕ → List ℕ
space_by (Move from to) space = moved from to space
space_by (Merge child parent given) space = merged child parent given.children space

-- what is in the child itself is named in the parent, with a number behind those that the parent gave out
abbrev pub merged_ident : List ℕ → List ℕ → GivenOut → ℕ → Ident → Ident
merged_ident child parent given by x =
    if list_eq x.space child then record { space = parent; number = x.number + by } else record x { space = merged child parent given.children x.space }

-- the new name of what is named so, of a kind
abbrev pub ident_by : Kind → Renaming → Ident → Ident
ident_by kind (Move from to) x = record x { space = moved from to x.space }
ident_by kind (Merge child parent given) x = merged_ident child parent given (given_of kind given) x

-- the space whose names go elsewhere
abbrev pub subject : Renaming → List ℕ
subject (Move from to) = from
subject (Merge child parent given) = child
