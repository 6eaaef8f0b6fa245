-- What renamings mean: those of the definitions of copies and of merging.
use Rattle.std.specs.Prelude.{◌≡◌, ℕ, ◌-◌, List, length}
use Rattle.renamings.specs.Renames.{space_by, ident_by}
use Rattle.renamings.specs.declared.given.GivenOut.{GivenOut}
use Rattle.renamings.specs.declared.given.Kind.TheVariants as kind
use Rattle.renamings.specs.declared.renaming.Renaming.{Renaming}
use Rattle.renamings.specs.declared.renaming.Renaming.TheVariants.{Move, Merge}
use Rattle.oz_semantics.specs.Renamings as meant
use Rattle.oz_semantics.specs.Edits.{moving, merging}
use Rattle.oz_semantics.specs.declared.configuration.Layer.{Layer}

-- each kind of name by itself
abbrev pub renaming_of : Renaming → meant.Renaming
renaming_of r =
    record {
      variable = ident_by kind.Variable r;
      procedure = ident_by kind.Procedure r;
      name = ident_by kind.Name r;
      cell = ident_by kind.Cell r;
      port = ident_by kind.Port r;
      space = space_by r;
    }

-- how many numbers of each kind a space has given out: those of variables, cells and ports begin with 0, and the others with 1
abbrev pub given_out_by : Layer → GivenOut
given_out_by l =
    record {
      variables = l.next.variable;
      procedures = l.next.procedure - 1;
      names = l.next.name - 1;
      cells = length l.cells;
      ports = length l.ports;
      children = l.next.child - 1;
    }

-- that of a copy
abbrev pub MovesAsDefined : Type 0
MovesAsDefined = (from to : List ℕ) → renaming_of (Move from to) ≡ moving from to

-- that of merging the layer s into that of its parent p
abbrev pub MergesAsDefined : Type 0
MergesAsDefined = (s p : Layer) → renaming_of (Merge s.space p.space (given_out_by p)) ≡ merging s p
