-- Numbers that a space has given out, by kind.
use Rattle.std.specs.Prelude.{ℕ}
use Rattle.renamings.specs.declared.given.Kind.{Kind}
use Rattle.renamings.specs.declared.given.Kind.TheVariants.{Variable, Procedure, Name, Cell, Port}
use Rattle.renamings.specs.declared.given.GivenOut.{GivenOut}

-- how many numbers of this kind
abbrev pub given_of : Kind → GivenOut → ℕ
given_of Variable given = given.variables
given_of Procedure given = given.procedures
given_of Name given = given.names
given_of Cell given = given.cells
given_of Port given = given.ports
