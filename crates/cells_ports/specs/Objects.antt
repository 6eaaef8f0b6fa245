-- What contracts see of the cells and ports of a space.
use Rattle.std.specs.Prelude.{List}
use Rattle.oz_base.specs.declared.names.Ident.{Ident}

pub record Contents : Type 0 where
  -- what each cell contains, in the order of their numbers
  pub cells : List Ident
  -- where the stream of each port ends, in the order of their numbers
  pub ports : List Ident
