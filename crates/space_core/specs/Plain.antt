-- Spaces in which nothing waits to be needed, and that know of no space as a value, by what is kept of them.
use Rattle.std.specs.Prelude.{Bool, not, ◌&&◌}
use Rattle.oz_base.specs.Lists.{is_empty}
use Rattle.space_core.specs.declared.level.Level.{Level}

abbrev pub is_plain : Level → Bool
is_plain l = is_empty l.triggers && not l.knows_space
