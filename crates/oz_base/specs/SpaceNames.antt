-- The name of a space as it is kept: the top's as nothing, that of a child of the top as its number, and a longer one as a list.
use Rattle.std.specs.Prelude.{ℕ, List, [], ◌∷◌}
use Rattle.oz_base.specs.declared.names.Numbers.{Numbers}
use Rattle.oz_base.specs.declared.names.Numbers.TheVariants.{Top, Child, Deeper}

abbrev pub listed : Numbers → List ℕ
listed Top = []
listed (Child number) = number ∷ []
listed (Deeper numbers) = numbers
