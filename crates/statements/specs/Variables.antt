-- The variables of arguments.
use Rattle.std.specs.Prelude.{List, [], ◌∷◌, map}
use Rattle.oz_base.specs.declared.names.Ident.{Ident}
use Rattle.environments.specs.Environments.{bound}
use Rattle.statements.specs.declared.variables.Arguments.{Arguments}
use Rattle.statements.specs.declared.variables.Arguments.TheVariants.{Names, One}

abbrev pub variables_of : Arguments → List Ident
variables_of (Names environment names) = map (bound environment.now) names.now
variables_of (One x) = x.now ∷ []
