-- What the output comes to with more statements.
use Rattle.std.specs.Prelude.{ℕ, List, [], ◌∷◌, ◌++◌, length}
use Rattle.oz_language.specs.Kernels.{Stmts, Bodies, numbers, listed_all, listed_bodies}
use Rattle.oz_language.specs.declared.kernel.Identifier.{Identifier}
use Rattle.oz_language.specs.declared.kernel.Statement.{Statement}
use Rattle.oz_language.specs.declared.kernel.Statement.TheVariants.{Local}
use Rattle.kernel_output.specs.declared.output.Output.{Output}

-- one statement behind those of the body
abbrev pub with_statement : Output → Statement → Output
with_statement o s = record { statements = o.statements ++ s ∷ []; body = o.body ++ length o.statements ∷ [] }

-- statements behind those of the body, each with those inside it before it
unfoldable pub with_all : Output → Stmts → Output
with_all o ss = record { statements = o.statements ++ listed_all (length o.statements) ss; body = o.body ++ numbers (length o.statements) ss }

-- the statements of a body that is not the one being written
unfoldable pub with_inside : Output → Stmts → Output
with_inside o ss = record { statements = o.statements ++ listed_all (length o.statements) ss; body = o.body }

unfoldable pub with_bodies : Output → Bodies → Output
with_bodies o bs = record { statements = o.statements ++ listed_bodies (length o.statements) bs; body = o.body }

-- a body of its own is begun
abbrev pub opened : Output → Output
opened o = record { statements = o.statements; body = [] }

-- the body becomes that of a `local` behind an outer one
abbrev pub in_local : List ℕ → List Identifier → Output → Output
in_local outer names o = with_statement (record { statements = o.statements; body = outer }) (Local names o.body)
