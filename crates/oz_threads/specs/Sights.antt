-- What a thread goes by, of a space that sees this.
use Rattle.std.specs.Prelude.{ℕ, List}
use Rattle.oz_language.specs.declared.kernel.Statement.{Statement}
use Rattle.oz_semantics.specs.Store.{View}
use Rattle.oz_semantics.specs.Sights.{Sight}

abbrev pub sight_of : List Statement → List ℕ → View → Sight
sight_of statements space view = record { statements = statements; space = space; view = view }
