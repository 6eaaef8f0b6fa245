-- What one phrase declares.
use Rattle.std.specs.Prelude.{ℕ, if◌then◌else◌, List, [], ◌∷◌, Option, Some, None}
use Rattle.oz_language.specs.Grammar.{Phrase, var}
use Rattle.oz_language.specs.Refusals.{contains}
use Rattle.oz_language.specs.Translation.{once}
use Rattle.oz_language.specs.declared.kernel.Identifier.{Identifier}

-- the name of a variable
abbrev pub variable_name : Phrase → Option ℕ
variable_name (var name at) = Some name
variable_name p = None

-- the identifier of a name, if it is declared for the first time
abbrev pub first_time : List ℕ → Option ℕ → List Identifier
first_time seen name = once seen name (λ names. [])

-- those declared before, with one more
abbrev pub seen_with : Option ℕ → List ℕ → List ℕ
seen_with None seen = seen
seen_with (Some name) seen = if contains seen name then seen else name ∷ seen
