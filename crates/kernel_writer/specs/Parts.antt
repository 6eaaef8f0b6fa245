-- Parts, and what is done with their identifiers.
use Rattle.std.specs.Prelude.{ℕ, Option, Some, None, List, [], ◌∷◌}
use Rattle.oz_language.specs.Grammar.{Phrase}
use Rattle.oz_language.specs.Kernels.{Stmt}
use Rattle.oz_language.specs.Translation.{Made, value, variable_of, translated, with_part, with_parts}
use Rattle.oz_language.specs.declared.kernel.Identifier.{Identifier}

-- one part, and what is done with its identifier
abbrev pub with_one : List (List ℕ) → ℕ → Phrase → (Identifier → ℕ → Made) → Made
with_one words n e use_of = with_part n (variable_of e) (λ y i. translated words (value y) i e) use_of

-- two parts, and the statement with their identifiers
abbrev pub with_two : List (List ℕ) → ℕ → Phrase → Phrase → (Identifier → Identifier → Stmt) → Made
with_two words n a b use_of =
    with_parts n (variable_of a) (variable_of b) (λ y i. translated words (value y) i a) (λ y i. translated words (value y) i b) use_of

-- the name of a result, where there is one
abbrev pub result_names : Option Identifier → List Identifier
result_names None = []
result_names (Some x) = x ∷ []
