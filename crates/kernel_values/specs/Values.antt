-- What each expression makes for the value of a name.
use Rattle.std.specs.Prelude.{ℕ, List, [], ◌∷◌}
use Rattle.oz_language.specs.Grammar.{Phrases, more, Phrase, nothing, binary, bars, hashes, select, access}
use Rattle.oz_language.specs.Kernels as k
use Rattle.oz_language.specs.Kernels.{just, none}
use Rattle.oz_language.specs.Translation.{Made, made, preceded, within, value, variable_of, names_of, behind_names, cell_made, last_variable, chain_made, filled, record_bound, translated}
use Rattle.oz_language.specs.Wording.{access_word}
use Rattle.oz_language.specs.declared.kernel.Identifier.TheVariants.{Word}
use Rattle.oz_language.specs.declared.kernel.Identifier.{Identifier}
use Rattle.oz_language.specs.declared.token.Literal.{Literal}
use Rattle.kernel_writer.specs.Parts.{with_one}

-- fields, behind the record that they are of
abbrev pub record_made : List (List ℕ) → Identifier → ℕ → Literal → Phrases → Made
record_made words x n l fs =
    within (names_of n fs) (preceded (record_bound words x l fs (names_of n fs)) (filled words n fs (behind_names n fs)))

abbrev pub accessed : List (List ℕ) → Identifier → ℕ → Phrase → Made
accessed words x n e = with_one words n e (λ y i. made (just (k.call (Word access_word) (y ∷ x ∷ []))) i)

-- e.f
abbrev pub selection_made : List (List ℕ) → Identifier → ℕ → Phrase → Phrase → Made
selection_made words x n e f = translated words (value x) n (select e f)

-- one expression in parentheses
abbrev pub inner_made : List (List ℕ) → Identifier → ℕ → Phrases → Made
inner_made words x n (more e nothing) = translated words (value x) n e
inner_made words x n es = made none n

-- a cell, and the chain behind it
abbrev pub links_made : List (List ℕ) → Identifier → ℕ → Phrase → Phrases → Made
links_made words x n e es =
    cell_made n x (variable_of e) (last_variable es) (λ y i. translated words (value y) i e) (λ z i. chain_made words z es i)

-- an operator or a chain, and nothing else
abbrev pub operation_made : List (List ℕ) → Identifier → ℕ → Phrase → Made
operation_made words x n (binary op a b) = translated words (value x) n (binary op a b)
operation_made words x n (bars es) = translated words (value x) n (bars es)
operation_made words x n (hashes es) = translated words (value x) n (hashes es)
operation_made words x n (select e f) = selection_made words x n e f
operation_made words x n (access at e) = translated words (value x) n (access at e)
operation_made words x n p = made none n
