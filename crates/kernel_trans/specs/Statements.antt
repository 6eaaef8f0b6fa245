-- What each construct without bodies of its own makes, whatever it is for.
use Rattle.std.specs.Prelude.{ℕ, suc, Option, List, [], ◌∷◌, ◌++◌}
use Rattle.oz_language.specs.Grammar as g
use Rattle.oz_language.specs.Grammar.{Phrases, Phrase, connected, relate, proc, fun}
use Rattle.oz_language.specs.Kernels as k
use Rattle.oz_language.specs.Kernels.{just, none, ◌⨾◌}
use Rattle.oz_language.specs.Translation.{Made, made, and_then, within, value, variable_of, names_of, behind_names, filled, translated, Goal, statement, result_in, called, references, between, behind_side, products_of, posted, equated, parameters_of, parameter_names, behind_parameters, procedure_name, procedure_bound, function_made, lazily}
use Rattle.oz_language.specs.Wording.{assign_word}
use Rattle.oz_language.specs.declared.kernel.Identifier.TheVariants.{Word, Fresh}
use Rattle.oz_language.specs.declared.kernel.Identifier.{Identifier}
use Rattle.oz_language.specs.declared.kernel.Operation.TheVariants as operation
use Rattle.oz_language.specs.declared.token.Comparison.{Comparison}
use Rattle.oz_language.specs.declared.token.Connective.TheVariants.{Equates, Assigns, Bounds, BoundsEach}
use Rattle.oz_language.specs.declared.token.Connective.{Connective}
use Rattle.kernel_writer.specs.Parts.{with_one, with_two}

abbrev pub raised : List (List ℕ) → ℕ → Phrase → Made
raised words n e = with_one words n e (λ y i. made (just (k.raise y)) i)

-- an equation, by the variables that its sides are
abbrev pub equation_made : List (List ℕ) → ℕ → Option Identifier → Option Identifier → Phrase → Phrase → Made
equation_made words n v w a b =
    equated n v w (λ y i. translated words (value y) i a) (λ y i. translated words (value y) i b)

-- what stands between two sides
abbrev pub connected_made : List (List ℕ) → ℕ → Connective → Phrase → Phrase → Made
connected_made words n Equates a b = equation_made words n (variable_of a) (variable_of b) a b
connected_made words n Assigns a b = with_two words n a b (λ y z. k.call (Word assign_word) (y ∷ z ∷ []))
connected_made words n Bounds a b = with_two words n a b (λ y z. k.operate operation.Bound (y ∷ z ∷ []))
connected_made words n BoundsEach a b = with_two words n a b (λ y z. k.operate operation.BoundEach (y ∷ z ∷ []))

abbrev pub relation_made : List (List ℕ) → ℕ → Comparison → Phrase → Phrase → Made
relation_made words n r a b =
    let m = behind_side n a in
    let l = behind_side m b in
    within (between n l)
    (and_then (and_then (references words n a l) (λ i. references words m b i))
    (λ i. made ((products_of n a ⨾ products_of m b) ⨾ just (posted r n a b)) i))

abbrev pub call_made : List (List ℕ) → Goal → ℕ → Phrases → Made
call_made words goal n es =
    within (names_of n es) (and_then (filled words n es (behind_names n es)) (λ i. made (called (names_of n es ++ result_in goal)) i))

abbrev pub procedure_made : List (List ℕ) → Identifier → ℕ → Phrases → Phrase → Made
procedure_made words x n ps b =
    let a = translated words statement (behind_parameters n ps) b in
    made (procedure_bound x (parameter_names n ps) [] a.code) a.next

abbrev pub value_procedure_made : List (List ℕ) → Identifier → ℕ → Option ℕ → Phrases → Phrase → Made
value_procedure_made words x n lazy ps b =
    function_made x (parameter_names n ps) lazy (λ r i. translated words (value r) i b) (behind_parameters n ps)

-- the body of a lazy function, by the identifier of its value
abbrev pub lazy_made : List (List ℕ) → Identifier → ℕ → Phrase → Made
lazy_made words r n b =
    let a = translated words (value (Fresh (suc n))) (suc (suc n)) b in made (lazily r (Fresh n) (Fresh (suc n)) a.code) a.next

-- a construct that is no expression by itself, and nothing else
abbrev pub statement_made : List (List ℕ) → Goal → ℕ → Phrase → Made
statement_made words goal n g.skip = made (just k.skip) n
statement_made words goal n (g.fail at) = made (just k.fail) n
statement_made words goal n (g.raise at e) = raised words n e
statement_made words goal n (connected c a b) = connected_made words n c a b
statement_made words goal n (relate r a b) = relation_made words n r a b
statement_made words goal n (g.call at es) = call_made words goal n es
statement_made words goal n (proc at h b) = procedure_made words (procedure_name goal h) n (parameters_of h) b
statement_made words goal n (fun at lazy h b) = value_procedure_made words (procedure_name goal h) n lazy (parameters_of h) b
statement_made words goal n p = made none n
