-- What is read of a script, by parts.
use Rattle.std.specs.Prelude.{ℕ, ℤ, pos, Bool, not, ◌&&◌, nat_eq, if◌then◌else◌, List, [], ◌∷◌, ◌++◌, Option, Some, None, option_map}
use Rattle.std.specs.Option.{option_and_then}
use Rattle.std.specs.List.{zip}
use Rattle.std.specs.Borrow.{Bor}
use Rattle.oz_base.specs.Lists.{holds_of}
use Rattle.oz_base.specs.declared.distribution.Rule.{Rule}
use Rattle.oz_language.specs.declared.kernel.Constant.{Constant}
use Rattle.oz_language.specs.declared.token.Literal.{Literal}
use Rattle.oz_language.specs.declared.token.Connective.TheVariants.{Equates}
use Rattle.oz_language.specs.Grammar.{Phrase, Phrases, nothing, more, int, connected, head, body}
use Rattle.oz_language.specs.Arities.{in_arity_order}
use Rattle.oz_language.specs.Translation.{keys_of, signed}
use Rattle.oz_syntax.specs.View.{view}
use Rattle.oz_syntax.specs.declared.phrase.Phrase.{Phrase as Tree}
use Rattle.fd_problems.specs.declared.problem.Distribution.{Distribution}
use Rattle.fd_problems.specs.declared.problem.Item.{Item}
use Rattle.fd_problems.specs.declared.problem.Item.TheVariants.{Within, Different}
use Rattle.fd_problems.specs.declared.problem.Term.TheVariants.{Product}
use Rattle.fd_form.specs.declared.sums.Sum.{Sum}
use Rattle.fd_form.specs.Parts.{script_word, fd_word, distinct_word, distribute_word, only_if, both, atom_of, is_named, each, field_name, record_of, place_of, places, vector_of, bound_of, bounds_of}
use Rattle.fd_form.specs.Sums.{sum, multiple}
use Rattle.fd_form.specs.FdScripts.{is_of_fd, all_within, items_of, rule_named, order_of, bare_variable, with_record, in_body, in_program}
use Rattle.fd_form.specs.declared.script.FdScript.{FdScript}

-- Lists of so many

abbrev pub one_of : Phrases → Option Phrase
one_of nothing = None
one_of (more p nothing) = Some p
one_of (more p (more q ps)) = None

abbrev pub two_of : Phrases → Option (Phrase × Phrase)
two_of nothing = None
two_of (more p ps) = option_map (λ q. (p, q)) (one_of ps)

-- what references to trees stand for
abbrev pub one_seen : Option (Bor Tree) → Option Phrase
one_seen o = option_map (λ (p : Bor Tree). view p.now) o

abbrev pub two_seen : Option (Bor Tree × Bor Tree) → Option (Phrase × Phrase)
two_seen o = option_map (λ (p : Bor Tree × Bor Tree). (view p.0.now, view p.1.now)) o

-- Parts

abbrev pub is_atom : ℕ → Phrase → Bool
is_atom word p = holds_of (nat_eq word) (atom_of p)

-- L(F ..)
abbrev pub record_by : List (List ℕ) → Literal → Phrases → Option (Literal × List (Constant × ℕ))
record_by words l fs = option_map (λ xs. (l, in_arity_order words (zip (keys_of fs) xs))) (each field_name fs)

-- L#H
abbrev pub bounds_by : Option (Phrase × Phrase) → Option (ℤ × ℤ)
bounds_by None = None
bounds_by (Some p) = both (bound_of p.0) (bound_of p.1)

-- Relations

-- the integer that a factor is
abbrev pub coefficient_of : Phrase → Option ℤ
coefficient_of (int i at) = Some i
coefficient_of p = None

-- the product of the variables at these places
abbrev pub product : Bool → Option ℕ → Option ℕ → Option Sum
product s x y = option_map (λ (p : ℕ × ℕ). sum (pos 0) (Product (signed s (pos 1)) p.0 p.1 ∷ [])) (both x y)

-- a product, by the integers among its factors
abbrev pub multiplied : List ℕ → Bool → Option ℤ → Option ℤ → Phrase → Phrase → Option Sum
multiplied vs s (Some i) j a b = multiple s i (place_of vs b)
multiplied vs s None (Some j) a b = multiple s j (place_of vs a)
multiplied vs s None None a b = product s (place_of vs a) (place_of vs b)

-- Statements

-- X::D and R:::D
abbrev pub bounded : List ℕ → Phrase → Phrase → Option (List Item)
bounded vs x d = option_map (λ (p : ℕ × (ℤ × ℤ)). Within p.0 p.1.0 p.1.1 ∷ []) (both (place_of vs x) (bounds_of d))

abbrev pub all_bounded : ℕ → List ℕ → Phrase → Phrase → Option (List Item)
all_bounded root vs r d = if is_named root r then option_map (all_within (places vs)) (bounds_of d) else None

-- what is called, and its arguments
abbrev pub distinct_by : ℕ → List ℕ → Option (Phrase × Phrase) → Option (List Item)
distinct_by root vs None = None
distinct_by root vs (Some p) = if is_of_fd distinct_word p.0 then option_map (λ xs. Different xs ∷ []) (vector_of root vs p.1) else None

-- the rule that a phrase names
abbrev pub rule_of : Phrase → Option Rule
rule_of p = option_and_then rule_named (atom_of p)

abbrev pub distribution_by : ℕ → List ℕ → Phrase → Option (Phrase × Phrase) → Option Distribution
distribution_by root vs f None = None
distribution_by root vs f (Some p) =
    if is_of_fd distribute_word f
    then option_map (λ (d : Rule × List ℕ). record { rule = d.0; over = d.1 }) (both (rule_of p.0) (order_of root vs p.1))
    else None

-- what statements state that are not the last
abbrev pub all_items : ℕ → List ℕ → Phrases → Option (List Item)
all_items root vs nothing = Some []
all_items root vs (more s ss) = option_map (λ (p : List Item × List Item). p.0 ++ p.1) (both (items_of root vs s) (all_items root vs ss))

-- Programs

-- the record of an equation whose left side is the answer
abbrev pub answer_in : ℕ → Phrase → Option Phrase
answer_in root (connected Equates r e) = if is_named root r then Some e else None
answer_in root p = None

-- the parameter of a script of this name, where it is not `FD`
abbrev pub named_root : Option ℕ → Option ℕ → Option ℕ
named_root None root = None
named_root (Some name) None = None
named_root (Some name) (Some root) = only_if (nat_eq name script_word && not (nat_eq root fd_word)) root

abbrev pub root_by : Option (Phrase × Phrase) → Option ℕ
root_by None = None
root_by (Some p) = named_root (bare_variable p.0) (bare_variable p.1)

-- the parameter in the head of a script
abbrev pub root_in : Phrase → Option ℕ
root_in (head place ps) = root_by (two_of ps)
root_in p = None

-- the script of a procedure with this body, where it has such a parameter
abbrev pub procedure_by : List (List ℕ) → Phrase → Option ℕ → Option FdScript
procedure_by words b None = None
procedure_by words b (Some root) = in_body words root b

-- the script of a body with these declarations, with statements behind the record
abbrev pub body_by : List (List ℕ) → ℕ → Phrases → Phrases → Option Phrase → Option FdScript
body_by words root ds ss None = None
body_by words root ds ss (Some e) = option_and_then (with_record words root ss) (both (each bare_variable ds) (record_of words e))

-- the script of the one statement of a program
abbrev pub text_by : List (List ℕ) → Option Phrase → Option FdScript
text_by words None = None
text_by words (Some s) = in_program words (body nothing (more s nothing))
