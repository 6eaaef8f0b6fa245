-- Finite-domain scripts (CTM 12.2; Schulte, LNCS 2302, chapter 2): the programs that state a problem,
--
--   proc {Script R} V1 .. Vn in
--     R=L(..)                          the variables as the fields of a record
--     X::D  R:::D  A op B  {FD.distinct W}   ..
--     {FD.distribute Rule U}
--   end
--
-- and nothing else.
use Rattle.std.specs.Prelude.{ℕ, ℤ, ◌-ℤ◌, Bool, true, false, not, ◌&&◌, ◌==◌, nat_eq, if◌then◌else◌, List, [], ◌∷◌, ◌++◌, length, map, Option, Some, None, option_map}
use Rattle.std.specs.Option.{option_and_then}
use Rattle.std.specs.List.{list_all}
use Rattle.oz_base.specs.Lists.{holds_of}
use Rattle.oz_base.specs.declared.distribution.Rule.{Rule}
use Rattle.oz_base.specs.declared.distribution.Rule.TheVariants.{Naive, FirstFail, Split as Halve}
use Rattle.oz_language.specs.declared.token.Literal.{Literal}
use Rattle.oz_language.specs.declared.token.Connective.TheVariants.{Equates, Bounds, BoundsEach}
use Rattle.oz_language.specs.declared.kernel.Constant.{Constant}
use Rattle.oz_language.specs.declared.kernel.Constant.TheVariants as constant
use Rattle.oz_language.specs.declared.kernel.Sign.TheVariants.{NotPositive}
use Rattle.oz_language.specs.declared.text.Form.TheVariants as form
use Rattle.oz_language.specs.Wording.{naive_word, ff_word, split_word}
use Rattle.oz_language.specs.Grammar.{Phrase, Phrases, nothing, more, var, paren, select, connected, relate, call, head, proc, body}
use Rattle.oz_language.specs.Refusals.{Program, contains}
use Rattle.oz_language.specs.SimpleTexts.{form_of, is_bars, integer_text, simple_text, record_text}
use Rattle.fd_problems.specs.declared.problem.Item.{Item}
use Rattle.fd_problems.specs.declared.problem.Item.TheVariants.{Within, Compares, Different}
use Rattle.fd_problems.specs.declared.problem.Distribution.{Distribution}
use Rattle.fd_form.specs.Parts.{script_word, fd_word, distinct_word, distribute_word, only_if, both, each, atom_of, is_named, record_of, place_of, places, vector_of, bounds_of}
use Rattle.fd_form.specs.Sums.{relation_of}
use Rattle.fd_form.specs.declared.script.FdScript.{FdScript}

-- Statements

-- FD.name
abbrev pub is_of_fd : ℕ → Phrase → Bool
is_of_fd word (select e f) = is_named fd_word e && holds_of (nat_eq word) (atom_of f)
is_of_fd word (paren at (more e nothing)) = is_of_fd word e
is_of_fd word p = false

-- all variables lie between the bounds, of which the first is not above the second even where there is no variable
abbrev pub all_within : List ℕ → ℤ × ℤ → List Item
all_within xs b = Compares NotPositive (b.0 -ℤ b.1) [] ∷ map (λ x. Within x b.0 b.1) xs

abbrev pub items_of : ℕ → List ℕ → Phrase → Option (List Item)
items_of root vs (connected Bounds x d) = option_map (λ (p : ℕ × (ℤ × ℤ)). Within p.0 p.1.0 p.1.1 ∷ []) (both (place_of vs x) (bounds_of d))
items_of root vs (connected BoundsEach r d) = if is_named root r then option_map (all_within (places vs)) (bounds_of d) else None
items_of root vs (relate r a b) = relation_of vs r a b
items_of root vs (call at (more f (more w nothing))) =
    if is_of_fd distinct_word f then option_map (λ xs. Different xs ∷ []) (vector_of root vs w) else None
items_of root vs p = None

abbrev pub rule_named : ℕ → Option Rule
rule_named word =
    if nat_eq word naive_word then Some Naive
    else (if nat_eq word ff_word then Some FirstFail else (if nat_eq word split_word then Some Halve else None))

-- U: a vector that has each variable once
abbrev pub order_of : ℕ → List ℕ → Phrase → Option (List ℕ)
order_of root vs u =
    option_and_then (λ xs. only_if ((length xs == length vs) && list_all (contains xs) (places vs)) xs) (vector_of root vs u)

abbrev pub distribution_of : ℕ → List ℕ → Phrase → Option Distribution
distribution_of root vs (call at (more f (more r (more u nothing)))) =
    if is_of_fd distribute_word f
    then option_map (λ (p : Rule × List ℕ). record { rule = p.0; over = p.1 }) (both (option_and_then rule_named (atom_of r)) (order_of root vs u))
    else None
distribution_of root vs p = None

-- what statements state, of which the last distributes
abbrev pub stated : ℕ → List ℕ → Phrases → Option (List Item × Distribution)
stated root vs nothing = None
stated root vs (more s nothing) = option_map (λ d. ([], d)) (distribution_of root vs s)
stated root vs (more s ss) =
    option_map (λ (p : List Item × (List Item × Distribution)). (p.0 ++ p.1.0, p.1.1)) (both (items_of root vs s) (stated root vs ss))

-- Scripts

abbrev pub bare_variable : Phrase → Option ℕ
bare_variable (var name at) = Some name
bare_variable p = None

-- no name is one of the others, nor comes twice
abbrev pub are_apart : List ℕ → List ℕ → Bool
are_apart others [] = true
are_apart others (x ∷ xs) = not (contains others x) && are_apart (x ∷ others) xs

-- each of the variables is a field, once
abbrev pub are_fields : List ℕ → List ℕ → Bool
are_fields names vs = (length names == length vs) && list_all (contains vs) names

abbrev pub script_of : Literal → List Constant → List ℕ → List Item × Distribution → FdScript
script_of l fs vs p =
    record { label = l; features = fs; variables = vs; problem = record { count = length vs; items = p.0; distribution = p.1 } }

-- by the names that are declared, and by the record, which is no cell of a list
abbrev pub with_record : List (List ℕ) → ℕ → Phrases → List ℕ × (Literal × List (Constant × ℕ)) → Option FdScript
with_record words root ss p =
    let l = p.1.0 in
    let fs = map (λ (f : Constant × ℕ). f.0) p.1.1 in
    let vs = map (λ (f : Constant × ℕ). f.1) p.1.1 in
    if are_apart (root ∷ script_word ∷ fd_word ∷ []) p.0 && are_fields p.0 vs && not (is_bars (form_of words l fs))
    then option_map (script_of l fs vs) (stated root vs ss)
    else None

abbrev pub in_body : List (List ℕ) → ℕ → Phrase → Option FdScript
in_body words root (body ds (more (connected Equates r e) ss)) =
    if is_named root r then option_and_then (with_record words root ss) (both (each bare_variable ds) (record_of words e)) else None
in_body words root p = None

-- in the program the one statement is a procedure `Script`, in which `FD` is that of every text
abbrev pub in_program : List (List ℕ) → Phrase → Option FdScript
in_program words (body nothing (more (proc at (head place (more (var name there) (more (var root here) nothing))) b) nothing)) =
    if nat_eq name script_word && not (nat_eq root fd_word) then in_body words root b else None
in_program words p = None

-- the problem of a program, if it has the form
unfoldable pub fd_form : Program → Option FdScript
fd_form p = in_program p.words p.phrase

-- What is shown

-- the text of R with these values of the variables
abbrev pub answer_text : List (List ℕ) → FdScript → List ℤ → List ℕ
answer_text words s [] = simple_text words (constant.Literal s.label)
answer_text words s t = record_text words s.label s.features (map (λ v. (form.Other, integer_text v)) t)
