-- The parts of a finite-domain script that are no statements: names, integers, the record, vectors and bounds. Parentheses round an
-- expression leave nothing, so they may stand anywhere in it.
use Rattle.std.specs.Prelude.{ℕ, ℤ, Bool, true, false, nat_eq, List, [], ◌∷◌, length, position, Option, Some, None, option_map, codes}
use Rattle.std.specs.Option.{option_and_then}
use Rattle.std.specs.List.{zip, range_with_len}
use Rattle.oz_base.specs.Lists.{holds_of}
use Rattle.oz_language.specs.declared.token.Literal.{Literal}
use Rattle.oz_language.specs.declared.token.Literal.TheVariants.{Atom}
use Rattle.oz_language.specs.declared.kernel.Constant.{Constant}
use Rattle.oz_language.specs.Wording.{given_word}
use Rattle.oz_language.specs.Grammar.{Phrase, Phrases, nothing, more, var, int, literal, rec, keyed, list, paren, hashes}
use Rattle.oz_language.specs.Translation.{keys_of}
use Rattle.oz_language.specs.Arities.{in_arity_order}
use Rattle.oz_domains.specs.Domains.{is_domain_value}

-- The words that a script must have

abbrev pub script_word : ℕ
script_word = given_word (codes "Script")

abbrev pub fd_word : ℕ
fd_word = given_word (codes "FD")

abbrev pub distinct_word : ℕ
distinct_word = given_word (codes "distinct")

abbrev pub distribute_word : ℕ
distribute_word = given_word (codes "distribute")

-- What is read of phrases, if it is there

abbrev pub only_if : {A : Type 0} → Bool → A → Option A
only_if true a = Some a
only_if false a = None

abbrev pub both : {A B : Type 0} → Option A → Option B → Option (A × B)
both None b = None
both (Some a) None = None
both (Some a) (Some b) = Some (a, b)

-- the same of each phrase, if it is there of all
abbrev pub each : {A : Type 0} → (Phrase → Option A) → Phrases → Option (List A)
each read nothing = Some []
each read (more p ps) = option_map (λ a. a.0 ∷ a.1) (both (read p) (each read ps))

-- the name of a variable, an integer, an atom
abbrev pub name_of : Phrase → Option ℕ
name_of (var name at) = Some name
name_of (paren at (more e nothing)) = name_of e
name_of p = None

abbrev pub integer_of : Phrase → Option ℤ
integer_of (int i at) = Some i
integer_of (paren at (more e nothing)) = integer_of e
integer_of p = None

abbrev pub atom_of : Phrase → Option ℕ
atom_of (literal (Atom word) at) = Some word
atom_of (paren at (more e nothing)) = atom_of e
atom_of p = None

abbrev pub is_named : ℕ → Phrase → Bool
is_named name p = holds_of (nat_eq name) (name_of p)

-- The record

abbrev pub field_name : Phrase → Option ℕ
field_name (keyed k at e) = name_of e
field_name e = name_of e

-- L(F ..), whose fields are variables, or L: the label, and the fields in the order of arities
abbrev pub record_of : List (List ℕ) → Phrase → Option (Literal × List (Constant × ℕ))
record_of words (rec l at fs) = option_map (λ xs. (l, in_arity_order words (zip (keys_of fs) xs))) (each field_name fs)
record_of words (literal l at) = Some (l, [])
record_of words (paren at (more e nothing)) = record_of words e
record_of words p = None

-- Variables, by their places among these

abbrev pub place_of : List ℕ → Phrase → Option ℕ
place_of vs p = option_and_then (λ name. position (nat_eq name) vs) (name_of p)

abbrev pub places : List ℕ → List ℕ
places vs = range_with_len 0 (length vs)

-- W: R, for all of them in their order, or a list in brackets
abbrev pub vector_of : ℕ → List ℕ → Phrase → Option (List ℕ)
vector_of root vs (var name at) = only_if (nat_eq root name) (places vs)
vector_of root vs (list at es) = each (place_of vs) es
vector_of root vs (paren at (more e nothing)) = vector_of root vs e
vector_of root vs p = None

-- D: one integer, or L#H

abbrev pub bound_of : Phrase → Option ℤ
bound_of p = option_and_then (λ i. only_if (is_domain_value i) i) (integer_of p)

abbrev pub bounds_of : Phrase → Option (ℤ × ℤ)
bounds_of (int i at) = only_if (is_domain_value i) (i, i)
bounds_of (hashes (more a (more b nothing))) = both (bound_of a) (bound_of b)
bounds_of (paren at (more e nothing)) = bounds_of e
bounds_of p = None
