-- A term among other words: each of its atoms has the number that its text has there.
use Rattle.std.specs.Prelude.{ℕ, Bool, true, ◌&&◌, List, map}
use Rattle.std.specs.List.{list_all, list_any}
use Rattle.oz_base.specs.Lists.{list_eq}
use Rattle.oz_language.specs.Kernels.{word_text}
use Rattle.oz_language.specs.Wording.{number_of}
use Rattle.oz_language.specs.declared.token.Literal.{Literal}
use Rattle.oz_language.specs.declared.token.Literal.TheVariants as literal
use Rattle.oz_language.specs.declared.kernel.Constant.{Constant}
use Rattle.oz_language.specs.declared.kernel.Constant.TheVariants as constant
use Rattle.text_laws.specs.Terms.{Term, Terms, simple, compound, no_term, beside}

abbrev pub literal_among : List (List ℕ) → List (List ℕ) → Literal → Literal
literal_among words others (literal.Atom a) = literal.Atom (number_of others (word_text words a))
literal_among words others l = l

abbrev pub constant_among : List (List ℕ) → List (List ℕ) → Constant → Constant
constant_among words others (constant.Int i) = constant.Int i
constant_among words others (constant.Literal l) = constant.Literal (literal_among words others l)

abbrev mutual
  pub term_among : List (List ℕ) → List (List ℕ) → Term → Term
  term_among words others (simple c) = simple (constant_among words others c)
  term_among words others (compound l fs ts) = compound (literal_among words others l) (map (constant_among words others) fs) (terms_among words others ts)

  pub terms_among : List (List ℕ) → List (List ℕ) → Terms → Terms
  terms_among words others no_term = no_term
  terms_among words others (beside t ts) = beside (term_among words others t) (terms_among words others ts)

-- the texts of its atoms are among the other words

abbrev pub has_literal : List (List ℕ) → List (List ℕ) → Literal → Bool
has_literal words others (literal.Atom a) = list_any (list_eq (word_text words a)) others
has_literal words others l = true

abbrev pub has_constant : List (List ℕ) → List (List ℕ) → Constant → Bool
has_constant words others (constant.Int i) = true
has_constant words others (constant.Literal l) = has_literal words others l

abbrev mutual
  pub has_term : List (List ℕ) → List (List ℕ) → Term → Bool
  has_term words others (simple c) = has_constant words others c
  has_term words others (compound l fs ts) = has_literal words others l && (list_all (has_constant words others) fs && has_terms words others ts)

  pub has_terms : List (List ℕ) → List (List ℕ) → Terms → Bool
  has_terms words others no_term = true
  has_terms words others (beside t ts) = has_term words others t && has_terms words others ts
