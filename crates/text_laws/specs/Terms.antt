-- Finite terms of integers, literals and records: which of them are values, and how they are written.
use Rattle.std.specs.Prelude.{ℕ, nat_lt, Bool, true, false, not, ◌&&◌, ◌||◌, ◌==◌, List, [], ◌∷◌, length, codes}
use Rattle.std.specs.List.{list_all}
use Rattle.oz_base.specs.Lists.{is_empty}
use Rattle.oz_base.specs.Numbers.{is_integer}
use Rattle.oz_language.specs.Tokens.{is_printable}
use Rattle.oz_language.specs.Kernels.{word_text}
use Rattle.oz_language.specs.Arities.{feature_lt}
use Rattle.oz_language.specs.SimpleTexts.{is_atom, simple_text, form_of, record_text}
use Rattle.oz_language.specs.declared.text.Form.{Form}
use Rattle.oz_language.specs.declared.text.Form.TheVariants as form
use Rattle.oz_language.specs.declared.token.Literal.{Literal}
use Rattle.oz_language.specs.declared.token.Literal.TheVariants as literal
use Rattle.oz_language.specs.declared.kernel.Constant.{Constant}
use Rattle.oz_language.specs.declared.kernel.Constant.TheVariants as constant

mutual
  pub data Term : Type 0 where
    -- an integer or a literal
    simple : Constant → Term
    -- l(F:T ..), by its label, its features and its fields
    compound : Literal → List Constant → Terms → Term

  pub data Terms : Type 0 where
    no_term : Terms
    beside : Term → Terms → Terms

-- Values

-- a byte that an atom may have: one that can stand in quotes, a line feed or a tab
abbrev pub is_writable : ℕ → Bool
is_writable b = is_printable b || (b == 10) || (b == 9)

-- an atom is the number of a word
abbrev pub is_literal : List (List ℕ) → Literal → Bool
is_literal words (literal.Atom a) = nat_lt a (length words) && list_all is_writable (word_text words a)
is_literal words l = true

abbrev pub is_constant : List (List ℕ) → Constant → Bool
is_constant words (constant.Int i) = is_integer i
is_constant words (constant.Literal l) = is_literal words l

-- the atom `fail`
abbrev pub is_fail : List (List ℕ) → Constant → Bool
is_fail words (constant.Int i) = false
is_fail words (constant.Literal l) = is_atom words (codes "fail") l

-- each feature comes before the next
abbrev pub is_arity : List (List ℕ) → List Constant → Bool
is_arity words [] = true
is_arity words (f ∷ []) = true
is_arity words (f ∷ g ∷ fs) = feature_lt words f g && is_arity words (g ∷ fs)

-- a field for each feature
abbrev pub is_filled : List Constant → Terms → Bool
is_filled [] no_term = true
is_filled (f ∷ fs) (beside t ts) = is_filled fs ts
is_filled [] (beside t ts) = false
is_filled (f ∷ fs) no_term = false

abbrev mutual
  -- a value whose text tells it: the atom `fail` is written without quotes where it is a term by itself, though it is a reserved word
  pub is_value : List (List ℕ) → Term → Bool
  is_value words (simple c) = is_constant words c && not (is_fail words c)
  is_value words (compound l fs ts) =
      is_literal words l && (list_all (is_constant words) fs && (is_arity words fs && (not (is_empty fs) && (is_filled fs ts && are_values words ts))))

  pub are_values : List (List ℕ) → Terms → Bool
  are_values words no_term = true
  are_values words (beside t ts) = is_value words t && are_values words ts

-- Texts

abbrev pub form_in : List (List ℕ) → Term → Form
form_in words (simple c) = form.Other
form_in words (compound l fs ts) = form_of words l fs

abbrev mutual
  pub term_text : List (List ℕ) → Term → List ℕ
  term_text words (simple c) = simple_text words c
  term_text words (compound l fs ts) = record_text words l fs (field_texts words ts)

  -- the texts of fields, each with its form
  pub field_texts : List (List ℕ) → Terms → List (Form × List ℕ)
  field_texts words no_term = []
  field_texts words (beside t ts) = (form_in words t, term_text words t) ∷ field_texts words ts
