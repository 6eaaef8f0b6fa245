-- A printed term is read back as the same term.
use Rattle.std.specs.Prelude.{ℕ, ◌≡◌, true, List, ◌++◌, map}
use Rattle.std.specs.List.{IsDistinct}
use Rattle.oz_base.specs.Lists.{list_eq}
use Rattle.oz_language.specs.Tokens.{Lexes, Whole}
use Rattle.oz_language.specs.Wording.{first_words, words_of, token_in}
use Rattle.oz_language.specs.Grammar.{Phrase, tokens_of, expr, pattern}
use Rattle.oz_language.specs.Translation.{translated, value, patterned}
use Rattle.oz_language.specs.SimpleTexts.{constant_text}
use Rattle.oz_language.specs.declared.token.Lexeme.{Lexeme}
use Rattle.oz_language.specs.declared.kernel.Constant.{Constant}
use Rattle.oz_language.specs.declared.kernel.Identifier.{Identifier}
use Rattle.text_laws.specs.Terms.{Term, simple, is_constant, is_value, term_text}
use Rattle.text_laws.specs.Meanings.{pattern_of, term_made}
use Rattle.text_laws.specs.Renaming.{has_term, term_among}

-- the words of a program: those that each text has come first, and none stands twice
pub record AreWords (words : List (List ℕ)) : Type 0 where
  pub own : List (List ℕ)
  pub given : words ≡ first_words ++ own
  pub distinct : IsDistinct list_eq words

-- a text is read as a term
pub record IsReadAs (words : List (List ℕ)) (text : List ℕ) (t : Term) : Type 0 where
  pub lexemes : List Lexeme
  pub phrase : Phrase
  -- it has tokens to its end
  pub lexed : Lexes text 0 lexemes Whole
  -- they spell a phrase
  pub spelled : map (token_in words text) lexemes ≡ tokens_of phrase
  -- this is an expression, whose value is the term
  pub expression : expr phrase ≡ true
  pub valued : (x : Identifier) (n : ℕ) → translated words (value x) n phrase ≡ term_made x n t
  -- and a pattern, which the term alone matches
  pub as_pattern : pattern phrase ≡ true
  pub matched : patterned words phrase ≡ pattern_of t

-- the text of an integer or a literal is read as this
abbrev pub ConstantsRead : Type 0
ConstantsRead = (words : List (List ℕ)) (c : Constant) → AreWords words → is_constant words c ≡ true → IsReadAs words (constant_text words c) (simple c)

-- the text of a term is read as the term
abbrev pub TermsRead : Type 0
TermsRead = (words : List (List ℕ)) (t : Term) → AreWords words → is_value words t ≡ true → IsReadAs words (term_text words t) t

-- and in a program with other words that have the texts of its atoms it is read as the same term
abbrev pub TermsReadAnew : Type 0
TermsReadAnew =
    (words others : List (List ℕ)) (t : Term) → AreWords others → is_value words t ≡ true → has_term words others t ≡ true
    → IsReadAs others (term_text words t) (term_among words others t)

-- each text has such words
abbrev pub WordsStand : Type 0
WordsStand = (text : List ℕ) (lexemes : List Lexeme) → AreWords (words_of text lexemes)

-- a text that stands alone, with the words of its own tokens, is read as a term
pub record IsReadAlone (words : List (List ℕ)) (text : List ℕ) (t : Term) : Type 0 where
  pub lexemes : List Lexeme
  pub lexed : Lexes text 0 lexemes Whole
  pub known : has_term words (words_of text lexemes) t ≡ true
  pub read : IsReadAs (words_of text lexemes) text (term_among words (words_of text lexemes) t)

-- and so is the text of each term
abbrev pub TermsReadAlone : Type 0
TermsReadAlone = (words : List (List ℕ)) (t : Term) → AreWords words → is_value words t ≡ true → IsReadAlone words (term_text words t) t

-- a text is read as one term
abbrev pub ReadOnce : Type 0
ReadOnce = (words : List (List ℕ)) (text : List ℕ) (t u : Term) → IsReadAs words text t → IsReadAs words text u → t ≡ u

-- so the text tells the term
abbrev pub TextsTell : Type 0
TextsTell =
    (words : List (List ℕ)) (t u : Term) → AreWords words → is_value words t ≡ true → is_value words u ≡ true → term_text words t ≡ term_text words u → t ≡ u
