-- The words of tokens.
use Rattle.std.proofs.Common.{ℕ, List, Option, Some, None}
use Rattle.oz_language.specs.Kernels.{word_text}
use Rattle.oz_language.specs.declared.token.Literal.{Literal}
use Rattle.oz_language.specs.declared.token.Literal.TheVariants as literal
use Rattle.oz_language.specs.declared.token.Token.{Token}
use Rattle.oz_language.specs.declared.token.Token.TheVariants as token

abbrev pub literal_word : List (List ℕ) → Literal → Option (List ℕ)
literal_word words (literal.Atom a) = Some (word_text words a)
literal_word words l = None

abbrev pub token_word : List (List ℕ) → Token → Option (List ℕ)
token_word words (token.Literal l at) = literal_word words l
token_word words (token.Label l at) = literal_word words l
token_word words t = None
