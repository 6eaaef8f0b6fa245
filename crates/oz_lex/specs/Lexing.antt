-- What is said of the tokens of a whole text.
use Rattle.std.specs.Prelude.{◌≡◌, ℕ, ◌+◌, ◌≤◌, ◌==◌, ◌⊎◌, Bool, true, false, if◌then◌else◌, Option, Some, None, List, length}
use Rattle.std.specs.List.{list_any}
use Rattle.oz_base.specs.Words.{number_in}
use Rattle.oz_language.specs.Tokens.{sort_of, Lexes, Ending, Bad}
use Rattle.oz_language.specs.Wording.{bytes_of, escape_value}
use Rattle.oz_language.specs.declared.token.Lexeme.{Lexeme}
use Rattle.oz_language.specs.declared.token.Token.{Token}
use Rattle.oz_language.specs.declared.token.Token.TheVariants as token
use Rattle.oz_lex.specs.declared.lexer.LexError.{LexError}
use Rattle.oz_lex.specs.declared.lexer.LexError.TheVariants.{Memory, BadByte}

-- what a refusal says: some tokens are there, and the byte at this place belongs to none
abbrev pub IsBad : List ℕ → LexError → Type 0
IsBad text Memory = Unit {0}
IsBad text (BadByte at) = (ls : List Lexeme) × Lexes text 0 ls (Bad at)

-- a text has one reading
abbrev pub OneReading : Type 0
OneReading = (text : List ℕ) (at : ℕ) (ls ks : List Lexeme) (e f : Ending) → Lexes text at ls e → Lexes text at ks f → (ls ≡ ks) × (e ≡ f)

-- the bytes at a token's place are one token of its sort
pub record IsLexeme (text : List ℕ) (l : Lexeme) : Type 0 where
  pub within : l.at + l.len ≤ length text
  pub token : sort_of (bytes_of text l) ≡ Some l.sort

-- the words that are there keep their numbers
abbrev pub KeepsNumbers : List (List ℕ) → List (List ℕ) → Type 0
KeepsNumbers words later = (word : List ℕ) (n : ℕ) → number_in words word ≡ Some n → number_in later word ≡ Some n

-- there is a word, and it is not among these yet
abbrev pub IsNew : List (List ℕ) → Option (List ℕ) → Type 0
IsNew words None = ⊥
IsNew words (Some word) = number_in words word ≡ None

-- an escape stands in these bytes
abbrev pub has_escape : List ℕ → Bool
has_escape bytes = list_any (λ b. b == 92) bytes

-- what may be refused for want of memory: there is a word, and it is not among these yet, or an escape stands in its token
abbrev pub TakesMemory : List (List ℕ) → List ℕ → Option (List ℕ) → Type 0
TakesMemory words bytes None = ⊥
TakesMemory words bytes (Some word) = (number_in words word ≡ None) ⊎ (has_escape bytes ≡ true)

-- what a byte gives, which may stand behind a `\`
abbrev pub meant_byte : Bool → ℕ → Option ℕ
meant_byte true b = Some (escape_value b)
meant_byte false b = if b == 92 then None else Some b

-- a token that has a place, at this one
abbrev pub placed : ℕ → Token → Token
placed at (token.Any n) = token.Any at
placed at (token.OpenParen n) = token.OpenParen at
placed at (token.OpenBracket n) = token.OpenBracket at
placed at (token.OpenBrace n) = token.OpenBrace at
placed at (token.At n) = token.At at
placed at (token.Case n) = token.Case at
placed at (token.Choice n) = token.Choice at
placed at (token.Fail n) = token.Fail at
placed at (token.Fun n) = token.Fun at
placed at (token.If n) = token.If at
placed at (token.Local n) = token.Local at
placed at (token.Proc n) = token.Proc at
placed at (token.Raise n) = token.Raise at
placed at (token.Thread n) = token.Thread at
placed at t = t
