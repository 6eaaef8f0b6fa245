-- The words of a text, numbered, and its tokens as the grammar sees them.
use Rattle.std.specs.Prelude.{ℕ, ℤ, pos, suc, zero, negsuc, ◌==◌, nat_le, nat_lt, if◌then◌else◌, List, [], ◌∷◌, ◌++◌, Option, Some, None, map, find, fold, take, drop, codes, unwrap_or, option_map}
use Rattle.std.specs.Ffi.{without_last}
use Rattle.std.specs.Str.Parse.{digits_value}
use Rattle.oz_base.specs.Lists.{list_eq}
use Rattle.oz_base.specs.Numbers.{integer_limit}
use Rattle.oz_base.specs.Words.{with_text, number_in}
use Rattle.oz_language.specs.Tokens.{is_reserved, is_quoted}
use Rattle.oz_language.specs.declared.token.Sort.{Sort}
use Rattle.oz_language.specs.declared.token.Sort.TheVariants as sort
use Rattle.oz_language.specs.declared.token.Lexeme.{Lexeme}
use Rattle.oz_language.specs.declared.token.Literal.{Literal}
use Rattle.oz_language.specs.declared.token.Literal.TheVariants as literal
use Rattle.oz_language.specs.declared.token.Operator.TheVariants as operator
use Rattle.oz_language.specs.declared.token.Comparison.TheVariants as comparison
use Rattle.oz_language.specs.declared.token.Token.{Token}
use Rattle.oz_language.specs.declared.token.Token.TheVariants as token

abbrev pub bytes_of : List ℕ → Lexeme → List ℕ
bytes_of text l = take l.len (drop l.at text)

-- What stands in quotes

-- the byte that an escape stands for: `n` (110) is a line feed and `t` (116) a tab
abbrev pub escape_value : ℕ → ℕ
escape_value b = if b == 110 then 10 else (if b == 116 then 9 else b)

abbrev mutual
  pub meant : List ℕ → List ℕ
  meant [] = []
  meant (b ∷ bs) = if b == 92 then meant_behind bs else b ∷ meant bs

  pub meant_behind : List ℕ → List ℕ
  meant_behind [] = []
  meant_behind (b ∷ bs) = escape_value b ∷ meant bs

-- between the quotes
abbrev pub unquoted : List ℕ → List ℕ
unquoted bytes = meant (without_last (drop 1 bytes))

-- Words: the names of variables and atoms

-- the words `true`, `false` and `unit` are literals by themselves
abbrev pub constant_of : List ℕ → Option Literal
constant_of word =
    if list_eq word (codes "true") then Some literal.True
    else (if list_eq word (codes "false") then Some literal.False
    else (if list_eq word (codes "unit") then Some literal.Unit else None))

abbrev pub atom_unless : List ℕ → Option Literal → Option (List ℕ)
atom_unless word None = Some word
atom_unless word (Some l) = None

abbrev pub atom_word : List ℕ → Option (List ℕ)
atom_word word = if is_reserved word then None else atom_unless word (constant_of word)

-- that of an atom in quotes, or of a word
abbrev pub label_word : List ℕ → Option (List ℕ)
label_word bytes = if is_quoted 39 bytes then Some (unquoted bytes) else atom_word bytes

-- the word that a token of these bytes has, if it has one
abbrev pub word_in : Sort → List ℕ → Option (List ℕ)
word_in sort.Var bytes = Some bytes
word_in sort.Word bytes = atom_word bytes
word_in sort.Label bytes = label_word (without_last bytes)
word_in sort.Int bytes = None
word_in sort.Quoted bytes = Some (unquoted bytes)
word_in sort.String bytes = Some (unquoted bytes)
word_in sort.Char bytes = None
word_in sort.Symbol bytes = None

abbrev pub with_word : List (List ℕ) → Option (List ℕ) → List (List ℕ)
with_word words None = words
with_word words (Some word) = with_text words word

-- the words that each text has: the names that need no declaration, and atoms
abbrev pub names_given : List (List ℕ)
names_given =
    codes "Script" ∷ codes "Show" ∷ codes "FD" ∷ codes "Label" ∷ codes "Width" ∷ codes "Arity" ∷ codes "NewName" ∷ codes "Wait"
    ∷ codes "NewCell" ∷ codes "Access" ∷ codes "Assign" ∷ codes "Exchange" ∷ codes "NewPort" ∷ codes "Send" ∷ codes "ByNeed"
    ∷ codes "NewSpace" ∷ codes "Ask" ∷ codes "Choose" ∷ codes "Commit" ∷ codes "Clone" ∷ codes "Inject" ∷ codes "Merge" ∷ []

-- the atoms of lists, tuples and lazy functions, those of exceptions, and those that tell the state of a space
abbrev pub atoms_given : List (List ℕ)
atoms_given =
    codes "nil" ∷ codes "|" ∷ codes "#" ∷ codes "lazy"
    ∷ codes "failure" ∷ codes "tell" ∷ codes "fail" ∷ codes "top" ∷ codes "space" ∷ codes "error" ∷ codes "kernel" ∷ codes "overflow" ∷ codes "div0"
    ∷ codes "type" ∷ codes "apply" ∷ codes "arity" ∷ codes "feature" ∷ codes "boolean" ∷ codes "noElse" ∷ codes "domain" ∷ codes "spaceParent"
    ∷ codes "spaceChoice" ∷ codes "spaceMerged" ∷ codes "spaceRaised" ∷ codes "globalState" ∷ codes "cell" ∷ codes "port" ∷ codes "io"
    ∷ codes "failed" ∷ codes "succeeded" ∷ codes "alternatives" ∷ codes "raised" ∷ codes "merged" ∷ codes "opaque"
    ∷ codes "fd" ∷ codes "distinct" ∷ codes "distribute" ∷ codes "naive" ∷ codes "ff" ∷ codes "split" ∷ []

abbrev pub first_words : List (List ℕ)
first_words = names_given ++ atoms_given

-- their numbers, where the definitions speak of them
abbrev pub access_word : ℕ
access_word = 9

abbrev pub assign_word : ℕ
assign_word = 10

abbrev pub by_need_word : ℕ
by_need_word = 14

abbrev pub nil_word : ℕ
nil_word = 22

abbrev pub bar_word : ℕ
bar_word = 23

abbrev pub hash_word : ℕ
hash_word = 24

abbrev pub lazy_word : ℕ
lazy_word = 25

abbrev pub joining : List ℕ → List (List ℕ) → Lexeme → List (List ℕ)
joining text words l = with_word words (word_in l.sort (bytes_of text l))

-- the words of a text: those that each text has, and then its own, each once, as they are first met
unfoldable pub words_of : List ℕ → List Lexeme → List (List ℕ)
words_of text ls = fold (joining text) first_words ls

-- the number of a word that is there
abbrev pub number_of : List (List ℕ) → List ℕ → ℕ
number_of words word = unwrap_or (number_in words word) 0

-- a word that each text has, by its text
abbrev pub given_word : List ℕ → ℕ
given_word word = number_of first_words word

abbrev pub given_atom : List ℕ → Literal
given_atom word = literal.Atom (given_word word)

-- Tokens by their bytes

abbrev pub atom_or : List (List ℕ) → List ℕ → Option Literal → Literal
atom_or words word (Some l) = l
atom_or words word None = literal.Atom (number_of words word)

abbrev pub literal_in : List (List ℕ) → List ℕ → Literal
literal_in words word = atom_or words word (constant_of word)

abbrev pub quoted_in : List (List ℕ) → List ℕ → Literal
quoted_in words bytes = literal.Atom (number_of words (unquoted bytes))

abbrev pub label_in : List (List ℕ) → List ℕ → Literal
label_in words bytes = if is_quoted 39 bytes then quoted_in words bytes else literal_in words bytes

-- the tokens of symbols and reserved words
abbrev pub fixed : ℕ → List (List ℕ × Token)
fixed at =
    (codes "_", token.Any at) ∷ (codes "(", token.OpenParen at) ∷ (codes ")", token.CloseParen) ∷ (codes "[", token.OpenBracket at)
    ∷ (codes "]", token.CloseBracket) ∷ (codes "{", token.OpenBrace at) ∷ (codes "}", token.CloseBrace) ∷ (codes ":", token.Colon)
    ∷ (codes "=", token.Equals) ∷ (codes ":=", token.Assign) ∷ (codes "::", token.Domain) ∷ (codes ":::", token.Domains)
    ∷ (codes "[]", token.Box) ∷ (codes "|", token.Bar) ∷ (codes "#", token.Hash) ∷ (codes ".", token.Dot) ∷ (codes "@", token.At at)
    ∷ (codes "$", token.Dollar)
    ∷ (codes "orelse", token.Infix operator.OrElse) ∷ (codes "andthen", token.Infix operator.AndThen) ∷ (codes "==", token.Infix operator.Same)
    ∷ (codes "\\=", token.Infix operator.Differs) ∷ (codes "<", token.Infix operator.Less) ∷ (codes "=<", token.Infix operator.AtMost)
    ∷ (codes ">", token.Infix operator.Greater) ∷ (codes ">=", token.Infix operator.AtLeast) ∷ (codes "+", token.Infix operator.Plus)
    ∷ (codes "-", token.Infix operator.Minus) ∷ (codes "*", token.Infix operator.Times) ∷ (codes "div", token.Infix operator.Div)
    ∷ (codes "mod", token.Infix operator.Mod)
    ∷ (codes "=:", token.Relates comparison.Equal) ∷ (codes "\\=:", token.Relates comparison.Unequal) ∷ (codes "<:", token.Relates comparison.Below)
    ∷ (codes "=<:", token.Relates comparison.NotAbove) ∷ (codes ">:", token.Relates comparison.Above) ∷ (codes ">=:", token.Relates comparison.NotBelow)
    ∷ (codes "case", token.Case at) ∷ (codes "catch", token.Catch) ∷ (codes "choice", token.Choice at) ∷ (codes "else", token.Else)
    ∷ (codes "elseif", token.ElseIf) ∷ (codes "end", token.End) ∷ (codes "fail", token.Fail at) ∷ (codes "fun", token.Fun at)
    ∷ (codes "if", token.If at) ∷ (codes "in", token.In) ∷ (codes "local", token.Local at) ∷ (codes "of", token.Of)
    ∷ (codes "proc", token.Proc at) ∷ (codes "raise", token.Raise at) ∷ (codes "skip", token.Skip) ∷ (codes "then", token.Then)
    ∷ (codes "thread", token.Thread at) ∷ (codes "try", token.Try) ∷ []

-- a word that is reserved for later is in no production
abbrev pub fixed_token : ℕ → List ℕ → Token
fixed_token at bytes =
    unwrap_or (option_map (λ (p : List ℕ × Token). p.1) (find (λ (p : List ℕ × Token). list_eq bytes p.0) (fixed at))) token.Other

-- Integers

abbrev pub minus : ℕ → ℤ
minus zero = pos zero
minus (suc n) = negsuc n

-- one past the limits stands in no production
abbrev pub positive_token : ℕ → ℕ → Token
positive_token at n = if nat_lt n integer_limit then token.Int (pos n) at else token.Other

abbrev pub negative_token : ℕ → ℕ → Token
negative_token at n = if nat_le n integer_limit then token.Int (minus n) at else token.Other

abbrev pub int_token : ℕ → List ℕ → Token
int_token at [] = token.Other
int_token at (b ∷ bs) = if b == 126 then negative_token at (digits_value 10 bs) else positive_token at (digits_value 10 (b ∷ bs))

-- the byte of `&` and a character
abbrev pub char_value : List ℕ → ℕ
char_value (a ∷ b ∷ []) = b
char_value (a ∷ b ∷ c ∷ bs) = escape_value c
char_value bytes = 0

-- Tokens

abbrev pub word_token : List (List ℕ) → ℕ → List ℕ → Token
word_token words at word = if is_reserved word then fixed_token at word else token.Literal (literal_in words word) at

abbrev pub token_by : List (List ℕ) → ℕ → List ℕ → Sort → Token
token_by words at bytes sort.Var = token.Var (number_of words bytes) at
token_by words at bytes sort.Word = word_token words at bytes
token_by words at bytes sort.Label = token.Label (label_in words (without_last bytes)) at
token_by words at bytes sort.Int = int_token at bytes
token_by words at bytes sort.Quoted = token.Literal (quoted_in words bytes) at
token_by words at bytes sort.String = token.String (number_of words (unquoted bytes)) at
token_by words at bytes sort.Char = token.Int (pos (char_value bytes)) at
token_by words at bytes sort.Symbol = fixed_token at bytes

abbrev pub token_in : List (List ℕ) → List ℕ → Lexeme → Token
token_in words text l = token_by words l.at (bytes_of text l) l.sort

-- the tokens of a text, with its words numbered
abbrev pub tokens_in : List ℕ → List Lexeme → List Token
tokens_in text ls = map (token_in (words_of text ls) text) ls

abbrev pub naive_word : ℕ
naive_word = given_word (codes "naive")

abbrev pub ff_word : ℕ
ff_word = given_word (codes "ff")

abbrev pub split_word : ℕ
split_word = given_word (codes "split")
