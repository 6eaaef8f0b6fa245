-- The tokens of a text (CTM, appendix C): each the longest that fits, with blanks and comments between them.
use Rattle.std.specs.Prelude.{ℕ, zero, suc, ◌≡◌, ◌<◌, ◌≤◌, ◌+◌, ◌&&◌, ◌||◌, ◌==◌, nat_le, Bool, true, false, not, if◌then◌else◌, Option, Some, None, option_map, unwrap_or, List, [], ◌∷◌, length, take, drop, codes}
use Rattle.std.specs.List.{list_all, list_any, prefix_len}
use Rattle.std.specs.Ffi.{without_last}
use Rattle.oz_base.specs.Lists.{list_eq, is_empty, last_of}
use Rattle.oz_language.specs.declared.token.Sort.{Sort}
use Rattle.oz_language.specs.declared.token.Sort.TheVariants as sort
use Rattle.oz_language.specs.declared.token.Lexeme.{Lexeme}

-- Classes of bytes

-- blank, tab, line feed and carriage return
abbrev pub is_blank : ℕ → Bool
is_blank b = (b == 32) || (b == 9) || (b == 10) || (b == 13)

abbrev pub is_upper : ℕ → Bool
is_upper b = nat_le 65 b && nat_le b 90

abbrev pub is_lower : ℕ → Bool
is_lower b = nat_le 97 b && nat_le b 122

abbrev pub is_digit : ℕ → Bool
is_digit b = nat_le 48 b && nat_le b 57

-- letters, digits and the underscore go on a word
abbrev pub goes_on_word : ℕ → Bool
goes_on_word b = is_upper b || is_lower b || is_digit b || (b == 95)

-- Words

-- the reserved words that are no literals
abbrev pub reserved : List (List ℕ)
reserved =
    codes "andthen" ∷ codes "case" ∷ codes "catch" ∷ codes "choice" ∷ codes "div" ∷ codes "else" ∷ codes "elseif" ∷ codes "end"
    ∷ codes "fail" ∷ codes "fun" ∷ codes "if" ∷ codes "in" ∷ codes "local" ∷ codes "mod" ∷ codes "of" ∷ codes "orelse"
    ∷ codes "proc" ∷ codes "raise" ∷ codes "skip" ∷ codes "then" ∷ codes "thread" ∷ codes "try"
    ∷ codes "at" ∷ codes "attr" ∷ codes "class" ∷ codes "cond" ∷ codes "declare" ∷ codes "define" ∷ codes "dis" ∷ codes "elsecase"
    ∷ codes "elseof" ∷ codes "export" ∷ codes "feat" ∷ codes "finally" ∷ codes "from" ∷ codes "functor" ∷ codes "import" ∷ codes "lock"
    ∷ codes "meth" ∷ codes "not" ∷ codes "or" ∷ codes "prepare" ∷ codes "prop" ∷ codes "require" ∷ codes "self" ∷ []

abbrev pub is_reserved : List ℕ → Bool
is_reserved word = list_any (list_eq word) reserved

-- a word that begins with a capital letter
abbrev pub is_var : List ℕ → Bool
is_var [] = false
is_var (b ∷ bs) = is_upper b && list_all goes_on_word bs

-- a word that begins with a small letter
abbrev pub is_small_word : List ℕ → Bool
is_small_word [] = false
is_small_word (b ∷ bs) = is_lower b && list_all goes_on_word bs

-- Quotes: atoms stand in `'` (39), strings in `"` (34)

abbrev pub is_printable : ℕ → Bool
is_printable b = nat_le 32 b && nat_le b 126

-- what may stand behind a `\` (92): `n`, `t`, `\`, `'` and `"`
abbrev pub is_escape : ℕ → Bool
is_escape b = (b == 110) || (b == 116) || (b == 92) || (b == 39) || (b == 34)

abbrev mutual
  -- what stands in quotes, and the quote that closes it
  pub is_closed : ℕ → List ℕ → Bool
  is_closed quote [] = false
  is_closed quote (b ∷ bs) =
      if b == quote then is_empty bs else (if b == 92 then is_closed_behind quote bs else (is_printable b && is_closed quote bs))

  pub is_closed_behind : ℕ → List ℕ → Bool
  is_closed_behind quote [] = false
  is_closed_behind quote (b ∷ bs) = is_escape b && is_closed quote bs

abbrev pub is_quoted : ℕ → List ℕ → Bool
is_quoted quote [] = false
is_quoted quote (b ∷ bs) = (b == quote) && is_closed quote bs

-- `&` (38) and a byte or an escape
abbrev pub is_char : List ℕ → Bool
is_char (a ∷ b ∷ []) = (a == 38) && (is_printable b && not (b == 92))
is_char (a ∷ b ∷ c ∷ []) = (a == 38) && ((b == 92) && is_escape c)
is_char bytes = false

-- an atom, `true`, `false` or `unit`
abbrev pub is_literal : List ℕ → Bool
is_literal bytes = is_quoted 39 bytes || (is_small_word bytes && not (is_reserved bytes))

-- one with `(` directly behind it
abbrev pub is_label : List ℕ → Bool
is_label bytes = (last_of bytes == 40) && is_literal (without_last bytes)

-- Integers

abbrev pub is_digits : List ℕ → Bool
is_digits bytes = not (is_empty bytes) && list_all is_digit bytes

-- digits, with a `~` (126) directly before them where the integer is negative
abbrev pub is_int : List ℕ → Bool
is_int [] = false
is_int (b ∷ bs) = if b == 126 then is_digits bs else is_digits (b ∷ bs)

-- Symbols

abbrev pub symbols : List (List ℕ)
symbols =
    codes "(" ∷ codes ")" ∷ codes "[" ∷ codes "]" ∷ codes "[]" ∷ codes "{" ∷ codes "}" ∷ codes "|" ∷ codes "#" ∷ codes ":" ∷ codes "::"
    ∷ codes ":::" ∷ codes "=" ∷ codes "==" ∷ codes "\\=" ∷ codes "\\=:" ∷ codes "=:" ∷ codes "<" ∷ codes "=<" ∷ codes ">" ∷ codes ">="
    ∷ codes "<:" ∷ codes "=<:" ∷ codes ">:" ∷ codes ">=:" ∷ codes ":=" ∷ codes "+" ∷ codes "-" ∷ codes "*" ∷ codes "." ∷ codes "@"
    ∷ codes "_" ∷ codes "$" ∷ []

abbrev pub is_symbol : List ℕ → Bool
is_symbol bytes = list_any (list_eq bytes) symbols

-- Tokens

-- what all of these bytes are, as one token
abbrev pub sort_of : List ℕ → Option Sort
sort_of bytes =
    if is_var bytes then Some sort.Var
    else (if is_small_word bytes then Some sort.Word
    else (if is_label bytes then Some sort.Label
    else (if is_int bytes then Some sort.Int
    else (if is_quoted 39 bytes then Some sort.Quoted
    else (if is_quoted 34 bytes then Some sort.String
    else (if is_char bytes then Some sort.Char
    else (if is_symbol bytes then Some sort.Symbol else None)))))))

-- the longest token at the front of a text has this length
pub record IsLongest (text : List ℕ) (n : ℕ) (sort : Sort) : Type 0 where
  pub within : n ≤ length text
  pub token : sort_of (take n text) ≡ Some sort
  pub longest : (m : ℕ) → n < m → m ≤ length text → sort_of (take m text) ≡ None

-- no token is at the front
abbrev pub NoToken : List ℕ → Type 0
NoToken text = (m : ℕ) → m ≤ length text → sort_of (take m text) ≡ None

-- Blanks and comments

-- how many bytes there are up to the first line feed
abbrev pub line_length : List ℕ → ℕ
line_length bytes = prefix_len (λ b. not (b == 10)) bytes

-- how many bytes there are up to the first `*/` and with it; 0 where there is none
abbrev pub after_one : ℕ → ℕ
after_one zero = zero
after_one (suc n) = suc (suc n)

abbrev pub close_length : List ℕ → ℕ
close_length [] = 0
close_length (a ∷ []) = 0
close_length (a ∷ b ∷ bs) = if (a == 42) && (b == 47) then 2 else after_one (close_length (b ∷ bs))

-- how long a comment in `/* */` is, by what follows its first `/`; 0 where it does not end
abbrev pub block_length : List ℕ → ℕ
block_length [] = 0
block_length (b ∷ bs) = if b == 42 then after_one (after_one (close_length bs)) else 0

-- how long the blank or the comment at the front is; 0 where there is none
abbrev pub gap_length : List ℕ → ℕ
gap_length [] = 0
gap_length (b ∷ bs) = if is_blank b then 1 else (if b == 37 then suc (line_length bs) else (if b == 47 then block_length bs else 0))

-- Bad bytes

abbrev mutual
  -- in quotes, how far the first byte is away that may not stand there; none where the text ends before
  pub wrong_inside : ℕ → List ℕ → Option ℕ
  wrong_inside quote [] = None
  wrong_inside quote (b ∷ bs) =
      if b == quote then None
      else (if b == 92 then wrong_behind quote bs else (if is_printable b then option_map suc (wrong_inside quote bs) else Some 0))

  -- behind a `\`, which is itself the one that may not stand there
  pub wrong_behind : ℕ → List ℕ → Option ℕ
  wrong_behind quote [] = None
  wrong_behind quote (b ∷ bs) = if is_escape b then option_map (λ n. suc (suc n)) (wrong_inside quote bs) else Some 0

-- where no token begins, how far the bad byte is away: in quotes it is the first that may not stand there, and else the first byte
abbrev pub bad_offset : List ℕ → ℕ
bad_offset [] = 0
bad_offset (b ∷ bs) = if (b == 39) || (b == 34) then unwrap_or (option_map suc (wrong_inside b bs)) 0 else 0

-- Whole texts

-- how the tokens of a text end: with the text, or at a byte at which none begins
pub data Ending : Type 0 where
  Whole : Ending
  Bad : ℕ → Ending

abbrev pub is_int_sort : Sort → Bool
is_int_sort sort.Int = true
is_int_sort other = false

-- a point and a digit
abbrev pub begins_fraction : List ℕ → Bool
begins_fraction (b ∷ c ∷ bs) = (b == 46) && is_digit c
begins_fraction (b ∷ []) = false
begins_fraction [] = false

-- an integer with a fraction behind it, as no number has
abbrev pub is_broken_number : Sort → List ℕ → Bool
is_broken_number sort rest = is_int_sort sort && begins_fraction rest

-- from a place on, the text has these tokens and ends so
pub data Lexes (text : List ℕ) : ℕ → List Lexeme → Ending → Type 0 where
  at_end : {at : ℕ} → length text ≤ at → Lexes text at [] Whole
  at_bad : {at : ℕ} → at < length text → gap_length (drop at text) ≡ 0 → NoToken (drop at text)
      → Lexes text at [] (Bad (at + bad_offset (drop at text)))
  at_fraction : {at n : ℕ} {sort : Sort} → at < length text → gap_length (drop at text) ≡ 0 → IsLongest (drop at text) n sort
      → is_broken_number sort (drop (at + n) text) ≡ true → Lexes text at [] (Bad (at + n))
  gap : {at : ℕ} {ls : List Lexeme} {e : Ending} → at < length text → 0 < gap_length (drop at text)
      → Lexes text (at + gap_length (drop at text)) ls e → Lexes text at ls e
  token : {at n : ℕ} {sort : Sort} {ls : List Lexeme} {e : Ending} → at < length text → gap_length (drop at text) ≡ 0 → IsLongest (drop at text) n sort
      → is_broken_number sort (drop (at + n) text) ≡ false → Lexes text (at + n) ls e
      → Lexes text at (record { sort = sort; at = at; len = n } ∷ ls) e
