-- The token at the front of a text.
use Rattle.std.specs.Prelude.{ℕ, suc, ◌≡◌, ◌≢◌, ◌<◌, ◌≤◌, ◌+◌, ◌==◌, ◌&&◌, ◌||◌, not, Bool, true, false, if◌then◌else◌, List, [], ◌∷◌, length, take, drop, Option, Some, None, option_map, unwrap_or, Result, Ok, Err}
use Rattle.oz_language.specs.Tokens.{is_upper, is_lower, is_digit, is_printable, is_escape, is_closed, is_quoted, wrong_inside, bad_offset, IsLongest, NoToken}
use Rattle.oz_language.specs.declared.token.Sort.{Sort}

-- the first byte passes the test
abbrev pub begins : (ℕ → Bool) → List ℕ → Bool
begins test [] = false
begins test (b ∷ bs) = test b

-- the text begins with this byte
abbrev pub begins_with : ℕ → List ℕ → Bool
begins_with byte text = begins (λ b. b == byte) text

abbrev pub begins_paren : List ℕ → Bool
begins_paren text = begins_with 40 text

abbrev pub is_tilde : ℕ → Bool
is_tilde b = b == 126

-- a byte that begins an atom in quotes, a string or a character
abbrev pub is_opening : ℕ → Bool
is_opening b = (b == 39) || (b == 34) || (b == 38)

-- a byte that begins neither a word nor an integer, nor one of those
abbrev pub is_mark : ℕ → Bool
is_mark b = not (is_upper b || is_lower b || is_digit b || is_tilde b || is_opening b)

-- a `*/` comes first
abbrev pub begins_close : List ℕ → Bool
begins_close [] = false
begins_close (a ∷ []) = false
begins_close (a ∷ b ∷ bs) = (a == 42) && (b == 47)

-- what is at the front: the longest token, with its length, or none
abbrev pub IsTokenAt : List ℕ → Option (Sort × ℕ) → Type 0
IsTokenAt text None = NoToken text
IsTokenAt text (Some t) = IsLongest text t.1 t.0

-- no token is at the front, and the bad byte is so far away
pub record IsBadFront (text : List ℕ) (n : ℕ) : Type 0 where
  pub none : NoToken text
  pub place : n ≡ bad_offset text
  pub within : n ≤ length text

-- what is at the front: the longest token, with its length, or how far the bad byte is away
abbrev pub IsFront : List ℕ → Result (Sort × ℕ) ℕ → Type 0
IsFront text (Ok t) = IsLongest text t.1 t.0
IsFront text (Err n) = IsBadFront text n

-- Characters, one after the other

-- behind a `\`
abbrev pub escape_length : List ℕ → ℕ
escape_length [] = 0
escape_length (b ∷ bs) = if is_escape b then 2 else 0

-- how long the byte or the escape at the front is; 0 where there is none
abbrev pub char_length : List ℕ → ℕ
char_length [] = 0
char_length (b ∷ bs) = if b == 92 then escape_length bs else (if is_printable b then 1 else 0)

-- the same in quotes; 0 also at the quote that closes them
abbrev pub step_length : ℕ → List ℕ → ℕ
step_length quote text = if begins_with quote text then 0 else char_length text

-- the text ends here, or right behind a `\`
abbrev pub is_cut_off : List ℕ → Bool
is_cut_off [] = true
is_cut_off (b ∷ []) = b == 92
is_cut_off (b ∷ c ∷ bs) = false

-- Quotes

-- the first n bytes go on a text in quotes
pub record GoesOn (quote : ℕ) (text : List ℕ) (n : ℕ) : Type 0 where
  pub within : n ≤ length text
  pub open_yet : (m : ℕ) → m < n → is_closed quote (take m text) ≡ false
  pub closing : (m : ℕ) → is_closed quote (take (n + m) text) ≡ is_closed quote (take m (drop n text))
  pub wrong : wrong_inside quote text ≡ option_map (λ k. n + k) (wrong_inside quote (drop n text))

-- the first n bytes are a text in quotes
pub record IsQuotedFront (quote : ℕ) (text : List ℕ) (n : ℕ) : Type 0 where
  pub within : n ≤ length text
  pub quoted : is_quoted quote (take n text) ≡ true
  pub only : (m : ℕ) → m ≤ length text → m ≢ n → is_quoted quote (take m text) ≡ false

-- no text in quotes is at the front, and the bad byte is so far away
pub record NoQuotedFront (quote : ℕ) (text : List ℕ) (n : ℕ) : Type 0 where
  pub none : (m : ℕ) → is_quoted quote (take m text) ≡ false
  pub place : n ≡ unwrap_or (option_map suc (wrong_inside quote (drop 1 text))) 0
  pub within : n ≤ length text

-- the text in quotes at the front: its length, or how far the bad byte is away
abbrev pub IsQuotedAt : ℕ → List ℕ → Result ℕ ℕ → Type 0
IsQuotedAt quote text (Ok n) = IsQuotedFront quote text n
IsQuotedAt quote text (Err n) = NoQuotedFront quote text n
