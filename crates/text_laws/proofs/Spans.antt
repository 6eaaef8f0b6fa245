-- Pieces of text that have their tokens wherever they stand.
use Rattle.std.proofs.Common.{◌≡◌, ◌+◌, ◌==◌, ◌||◌, ℕ, List, [], ◌∷◌, ◌++◌, length, drop, Bool, true, false, refl, arith}
use Rattle.std.proofs.lemmas.Bool.Decides.{nat_tests}
use Rattle.oz_language.specs.Tokens.{is_blank, is_lower, is_digit, gap_length, is_broken_number, IsLongest}
use Rattle.oz_language.specs.Wording.{token_by, word_in}
use Rattle.oz_language.specs.declared.token.Sort.{Sort}
use Rattle.oz_language.specs.declared.token.Token.{Token}
use Rattle.oz_lex.specs.Scanning.{begins}
use Rattle.text_laws.proofs.Words.{token_word}
use Rattle.text_laws.proofs.Steps.{Has, ends, has_token}

-- bytes at this place have these tokens, where the test lets what stands behind them
pub record Span (words : List (List ℕ)) (test : List ℕ → Bool) (at : ℕ) (bytes : List ℕ) (tokens : List Token) : Type 0 where
  pub go : (text rest : List ℕ) (more : List Token) → drop at text ≡ bytes ++ rest → test rest ≡ true
      → Has words text (at + length bytes) more → Has words text at (tokens ++ more)

abbrev pub anything : List ℕ → Bool
anything rest = true

-- the same of a word, an integer or a term, before what ends it
abbrev pub Spelt : List (List ℕ) → ℕ → List ℕ → List Token → Type 0
Spelt words at bytes tokens = Span words ends at bytes tokens

-- what the text of a term begins with: a small letter, a digit, `~`, a quote or `(`
abbrev pub is_start : ℕ → Bool
is_start b = is_lower b || is_digit b || (b == 126) || (b == 39) || (b == 40)

start_is : (b : ℕ) → is_start b ≡ true → (is_blank b ≡ false) × ((b == 37) ≡ false) × ((b == 47) ≡ false)
start_is b h = grind (arith, nat_tests)

pub no_gap : (b : ℕ) (bs : List ℕ) → is_start b ≡ true → gap_length (b ∷ bs) ≡ 0
no_gap b bs h = let s = start_is b h in rw s.0 (rw s.1 (rw s.2 refl))

-- one token
pub spelt_token : (words : List (List ℕ)) (at : ℕ) (bytes : List ℕ) (s : Sort) (t : Token) → begins is_start bytes ≡ true
    → ((rest : List ℕ) → ends rest ≡ true → IsLongest (bytes ++ rest) (length bytes) s)
    → ((rest : List ℕ) → ends rest ≡ true → is_broken_number s rest ≡ false)
    → token_by words at bytes s ≡ t → word_in s bytes ≡ token_word words t → Spelt words at bytes (t ∷ [])
spelt_token words at [] s t b i f e w = absurd (cc)
spelt_token words at (b ∷ bs) s t h i f e w = record {
  go = λ text rest more d n k. has_token words text at b bs rest s t more d (no_gap b (bs ++ rest) h) (i rest n) (f rest n) e w k;
}

pub begins_more : (p : ℕ → Bool) (xs ys : List ℕ) → begins p xs ≡ true → begins p (xs ++ ys) ≡ true
begins_more p [] ys h = absurd (cc)
begins_more p (x ∷ xs) ys h = h
