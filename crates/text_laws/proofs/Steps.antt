-- One token of a text, and those that follow it.
use Rattle.std.proofs.Common.{Option, ◌≡◌, ◌<◌, ◌≤◌, ◌+◌, ◌==◌, ◌&&◌, ◌||◌, ℕ, suc, List, [], ◌∷◌, ◌++◌, length, take, drop, Bool, true, false, refl, ap, sym, ◌∙◌, subst, arith, length-drop}
use Rattle.std.specs.Prelude.{map}
use Rattle.std.specs.List.{list_all, prefix_len}
use Rattle.std.proofs.lemmas.Bool.Decides.{nat_tests}
use Rattle.std.proofs.lemmas.List.{drop-drop}
use Rattle.std.proofs.Math.Seq.{drop-append_seam, take-append_seam}
use Rattle.oz_language.specs.Tokens.{is_digit, goes_on_word, gap_length, is_broken_number, begins_fraction, IsLongest, Lexes, Whole, at_end, gap, token}
use Rattle.oz_language.specs.Wording.{bytes_of, token_by, token_in, word_in}
use Rattle.oz_language.specs.declared.token.Sort.{Sort}
use Rattle.oz_language.specs.declared.token.Lexeme.{Lexeme}
use Rattle.oz_language.specs.declared.token.Token.{Token}
use Rattle.text_laws.proofs.Words.{token_word}
use Rattle.oz_lex.specs.Scanning.{begins, begins_paren}

-- the word of a token of the text
abbrev pub noted_in : List ℕ → Lexeme → Option (List ℕ)
noted_in text l = word_in l.sort (bytes_of text l)

-- from the place on, the text has these tokens
pub record Has (words : List (List ℕ)) (text : List ℕ) (at : ℕ) (tokens : List Token) : Type 0 where
  pub lexemes : List Lexeme
  pub lexed : Lexes text at lexemes Whole
  pub spelled : map (token_in words text) lexemes ≡ tokens
  pub noted : map (noted_in text) lexemes ≡ map (token_word words) tokens

-- what stands behind a word or an integer of a printed term: a blank, `)`, `|`, `#`, `:` or nothing
abbrev pub is_end : ℕ → Bool
is_end b = (b == 32) || (b == 41) || (b == 124) || (b == 35) || (b == 58)

abbrev pub ends : List ℕ → Bool
ends [] = true
ends (b ∷ bs) = is_end b

-- ---- places

-- the rest of the text behind some bytes
pub past : (text bytes rest : List ℕ) (at : ℕ) → drop at text ≡ bytes ++ rest → drop (at + length bytes) text ≡ rest
past text bytes rest at e = sym (drop-drop (length bytes) at text) ∙ ap (drop (length bytes)) e ∙ drop-append_seam bytes rest

dropped_short : (text : List ℕ) (at : ℕ) (b : ℕ) (bs : List ℕ) → drop at text ≡ b ∷ bs → at < length text
dropped_short text at b bs e = let l = length-drop at text in let m : length (drop at text) ≡ suc (length bs) = ap length e in omega (arith, l, m)

dropped_all : (text : List ℕ) (at : ℕ) → drop at text ≡ [] → length text ≤ at
dropped_all text at e = let l = length-drop at text in let m : length (drop at text) ≡ 0 = ap length e in omega (arith, l, m)

-- ---- steps

module _ (words : List (List ℕ)) (text : List ℕ) where
  pub has_none : (at : ℕ) → drop at text ≡ [] → Has words text at []
  has_none at e = record { lexemes = []; lexed = at_end (dropped_all text at e); spelled = refl; noted = refl }

  pub has_moved : (m n : ℕ) (tokens : List Token) → m ≡ n → Has words text m tokens → Has words text n tokens
  has_moved m n tokens e = subst (λ k. Has words text k tokens) e

  -- a blank
  pub has_blank : (at : ℕ) (rest : List ℕ) (tokens : List Token) → drop at text ≡ 32 ∷ rest → Has words text (at + 1) tokens → Has words text at tokens
  has_blank at rest tokens e h =
      let g : gap_length (drop at text) ≡ 1 = ap gap_length e in
      record {
        lexemes = h.lexemes;
        lexed = gap (dropped_short text at 32 rest e) (omega (arith, g)) (subst (λ n. Lexes text (at + n) h.lexemes Whole) (sym g) h.lexed);
        spelled = h.spelled;
        noted = h.noted;
      }

  -- a token
  pub has_token : (at b : ℕ) (bs rest : List ℕ) (s : Sort) (t : Token) (more : List Token)
      → drop at text ≡ (b ∷ bs) ++ rest → gap_length ((b ∷ bs) ++ rest) ≡ 0 → IsLongest ((b ∷ bs) ++ rest) (length (b ∷ bs)) s
      → is_broken_number s rest ≡ false → token_by words at (b ∷ bs) s ≡ t → word_in s (b ∷ bs) ≡ token_word words t
      → Has words text (at + length (b ∷ bs)) more → Has words text at (t ∷ more)
  has_token at b bs rest s t more e g i f k w h =
      let bytes : take (length (b ∷ bs)) (drop at text) ≡ b ∷ bs = ap (take (length (b ∷ bs))) e ∙ take-append_seam (b ∷ bs) rest in
      record {
        lexemes = record { sort = s; at = at; len = length (b ∷ bs) } ∷ h.lexemes;
        lexed = token (dropped_short text at b (bs ++ rest) e) (ap gap_length e ∙ g) (subst (λ xs. IsLongest xs (length (b ∷ bs)) s) (sym e) i)
            (ap (is_broken_number s) (past text (b ∷ bs) rest at e) ∙ f) h.lexed;
        spelled = λ j. (ap (λ xs. token_by words at xs s) bytes ∙ k) j ∷ h.spelled j;
        noted = λ j. (ap (word_in s) bytes ∙ w) j ∷ h.noted j;
      }

-- ---- fronts of one class of bytes

pub front_length : (p : ℕ → Bool) (xs ys : List ℕ) → list_all p xs ≡ true → begins p ys ≡ false → prefix_len p (xs ++ ys) ≡ length xs
front_length p [] [] a n = refl
front_length p [] (y ∷ ys) a n = rw n refl
front_length p (x ∷ xs) ys a n = by (p x) refl a (λ h. front_length p xs ys h n)
  where
    by : (q : Bool) → p x ≡ q → (q && list_all p xs) ≡ true → (list_all p xs ≡ true → prefix_len p (xs ++ ys) ≡ length xs)
        → prefix_len p ((x ∷ xs) ++ ys) ≡ length (x ∷ xs)
    by true e h f = rw e (ap (λ k. 1 + k) (f h) ∙ (omega arith))
    by false e h f = absurd (cc)

-- what ends a word or an integer goes on neither
end_is : (b : ℕ) → is_end b ≡ true → (goes_on_word b ≡ false) × (is_digit b ≡ false) × ((b == 40) ≡ false) × ((b == 46) ≡ false)
end_is b h = grind (arith, nat_tests)

pub ends_word : (rest : List ℕ) → ends rest ≡ true → begins goes_on_word rest ≡ false
ends_word [] h = refl
ends_word (b ∷ bs) h = (end_is b h).0

pub ends_digits : (rest : List ℕ) → ends rest ≡ true → begins is_digit rest ≡ false
ends_digits [] h = refl
ends_digits (b ∷ bs) h = (end_is b h).1

pub ends_bare : (rest : List ℕ) → ends rest ≡ true → begins_paren rest ≡ false
ends_bare [] h = refl
ends_bare (b ∷ bs) h = (end_is b h).2

pub ends_whole : (rest : List ℕ) → ends rest ≡ true → begins_fraction rest ≡ false
ends_whole [] h = refl
ends_whole (b ∷ []) h = refl
ends_whole (b ∷ c ∷ bs) h = let e = (end_is b h).3 in rw e refl
