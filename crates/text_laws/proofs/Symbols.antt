-- The symbols of printed terms.
use Rattle.std.proofs.Common.{None, ◌≡◌, ◌+◌, ℕ, List, [], ◌∷◌, length, drop, Bool, true, false, not, refl, ap, arith}
use Rattle.std.specs.Prelude.{nat_le}
use Rattle.std.specs.List.{list_all, list_any}
use Rattle.std.proofs.lemmas.Bool.Decides.{nat_tests}
use Rattle.oz_base.specs.Lists.{list_eq}
use Rattle.oz_base.specs.ListLaws.{list_eq-decides}
use Rattle.oz_language.specs.Tokens.{symbols, is_symbol, gap_length, IsLongest}
use Rattle.oz_language.specs.Wording.{token_by}
use Rattle.oz_language.specs.declared.token.Sort.TheVariants as sort
use Rattle.oz_language.specs.declared.token.Token.{Token}
use Rattle.oz_language.specs.declared.token.Token.TheVariants as token
use Rattle.oz_lex.specs.Scanning.{begins, is_mark}
use Rattle.oz_lex.proofs.Sorts.{second_no}
use Rattle.oz_lex.proofs.Longest.{fits, symbol_longest, past_one}
use Rattle.text_laws.proofs.Words.{token_word}
use Rattle.text_laws.proofs.Steps.{Has, has_token}
use Rattle.text_laws.proofs.Spans.{is_start}
use Rattle.text_laws.proofs.Basics.{both, both_yes}

-- ---- symbols with which no longer one begins

-- `(`, `)`, `|` and `#`
data Single : ℕ → Type 0 where
  open_paren : Single 40
  close_paren : Single 41
  bar : Single 124
  hash : Single 35

single_two : (b c : ℕ) → Single b → is_symbol (b ∷ c ∷ []) ≡ false
single_two b c open_paren = refl
single_two b c close_paren = refl
single_two b c bar = refl
single_two b c hash = refl

single_three : (b c d : ℕ) → Single b → is_symbol (b ∷ c ∷ d ∷ []) ≡ false
single_three b c d open_paren = refl
single_three b c d close_paren = refl
single_three b c d bar = refl
single_three b c d hash = refl

no_two : (b : ℕ) (rest : List ℕ) → Single b → fits (b ∷ rest) 2 ≡ false
no_two b [] s = refl
no_two b (c ∷ cs) s = second_no (nat_le 2 (length (b ∷ c ∷ cs))) _ (single_two b c s)

no_three : (b : ℕ) (rest : List ℕ) → Single b → fits (b ∷ rest) 3 ≡ false
no_three b [] s = refl
no_three b (c ∷ []) s = refl
no_three b (c ∷ d ∷ ds) s = second_no (nat_le 3 (length (b ∷ c ∷ d ∷ ds))) _ (single_three b c d s)

single_mark : (b : ℕ) → Single b → is_mark b ≡ true
single_mark b open_paren = refl
single_mark b close_paren = refl
single_mark b bar = refl
single_mark b hash = refl

one_within : (b : ℕ) (rest : List ℕ) → is_symbol (b ∷ []) ≡ true → fits (b ∷ rest) 1 ≡ true
one_within b rest h = both_yes (nat_le 1 (length (b ∷ rest))) (is_symbol (b ∷ [])) (grind (arith, nat_tests)) h

single_one : (b : ℕ) → Single b → is_symbol (b ∷ []) ≡ true
single_one b open_paren = refl
single_one b close_paren = refl
single_one b bar = refl
single_one b hash = refl

single_gap : (b : ℕ) (rest : List ℕ) → Single b → gap_length (b ∷ rest) ≡ 0
single_gap b rest open_paren = refl
single_gap b rest close_paren = refl
single_gap b rest bar = refl
single_gap b rest hash = refl

single_longest : (b : ℕ) (rest : List ℕ) → Single b → IsLongest (b ∷ rest) 1 sort.Symbol
single_longest b rest s =
    symbol_longest (b ∷ rest) (single_mark b s) 1 (omega arith) (one_within b rest (single_one b s)) (past_one (fits (b ∷ rest)) (no_three b rest s) (no_two b rest s))

-- what they are by themselves
abbrev single_token : (b : ℕ) → Single b → ℕ → Token
single_token b open_paren at = token.OpenParen at
single_token b close_paren at = token.CloseParen
single_token b bar at = token.Bar
single_token b hash at = token.Hash

single_is : (words : List (List ℕ)) (at b : ℕ) (s : Single b) → token_by words at (b ∷ []) sort.Symbol ≡ single_token b s at
single_is words at b open_paren = refl
single_is words at b close_paren = refl
single_is words at b bar = refl
single_is words at b hash = refl

single_wordless : (words : List (List ℕ)) (at b : ℕ) (s : Single b) → None ≡ token_word words (single_token b s at)
single_wordless words at b open_paren = refl
single_wordless words at b close_paren = refl
single_wordless words at b bar = refl
single_wordless words at b hash = refl

module _ (words : List (List ℕ)) (text : List ℕ) (at : ℕ) (rest : List ℕ) (more : List Token) where
  single_has : (b : ℕ) (s : Single b) → drop at text ≡ b ∷ rest → Has words text (at + 1) more → Has words text at (single_token b s at ∷ more)
  single_has b s e = has_token words text at b [] rest sort.Symbol (single_token b s at) more e (single_gap b rest s) (single_longest b rest s) refl (single_is words at b s) (single_wordless words at b s)

  pub has_open : drop at text ≡ 40 ∷ rest → Has words text (at + 1) more → Has words text at (token.OpenParen at ∷ more)
  has_open = single_has 40 open_paren

  pub has_close : drop at text ≡ 41 ∷ rest → Has words text (at + 1) more → Has words text at (token.CloseParen ∷ more)
  has_close = single_has 41 close_paren

  pub has_bar : drop at text ≡ 124 ∷ rest → Has words text (at + 1) more → Has words text at (token.Bar ∷ more)
  has_bar = single_has 124 bar

  pub has_hash : drop at text ≡ 35 ∷ rest → Has words text (at + 1) more → Has words text at (token.Hash ∷ more)
  has_hash = single_has 35 hash

-- ---- `:` before a term

-- the second byte is one with which a term begins
abbrev starts_behind : List ℕ → Bool
starts_behind bytes = begins is_start (drop 1 bytes)

differs : (p : List ℕ → Bool) (xs s : List ℕ) → p xs ≡ true → not (p s) ≡ true → list_eq xs s ≡ false
differs p xs s h n = by (list_eq xs s) refl
  where
    by : (q : Bool) → list_eq xs s ≡ q → q ≡ false
    by false e = refl
    by true e = let w : p xs ≡ p s = ap p ((list_eq-decides xs s).0 e) in absurd (cc)

not_among : (p : List ℕ → Bool) (xs : List ℕ) → p xs ≡ true → (ss : List (List ℕ)) → list_all (λ s. not (p s)) ss ≡ true → list_any (list_eq xs) ss ≡ false
not_among p xs h [] a = refl
not_among p xs h (s ∷ ss) a =
    let q = both (not (p s)) (list_all (λ t. not (p t)) ss) a in
    rw (differs p xs s h q.0) (not_among p xs h ss q.1)

colon_two : (rest : List ℕ) → begins is_start rest ≡ true → fits (58 ∷ rest) 2 ≡ false
colon_two [] h = refl
colon_two (c ∷ cs) h = second_no (nat_le 2 (length (58 ∷ c ∷ cs))) _ (not_among starts_behind (58 ∷ c ∷ []) h symbols refl)

colon_three : (rest : List ℕ) → begins is_start rest ≡ true → fits (58 ∷ rest) 3 ≡ false
colon_three [] h = refl
colon_three (c ∷ []) h = refl
colon_three (c ∷ d ∷ ds) h = second_no (nat_le 3 (length (58 ∷ c ∷ d ∷ ds))) _ (not_among starts_behind (58 ∷ c ∷ d ∷ []) h symbols refl)

pub has_colon : (words : List (List ℕ)) (text : List ℕ) (at : ℕ) (rest : List ℕ) (more : List Token) → begins is_start rest ≡ true
    → drop at text ≡ 58 ∷ rest → Has words text (at + 1) more → Has words text at (token.Colon ∷ more)
has_colon words text at rest more h e =
    has_token words text at 58 [] rest sort.Symbol token.Colon more e refl
    (symbol_longest (58 ∷ rest) refl 1 (omega arith) (one_within 58 rest refl) (past_one (fits (58 ∷ rest)) (colon_three rest h) (colon_two rest h))) refl refl refl
