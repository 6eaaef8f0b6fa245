-- Pieces of text one behind another.
use Rattle.std.proofs.Common.{◌≡◌, ◌+◌, ℕ, List, [], ◌∷◌, ◌++◌, length, drop, Bool, true, refl, ap, sym, ◌∙◌, subst, arith, length-append, append_assoc, append-nil}
use Rattle.oz_language.specs.SimpleTexts.{literal_text, enclosed}
use Rattle.oz_language.specs.declared.token.Literal.{Literal}
use Rattle.oz_language.specs.declared.token.Token.{Token}
use Rattle.oz_language.specs.declared.token.Token.TheVariants as token
use Rattle.oz_lex.specs.Scanning.{begins}
use Rattle.text_laws.specs.Terms.{is_literal}
use Rattle.text_laws.specs.Laws.{AreWords}
use Rattle.text_laws.proofs.Steps.{Has, ends, past, has_none, has_blank, has_moved}
use Rattle.text_laws.proofs.Spans.{Span, Spelt, anything, is_start}
use Rattle.text_laws.proofs.Symbols.{has_open, has_close, has_bar, has_hash, has_colon}
use Rattle.text_laws.proofs.Constants.{has_label}

-- ---- one behind another

module _ (words : List (List ℕ)) where
  pub nothing_span : (test : List ℕ → Bool) (at : ℕ) → Span words test at [] []
  nothing_span test at = record { go = λ text rest more d n k. has_moved words text (at + 0) at more (omega arith) k }

  pub then_span : (p q : List ℕ → Bool) (at n : ℕ) (xs ys : List ℕ) (ts us : List Token) → Span words p at xs ts → n ≡ at + length xs → Span words q n ys us
      → ((rest : List ℕ) → q rest ≡ true → p (ys ++ rest) ≡ true) → Span words q at (xs ++ ys) (ts ++ us)
  then_span p q at n xs ys ts us a e b f = record { go = go }
    where
      go : (text rest : List ℕ) (more : List Token) → drop at text ≡ (xs ++ ys) ++ rest → q rest ≡ true
          → Has words text (at + length (xs ++ ys)) more → Has words text at ((ts ++ us) ++ more)
      go text rest more d h k =
          let d0 : drop at text ≡ xs ++ (ys ++ rest) = d ∙ append_assoc xs ys rest in
          let d1 : drop n text ≡ ys ++ rest = ap (λ m. drop m text) e ∙ past text xs (ys ++ rest) at d0 in
          let l : at + length (xs ++ ys) ≡ n + length ys = omega (arith, e, length-append xs ys) in
          let second : Has words text n (us ++ more) = b.go text rest more d1 h (has_moved words text (at + length (xs ++ ys)) (n + length ys) more l k) in
          subst (Has words text at) (sym (append_assoc ts us more))
          (a.go text (ys ++ rest) (us ++ more) d0 (f rest h) (has_moved words text n (at + length xs) (us ++ more) e second))

  pub blank_span : (at : ℕ) → Span words anything at (32 ∷ []) []
  blank_span at = record { go = λ text rest more d n k. has_blank words text at rest more d k }

  pub open_span : (at : ℕ) → Span words anything at (40 ∷ []) (token.OpenParen at ∷ [])
  open_span at = record { go = λ text rest more d n k. has_open words text at rest more d k }

  pub close_span : (at : ℕ) → Span words anything at (41 ∷ []) (token.CloseParen ∷ [])
  close_span at = record { go = λ text rest more d n k. has_close words text at rest more d k }

  pub bar_span : (at : ℕ) → Span words anything at (124 ∷ []) (token.Bar ∷ [])
  bar_span at = record { go = λ text rest more d n k. has_bar words text at rest more d k }

  pub hash_span : (at : ℕ) → Span words anything at (35 ∷ []) (token.Hash ∷ [])
  hash_span at = record { go = λ text rest more d n k. has_hash words text at rest more d k }

  pub colon_span : (at : ℕ) → Span words (begins is_start) at (58 ∷ []) (token.Colon ∷ [])
  colon_span at = record { go = λ text rest more d n k. has_colon words text at rest more n d k }

  pub label_span : (at : ℕ) (l : Literal) → AreWords words → is_literal words l ≡ true
      → Span words anything at (literal_text words l ++ 40 ∷ []) (token.Label l at ∷ [])
  label_span at l ws h = record { go = λ text rest more d n k. has_label words text at l rest more ws h d k }

  -- a piece goes on where the bytes are written otherwise
  pub same_span : (p : List ℕ → Bool) (at : ℕ) (xs ys : List ℕ) (ts us : List Token) → xs ≡ ys → ts ≡ us → Span words p at xs ts → Span words p at ys us
  same_span p at xs ys ts us e f s = subst (λ zs. Span words p at zs us) e (subst (Span words p at xs) f s)

  -- a symbol goes before a term, and one stands between two
  pub led_by : (p : List ℕ → Bool) (at c : ℕ) (ys : List ℕ) (ts us : List Token) → Span words p at (c ∷ []) ts → Spelt words (at + 1) ys us
      → ((rest : List ℕ) → p (ys ++ rest) ≡ true) → Spelt words at (c ∷ ys) (ts ++ us)
  led_by p at c ys ts us a b f = then_span p ends at (at + 1) (c ∷ []) ys ts us a refl b (λ rest h. f rest)

  -- in parentheses
  pub enclosed_span : (at : ℕ) (xs : List ℕ) (ts : List Token) → Spelt words (at + 1) xs ts
      → Spelt words at (enclosed true xs) (token.OpenParen at ∷ (ts ++ token.CloseParen ∷ []))
  enclosed_span at xs ts s =
      let inside : Span words anything (at + 1) (xs ++ 41 ∷ []) (ts ++ token.CloseParen ∷ []) =
      then_span ends anything (at + 1) (at + 1 + length xs) xs (41 ∷ []) ts (token.CloseParen ∷ []) s refl (close_span (at + 1 + length xs)) (λ rest h. refl) in
      let whole : Span words anything at (40 ∷ (xs ++ 41 ∷ [])) (token.OpenParen at ∷ (ts ++ token.CloseParen ∷ [])) =
      then_span anything anything at (at + 1) (40 ∷ []) (xs ++ 41 ∷ []) (token.OpenParen at ∷ []) (ts ++ token.CloseParen ∷ []) (open_span at) refl inside (λ rest h. refl) in
      record { go = λ text rest more d n k. whole.go text rest more d refl k }

  -- the whole text
  pub whole_text : (bytes : List ℕ) (tokens : List Token) → Spelt words 0 bytes tokens → Has words bytes 0 tokens
  whole_text bytes tokens s =
      subst (Has words bytes 0) (append-nil tokens)
      (s.go bytes [] [] (sym (append-nil bytes)) refl (has_none words bytes (0 + length bytes) (drop_whole bytes)))
    where
      drop_whole : (xs : List ℕ) → drop (0 + length xs) xs ≡ []
      drop_whole xs = past xs xs [] 0 (sym (append-nil xs))
