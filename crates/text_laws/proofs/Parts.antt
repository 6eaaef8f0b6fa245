-- Phrases that are spelled by the texts of terms, and say them.
use Rattle.std.proofs.Common.{◌≡◌, ◌+◌, ℕ, Bool, true, false, List, [], ◌∷◌, ◌++◌, length, refl, ap, sym, subst, arith, append-nil}
use Rattle.std.specs.Prelude.{nat_le}
use Rattle.std.proofs.lemmas.Bool.Decides.{nat_tests}
use Rattle.oz_language.specs.Grammar.{Phrase, Phrases, nothing, more, keyed, paren, bars, key_token, tokens_of, separated, is_more, term, terms, level_of_bars, level_of_hashes, tightest}
use Rattle.oz_language.specs.SimpleTexts.{constant_text, simple_text, enclosed}
use Rattle.oz_language.specs.declared.text.Form.{Form}
use Rattle.oz_language.specs.declared.text.Form.TheVariants as form
use Rattle.oz_language.specs.declared.token.Token.{Token}
use Rattle.oz_language.specs.declared.token.Token.TheVariants as token
use Rattle.oz_language.specs.declared.kernel.Constant.{Constant}
use Rattle.oz_language.specs.declared.kernel.Constant.TheVariants as constant
use Rattle.oz_lex.specs.Scanning.{begins}
use Rattle.text_laws.specs.Terms.{Term, simple, is_constant, is_fail}
use Rattle.text_laws.specs.Laws.{AreWords}
use Rattle.text_laws.proofs.Steps.{ends}
use Rattle.text_laws.proofs.Spans.{Spelt, anything, is_start, begins_more}
use Rattle.text_laws.proofs.Spellings.{then_span, bar_span, led_by, same_span, enclosed_span}
use Rattle.text_laws.proofs.Constants.{constant_spelt, constant_start}
use Rattle.text_laws.proofs.Sayings.{Says, SaysChain, constant_phrase, cell, says_paren, says_constant, says_last, says_cell, says_bars}
use Rattle.text_laws.proofs.Basics.{both_yes}

-- how tightly the text of a record binds, by its form
abbrev pub level_in : Form → ℕ
level_in form.Bars = level_of_bars
level_in form.Hashes = level_of_hashes
level_in form.Other = tightest

abbrev pub is_keyed : Phrase → Bool
is_keyed (keyed c at e) = true
is_keyed p = false

-- bytes that spell a phrase, which binds so tightly and says this
pub record Known (words : List (List ℕ)) (at : ℕ) (bytes : List ℕ) (level : ℕ) (t : Term) : Type 0 where
  pub phrase : Phrase
  pub bare : is_keyed phrase ≡ false
  pub started : begins is_start bytes ≡ true
  pub spelt : Spelt words at bytes (tokens_of phrase)
  pub fit : (b : Bool) (m : ℕ) → nat_le m level ≡ true → term b m phrase ≡ true
  pub says : Says words phrase t

-- bytes that spell a chain of phrases with `|` between them
pub record Chain (words : List (List ℕ)) (at : ℕ) (bytes : List ℕ) (t : Term) : Type 0 where
  pub elements : Phrases
  pub some : is_more elements ≡ true
  pub spelt : Spelt words at bytes (separated token.Bar elements)
  pub fit : (b : Bool) → terms b level_of_hashes elements ≡ true
  pub says : SaysChain words elements t

-- a term by itself, and as the end of a chain
pub record Reading (words : List (List ℕ)) (at : ℕ) (bytes : List ℕ) (level : ℕ) (t : Term) : Type 0 where
  pub known : Known words at bytes level t
  pub chain : Chain words at bytes t

least : (n : ℕ) → nat_le 0 n ≡ true
least n = grind (arith, nat_tests)

within : (a b c : ℕ) → nat_le a b ≡ true → nat_le b c ≡ true → nat_le a c ≡ true
within a b c e f = grind (arith, nat_tests, e, f)

-- ---- parentheses, and single terms

module _ (words : List (List ℕ)) where
  pub loosened : (at level m : ℕ) (bytes : List ℕ) (t : Term) → nat_le m level ≡ true → Known words at bytes level t → Known words at bytes m t
  loosened at level m bytes t l p = record {
    phrase = p.phrase;
    bare = p.bare;
    started = p.started;
    spelt = p.spelt;
    fit = λ b n h. p.fit b n (within n m level h l);
    says = p.says;
  }

  parenthesized : (at level m : ℕ) (bytes : List ℕ) (t : Term) → Known words (at + 1) bytes level t → Known words at (enclosed true bytes) m t
  parenthesized at level m bytes t p = record {
    phrase = paren at (more p.phrase nothing);
    bare = refl;
    started = refl;
    spelt = same_span words ends at (enclosed true bytes) (enclosed true bytes) _ _ refl
        (ap (λ ts. token.OpenParen at ∷ (ts ++ token.CloseParen ∷ [])) (sym (append-nil (tokens_of p.phrase)))) (enclosed_span words at bytes (tokens_of p.phrase) p.spelt);
    fit = λ b n h. both_yes (term b 0 p.phrase) true (p.fit b 0 (least level)) refl;
    says = says_paren words at p.phrase t p.says;
  }

  -- an operand, in parentheses where it binds too loosely
  pub operand : (at level m : ℕ) (bytes : List ℕ) (t : Term) (q : Bool) → (q ≡ false → nat_le m level ≡ true)
      → ((place : ℕ) → Known words place bytes level t) → Known words at (enclosed q bytes) m t
  operand at level m bytes t true f p = parenthesized at level m bytes t (p (at + 1))
  operand at level m bytes t false f p = loosened at level m bytes t (f refl) (p at)

  -- a chain of one
  pub alone : (at level : ℕ) (bytes : List ℕ) (t : Term) → nat_le level_of_hashes level ≡ true → Known words at bytes level t → Reading words at bytes level t
  alone at level bytes t l p = record {
    known = p;
    chain = record {
      elements = more p.phrase nothing;
      some = refl;
      spelt = same_span words ends at bytes bytes _ _ refl (sym (append-nil (tokens_of p.phrase))) p.spelt;
      fit = λ b. both_yes (term b level_of_hashes p.phrase) true (p.fit b level_of_hashes l) refl;
      says = says_last words p.phrase t p.says;
    };
  }

-- ---- integers and literals

no_fail : (words : List (List ℕ)) (c : Constant) → is_fail words c ≡ false → simple_text words c ≡ constant_text words c
no_fail words (constant.Int i) h = refl
no_fail words (constant.Literal l) h = rw h refl

constant_tokens : (c : Constant) (at : ℕ) → key_token c at ∷ [] ≡ tokens_of (constant_phrase c at)
constant_tokens (constant.Int i) at = refl
constant_tokens (constant.Literal l) at = refl

constant_bare : (c : Constant) (at : ℕ) → is_keyed (constant_phrase c at) ≡ false
constant_bare (constant.Int i) at = refl
constant_bare (constant.Literal l) at = refl

constant_fit : (c : Constant) (at : ℕ) (b : Bool) (m : ℕ) → term b m (constant_phrase c at) ≡ true
constant_fit (constant.Int i) at true m = refl
constant_fit (constant.Int i) at false m = refl
constant_fit (constant.Literal l) at true m = refl
constant_fit (constant.Literal l) at false m = refl

pub constant_known : (words : List (List ℕ)) (at : ℕ) (c : Constant) → AreWords words → is_constant words c ≡ true → Known words at (constant_text words c) tightest (simple c)
constant_known words at c ws h = record {
  phrase = constant_phrase c at;
  bare = constant_bare c at;
  started = constant_start words c ws h;
  spelt = same_span words ends at (constant_text words c) (constant_text words c) _ _ refl (constant_tokens c at) (constant_spelt words at c ws h);
  fit = λ b m l. constant_fit c at b m;
  says = says_constant words c at;
}

pub simple_known : (words : List (List ℕ)) (at : ℕ) (c : Constant) → AreWords words → is_constant words c ≡ true → is_fail words c ≡ false
    → Known words at (simple_text words c) tightest (simple c)
simple_known words at c ws h f = subst (λ xs. Known words at xs tightest (simple c)) (sym (no_fail words c f)) (constant_known words at c ws h)

-- ---- `|`

separated_more : (t : Token) (p : Phrase) (es : Phrases) → is_more es ≡ true → separated t (more p es) ≡ tokens_of p ++ (t ∷ separated t es)
separated_more t p nothing h = absurd (cc)
separated_more t p (more e es) h = refl

module _ (words : List (List ℕ)) where
  pub barred : (at : ℕ) (xs ys : List ℕ) (head tail : Term) → Known words at xs level_of_hashes head → ((place : ℕ) → Chain words place ys tail)
      → Reading words at (xs ++ (124 ∷ ys)) level_of_bars (cell head tail)
  barred at xs ys head tail p rest =
      let q = rest (at + length xs + 1) in
      let said : SaysChain words (more p.phrase q.elements) (cell head tail) = says_cell words p.phrase q.elements head tail q.some p.says q.says in
      let led_rest : Spelt words (at + length xs) (124 ∷ ys) (token.Bar ∷ separated token.Bar q.elements) =
      led_by words anything (at + length xs) 124 ys (token.Bar ∷ []) (separated token.Bar q.elements) (bar_span words (at + length xs)) q.spelt (λ r. refl) in
      let spelt : Spelt words at (xs ++ (124 ∷ ys)) (separated token.Bar (more p.phrase q.elements)) =
      same_span words ends at (xs ++ (124 ∷ ys)) (xs ++ (124 ∷ ys)) _ _ refl (sym (separated_more token.Bar p.phrase q.elements q.some))
      (then_span words ends ends at (at + length xs) xs (124 ∷ ys) (tokens_of p.phrase) (token.Bar ∷ separated token.Bar q.elements) p.spelt refl led_rest (λ r h. refl)) in
      let fit : (b : Bool) → terms b level_of_hashes (more p.phrase q.elements) ≡ true =
      λ b. both_yes (term b level_of_hashes p.phrase) (terms b level_of_hashes q.elements) (p.fit b level_of_hashes refl) (q.fit b) in
      record {
        known = record {
          phrase = bars (more p.phrase q.elements);
          bare = refl;
          started = begins_more is_start xs (124 ∷ ys) p.started;
          spelt = spelt;
          fit = λ b m l. both_yes (nat_le m level_of_bars) _ l (both_yes (is_more q.elements) _ q.some (fit b));
          says = says_bars words (more p.phrase q.elements) (cell head tail) said;
        };
        chain = record { elements = more p.phrase q.elements; some = refl; spelt = spelt; fit = fit; says = said };
      }
