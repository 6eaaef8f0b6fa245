-- A text is read as one term.
use Rattle.std.proofs.Common.{◌≡◌, pos, true, [], ◌∷◌, ◌++◌, Option, Some, None, refl, ap, sym, ◌∙◌, subst}
use Rattle.std.specs.Prelude.{map}
use Rattle.oz_language.specs.Tokens.{Whole}
use Rattle.oz_language.specs.Translation.{patterned}
use Rattle.oz_language.specs.Wording.{token_in}
use Rattle.oz_language.specs.Kernels.{Pattern, Patterns, no_pattern}
use Rattle.oz_language.specs.Kernels as k
use Rattle.oz_language.specs.Grammar.{Phrase, nothing, more, int, connected, body, tokens_of, expr, is_body, Derives}
use Rattle.oz_language.specs.declared.token.Connective.TheVariants.{Equates}
use Rattle.oz_language.specs.declared.token.Token.TheVariants as token
use Rattle.oz_language.specs.declared.kernel.Constant.TheVariants as constant
use Rattle.oz_lex.proofs.Readings.{one_reading}
use Rattle.reader_law.proofs.Exact.{parses_law}
use Rattle.text_laws.specs.Terms.{Term, Terms, simple, compound, no_term, beside, term_text}
use Rattle.text_laws.specs.Meanings.{pattern_of, patterns_of}
use Rattle.text_laws.specs.Laws.{IsReadAs, ReadOnce, TextsTell}
use Rattle.text_laws.proofs.TermLaws.{terms_read}

-- ---- one phrase

-- the program that equates it
abbrev equation : Phrase → Phrase
equation p = body nothing (more (connected Equates p (int (pos 0) 0)) nothing)

abbrev left_side : Phrase → Phrase
left_side (body nothing (more (connected Equates p q) nothing)) = p
left_side p = p

is_equation : (p : Phrase) → expr p ≡ true → is_body (equation p) ≡ true
is_equation p h = rw h refl

abbrev left_in : Option Phrase → Phrase
left_in None = equation (int (pos 0) 0)
left_in (Some p) = left_side p

-- expressions that are spelled alike are one
one_phrase : (p q : Phrase) → expr p ≡ true → expr q ≡ true → tokens_of p ≡ tokens_of q → p ≡ q
one_phrase p q h i e =
    let a : Derives (tokens_of (equation p)) (equation p) = record { program = is_equation p h; spelled = refl } in
    let b : Derives (tokens_of (equation p)) (equation q) = record { program = is_equation q i; spelled = ap (λ ts. (ts ++ (token.Equals ∷ token.Int (pos 0) 0 ∷ [])) ++ []) (sym e) } in
    ap left_in (sym ((parses_law (tokens_of (equation p)) (equation p)).0 a) ∙ (parses_law (tokens_of (equation p)) (equation q)).0 b)

-- ---- one term

abbrev mutual
  term_of : Pattern → Term
  term_of (k.constant c) = simple c
  term_of (k.labelled l fs ps) = compound l fs (terms_of ps)
  term_of p = simple (constant.Int (pos 0))

  terms_of : Patterns → Terms
  terms_of no_pattern = no_term
  terms_of (k.beside p ps) = beside (term_of p) (terms_of ps)

mutual
  term_back : (t : Term) → term_of (pattern_of t) ≡ t
  term_back (simple c) = refl
  term_back (compound l fs ts) = ap (compound l fs) (terms_back ts)

  terms_back : (ts : Terms) → terms_of (patterns_of ts) ≡ ts
  terms_back no_term = refl
  terms_back (beside t ts) = λ i. beside (term_back t i) (terms_back ts i)

one_term : (t u : Term) → pattern_of t ≡ pattern_of u → t ≡ u
one_term t u e = sym (term_back t) ∙ ap term_of e ∙ term_back u

-- ---- the laws

pub read_once : ReadOnce
read_once words text t u a b =
    let lexemes : a.lexemes ≡ b.lexemes = (one_reading text 0 a.lexemes b.lexemes Whole Whole a.lexed b.lexed).0 in
    let spelled : tokens_of a.phrase ≡ tokens_of b.phrase = sym a.spelled ∙ ap (map (token_in words text)) lexemes ∙ b.spelled in
    let phrase = one_phrase a.phrase b.phrase a.expression b.expression spelled in
    one_term t u (sym a.matched ∙ ap (patterned words) phrase ∙ b.matched)

pub texts_tell : TextsTell
texts_tell words t u ws v w e = read_once words (term_text words u) t u (subst (λ text. IsReadAs words text t) e (terms_read words t ws v)) (terms_read words u ws w)
