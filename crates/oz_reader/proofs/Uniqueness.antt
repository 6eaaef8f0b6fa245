-- A text is accepted as one program, or refused with one fault.
use Rattle.std.proofs.Common.{◌≡◌, ◌≤◌, ◌<◌, ◌+◌, ◌||◌, ℕ, Bool, true, false, nat_lt, List, [], ◌∷◌, ◌++◌, length, take, drop, None, Some, slice_get, refl, sym, ap, ◌∙◌, subst, arith}
use Rattle.std.proofs.lemmas.List.{take-take, take-append-drop, take_all, append_assoc, append-nil, length-map}
use Rattle.std.proofs.lemmas.Option.{slice_get_within}
use Rattle.oz_language.specs.Tokens.{Lexes, Whole, Bad}
use Rattle.oz_language.specs.Wording.{words_of, token_in, tokens_in}
use Rattle.oz_language.specs.Grammar.{Phrase, Derives, Begins}
use Rattle.oz_language.specs.Refusals.{Open, depth_limit, open_with, depth_of, too_deep, text_open, faults, first_scope, first_of, Program, Accepts, IsFineBefore, DeepAt, SyntaxAt, EndsEarly, FaultyAt, IsRefused, bad_byte, deep, syntax, ends_early, faulty}
use Rattle.oz_language.specs.declared.token.Lexeme.{Lexeme}
use Rattle.oz_language.specs.declared.token.Token.{Token}
use Rattle.oz_language.specs.declared.fault.RefusalKind.{RefusalKind}
use Rattle.oz_language.specs.declared.fault.RefusalKind.TheVariants as kind
use Rattle.oz_language.specs.declared.fault.Fault.{Fault}
use Rattle.oz_lex.specs.Lexing.{OneReading}
use Rattle.reader_law.specs.Laws.{ParsesLaw}
use Rattle.oz_reader.specs.declared.error.ReadError.{ReadError}
use Rattle.oz_reader.specs.declared.error.ReadError.TheVariants.{Memory, Refused}
use Rattle.oz_reader.specs.Reading.{Faults, IsOnlyRefused, Refuses}

-- ---- what is fine stays so without its last tokens

begins_front : (xs ys : List Token) → Begins (xs ++ ys) → Begins xs
begins_front xs ys b = record {
  program = b.program;
  rest = ys ++ b.rest;
  derived = subst (λ ts. Derives ts b.program) (append_assoc xs ys b.rest) b.derived;
}

shallow_front : (os : List Open) (xs ys : List Token) → too_deep os (xs ++ ys) ≡ false → too_deep os xs ≡ false
shallow_front os [] ys h = refl
shallow_front os (t ∷ xs) ys h = by (nat_lt depth_limit (depth_of (open_with os t))) (shallow_front (open_with os t) xs ys) h
  where
    by : (b : Bool) → (too_deep (open_with os t) (xs ++ ys) ≡ false → too_deep (open_with os t) xs ≡ false)
        → (b || too_deep (open_with os t) (xs ++ ys)) ≡ false → (b || too_deep (open_with os t) xs) ≡ false
    by true rest h = h
    by false rest h = rest h

front_is : (ts : List Token) (m n : ℕ) → m ≤ n → take n ts ≡ take m ts ++ drop m (take n ts)
front_is ts m n h = sym (take-append-drop m (take n ts)) ∙ ap (λ us. us ++ drop m (take n ts)) (take-take m n ts h)

fine_front : (ts : List Token) (m n : ℕ) → m ≤ n → IsFineBefore ts n → IsFineBefore ts m
fine_front ts m n h f = record {
  begun = begins_front (take m ts) (drop m (take n ts)) (subst Begins (front_is ts m n h) f.begun);
  shallow = shallow_front text_open (take m ts) (drop m (take n ts)) (ap (too_deep text_open) (sym (front_is ts m n h)) ∙ f.shallow);
}

-- what is derived is fine
pub derived_fine : (ts : List Token) (p : Phrase) → Derives ts p → too_deep text_open ts ≡ false → IsFineBefore ts (length ts)
derived_fine ts p d h = record {
  begun = record { program = p; rest = []; derived = subst (λ us. Derives us p) (sym (append-nil (take (length ts) ts) ∙ take_all (length ts) ts (omega arith))) d };
  shallow = ap (too_deep text_open) (take_all (length ts) ts (omega arith)) ∙ h;
}

-- ---- what the tokens of a text come to, where it is no program

abbrev kind_if : Bool → RefusalKind
kind_if true = kind.Deep
kind_if false = kind.Syntax

-- the first token that does not go on
record Stops (ts : List Token) (n : ℕ) : Type 0 where
  before : IsFineBefore ts n
  no_more : IsFineBefore ts (n + 1) → ⊥

one_stop : (ts : List Token) (m n : ℕ) → Stops ts m → Stops ts n → m ≡ n
one_stop ts m n p q =
    let low : m < n → ⊥ = λ h. p.no_more (fine_front ts (m + 1) n (omega (arith, h)) q.before) in
    let high : n < m → ⊥ = λ h. q.no_more (fine_front ts (n + 1) m (omega (arith, h)) p.before) in
    omega (arith, low, high)

-- the whole is not fine
stops_whole : (ts : List Token) (n : ℕ) → n < length ts → Stops ts n → IsFineBefore ts (length ts) → ⊥
stops_whole ts n h s f = s.no_more (fine_front ts (n + 1) (length ts) (omega (arith, h)) f)

data Verdict (ls : List Lexeme) (ts : List Token) (len : ℕ) : Fault → Type 0 where
  stopped : {n : ℕ} {l : Lexeme} → slice_get ls n ≡ Some l → Stops ts n → Verdict ls ts len (record { kind = kind_if (too_deep text_open (take (n + 1) ts)); at = l.at })
  ended : EndsEarly ts → Verdict ls ts len (record { kind = kind.Syntax; at = len })
  misnamed : {fault : Fault} → FaultyAt ts fault → Verdict ls ts len fault

faulty_fine : (ts : List Token) (fault : Fault) → FaultyAt ts fault → IsFineBefore ts (length ts)
faulty_fine ts fault f = derived_fine ts f.program f.derived f.shallow

-- one derivation
one_phrase : ParsesLaw → (ts : List Token) (p q : Phrase) → Derives ts p → Derives ts q → p ≡ q
one_phrase law ts p q d e =
    let same : Some p ≡ Some q = sym ((law ts p).0 d) ∙ (law ts q).0 e in
    cc

module _ (law : ParsesLaw) (ls : List Lexeme) (ts : List Token) (len : ℕ) (same_length : length ts ≡ length ls) where
  within : (n : ℕ) (l : Lexeme) → slice_get ls n ≡ Some l → n < length ts
  within n l h = let w = slice_get_within ls n l h in omega (arith, w, same_length)

  one_stopped : (m n : ℕ) (k l : Lexeme) → slice_get ls m ≡ Some k → slice_get ls n ≡ Some l → m ≡ n
      → ◌≡◌ {A = Fault} (record { kind = kind_if (too_deep text_open (take (n + 1) ts)); at = l.at }) (record { kind = kind_if (too_deep text_open (take (m + 1) ts)); at = k.at })
  one_stopped m n k l g h e =
      let there : Some k ≡ Some l = sym g ∙ (ap (slice_get ls) e ∙ h) in
      let same : k ≡ l = cc in
      cc

  first_same : (f g : Fault) (p q : Phrase) → p ≡ q → first_of (faults first_scope p) ≡ Some f → first_of (faults first_scope q) ≡ Some g → g ≡ f
  first_same f g p q e h k =
      let both : Some f ≡ Some g = sym h ∙ (ap (λ (r : Phrase). first_of (faults first_scope r)) e ∙ k) in
      cc

  one_verdict : (f g : Fault) → Verdict ls ts len f → Verdict ls ts len g → g ≡ f
  one_verdict f g (stopped {n = m} {l = k} a s) (stopped {n = n} {l = l} b t) = one_stopped m n k l a b (one_stop ts m n s t)
  one_verdict f g (stopped {n = m} {l = k} a s) (ended e) = absurd (stops_whole ts m (within m k a) s e.before)
  one_verdict f g (stopped {n = m} {l = k} a s) (misnamed {fault = x} e) = absurd (stops_whole ts m (within m k a) s (faulty_fine ts x e))
  one_verdict f g (ended e) (stopped {n = m} {l = k} a s) = absurd (stops_whole ts m (within m k a) s e.before)
  one_verdict f g (ended e) (ended d) = refl
  one_verdict f g (ended e) (misnamed d) = absurd (e.derived_by_none d.program d.derived)
  one_verdict f g (misnamed {fault = x} e) (stopped {n = m} {l = k} a s) = absurd (stops_whole ts m (within m k a) s (faulty_fine ts x e))
  one_verdict f g (misnamed d) (ended e) = absurd (e.derived_by_none d.program d.derived)
  one_verdict f g (misnamed {fault = x} d) (misnamed {fault = y} e) = first_same x y d.program e.program (one_phrase law ts d.program e.program d.derived e.derived) d.first e.first

  -- a program is not refused
  no_verdict : (f : Fault) (p : Phrase) → Derives ts p → too_deep text_open ts ≡ false → faults first_scope p ≡ [] → Verdict ls ts len f → ⊥
  no_verdict f p d h none (stopped {n = m} {l = k} a s) = stops_whole ts m (within m k a) s (derived_fine ts p d h)
  no_verdict f p d h none (ended e) = e.derived_by_none p d
  no_verdict f p d h none (misnamed {fault = x} e) =
      let nothing : None ≡ Some x =
      ap first_of (sym none) ∙ (ap (λ (r : Phrase). first_of (faults first_scope r)) (one_phrase law ts p e.program d e.derived) ∙ e.first) in
      absurd (cc)

-- ---- texts

deep_stops : (ts : List Token) (n : ℕ) → DeepAt ts n → Stops ts n
deep_stops ts n d = record {
  before = d.before;
  no_more = λ f. let e : true ≡ false = sym d.deep ∙ f.shallow in absurd (cc);
}

syntax_stops : (ts : List Token) (n : ℕ) → SyntaxAt ts n → Stops ts n
syntax_stops ts n s = record { before = s.before; no_more = λ f. s.begun_by_none f.begun }

data Reading (text : List ℕ) : Fault → Type 0 where
  bad : {ls : List Lexeme} {at : ℕ} → Lexes text 0 ls (Bad at) → Reading text (record { kind = kind.Byte; at = at })
  whole : {ls : List Lexeme} {fault : Fault} → Lexes text 0 ls Whole → Verdict ls (tokens_in text ls) (length text) fault → Reading text fault

stopped_as : (text : List ℕ) (ls : List Lexeme) (n : ℕ) (l : Lexeme) (b : Bool) → Lexes text 0 ls Whole → slice_get ls n ≡ Some l → Stops (tokens_in text ls) n
    → too_deep text_open (take (n + 1) (tokens_in text ls)) ≡ b → Reading text (record { kind = kind_if b; at = l.at })
stopped_as text ls n l b lexed there s e = subst (λ (b : Bool). Reading text (record { kind = kind_if b; at = l.at })) e (whole lexed (stopped there s))

reading_of : (text : List ℕ) (f : Fault) → IsRefused text f → Reading text f
reading_of text f (bad_byte lexed) = bad lexed
reading_of text f (deep {ls = ls} {n = n} {l = l} lexed there d) = stopped_as text ls n l true lexed there (deep_stops (tokens_in text ls) n d) d.deep
reading_of text f (syntax {ls = ls} {n = n} {l = l} lexed there s) = stopped_as text ls n l false lexed there (syntax_stops (tokens_in text ls) n s) s.shallow
reading_of text f (ends_early lexed e) = whole lexed (ended e)
reading_of text f (faulty lexed e) = whole lexed (misnamed e)

token_count : (text : List ℕ) (ls : List Lexeme) → length (tokens_in text ls) ≡ length ls
token_count text ls = length-map ls (token_in (words_of text ls) text)

module _ (one : OneReading) (law : ParsesLaw) (text : List ℕ) where
  bad_whole : (ls ks : List Lexeme) (at : ℕ) → Lexes text 0 ls (Bad at) → Lexes text 0 ks Whole → ⊥
  bad_whole ls ks at h k = let e : Bad at ≡ Whole = (one text 0 ls ks (Bad at) Whole h k).1 in absurd (cc)

  same_whole : (ls ks : List Lexeme) → Lexes text 0 ls Whole → Lexes text 0 ks Whole → ls ≡ ks
  same_whole ls ks h k = (one text 0 ls ks Whole Whole h k).0

  one_reading_of : (f g : Fault) → Reading text f → Reading text g → g ≡ f
  one_reading_of f g (bad {ls = ls} {at = m} h) (bad {ls = ks} {at = n} k) =
      let e : Bad m ≡ Bad n = (one text 0 ls ks (Bad m) (Bad n) h k).1 in
      let same : m ≡ n = cc in
      ap (λ (at : ℕ). record { kind = kind.Byte; at = at }) (sym same)
  one_reading_of f g (bad {ls = ls} {at = m} h) (whole {ls = ks} k v) = absurd (bad_whole ls ks m h k)
  one_reading_of f g (whole {ls = ls} h v) (bad {ls = ks} {at = m} k) = absurd (bad_whole ks ls m k h)
  one_reading_of f g (whole {ls = ls} {fault = x} h v) (whole {ls = ks} {fault = y} k w) =
      one_verdict law ks (tokens_in text ks) (length text) (token_count text ks) x y
      (subst (λ (js : List Lexeme). Verdict js (tokens_in text js) (length text) x) (same_whole ls ks h k) v) w

  pub one_fault : (f g : Fault) → IsRefused text f → IsRefused text g → g ≡ f
  one_fault f g h k = one_reading_of f g (reading_of text f h) (reading_of text g k)

  no_reading : (f : Fault) (p : Program) → Accepts text p → Reading text f → ⊥
  no_reading f p a (bad {ls = ls} {at = m} h) = bad_whole ls a.lexemes m h a.lexed
  no_reading f p a (whole {ls = ls} {fault = x} h v) =
      no_verdict law a.lexemes (tokens_in text a.lexemes) (length text) (token_count text a.lexemes) x p.phrase a.derived a.shallow a.in_scope
      (subst (λ (js : List Lexeme). Verdict js (tokens_in text js) (length text) x) (same_whole ls a.lexemes h a.lexed) v)

  pub not_both : (f : Fault) (p : Program) → IsRefused text f → Accepts text p → ⊥
  not_both f p h a = no_reading f p a (reading_of text f h)

  pub one_program : (p q : Program) → Accepts text p → Accepts text q → q ≡ p
  one_program p q a b =
      let lexemes = same_whole a.lexemes b.lexemes a.lexed b.lexed in
      let words : q.words ≡ p.words = b.words ∙ (ap (words_of text) (sym lexemes) ∙ sym a.words) in
      let phrases : q.phrase ≡ p.phrase = one_phrase law (tokens_in text a.lexemes) q.phrase p.phrase (subst (λ (js : List Lexeme). Derives (tokens_in text js) q.phrase) (sym lexemes) b.derived) a.derived in
      λ i. record { words = words i; phrase = phrases i }

  pub refuses : (f : Fault) → IsRefused text f → IsOnlyRefused text f
  refuses f h = record { refused = h; only = λ g k. one_fault f g h k; unaccepted = λ p a. not_both f p h a }

pub refuses_err : OneReading → ParsesLaw → (text : List ℕ) (e : ReadError) → Faults (IsRefused text) e → Refuses text e
refuses_err one law text Memory h = tt
refuses_err one law text (Refused f) h = refuses one law text f h
