-- What is known of the tokens that were taken so far.
use Rattle.std.proofs.Common.{◌≡◌, ◌≤◌, ◌<◌, ◌+◌, ◌||◌, if◌then◌else◌, ℕ, zero, suc, Bool, true, false, nat_lt, List, [], ◌∷◌, ◌++◌, length, take, drop, map, fold, Option, Some, None, Result, Ok, Err, IfErr, slice_get, refl, sym, ap, ◌∙◌, subst, arith}
use Rattle.std.specs.Result.{IsErr, IsErrAnd}
use Rattle.std.proofs.lemmas.Bool.Decides.{nat_tests}
use Rattle.std.proofs.lemmas.List.{take-append-drop, take_all, take_more, take-map, length-map, map-append, length-drop}
use Rattle.std.proofs.lemmas.List.Sums.{fold-append}
use Rattle.std.proofs.lemmas.Option.{slice_get_within, get_or_from_slice_get}
use Rattle.oz_language.specs.Tokens.{Lexes, Ending, Whole, at_end, at_bad, at_fraction, gap, token, IsLongest, gap_length}
use Rattle.oz_language.specs.Wording.{first_words, joining, words_of, token_in, tokens_in}
use Rattle.oz_language.specs.Grammar.{Phrase, Derives}
use Rattle.oz_language.specs.Refusals.{Open, depth_limit, open_with, depth_of, too_deep, text_open, first_of, sooner, comes_before, Program, Accepts, IsFineBefore, DeepAt, SyntaxAt, EndsEarly, IsRefused, faults, first_scope, bad_byte, deep, syntax, ends_early, faulty}
use Rattle.oz_language.specs.declared.token.Lexeme.{Lexeme}
use Rattle.oz_language.specs.declared.token.Sort.{Sort}
use Rattle.oz_language.specs.declared.token.Token.{Token}
use Rattle.oz_language.specs.declared.fault.RefusalKind.TheVariants as kind
use Rattle.oz_language.specs.declared.fault.Fault.{Fault}
use Rattle.oz_lex.specs.declared.lexer.LexError.{LexError}
use Rattle.oz_lex.specs.declared.lexer.LexError.TheVariants as lex
use Rattle.oz_lex.specs.Lexing.{IsBad, IsLexeme}
use Rattle.oz_reader.specs.declared.error.ReadError.{ReadError}
use Rattle.oz_reader.specs.declared.error.ReadError.TheVariants.{Memory, Refused}
use Rattle.open_constructs.specs.declared.frame.Frame.{Frame as FrameKept}
use Rattle.oz_reader.specs.Reading.{Faults, IsRead, error_of, StepsAt, GivesAt}
use Rattle.reader_law.specs.Machine.{Stack, bind, run, step, start, finish, parse}
use Rattle.reader_law.specs.Laws.{ParsesLaw, BeginsLaw}

pub is_within : (a b : ℕ) → nat_lt a b ≡ false → b ≤ a
is_within a b h = grind (arith, nat_tests, h)

token_count : (text : List ℕ) (ls : List Lexeme) → length (tokens_in text ls) ≡ length ls
token_count text ls = length-map ls (token_in (words_of text ls) text)

-- ---- the machine and the depth, one token after another

pub run_more : (o : Option Stack) (ts : List Token) (t : Token) → run o (ts ++ t ∷ []) ≡ bind (run o ts) (step t)
run_more o [] t = refl
run_more o (s ∷ ts) t = run_more (bind o (step s)) ts t

-- these constructs are open
abbrev pub depth_after : List Open → Token → ℕ
depth_after os t = depth_of (open_with os t)

pub deep_more : (os : List Open) (ts : List Token) (t : Token) → too_deep os ts ≡ false → too_deep os (ts ++ t ∷ []) ≡ nat_lt depth_limit (depth_after (fold open_with os ts) t)
deep_more os [] t h = by (nat_lt depth_limit (depth_after os t))
  where
    by : (b : Bool) → (b || false) ≡ b
    by true = refl
    by false = refl
deep_more os (s ∷ ts) t h = by (nat_lt depth_limit (depth_after os s)) (deep_more (open_with os s) ts t) h
  where
    by : (b : Bool) → (too_deep (open_with os s) ts ≡ false → too_deep (open_with os s) (ts ++ t ∷ []) ≡ nat_lt depth_limit (depth_after (fold open_with (open_with os s) ts) t))
        → (b || too_deep (open_with os s) ts) ≡ false → (b || too_deep (open_with os s) (ts ++ t ∷ [])) ≡ nat_lt depth_limit (depth_after (fold open_with (open_with os s) ts) t)
    by true rest k = let e : true ≡ false = k in absurd (cc)
    by false rest k = rest k

-- the machine went through these tokens to this stack, with these constructs open
pub record Goes (ts : List Token) (os : List Open) (k : Stack) : Type 0 where
  pub ran : run (Some start) ts ≡ Some k
  pub depth : fold open_with text_open ts ≡ os
  pub shallow : too_deep text_open ts ≡ false

pub goes_start : Goes [] text_open start
goes_start = record { ran = refl; depth = refl; shallow = refl }

with_depth : (ts : List Token) (os : List Open) (k : Stack) (t : Token) → Goes ts os k → too_deep text_open (ts ++ t ∷ []) ≡ nat_lt depth_limit (depth_after os t)
with_depth ts os k t g = deep_more text_open ts t g.shallow ∙ ap (λ (is : List Open). nat_lt depth_limit (depth_after is t)) g.depth

pub goes_more : (ts : List Token) (os : List Open) (k j : Stack) (t : Token) → Goes ts os k → nat_lt depth_limit (depth_after os t) ≡ false → step t k ≡ Some j → Goes (ts ++ t ∷ []) (open_with os t) j
goes_more ts os k j t g h s = record {
  ran = run_more (Some start) ts t ∙ (ap (λ (o : Option Stack). bind o (step t)) g.ran ∙ s);
  depth = fold-append open_with text_open ts (t ∷ []) ∙ ap (λ (is : List Open). open_with is t) g.depth;
  shallow = with_depth ts os k t g ∙ h;
}

-- ---- tokens of a text

pub lexeme_more : (ls : List Lexeme) (n : ℕ) (l : Lexeme) → slice_get ls n ≡ Some l → take (n + 1) ls ≡ take n ls ++ l ∷ []
lexeme_more ls n l h = take_more ls n l (slice_get_within ls n l h) ∙ ap (λ (x : Lexeme). take n ls ++ x ∷ []) (get_or_from_slice_get ls n l l h)

pub token_more : (text : List ℕ) (ls : List Lexeme) (n : ℕ) (l : Lexeme) → slice_get ls n ≡ Some l
    → take (n + 1) (tokens_in text ls) ≡ take n (tokens_in text ls) ++ token_in (words_of text ls) text l ∷ []
token_more text ls n l h =
    let f = token_in (words_of text ls) text in
    take-map f (n + 1) ls ∙ (ap (map f) (lexeme_more ls n l h) ∙ (map-append f (take n ls) (l ∷ []) ∙ ap (λ (ts : List Token). ts ++ f l ∷ []) (sym (take-map f n ls))))

pub words_more : (text : List ℕ) (ls : List Lexeme) (n : ℕ) (l : Lexeme) → slice_get ls n ≡ Some l
    → joining text (fold (joining text) first_words (take n ls)) l ≡ fold (joining text) first_words (take (n + 1) ls)
words_more text ls n l h = sym (fold-append (joining text) first_words (take n ls) (l ∷ [])) ∙ ap (fold (joining text) first_words) (sym (lexeme_more ls n l h))

-- the words so far, and those of what is left
pub words_rest : (text : List ℕ) (ls : List Lexeme) (n : ℕ) → fold (joining text) (fold (joining text) first_words (take n ls)) (drop n ls) ≡ words_of text ls
unfolding words_of
words_rest text ls n = sym (fold-append (joining text) first_words (take n ls) (drop n ls)) ∙ ap (fold (joining text) first_words) (take-append-drop n ls)

pub words_all : (text : List ℕ) (ls : List Lexeme) (n : ℕ) → length ls ≤ n → fold (joining text) first_words (take n ls) ≡ words_of text ls
unfolding words_of
words_all text ls n h = ap (fold (joining text) first_words) (take_all n ls h)

-- a token that joins the words is the same under all of them
pub token_is : (text : List ℕ) (ls : List Lexeme) (n : ℕ) (l : Lexeme) (words new : List (List ℕ)) (t : Token) → slice_get ls n ≡ Some l
    → fold (joining text) first_words (take n ls) ≡ words → new ≡ joining text words l → ((more : List Lexeme) → t ≡ token_in (fold (joining text) new more) text l)
    → t ≡ token_in (words_of text ls) text l
token_is text ls n l words new t there old joined told =
    let now : new ≡ fold (joining text) first_words (take (n + 1) ls) = joined ∙ (ap (λ (ws : List (List ℕ)). joining text ws l) (sym old) ∙ words_more text ls n l there) in
    told (drop (n + 1) ls) ∙ ap (λ (ws : List (List ℕ)). token_in ws text l) (ap (λ (ws : List (List ℕ)). fold (joining text) ws (drop (n + 1) ls)) now ∙ words_rest text ls (n + 1))

pub words_next : (text : List ℕ) (ls : List Lexeme) (n : ℕ) (l : Lexeme) (words new : List (List ℕ)) → slice_get ls n ≡ Some l
    → fold (joining text) first_words (take n ls) ≡ words → new ≡ joining text words l → fold (joining text) first_words (take (n + 1) ls) ≡ new
words_next text ls n l words new there old joined =
    sym (joined ∙ (ap (λ (ws : List (List ℕ)). joining text ws l) (sym old) ∙ words_more text ls n l there))

-- the tokens with one more
pub tokens_next : (text : List ℕ) (ls : List Lexeme) (n : ℕ) (l : Lexeme) (t : Token) → slice_get ls n ≡ Some l → t ≡ token_in (words_of text ls) text l
    → take (n + 1) (tokens_in text ls) ≡ take n (tokens_in text ls) ++ t ∷ []
tokens_next text ls n l t there e = token_more text ls n l there ∙ ap (λ (u : Token). take n (tokens_in text ls) ++ u ∷ []) (sym e)

-- each token of a text lies in it
at_place : (text : List ℕ) (at n : ℕ) (sort : Sort) → at < length text → IsLongest (drop at text) n sort → IsLexeme text (record { sort = sort; at = at; len = n })
at_place text at n sort h i = record {
  within = let w = i.within in let e = length-drop at text in omega (arith, h, w, e);
  token = i.token;
}

pub lexemes_are : (text : List ℕ) (at : ℕ) (ls : List Lexeme) (e : Ending) (n : ℕ) (l : Lexeme) → Lexes text at ls e → slice_get ls n ≡ Some l → IsLexeme text l
lexemes_are text at ls e n l (at_end h) there = let x : None ≡ Some l = there in absurd (cc)
lexemes_are text at ls e n l (at_bad h g k) there = let x : None ≡ Some l = there in absurd (cc)
lexemes_are text at ls e n l (at_fraction h g i k) there = let x : None ≡ Some l = there in absurd (cc)
lexemes_are text at ls e n l (gap {at = a} {ls = ks} {e = f} h g rest) there = lexemes_are text (a + gap_length (drop a text)) ks f n l rest there
lexemes_are text at ls e zero l (token {at = a} {n = m} {sort = s} {ls = ks} {e = f} h g i k rest) there =
    let same : Some (record { sort = s; at = a; len = m }) ≡ Some l = there in
    let is : record { sort = s; at = a; len = m } ≡ l = cc in
    subst (IsLexeme text) is (at_place text a m s h i)
lexemes_are text at ls e (suc n) l (token {at = a} {n = m} {sort = s} {ls = ks} {e = f} h g i k rest) there = lexemes_are text (a + m) ks f n l rest there

-- ---- what is said where reading ends

module _ (begins : BeginsLaw) (ts : List Token) (n : ℕ) (os : List Open) (k : Stack) (g : Goes (take n ts) os k) where
  pub fine : IsFineBefore ts n
  fine = record { begun = (begins (take n ts)).1 (k, g.ran); shallow = g.shallow }

  module _ (t : Token) (more : take (n + 1) ts ≡ take n ts ++ t ∷ []) where
    pub deep_at : nat_lt depth_limit (depth_after os t) ≡ true → DeepAt ts n
    deep_at h = record { before = fine; deep = ap (too_deep text_open) more ∙ (with_depth (take n ts) os k t g ∙ h) }

    run_none : step t k ≡ None → run (Some start) (take (n + 1) ts) ≡ None
    run_none s = ap (run (Some start)) more ∙ (run_more (Some start) (take n ts) t ∙ (ap (λ (o : Option Stack). bind o (step t)) g.ran ∙ s))

    pub syntax_at : n < length ts → nat_lt depth_limit (depth_after os t) ≡ false → step t k ≡ None → SyntaxAt ts n
    syntax_at there h s = record {
      before = fine;
      there = there;
      shallow = ap (too_deep text_open) more ∙ (with_depth (take n ts) os k t g ∙ h);
      begun_by_none = λ b. let went = (begins (take (n + 1) ts)).0 b in let e : None ≡ Some went.0 = sym (run_none s) ∙ went.1 in absurd (cc);
    }

module _ (parses : ParsesLaw) (ts : List Token) (n : ℕ) (os : List Open) (k : Stack) (g : Goes (take n ts) os k) (all : length ts ≤ n) where
  parsed : parse ts ≡ finish k
  parsed = ap (λ (us : List Token). bind (run (Some start) us) finish) (sym (take_all n ts all)) ∙ ap (λ (o : Option Stack). bind o finish) g.ran

  pub derived_at : (p : Phrase) → finish k ≡ Some p → Derives ts p
  derived_at p h = (parses ts p).1 (parsed ∙ h)

  pub shallow_at : too_deep text_open ts ≡ false
  shallow_at = ap (too_deep text_open) (sym (take_all n ts all)) ∙ g.shallow

  pub ends_at : BeginsLaw → finish k ≡ None → EndsEarly ts
  ends_at begins h = record {
    before = subst (λ (us : List Token). IsFineBefore ts (length ts)) (take_all n ts all) (fine begins ts (length ts) os k (subst (λ (us : List Token). Goes us os k) (take_all n ts all ∙ sym (take_all (length ts) ts (omega arith))) g));
    derived_by_none = λ p derived. let e : None ≡ Some p = sym h ∙ (sym parsed ∙ (parses ts p).0 derived) in absurd (cc);
  }

-- ---- one more token of a text

module _ (begins : BeginsLaw) (text : List ℕ) (ls : List Lexeme) (lexed : Lexes text 0 ls Whole) (n : ℕ) (l : Lexeme) (there : slice_get ls n ≡ Some l)
    (words new : List (List ℕ)) (t : Token) (old : fold (joining text) first_words (take n ls) ≡ words) (joined : new ≡ joining text words l)
    (told : (more : List Lexeme) → t ≡ token_in (fold (joining text) new more) text l) (os : List Open) (k : Stack) (g : Goes (take n (tokens_in text ls)) os k) where
  more_tokens : take (n + 1) (tokens_in text ls) ≡ take n (tokens_in text ls) ++ t ∷ []
  more_tokens = tokens_next text ls n l t there (token_is text ls n l words new t there old joined told)

  pub deep_refused : nat_lt depth_limit (depth_after os t) ≡ true → IsRefused text (record { kind = kind.Deep; at = l.at })
  deep_refused h = deep lexed there (deep_at begins (tokens_in text ls) n os k g t more_tokens h)

  pub syntax_refused : nat_lt depth_limit (depth_after os t) ≡ false → step t k ≡ None → IsRefused text (record { kind = kind.Syntax; at = l.at })
  syntax_refused h s =
      let within = slice_get_within ls n l there in
      let count = token_count text ls in
      syntax lexed there (syntax_at begins (tokens_in text ls) n os k g t more_tokens (omega (arith, within, count)) h s)

  pub went : (j : Stack) → nat_lt depth_limit (depth_after os t) ≡ false → step t k ≡ Some j → Goes (take (n + 1) (tokens_in text ls)) (open_with os t) j
  went j h s = subst (λ (ts : List Token). Goes ts (open_with os t) j) (sym more_tokens) (goes_more (take n (tokens_in text ls)) os k j t g h s)

-- the whole text is read
module _ (begins : BeginsLaw) (parses : ParsesLaw) (text : List ℕ) (ls : List Lexeme) (lexed : Lexes text 0 ls Whole) (n : ℕ) (os : List Open) (k : Stack)
    (g : Goes (take n (tokens_in text ls)) os k) (all : length ls ≤ n) where
  all_tokens : length (tokens_in text ls) ≤ n
  all_tokens = let count = token_count text ls in omega (arith, all, count)

  pub end_refused : finish k ≡ None → IsRefused text (record { kind = kind.Syntax; at = length text })
  end_refused h = ends_early lexed (ends_at parses (tokens_in text ls) n os k g all_tokens begins h)

  pub all_derived : (p : Phrase) → finish k ≡ Some p → Derives (tokens_in text ls) p
  all_derived p h = derived_at parses (tokens_in text ls) n os k g all_tokens p h

  pub all_shallow : too_deep text_open (tokens_in text ls) ≡ false
  all_shallow = shallow_at parses (tokens_in text ls) n os k g all_tokens

-- ---- refusals of steps

pub step_refused : (text : List ℕ) (at : ℕ) (e : ReadError) (new : List FrameKept) (next : Option Stack) → StepsAt at (Err e) new next
    → (next ≡ None → IsRefused text (record { kind = kind.Syntax; at = at })) → Faults (IsRefused text) e
step_refused text at Memory new next h f = tt
step_refused text at (Refused fault) new next h f = subst (IsRefused text) (sym h.1) (f h.0)

pub value_refused : {X Y : Type 0} (text : List ℕ) (at : ℕ) (e : ReadError) (see : X → Y) (next : Option Y) → GivesAt see at (Err e) next
    → (next ≡ None → IsRefused text (record { kind = kind.Syntax; at = at })) → Faults (IsRefused text) e
value_refused text at Memory see next h f = tt
value_refused text at (Refused fault) see next h f = subst (IsRefused text) (sym h.1) (f h.0)

pub err_is : {X E : Type 0} (r : Result X E) (e : E) (P : E → Type 0) → IsErr r × IsErrAnd r (λ y. y ≡ e) → P e → IfErr r P
err_is (Ok x) e P h p = tt
err_is (Err y) e P h p = subst P (sym h.1) p

pub lex_refused : (text : List ℕ) (e : LexError) → IsBad text e → Faults (IsRefused text) (error_of e)
lex_refused text lex.Memory h = tt
lex_refused text (lex.BadByte at) h = bad_byte h.1

-- ---- the names of what was read

pub names_refused : (text : List ℕ) (ls : List Lexeme) (p : Program) (f : Fault) → Lexes text 0 ls Whole → IsRead text ls p → first_of (faults first_scope p.phrase) ≡ Some f → IsRefused text f
names_refused text ls p f lexed read h = faulty lexed (record { program = p.phrase; derived = read.derived; shallow = read.shallow; first = h })

sooner_some : (f : Fault) (o : Option Fault) → sooner f o ≡ None → ⊥
sooner_some f None h = let e : Some f ≡ None = h in absurd (cc)
sooner_some f (Some g) h = by (comes_before g f) h
  where
    by : (b : Bool) → (if b then Some g else Some f) ≡ None → ⊥
    by true k = let e : Some g ≡ None = k in absurd (cc)
    by false k = let e : Some f ≡ None = k in absurd (cc)

-- where no fault decides there is none
first_none : (fs : List Fault) → first_of fs ≡ None → fs ≡ []
first_none [] h = refl
first_none (f ∷ fs) h = absurd (sooner_some f (first_of fs) h)

pub names_accepted : (text : List ℕ) (ls : List Lexeme) (p : Program) → Lexes text 0 ls Whole → IsRead text ls p → first_of (faults first_scope p.phrase) ≡ None → Accepts text p
names_accepted text ls p lexed read h = record {
  lexemes = ls;
  lexed = lexed;
  words = read.words;
  derived = read.derived;
  shallow = read.shallow;
  in_scope = first_none (faults first_scope p.phrase) h;
}
