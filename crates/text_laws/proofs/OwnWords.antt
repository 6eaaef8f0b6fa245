-- The words of a text by itself.
use Rattle.std.proofs.Common.{◌≡◌, ◌&&◌, ◌||◌, ℕ, Bool, true, false, not, List, [], ◌∷◌, ◌++◌, Option, Some, None, refl, ap, sym, ◌∙◌, append_assoc, append-nil}
use Rattle.std.specs.Prelude.{map, fold, if◌then◌else◌, codes}
use Rattle.std.specs.List.{list_all, list_any, IsDistinct, AllByRecursion}
use Rattle.std.proofs.lemmas.List.Folds.{list_any-append}
use Rattle.oz_base.specs.Lists.{list_eq}
use Rattle.oz_base.specs.ListLaws.{list_eq-equivalence}
use Rattle.oz_base.specs.Words.{with_text}
use Rattle.oz_language.specs.Kernels.{word_text}
use Rattle.oz_language.specs.Wording.{first_words, bytes_of, word_in, with_word, joining, words_of}
use Rattle.oz_language.specs.Grammar.{tokens_of}
use Rattle.oz_language.specs.declared.token.Lexeme.{Lexeme}
use Rattle.text_laws.specs.Terms.{term_text}
use Rattle.text_laws.specs.Renaming.{has_term}
use Rattle.text_laws.specs.Laws.{AreWords, WordsStand, TermsReadAlone}
use Rattle.text_laws.proofs.Words.{token_word}
use Rattle.text_laws.proofs.Steps.{noted_in}
use Rattle.text_laws.proofs.Spellings.{whole_text}
use Rattle.text_laws.proofs.Knowing.{KnowsChains, knows_word, knows}
use Rattle.text_laws.proofs.TermLaws.{term_read}
use Rattle.text_laws.proofs.RenameLaws.{terms_read_anew}
use Rattle.text_laws.proofs.Basics.{both, both_yes, negated}

-- ---- words that differ

abbrev is_once : List (List ℕ) → Bool
is_once [] = true
is_once (word ∷ words) = not (list_any (list_eq word) words) && is_once words

either_no : (x y : Bool) → (x || y) ≡ false → (x ≡ false) × (y ≡ false)
either_no false false h = (refl, refl)
either_no false true h = absurd (cc)
either_no true y h = absurd (cc)

no_other : (word : List ℕ) (words : List (List ℕ)) → list_any (list_eq word) words ≡ false → AllByRecursion (λ other. list_eq word other ≡ false) words
no_other word [] h = tt
no_other word (other ∷ words) h = let a = either_no (list_eq word other) (list_any (list_eq word) words) h in (a.0, no_other word words a.1)

distinct : (words : List (List ℕ)) → is_once words ≡ true → IsDistinct list_eq words
unfolding IsDistinct
distinct [] h = tt
distinct (word ∷ words) h =
    let a = both (not (list_any (list_eq word) words)) (is_once words) h in
    (no_other word words (negated (list_any (list_eq word) words) a.0), distinct words a.1)

-- one more word that is not there yet
joined_once : (words : List (List ℕ)) (new : List ℕ) → is_once words ≡ true → list_any (list_eq new) words ≡ false → is_once (words ++ new ∷ []) ≡ true
joined_once [] new h n = refl
joined_once (word ∷ words) new h n =
    let a = both (not (list_any (list_eq word) words)) (is_once words) h in
    let b = either_no (list_eq new word) (list_any (list_eq new) words) n in
    let other : list_eq word new ≡ false = sym (list_eq-equivalence.symm new word) ∙ b.0 in
    let none : list_any (list_eq word) (words ++ new ∷ []) ≡ false =
    list_any-append (list_eq word) words (new ∷ []) ∙ (rw (negated (list_any (list_eq word) words) a.0, other) refl) in
    both_yes (not (list_any (list_eq word) (words ++ new ∷ []))) _ (ap not none) (joined_once words new a.1 b.1)

-- ---- words that join

record Grown (words more : List (List ℕ)) : Type 0 where
  own : List (List ℕ)
  grown : more ≡ words ++ own
  once : is_once words ≡ true → is_once more ≡ true

grown_not : (words : List (List ℕ)) → Grown words words
grown_not words = record { own = []; grown = sym (append-nil words); once = λ h. h }

grown_text : (words : List (List ℕ)) (new : List ℕ) → Grown words (with_text words new)
grown_text words new = by (list_any (list_eq new) words) refl
  where
    by : (b : Bool) → list_any (list_eq new) words ≡ b → Grown words (if b then words else words ++ new ∷ [])
    by true e = grown_not words
    by false e = record { own = new ∷ []; grown = refl; once = λ h. joined_once words new h e }

grown_word : (words : List (List ℕ)) (word : Option (List ℕ)) → Grown words (with_word words word)
grown_word words None = grown_not words
grown_word words (Some word) = grown_text words word

grown_on : (words more most : List (List ℕ)) → Grown words more → Grown more most → Grown words most
grown_on words more most a b = record {
  own = a.own ++ b.own;
  grown = b.grown ∙ ap (λ us. us ++ b.own) a.grown ∙ append_assoc words a.own b.own;
  once = λ h. b.once (a.once h);
}

grown_all : (text : List ℕ) (words : List (List ℕ)) (ls : List Lexeme) → Grown words (fold (joining text) words ls)
grown_all text words [] = grown_not words
grown_all text words (l ∷ ls) =
    grown_on words (joining text words l) (fold (joining text) (joining text words l) ls) (grown_word words (word_in l.sort (bytes_of text l))) (grown_all text (joining text words l) ls)

pub words_stand : WordsStand
unfolding words_of
words_stand text ls =
    let g = grown_all text first_words ls in
    record { own = g.own; given = g.grown; distinct = distinct (fold (joining text) first_words ls) (g.once refl) }

-- ---- each token's word is there

there_still : (word : List ℕ) (words more : List (List ℕ)) → Grown words more → list_any (list_eq word) words ≡ true → list_any (list_eq word) more ≡ true
there_still word words more g h = ap (list_any (list_eq word)) g.grown ∙ list_any-append (list_eq word) words g.own ∙ (rw h refl)

there_now : (words : List (List ℕ)) (new : List ℕ) → list_any (list_eq new) (with_text words new) ≡ true
there_now words new = by (list_any (list_eq new) words) refl
  where
    last : (b : Bool) → (b || (list_eq new new || false)) ≡ true
    last true = refl
    last false = rw (list_eq-equivalence.refl new) refl

    by : (b : Bool) → list_any (list_eq new) words ≡ b → list_any (list_eq new) (if b then words else words ++ new ∷ []) ≡ true
    by true e = e
    by false e = list_any-append (list_eq new) words (new ∷ []) ∙ last (list_any (list_eq new) words)

known_word : (words more : List (List ℕ)) (word : Option (List ℕ)) → Grown (with_word words word) more → knows_word more word ≡ true
known_word words more None g = refl
known_word words more (Some word) g = there_still word (with_text words word) more g (there_now words word)

known_all : (text : List ℕ) (words : List (List ℕ)) (ls : List Lexeme) → list_all (knows_word (fold (joining text) words ls)) (map (noted_in text) ls) ≡ true
known_all text words [] = refl
known_all text words (l ∷ ls) =
    both_yes (knows_word (fold (joining text) (joining text words l) ls) (noted_in text l)) _
    (known_word words (fold (joining text) (joining text words l) ls) (noted_in text l) (grown_all text (joining text words l) ls))
    (known_all text (joining text words l) ls)

known_words : (text : List ℕ) (ls : List Lexeme) → list_all (knows_word (words_of text ls)) (map (noted_in text) ls) ≡ true
unfolding words_of
known_words text ls = known_all text first_words ls

all_of : {X Y : Type 0} (p : Y → Bool) (f : X → Y) (xs : List X) → list_all p (map f xs) ≡ list_all (λ x. p (f x)) xs
all_of p f [] = refl
all_of p f (x ∷ xs) = ap (λ b. p (f x) && b) (all_of p f xs)

-- ---- the words of chains are there

given_there : (word : List ℕ) (words : List (List ℕ)) → list_any (list_eq word) first_words ≡ true → AreWords words → list_any (list_eq word) words ≡ true
given_there word words h ws = ap (list_any (list_eq word)) ws.given ∙ list_any-append (list_eq word) first_words ws.own ∙ (rw h refl)

chains_known : (words others : List (List ℕ)) → AreWords words → AreWords others → KnowsChains words others
chains_known words others ws os =
    let bar : word_text words 23 ≡ codes "|" = ap (λ us. word_text us 23) ws.given in
    let hash : word_text words 24 ≡ codes "#" = ap (λ us. word_text us 24) ws.given in
    record {
      bar = ap (λ word. list_any (list_eq word) others) bar ∙ given_there (codes "|") others refl os;
      hash = ap (λ word. list_any (list_eq word) others) hash ∙ given_there (codes "#") others refl os;
    }

-- ---- the law

pub terms_read_alone : TermsReadAlone
terms_read_alone words t ws v =
    let text = term_text words t in
    let p = term_read words ws t v in
    let h = whole_text words text (tokens_of p.phrase) p.spelt in
    let own = words_of text h.lexemes in
    let stand : AreWords own = words_stand text h.lexemes in
    let told : list_all (knows words own) (tokens_of p.phrase) ≡ true =
    sym (all_of (knows_word own) (token_word words) (tokens_of p.phrase)) ∙ ap (list_all (knows_word own)) (sym h.noted) ∙ known_words text h.lexemes in
    let known : has_term words own t ≡ true = p.says.told own (chains_known words own ws stand) told in
    record { lexemes = h.lexemes; lexed = h.lexed; known = known; read = terms_read_anew words own t stand v known }
