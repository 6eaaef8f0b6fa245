-- Steps of the reading of a text, and that there is one reading.
use Rattle.std.proofs.Common.{◌≡◌, ◌≤◌, ◌<◌, ◌+◌, ◌++◌, ◌∷◌, [], ℕ, Bool, true, false, List, length, take, drop, Option, Some, None, subst, sym, refl, ap, ◌∙◌, arith, ◌⊎◌, ⊎_elim, length-drop, append_assoc, append-nil}
use Rattle.std.specs.List.{All}
use Rattle.std.proofs.lemmas.List.Elements.{All-nil, All-cons}
use Rattle.oz_language.specs.declared.token.Sort.{Sort}
use Rattle.oz_language.specs.declared.token.Lexeme.{Lexeme}
use Rattle.oz_language.specs.Tokens.{sort_of, IsLongest, NoToken, gap_length, bad_offset, is_broken_number, Lexes, Ending, Whole, Bad, at_end, at_bad, at_fraction, gap, token}
use Rattle.oz_lex.specs.Lexing.{OneReading, IsLexeme}

-- what is read so far goes before what is read from here
abbrev pub Front : List ℕ → ℕ → List Lexeme → Type 0
Front text at ls = (ks : List Lexeme) (e : Ending) → Lexes text at ks e → Lexes text 0 (ls ++ ks) e

module _ (text : List ℕ) (at : ℕ) (ls : List Lexeme) (h : Front text at ls) (lt : at < length text) where
  pub gap_step : (n : ℕ) → 0 < n → n ≡ gap_length (drop at text) → Front text (at + n) ls
  gap_step n l g ks e r =
      h ks e (gap lt (subst (λ k. 0 < k) g l) (subst (λ k. Lexes text (at + k) ks e) g r))

  module _ (g : ℕ) (e : g ≡ gap_length (drop at text)) (l : g ≤ 0) where
    none : gap_length (drop at text) ≡ 0
    none = omega (arith, e, l)

    pub token_step : (n : ℕ) (s : Sort) → IsLongest (drop at text) n s → is_broken_number s (drop (at + n) text) ≡ false
        → Front text (at + n) (ls ++ record { sort = s; at = at; len = n } ∷ [])
    token_step n s r f ks d q =
        let t : Lexeme = record { sort = s; at = at; len = n } in
        subst (λ vs. Lexes text 0 vs d) (sym (append_assoc ls (t ∷ []) ks)) (h (t ∷ ks) d (token lt none r f q))

    pub bad_fraction : (n : ℕ) (s : Sort) → IsLongest (drop at text) n s → is_broken_number s (drop (at + n) text) ≡ true
        → (ks : List Lexeme) × Lexes text 0 ks (Bad (at + n))
    bad_fraction n s r f = (ls ++ [], h [] (Bad (at + n)) (at_fraction lt none r f))

    pub bad_byte : (n : ℕ) → NoToken (drop at text) → n ≡ bad_offset (drop at text) → (ks : List Lexeme) × Lexes text 0 ks (Bad (at + n))
    bad_byte n r e = (ls ++ [], h [] (Bad (at + n)) (subst (λ k. Lexes text at [] (Bad (at + k))) (sym e) (at_bad lt none r)))

pub finished : (text : List ℕ) (at : ℕ) (ls : List Lexeme) → Front text at ls → length text ≤ at → Lexes text 0 ls Whole
finished text at ls h i = subst (λ ks. Lexes text 0 ks Whole) (append-nil ls) (h [] Whole (at_end i))

-- ---- one reading

abbrev record_of : ℕ → ℕ → Sort → Lexeme
record_of at n s = record { sort = s; at = at; len = n }

clash : {s : Sort} {o : Option Sort} → o ≡ None → o ≡ Some s → ⊥
clash {s} e f = let q : None ≡ Some s = sym e ∙ f in absurd (cc)

not_longer : (text : List ℕ) (m n : ℕ) (s t : Sort) → IsLongest text m s → IsLongest text n t → m < n → ⊥
not_longer text m n s t h i l = clash (h.longest n l i.within) i.token

same_length : (text : List ℕ) (m n : ℕ) (s t : Sort) → IsLongest text m s → IsLongest text n t → m ≡ n
same_length text m n s t h i =
    let a = not_longer text m n s t h i in
    let b = not_longer text n m t s i h in
    let c : (m < n) ⊎ ((n < m) ⊎ (m ≡ n)) = grind arith in
    ⊎_elim (λ l. absurd (a l)) (λ d. ⊎_elim (λ l. absurd (b l)) (λ e. e) d) c

same_sort : (text : List ℕ) (m n : ℕ) (s t : Sort) → m ≡ n → IsLongest text m s → IsLongest text n t → s ≡ t
same_sort text m n s t e h i = let q : Some s ≡ Some t = sym h.token ∙ ap (λ a. sort_of (take a text)) e ∙ i.token in cc

not_both : (text : List ℕ) (n : ℕ) (s : Sort) → NoToken text → IsLongest text n s → ⊥
not_both text n s h i = let q : None ≡ Some s = sym (h n i.within) ∙ i.token in absurd (cc)

same_more : (at n m : ℕ) (s t : Sort) (ls ks : List Lexeme) → n ≡ m → s ≡ t → ls ≡ ks → record_of at n s ∷ ls ≡ record_of at m t ∷ ks
same_more at n m s t ls ks a b q = ap (λ x. record_of at x s ∷ ls) a ∙ ap (λ x. record_of at m x ∷ ls) b ∙ ap (λ x. record_of at m t ∷ x) q

record Same (ls ks : List Lexeme) (e f : Ending) : Type 0 where
  pub lexemes : ls ≡ ks
  pub ending : e ≡ f

-- whether a longest token is a broken number is settled by the text
broken_alike : (text : List ℕ) (at m n : ℕ) (s t : Sort) (a b : Bool) → IsLongest (drop at text) m s → IsLongest (drop at text) n t
    → is_broken_number s (drop (at + m) text) ≡ a → is_broken_number t (drop (at + n) text) ≡ b → a ≡ b
broken_alike text at m n s t a b h i e f =
    let q = same_length (drop at text) m n s t h i in
    let k = same_sort (drop at text) m n s t q h i in
    sym e ∙ ap (λ x. is_broken_number x (drop (at + m) text)) k ∙ ap (λ x. is_broken_number t (drop (at + x) text)) q ∙ f

-- an integer with a fraction is no other token
broken_no : (text : List ℕ) (at m n : ℕ) (s t : Sort) → IsLongest (drop at text) m s → IsLongest (drop at text) n t
    → is_broken_number s (drop (at + m) text) ≡ true → is_broken_number t (drop (at + n) text) ≡ false → ⊥
broken_no text at m n s t h i e f = let q : true ≡ false = broken_alike text at m n s t true false h i e f in absurd (cc)

bad_alike : (text : List ℕ) (at m n : ℕ) (s t : Sort) → IsLongest (drop at text) m s → IsLongest (drop at text) n t → Bad (at + m) ≡ Bad (at + n)
bad_alike text at m n s t h i = ap (λ x. Bad (at + x)) (same_length (drop at text) m n s t h i)

one : (text : List ℕ) (at : ℕ) (ls ks : List Lexeme) (e f : Ending) → Lexes text at ls e → Lexes text at ks f → Same ls ks e f
one text at ls ks e f (at_end l) (at_end l') = record { lexemes = refl; ending = refl }
one text at ls ks e f (at_end l) (at_bad l' g' n') = absurd (omega arith)
one text at ls ks e f (at_end l) (at_fraction l' g' i' b') = absurd (omega arith)
one text at ls ks e f (at_end l) (gap l' g' r') = absurd (omega arith)
one text at ls ks e f (at_end l) (token l' g' i' b' r') = absurd (omega arith)
one text at ls ks e f (at_bad l g n) (at_end l') = absurd (omega arith)
one text at ls ks e f (at_bad l g n) (at_bad l' g' n') = record { lexemes = refl; ending = refl }
one text at ls ks e f (at_bad l g n) (at_fraction l' g' i' b') = absurd (not_both (drop at text) _ _ n i')
one text at ls ks e f (at_bad l g n) (gap l' g' r') = absurd (omega arith)
one text at ls ks e f (at_bad l g n) (token l' g' i' b' r') = absurd (not_both (drop at text) _ _ n i')
one text at ls ks e f (at_fraction l g i b) (at_end l') = absurd (omega arith)
one text at ls ks e f (at_fraction l g i b) (at_bad l' g' n') = absurd (not_both (drop at text) _ _ n' i)
one text at ls ks e f (at_fraction {n = n} {sort = s} l g i b) (at_fraction {n = m} {sort = t} l' g' i' b') =
    record { lexemes = refl; ending = bad_alike text at n m s t i i' }
one text at ls ks e f (at_fraction l g i b) (gap l' g' r') = absurd (omega arith)
one text at ls ks e f (at_fraction {n = n} {sort = s} l g i b) (token {n = m} {sort = t} l' g' i' b' r') = absurd (broken_no text at n m s t i i' b b')
one text at ls ks e f (gap l g r) (at_end l') = absurd (omega arith)
one text at ls ks e f (gap l g r) (at_bad l' g' n') = absurd (omega arith)
one text at ls ks e f (gap l g r) (at_fraction l' g' i' b') = absurd (omega arith)
one text at ls ks e f (gap l g r) (gap l' g' r') = one text (at + gap_length (drop at text)) ls ks e f r r'
one text at ls ks e f (gap l g r) (token l' g' i' b' r') = absurd (omega arith)
one text at ls ks e f (token l g i b r) (at_end l') = absurd (omega arith)
one text at ls ks e f (token l g i b r) (at_bad l' g' n') = absurd (not_both (drop at text) _ _ n' i)
one text at ls ks e f (token {n = n} {sort = s} l g i b r) (at_fraction {n = m} {sort = t} l' g' i' b') = absurd (broken_no text at m n t s i' i b' b)
one text at ls ks e f (token l g i b r) (gap l' g' r') = absurd (omega arith)
one text at (x ∷ ls) (y ∷ ks) e f (token {n = n} {sort = s} l g i b r) (token {n = m} {sort = t} l' g' i' b' r') =
    let a : n ≡ m = same_length (drop at text) n m s t i i' in
    let k : s ≡ t = same_sort (drop at text) n m s t a i i' in
    let q = one text (at + n) ls ks e f r (subst (λ x. Lexes text (at + x) ks f) (sym a) r') in
    record { lexemes = same_more at n m s t ls ks a k q.lexemes; ending = q.ending }

-- a text has one reading
pub one_reading : OneReading
one_reading text at ls ks e f r q = let s = one text at ls ks e f r q in (s.lexemes, s.ending)

-- ---- what is read are tokens of the text

one_lexeme : (text : List ℕ) (at n : ℕ) (s : Sort) → at < length text → IsLongest (drop at text) n s → IsLexeme text (record_of at n s)
one_lexeme text at n s l i = record {
  within = let w = i.within in omega (arith, w, length-drop at text);
  token = i.token;
}

pub read_lexemes : (text : List ℕ) (at : ℕ) (ls : List Lexeme) (e : Ending) → Lexes text at ls e → All (IsLexeme text) ls
read_lexemes text at ls e (at_end l) = All-nil (IsLexeme text)
read_lexemes text at ls e (at_bad l g n) = All-nil (IsLexeme text)
read_lexemes text at ls e (at_fraction l g i b) = All-nil (IsLexeme text)
read_lexemes text at ls e (gap l g r) = read_lexemes text (at + gap_length (drop at text)) ls e r
read_lexemes text at (x ∷ ls) e (token {n = n} {sort = s} l g i b r) =
    All-cons (IsLexeme text) x ls (one_lexeme text at n s l i) (read_lexemes text (at + n) ls e r)
