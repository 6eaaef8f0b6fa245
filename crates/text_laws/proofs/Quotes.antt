-- Atoms in quotes, and what they mean.
use Rattle.std.proofs.Common.{◌≡◌, ◌≢◌, ◌≤◌, ◌==◌, ◌||◌, ℕ, zero, suc, List, [], ◌∷◌, ◌++◌, length, take, Bool, true, false, refl, ap, sym, ◌∙◌, subst, arith, length-append, append_assoc}
use Rattle.std.specs.Prelude.{if◌then◌else◌, codes}
use Rattle.std.specs.List.{list_all, flat_map}
use Rattle.std.proofs.lemmas.Bool.Decides.{nat_tests}
use Rattle.oz_language.specs.Tokens.{is_printable, is_escape, is_closed, is_quoted}
use Rattle.oz_language.specs.Wording.{meant, unquoted}
use Rattle.oz_language.specs.SimpleTexts.{escaped, quoted}
use Rattle.oz_lex.specs.Scanning.{IsQuotedFront}
use Rattle.oz_lex.proofs.Sorts.{without_push}
use Rattle.text_laws.specs.Terms.{is_writable}
use Rattle.text_laws.proofs.Basics.{both}

-- how one byte is written
data Escape (b : ℕ) (bytes : List ℕ) : Type 0 where
  plain : (b == 39) ≡ false → (b == 92) ≡ false → is_printable b ≡ true → bytes ≡ b ∷ [] → Escape b bytes
  line : b ≡ 10 → bytes ≡ codes "\\n" → Escape b bytes
  tab : b ≡ 9 → bytes ≡ codes "\\t" → Escape b bytes
  slash : b ≡ 92 → bytes ≡ codes "\\\\" → Escape b bytes
  quote : b ≡ 39 → bytes ≡ codes "\\'" → Escape b bytes

is_number : (m n : ℕ) → (m == n) ≡ true → m ≡ n
is_number m n e = grind (arith, nat_tests, e)

written : (b : ℕ) → is_writable b ≡ true → Escape b (escaped b)
written b w = by (b == 10) (b == 9) (b == 92) (b == 39) refl refl refl refl w
  where
    by : (l t s q : Bool) → (b == 10) ≡ l → (b == 9) ≡ t → (b == 92) ≡ s → (b == 39) ≡ q → (is_printable b || l || t) ≡ true
        → Escape b (if l then codes "\\n" else (if t then codes "\\t" else (if s || q then 92 ∷ b ∷ [] else b ∷ [])))
    by true t s q e f g h w = line (is_number b 10 e) refl
    by false true s q e f g h w = tab (is_number b 9 f) refl
    by false false true q e f g h w = let k : b ≡ 92 = is_number b 92 g in slash k (ap (λ c. 92 ∷ c ∷ []) k)
    by false false false true e f g h w = let k : b ≡ 39 = is_number b 39 h in quote k (ap (λ c. 92 ∷ c ∷ []) k)
    by false false false false e f g h w = plain h g (by_or (is_printable b) w) refl
      where
        by_or : (p : Bool) → (p || false || false) ≡ true → p ≡ true
        by_or true w = refl
        by_or false w = absurd (cc)

-- ---- what stands between the quotes

abbrev inside : List ℕ → List ℕ
inside word = flat_map escaped word

-- the quote behind it closes it
abbrev Closes : List ℕ → Type 0
Closes front = is_closed 39 (front ++ 39 ∷ []) ≡ true

closes_byte : (b : ℕ) (bytes front : List ℕ) → Escape b bytes → Closes front → Closes (bytes ++ front)
closes_byte b bytes front (plain q s p e) h = rw e (rw q (rw s (rw p h)))
closes_byte b bytes front (line k e) h = rw e h
closes_byte b bytes front (tab k e) h = rw e h
closes_byte b bytes front (slash k e) h = rw e h
closes_byte b bytes front (quote k e) h = rw e h

closes : (word : List ℕ) → list_all is_writable word ≡ true → Closes (inside word)
closes [] a = refl
closes (b ∷ bs) a =
    let w = both (is_writable b) (list_all is_writable bs) a in
    closes_byte b (escaped b) (inside bs) (written b w.0) (closes bs w.1)

-- and no other byte does
abbrev Alone : List ℕ → Type 0
Alone front = (rest : List ℕ) (k : ℕ) → k ≤ length (front ++ 39 ∷ rest) → k ≢ suc (length front) → is_closed 39 (take k (front ++ 39 ∷ rest)) ≡ false

alone_none : Alone []
alone_none rest zero l d = refl
alone_none rest (suc zero) l d = absurd (d refl)
alone_none [] (suc (suc k)) l d = absurd (omega arith)
alone_none (c ∷ rest) (suc (suc k)) l d = refl

alone_plain : (b : ℕ) (front : List ℕ) → (b == 39) ≡ false → (b == 92) ≡ false → is_printable b ≡ true → Alone front → Alone (b ∷ front)
alone_plain b front q s p h rest zero l d = refl
alone_plain b front q s p h rest (suc k) l d = rw q (rw s (rw p (h rest k (omega arith) (λ e. d (ap suc e)))))

alone_escape : (c : ℕ) (front : List ℕ) → is_escape c ≡ true → Alone front → Alone (92 ∷ c ∷ front)
alone_escape c front p h rest zero l d = refl
alone_escape c front p h rest (suc zero) l d = refl
alone_escape c front p h rest (suc (suc k)) l d = rw p (h rest k (omega arith) (λ e. d (ap (λ n. suc (suc n)) e)))

alone_byte : (b : ℕ) (bytes front : List ℕ) → Escape b bytes → Alone front → Alone (bytes ++ front)
alone_byte b bytes front (plain q s p e) h = subst (λ xs. Alone (xs ++ front)) (sym e) (alone_plain b front q s p h)
alone_byte b bytes front (line k e) h = subst (λ xs. Alone (xs ++ front)) (sym e) (alone_escape 110 front refl h)
alone_byte b bytes front (tab k e) h = subst (λ xs. Alone (xs ++ front)) (sym e) (alone_escape 116 front refl h)
alone_byte b bytes front (slash k e) h = subst (λ xs. Alone (xs ++ front)) (sym e) (alone_escape 92 front refl h)
alone_byte b bytes front (quote k e) h = subst (λ xs. Alone (xs ++ front)) (sym e) (alone_escape 39 front refl h)

alone : (word : List ℕ) → list_all is_writable word ≡ true → Alone (inside word)
alone [] a = alone_none
alone (b ∷ bs) a =
    let w = both (is_writable b) (list_all is_writable bs) a in
    alone_byte b (escaped b) (inside bs) (written b w.0) (alone bs w.1)

-- it means the word
means_byte : (b : ℕ) (bytes front word : List ℕ) → Escape b bytes → meant front ≡ word → meant (bytes ++ front) ≡ b ∷ word
means_byte b bytes front word (plain q s p e) h = rw e (rw s (ap (λ xs. b ∷ xs) h))
means_byte b bytes front word (line k e) h = rw e (λ i. sym k i ∷ h i)
means_byte b bytes front word (tab k e) h = rw e (λ i. sym k i ∷ h i)
means_byte b bytes front word (slash k e) h = rw e (λ i. sym k i ∷ h i)
means_byte b bytes front word (quote k e) h = rw e (λ i. sym k i ∷ h i)

means : (word : List ℕ) → list_all is_writable word ≡ true → meant (inside word) ≡ word
means [] a = refl
means (b ∷ bs) a =
    let w = both (is_writable b) (list_all is_writable bs) a in
    means_byte b (escaped b) (inside bs) bs (written b w.0) (means bs w.1)

-- ---- the atom in quotes

pub quoted_meaning : (word : List ℕ) → list_all is_writable word ≡ true → unquoted (quoted word) ≡ word
quoted_meaning word a = ap meant (without_push (inside word) 39) ∙ means word a

pub quoted_whole : (word : List ℕ) → list_all is_writable word ≡ true → is_quoted 39 (quoted word) ≡ true
quoted_whole word a = closes word a

take_front : (xs ys : List ℕ) → take (length xs) (xs ++ ys) ≡ xs
take_front [] ys = refl
take_front (x ∷ xs) ys = ap (λ zs. x ∷ zs) (take_front xs ys)

quoted_length : (word : List ℕ) → length (quoted word) ≡ suc (suc (length (inside word)))
quoted_length word = omega (arith, length-append (inside word) (39 ∷ []))

pub quoted_alone : (word rest : List ℕ) → list_all is_writable word ≡ true → IsQuotedFront 39 (quoted word ++ rest) (length (quoted word))
quoted_alone word rest a = record {
  within = omega (arith, length-append (quoted word) rest);
  quoted = ap (is_quoted 39) (take_front (quoted word) rest) ∙ quoted_whole word a;
  only = only;
}
  where
    text : quoted word ++ rest ≡ 39 ∷ (inside word ++ 39 ∷ rest)
    text = ap (λ xs. 39 ∷ xs) (append_assoc (inside word) (39 ∷ []) rest)

    by : (m : ℕ) → m ≤ length (39 ∷ (inside word ++ 39 ∷ rest)) → m ≢ suc (suc (length (inside word))) → is_quoted 39 (take m (39 ∷ (inside word ++ 39 ∷ rest))) ≡ false
    by zero l d = refl
    by (suc m) l d = alone word a rest m (omega arith) (λ e. d (ap suc e))

    only : (m : ℕ) → m ≤ length (quoted word ++ rest) → m ≢ length (quoted word) → is_quoted 39 (take m (quoted word ++ rest)) ≡ false
    only m l d = ap (λ xs. is_quoted 39 (take m xs)) text ∙ by m (subst (λ xs. m ≤ length xs) text l) (λ e. d (e ∙ sym (quoted_length word)))
