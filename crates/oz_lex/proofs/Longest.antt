-- The longest token at the front of a text.
use Rattle.std.proofs.Common.{◌≡◌, ◌≤◌, ◌<◌, ◌+◌, ◌==◌, ◌&&◌, ◌⊎◌, inl, inr, ℕ, zero, suc, List, [], ◌∷◌, length, take, drop, get_or, Bool, true, false, Some, None, refl, ap, sym, ◌∙◌, subst, arith, add-one}
use Rattle.std.specs.Prelude.{nat_le}
use Rattle.std.specs.List.{list_all, prefix_len}
use Rattle.std.proofs.lemmas.Bool.Decides.{nat_tests}
use Rattle.std.proofs.lemmas.List.Sums.{prefix_len-le-length}
use Rattle.oz_language.specs.Tokens.{is_upper, is_lower, is_digit, goes_on_word, is_small_word, is_label, is_reserved, is_digits, is_symbol, sort_of, IsLongest, NoToken}
use Rattle.oz_language.specs.declared.token.Sort.{Sort}
use Rattle.oz_language.specs.declared.token.Sort.TheVariants as sort
use Rattle.oz_lex.specs.Scanning.{begins, begins_paren, is_tilde, is_mark}
use Rattle.oz_lex.proofs.Fronts.{all_front, past_front, some_front, begins_drop, begins_within}
use Rattle.oz_lex.proofs.Sorts.{upper_passes, upper_fails, lower_passes, lower_labels, lower_fails, small_passes, label_small, digit_passes, digit_fails, tilde_passes, tilde_fails, mark_passes, mark_fails, long_no_symbol}

-- ---- tokens of one class of bytes

-- fronts that pass are tokens, and others are none
longest_by : (p : ℕ → Bool) (b : ℕ) (bs : List ℕ) (s : Sort) → p b ≡ true
    → ((ws : List ℕ) → list_all p (b ∷ ws) ≡ true → sort_of (b ∷ ws) ≡ Some s)
    → ((ws : List ℕ) → list_all p (b ∷ ws) ≡ false → sort_of (b ∷ ws) ≡ None)
    → (n : ℕ) → n ≡ prefix_len p (b ∷ bs) → IsLongest (b ∷ bs) n s
longest_by p b bs s h passes fails zero e = let l = some_front p (b ∷ bs) h in absurd (omega arith)
longest_by p b bs s h passes fails (suc n) e = record {
  within = let l = prefix_len-le-length p (b ∷ bs) in omega arith;
  token = passes (take n bs) (subst (λ k. list_all p (take k (b ∷ bs)) ≡ true) (sym e) (all_front p (b ∷ bs)));
  longest = more;
}
  where
    more : (m : ℕ) → suc n < m → m ≤ length (b ∷ bs) → sort_of (take m (b ∷ bs)) ≡ None
    more zero l i = absurd (omega arith)
    more (suc m) l i = fails (take m bs) (past_front p (b ∷ bs) (suc m) (omega (arith, e)) i)

word_byte : (b : ℕ) → is_upper b ≡ true → goes_on_word b ≡ true
word_byte b h = grind (arith, nat_tests)

small_byte : (b : ℕ) → is_lower b ≡ true → goes_on_word b ≡ true
small_byte b h = grind (arith, nat_tests)

pub var_longest : (text : List ℕ) → begins is_upper text ≡ true → (n : ℕ) → n ≡ prefix_len goes_on_word text → IsLongest text n sort.Var
var_longest [] h n e = absurd (cc)
var_longest (b ∷ bs) h n e = longest_by goes_on_word b bs sort.Var (word_byte b h) (λ ws. upper_passes b ws h) (λ ws. upper_fails b ws h) n e

pub int_longest : (text : List ℕ) → begins is_digit text ≡ true → (n : ℕ) → n ≡ prefix_len is_digit text → IsLongest text n sort.Int
int_longest [] h n e = absurd (cc)
int_longest (b ∷ bs) h n e = longest_by is_digit b bs sort.Int h (λ ws. digit_passes b ws h) (λ ws. digit_fails b ws h) n e

-- ---- words and labels

both_no : (x y z : Bool) → y ≡ false → (x && (y && z)) ≡ false
both_no true y z e = rw e refl
both_no false y z e = refl

-- a label's word ends where the front of the text does
label_past : (b : ℕ) (bs : List ℕ) (k : ℕ) → is_lower b ≡ true → prefix_len goes_on_word (b ∷ bs) < k → k < length (b ∷ bs) → is_label (take (k + 1) (b ∷ bs)) ≡ false
label_past b bs zero h l i = absurd (omega arith)
label_past b bs (suc k) h l i =
    let s : is_small_word (take (suc k) (b ∷ bs)) ≡ false = small_passes b (take k bs) h ∙ past_front goes_on_word (b ∷ bs) (suc k) l (omega arith) in
    label_small b bs (suc k) h i ∙ both_no _ _ _ s

-- what ends a word that is no label
abbrev pub EndsWord : List ℕ → ℕ → Type 0
EndsWord text n = (begins_paren (drop n text) ≡ false) ⊎ (is_reserved (take n text) ≡ true)

label_no : (b : ℕ) (bs : List ℕ) (n : ℕ) → is_lower b ≡ true → n < length (b ∷ bs) → EndsWord (b ∷ bs) n → is_label (take (n + 1) (b ∷ bs)) ≡ false
label_no b bs n h l (inl p) =
    let q : (get_or (b ∷ bs) n 0 == 40) ≡ false = sym (begins_drop (λ a. a == 40) (b ∷ bs) n l) ∙ p in
    label_small b bs n h l ∙ (rw q refl)
label_no b bs n h l (inr r) = label_small b bs n h l ∙ (rw r (last_no (get_or (b ∷ bs) n 0 == 40) (is_small_word (take n (b ∷ bs)))))
  where
    last_no : (x y : Bool) → (x && (y && false)) ≡ false
    last_no true true = refl
    last_no true false = refl
    last_no false y = refl

lower_past : (b : ℕ) (bs : List ℕ) (k : ℕ) → is_lower b ≡ true → prefix_len goes_on_word (b ∷ bs) ≤ k → k < length (b ∷ bs) → is_label (take (k + 1) (b ∷ bs)) ≡ false → sort_of (take (suc k) (b ∷ bs)) ≡ None
lower_past b bs k h l i e =
    lower_fails b (take k bs) h (past_front goes_on_word (b ∷ bs) (suc k) (omega arith) (omega arith)) (ap (λ j. is_label (take j (b ∷ bs))) (sym (add-one k)) ∙ e)

pub word_longest : (text : List ℕ) → begins is_lower text ≡ true → (n : ℕ) → n ≡ prefix_len goes_on_word text → EndsWord text n → IsLongest text n sort.Word
word_longest [] h n e w = absurd (cc)
word_longest (b ∷ bs) h zero e w = let l = some_front goes_on_word (b ∷ bs) (small_byte b h) in absurd (omega arith)
word_longest (b ∷ bs) h (suc n) e w = record {
  within = let l = prefix_len-le-length goes_on_word (b ∷ bs) in omega arith;
  token = lower_passes b (take n bs) h (subst (λ k. list_all goes_on_word (take k (b ∷ bs)) ≡ true) (sym e) (all_front goes_on_word (b ∷ bs)));
  longest = more;
}
  where
    at : (k : ℕ) → suc n < suc k → suc k ≤ length (b ∷ bs) → (k ≡ suc n) ⊎ (suc n < k) → is_label (take (k + 1) (b ∷ bs)) ≡ false
    at k l i (inl q) = subst (λ j. is_label (take (j + 1) (b ∷ bs)) ≡ false) (sym q) (label_no b bs (suc n) h (omega arith) w)
    at k l i (inr q) = label_past b bs k h (omega (arith, e)) (omega arith)

    more : (m : ℕ) → suc n < m → m ≤ length (b ∷ bs) → sort_of (take m (b ∷ bs)) ≡ None
    more zero l i = absurd (omega arith)
    more (suc k) l i = let q : (k ≡ suc n) ⊎ (suc n < k) = grind arith in lower_past b bs k h (omega (arith, e)) (omega arith) (at k l i q)

pub label_longest : (text : List ℕ) → begins is_lower text ≡ true → (n : ℕ) → n ≡ prefix_len goes_on_word text → begins_paren (drop n text) ≡ true → is_reserved (take n text) ≡ false → IsLongest text (n + 1) sort.Label
label_longest [] h n e p r = absurd (cc)
label_longest (b ∷ bs) h zero e p r = let l = some_front goes_on_word (b ∷ bs) (small_byte b h) in absurd (omega arith)
label_longest (b ∷ bs) h (suc n) e p r =
    let i : suc n < length (b ∷ bs) = begins_within (λ a. a == 40) (b ∷ bs) (suc n) p in
    let q : (get_or (b ∷ bs) (suc n) 0 == 40) ≡ true = sym (begins_drop (λ a. a == 40) (b ∷ bs) (suc n) i) ∙ p in
    let s : is_small_word (take (suc n) (b ∷ bs)) ≡ true = small_passes b (take n bs) h ∙ subst (λ k. list_all goes_on_word (take k (b ∷ bs)) ≡ true) (sym e) (all_front goes_on_word (b ∷ bs)) in
    let l : is_label (take (suc n + 1) (b ∷ bs)) ≡ true = label_small b bs (suc n) h i ∙ (rw q (rw s (rw r refl))) in
    let l' : is_label (take (suc (suc n)) (b ∷ bs)) ≡ true = ap (λ j. is_label (take j (b ∷ bs))) (sym (add-one (suc n))) ∙ l in
    rw (add-one (suc n)) (record {
      within = omega (arith, i);
      token = lower_labels b (take (suc n) bs) h (past_front goes_on_word (b ∷ bs) (suc (suc n)) (omega (arith, e)) (omega (arith, i))) l';
      longest = more;
    })
  where
    more : (m : ℕ) → suc (suc n) < m → m ≤ length (b ∷ bs) → sort_of (take m (b ∷ bs)) ≡ None
    more zero l i = absurd (omega arith)
    more (suc k) l i = lower_past b bs k h (omega (arith, e)) (omega arith) (label_past b bs k h (omega (arith, e)) (omega arith))

-- ---- integers behind a `~`

digits_some : (bs : List ℕ) (k : ℕ) → 0 < k → k ≤ length bs → is_digits (take k bs) ≡ list_all is_digit (take k bs)
digits_some [] k l i = absurd (omega arith)
digits_some (b ∷ bs) zero l i = absurd (omega arith)
digits_some (b ∷ bs) (suc k) l i = refl

pub negative_longest : (text : List ℕ) → begins is_tilde text ≡ true → (n : ℕ) → n ≡ prefix_len is_digit (drop 1 text) → 0 < n → IsLongest text (1 + n) sort.Int
negative_longest [] h n e l = absurd (cc)
negative_longest (b ∷ bs) h n e l =
    let w : n ≤ length bs = let x = prefix_len-le-length is_digit bs in omega (arith, x, e) in
    let s : 1 + n ≡ suc n = omega arith in
    rw s (record {
      within = omega (arith, w);
      token = tilde_passes b (take n bs) h (digits_some bs n l w ∙ subst (λ k. list_all is_digit (take k bs) ≡ true) (sym e) (all_front is_digit bs));
      longest = more;
    })
  where
    more : (m : ℕ) → suc n < m → m ≤ length (b ∷ bs) → sort_of (take m (b ∷ bs)) ≡ None
    more zero l i = absurd (omega arith)
    more (suc k) l i = tilde_fails b (take k bs) h (digits_some bs k (omega arith) (omega arith) ∙ past_front is_digit bs k (omega (arith, e)) (omega arith))

pub negative_none : (text : List ℕ) → begins is_tilde text ≡ true → prefix_len is_digit (drop 1 text) ≡ 0 → NoToken text
negative_none [] h e = absurd (cc)
negative_none (b ∷ bs) h e = none
  where
    none : NoToken (b ∷ bs)
    none zero i = refl
    none (suc zero) i = tilde_fails b [] h refl
    none (suc (suc k)) i = tilde_fails b (take (suc k) bs) h (digits_some bs (suc k) (omega arith) (omega arith) ∙ past_front is_digit bs (suc k) (omega (arith, e)) (omega arith))

-- ---- symbols

-- the first k bytes are a symbol
abbrev pub fits : List ℕ → ℕ → Bool
fits text k = nat_le k (length text) && is_symbol (take k text)

length_take : (xs : List ℕ) (m : ℕ) → m ≤ length xs → length (take m xs) ≡ m
length_take xs zero l = refl
length_take [] (suc m) l = absurd (omega arith)
length_take (x ∷ xs) (suc m) l = ap suc (length_take xs m (omega arith))

no_fit : (text : List ℕ) (k : ℕ) → k ≤ length text → fits text k ≡ false → is_symbol (take k text) ≡ false
no_fit text k l e = by (nat_le k (length text)) e (grind (arith, nat_tests))
  where
    by : (q : Bool) → (q && is_symbol (take k text)) ≡ false → q ≡ true → is_symbol (take k text) ≡ false
    by true f t = f
    by false f t = absurd (cc)

symbol_past : (text : List ℕ) (m : ℕ) → m ≤ length text → (m ≤ 3 → fits text m ≡ false) → is_symbol (take m text) ≡ false
symbol_past text m l f = by (m ≤ 3) (3 < m) (grind arith) (λ s. no_fit text m l (f s)) (λ s. long_no_symbol (take m text) (let e = length_take text m l in omega (arith, e, s)))
  where
    by : (A B : Type 0) → A ⊎ B → (A → is_symbol (take m text) ≡ false) → (B → is_symbol (take m text) ≡ false) → is_symbol (take m text) ≡ false
    by A B (inl a) f g = f a
    by A B (inr b) f g = g b

module _ (b : ℕ) (bs : List ℕ) (h : is_mark b ≡ true) where
  past : (n m : ℕ) → ((k : ℕ) → n < k → k ≤ 3 → fits (b ∷ bs) k ≡ false) → n < m → m ≤ length (b ∷ bs) → sort_of (take m (b ∷ bs)) ≡ None
  past n zero f l i = absurd (omega arith)
  past n (suc m) f l i = mark_fails b (take m bs) h (symbol_past (b ∷ bs) (suc m) i (f (suc m) l))

  fit : (n : ℕ) → 0 < n → fits (b ∷ bs) n ≡ true → sort_of (take n (b ∷ bs)) ≡ Some sort.Symbol
  fit zero l e = absurd (omega arith)
  fit (suc n) l e = mark_passes b (take n bs) h (both_yes (nat_le (suc n) (length (b ∷ bs))) _ e).1
    where
      both_yes : (x y : Bool) → (x && y) ≡ true → (x ≡ true) × (y ≡ true)
      both_yes true true f = (refl, refl)
      both_yes true false f = absurd (cc)
      both_yes false y f = absurd (cc)

  fit_within : (n : ℕ) → fits (b ∷ bs) n ≡ true → n ≤ length (b ∷ bs)
  fit_within n e = by (nat_le n (length (b ∷ bs))) refl e
    where
      by : (q : Bool) → nat_le n (length (b ∷ bs)) ≡ q → (q && is_symbol (take n (b ∷ bs))) ≡ true → n ≤ length (b ∷ bs)
      by true f t = grind (arith, nat_tests)
      by false f t = absurd (cc)

  fit_longest : (n : ℕ) → 0 < n → fits (b ∷ bs) n ≡ true → ((k : ℕ) → n < k → k ≤ 3 → fits (b ∷ bs) k ≡ false) → IsLongest (b ∷ bs) n sort.Symbol
  fit_longest n l e f = record { within = fit_within n e; token = fit n l e; longest = λ m. past n m f }

pub symbol_longest : (text : List ℕ) → begins is_mark text ≡ true → (n : ℕ) → 0 < n → fits text n ≡ true → ((k : ℕ) → n < k → k ≤ 3 → fits text k ≡ false) → IsLongest text n sort.Symbol
symbol_longest [] h n l e f = absurd (cc)
symbol_longest (b ∷ bs) h n l e f = fit_longest b bs h n l e f

pub symbol_none : (text : List ℕ) → begins is_mark text ≡ true → ((k : ℕ) → 0 < k → k ≤ 3 → fits text k ≡ false) → NoToken text
symbol_none [] h f = absurd (cc)
symbol_none (b ∷ bs) h f = none
  where
    none : NoToken (b ∷ bs)
    none zero i = refl
    none (suc m) i = past b bs h 0 (suc m) f (omega arith) i

-- the lengths past n, up to three
pub past_two : (p : ℕ → Bool) → p 3 ≡ false → (k : ℕ) → 2 < k → k ≤ 3 → p k ≡ false
past_two p e k l i = let q : 3 ≡ k = omega arith in subst (λ j. p j ≡ false) q e

pub past_one : (p : ℕ → Bool) → p 3 ≡ false → p 2 ≡ false → (k : ℕ) → 1 < k → k ≤ 3 → p k ≡ false
past_one p e d zero l i = absurd (omega arith)
past_one p e d (suc zero) l i = absurd (omega arith)
past_one p e d (suc (suc zero)) l i = d
past_one p e d (suc (suc (suc k))) l i = past_two p e (suc (suc (suc k))) (omega arith) i

pub past_none : (p : ℕ → Bool) → p 3 ≡ false → p 2 ≡ false → p 1 ≡ false → (k : ℕ) → 0 < k → k ≤ 3 → p k ≡ false
past_none p e d c zero l i = absurd (omega arith)
past_none p e d c (suc zero) l i = c
past_none p e d c (suc (suc k)) l i = past_one p e d (suc (suc k)) (omega arith) i
