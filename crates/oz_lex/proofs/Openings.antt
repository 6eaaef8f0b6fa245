-- The longest token behind a quote or a `&`.
use Rattle.std.proofs.Common.{◌≡◌, ◌≢◌, ◌≤◌, ◌<◌, ◌+◌, ◌==◌, ◌&&◌, ◌⊎◌, inl, inr, ℕ, zero, suc, List, [], ◌∷◌, length, take, drop, get_or, Bool, true, false, not, None, refl, sym, ◌∙◌, subst, arith, add-one}
use Rattle.std.specs.Prelude.{if◌then◌else◌}
use Rattle.oz_language.specs.Tokens.{is_printable, is_escape, is_quoted, is_char, is_label, sort_of, IsLongest, NoToken}
use Rattle.oz_language.specs.declared.token.Sort.TheVariants as sort
use Rattle.oz_lex.specs.Scanning.{begins_with, begins_paren, char_length, escape_length, IsBadFront, IsQuotedFront, NoQuotedFront}
use Rattle.oz_lex.proofs.Fronts.{begins_drop, begins_within}
use Rattle.oz_lex.proofs.QuoteLaws.{opened}
use Rattle.oz_lex.proofs.Sorts.{second_no, label_quoted, atom_sort, atom_label, atom_fails, string_passes, string_fails, char_passes, char_fails}

-- ---- atoms in quotes, and labels

module _ (ws : List ℕ) where
  no_label : (k : ℕ) → k < length (39 ∷ ws) → is_quoted 39 (take k (39 ∷ ws)) ≡ false → is_label (take (suc k) (39 ∷ ws)) ≡ false
  no_label k l e = label_quoted ws k l ∙ second_no (get_or (39 ∷ ws) k 0 == 40) _ e

  no_paren : (k : ℕ) → k < length (39 ∷ ws) → begins_paren (drop k (39 ∷ ws)) ≡ false → is_label (take (suc k) (39 ∷ ws)) ≡ false
  no_paren k l p =
      let q : (get_or (39 ∷ ws) k 0 == 40) ≡ false = sym (begins_drop (λ b. b == 40) (39 ∷ ws) k l) ∙ p in
      label_quoted ws k l ∙ (rw q refl)

  atom_longest : (n : ℕ) → IsQuotedFront 39 (39 ∷ ws) n → begins_paren (drop n (39 ∷ ws)) ≡ false → IsLongest (39 ∷ ws) n sort.Quoted
  atom_longest zero f p = let q = f.quoted in absurd (cc)
  atom_longest (suc n) f p = record {
    within = f.within;
    token = let i = f.within in atom_sort (take n ws) (no_label n (omega (arith, i)) (f.only n (omega (arith, i)) (λ e. omega (arith, e)))) f.quoted;
    longest = more;
  }
    where
      label_no : (k : ℕ) → suc n < suc k → suc k ≤ length (39 ∷ ws) → (k ≡ suc n) ⊎ (suc n < k) → is_label (take (suc k) (39 ∷ ws)) ≡ false
      label_no k l i (inl e) = no_paren k (omega arith) (subst (λ j. begins_paren (drop j (39 ∷ ws)) ≡ false) (sym e) p)
      label_no k l i (inr e) = no_label k (omega arith) (f.only k (omega arith) (λ d. omega (arith, d, e)))

      more : (m : ℕ) → suc n < m → m ≤ length (39 ∷ ws) → sort_of (take m (39 ∷ ws)) ≡ None
      more zero l i = absurd (omega arith)
      more (suc k) l i = atom_fails (take k ws) (label_no k l i (grind arith)) (f.only (suc k) i (λ d. omega (arith, d, l)))

  label_longest : (n : ℕ) → IsQuotedFront 39 (39 ∷ ws) n → begins_paren (drop n (39 ∷ ws)) ≡ true → IsLongest (39 ∷ ws) (n + 1) sort.Label
  label_longest n f p = rw (add-one n) (record {
    within = omega (arith, inside);
    token = atom_label (take n ws) (label_quoted ws n inside ∙ (rw paren (rw f.quoted refl)));
    longest = more;
  })
    where
      inside : n < length (39 ∷ ws)
      inside = begins_within (λ b. b == 40) (39 ∷ ws) n p

      paren : (get_or (39 ∷ ws) n 0 == 40) ≡ true
      paren = sym (begins_drop (λ b. b == 40) (39 ∷ ws) n inside) ∙ p

      more : (m : ℕ) → suc n < m → m ≤ length (39 ∷ ws) → sort_of (take m (39 ∷ ws)) ≡ None
      more zero l i = absurd (omega arith)
      more (suc k) l i =
          atom_fails (take k ws) (no_label k (omega arith) (f.only k (omega arith) (λ d. omega (arith, d, l)))) (f.only (suc k) i (λ d. omega (arith, d, l)))

  no_atom : (n : ℕ) → NoQuotedFront 39 (39 ∷ ws) n → IsBadFront (39 ∷ ws) n
  no_atom n f = record { none = none; place = f.place; within = f.within }
    where
      none : NoToken (39 ∷ ws)
      none zero i = refl
      none (suc k) i = atom_fails (take k ws) (no_label k (omega arith) (f.none k)) (f.none (suc k))

  string_longest : (n : ℕ) → IsQuotedFront 34 (34 ∷ ws) n → IsLongest (34 ∷ ws) n sort.String
  string_longest zero f = let q = f.quoted in absurd (cc)
  string_longest (suc n) f = record { within = f.within; token = string_passes (take n ws) f.quoted; longest = more }
    where
      more : (m : ℕ) → suc n < m → m ≤ length (34 ∷ ws) → sort_of (take m (34 ∷ ws)) ≡ None
      more zero l i = absurd (omega arith)
      more (suc k) l i = string_fails (take k ws) (f.only (suc k) i (λ d. omega (arith, d, l)))

  no_string : (n : ℕ) → NoQuotedFront 34 (34 ∷ ws) n → IsBadFront (34 ∷ ws) n
  no_string n f = record { none = none; place = f.place; within = f.within }
    where
      none : NoToken (34 ∷ ws)
      none zero i = refl
      none (suc k) i = string_fails (take k ws) (f.none (suc k))

module _ (text : List ℕ) (n : ℕ) where
  pub quoted_longest : begins_with 39 text ≡ true → IsQuotedFront 39 text n → begins_paren (drop n text) ≡ false → IsLongest text n sort.Quoted
  quoted_longest o =
      subst (λ xs. IsQuotedFront 39 xs n → begins_paren (drop n xs) ≡ false → IsLongest xs n sort.Quoted) (sym (opened 39 text o)) (atom_longest (drop 1 text) n)

  pub quoted_label : begins_with 39 text ≡ true → IsQuotedFront 39 text n → begins_paren (drop n text) ≡ true → IsLongest text (n + 1) sort.Label
  quoted_label o =
      subst (λ xs. IsQuotedFront 39 xs n → begins_paren (drop n xs) ≡ true → IsLongest xs (n + 1) sort.Label) (sym (opened 39 text o)) (label_longest (drop 1 text) n)

  pub quoted_bad : begins_with 39 text ≡ true → NoQuotedFront 39 text n → IsBadFront text n
  quoted_bad o = subst (λ xs. NoQuotedFront 39 xs n → IsBadFront xs n) (sym (opened 39 text o)) (no_atom (drop 1 text) n)

  pub string_front : begins_with 34 text ≡ true → IsQuotedFront 34 text n → IsLongest text n sort.String
  string_front o = subst (λ xs. IsQuotedFront 34 xs n → IsLongest xs n sort.String) (sym (opened 34 text o)) (string_longest (drop 1 text) n)

  pub string_bad : begins_with 34 text ≡ true → NoQuotedFront 34 text n → IsBadFront text n
  string_bad o = subst (λ xs. NoQuotedFront 34 xs n → IsBadFront xs n) (sym (opened 34 text o)) (no_string (drop 1 text) n)

-- ---- characters

-- a character is one byte or one escape
is_one : (ws : List ℕ) (k : ℕ) → 0 < k → k ≡ char_length ws → is_char (38 ∷ take k ws) ≡ true
is_one [] k l e = absurd (omega (arith, e))
is_one (b ∷ bs) k l e = by (b == 92) refl
  where
    escaped : (cs : List ℕ) → (b == 92) ≡ true → k ≡ escape_length cs → is_char (38 ∷ take k (b ∷ cs)) ≡ true
    escaped [] s f = absurd (omega (arith, f))
    escaped (c ∷ cs) s f = which (is_escape c) refl
      where
        which : (x : Bool) → is_escape c ≡ x → is_char (38 ∷ take k (b ∷ c ∷ cs)) ≡ true
        which true g = let j : k ≡ 2 = f ∙ (rw g refl) in rw j (rw s (rw g refl))
        which false g = let j : k ≡ 0 = f ∙ (rw g refl) in absurd (omega (arith, j))

    plain : (b == 92) ≡ false → (x : Bool) → is_printable b ≡ x → is_char (38 ∷ take k (b ∷ bs)) ≡ true
    plain s true g = let j : k ≡ 1 = e ∙ (rw s (rw g refl)) in rw j (rw g (rw s refl))
    plain s false g = let j : k ≡ 0 = e ∙ (rw s (rw g refl)) in absurd (omega (arith, j))

    by : (x : Bool) → (b == 92) ≡ x → is_char (38 ∷ take k (b ∷ bs)) ≡ true
    by true s = escaped bs s (e ∙ (rw s refl))
    by false s = plain s (is_printable b) refl

-- and no other front is one
is_other : (ws : List ℕ) (k : ℕ) → k ≤ length ws → k ≢ char_length ws → is_char (38 ∷ take k ws) ≡ false
is_other ws zero l d = refl
is_other [] (suc k) l d = absurd (omega arith)
is_other (b ∷ bs) (suc zero) l d = by (b == 92) (is_printable b) d
  where
    by : (s p : Bool) → ◌≢◌ {A = ℕ} 1 (if s then escape_length bs else (if p then 1 else 0)) → (p && not s) ≡ false
    by true true f = refl
    by true false f = refl
    by false true f = absurd (f refl)
    by false false f = refl
is_other (b ∷ []) (suc (suc k)) l d = absurd (omega arith)
is_other (b ∷ c ∷ bs) (suc (suc zero)) l d = by (b == 92) (is_escape c) (is_printable b) d
  where
    by : (s e p : Bool) → ◌≢◌ {A = ℕ} 2 (if s then (if e then 2 else 0) else (if p then 1 else 0)) → (s && e) ≡ false
    by true true p f = absurd (f refl)
    by true false p f = refl
    by false e p f = refl
is_other (b ∷ c ∷ []) (suc (suc (suc k))) l d = absurd (omega arith)
is_other (b ∷ c ∷ e ∷ bs) (suc (suc (suc k))) l d = refl

module _ (ws : List ℕ) where
  one_longest : (n : ℕ) → n ≡ char_length ws → n ≤ length ws → 0 < n → IsLongest (38 ∷ ws) (1 + n) sort.Char
  one_longest n e w l =
      let s : 1 + n ≡ suc n = omega arith in
      rw s (record { within = omega (arith, w); token = char_passes (take n ws) (is_one ws n l e); longest = more })
    where
      more : (m : ℕ) → suc n < m → m ≤ length (38 ∷ ws) → sort_of (take m (38 ∷ ws)) ≡ None
      more zero i j = absurd (omega arith)
      more (suc k) i j = char_fails (take k ws) (is_other ws k (omega arith) (λ d. omega (arith, d, e, i)))

  none_one : 0 ≡ char_length ws → NoToken (38 ∷ ws)
  none_one e zero i = refl
  none_one e (suc zero) i = char_fails [] refl
  none_one e (suc (suc k)) i = char_fails (take (suc k) ws) (is_other ws (suc k) (omega arith) (λ d. omega (arith, d, e)))

pub char_longest : (text : List ℕ) → begins_with 38 text ≡ true → (n : ℕ) → n ≡ char_length (drop 1 text) → n ≤ length (drop 1 text) → 0 < n → IsLongest text (1 + n) sort.Char
char_longest text o n e w l = subst (λ xs. IsLongest xs (1 + n) sort.Char) (sym (opened 38 text o)) (one_longest (drop 1 text) n e w l)

pub char_none : (text : List ℕ) → begins_with 38 text ≡ true → 0 ≡ char_length (drop 1 text) → NoToken text
char_none text o e = subst NoToken (sym (opened 38 text o)) (none_one (drop 1 text) e)
