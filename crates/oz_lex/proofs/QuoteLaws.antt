-- Texts in quotes: how they go on, and where they close.
use Rattle.std.proofs.Common.{◌≡◌, ◌≢◌, ◌≤◌, ◌<◌, ◌+◌, ◌-◌, ◌==◌, ◌&&◌, ◌⊎◌, inl, inr, ℕ, zero, suc, List, [], ◌∷◌, length, take, drop, Bool, true, false, Option, Some, None, refl, ap, sym, ◌∙◌, subst, arith, length-drop}
use Rattle.std.specs.Prelude.{if◌then◌else◌, option_map, unwrap_or}
use Rattle.std.proofs.lemmas.Bool.Decides.{nat_tests}
use Rattle.std.proofs.lemmas.List.{drop-drop}
use Rattle.oz_language.specs.Tokens.{is_printable, is_escape, is_closed, is_closed_behind, is_quoted, wrong_inside, wrong_behind}
use Rattle.oz_lex.specs.Scanning.{begins_with, char_length, escape_length, step_length, is_cut_off, GoesOn, IsQuotedFront, NoQuotedFront}
use Rattle.oz_lex.proofs.Fronts.{begins_within}

same_byte : (b : ℕ) → (b == b) ≡ true
same_byte b = grind (arith, nat_tests)

byte_is : (b c : ℕ) → (b == c) ≡ true → b ≡ c
byte_is b c h = grind (arith, nat_tests)

-- a text that begins with a byte
pub opened : (quote : ℕ) (text : List ℕ) → begins_with quote text ≡ true → text ≡ quote ∷ drop 1 text
opened quote [] h = absurd (cc)
opened quote (b ∷ bs) h = ap (λ x. x ∷ bs) (byte_is b quote h)

-- ---- a text in quotes goes on

map_one : (o : Option ℕ) → option_map suc o ≡ option_map (λ k. 1 + k) o
map_one None = refl
map_one (Some k) = ap Some (omega arith)

map_two : (o : Option ℕ) → option_map (λ n. suc (suc n)) o ≡ option_map (λ k. 2 + k) o
map_two None = refl
map_two (Some k) = ap Some (omega arith)

map_sum : (n m : ℕ) (o : Option ℕ) → option_map (λ k. n + k) (option_map (λ k. m + k) o) ≡ option_map (λ k. (n + m) + k) o
map_sum n m None = refl
map_sum n m (Some k) = ap Some (omega arith)

module _ (quote : ℕ) where
  goes_byte : (b : ℕ) (bs : List ℕ) → (b == quote) ≡ false → (b == 92) ≡ false → is_printable b ≡ true → GoesOn quote (b ∷ bs) 1
  goes_byte b bs q s p = record {
    within = omega arith;
    open_yet = before;
    closing = λ m. let e : 1 + m ≡ suc m = omega arith in rw e (rw q (rw s (rw p refl)));
    wrong = rw q (rw s (rw p (map_one (wrong_inside quote bs))));
  }
    where
      before : (m : ℕ) → m < 1 → is_closed quote (take m (b ∷ bs)) ≡ false
      before zero l = refl
      before (suc m) l = absurd (omega arith)

  goes_escape : (b c : ℕ) (bs : List ℕ) → (b == quote) ≡ false → (b == 92) ≡ true → is_escape c ≡ true → GoesOn quote (b ∷ c ∷ bs) 2
  goes_escape b c bs q s p = record {
    within = omega arith;
    open_yet = before;
    closing = λ m. let e : 2 + m ≡ suc (suc m) = omega arith in rw e (rw q (rw s (rw p refl)));
    wrong = rw q (rw s (rw p (map_two (wrong_inside quote bs))));
  }
    where
      before : (m : ℕ) → m < 2 → is_closed quote (take m (b ∷ c ∷ bs)) ≡ false
      before zero l = refl
      before (suc zero) l = rw q (rw s refl)
      before (suc (suc m)) l = absurd (omega arith)

  goes_char : (b : ℕ) (bs : List ℕ) (n : ℕ) → (b == quote) ≡ false → n ≡ char_length (b ∷ bs) → 0 < n → GoesOn quote (b ∷ bs) n
  goes_char b bs n q e l = by (b == 92) refl
    where
      escaped : (s : (b == 92) ≡ true) (cs : List ℕ) → n ≡ escape_length cs → GoesOn quote (b ∷ cs) n
      escaped s [] f = absurd (omega (arith, f))
      escaped s (c ∷ cs) f = which (is_escape c) refl
        where
          which : (x : Bool) → is_escape c ≡ x → GoesOn quote (b ∷ c ∷ cs) n
          which true g = let k : n ≡ 2 = f ∙ (rw g refl) in subst (GoesOn quote (b ∷ c ∷ cs)) (sym k) (goes_escape b c cs q s g)
          which false g = let k : n ≡ 0 = f ∙ (rw g refl) in absurd (omega (arith, k))

      plain : (s : (b == 92) ≡ false) (x : Bool) → is_printable b ≡ x → GoesOn quote (b ∷ bs) n
      plain s true g = let k : n ≡ 1 = e ∙ (rw s (rw g refl)) in subst (GoesOn quote (b ∷ bs)) (sym k) (goes_byte b bs q s g)
      plain s false g = let k : n ≡ 0 = e ∙ (rw s (rw g refl)) in absurd (omega (arith, k))

      by : (x : Bool) → (b == 92) ≡ x → GoesOn quote (b ∷ bs) n
      by true s = let k : n ≡ escape_length bs = e ∙ (rw s refl) in escaped s bs k
      by false s = plain s (is_printable b) refl

  -- each step goes on
  step_goes : (text : List ℕ) (n : ℕ) → n ≡ step_length quote text → 0 < n → GoesOn quote text n
  step_goes [] n e l = absurd (omega (arith, e))
  step_goes (b ∷ bs) n e l = by (b == quote) refl
    where
      by : (x : Bool) → (b == quote) ≡ x → GoesOn quote (b ∷ bs) n
      by true q = let k : n ≡ 0 = e ∙ (rw q refl) in absurd (omega (arith, k))
      by false q = goes_char b bs n q (e ∙ (rw q refl)) l

  -- and what goes on behind it
  goes_further : (text : List ℕ) (n k : ℕ) → GoesOn quote text n → GoesOn quote (drop n text) k → GoesOn quote text (n + k)
  goes_further text n k g h = record {
    within = let a = g.within in let b = h.within in omega (arith, a, b, length-drop n text);
    open_yet = λ m l. before m l (grind arith);
    closing = λ m. let e : (n + k) + m ≡ n + (k + m) = omega arith in
        rw e (g.closing (k + m) ∙ h.closing m ∙ ap (λ xs. is_closed quote (take m xs)) (drop-drop k n text));
    wrong = g.wrong ∙ ap (option_map (λ j. n + j)) h.wrong ∙ map_sum n k (wrong_inside quote (drop k (drop n text)))
        ∙ ap (λ xs. option_map (λ j. (n + k) + j) (wrong_inside quote xs)) (drop-drop k n text);
  }
    where
      before : (m : ℕ) → m < n + k → (m < n) ⊎ (n ≤ m) → is_closed quote (take m text) ≡ false
      before m l (inl i) = g.open_yet m i
      before m l (inr i) =
          let e : n + (m - n) ≡ m = omega arith in
          subst (λ j. is_closed quote (take j text) ≡ false) e (g.closing (m - n) ∙ h.open_yet (m - n) (omega arith))

  pub next_step : (text : List ℕ) (n step : ℕ) → GoesOn quote text n → step ≡ step_length quote (drop n text) → 0 < step → GoesOn quote text (n + step)
  next_step text n step g e l = goes_further text n step g (step_goes (drop n text) step e l)

  -- ---- where it ends

  closes_here : (text : List ℕ) → begins_with quote text ≡ true → is_closed quote (take 1 text) ≡ true
  closes_here [] h = absurd (cc)
  closes_here (b ∷ bs) h = rw h refl

  closes_once : (text : List ℕ) (m : ℕ) → begins_with quote text ≡ true → m ≤ length text → m ≢ 1 → is_closed quote (take m text) ≡ false
  closes_once [] m h l d = absurd (cc)
  closes_once (b ∷ bs) zero h l d = refl
  closes_once (b ∷ bs) (suc zero) h l d = absurd (d refl)
  closes_once (b ∷ []) (suc (suc m)) h l d = absurd (omega arith)
  closes_once (b ∷ c ∷ bs) (suc (suc m)) h l d = rw h refl

  -- no step, and no quote: it is never closed
  never_behind : (text : List ℕ) (m : ℕ) → escape_length text ≡ 0 → is_closed_behind quote (take m text) ≡ false
  never_behind text zero e = refl
  never_behind [] (suc m) e = refl
  never_behind (c ∷ cs) (suc m) e = by (is_escape c) e
    where
      by : (x : Bool) → ◌≡◌ {A = ℕ} (if x then 2 else 0) 0 → (x && is_closed quote (take m cs)) ≡ false
      by true f = absurd (omega (arith, f))
      by false f = refl

  never : (text : List ℕ) (m : ℕ) → step_length quote text ≡ 0 → begins_with quote text ≡ false → is_closed quote (take m text) ≡ false
  never text zero e h = refl
  never [] (suc m) e h = refl
  never (b ∷ bs) (suc m) e h = rw h (by (b == 92) (is_printable b) (rw h at e))
    where
      by : (s p : Bool) → ◌≡◌ {A = ℕ} (if s then escape_length bs else (if p then 1 else 0)) 0
          → (if s then is_closed_behind quote (take m bs) else (p && is_closed quote (take m bs))) ≡ false
      by true p f = never_behind bs m f
      by false true f = absurd (omega (arith, f))
      by false false f = refl

  cut_off : (text : List ℕ) → begins_with quote text ≡ false → is_cut_off text ≡ true → wrong_inside quote text ≡ None
  cut_off [] h e = refl
  cut_off (b ∷ []) h e = rw h (rw e refl)
  cut_off (b ∷ c ∷ bs) h e = absurd (cc)

  wrong_here : (text : List ℕ) → step_length quote text ≡ 0 → begins_with quote text ≡ false → is_cut_off text ≡ false → wrong_inside quote text ≡ Some 0
  wrong_here [] e h f = absurd (cc)
  wrong_here (b ∷ bs) e h f = rw h (by (b == 92) (is_printable b) refl (rw h at e))
    where
      behind : (cs : List ℕ) → (b == 92) ≡ true → is_cut_off (b ∷ cs) ≡ false → escape_length cs ≡ 0 → wrong_behind quote cs ≡ Some 0
      behind [] s g k = absurd (cc)
      behind (c ∷ cs) s g k = which (is_escape c) k
        where
          which : (x : Bool) → ◌≡◌ {A = ℕ} (if x then 2 else 0) 0 → (if x then option_map (λ n. suc (suc n)) (wrong_inside quote cs) else Some 0) ≡ Some 0
          which true j = absurd (omega (arith, j))
          which false j = refl

      by : (s p : Bool) → (b == 92) ≡ s → ◌≡◌ {A = ℕ} (if s then escape_length bs else (if p then 1 else 0)) 0
          → (if s then wrong_behind quote bs else (if p then option_map suc (wrong_inside quote bs) else Some 0)) ≡ Some 0
      by true p s g = behind bs s f g
      by false true s g = absurd (omega (arith, g))
      by false false s g = refl

  -- ---- the whole

  module _ (xs : List ℕ) (n : ℕ) (g : GoesOn quote xs n) where
    -- a front that closes is one by itself
    front : (k : ℕ) → is_closed quote (take k xs) ≡ false → is_quoted quote (take (suc k) (quote ∷ xs)) ≡ false
    front k e = rw (same_byte quote) e

    closed : begins_with quote (drop n xs) ≡ true → IsQuotedFront quote (quote ∷ xs) (n + 2)
    closed h = record {
      within = let w = begins_within (λ b. b == quote) xs n h in omega (arith, w);
      quoted = let e : n + 2 ≡ suc (n + 1) = omega arith in
          rw e (rw (same_byte quote) (g.closing 1 ∙ closes_here (drop n xs) h));
      only = only;
    }
      where
        behind : (k : ℕ) → k ≤ length xs → k ≢ n + 1 → (k < n) ⊎ (n ≤ k) → is_closed quote (take k xs) ≡ false
        behind k l d (inl i) = g.open_yet k i
        behind k l d (inr i) =
            let e : n + (k - n) ≡ k = omega arith in
            let other : (k - n) ≢ 1 = λ f. d (omega (arith, f)) in
            subst (λ j. is_closed quote (take j xs) ≡ false) e
            (g.closing (k - n) ∙ closes_once (drop n xs) (k - n) h (omega (arith, length-drop n xs)) other)

        only : (m : ℕ) → m ≤ length (quote ∷ xs) → m ≢ n + 2 → is_quoted quote (take m (quote ∷ xs)) ≡ false
        only zero l d = refl
        only (suc k) l d = front k (behind k (omega arith) (λ f. d (omega (arith, f))) (grind arith))

    module _ (stop : step_length quote (drop n xs) ≡ 0) (h : begins_with quote (drop n xs) ≡ false) where
      open_ever : (m : ℕ) → is_quoted quote (take m (quote ∷ xs)) ≡ false
      open_ever zero = refl
      open_ever (suc k) = front k (by (grind arith))
        where
          by : (k < n) ⊎ (n ≤ k) → is_closed quote (take k xs) ≡ false
          by (inl i) = g.open_yet k i
          by (inr i) =
              let e : n + (k - n) ≡ k = omega arith in
              subst (λ j. is_closed quote (take j xs) ≡ false) e (g.closing (k - n) ∙ never (drop n xs) (k - n) stop h)

      never_closed : is_cut_off (drop n xs) ≡ true → NoQuotedFront quote (quote ∷ xs) 0
      never_closed c =
          let w : wrong_inside quote xs ≡ None = g.wrong ∙ ap (option_map (λ k. n + k)) (cut_off (drop n xs) h c) in
          record { none = open_ever; place = ap (λ o. unwrap_or (option_map suc o) 0) (sym w); within = omega arith }

      wrong_byte : is_cut_off (drop n xs) ≡ false → NoQuotedFront quote (quote ∷ xs) (n + 1)
      wrong_byte c =
          let w : wrong_inside quote xs ≡ Some (n + 0) = g.wrong ∙ ap (option_map (λ k. n + k)) (wrong_here (drop n xs) stop h c) in
          let e : n + 1 ≡ suc (n + 0) = omega arith in
          record { none = open_ever; place = e ∙ ap (λ o. unwrap_or (option_map suc o) 0) (sym w); within = let i = g.within in omega (arith, i) }

-- the same of a text that begins with the quote
module _ (quote : ℕ) (text : List ℕ) (o : begins_with quote text ≡ true) (n : ℕ) (g : GoesOn quote (drop 1 text) n) where
  pub quoted_front : begins_with quote (drop n (drop 1 text)) ≡ true → IsQuotedFront quote text (n + 2)
  quoted_front h = subst (λ xs. IsQuotedFront quote xs (n + 2)) (sym (opened quote text o)) (closed quote (drop 1 text) n g h)

  module _ (stop : step_length quote (drop n (drop 1 text)) ≡ 0) (h : begins_with quote (drop n (drop 1 text)) ≡ false) where
    pub cut_front : is_cut_off (drop n (drop 1 text)) ≡ true → NoQuotedFront quote text 0
    cut_front c = subst (λ xs. NoQuotedFront quote xs 0) (sym (opened quote text o)) (never_closed quote (drop 1 text) n g stop h c)

    pub wrong_front : is_cut_off (drop n (drop 1 text)) ≡ false → NoQuotedFront quote text (n + 1)
    wrong_front c = subst (λ xs. NoQuotedFront quote xs (n + 1)) (sym (opened quote text o)) (wrong_byte quote (drop 1 text) n g stop h c)
