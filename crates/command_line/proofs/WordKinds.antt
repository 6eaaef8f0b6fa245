-- What a word is, to clap and to the reading from the left.
use Rattle.std.proofs.Common.{◌≡◌, ◌∙◌, ◌⊎◌, ◌+◌, ap, refl, sym, subst, inl, inr, arith, ℕ, Bool, true, false, true≢false, [], ◌∷◌, drop, Option, Some, None, codes, cond, ◌&&◌, ◌==◌}
use Rattle.std.specs.Prelude.{slice_get}
use Rattle.std.proofs.Common.{suc, add-one}
use Rattle.std.proofs.lemmas.Bool.{eqb-true, eqb-false, ne_eqb}
use Rattle.std.specs.List.{list_any, before_first, after_first, position_or_len}
use Rattle.std.specs.Str.{bytes_eq, chars}
use Rattle.clap.specs.Lexer.{long_of, short_of, name_and_value}
use Rattle.clap.specs.Words.{Text}
use Rattle.oz_commands.specs.Commands.{OptionName, workers, budget, is_number}
use Rattle.command_line.specs.Reading.{option_name, value_part}
use Rattle.command_line.proofs.Leaf.{long_name}

abbrev pub IsPlain : Text → Type 0
IsPlain x = (short_of x ≡ None) ⊎ ((f : ℕ) × (fs : Text) × (short_of x ≡ Some (f ∷ fs)) × (slice_get (chars (f ∷ fs)) 0 ≡ None))

abbrev pub NoNumber : Text → Type 0
NoNumber x = (n : OptionName) → is_number n x ≡ false

pub data Kind (x : Text) : Type 0 where
  long : (name : Text) (value : Option Text) → long_of x ≡ Some (name, value) → option_name x ≡ long_name name → value_part x ≡ value
      → NoNumber x → Kind x
  short : (f : ℕ) (fs : Text) (y : ℕ) → long_of x ≡ None → short_of x ≡ Some (f ∷ fs) → slice_get (chars (f ∷ fs)) 0 ≡ Some y
      → option_name x ≡ None → NoNumber x → Kind x
  plain : long_of x ≡ None → IsPlain x → option_name x ≡ None → Kind x

pub dead : (a b c : Bool) → (((a && false) && b) && c) ≡ false
dead true b c = refl
dead false b c = refl

-- a word that begins with a hyphen is no number
pub hyphen_no_number : (x : ℕ) (xs : Text) → (x == 45) ≡ true → NoNumber (x ∷ xs)
hyphen_no_number x xs e n = subst (λ (y : ℕ). is_number n (y ∷ xs) ≡ false) (sym (eqb-true x 45 e)) (go n)
  where
    go : (n : OptionName) → is_number n (45 ∷ xs) ≡ false
    go workers = dead _ _ _
    go budget = dead _ _ _

other : (a b : ℕ) → (a == b) ≡ false → (b == a) ≡ false
other a b e = ne_eqb b a (λ h. eqb-false a b e (sym h))

one_more : (n : ℕ) → 1 + n ≡ suc n
one_more n = omega arith

abbrev dashed : Text → Option OptionName
dashed name = cond (bytes_eq (codes "--workers") name) (Some workers) (cond (bytes_eq (codes "--budget") name) (Some budget) None)

pub before_cons : (x : ℕ) (xs : Text) → (x == 61) ≡ false → before_first (λ c. c == 61) (x ∷ xs) ≡ x ∷ before_first (λ c. c == 61) xs
before_cons x xs e = rw (e, one_more) refl

pub after_cons : (x : ℕ) (xs : Text) → (x == 61) ≡ false → after_first (λ c. c == 61) (x ∷ xs) ≡ after_first (λ c. c == 61) xs
after_cons x xs e = rw (e, one_more) (ap (λ k. drop k (x ∷ xs)) (add-one (suc (position_or_len (λ c. c == 61) xs))) ∙ ap (λ k. drop k xs) (sym (add-one (position_or_len (λ c. c == 61) xs))))

dashed_first : (z : ℕ) (zs : Text) → (z == 45) ≡ false → dashed (z ∷ zs) ≡ None
dashed_first z zs e = rw (other z 45 e) refl

dashed_second : (z : ℕ) (zs : Text) → (z == 45) ≡ false → dashed (45 ∷ z ∷ zs) ≡ None
dashed_second z zs e = rw (other z 45 e) refl

pub no_option_first : (x : ℕ) (xs : Text) → (x == 45) ≡ false → option_name (x ∷ xs) ≡ None
no_option_first x xs e = go (x == 61) refl
  where
    go : (b : Bool) → (x == 61) ≡ b → option_name (x ∷ xs) ≡ None
    go true h = rw h refl
    go false h = ap dashed (before_cons x xs h) ∙ dashed_first x (before_first (λ c. c == 61) xs) e

pub no_option_second : (y : ℕ) (ys : Text) → (y == 45) ≡ false → option_name (45 ∷ y ∷ ys) ≡ None
no_option_second y ys e = ap dashed (before_cons 45 (y ∷ ys) refl) ∙ go (y == 61) refl
  where
    go : (b : Bool) → (y == 61) ≡ b → dashed (45 ∷ before_first (λ c. c == 61) (y ∷ ys)) ≡ None
    go true h = rw h refl
    go false h = ap (λ t. dashed (45 ∷ t)) (before_cons y ys h) ∙ dashed_second y (before_first (λ c. c == 61) ys) e

pub option_third : (z : ℕ) (zs : Text) → option_name (45 ∷ 45 ∷ z ∷ zs) ≡ long_name (name_and_value (z ∷ zs)).0
option_third z zs = ap dashed (before_cons 45 (45 ∷ z ∷ zs) refl ∙ ap (λ t. 45 ∷ t) (before_cons 45 (z ∷ zs) refl))

pub value_third : (z : ℕ) (zs : Text) → value_part (45 ∷ 45 ∷ z ∷ zs) ≡ (name_and_value (z ∷ zs)).1
value_third z zs = ap (λ t. cond (list_any (λ c. c == 61) (z ∷ zs)) (Some t) None)
    (after_cons 45 (45 ∷ z ∷ zs) refl ∙ after_cons 45 (z ∷ zs) refl)

-- each word but the bare `--` is of one kind
pub classify : (x : Text) → bytes_eq x (45 ∷ 45 ∷ []) ≡ false → Kind x
classify [] e = plain refl (inl refl) refl
classify (x ∷ xs) e = go (x == 45) refl xs e
  where
    short_tail : (f : ℕ) (fs : Text) → long_of (x ∷ f ∷ fs) ≡ None → short_of (x ∷ f ∷ fs) ≡ Some (f ∷ fs) → option_name (x ∷ f ∷ fs) ≡ None
        → NoNumber (x ∷ f ∷ fs) → (o : Option ℕ) → slice_get (chars (f ∷ fs)) 0 ≡ o → Kind (x ∷ f ∷ fs)
    short_tail f fs l s n k None c = plain l (inr (f, fs, s, c)) n
    short_tail f fs l s n k (Some y) c = short f fs y l s c n k

    two : (x == 45) ≡ true → (f : ℕ) (fs : Text) → bytes_eq (x ∷ f ∷ fs) (45 ∷ 45 ∷ []) ≡ false → (b : Bool) → (f == 45) ≡ b → Kind (x ∷ f ∷ fs)
    two h f fs e false g =
        let is : x ≡ 45 = eqb-true x 45 h in
        short_tail f fs (rw (h, g) refl) (rw (h, g) refl)
        (subst (λ (y : ℕ). option_name (y ∷ f ∷ fs) ≡ None) (sym is) (no_option_second f fs g)) (hyphen_no_number x (f ∷ fs) h) _ refl
    two h f [] e true g = absurd (true≢false (rw (h, g) at e))
    two h f (z ∷ zs) e true g =
        let is : x ≡ 45 = eqb-true x 45 h in
        let is2 : f ≡ 45 = eqb-true f 45 g in
        long (name_and_value (z ∷ zs)).0 (name_and_value (z ∷ zs)).1 (rw (h, g) refl)
        (subst (λ (y : ℕ). option_name (y ∷ f ∷ z ∷ zs) ≡ long_name (name_and_value (z ∷ zs)).0) (sym is)
        (subst (λ (y : ℕ). option_name (45 ∷ y ∷ z ∷ zs) ≡ long_name (name_and_value (z ∷ zs)).0) (sym is2) (option_third z zs)))
        (subst (λ (y : ℕ). value_part (y ∷ f ∷ z ∷ zs) ≡ (name_and_value (z ∷ zs)).1) (sym is)
        (subst (λ (y : ℕ). value_part (45 ∷ y ∷ z ∷ zs) ≡ (name_and_value (z ∷ zs)).1) (sym is2) (value_third z zs)))
        (hyphen_no_number x (f ∷ z ∷ zs) h)

    go : (b : Bool) → (x == 45) ≡ b → (xs : Text) → bytes_eq (x ∷ xs) (45 ∷ 45 ∷ []) ≡ false → Kind (x ∷ xs)
    go false h xs e = plain (rw h refl) (inl (rw h refl)) (no_option_first x xs h)
    go true h [] e = plain (rw h refl) (inl (rw h refl))
        (subst (λ (y : ℕ). option_name (y ∷ []) ≡ None) (sym (eqb-true x 45 h)) refl)
    go true h (f ∷ fs) e = two h f fs e (f == 45) refl
