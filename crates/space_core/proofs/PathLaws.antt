-- The places of the spaces that lead to one.
use Rattle.std.proofs.Common.{◌≡◌, ℕ, ◌+◌, ◌-◌, ◌<◌, arith, Bool, true, false, ◌||◌, List, [], ◌∷◌, ◌++◌, take, length, refl, sym, ap, ap₂, ◌∙◌, slice_index_or, Result, Ok, Err, append_assoc}
use Rattle.std.specs.Prelude.{OnOk}
use Rattle.std.specs.List.{list_any}
use Rattle.std.proofs.lemmas.List.{take_more, take_all, append-nil}
use Rattle.space_core.specs.Fates.{EndsWith, IsLedTo, is_parent_at}
use Rattle.space_core.specs.declared.level.Level.{Level}

-- what was taken off the end, of which none passes
pub record IsLeft (test : ℕ → Bool) (old now : List ℕ) : Type 0 where
  pub gone : List ℕ
  pub split : old ≡ now ++ gone
  pub others : list_any test gone ≡ false

pub nothing_gone : (test : ℕ → Bool) (xs : List ℕ) → IsLeft test xs xs
nothing_gone test xs = record { gone = []; split = sym (append-nil xs); others = refl }

-- the last one, by its place
pub ends : (xs : List ℕ) → 0 < length xs → (i x : ℕ) → i ≡ length xs - 1 → x ≡ slice_index_or xs i x → xs ≡ take i xs ++ x ∷ []
ends xs more i x at read =
    let within : i < length xs = omega (arith, at, more) in
    let all : length xs ≡ i + 1 = omega (arith, at, more) in
    sym (take_all (length xs) xs (omega arith)) ∙ ap (λ n. take n xs) all ∙ take_more xs i x within ∙ ap (λ (y : ℕ). take i xs ++ y ∷ []) (sym read)

last_same : (xs ys : List ℕ) (x y : ℕ) → xs ++ x ∷ [] ≡ ys ++ y ∷ [] → x ≡ y
last_same [] [] x y e = cc
last_same [] (z ∷ []) x y e = absurd (cc)
last_same [] (z ∷ w ∷ ys) x y e = absurd (cc)
last_same (z ∷ []) [] x y e = absurd (cc)
last_same (z ∷ w ∷ xs) [] x y e = absurd (cc)
last_same (z ∷ xs) (w ∷ ys) x y e = last_same xs ys x y (cc)

module _ (test : ℕ → Bool) (old now : List ℕ) (left : IsLeft test old now) (more : 0 < length now) (i x : ℕ) (at : i ≡ length now - 1) (read : x ≡ slice_index_or now i x) where
  -- the last passes
  pub ends_with : test x ≡ true → EndsWith test x old now
  ends_with e = record {
    front = take i now;
    behind = left.gone;
    before = left.split ∙ ap (λ (xs : List ℕ). xs ++ left.gone) (ends now more i x at read) ∙ append_assoc (take i now) (x ∷ []) left.gone;
    passes = e;
    others = left.others;
    left = ends now more i x at read;
  }

  -- or is taken off
  pub one_gone : (rest : List ℕ) (y : ℕ) → now ≡ rest ++ y ∷ [] → test x ≡ false → IsLeft test old rest
  one_gone rest y e f =
      let same : x ≡ y = last_same (take i now) rest x y (sym (ends now more i x at read) ∙ e) in
      record {
        gone = y ∷ left.gone;
        split = left.split ∙ ap (λ (xs : List ℕ). xs ++ left.gone) e ∙ append_assoc rest (y ∷ []) left.gone;
        others = ap₂ (λ (a b : Bool). a || b) (ap test (sym same) ∙ f) left.others;
      }

pub none_left : (test : ℕ → Bool) (old now : List ℕ) → IsLeft test old now → now ≡ [] → list_any test old ≡ false
none_left test old now left e = ap (list_any test) (left.split ∙ ap (λ (xs : List ℕ). xs ++ left.gone) e) ∙ left.others

-- what led to the space before leads to the parent
pub led_by : {A E : Type 0} (r : Result A E) (levels : List Level) (space old new : List ℕ) (place : ℕ) → EndsWith (is_parent_at levels space) place old new → OnOk r (IsLedTo levels space old new)
led_by (Ok a) levels space old new place e = record { place = place; ends = e }
led_by (Err e) levels space old new place ends = tt
