-- Tells in chunks.
use Rattle.std.proofs.Common.{ℕ, zero, suc, ◌≡◌, ◌∙◌, ◌+◌, ◌*◌, ◌<◌, List, [], ◌∷◌, ◌++◌, length, Option, Some, None, slice_get, refl, sym, ap, arith, append_assoc, append-nil, length-append, subst}
use Rattle.std.specs.List.{flat_map}
use Rattle.oz_semantics.specs.declared.value.Tell.{Tell}
use Rattle.term_store.specs.Logs.{with_ended, AllFull}

length_joined : (cs : List (List Tell)) → AllFull cs → length (flat_map (λ c. c) cs) ≡ 32 * length cs
length_joined [] f = omega arith
length_joined (c ∷ cs) f = omega (arith, length-append c (flat_map (λ d. d) cs), f.0, length_joined cs f.1)

pub length_told : (cs : List (List Tell)) (r : List Tell) → AllFull cs → length (flat_map (λ c. c) cs ++ r) ≡ 32 * length cs + length r
length_told cs r f = omega (arith, length-append (flat_map (λ c. c) cs) r, length_joined cs f)

-- a chunk more
pub full_more : (cs : List (List Tell)) (c : List Tell) → AllFull cs → length c ≡ 32 → AllFull (cs ++ c ∷ [])
full_more [] c f e = (e, _)
full_more (d ∷ cs) c f e = (f.0, full_more cs c f.1 e)

get_before : (xs ys : List Tell) (i : ℕ) → i < length xs → slice_get (xs ++ ys) i ≡ slice_get xs i
get_before [] ys i h = absurd (omega (arith, h))
get_before (x ∷ xs) ys zero h = refl
get_before (x ∷ xs) ys (suc i) h = get_before xs ys i (omega (arith, h))

get_behind : (xs ys : List Tell) (i j : ℕ) → i ≡ length xs + j → slice_get (xs ++ ys) i ≡ slice_get ys j
get_behind [] ys i j e = ap (slice_get ys) (omega (arith, e))
get_behind (x ∷ xs) ys zero j e = absurd (omega (arith, e))
get_behind (x ∷ xs) ys (suc i) j e = get_behind xs ys i j (omega (arith, e))

pub get_rest : (cs : List (List Tell)) (r : List Tell) → AllFull cs → (i j : ℕ) → i ≡ 32 * length cs + j → slice_get (flat_map (λ c. c) cs ++ r) i ≡ slice_get r j
get_rest cs r f i j e = get_behind (flat_map (λ c. c) cs) r i j (omega (arith, e, length_joined cs f))

pub get_chunk : (cs : List (List Tell)) (r : List Tell) → AllFull cs → (k j i : ℕ) (c : List Tell) → slice_get cs k ≡ Some c → j < 32 → i ≡ 32 * k + j → slice_get (flat_map (λ c. c) cs ++ r) i ≡ slice_get c j
get_chunk [] r f k j i c at within e = cc
get_chunk (d ∷ cs) r f zero j i c at within e =
    let is : d ≡ c = cc in
    ap (λ ts. slice_get ts i) (append_assoc d (flat_map (λ c. c) cs) r)
    ∙ get_before d (flat_map (λ c. c) cs ++ r) i (omega (arith, f.0, within, e))
    ∙ ap (slice_get d) (omega (arith, e))
    ∙ ap (λ c. slice_get c j) is
get_chunk (d ∷ cs) r f (suc k) j i c at within e =
    let n : i ≡ length d + (32 * k + j) = omega (arith, e, f.0) in
    ap (λ ts. slice_get ts i) (append_assoc d (flat_map (λ c. c) cs) r)
    ∙ get_behind d (flat_map (λ c. c) cs ++ r) i (32 * k + j) n
    ∙ get_chunk cs r f.1 k j (32 * k + j) c at within refl

-- The chunk that ended last

past : (cs : List (List Tell)) (n : ℕ) → n ≡ length cs → slice_get cs n ≡ None
past [] n e = refl
past (c ∷ cs) zero e = absurd (omega (arith, e))
past (c ∷ cs) (suc n) e = past cs n (omega (arith, e))

last : (cs : List (List Tell)) (c : List Tell) (n : ℕ) → n ≡ length cs → slice_get (cs ++ c ∷ []) n ≡ Some c
last [] c zero e = refl
last [] c (suc n) e = absurd (omega (arith, e))
last (d ∷ cs) c zero e = absurd (omega (arith, e))
last (d ∷ cs) c (suc n) e = last cs c n (omega (arith, e))

elsewhere : (cs : List (List Tell)) (c : List Tell) (n : ℕ) → (n ≡ length cs → ⊥) → slice_get (cs ++ c ∷ []) n ≡ slice_get cs n
elsewhere [] c zero h = absurd (h refl)
elsewhere [] c (suc n) h = refl
elsewhere (d ∷ cs) c zero h = refl
elsewhere (d ∷ cs) c (suc n) h = elsewhere cs c n (λ e. h (omega (arith, e)))

pub at_end : (cs : List (List Tell)) (ended : Option (List Tell)) (n : ℕ) → n ≡ length cs → slice_get (with_ended cs ended) n ≡ ended
at_end cs None n e = past cs n e
at_end cs (Some c) n e = last cs c n e

pub before_end : (cs : List (List Tell)) (ended : Option (List Tell)) (n : ℕ) → (n ≡ length cs → ⊥) → slice_get (with_ended cs ended) n ≡ slice_get cs n
before_end cs None n h = refl
before_end cs (Some c) n h = elsewhere cs c n h

pub none_at : (cs : List (List Tell)) (k : ℕ) → slice_get cs k ≡ None → k < length cs → ⊥
none_at [] k e h = omega (arith, h)
none_at (c ∷ cs) zero e h = cc
none_at (c ∷ cs) (suc k) e h = none_at cs k e (omega (arith, h))

pub ended_more : (cs : List (List Tell)) (ended : Option (List Tell)) (c : List Tell) → ended ≡ None → with_ended cs (Some c) ≡ with_ended cs ended ++ c ∷ []
ended_more cs ended c e = ap (λ o. with_ended cs o ++ c ∷ []) (sym e)

joined_more : (cs : List (List Tell)) (c : List Tell) → flat_map (λ d. d) (cs ++ c ∷ []) ≡ flat_map (λ d. d) cs ++ c
joined_more [] c = append-nil c
joined_more (d ∷ cs) c = ap (λ ts. d ++ ts) (joined_more cs c) ∙ sym (append_assoc d (flat_map (λ e. e) cs) c)

-- a chunk of the rest has ended, after the one before went to the others
module _ (cs cs' : List (List Tell)) (ended ended' : Option (List Tell)) (c r r' : List Tell) (same : with_ended cs' ended' ≡ with_ended cs ended) (filed : ended' ≡ None) (is : c ≡ r) (none : r' ≡ []) where
  now : with_ended cs' (Some c) ≡ with_ended cs ended ++ c ∷ []
  now = ended_more cs' ended' c filed ∙ ap (λ ds. ds ++ c ∷ []) same

  pub ended_count : length (with_ended cs' (Some c)) ≡ length (with_ended cs ended) + 1
  ended_count = omega (arith, ap length now, length-append (with_ended cs ended) (c ∷ []))

  pub ended_told : flat_map (λ d. d) (with_ended cs' (Some c)) ++ r' ≡ flat_map (λ d. d) (with_ended cs ended) ++ r
  ended_told =
      ap (λ ts. flat_map (λ d. d) (with_ended cs' (Some c)) ++ ts) none
      ∙ append-nil (flat_map (λ d. d) (with_ended cs' (Some c)))
      ∙ ap (flat_map (λ d. d)) now
      ∙ joined_more (with_ended cs ended) c
      ∙ ap (λ ts. flat_map (λ d. d) (with_ended cs ended) ++ ts) is

  pub ended_full : AllFull (with_ended cs ended) → length r ≡ 32 → AllFull (with_ended cs' (Some c))
  ended_full f full = subst AllFull (sym now) (full_more (with_ended cs ended) c f (ap length is ∙ full))
