-- Four functions side by side, of which one is changed.
use Rattle.std.proofs.Common.{◌≡◌, ℕ, Bool, true, false, cond, ◌+◌, ◌*◌, ◌/◌, ◌%◌, ◌≤◌, Option, None, Result, Ok, Err, refl, sym, ap, ◌∙◌, arith}
use Rattle.std.specs.Prelude.{eqb}
use Rattle.std.proofs.Math.Path.{fun_ext}
use Rattle.std.proofs.lemmas.Nat.{div-add-mod'}
use Rattle.std.proofs.lemmas.Bool.{eq-eqb, eqb-true}
use Rattle.shared_map.specs.Lookup.{choice, join, nothing, placed, Swapped}

pub choice_beyond : {X : Type 0} (i : ℕ) (a b c d e : X) → 4 ≤ i → choice i a b c d e ≡ e
choice_beyond i a b c d e h = grind arith

pub choice_others : {X : Type 0} (i : ℕ) (a e : X) → 1 ≤ i → choice i a e e e e ≡ e
choice_others i a e h = grind arith

choice_same : {X : Type 0} (i : ℕ) (e : X) → choice i e e e e e ≡ e
choice_same i e = grind arith

-- two numbers are one where their places are
same_place : (p j k : ℕ) → j / p ≡ k / p → j % p ≡ k % p → j ≡ k
same_place p j k e f = sym (div-add-mod' j p) ∙ ap (λ q. q * p + j % p) e ∙ ap (λ r. k / p * p + r) f ∙ div-add-mod' k p

not_both : (s t : Bool) → (s ≡ true → t ≡ true → ⊥) → false ≡ cond s t false
not_both true true h = absurd (h refl refl)
not_both true false h = refl
not_both false t h = refl

by_places : (p j k : ℕ) → eqb j k ≡ cond (eqb (j / p) (k / p)) (eqb (j % p) (k % p)) false
by_places p j k = by (eqb j k) refl
  where
    one : j ≡ k → eqb j k ≡ cond (eqb (j / p) (k / p)) (eqb (j % p) (k % p)) false
    one e = rw (eq-eqb j k e, eq-eqb (j / p) (k / p) (ap (λ n. n / p) e), eq-eqb (j % p) (k % p) (ap (λ n. n % p) e)) refl

    by : (s : Bool) → eqb j k ≡ s → eqb j k ≡ cond (eqb (j / p) (k / p)) (eqb (j % p) (k % p)) false
    by true e = one (eqb-true j k e)
    by false e =
        e ∙ not_both (eqb (j / p) (k / p)) (eqb (j % p) (k % p))
        (λ s t. let same : eqb j k ≡ true = eq-eqb j k (same_place p j k (eqb-true (j / p) (k / p) s) (eqb-true (j % p) (k % p) t)) in grind (arith, same, e))

-- the number j stands where k does, which is in branch i
at_place : (p j k i : ℕ) → k / p ≡ i → cond (eqb (j / p) i) (eqb (j % p) (k % p)) false ≡ eqb j k
at_place p j k i e = ap (λ u. cond (eqb (j / p) u) (eqb (j % p) (k % p)) false) (sym e) ∙ sym (by_places p j k)

spot_a : {X : Type 0} (i : ℕ) (w : Bool) (o a b c d e : X) → choice i (cond w o a) b c d e ≡ cond (cond (eqb i 0) w false) o (choice i a b c d e)
spot_a i true o a b c d e = grind arith
spot_a i false o a b c d e = grind arith

spot_b : {X : Type 0} (i : ℕ) (w : Bool) (o a b c d e : X) → choice i a (cond w o b) c d e ≡ cond (cond (eqb i 1) w false) o (choice i a b c d e)
spot_b i true o a b c d e = grind arith
spot_b i false o a b c d e = grind arith

spot_c : {X : Type 0} (i : ℕ) (w : Bool) (o a b c d e : X) → choice i a b (cond w o c) d e ≡ cond (cond (eqb i 2) w false) o (choice i a b c d e)
spot_c i true o a b c d e = grind arith
spot_c i false o a b c d e = grind arith

spot_d : {X : Type 0} (i : ℕ) (w : Bool) (o a b c d e : X) → choice i a b c (cond w o d) e ≡ cond (cond (eqb i 3) w false) o (choice i a b c d e)
spot_d i true o a b c d e = grind arith
spot_d i false o a b c d e = grind arith

pub put_a : {V : Type 0} (p k r : ℕ) (o : Option V) (a b c d g : ℕ → Option V) → k / p ≡ 0 → r ≡ k % p → g ≡ placed r o a → join p g b c d ≡ placed k o (join p a b c d)
put_a p k r o a b c d g i e wrote =
    ap (λ f. join p f b c d) (wrote ∙ ap (λ q. placed q o a) e)
    ∙ fun_ext (λ j. spot_a (j / p) (eqb (j % p) (k % p)) o (a (j % p)) (b (j % p)) (c (j % p)) (d (j % p)) None
    ∙ ap (λ t. cond t o (join p a b c d j)) (at_place p j k 0 i))

pub put_b : {V : Type 0} (p k r : ℕ) (o : Option V) (a b c d g : ℕ → Option V) → k / p ≡ 1 → r ≡ k % p → g ≡ placed r o b → join p a g c d ≡ placed k o (join p a b c d)
put_b p k r o a b c d g i e wrote =
    ap (λ f. join p a f c d) (wrote ∙ ap (λ q. placed q o b) e)
    ∙ fun_ext (λ j. spot_b (j / p) (eqb (j % p) (k % p)) o (a (j % p)) (b (j % p)) (c (j % p)) (d (j % p)) None
    ∙ ap (λ t. cond t o (join p a b c d j)) (at_place p j k 1 i))

pub put_c : {V : Type 0} (p k r : ℕ) (o : Option V) (a b c d g : ℕ → Option V) → k / p ≡ 2 → r ≡ k % p → g ≡ placed r o c → join p a b g d ≡ placed k o (join p a b c d)
put_c p k r o a b c d g i e wrote =
    ap (λ f. join p a b f d) (wrote ∙ ap (λ q. placed q o c) e)
    ∙ fun_ext (λ j. spot_c (j / p) (eqb (j % p) (k % p)) o (a (j % p)) (b (j % p)) (c (j % p)) (d (j % p)) None
    ∙ ap (λ t. cond t o (join p a b c d j)) (at_place p j k 2 i))

pub put_d : {V : Type 0} (p k r : ℕ) (o : Option V) (a b c d g : ℕ → Option V) → k / p ≡ 3 → r ≡ k % p → g ≡ placed r o d → join p a b c g ≡ placed k o (join p a b c d)
put_d p k r o a b c d g i e wrote =
    ap (λ f. join p a b c f) (wrote ∙ ap (λ q. placed q o d) e)
    ∙ fun_ext (λ j. spot_d (j / p) (eqb (j % p) (k % p)) o (a (j % p)) (b (j % p)) (c (j % p)) (d (j % p)) None
    ∙ ap (λ t. cond t o (join p a b c d j)) (at_place p j k 3 i))

pub swap_a : {V U E : Type 0} (p k r : ℕ) (o n : Option V) (a b c d g : ℕ → Option V) (result : Result U E) → k / p ≡ 0 → r ≡ k % p → Swapped r o n a g result → Swapped k o n (join p a b c d) (join p g b c d) result
swap_a p k r o n a b c d g (Ok u) i e swapped =
    (swapped.0 ∙ ap a e ∙ sym (ap (λ j. choice j (a (k % p)) (b (k % p)) (c (k % p)) (d (k % p)) None) i), put_a p k r o a b c d g i e swapped.1)
swap_a p k r o n a b c d g (Err u) i e same = ap (λ f. join p f b c d) same

pub swap_b : {V U E : Type 0} (p k r : ℕ) (o n : Option V) (a b c d g : ℕ → Option V) (result : Result U E) → k / p ≡ 1 → r ≡ k % p → Swapped r o n b g result → Swapped k o n (join p a b c d) (join p a g c d) result
swap_b p k r o n a b c d g (Ok u) i e swapped =
    (swapped.0 ∙ ap b e ∙ sym (ap (λ j. choice j (a (k % p)) (b (k % p)) (c (k % p)) (d (k % p)) None) i), put_b p k r o a b c d g i e swapped.1)
swap_b p k r o n a b c d g (Err u) i e same = ap (λ f. join p a f c d) same

pub swap_c : {V U E : Type 0} (p k r : ℕ) (o n : Option V) (a b c d g : ℕ → Option V) (result : Result U E) → k / p ≡ 2 → r ≡ k % p → Swapped r o n c g result → Swapped k o n (join p a b c d) (join p a b g d) result
swap_c p k r o n a b c d g (Ok u) i e swapped =
    (swapped.0 ∙ ap c e ∙ sym (ap (λ j. choice j (a (k % p)) (b (k % p)) (c (k % p)) (d (k % p)) None) i), put_c p k r o a b c d g i e swapped.1)
swap_c p k r o n a b c d g (Err u) i e same = ap (λ f. join p a b f d) same

pub swap_d : {V U E : Type 0} (p k r : ℕ) (o n : Option V) (a b c d g : ℕ → Option V) (result : Result U E) → k / p ≡ 3 → r ≡ k % p → Swapped r o n d g result → Swapped k o n (join p a b c d) (join p a b c g) result
swap_d p k r o n a b c d g (Ok u) i e swapped =
    (swapped.0 ∙ ap d e ∙ sym (ap (λ j. choice j (a (k % p)) (b (k % p)) (c (k % p)) (d (k % p)) None) i), put_d p k r o a b c d g i e swapped.1)
swap_d p k r o n a b c d g (Err u) i e same = ap (λ f. join p a b c f) same

pub joined : {V : Type 0} (p : ℕ) (a b c d a' b' c' d' : ℕ → Option V) → a ≡ a' → b ≡ b' → c ≡ c' → d ≡ d' → join p a b c d ≡ join p a' b' c' d'
joined p a b c d a' b' c' d' ea eb ec ed =
    ap (λ f. join p f b c d) ea ∙ ap (λ f. join p a' f c d) eb ∙ ap (λ f. join p a' b' f d) ec ∙ ap (λ f. join p a' b' c' f) ed

pub only_a : {V : Type 0} (p : ℕ) (a b c d f : ℕ → Option V) → a ≡ f → b ≡ nothing → c ≡ nothing → d ≡ nothing → join p a b c d ≡ join p f nothing nothing nothing
only_a p a b c d f ea eb ec ed = joined p a b c d f nothing nothing nothing ea eb ec ed

pub all_nothing : {V : Type 0} (p : ℕ) (a b c d : ℕ → Option V) → a ≡ nothing → b ≡ nothing → c ≡ nothing → d ≡ nothing → join p a b c d ≡ nothing
all_nothing p a b c d ea eb ec ed = only_a p a b c d nothing ea eb ec ed ∙ fun_ext (λ k. choice_same (k / p) None)
