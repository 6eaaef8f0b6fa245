-- The digits of a number in base sixteen are its way down a tree.
use Rattle.std.proofs.Common.{◌≡◌, ℕ, suc, zero, ◌+◌, ◌-◌, ◌*◌, ◌/◌, ◌%◌, ◌^◌, ◌<◌, ◌≤◌, refl, sym, ap, ◌∙◌, arith, bit_and}
use Rattle.std.proofs.Math.Nat.{mod-lt, div-div-eq-div-mul}
use Rattle.std.proofs.lemmas.Nat.{pow_pos, and_mask, mod-pow-add, div-mul-add, mod-mul-add}
use Rattle.shared_map.specs.Lookup.{choice}
use Rattle.shared_map.proofs.Spans.{two_more, four_more, tree_span}

-- a digit above b bits, and what is below it
split_four : (b k : ℕ) → k % (16 * 2 ^ b) ≡ (k / 2 ^ b % 16) * 2 ^ b + k % 2 ^ b
split_four b k =
    let e : b + 4 ≡ 4 + b = omega arith in
    ap (λ m. k % m) (sym (four_more b) ∙ ap (λ n. 2 ^ n) e) ∙ mod-pow-add k 4 b

split_two : (b k : ℕ) → k % (4 * 2 ^ b) ≡ (k / 2 ^ b % 4) * 2 ^ b + k % 2 ^ b
split_two b k =
    let e : b + 2 ≡ 2 + b = omega arith in
    ap (λ m. k % m) (sym (two_more b) ∙ ap (λ n. 2 ^ n) e) ∙ mod-pow-add k 2 b

low_four : (b k : ℕ) → k % (16 * 2 ^ b) / 2 ^ b ≡ k / 2 ^ b % 16
low_four b k = ap (λ n. n / 2 ^ b) (split_four b k) ∙ div-mul-add (k / 2 ^ b % 16) (2 ^ b) (k % 2 ^ b) (mod-lt k (pow_pos b))

-- the place in a node is the digit's upper half
pub fork_index : (b k : ℕ) → k % (16 * 2 ^ b) / 2 ^ (b + 2) ≡ k / 2 ^ b % 16 / 4
fork_index b k =
    let e : 2 ^ (b + 2) ≡ 2 ^ b * 4 = omega (arith, two_more b) in
    ap (λ m. k % (16 * 2 ^ b) / m) e ∙ sym (div-div-eq-div-mul (k % (16 * 2 ^ b)) (2 ^ b) 4) ∙ ap (λ n. n / 4) (low_four b k)

pub fork_rest : (b k : ℕ) → k % (16 * 2 ^ b) % 2 ^ (b + 2) ≡ k % (4 * 2 ^ b)
fork_rest b k =
    ap (λ m. k % (16 * 2 ^ b) % m) (two_more b) ∙ split_two b (k % (16 * 2 ^ b))
    ∙ ap (λ n. n % 4 * 2 ^ b + k % (16 * 2 ^ b) % 2 ^ b) (low_four b k)
    ∙ ap (λ n. k / 2 ^ b % 16 % 4 * 2 ^ b + n) (ap (λ n. n % 2 ^ b) (split_four b k) ∙ mod-mul-add (k / 2 ^ b % 16) (2 ^ b) (k % 2 ^ b) (mod-lt k (pow_pos b)))
    ∙ ap (λ n. n * 2 ^ b + k % 2 ^ b) (half (k / 2 ^ b)) ∙ sym (split_two b k)
  where
    half : (n : ℕ) → n % 16 % 4 ≡ n % 4
    half n = omega arith

-- the place in a quad is its lower half
pub quad_index : (b k : ℕ) → k % (4 * 2 ^ b) / 2 ^ b ≡ k / 2 ^ b % 4
quad_index b k = ap (λ n. n / 2 ^ b) (split_two b k) ∙ div-mul-add (k / 2 ^ b % 4) (2 ^ b) (k % 2 ^ b) (mod-lt k (pow_pos b))

pub quad_rest : (b k : ℕ) → k % (4 * 2 ^ b) % 2 ^ b ≡ k % 2 ^ b
quad_rest b k = ap (λ n. n % 2 ^ b) (split_two b k) ∙ mod-mul-add (k / 2 ^ b % 4) (2 ^ b) (k % 2 ^ b) (mod-lt k (pow_pos b))

pub lower_half : (b k d : ℕ) → d ≡ k / 2 ^ b % 16 → bit_and d 3 ≡ k / 2 ^ b % 4
lower_half b k d digit = and_mask d 2 ∙ omega (arith, digit)

-- a quad, a tree in it, and what is below
pub fork_place : (b k d i : ℕ) → d ≡ k / 2 ^ b % 16 → d / 4 ≡ i → k % (16 * 2 ^ b) / 2 ^ (b + 2) ≡ i
fork_place b k d i digit quad = fork_index b k ∙ ap (λ n. n / 4) (sym digit) ∙ quad

pub quad_place : (b k d i : ℕ) → d ≡ k / 2 ^ b % 16 → bit_and d 3 ≡ i → k % (4 * 2 ^ b) / 2 ^ b ≡ i
quad_place b k d i digit tree = quad_index b k ∙ sym (lower_half b k d digit) ∙ tree

pub tree_rest : (h k : ℕ) → 1 ≤ h → k % (16 * 2 ^ (4 * (h - 1))) ≡ k % (4 * 2 ^ (4 * h)) % 2 ^ (4 * h)
tree_rest h k low = ap (λ m. k % m) (sym (tree_span h low)) ∙ sym (quad_rest (4 * h) k)

-- a function of one of four is one of the function's four values
pub choice_of : {X Y : Type 0} (f : X → Y) (i : ℕ) (a b c d : X) (e : Y) → i < 4 → choice i (f a) (f b) (f c) (f d) e ≡ f (choice i a b c d d)
choice_of f zero a b c d e below = refl
choice_of f (suc zero) a b c d e below = refl
choice_of f (suc (suc zero)) a b c d e below = refl
choice_of f (suc (suc (suc zero))) a b c d e below = refl
choice_of f (suc (suc (suc (suc i)))) a b c d e below = absurd (omega (arith, below))
