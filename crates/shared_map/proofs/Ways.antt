-- The way of a number down a tree.
use Rattle.std.proofs.Common.{◌≡◌, ℕ, ◌+◌, ◌-◌, ◌*◌, ◌/◌, ◌%◌, ◌^◌, ◌<◌, None, sym, ap, ◌∙◌, arith, bit_and}
use Rattle.std.proofs.Math.Nat.{mod-eq_of_lt}
use Rattle.std.proofs.lemmas.Nat.{and_mask}
use Rattle.shared_map.specs.declared.row.Row.{Row}
use Rattle.shared_map.specs.declared.tree.Tree.{Tree}
use Rattle.shared_map.specs.declared.tree.Quad.{Quad}
use Rattle.shared_map.specs.declared.tree.Fork.{Fork}
use Rattle.shared_map.specs.Lookup.{choice, lookup, quad_at, fork_at, row_at}
use Rattle.shared_map.proofs.Spans.{four_more}
use Rattle.shared_map.proofs.Digits.{fork_index, fork_rest, quad_index, quad_rest, lower_half, choice_of}

quad_down : {V : Type 0} (h k : ℕ) (q : Quad V) → quad_at h q (k % (4 * 2 ^ (4 * h))) ≡ lookup (h - 1) (choice (k / 2 ^ (4 * h) % 4) q.a q.b q.c q.d q.d) (k % 2 ^ (4 * h))
quad_down h k q = by (k % (4 * 2 ^ (4 * h)) % 2 ^ (4 * h)) (quad_rest (4 * h) k)
  where
    by : (r : ℕ) → r ≡ k % 2 ^ (4 * h) → choice (k % (4 * 2 ^ (4 * h)) / 2 ^ (4 * h)) (lookup (h - 1) q.a r) (lookup (h - 1) q.b r) (lookup (h - 1) q.c r) (lookup (h - 1) q.d r) None ≡ lookup (h - 1) (choice (k / 2 ^ (4 * h) % 4) q.a q.b q.c q.d q.d) (k % 2 ^ (4 * h))
    by r e =
        ap (λ i. choice i (lookup (h - 1) q.a r) (lookup (h - 1) q.b r) (lookup (h - 1) q.c r) (lookup (h - 1) q.d r) None) (quad_index (4 * h) k)
        ∙ choice_of (λ t. lookup (h - 1) t r) (k / 2 ^ (4 * h) % 4) q.a q.b q.c q.d None (omega arith)
        ∙ ap (lookup (h - 1) (choice (k / 2 ^ (4 * h) % 4) q.a q.b q.c q.d q.d)) e

fork_down : {V : Type 0} (h k : ℕ) (f : Fork V) → fork_at h f (k % (16 * 2 ^ (4 * h))) ≡ quad_at h (choice (k / 2 ^ (4 * h) % 16 / 4) f.a f.b f.c f.d f.d) (k % (4 * 2 ^ (4 * h)))
fork_down h k f = by (k % (16 * 2 ^ (4 * h)) % 2 ^ (4 * h + 2)) (fork_rest (4 * h) k)
  where
    by : (r : ℕ) → r ≡ k % (4 * 2 ^ (4 * h)) → choice (k % (16 * 2 ^ (4 * h)) / 2 ^ (4 * h + 2)) (quad_at h f.a r) (quad_at h f.b r) (quad_at h f.c r) (quad_at h f.d r) None ≡ quad_at h (choice (k / 2 ^ (4 * h) % 16 / 4) f.a f.b f.c f.d f.d) (k % (4 * 2 ^ (4 * h)))
    by r e =
        ap (λ i. choice i (quad_at h f.a r) (quad_at h f.b r) (quad_at h f.c r) (quad_at h f.d r) None) (fork_index (4 * h) k)
        ∙ choice_of (λ q. quad_at h q r) (k / 2 ^ (4 * h) % 16 / 4) f.a f.b f.c f.d None (omega arith)
        ∙ ap (quad_at h (choice (k / 2 ^ (4 * h) % 16 / 4) f.a f.b f.c f.d f.d)) e

-- what a node holds at a number is what the branch of its digit holds at the rest
branch_down : {V : Type 0} (h k d : ℕ) (f : Fork V) (q : Quad V) (t : Tree V) → d ≡ k / 2 ^ (4 * h) % 16 → q ≡ choice (d / 4) f.a f.b f.c f.d f.d → t ≡ choice (bit_and d 3) q.a q.b q.c q.d q.d → lookup (h - 1) t (k % 2 ^ (4 * h)) ≡ fork_at h f (k % (16 * 2 ^ (4 * h)))
branch_down h k d f q t ed eq et =
    ap (λ u. lookup (h - 1) u (k % 2 ^ (4 * h))) (et ∙ ap (λ i. choice i q.a q.b q.c q.d q.d) (lower_half (4 * h) k d ed))
    ∙ sym (quad_down h k q)
    ∙ ap (λ p. quad_at h p (k % (4 * 2 ^ (4 * h)))) (eq ∙ ap (λ n. choice (n / 4) f.a f.b f.c f.d f.d) ed)
    ∙ sym (fork_down h k f)

pub way_down : {V : Type 0} (b h k d : ℕ) (f : Fork V) (q : Quad V) (t : Tree V) → b ≡ 4 * h → 0 < b → d ≡ k / 2 ^ b % 16 → q ≡ choice (d / 4) f.a f.b f.c f.d f.d → t ≡ choice (bit_and d 3) q.a q.b q.c q.d q.d → lookup ((b - 4) / 4) t (k % (16 * 2 ^ (b - 4))) ≡ fork_at h f (k % (16 * 2 ^ b))
way_down b h k d f q t eb positive ed eq et =
    let below : (b - 4) / 4 ≡ h - 1 = omega (arith, eb) in
    let same : b - 4 + 4 ≡ 4 * h = omega (arith, eb, positive) in
    let span : 16 * 2 ^ (b - 4) ≡ 2 ^ (4 * h) = sym (four_more (b - 4)) ∙ ap (λ n. 2 ^ n) same in
    ap (λ n. lookup n t (k % (16 * 2 ^ (b - 4)))) below ∙ ap (λ m. lookup (h - 1) t (k % m)) span
    ∙ branch_down h k d f q t (ed ∙ ap (λ n. k / 2 ^ n % 16) eb) eq et
    ∙ ap (λ n. fork_at h f (k % (16 * 2 ^ n))) (sym eb)

-- at the top, and in a leaf
pub way_in : {V : Type 0} (h k : ℕ) (t : Tree V) → k < 16 * 2 ^ (4 * h) → lookup (4 * h / 4) t (k % (16 * 2 ^ (4 * h))) ≡ lookup h t k
way_in h k t below =
    let same : 4 * h / 4 ≡ h = omega arith in
    ap (λ n. lookup n t (k % (16 * 2 ^ (4 * h)))) same ∙ ap (lookup h t) (mod-eq_of_lt below)

pub in_leaf : {V : Type 0} (k : ℕ) (r : Row V) → row_at r (bit_and k 15) ≡ row_at r (k % 16)
in_leaf k r = ap (row_at r) (and_mask k 4)
