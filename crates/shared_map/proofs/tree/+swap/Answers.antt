use Rattle.std.proofs.Common.{◌≡◌, ◌+◌, ◌-◌, ◌*◌, ◌/◌, ◌%◌, ◌^◌, ap, sym, ◌∙◌, arith, bit_and}
use Rattle.std.proofs.lemmas.Nat.{and_mask}
use Rattle.shared_map.specs.Lookup.{lookup, quad_at, fork_at}
use Rattle.shared_map.proofs.Digits.{fork_place, fork_rest, quad_place, tree_rest}
use Rattle.shared_map.proofs.Joins.{swap_a, swap_b, swap_c, swap_d}
use Rattle.shared_map.proofs.Moves.{moved}
use Rattle.shared_map.proofs.Spans.{above_zero, other_than_zero}
use Rattle.shared_map.proofs.tree.+swap.Goals as goal

pub Fork::swap-returns-in-0-clause-swapped : goal.Fork::swap-returns-in-0-clause-swapped
Fork::swap-returns-in-0-clause-swapped g t c =
    swap_a (2 ^ (4 * c.args.height + 2)) (c.args.key % (16 * 2 ^ (4 * c.args.height))) (c.args.key % (4 * 2 ^ (4 * c.args.height))) c.args.entry.now c.swap.new.entry
    (quad_at c.args.height c.args.self.now.a) (quad_at c.args.height c.args.self.now.b) (quad_at c.args.height c.args.self.now.c) (quad_at c.args.height c.args.self.now.d) (quad_at c.args.height c.swap.new.self) c.swap.result
    (fork_place (4 * c.args.height) c.args.key c.digit.result 0 c.digit.ensures.value c.in-0.is) (sym (fork_rest (4 * c.args.height) c.args.key)) c.swap.ensures.swapped

pub Fork::swap-returns-in-1-clause-swapped : goal.Fork::swap-returns-in-1-clause-swapped
Fork::swap-returns-in-1-clause-swapped g t c =
    swap_b (2 ^ (4 * c.args.height + 2)) (c.args.key % (16 * 2 ^ (4 * c.args.height))) (c.args.key % (4 * 2 ^ (4 * c.args.height))) c.args.entry.now c.swap-in-1.new.entry
    (quad_at c.args.height c.args.self.now.a) (quad_at c.args.height c.args.self.now.b) (quad_at c.args.height c.args.self.now.c) (quad_at c.args.height c.args.self.now.d) (quad_at c.args.height c.swap-in-1.new.self) c.swap-in-1.result
    (fork_place (4 * c.args.height) c.args.key c.digit.result 1 c.digit.ensures.value c.in-1.is) (sym (fork_rest (4 * c.args.height) c.args.key)) c.swap-in-1.ensures.swapped

pub Fork::swap-returns-in-2-clause-swapped : goal.Fork::swap-returns-in-2-clause-swapped
Fork::swap-returns-in-2-clause-swapped g t c =
    swap_c (2 ^ (4 * c.args.height + 2)) (c.args.key % (16 * 2 ^ (4 * c.args.height))) (c.args.key % (4 * 2 ^ (4 * c.args.height))) c.args.entry.now c.swap-in-2.new.entry
    (quad_at c.args.height c.args.self.now.a) (quad_at c.args.height c.args.self.now.b) (quad_at c.args.height c.args.self.now.c) (quad_at c.args.height c.args.self.now.d) (quad_at c.args.height c.swap-in-2.new.self) c.swap-in-2.result
    (fork_place (4 * c.args.height) c.args.key c.digit.result 2 c.digit.ensures.value c.in-2.is) (sym (fork_rest (4 * c.args.height) c.args.key)) c.swap-in-2.ensures.swapped

pub Fork::swap-returns-in_default-clause-swapped : goal.Fork::swap-returns-in_default-clause-swapped
Fork::swap-returns-in_default-clause-swapped g t c =
    let last : c.digit.result / 4 ≡ 3 = grind (arith, c.in_default, c.digit.ensures.below) in
    swap_d (2 ^ (4 * c.args.height + 2)) (c.args.key % (16 * 2 ^ (4 * c.args.height))) (c.args.key % (4 * 2 ^ (4 * c.args.height))) c.args.entry.now c.swap-in_default.new.entry
    (quad_at c.args.height c.args.self.now.a) (quad_at c.args.height c.args.self.now.b) (quad_at c.args.height c.args.self.now.c) (quad_at c.args.height c.args.self.now.d) (quad_at c.args.height c.swap-in_default.new.self) c.swap-in_default.result
    (fork_place (4 * c.args.height) c.args.key c.digit.result 3 c.digit.ensures.value last) (sym (fork_rest (4 * c.args.height) c.args.key)) c.swap-in_default.ensures.swapped

pub Quad::swap-returns-in-0-clause-swapped : goal.Quad::swap-returns-in-0-clause-swapped
Quad::swap-returns-in-0-clause-swapped g t c =
    swap_a (2 ^ (4 * c.args.height)) (c.args.key % (4 * 2 ^ (4 * c.args.height))) (c.args.key % (16 * 2 ^ (4 * (c.args.height - 1)))) c.args.entry.now c.swap.new.entry
    (lookup (c.args.height - 1) c.args.self.now.a) (lookup (c.args.height - 1) c.args.self.now.b) (lookup (c.args.height - 1) c.args.self.now.c) (lookup (c.args.height - 1) c.args.self.now.d) (lookup (c.args.height - 1) c.swap.new.self) c.swap.result
    (quad_place (4 * c.args.height) c.args.key c.digit.result 0 c.digit.ensures.value c.in-0.is) (tree_rest c.args.height c.args.key c.requires.low) c.swap.ensures.swapped

pub Quad::swap-returns-in-1-clause-swapped : goal.Quad::swap-returns-in-1-clause-swapped
Quad::swap-returns-in-1-clause-swapped g t c =
    swap_b (2 ^ (4 * c.args.height)) (c.args.key % (4 * 2 ^ (4 * c.args.height))) (c.args.key % (16 * 2 ^ (4 * (c.args.height - 1)))) c.args.entry.now c.swap-in-1.new.entry
    (lookup (c.args.height - 1) c.args.self.now.a) (lookup (c.args.height - 1) c.args.self.now.b) (lookup (c.args.height - 1) c.args.self.now.c) (lookup (c.args.height - 1) c.args.self.now.d) (lookup (c.args.height - 1) c.swap-in-1.new.self) c.swap-in-1.result
    (quad_place (4 * c.args.height) c.args.key c.digit.result 1 c.digit.ensures.value c.in-1.is) (tree_rest c.args.height c.args.key c.requires.low) c.swap-in-1.ensures.swapped

pub Quad::swap-returns-in-2-clause-swapped : goal.Quad::swap-returns-in-2-clause-swapped
Quad::swap-returns-in-2-clause-swapped g t c =
    swap_c (2 ^ (4 * c.args.height)) (c.args.key % (4 * 2 ^ (4 * c.args.height))) (c.args.key % (16 * 2 ^ (4 * (c.args.height - 1)))) c.args.entry.now c.swap-in-2.new.entry
    (lookup (c.args.height - 1) c.args.self.now.a) (lookup (c.args.height - 1) c.args.self.now.b) (lookup (c.args.height - 1) c.args.self.now.c) (lookup (c.args.height - 1) c.args.self.now.d) (lookup (c.args.height - 1) c.swap-in-2.new.self) c.swap-in-2.result
    (quad_place (4 * c.args.height) c.args.key c.digit.result 2 c.digit.ensures.value c.in-2.is) (tree_rest c.args.height c.args.key c.requires.low) c.swap-in-2.ensures.swapped

pub Quad::swap-returns-in_default-clause-swapped : goal.Quad::swap-returns-in_default-clause-swapped
Quad::swap-returns-in_default-clause-swapped g t c =
    let low : bit_and c.digit.result 3 ≡ c.digit.result % 4 = and_mask c.digit.result 2 in
    let last : bit_and c.digit.result 3 ≡ 3 = grind (arith, c.in_default, low) in
    swap_d (2 ^ (4 * c.args.height)) (c.args.key % (4 * 2 ^ (4 * c.args.height))) (c.args.key % (16 * 2 ^ (4 * (c.args.height - 1)))) c.args.entry.now c.swap-in_default.new.entry
    (lookup (c.args.height - 1) c.args.self.now.a) (lookup (c.args.height - 1) c.args.self.now.b) (lookup (c.args.height - 1) c.args.self.now.c) (lookup (c.args.height - 1) c.args.self.now.d) (lookup (c.args.height - 1) c.swap-in_default.new.self) c.swap-in_default.result
    (quad_place (4 * c.args.height) c.args.key c.digit.result 3 c.digit.ensures.value last) (tree_rest c.args.height c.args.key c.requires.low) c.swap-in_default.ensures.swapped

pub Tree::start_fork-returns-clause-swapped : goal.Tree::start_fork-returns-clause-swapped
Tree::start_fork-returns-clause-swapped g t c =
    rw (above_zero c.args.height c.requires.low) (moved _ _ _ _ _ _ (c.empty.ensures.value c.args.height ∙ sym c.requires.nothing) (c.in-Ok.ensures.was, c.in-Ok.ensures.after))

pub Tree::swap-returns-then-height-eq0-clause-swapped : goal.Tree::swap-returns-then-height-eq0-clause-swapped
Tree::swap-returns-then-height-eq0-clause-swapped g t c =
    let low : bit_and c.args.key 15 ≡ c.args.key % 16 = and_mask c.args.key 4 in
    rw c.if-height-eq0.true (rw low at c.swap_low.ensures.swapped)

pub Tree::swap-returns-in-Fork-clause-swapped : goal.Tree::swap-returns-in-Fork-clause-swapped
Tree::swap-returns-in-Fork-clause-swapped g t c =
    rw c.in-Fork.is (rw (other_than_zero c.args.height c.if-height-eq0.false) c.swap_in_fork.ensures.swapped)

pub swap_in_copied_fork-returns-clause-swapped : goal.swap_in_copied_fork-returns-clause-swapped
swap_in_copied_fork-returns-clause-swapped g t c =
    moved _ _ _ _ _ _ (c.in-Ok.ensures.value c.args.height ∙ ap (fork_at c.args.height) c.deref.ensures) (c.in-Ok-swapped_fork.ensures.was, c.in-Ok-swapped_fork.ensures.after)
