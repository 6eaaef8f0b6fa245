use Rattle.std.proofs.Common.{◌≡◌, ◌≤◌, ◌*◌, ◌/◌, ◌%◌, ◌^◌, refl, ap, ◌∙◌, arith}
use Rattle.std.specs.Arc.{arc_value}
use Rattle.shared_map.specs.Lookup.{lookup, row_at, fork_at}
use Rattle.shared_map.proofs.Ways.{way_in, way_down, in_leaf}
use Rattle.shared_map.proofs.Spans.{above_zero}
use Rattle.shared_map.proofs.tree.Tree.get.Goals as goal

pub down-init : goal.down-init
down-init g c =
    record {
      whole = omega arith;
      high = omega (arith, c.requires.high);
      same = way_in c.args.height c.args.key c.args.self.now c.requires.key;
    }

pub down-preserved : goal.down-preserved
down-preserved g c =
    let h = c.down.bits / 4 in
    let k = c.args.key % (16 * 2 ^ c.down.bits) in
    let above : 1 ≤ c.down.bits / 4 = omega (arith, c.down.invariant.whole, c.down-test.true) in
    let held : fork_at h (arc_value c.in-Fork.fork) k ≡ lookup h c.down.tree.now k = rw c.in-Fork.is (rw (above_zero h above) refl) in record {
      whole = omega (arith, c.down.invariant.whole);
      high = omega (arith, c.down.invariant.high);
      same =
          way_down c.down.bits h c.args.key c.digit-digit.result c.deref.result.now c.at.result.now c.at-tree.result.now
          c.down.invariant.whole c.down-test.true c.digit-digit.ensures.value c.at.ensures c.at-tree.ensures
          ∙ ap (λ f. fork_at h f k) c.deref.ensures ∙ held ∙ c.down.invariant.same;
    }

pub returns-in-Leaf-tree : goal.returns-in-Leaf-tree
returns-in-Leaf-tree g c =
    let none : c.down.bits ≡ 0 = omega (arith, c.down-test.false) in
    let held : row_at (arc_value c.in-Leaf-tree.row) (c.args.key % 16) ≡ lookup (c.down.bits / 4) c.down.tree.now (c.args.key % (16 * 2 ^ c.down.bits)) = rw (c.in-Leaf-tree.is, none) refl in
    c.get.ensures ∙ in_leaf c.args.key c.deref-in-Leaf-tree.result.now ∙ ap (λ r. row_at r (c.args.key % 16)) c.deref-in-Leaf-tree.ensures ∙ held ∙ c.down.invariant.same
