use Rattle.std.proofs.Common.{◌≡◌, ◌≤◌, ◌*◌, ◌/◌, ◌%◌, ◌^◌}
use Rattle.shared_map.specs.Lookup.{lookup}
use Rattle.shared_map.proofs.tree.Tree.get.Given as goal

abbrev pub invariant-down : goal.invariant-down
invariant-down g l =
    record {
      whole : l.bits ≡ 4 * (l.bits / 4);
      high : l.bits ≤ 60;
      same : lookup (l.bits / 4) l.tree (l.key % (16 * 2 ^ l.bits)) ≡ lookup l.fn.height l.fn.self l.fn.key;
    }

abbrev pub decreases-down : goal.decreases-down
decreases-down g l = l.bits
