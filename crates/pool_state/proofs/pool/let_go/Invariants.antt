use Rattle.std.proofs.Common.{◌≡◌, ◌≤◌, ◌-◌, ◌&&◌, not, false, List, length, take}
use Rattle.std.specs.List.{list_any}
use Rattle.oz_search.specs.Paths.{same_path}
use Rattle.pool_state.proofs.pool.let_go.Given as goal

-- the path is not before this place, and all others are as they were
abbrev pub invariant-loop-at : goal.invariant-loop-at
invariant-loop-at g l =
    let k = g.K.SearchKind.search in
    record {
      inside : l.at ≤ length l.out.items;
      clear : list_any (same_path k l.path) (take l.at l.out.items) ≡ false;
      others : (q : List g.row.K-Branch.Denot) → (list_any (same_path k q) l.out.items && not (same_path k q l.path)) ≡ (list_any (same_path k q) l.fn.out.items && not (same_path k q l.path));
    }

abbrev pub decreases-loop-at : goal.decreases-loop-at
decreases-loop-at g l = length l.out.items - l.at
