use Rattle.std.proofs.Common.{◌≡◌, ◌+◌, ◌≤◌, ◌++◌, List, length, reverse}
use Rattle.std.specs.Prelude.{vec_capacity}
use Rattle.oz_base.proofs.stack.put_behind.Given as goal

-- these were moved
abbrev pub invariant-more : goal.invariant-more
invariant-more g l = record {
  moved : List g.row.T.Denot;
  whole : l.more.items ++ moved ≡ l.fn.more.items;
  stacked : reverse l.items.items ≡ moved ++ reverse l.initial.items.items;
  room : length l.items.items + length l.more.items ≤ vec_capacity l.items;
}

abbrev pub decreases-more : goal.decreases-more
decreases-more g l = length l.more.items
