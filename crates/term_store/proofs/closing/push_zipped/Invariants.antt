use Rattle.std.proofs.Common.{◌≡◌, ◌++◌}
use Rattle.std.specs.List.{zip}
use Rattle.term_store.proofs.closing.push_zipped.Given as goal

-- what was passed and what is left are the whole
abbrev pub invariant-loop-a : goal.invariant-loop-a
invariant-loop-a l = l.pairs.items ++ zip l.a-iterator.a.rest.now l.a-iterator.b.rest.now ≡ l.initial.pairs.items ++ zip l.left l.right
