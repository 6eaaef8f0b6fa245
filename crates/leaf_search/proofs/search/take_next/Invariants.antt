use Rattle.std.proofs.Common.{◌≡◌, length}
use Rattle.oz_language.specs.declared.kernel.Kernel.{Kernel}
use Rattle.leaf_search.specs.Searching.{waiting, AreOf}
use Rattle.leaf_search.proofs.search.take_next.Given as goal

-- the nodes passed so far had no alternative left
abbrev pub invariant-nodes : goal.invariant-nodes
invariant-nodes l = record {
  same : waiting l.space l.opened ≡ waiting l.space l.initial.opened;
  kernel : (k : Kernel) → AreOf k l.initial.opened → AreOf k l.opened;
}

abbrev pub decreases-nodes : goal.decreases-nodes
decreases-nodes l = length l.opened
