use Rattle.std.proofs.Common.{◌≡◌, ◌++◌}
use Rattle.oz_language.specs.Translation.{between}
use Rattle.kernel_relations.proofs.relations.between.Given as goal

abbrev pub invariant-numbers : goal.invariant-numbers
invariant-numbers l = l.names ++ between l.number l.fn.behind.next ≡ between l.fn.first.next l.fn.behind.next
