use Rattle.std.proofs.Common.{◌≡◌, ◌++◌, drop}
use Rattle.oz_semantics.specs.Terms.{level_tells}
use Rattle.oz_raise.specs.Nodes.{term_of}
use Rattle.oz_raise.proofs.tells.append_level.Given as goal

-- what was told and what is left to be told are the whole
abbrev pub invariant-loop-node : goal.invariant-loop-node
invariant-loop-node l =
    l.tells.items ++ level_tells l.space l.number l.next (term_of (drop l.node-index l.nodes))
    ≡ l.initial.tells.items ++ level_tells l.space l.first l.from (term_of l.nodes)
