use Rattle.std.proofs.Common.{◌≡◌, ◌++◌, drop}
use Rattle.oz_semantics.specs.Terms.{list_term}
use Rattle.oz_raise.specs.Nodes.{term_of}
use Rattle.oz_raise.proofs.terms.list_term.Given as goal

-- the nodes so far and those of what is left are the whole
abbrev pub invariant-loop-item : goal.invariant-loop-item
invariant-loop-item l = term_of l.nodes.items ++ list_term (drop l.item-index l.items) ≡ list_term l.items
