use Rattle.std.proofs.Common.{◌≡◌, ◌≤◌, vec_len}
use Rattle.oz_semantics.specs.Terms.{read_term}
use Rattle.oz_raise.specs.Nodes.{term_of}
use Rattle.operations.proofs.ReadLaws.{read_from}
use Rattle.operations.proofs.reading.read_term.Given as goal

-- what was read, and what is read of the variables that are left, are the whole
abbrev pub invariant-nodes : goal.invariant-nodes
invariant-nodes l = record {
  within : l.place ≤ vec_len l.pending;
  whole : read_from l.store l.most l.place (term_of l.nodes.items) l.pending.items ≡ read_term l.store l.most l.variable;
}
