use Rattle.std.proofs.Common.{◌≡◌, ◌++◌, [], drop, map}
use Rattle.kernel_form.specs.Fields.{rest_of}
use Rattle.kernel_form.specs.Nodes.{nodes_text}
use Rattle.kernel_form.proofs.patterns.add_pattern.Given as goal

abbrev pub invariant-pieces : goal.invariant-pieces
invariant-pieces l =
    l.out.items ++ nodes_text l.words (map rest_of l.opened) (drop l.piece-index l.pieces) ≡ l.initial.out.items ++ nodes_text l.words [] l.pieces
