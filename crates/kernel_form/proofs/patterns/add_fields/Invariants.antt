use Rattle.std.proofs.Common.{◌≡◌, ◌++◌, drop, map}
use Rattle.oz_language.specs.declared.kernel.Piece.TheVariants.{Variable}
use Rattle.kernel_form.specs.Fields.{rest_of}
use Rattle.kernel_form.specs.Nodes.{nodes_text}
use Rattle.kernel_form.proofs.patterns.add_fields.Given as goal

abbrev pub invariant-names : goal.invariant-names
invariant-names l =
    l.out.items ++ nodes_text l.words (map rest_of l.opened) (map Variable (drop l.name-index l.names))
    ≡ l.initial.out.items ++ nodes_text l.words (map rest_of l.initial.opened) (map Variable l.names)
