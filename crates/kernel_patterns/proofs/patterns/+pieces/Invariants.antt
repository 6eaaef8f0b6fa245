use Rattle.std.proofs.Common.{◌≡◌, ◌++◌, drop}
use Rattle.oz_language.specs.Grammar.{of_list}
use Rattle.oz_language.specs.Translation.{patterned_each}
use Rattle.oz_syntax.specs.View.{views}
use Rattle.kernel_patterns.specs.Nodes.{nodes_of}
use Rattle.kernel_patterns.proofs.patterns.+pieces.Given as goal

abbrev pub invariant-pieces_each-fields : goal.invariant-pieces_each-fields
invariant-pieces_each-fields l =
    nodes_of (patterned_each l.words (of_list (views l.fields))) ≡ l.each ++ nodes_of (patterned_each l.words (of_list (views (drop l.field-index l.fields))))
