use Rattle.std.proofs.Common.{◌≡◌, ◌++◌, drop}
use Rattle.oz_language.specs.Grammar.{of_list}
use Rattle.oz_language.specs.Refusals.{variables_in_each}
use Rattle.oz_syntax.specs.View.{views}
use Rattle.oz_scope.proofs.names.+variables.Given as goal

abbrev pub invariant-add_variables_of_each-phrases : goal.invariant-add_variables_of_each-phrases
invariant-add_variables_of_each-phrases l =
    l.variables.items ++ variables_in_each (of_list (views (drop l.phrase-index l.phrases)))
    ≡ l.initial.variables.items ++ variables_in_each (of_list (views l.phrases))
