use Rattle.std.proofs.Common.{◌≡◌, length}
use Rattle.oz_language.specs.Grammar.{of_list}
use Rattle.oz_language.specs.Refusals.{declaring}
use Rattle.oz_syntax.specs.View.{views}
use Rattle.oz_scope.proofs.names.declare.Given as goal

abbrev pub invariant-phrases : goal.invariant-phrases
invariant-phrases l = declaring (of_list (views l.rest)) l.scope ≡ declaring (of_list (views l.phrases)) l.initial.scope

abbrev pub decreases-phrases : goal.decreases-phrases
decreases-phrases l = length l.rest
