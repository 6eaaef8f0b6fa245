use Rattle.std.proofs.Common.{◌≡◌, drop}
use Rattle.oz_language.specs.Grammar.{of_list}
use Rattle.oz_language.specs.Refusals.{faults_each}
use Rattle.oz_syntax.specs.View.{views}
use Rattle.oz_scope.specs.Keeps.{kept}
use Rattle.oz_scope.proofs.checker.Checker.+phrases.Given as goal

abbrev pub invariant-each-phrases : goal.invariant-each-phrases
invariant-each-phrases l =
    (kept (faults_each l.initial.self.scope (of_list (views (drop l.phrase-index l.phrases)))) l.self.found ≡ kept (faults_each l.initial.self.scope (of_list (views l.phrases))) l.initial.self.found)
    × (l.self.scope ≡ l.initial.self.scope)
