use Rattle.std.proofs.Common.{◌≡◌, ◌≤◌, ◌+◌, ◌++◌, drop}
use Rattle.oz_language.specs.Grammar.{of_list}
use Rattle.oz_language.specs.Refusals.{features}
use Rattle.oz_syntax.specs.View.{views}
use Rattle.oz_scope.proofs.features.features_of.Given as goal

abbrev pub invariant-fields : goal.invariant-fields
invariant-fields l =
    (l.places.items ++ features l.number (of_list (views (drop l.field-index l.fields))) ≡ features 1 (of_list (views l.fields)))
    × (l.number ≤ l.field-index + 1)
