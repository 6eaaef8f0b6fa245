use Rattle.std.proofs.Common.{◌≡◌, ◌++◌, ◌+◌, ◌≤◌, drop}
use Rattle.oz_language.specs.Grammar.{of_list}
use Rattle.oz_language.specs.Translation.{keys_of}
use Rattle.oz_syntax.specs.View.{views}
use Rattle.kernel_patterns.proofs.Fields.{keys_from}
use Rattle.kernel_patterns.proofs.records.keys_of.Given as goal

abbrev pub invariant-fields : goal.invariant-fields
invariant-fields l =
    (keys_of (of_list (views l.fields)) ≡ l.keys ++ keys_from l.place (of_list (views (drop l.field-index l.fields))))
    × (l.place ≤ l.field-index + 1)
