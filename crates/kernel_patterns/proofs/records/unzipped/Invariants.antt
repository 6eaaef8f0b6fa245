use Rattle.std.proofs.Common.{◌≡◌, map}
use Rattle.oz_language.specs.declared.kernel.Constant.{Constant}
use Rattle.kernel_patterns.specs.contracts.records.unzipped.{A-type}
use Rattle.kernel_patterns.proofs.records.unzipped.Given as goal

abbrev pub invariant-fields : goal.invariant-fields
invariant-fields g l =
    (l.features ≡ map {A = Constant × A-type g.row.A} (λ f. f.0) l.yielded)
    × (l.values ≡ map {A = Constant × A-type g.row.A} {B = A-type g.row.A} (λ f. f.1) l.yielded)
