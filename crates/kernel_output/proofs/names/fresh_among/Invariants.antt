use Rattle.std.proofs.Common.{◌≡◌, ◌++◌, drop}
use Rattle.oz_language.specs.Translation.{fresh_among}
use Rattle.kernel_output.proofs.names.fresh_among.Given as goal

abbrev pub invariant-names : goal.invariant-names
invariant-names l = fresh_among l.names ≡ l.fresh ++ fresh_among (drop l.name-index l.names)
