-- What stands in quotes, byte by byte.
use Rattle.std.proofs.Common.{ℕ, List, Bool, true, false}
use Rattle.oz_language.specs.Wording.{meant, meant_behind}

-- what is meant behind a `\`, or not
abbrev pub meant_from : Bool → List ℕ → List ℕ
meant_from true bytes = meant_behind bytes
meant_from false bytes = meant bytes
