-- The fault that decides, as it is kept while one fault after the other is met.
use Rattle.std.specs.Prelude.{List, [], ◌∷◌, Option, Some, None, if◌then◌else◌}
use Rattle.oz_language.specs.Refusals.{comes_before}
use Rattle.oz_language.specs.declared.fault.Fault.{Fault}

-- with one fault more
abbrev pub keep : Fault → Option Fault → Option Fault
keep f None = Some f
keep f (Some g) = if comes_before f g then Some f else Some g

-- with these faults more, in their order
abbrev pub kept : List Fault → Option Fault → Option Fault
kept [] found = found
kept (f ∷ fs) found = kept fs (keep f found)
