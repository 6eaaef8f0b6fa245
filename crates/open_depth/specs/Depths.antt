-- What is open, as the definitions see it.
use Rattle.std.specs.Prelude.{◌≡◌, ℕ, List, map}
use Rattle.oz_language.specs.Refusals.{Open, depth_of, at_operand, at_end, operating, accessing, weighing, boxing, catching}
use Rattle.open_depth.specs.declared.depth.Open.{Open as OpenKept}
use Rattle.open_depth.specs.declared.depth.Change.{Change}
use Rattle.open_depth.specs.declared.depth.Change.TheVariants as change

abbrev pub Opens : Type 0
Opens = List Open

abbrev pub open_of : OpenKept → Open
open_of o = record { weight = o.weight; counts_boxes = o.counts_boxes; operators = o.operators; may_end = o.may_end }

abbrev pub opens_of : List OpenKept → Opens
opens_of os = map open_of os

-- what a token makes of the innermost construct
abbrev pub change_by : Change → Open → Open
change_by change.Operand = at_operand
change_by change.End = at_end
change_by change.Operate = operating
change_by change.Access = accessing
change_by change.Weigh = weighing
change_by change.Box = boxing
change_by change.Catch = catching

abbrev pub IsSum : ℕ → List OpenKept → Type 0
IsSum sum os = sum ≡ depth_of (opens_of os)
