use Rattle.std.proofs.Common.{refl}
use Rattle.oz_machine.proofs.SearchLaws.{opens}
use Rattle.oz_machine.proofs.opening.opening.Goals as goal

pub returns : goal.returns
returns c = opens c.args.kernel.now c.in_ok-opening_levels.field-0 c.new.result c.new-2.result _ c.in_ok-opening_levels.ensures c.new.ensures c.new-2.ensures refl
