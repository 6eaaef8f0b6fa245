use Rattle.space_core.proofs.PathLaws.{led_by}
use Rattle.space_core.proofs.fates.fate_below.Goals as goal

pub returns-clause-path : goal.returns-clause-path
returns-clause-path c = led_by c.fate_after.result c.args.levels.now c.args.level.now.space c.args.path.now.items c.parent_on.new.path.items c.in-Some.place c.in-Some.ensures.path
