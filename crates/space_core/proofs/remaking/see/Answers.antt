use Rattle.std.proofs.Common.{ap}
use Rattle.space_core.specs.Constraints.{Held}
use Rattle.space_core.proofs.remaking.see.Goals as goal

pub returns : goal.returns
returns c =
    ap (λ (h : Held). record c.args.level.now { constraints = h; told_from = c.args.seen.told_from; touched = c.args.seen.touched; traced = c.args.seen.traced }) c.see.ensures
