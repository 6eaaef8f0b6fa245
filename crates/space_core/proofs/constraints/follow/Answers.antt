use Rattle.std.proofs.Common.{take}
use Rattle.space_core.proofs.constraints.follow.Goals as goal

pub returns : goal.returns
returns c = λ old f e t. c.settle.ensures (c.watch_from.ensures (c.follow.ensures old (take c.args.watched c.args.propagators.now) f e t))
