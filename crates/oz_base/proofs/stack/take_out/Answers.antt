use Rattle.std.proofs.Common.{◌+◌, ◌-◌, suc, arith, ap, ◌∙◌, reverse}
use Rattle.oz_base.proofs.Cuts.{cut_turned}
use Rattle.oz_base.proofs.stack.take_out.Goals as goal

pub returns : goal.returns
returns g c =
    ap reverse c.remove-taken.ensures.items
    ∙ cut_turned c.args.items.now.items (c.len.result - c.args.before_last - 1) (suc (c.len.result - c.args.before_last - 1)) c.args.before_last (c.args.before_last + 1)
    (omega (arith, c.requires, c.len.ensures)) (omega (arith, c.requires, c.len.ensures))
