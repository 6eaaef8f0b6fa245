use Rattle.std.proofs.Common.{refl}
use Rattle.oz_machine.proofs.NeedLaws.{all_stay, all_same}
use Rattle.oz_machine.proofs.settling.begin_needed.Goals as goal

pub returns-in_ok-fire-in-Everybody-clause-same : goal.returns-in_ok-fire-in-Everybody-clause-same
returns-in_ok-fire-in-Everybody-clause-same c =
    let old = c.args.course.now in
    all_same c.args.statements.now old (record old { levels = c.fire.new.levels }) c.in-Everybody.mover c.in-Everybody.is c.in_ok-fire-in-Everybody.ensures.ok refl refl refl

pub returns-in_ok-fire-in-Everybody-clause-begun : goal.returns-in_ok-fire-in-Everybody-clause-begun
returns-in_ok-fire-in-Everybody-clause-begun c =
    let old = c.args.course.now in
    all_stay c.args.statements.now old.levels c.fire.new.levels old.due c.in-Everybody.mover c.in-Everybody.is c.in_ok-fire-in-Everybody.ensures.ok
