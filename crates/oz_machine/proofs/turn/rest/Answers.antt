use Rattle.settle_laws.proofs.SettleLaws.{nothing_fails}
use Rattle.oz_machine.proofs.turn.rest.Goals as goal

pub returns-clause-turn : goal.returns-clause-turn
returns-clause-turn c = λ statements mover head.
    let now = c.args.course.now in
    c.follow.ensures.turn statements mover now.levels head (nothing_fails mover.space now.levels c.consistent.ensures)
