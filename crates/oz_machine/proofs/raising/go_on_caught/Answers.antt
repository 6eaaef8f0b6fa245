use Rattle.settle_laws.proofs.SettleLaws.{nothing_fails}
use Rattle.oz_machine.proofs.raising.go_on_caught.Goals as goal

pub returns-then-kept-clause-turn : goal.returns-then-kept-clause-turn
returns-then-kept-clause-turn c = λ layers frames head is. c.go_on_unwound.ensures.turn layers frames (head c.if-kept.true) is

pub returns-clause-turn : goal.returns-clause-turn
returns-clause-turn c = λ layers frames head is.
    let now = c.args.course.now.levels in
    c.go_on.ensures.turn c.args.kernel.now.statements now (nothing_fails c.args.id.now.space now c.consistent.ensures)
