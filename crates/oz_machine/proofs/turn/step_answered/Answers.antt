use Rattle.std.proofs.Common.{◌∙◌, sym}
use Rattle.oz_semantics.specs.Configurations.{stack_of}
use Rattle.oz_semantics.specs.Spaces.{states_of, answer_in}
use Rattle.oz_machine.proofs.TurnLaws.{answered_so}
use Rattle.oz_machine.proofs.PendLaws.{pending_sleeps}
use Rattle.oz_machine.proofs.turn.step_answered.Goals as goal

pub returns-clause-turn : goal.returns-clause-turn
returns-clause-turn c =
    let k = c.args.kernel.now in
    let id = c.args.id.now in
    let layers = c.args.course.now.levels in
    c.step_as.ensures.turn (answer_in k.statements layers (states_of k.statements layers) id.space (stack_of layers id))
    (answered_so k id layers c.args.answer.now c.requires.answered (sym c.operates.ensures ∙ c.if-operates.false))

pub returns-then-operates-clause-asleep : goal.returns-then-operates-clause-asleep
returns-then-operates-clause-asleep c = pending_sleeps c.args.kernel.now.statements c.args.sleeping.now c.args.course.now c.step_operating.new.course c.requires.asleep

pub returns-clause-asleep : goal.returns-clause-asleep
returns-clause-asleep c = c.step_as.ensures.asleep
