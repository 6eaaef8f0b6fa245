use Rattle.oz_machine.proofs.AskingLaws.{left_sleeps}
use Rattle.oz_machine.proofs.settling.settle.Goals as goal

pub returns-in_err-ask-clause-asleep : goal.returns-in_err-ask-clause-asleep
returns-in_err-ask-clause-asleep c =
    left_sleeps c.args.statements.now c.ask.new.sleeping c.begin_needed.new.course c.ask.new.queue c.in_err-ask.ensures.err c.in_err-ask.ensures.left
