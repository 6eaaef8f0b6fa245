use Rattle.oz_machine.proofs.PendLaws.{pending_sleeps}
use Rattle.oz_machine.proofs.turn.take_turn.Goals as goal

pub take_run-requires : goal.take_run-requires
take_run-requires c = record { due = c.requires.due; least = c.in-Some.ensures }

pub take_step-requires : goal.take_step-requires
take_step-requires c = record { due = c.requires.due; least = c.in_default.ensures; answered = c.requires.answered; kept = c.requires.kept; asleep = c.requires.asleep }

pub returns-in-Some-clause-asleep : goal.returns-in-Some-clause-asleep
returns-in-Some-clause-asleep c = pending_sleeps c.args.kernel.now.statements c.args.sleeping.now c.args.course.now c.take_run.new.course c.requires.asleep

pub returns-clause-asleep : goal.returns-clause-asleep
returns-clause-asleep c = c.take_step.ensures.asleep
