use Rattle.oz_acts.proofs.PlaceLaws.{place_there}
use Rattle.oz_machine.proofs.PendLaws.{pending_sleeps}
use Rattle.oz_machine.proofs.turn.step_as.Goals as goal

pub make_step-requires : goal.make_step-requires
make_step-requires c =
    record { head = c.requires.head; there = place_there c.args.course.now.levels c.args.id.now.space c.args.place c.requires.place; kept = c.requires.kept; shown = c.in_default.ensures; asleep = c.requires.asleep }

pub returns-in-Some-clause-asleep : goal.returns-in-Some-clause-asleep
returns-in-Some-clause-asleep c = pending_sleeps c.args.kernel.now.statements c.args.sleeping.now c.args.course.now c.show.new.course c.requires.asleep
