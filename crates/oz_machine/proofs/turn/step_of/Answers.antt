use Rattle.oz_acts.proofs.PlaceLaws.{place_within}
use Rattle.oz_machine.proofs.turn.step_of.Goals as goal

pub step_declaring-requires : goal.step_declaring-requires
step_declaring-requires c =
    let found = (rw c.in-Declares.is at c.requires.answered) c.args.id.now c.requires.head in
    record { head = c.requires.head; there = found.0; stands = found.1; kept = c.requires.kept; fuel = c.requires.fuel; asleep = c.requires.asleep }

pub step_answered-requires : goal.step_answered-requires
step_answered-requires c =
    let found = (rw c.in-Answers.is at c.requires.answered) c.args.id.now c.requires.head in
    record {
      within = place_within c.args.course.now.levels c.args.id.now.space c.in-Answers.place found.0;
      place = found.0;
      head = c.requires.head;
      answered = found.1;
      kept = c.requires.kept;
      fuel = c.requires.fuel;
      asleep = c.requires.asleep;
    }
