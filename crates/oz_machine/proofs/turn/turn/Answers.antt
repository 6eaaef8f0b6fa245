use Rattle.oz_machine.specs.Courses.{config_of}
use Rattle.oz_machine.proofs.QuietLaws.{kept_turned}
use Rattle.oz_machine.proofs.PendLaws.{begun, ended}
use Rattle.oz_machine.proofs.turn.turn.Goals as goal

pub take_turn-requires : goal.take_turn-requires
take_turn-requires c = record {
  due = c.requires.due;
  answered = c.requires.answered;
  kept = c.requires.kept;
  asleep = begun c.args.kernel.now.statements c.args.sleeping.now c.begin_turn.new.self c.args.course.now c.requires.due c.begin_turn.ensures c.requires.asleep;
}

pub returns-clause-kept : goal.returns-clause-kept
returns-clause-kept c = λ known.
    let st = c.args.kernel.now.statements in
    kept_turned c.args.kernel.now (config_of st c.args.course.now) (config_of st c.take_turn.new.course) c.args.fuel c.in_ok-turned.turned
    (c.requires.kept (c.is_still_kept.ensures.was known)) c.in_ok-turned.ensures.turn (c.is_still_kept.ensures.turned known)

pub returns-clause-asleep : goal.returns-clause-asleep
returns-clause-asleep c = ended c.args.kernel.now.statements c.take_turn.new.sleeping c.end_turn.new.self c.take_turn.new.course c.end_turn.ensures c.take_turn.ensures.asleep
