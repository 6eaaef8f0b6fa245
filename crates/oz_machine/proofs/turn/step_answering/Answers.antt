use Rattle.std.proofs.Common.{List, subst}
use Rattle.oz_language.specs.declared.kernel.Statement.{Statement}
use Rattle.oz_semantics.specs.Configurations.{stack_of}
use Rattle.oz_semantics.specs.Spaces.{sight}
use Rattle.oz_semantics.specs.Statements.{stack_answer}
use Rattle.builtins.specs.Answers.{IsAnswer}
use Rattle.oz_machine.proofs.PendLaws.{pending_sleeps}
use Rattle.oz_machine.proofs.turn.step_answering.Goals as goal

pub step_answered-requires : goal.step_answered-requires
step_answered-requires c =
    let id = c.args.id.now in
    let layers = c.args.course.now.levels in
    record {
      within = c.requires.within;
      place = c.requires.place;
      head = c.requires.head;
      answered = subst (λ (st : List Statement). IsAnswer (stack_answer (sight st layers id.space) (stack_of layers id)) c.in_ok-answer.answer) c.as_slice-statements.ensures c.in_ok-answer.ensures;
      kept = c.requires.kept;
      fuel = c.requires.fuel;
      asleep = c.requires.asleep;
    }

pub returns-in_err-answer-clause-asleep : goal.returns-in_err-answer-clause-asleep
returns-in_err-answer-clause-asleep c = pending_sleeps c.args.kernel.now.statements c.args.sleeping.now c.args.course.now c.args.course.now c.requires.asleep

pub returns-clause-asleep : goal.returns-clause-asleep
returns-clause-asleep c = c.step_answered.ensures.asleep
