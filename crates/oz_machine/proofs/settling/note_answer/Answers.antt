use Rattle.oz_machine.proofs.HeadLaws.{answers_at}
use Rattle.oz_machine.proofs.settling.note_answer.Goals as goal

pub returns : goal.returns
returns c = (
  c.in_ok-answer.answer,
  c.note.ensures,
  answers_at c.args.statements.now c.args.levels.now c.args.id.now c.args.place c.args.frame.now c.store_at.result.now c.in_ok-answer.answer c.requires.place c.store_at.ensures c.requires.top
      c.in_ok-answer.ensures,
  c.waits-waiting.ensures,
)
