use Rattle.builtins.proofs.AnswerLaws.{given_so}
use Rattle.builtins.proofs.calls.answer_given.Goals as goal

pub returns : goal.returns
returns c = given_so c.args.space.now c.args.store.now c.args.builtin c.args.first.now c.args.second.now c.args.third.now c.answers.result c.answers.ensures
