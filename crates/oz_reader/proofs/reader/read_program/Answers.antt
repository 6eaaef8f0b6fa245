use Rattle.std.proofs.lemmas.Result.{IfOk-weaker, IfErr-weaker}
use Rattle.oz_reader.proofs.Uniqueness.{one_program, not_both, refuses_err}
use Rattle.oz_reader.proofs.reader.read_program.Goals as goal

pub returns-clause-only : goal.returns-clause-only
returns-clause-only c =
    IfOk-weaker c.read_text.result _ _ (λ p h q k. one_program c.one_reading.ensures c.parses_law.ensures c.args.text.now p q h k) c.read_text.ensures.accepted

pub returns-clause-unrefused : goal.returns-clause-unrefused
returns-clause-unrefused c =
    IfOk-weaker c.read_text.result _ _ (λ p h f k. not_both c.one_reading.ensures c.parses_law.ensures c.args.text.now f p k h) c.read_text.ensures.accepted

pub returns-clause-refused : goal.returns-clause-refused
returns-clause-refused c =
    IfErr-weaker c.read_text.result _ _ (λ e h. refuses_err c.one_reading.ensures c.parses_law.ensures c.args.text.now e h) c.read_text.ensures.refused
