use Rattle.std.proofs.Common.{ap, ◌∙◌}
use Rattle.oz_semantics.specs.Answers as answers
use Rattle.builtins.proofs.objects.exchange.Goals as goal

pub returns-in_ok-copied-in-Ok-2 : goal.returns-in_ok-copied-in-Ok-2
returns-in_ok-copied-in-Ok-2 c =
    ap (λ x. answers.Acts (answers.Exchanges c.in-Ok.cell x c.in_ok-copied-in-Ok-2.field-0)) c.in_ok-copied-in-Ok.ensures
    ∙ ap (λ y. answers.Acts (answers.Exchanges c.in-Ok.cell c.args.output.now y)) c.in_ok-copied-in-Ok-2.ensures
    ∙ c.in-Ok.ensures (λ n. answers.Exchanges n c.args.output.now c.args.content.now)
