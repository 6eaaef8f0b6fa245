use Rattle.std.proofs.Common.{ap, ◌∙◌}
use Rattle.oz_semantics.specs.Answers as answers
use Rattle.builtins.proofs.objects.access.Goals as goal

pub returns-in_ok-copied-in-Ok : goal.returns-in_ok-copied-in-Ok
returns-in_ok-copied-in-Ok c =
    ap (λ x. answers.Acts (answers.Reads c.in-Ok.cell x)) c.in_ok-copied-in-Ok.ensures ∙ c.in-Ok.ensures (λ n. answers.Reads n c.args.output.now)
