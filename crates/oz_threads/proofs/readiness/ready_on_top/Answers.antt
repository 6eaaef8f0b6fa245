use Rattle.std.proofs.Common.{ap, ◌∙◌, subst}
use Rattle.std.specs.Prelude.{option_copied}
use Rattle.std.proofs.lemmas.Result.{IfOk-weaker}
use Rattle.builtins.specs.Answers.{IsReady}
use Rattle.oz_threads.specs.Sights.{sight_of}
use Rattle.oz_threads.proofs.ReadyLaws.{top_ready}
use Rattle.oz_threads.proofs.readiness.ready_on_top.Goals as goal

pub returns-in-Some : goal.returns-in-Some
returns-in-Some c =
    IfOk-weaker c.ready.result _ _
    (λ r h t e. subst (λ d. IsReady c.args.store.now d r) (top_ready (sight_of c.args.statements.now c.args.space.now c.args.store.now) t.frames c.in-Some.frame.now (e ∙ ap option_copied c.in-Some.is)) h)
    c.ready.ensures
