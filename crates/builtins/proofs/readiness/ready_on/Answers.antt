use Rattle.std.proofs.Common.{sym, subst}
use Rattle.std.proofs.lemmas.Result.{IfOk-weaker}
use Rattle.oz_semantics.specs.Values.{space_in}
use Rattle.builtins.specs.Answers.{IsReady}
use Rattle.builtins.specs.Looks.{operating}
use Rattle.builtins.proofs.readiness.ready_on.Goals as goal

pub returns-in-Space : goal.returns-in-Space
returns-in-Space c =
    IfOk-weaker c.ready_in.result _ _ (λ r h view. subst (λ v. IsReady view (operating c.args.space.now (space_in v)) r) (sym c.in-Space.is) (h view)) c.ready_in.ensures
