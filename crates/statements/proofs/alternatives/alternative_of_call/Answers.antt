use Rattle.std.proofs.Common.{◌∙◌, ap, map}
use Rattle.std.proofs.lemmas.Result.{IfOk-weaker}
use Rattle.environments.specs.Environments.{bound}
use Rattle.statements.specs.Offers.{alternative_in, called_offer}
use Rattle.statements.proofs.alternatives.alternative_of_call.Goals as goal

pub returns : goal.returns
returns c =
    let xs = map (bound c.args.environment.now) c.args.names.now in
    IfOk-weaker c.alternative_called.result _ _
    (λ frames h. h ∙ ap (λ x. alternative_in c.args.index (called_offer c.args.store.now x xs)) c.look-procedure.ensures)
    c.alternative_called.ensures
