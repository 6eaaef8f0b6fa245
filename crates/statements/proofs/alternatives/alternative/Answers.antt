use Rattle.std.proofs.lemmas.Result.{IfOk-weaker}
use Rattle.statements.proofs.OfferLaws.{chosen_of}
use Rattle.statements.proofs.alternatives.alternative.Goals as goal

pub returns-clause-chosen : goal.returns-clause-chosen
returns-clause-chosen c =
    IfOk-weaker c.alternative_of_frame.result _ _ (λ a h space offer stack e. chosen_of c.args.index a _ offer stack (h space) e) c.alternative_of_frame.ensures
