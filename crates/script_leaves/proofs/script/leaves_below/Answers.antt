use Rattle.std.proofs.Common.{◌∙◌, ap}
use Rattle.std.proofs.lemmas.Result.{IfOk-weaker}
use Rattle.search_all.specs.Answers.{answer_of}
use Rattle.script_leaves.proofs.script.leaves_below.Goals as goal

pub returns : goal.returns
returns g c = IfOk-weaker c.search_all.result _ _ (λ found e. e ∙ ap answer_of c.new-frozen.ensures) c.search_all.ensures
