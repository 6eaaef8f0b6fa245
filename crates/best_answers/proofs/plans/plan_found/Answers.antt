use Rattle.std.proofs.Common.{rules, ◌∙◌, List, ℕ, FitsSigned, to_z-of_z, ap, sym}
use Rattle.std.specs.Int.{w128}
use Rattle.std.proofs.lemmas.Result.{IfOk-weaker}
use Rattle.oz_replies.specs.BestReplies as answers
use Rattle.best_search.specs.declared.ending.Found.{Found}
use Rattle.best_answers.specs.Told.{answer_after, planned}
use Rattle.best_answers.proofs.plans.plan_found.Goals as goal

pub returns-in-Best : goal.returns-in-Best
returns-in-Best c =
    let fits : FitsSigned w128 c.in-Best.cost = search rules in
    let written = rw (to_z-of_z fits) at (c.solution.ensures c.args.budget) in
    IfOk-weaker c.solution.result _ _ (λ plan e. e ∙ ap (λ (text : List ℕ). planned c.args.budget (answers.Best text c.in-Best.cost)) c.as_slice.ensures
    ∙ ap (λ (found : Found). planned c.args.budget (answer_after c.args.steps found)) (sym c.in-Best.is)) written

pub returns-in-NoSolution : goal.returns-in-NoSolution
returns-in-NoSolution c =
    IfOk-weaker c.no_solution.result _ _ (λ plan e. e ∙ ap (λ (found : Found). planned c.args.budget (answer_after c.args.steps found)) (sym c.in-NoSolution.is))
    (c.no_solution.ensures c.args.budget)
