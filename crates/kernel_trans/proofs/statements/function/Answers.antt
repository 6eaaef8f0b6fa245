use Rattle.kernel_writer.specs.Tasks.{state_of, begun}
use Rattle.oz_syntax.specs.View.{views}
use Rattle.oz_language.specs.Grammar.{of_list}
use Rattle.oz_language.specs.declared.kernel.Identifier.TheVariants.{Fresh}
use Rattle.std.proofs.Common.{ap, ◌∙◌, ◌++◌, ◌∷◌, [], suc}
use Rattle.kernel_writer.proofs.Outcomes.{put_as, numbered_to}
use Rattle.kernel_trans.proofs.Building.{body_law}
use Rattle.oz_language.specs.Translation.{parameter_names, behind_parameters}
use Rattle.kernel_writer.specs.declared.tasks.Task.TheVariants as task
use Rattle.kernel_writer.specs.declared.tasks.Closing.TheVariants as closing
use Rattle.kernel_writer.specs.declared.goals.Goal.TheVariants as sort
use Rattle.kernel_trans.proofs.statements.function.Goals as goal

pub returns : goal.returns
returns c words =
    let w = c.args.writer.now in
    let n = w.numbers.next in
    let ps = of_list (views c.args.parameters.now) in
    let m = behind_parameters n ps in
    let is = c.in_ok-value.ensures.name ∙ ap Fresh c.in_ok-parameters.ensures.next in
    let are = c.in_ok-push.ensures.ok ∙ (λ i. c.in_ok-parameters.ensures.names i ++ is i ∷ []) in
    let state = c.in_ok-begin.ensures.state ∙ ap (λ q. begun (numbered_to (state_of w) q)) (c.in_ok-value.ensures.next ∙ ap suc c.in_ok-parameters.ensures.next) in
    let close = put_as c.in_ok-put.ensures.tasks (ap (λ q. task.Close (closing.Procedure c.args.name q)) are) c.in_ok-begin.ensures.tasks in
    body_law words c.put_value.new.self c.args.name (parameter_names n ps ++ Fresh m ∷ []) (sort.Value (Fresh m)) c.args.body w.tasks (state_of w) (suc m)
    (put_as c.in_ok-put_value.ensures.tasks (ap (λ q. task.Phrase (sort.Value q) c.args.body) is) close)
    (c.in_ok-put_value.ensures.state ∙ c.in_ok-put.ensures.state ∙ state)
