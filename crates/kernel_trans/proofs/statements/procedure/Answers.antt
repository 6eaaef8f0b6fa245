use Rattle.kernel_writer.specs.Tasks.{state_of, begun}
use Rattle.oz_syntax.specs.View.{views}
use Rattle.oz_language.specs.Grammar.{of_list}
use Rattle.std.proofs.Common.{ap, sym, ◌∙◌, ◌++◌, []}
use Rattle.kernel_writer.proofs.Outcomes.{put_on, put_as, numbered_to}
use Rattle.kernel_trans.proofs.Building.{body_law}
use Rattle.std.proofs.lemmas.List.{append-nil}
use Rattle.oz_language.specs.Translation.{parameter_names, behind_parameters}
use Rattle.kernel_writer.specs.declared.tasks.Task.TheVariants as task
use Rattle.kernel_writer.specs.declared.tasks.Closing.TheVariants as closing
use Rattle.kernel_writer.specs.declared.goals.Goal.TheVariants as sort
use Rattle.kernel_trans.proofs.statements.procedure.Goals as goal

pub returns : goal.returns
returns c words =
    let w = c.args.writer.now in
    let n = w.numbers.next in
    let ps = of_list (views c.args.parameters.now) in
    body_law words c.put-2.new.self c.args.name (parameter_names n ps ++ []) sort.Statement c.args.body w.tasks (state_of w) (behind_parameters n ps)
    (put_on c.in_ok-put-2.ensures.tasks (put_as c.in_ok-put.ensures.tasks (ap (λ q. task.Close (closing.Procedure c.args.name q)) (c.in_ok-parameters.ensures.names ∙ sym (append-nil (parameter_names n ps)))) c.in_ok-begin.ensures.tasks))
    (c.in_ok-put-2.ensures.state ∙ c.in_ok-put.ensures.state ∙ c.in_ok-begin.ensures.state ∙ ap (λ m. begun (numbered_to (state_of w) m)) c.in_ok-parameters.ensures.next)
