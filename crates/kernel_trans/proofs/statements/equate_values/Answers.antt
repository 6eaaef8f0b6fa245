use Rattle.kernel_writer.specs.Tasks.{state_of, scope_begun, ending, begun}
use Rattle.std.proofs.Common.{ap, ◌∙◌, ◌∷◌, []}
use Rattle.kernel_writer.proofs.Outcomes.{put_as, numbered_to}
use Rattle.kernel_trans.proofs.Building.{equate_law}
use Rattle.kernel_writer.specs.declared.tasks.Task.TheVariants as task
use Rattle.kernel_writer.specs.declared.goals.Goal.TheVariants as sort
use Rattle.kernel_trans.proofs.statements.equate_values.Goals as goal

pub returns : goal.returns
returns c words =
    let w = c.args.writer.now in
    let n = w.numbers.next in
    let is = c.in_ok-name.ensures.name in
    let are = c.in_ok-names.ensures ∙ ap (λ q. q ∷ []) is in
    equate_law words c.put_value-2.new.self c.args.left c.args.right w.tasks (state_of w)
    (put_as c.in_ok-put_value-2.ensures.tasks (ap (λ q. task.Phrase (sort.Value q) c.args.left) is) (put_as c.in_ok-put_value.ensures.tasks (ap (λ q. task.Phrase (sort.Value q) c.args.right) is) (c.in_ok-begin_scope.ensures.tasks ∙ ap (λ q. ending q w.tasks) are)))
    (c.in_ok-put_value-2.ensures.state ∙ c.in_ok-put_value.ensures.state ∙ c.in_ok-begin_scope.ensures.state ∙ ap (λ q. scope_begun q (numbered_to (state_of w) c.fresh.new.self.next)) are ∙ ap (λ m. begun (numbered_to (state_of w) m)) c.in_ok-name.ensures.next)
