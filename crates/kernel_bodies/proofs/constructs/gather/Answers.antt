use Rattle.kernel_writer.specs.Tasks.{state_of, all_done, done}
use Rattle.std.proofs.Common.{ap, ◌∙◌, ◌++◌, ◌∷◌, []}
use Rattle.kernel_writer.proofs.Outcomes.{outcome_by}
use Rattle.kernel_bodies.proofs.Building.{gather_law}
use Rattle.kernel_writer.specs.declared.tasks.Task.TheVariants as task
use Rattle.kernel_bodies.proofs.constructs.gather.Goals as goal

pub returns : goal.returns
returns c words =
    let w = c.args.writer.now in
    outcome_by words c.put.new.self
    (ap (λ q. all_done words w.tasks (done words (task.Alternatives c.args.goal q c.args.phrases) (state_of c.end.new.self))) (c.in_ok-push.ensures.ok ∙ ap (λ b. c.args.bodies ++ b ∷ []) c.in_ok-body.ensures.body)
    ∙ ap (all_done words w.tasks) (gather_law words c.args.goal c.args.bodies c.args.phrases (state_of w) (state_of c.end.new.self) c.in_ok-body.ensures.outer c.end.ensures.statements (ap (λ q. q.next) c.end.ensures.next)))
    (c.in_ok-put.ensures.tasks ∙ ap (λ q. task.Alternatives c.args.goal c.push.new.self c.args.phrases ∷ q) c.end.ensures.tasks)
    c.in_ok-put.ensures.state
