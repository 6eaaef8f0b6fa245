use Rattle.kernel_writer.specs.Tasks.{state_of}
use Rattle.oz_syntax.specs.View.{views}
use Rattle.oz_language.specs.Grammar.{of_list}
use Rattle.oz_language.specs.Translation.{handled}
use Rattle.std.proofs.Common.{refl, ◌∙◌}
use Rattle.kernel_writer.proofs.Outcomes.{put_on}
use Rattle.kernel_bodies.proofs.Building.{attempt_law}
use Rattle.kernel_writer.specs.declared.tasks.Task.TheVariants as task
use Rattle.kernel_bodies.proofs.constructs.attempt_one.Goals as goal

pub returns : goal.returns
returns c words =
    let w = c.args.writer.now in
    attempt_law words c.put-4.new.self c.args.exception c.args.body (task.Handled c.args.clauses) w.tasks (state_of w) w.numbers.next
    (λ i. handled words (of_list (views c.args.clauses.now)) i) (λ q. refl)
    (put_on c.in_ok-put-4.ensures.tasks (put_on c.in_ok-put-3.ensures.tasks (put_on c.in_ok-put-2.ensures.tasks (put_on c.in_ok-put.ensures.tasks c.in_ok-begin.ensures.tasks))))
    (c.in_ok-put-4.ensures.state ∙ c.in_ok-put-3.ensures.state ∙ c.in_ok-put-2.ensures.state ∙ c.in_ok-put.ensures.state ∙ c.in_ok-begin.ensures.state)
