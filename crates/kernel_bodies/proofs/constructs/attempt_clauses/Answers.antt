use Rattle.kernel_writer.specs.Tasks.{state_of, begun}
use Rattle.oz_syntax.specs.View.{views}
use Rattle.oz_language.specs.Grammar.{of_list}
use Rattle.oz_language.specs.Kernels.{just}
use Rattle.oz_language.specs.declared.kernel.Identifier.TheVariants.{Fresh}
use Rattle.oz_language.specs.Translation.{made, clauses_made, statement}
use Rattle.std.proofs.Common.{ap, refl, ◌∙◌, suc}
use Rattle.kernel_writer.proofs.Outcomes.{put_on, put_as, numbered_to}
use Rattle.kernel_bodies.proofs.Building.{attempt_law}
use Rattle.kernel_writer.specs.declared.tasks.Task.TheVariants as task
use Rattle.kernel_writer.specs.declared.tasks.Closing.TheVariants as closing
use Rattle.kernel_writer.specs.declared.goals.Goal.TheVariants as sort
use Rattle.oz_language.specs.Kernels as k
use Rattle.kernel_writer.specs.declared.tasks.Last.TheVariants as last
use Rattle.kernel_bodies.proofs.constructs.attempt_clauses.Goals as goal

pub returns : goal.returns
returns c words =
    let w = c.args.writer.now in
    let x = Fresh w.numbers.next in
    let is = c.in_ok-exception.ensures.name in
    attempt_law words c.put-4.new.self x c.args.body (task.Clauses sort.Statement x c.args.clauses (last.Raise x)) w.tasks (state_of w) (suc w.numbers.next)
    (λ i. clauses_made words statement x (of_list (views c.args.clauses.now)) (λ j. made (just (k.raise x)) j) i) (λ q. refl)
    (put_on c.in_ok-put-4.ensures.tasks (put_on c.in_ok-put-3.ensures.tasks (put_as c.in_ok-put-2.ensures.tasks (ap (λ q. task.Clauses sort.Statement q c.args.clauses (last.Raise q)) is) (put_as c.in_ok-put.ensures.tasks (ap (λ q. task.Close (closing.Try q)) is) c.in_ok-begin.ensures.tasks))))
    (c.in_ok-put-4.ensures.state ∙ c.in_ok-put-3.ensures.state ∙ c.in_ok-put-2.ensures.state ∙ c.in_ok-put.ensures.state ∙ c.in_ok-begin.ensures.state ∙ ap (λ m. begun (numbered_to (state_of w) m)) c.in_ok-exception.ensures.next)
