use Rattle.kernel_writer.specs.Tasks.{state_of}
use Rattle.oz_syntax.specs.View.{views}
use Rattle.oz_language.specs.Grammar.{of_list}
use Rattle.oz_language.specs.Translation.{valued_last}
use Rattle.std.proofs.Common.{refl, ◌∙◌}
use Rattle.kernel_writer.proofs.Outcomes.{put_on}
use Rattle.kernel_bodies.proofs.Building.{declaring_law}
use Rattle.kernel_writer.specs.declared.tasks.Task.TheVariants as task
use Rattle.kernel_bodies.proofs.constructs.valued_body.Goals as goal

pub returns : goal.returns
returns c words =
    let w = c.args.writer.now in
    declaring_law words c.put-2.new.self (task.ValuedLast c.args.name c.args.phrases) c.args.declarations w.tasks (state_of w) (λ i. valued_last words c.args.name (of_list (views c.args.phrases.now)) i)
    (λ q. refl)
    (put_on c.in_ok-put-2.ensures.tasks (put_on c.in_ok-put.ensures.tasks c.in_ok-begin_declarations.ensures.tasks))
    (c.in_ok-put-2.ensures.state ∙ c.in_ok-put.ensures.state ∙ c.in_ok-begin_declarations.ensures.state)
