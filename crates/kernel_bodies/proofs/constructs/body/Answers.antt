use Rattle.kernel_writer.specs.Tasks.{state_of, standing}
use Rattle.oz_syntax.specs.View.{views}
use Rattle.oz_language.specs.Grammar.{of_list}
use Rattle.std.proofs.Common.{refl, ◌∙◌}
use Rattle.kernel_writer.proofs.Outcomes.{put_on, put_as}
use Rattle.kernel_bodies.proofs.Building.{declaring_law, standing_law}
use Rattle.kernel_bodies.specs.Bodies.{last_statements}
use Rattle.kernel_bodies.proofs.constructs.body.Goals as goal

pub returns : goal.returns
returns c words =
    let w = c.args.writer.now in
    declaring_law words c.put-2.new.self (standing (of_list (views c.args.phrases.now)) c.args.phrases) c.args.declarations w.tasks (state_of w) (λ i. last_statements words i (of_list (views c.args.phrases.now)))
    (λ q. standing_law words (of_list (views c.args.phrases.now)) c.args.phrases q refl)
    (put_on c.in_ok-put-2.ensures.tasks (put_as c.in_ok-put.ensures.tasks c.statements_or_skip.ensures c.in_ok-begin_declarations.ensures.tasks))
    (c.in_ok-put-2.ensures.state ∙ c.in_ok-put.ensures.state ∙ c.in_ok-begin_declarations.ensures.state)
