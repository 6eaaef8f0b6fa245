use Rattle.kernel_writer.specs.Tasks.{state_of, all_done, done}
use Rattle.kernel_writer.specs.Goals.{goal_of}
use Rattle.oz_syntax.specs.View.{views}
use Rattle.oz_language.specs.Grammar.{of_list}
use Rattle.std.proofs.Common.{ap, ◌∙◌}
use Rattle.kernel_writer.proofs.Outcomes.{outcome_by}
use Rattle.kernel_bodies.proofs.Building.{choice_law}
use Rattle.oz_language.specs.Translation.{alternatives}
use Rattle.kernel_writer.specs.declared.tasks.Task.TheVariants as task
use Rattle.kernel_bodies.proofs.constructs.choice.Goals as goal

pub returns : goal.returns
returns c words =
    let w = c.args.writer.now in
    outcome_by words c.put.new.self
    (ap (λ q. all_done words w.tasks (done words (task.Alternatives c.args.goal q c.args.phrases) (state_of w))) c.new-bodies.ensures
    ∙ ap (all_done words w.tasks) (choice_law (state_of w) (alternatives words (goal_of c.args.goal) w.numbers.next (of_list (views c.args.phrases.now)))))
    c.in_ok-put.ensures.tasks c.in_ok-put.ensures.state
