use Rattle.kernel_writer.specs.Tasks.{state_of}
use Rattle.std.proofs.Common.{◌∙◌}
use Rattle.kernel_writer.proofs.Outcomes.{put_on, fill_on}
use Rattle.kernel_bodies.proofs.Building.{cases_law}
use Rattle.kernel_bodies.proofs.constructs.cases.Goals as goal

pub returns : goal.returns
returns c words =
    cases_law words c.fill.new.self c.args.goal c.in_ok-name.name c.args.subject c.args.clauses c.args.last c.args.writer.now.tasks (state_of c.args.writer.now) c.in_ok-name.ensures.name
    (fill_on c.in_ok-name.name c.args.subject c.in_ok-fill.ensures.tasks (put_on c.in_ok-put.ensures.tasks c.in_ok-name.ensures.tasks))
    (c.in_ok-fill.ensures.state ∙ c.in_ok-put.ensures.state ∙ c.in_ok-name.ensures.state)
