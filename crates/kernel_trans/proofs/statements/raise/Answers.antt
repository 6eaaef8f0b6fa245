use Rattle.kernel_writer.specs.Tasks.{state_of}
use Rattle.std.proofs.Common.{◌∙◌}
use Rattle.kernel_trans.proofs.Building.{raise_law}
use Rattle.kernel_writer.proofs.Outcomes.{put_on, fill_on}
use Rattle.kernel_trans.proofs.statements.raise.Goals as goal

pub returns : goal.returns
returns c words =
    raise_law words c.fill.new.self c.in_ok-name.name c.args.value c.args.writer.now.tasks (state_of c.args.writer.now) c.in_ok-name.ensures.name
    (fill_on c.in_ok-name.name c.args.value c.in_ok-fill.ensures.tasks (put_on c.in_ok-put.ensures.tasks c.in_ok-name.ensures.tasks))
    (c.in_ok-fill.ensures.state ∙ c.in_ok-put.ensures.state ∙ c.in_ok-name.ensures.state)
