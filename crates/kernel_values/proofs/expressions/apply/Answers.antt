use Rattle.kernel_writer.specs.Tasks.{state_of}
use Rattle.std.proofs.Common.{ap, ◌∙◌, ◌++◌}
use Rattle.kernel_values.proofs.Steps.{apply_law}
use Rattle.kernel_writer.proofs.Outcomes.{put_as, fill_on}
use Rattle.kernel_writer.specs.Parts.{result_names}
use Rattle.kernel_writer.specs.declared.tasks.Task.TheVariants as task
use Rattle.oz_language.specs.declared.kernel.Statement.TheVariants as numbered
use Rattle.kernel_values.proofs.expressions.apply.Goals as goal

pub returns : goal.returns
returns c words =
    apply_law words c.fill-2.new.self c.args.operation c.args.given c.in_ok-one.one c.in_ok-one.other c.args.first c.args.second c.args.writer.now.tasks (state_of c.args.writer.now) c.in_ok-one.ensures.first c.in_ok-one.ensures.second
    (fill_on c.in_ok-one.one c.args.first c.in_ok-fill-2.ensures.tasks (fill_on c.in_ok-one.other c.args.second c.in_ok-fill.ensures.tasks
    (put_as c.in_ok-put.ensures.tasks (ap (λ q. task.Statement (numbered.Operate c.args.operation q)) (c.in_ok-arguments.ensures ∙ ap (λ q. q ++ result_names c.args.given) c.in_ok-two_names.ensures)) c.in_ok-one.ensures.tasks)))
    (c.in_ok-fill-2.ensures.state ∙ c.in_ok-fill.ensures.state ∙ c.in_ok-put.ensures.state ∙ c.in_ok-one.ensures.state)
