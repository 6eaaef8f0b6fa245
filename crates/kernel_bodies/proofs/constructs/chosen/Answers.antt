use Rattle.kernel_writer.specs.Tasks.{state_of, all_done}
use Rattle.std.proofs.Common.{ap, ◌∙◌}
use Rattle.kernel_writer.proofs.Outcomes.{added_by}
use Rattle.kernel_bodies.proofs.Building.{none_chosen}
use Rattle.oz_language.specs.declared.kernel.Statement.TheVariants as numbered
use Rattle.kernel_bodies.proofs.constructs.chosen.Goals as goal

pub returns : goal.returns
returns c words =
    let w = c.args.writer.now in
    ap (all_done words w.tasks) (added_by (state_of w) (numbered.Choice c.args.bodies) c.in_ok-choice.ensures ∙ none_chosen (state_of w) c.args.bodies)
