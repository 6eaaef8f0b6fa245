use Rattle.kernel_writer.specs.Tasks.{state_of}
use Rattle.oz_syntax.specs.View.{view, views}
use Rattle.oz_language.specs.Grammar.{of_list, more}
use Rattle.std.proofs.Common.{refl, ◌∙◌}
use Rattle.kernel_values.proofs.Steps.{filled_law}
use Rattle.kernel_writer.proofs.Outcomes.{put_on, fill_on}
use Rattle.kernel_values.proofs.expressions.first_filled.Goals as goal

pub returns : goal.returns
returns c words =
    filled_law words c.fill.new.self c.in_ok-name.name c.args.names.next c.part.new.self c.args.part c.args.parts (more (view c.args.part.now) (of_list (views c.args.parts.now))) c.args.writer.now.tasks (state_of c.args.writer.now) c.in_ok-name.ensures.name c.in_ok-name.ensures.next refl
    (fill_on c.in_ok-name.name c.args.part c.in_ok-fill.ensures.tasks (put_on c.in_ok-put.ensures.tasks refl))
    (c.in_ok-fill.ensures.state ∙ c.in_ok-put.ensures.state)
