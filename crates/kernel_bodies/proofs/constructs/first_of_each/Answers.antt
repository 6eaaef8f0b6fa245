use Rattle.kernel_writer.specs.Tasks.{state_of}
use Rattle.oz_syntax.specs.View.{view, views}
use Rattle.oz_language.specs.Grammar.{of_list, more}
use Rattle.std.proofs.Common.{refl, ◌∙◌}
use Rattle.kernel_writer.proofs.Outcomes.{put_on}
use Rattle.kernel_bodies.proofs.Building.{each_law}
use Rattle.kernel_bodies.proofs.constructs.first_of_each.Goals as goal

pub returns : goal.returns
returns c words =
    each_law words c.put-2.new.self c.args.phrase c.args.phrases (more (view c.args.phrase.now) (of_list (views c.args.phrases.now))) c.args.writer.now.tasks (state_of c.args.writer.now) refl
    (put_on c.in_ok-put-2.ensures.tasks (put_on c.in_ok-put.ensures.tasks refl))
    (c.in_ok-put-2.ensures.state ∙ c.in_ok-put.ensures.state)
