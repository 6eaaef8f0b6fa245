use Rattle.kernel_writer.specs.Tasks.{state_of, scope_begun, written}
use Rattle.oz_syntax.specs.View.{view, views}
use Rattle.oz_language.specs.Grammar.{of_list, more}
use Rattle.oz_language.specs.Kernels.{just}
use Rattle.oz_language.specs.declared.kernel.Identifier.TheVariants.{Fresh}
use Rattle.oz_language.specs.Translation.{made, fresh_among, cell_bound}
use Rattle.std.proofs.Common.{ap, refl, ◌∙◌, ◌∷◌, [], suc}
use Rattle.kernel_values.proofs.Steps.{list_law}
use Rattle.kernel_writer.proofs.Outcomes.{put_on, fill_on, numbered_to}
use Rattle.kernel_values.proofs.expressions.first_cell.Goals as goal

pub returns : goal.returns
returns c words =
    let y = c.in_ok-head.head in
    let z = c.in_ok-tail.tail in
    list_law words c.fill.new.self c.args.name y z c.args.element c.args.elements (more (view c.args.element.now) (of_list (views c.args.elements.now))) c.args.writer.now.tasks (state_of c.args.writer.now)
    c.in_ok-head.ensures.name (c.in_ok-tail.ensures.name ∙ ap Fresh c.in_ok-head.ensures.next) refl
    (fill_on y c.args.element c.in_ok-fill.ensures.tasks (put_on c.in_ok-put.ensures.tasks c.in_ok-begin_cell.ensures.tasks))
    (c.in_ok-fill.ensures.state ∙ c.in_ok-put.ensures.state ∙ c.in_ok-begin_cell.ensures.state
    ∙ ap (λ n. written (scope_begun (fresh_among (y ∷ z ∷ [])) (numbered_to (state_of c.args.writer.now) n)) (made (just (cell_bound c.args.name y z)) n)) (c.in_ok-tail.ensures.next ∙ ap suc c.in_ok-head.ensures.next))
