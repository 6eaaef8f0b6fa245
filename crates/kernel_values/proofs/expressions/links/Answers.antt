use Rattle.kernel_writer.specs.Tasks.{state_of, scope_begun, written, chain_tail}
use Rattle.oz_language.specs.Kernels.{just}
use Rattle.oz_language.specs.Translation.{made, fresh_among, next_after, name_or, cell_bound}
use Rattle.std.proofs.Common.{ap, ◌∙◌, ◌∷◌, []}
use Rattle.kernel_values.proofs.Steps.{links_law}
use Rattle.kernel_writer.proofs.Outcomes.{fill_on, numbered_to}
use Rattle.kernel_values.proofs.expressions.links.Goals as goal

pub returns : goal.returns
returns c words =
    let y = c.in_ok-head.head in
    let z = c.in_ok-tail.tail in
    links_law words c.fill.new.self c.args.name y z c.args.element c.args.elements c.args.writer.now.tasks (state_of c.args.writer.now)
    c.in_ok-head.ensures.name (c.in_ok-tail.ensures.name ∙ (λ i. name_or (c.in_ok-head.ensures.next i) (c.last_variable-last.ensures i)))
    (fill_on y c.args.element c.in_ok-fill.ensures.tasks (c.in_ok-put_tail.ensures.tasks ∙ (λ i. chain_tail z (c.last_variable-last.ensures i) c.args.elements (c.in_ok-begin_cell.ensures.tasks i))))
    (c.in_ok-fill.ensures.state ∙ c.in_ok-put_tail.ensures.state ∙ c.in_ok-begin_cell.ensures.state
    ∙ ap (λ n. written (scope_begun (fresh_among (y ∷ z ∷ [])) (numbered_to (state_of c.args.writer.now) n)) (made (just (cell_bound c.args.name y z)) n)) (c.in_ok-tail.ensures.next ∙ (λ i. next_after (c.in_ok-head.ensures.next i) (c.last_variable-last.ensures i))))
