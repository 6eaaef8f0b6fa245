use Rattle.kernel_writer.specs.Tasks.{state_of, scope_begun, ending, written}
use Rattle.oz_language.specs.Kernels.{just}
use Rattle.oz_language.specs.Translation.{made, fresh_among, cell_bound}
use Rattle.std.proofs.Common.{ap, ◌∙◌, ◌∷◌, []}
use Rattle.kernel_writer.proofs.Outcomes.{wrote}
use Rattle.kernel_writer.proofs.Laws.{scope_next}
use Rattle.kernel_values.proofs.expressions.begin_cell.Goals as goal

pub returns-clause-tasks : goal.returns-clause-tasks
returns-clause-tasks c = c.in_ok-begin_names.ensures.tasks ∙ ap (λ q. ending (fresh_among q) c.args.writer.now.tasks) (c.as_slice.ensures ∙ c.in_ok-names.ensures)

pub returns-clause-state : goal.returns-clause-state
returns-clause-state c =
    let w = c.args.writer.now in
    let xs = c.args.head ∷ c.args.tail ∷ [] in
    let cell = just (cell_bound c.args.name c.args.head c.args.tail) in
    wrote (state_of c.begin_names.new.self) cell c.in_ok-bind_cell.ensures
    ∙ ap (λ q. written q (made cell q.next)) (c.in_ok-begin_names.ensures.state ∙ ap (λ q. scope_begun (fresh_among q) (state_of w)) (c.as_slice.ensures ∙ c.in_ok-names.ensures))
    ∙ ap (λ n. written (scope_begun (fresh_among xs) (state_of w)) (made cell n)) (scope_next (fresh_among xs) (state_of w) 0)
