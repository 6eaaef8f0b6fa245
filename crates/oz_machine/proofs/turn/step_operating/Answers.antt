use Rattle.std.proofs.Common.{subst}
use Rattle.oz_semantics.specs.Configurations.{stack_of}
use Rattle.oz_semantics.specs.Spaces.{states_of, answer_in}
use Rattle.operations.specs.Outcomes.{IsOutcome}
use Rattle.oz_machine.proofs.turn.step_operating.Goals as goal

pub returns-clause-turn : goal.returns-clause-turn
returns-clause-turn c =
    let k = c.args.kernel.now in
    let id = c.args.id.now in
    let layers = c.args.course.now.levels in
    c.step_outcome.ensures.turn (answer_in k.statements layers (states_of k.statements layers) id.space (stack_of layers id))
    (subst (λ st. IsOutcome (answer_in st layers (states_of st layers) id.space (stack_of layers id)) c.in_ok-outcome.outcome) c.as_slice-statements.ensures c.in_ok-outcome.ensures)
