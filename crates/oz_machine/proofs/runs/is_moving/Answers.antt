use Rattle.std.proofs.Common.{◌||◌, ◌∙◌, Bool, sym, ap}
use Rattle.view_laws.specs.Queues.{is_due_below}
use Rattle.oz_machine.proofs.runs.is_moving.Goals as goal

pub returns-then-is_queued_below : goal.returns-then-is_queued_below
returns-then-is_queued_below c = ap (λ (b : Bool). b || is_due_below c.args.course.now.levels c.args.space.now) (sym c.if-is_queued_below.true ∙ c.is_queued_below.ensures)

pub returns : goal.returns
returns c = c.is_due_below.ensures ∙ ap (λ (b : Bool). b || is_due_below c.args.course.now.levels c.args.space.now) (sym c.if-is_queued_below.false ∙ c.is_queued_below.ensures)
