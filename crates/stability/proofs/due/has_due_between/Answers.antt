use Rattle.std.proofs.Common.{sym, ◌∙◌, arith}
use Rattle.oz_semantics.specs.Configurations.{view}
use Rattle.oz_semantics.specs.Spaces.{has_due}
use Rattle.oz_semantics.specs.declared.configuration.Layer.{Layer}
use Rattle.stability.proofs.Among.{part_found, part_left, part_end}
use Rattle.stability.proofs.due.has_due_between.Goals as goal

pub returns-then-has_due_at : goal.returns-then-has_due_at
returns-then-has_due_at c =
    part_found (λ (m : Layer). has_due (view c.args.levels.now m.space) m) c.args.levels.now c.loop-place.place c.args.to _ (omega arith) (omega arith) c.loop-place.invariant
    (λ l e. sym c.if-has_due_at.true ∙ c.has_due_at.ensures l e)

pub loop-place-preserved : goal.loop-place-preserved
loop-place-preserved c =
    part_left (λ (m : Layer). has_due (view c.args.levels.now m.space) m) c.args.levels.now c.loop-place.place c.args.to _ (omega arith) (omega arith) c.loop-place.invariant
    (λ l e. sym c.if-has_due_at.false ∙ c.has_due_at.ensures l e)

pub returns : goal.returns
returns c = part_end (λ (m : Layer). has_due (view c.args.levels.now m.space) m) c.args.levels.now c.loop-place.place c.args.to _ (omega arith) c.loop-place.invariant
