use Rattle.std.proofs.Common.{sym, ◌∙◌, arith}
use Rattle.oz_semantics.specs.Configurations.{view, ancestor_variables}
use Rattle.oz_semantics.specs.Spaces.{is_held}
use Rattle.stability.proofs.Among.{read_found, read_left, any_end}
use Rattle.stability.proofs.waits.any_held.Goals as goal

pub returns-then-is_held : goal.returns-then-is_held
returns-then-is_held c =
    λ l e. read_found (is_held (view c.args.levels.now l.space) (ancestor_variables c.args.levels.now c.args.space.now)) c.args.waits.now c.loop-variable.variable-index c.variable-item.result _
    (omega arith) c.variable-item.is (c.loop-variable.invariant l e) (sym c.if-is_held.true ∙ c.is_held.ensures l e)

pub loop-variable-preserved : goal.loop-variable-preserved
loop-variable-preserved c =
    λ l e. read_left (is_held (view c.args.levels.now l.space) (ancestor_variables c.args.levels.now c.args.space.now)) c.args.waits.now c.loop-variable.variable-index c.variable-item.result _
    (omega arith) c.variable-item.is (c.loop-variable.invariant l e) (sym c.if-is_held.false ∙ c.is_held.ensures l e)

pub returns : goal.returns
returns c =
    λ l e. any_end (is_held (view c.args.levels.now l.space) (ancestor_variables c.args.levels.now c.args.space.now)) c.args.waits.now c.loop-variable.variable-index _ (omega arith)
    (c.loop-variable.invariant l e)
