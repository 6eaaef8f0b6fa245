use Rattle.std.proofs.Common.{sym, ◌∙◌, arith}
use Rattle.oz_semantics.specs.Spaces.{layer_goes_on}
use Rattle.stability.specs.Known.{known}
use Rattle.stability.proofs.Among.{part_found, part_left, part_end}
use Rattle.stability.proofs.activity.part_goes_on.Goals as goal

pub returns-then-branch : goal.returns-then-branch
returns-then-branch c =
    part_found (layer_goes_on c.args.statements.now c.args.levels.now (known c.args.levels.now c.args.states.now)) c.args.levels.now c.loop-place.place c.args.to _ (omega arith) (omega arith)
    c.loop-place.invariant (λ l e. sym c.if-branch.true ∙ c.in_ok-layer_goes_on.ensures l e)

pub loop-place-preserved : goal.loop-place-preserved
loop-place-preserved c =
    part_left (layer_goes_on c.args.statements.now c.args.levels.now (known c.args.levels.now c.args.states.now)) c.args.levels.now c.loop-place.place c.args.to _ (omega arith) (omega arith)
    c.loop-place.invariant (λ l e. sym c.if-branch.false ∙ c.in_ok-layer_goes_on.ensures l e)

pub returns : goal.returns
returns c =
    part_end (layer_goes_on c.args.statements.now c.args.levels.now (known c.args.levels.now c.args.states.now)) c.args.levels.now c.loop-place.place c.args.to _ (omega arith) c.loop-place.invariant
