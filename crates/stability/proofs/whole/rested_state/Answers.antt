use Rattle.std.proofs.Common.{◌∙◌}
use Rattle.stability.proofs.AlikeLaws.{goes_there, state_now, no_state}
use Rattle.stability.proofs.whole.rested_state.Goals as goal

pub returns-in_default : goal.returns-in_default
returns-in_default c = no_state c.args.statements.now c.args.levels.now c.args.space.now c.args.levels.now c.in_default.ensures.none

pub returns : goal.returns
returns c =
    let l = c.in-Some.ensures.0 in
    let h = c.in-Some.ensures.1 in
    let goes = goes_there c.args.statements.now c.args.levels.now c.args.space.now c.in-Some.place c.next_place.result l c.in_ok-states.states c.is_tree.ensures h c.next_place.ensures c.in_ok-states.ensures in
    state_now c.args.statements.now c.args.levels.now c.args.space.now c.in-Some.place c.next_place.result l c.in_ok-states.states h c.next_place.ensures c.in_ok-states.ensures _
    (c.in_ok-state.ensures l h.item (goes ∙ c.requires))
