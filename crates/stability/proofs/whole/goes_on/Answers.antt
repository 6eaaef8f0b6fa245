use Rattle.std.proofs.Common.{sym, ap, List}
use Rattle.std.specs.List.{list_any}
use Rattle.oz_semantics.specs.Spaces.{layer_goes_on, states_of}
use Rattle.oz_semantics.specs.declared.configuration.Layer.{Layer}
use Rattle.stability.proofs.ReadyLaws.{same_ok}
use Rattle.stability.proofs.PartLaws.{nothing_below}
use Rattle.stability.proofs.AlikeLaws.{goes_there}
use Rattle.stability.proofs.whole.goes_on.Goals as goal

pub returns-in_default : goal.returns-in_default
returns-in_default c =
    ap (λ (ls : List Layer). list_any (layer_goes_on c.args.statements.now c.args.levels.now (states_of c.args.statements.now c.args.levels.now)) ls)
    (sym (nothing_below c.args.space.now c.args.levels.now c.is_tree.ensures c.in_default.ensures.none))

pub returns : goal.returns
returns c =
    let l = c.in-Some.ensures.0 in
    let h = c.in-Some.ensures.1 in
    same_ok c.subtree_goes_on.result
    (goes_there c.args.statements.now c.args.levels.now c.args.space.now c.in-Some.place c.next_place.result l c.in_ok-states.states c.is_tree.ensures h c.next_place.ensures c.in_ok-states.ensures)
    (c.subtree_goes_on.ensures l h.item)
