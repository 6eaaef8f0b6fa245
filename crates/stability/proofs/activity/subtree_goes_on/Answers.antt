use Rattle.std.proofs.Common.{sym, ap, List}
use Rattle.std.specs.List.{list_any}
use Rattle.oz_semantics.specs.Spaces.{layer_goes_on}
use Rattle.oz_semantics.specs.declared.configuration.Layer.{Layer}
use Rattle.stability.specs.Known.{known}
use Rattle.stability.proofs.ReadyLaws.{same_ok}
use Rattle.stability.proofs.activity.subtree_goes_on.Goals as goal

pub returns : goal.returns
returns c =
    λ l e. same_ok c.part_goes_on.result
    (ap (λ (ls : List Layer). list_any (layer_goes_on c.args.statements.now c.args.levels.now (known c.args.levels.now c.args.states.now)) ls) (sym (c.end_of-end.ensures.all l e)))
    c.part_goes_on.ensures
