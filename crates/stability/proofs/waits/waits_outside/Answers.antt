use Rattle.std.proofs.Common.{sym, ap, ◌∙◌, List, ℕ}
use Rattle.std.specs.List.{list_any}
use Rattle.oz_semantics.specs.Configurations.{ancestor_variables}
use Rattle.oz_semantics.specs.Spaces.{layers_below, layer_waits}
use Rattle.oz_semantics.specs.declared.configuration.Layer.{Layer}
use Rattle.stability.specs.Known.{known}
use Rattle.stability.proofs.ReadyLaws.{same_ok}
use Rattle.stability.proofs.waits.waits_outside.Goals as goal

pub returns : goal.returns
returns c =
    λ l e.
    let layers = c.args.levels.now in
    let states = known layers c.args.states.now in
    same_ok c.part_waits.result
    (ap (λ (ls : List Layer). list_any (layer_waits c.args.statements.now layers states (ancestor_variables layers c.space_at.result.now)) ls) (sym (c.end_of-end.ensures.all l e))
    ∙ ap (λ (s : List ℕ). list_any (layer_waits c.args.statements.now layers states (ancestor_variables layers s)) (layers_below layers l.space)) (c.space_at.ensures l e))
    c.part_waits.ensures
