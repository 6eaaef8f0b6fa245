use Rattle.std.proofs.Common.{◌∙◌, ap, map, List}
use Rattle.oz_base.specs.declared.names.Ident.{Ident}
use Rattle.oz_semantics.specs.Store.{View}
use Rattle.oz_semantics.specs.Configurations.{view}
use Rattle.oz_semantics.specs.Triggers.{is_needed}
use Rattle.by_need.proofs.WaitLaws.{needed_same, same_marks}
use Rattle.by_need.proofs.triggers.needed_for.Goals as goal

pub returns : goal.returns
returns c =
    λ l e. same_marks c.needed.result
    (ap (λ (v : View). map (is_needed v c.as_slice.result.now) c.args.triggers.now) (c.store_at.ensures l e)
    ∙ ap (λ (xs : List Ident). map (is_needed (view c.args.levels.now l.space) xs) c.args.triggers.now) c.as_slice.ensures
    ∙ needed_same (view c.args.levels.now l.space) _ _ c.args.triggers.now (c.in_ok-waited.ensures l e))
    c.needed.ensures
