use Rattle.std.proofs.Common.{ap, ◌∙◌, List}
use Rattle.std.specs.List.{list_any}
use Rattle.oz_base.specs.declared.names.Ident.{Ident}
use Rattle.oz_semantics.specs.Configurations.{view, ancestor_variables}
use Rattle.oz_semantics.specs.Spaces.{is_held}
use Rattle.stability.proofs.ReadyLaws.{waits_answered, offers_answered}
use Rattle.stability.proofs.waits.waits_held.Goals as goal

pub returns-in-Waits : goal.returns-in-Waits
returns-in-Waits c =
    λ l e defined h. c.any_held.ensures l e
    ∙ ap (λ (xs : List Ident). list_any (is_held (view c.args.levels.now l.space) (ancestor_variables c.args.levels.now c.args.space.now)) xs) c.as_slice.ensures
    ∙ waits_answered (view c.args.levels.now l.space) (ancestor_variables c.args.levels.now c.args.space.now) _ defined (rw c.in-Waits.is at h)

pub returns-in-Offers : goal.returns-in-Offers
returns-in-Offers c =
    λ l e defined h. c.any_held-in-Offers.ensures l e
    ∙ ap (λ (xs : List Ident). list_any (is_held (view c.args.levels.now l.space) (ancestor_variables c.args.levels.now c.args.space.now)) xs) c.as_slice-in-Offers.ensures
    ∙ offers_answered (view c.args.levels.now l.space) (ancestor_variables c.args.levels.now c.args.space.now) _ _ defined (rw c.in-Offers.is at h)
