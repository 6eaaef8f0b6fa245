use Rattle.std.proofs.Common.{◌∙◌, ap, sym}
use Rattle.std.specs.Prelude.{is_some}
use Rattle.oz_semantics.specs.Exceptions.{is_failure}
use Rattle.oz_acts.proofs.PlaceLaws.{place_view, place_none}
use Rattle.oz_machine.proofs.raising.fails.Goals as goal

pub returns-in-None : goal.returns-in-None
returns-in-None c = λ e.
    let none = ap is_some (place_none c.args.levels.now c.args.space.now (sym c.in-None.is ∙ c.place.ensures)) in
    absurd (cc)

pub returns-in-Some : goal.returns-in-Some
returns-in-Some c = λ e.
    let levels = c.args.levels.now in
    let space = c.args.space.now in
    c.is_failure.ensures
    ∙ ap (λ ts. is_failure ts c.args.exception.now) (place_view levels space c.in-Some.place c.store_at.result.now (sym c.in-Some.is ∙ c.place.ensures) c.store_at.ensures)
