use Rattle.std.proofs.Common.{◌≡◌, ◌∙◌, Some, None, sym}
use Rattle.oz_acts.proofs.PlaceLaws.{place_none, place_some}
use Rattle.oz_machine.proofs.PropagatingLaws.{placed_noted}
use Rattle.oz_machine.proofs.propagating.note.Goals as goal

pub returns-in-None : goal.returns-in-None
returns-in-None c = λ view l there first. absurd (apart (sym (place_none c.args.levels.now c.args.space.now (sym c.in-None.is ∙ c.place.ensures)) ∙ there))
  where
    apart : {A : Type 0} {x : A} → None ≡ Some x → ⊥
    apart e = cc

pub note_run-requires : goal.note_run-requires
note_run-requires c = (place_some c.args.levels.now c.args.space.now c.in-Some.place (sym c.in-Some.is ∙ c.place.ensures)).1.within

pub returns-in-Some : goal.returns-in-Some
returns-in-Some c =
    placed_noted c.args.levels.now c.note_run.new.self c.args.space.now c.in-Some.place c.args.index c.args.seen (sym c.in-Some.is ∙ c.place.ensures) c.note_run.ensures.first
