use Rattle.std.proofs.Common.{sym}
use Rattle.std.specs.Prelude.{option_copied}
use Rattle.oz_semantics.specs.Configurations.{stack_of}
use Rattle.oz_acts.proofs.PlaceLaws.{place_some}
use Rattle.oz_machine.proofs.TurnLaws.{ok_outcome}
use Rattle.oz_machine.proofs.turn.outcome.Goals as goal

pub returns : goal.returns
returns c =
    let levels = c.args.levels.now in
    let id = c.args.id.now in
    let there = place_some levels id.space c.args.place c.requires.place in
    ok_outcome c.answer_in.result c.args.statements.now levels _ there.0 id.space (stack_of levels id) (option_copied c.top_frame.result)
    (c.answer_in.ensures there.0 there.1.item) there.1.name (sym c.top_frame.ensures) (c.in_ok-states.ensures id.space (stack_of levels id))
