use Rattle.std.proofs.Common.{◌∙◌, sym}
use Rattle.settle_laws.proofs.SettleLaws.{nothing_fails}
use Rattle.oz_machine.specs.Courses.{stepping}
use Rattle.oz_acts.proofs.PlaceLaws.{place_none, place_within}
use Rattle.oz_machine.proofs.DoingLaws.{nowhere_rests}
use Rattle.oz_machine.proofs.PendLaws.{pending_sleeps}
use Rattle.oz_machine.proofs.turn.step_unknown.Goals as goal

pub returns-in_default-clause-turn : goal.returns-in_default-clause-turn
returns-in_default-clause-turn c =
    let k = c.args.kernel.now in
    let id = c.args.id.now in
    let now = c.args.course.now in
    nowhere_rests k id (stepping now) (place_none now.levels id.space c.in_default.ensures)
    ∙ c.follow.ensures.turn k.statements id now.levels c.requires.head (nothing_fails id.space now.levels c.consistent.ensures)

pub step_anew-requires : goal.step_anew-requires
step_anew-requires c = record {
  within = place_within c.args.course.now.levels c.args.id.now.space c.in-Some.place (sym c.in-Some.is ∙ c.place.ensures);
  place = sym c.in-Some.is ∙ c.place.ensures;
  head = c.requires.head;
  kept = c.requires.kept;
  fuel = c.requires.fuel;
  asleep = c.requires.asleep;
}

pub returns-in_default-clause-asleep : goal.returns-in_default-clause-asleep
returns-in_default-clause-asleep c = pending_sleeps c.args.kernel.now.statements c.args.sleeping.now c.args.course.now c.follow.new.course c.requires.asleep
