use Rattle.std.proofs.Common.{List, sym, ap, ◌∙◌}
use Rattle.oz_semantics.specs.Answers as answers
use Rattle.oz_semantics.specs.Steps.{after_answer, without_top}
use Rattle.oz_raise.specs.Nodes.{term_of}
use Rattle.oz_raise.specs.declared.node.Node.{Node}
use Rattle.oz_machine.specs.Courses.{stepping}
use Rattle.oz_acts.proofs.PlaceLaws.{place_there}
use Rattle.oz_machine.proofs.PendLaws.{nothing_pends}
use Rattle.oz_machine.proofs.turn.step_outcome.Goals as goal

pub make_term-requires : goal.make_term-requires
make_term-requires c = record { head = c.requires.head; there = place_there c.args.course.now.levels c.args.id.now.space c.args.place c.requires.place }

pub returns-in-Answers-clause-turn : goal.returns-in-Answers-clause-turn
returns-in-Answers-clause-turn c = λ a h. c.step_as.ensures.turn a (rw c.in-Answers.is at h)

pub returns-in_ok-make_term-in-GivesTerm-clause-turn : goal.returns-in_ok-make_term-in-GivesTerm-clause-turn
returns-in_ok-make_term-in-GivesTerm-clause-turn c = λ a h.
    let id = c.args.id.now in
    let now = c.args.course.now in
    let gives = rw c.in-GivesTerm.is at h in
    ap (after_answer c.args.kernel.now id (without_top id now.levels) (stepping now)) gives
    ∙ ap (λ (ns : List Node). after_answer c.args.kernel.now id (without_top id now.levels) (stepping now) (answers.Acts (answers.GivesTerm c.in-GivesTerm.variable (term_of ns)))) (sym c.as_slice.ensures)
    ∙ c.in_ok-make_term-in-GivesTerm.ensures.turn

pub step_as-requires : goal.step_as-requires
step_as-requires c = record {
  within = c.requires.within;
  place = c.requires.place;
  head = c.requires.head;
  kept = c.requires.kept;
  fuel = c.requires.fuel;
  asleep = nothing_pends c.args.kernel.now.statements c.unknown-nobody.result c.args.course.now c.unknown-nobody.ensures.known c.unknown-nobody.ensures.pending;
}
