use Rattle.std.proofs.Common.{◌≡◌, ◌∙◌, Some, refl, subst, sym, ap, arith}
use Rattle.oz_base.specs.Lists.{first}
use Rattle.oz_base.specs.declared.names.Ident.{Ident}
use Rattle.oz_semantics.specs.Schedule.{turn}
use Rattle.oz_semantics.specs.Steps.{stepped}
use Rattle.turn_laws.specs.Kept.{IsKept}
use Rattle.oz_machine.specs.Courses.{config_of, stepping}
use Rattle.oz_machine.proofs.TurnLaws.{head_is, turn_is, turn_none, dear_turn, ok_turned}
use Rattle.oz_machine.proofs.PendLaws.{pending_sleeps}
use Rattle.oz_machine.proofs.turn.take_step.Goals as goal

pub returns-in_default-clause-turn : goal.returns-in_default-clause-turn
returns-in_default-clause-turn c = turn_none c.args.kernel.now c.args.course.now c.requires.due c.requires.least (sym c.in_default.ensures)

pub returns-then-fuel-eq0-clause-turn : goal.returns-then-fuel-eq0-clause-turn
returns-then-fuel-eq0-clause-turn c =
    (dear_turn c.args.kernel.now c.args.course.now c.in-Some.id.now c.args.fuel c.requires.due c.requires.least (sym c.in-Some.ensures) c.if-fuel-eq0.true, refl)

pub step_of-requires : goal.step_of-requires
step_of-requires c =
    let k = c.args.kernel.now in
    let now = c.args.course.now in
    let id = c.in_ok-id.id in
    let head : first now.queue ≡ Some id = sym c.in-Some.ensures ∙ ap (λ (i : Ident). Some i) (sym c.in_ok-id.ensures) in
    record {
      head = head;
      answered = c.requires.answered;
      kept = λ known. subst (IsKept k.statements) (head_is k.statements now id c.requires.due head) (c.requires.kept known);
      fuel = omega arith;
      asleep = c.requires.asleep;
    }

pub returns-clause-turn : goal.returns-clause-turn
returns-clause-turn c =
    let k = c.args.kernel.now in
    let now = c.args.course.now in
    let id = c.in_ok-id.id in
    let head : first now.queue ≡ Some id = sym c.in-Some.ensures ∙ ap (λ (i : Ident). Some i) (sym c.in_ok-id.ensures) in
    ok_turned c.step_of.result (turn k (config_of k.statements now)) (stepped k id (stepping now)) c.args.fuel (config_of k.statements now) (config_of k.statements c.step_of.new.course)
    (turn_is k now id c.requires.due c.requires.least head) c.step_of.ensures.turn

pub returns-in_default-clause-asleep : goal.returns-in_default-clause-asleep
returns-in_default-clause-asleep c = pending_sleeps c.args.kernel.now.statements c.args.sleeping.now c.args.course.now c.args.course.now c.requires.asleep

pub returns-then-fuel-eq0-clause-asleep : goal.returns-then-fuel-eq0-clause-asleep
returns-then-fuel-eq0-clause-asleep c = pending_sleeps c.args.kernel.now.statements c.args.sleeping.now c.args.course.now c.args.course.now c.requires.asleep

pub returns-in_err-id-clause-asleep : goal.returns-in_err-id-clause-asleep
returns-in_err-id-clause-asleep c = pending_sleeps c.args.kernel.now.statements c.args.sleeping.now c.args.course.now c.args.course.now c.requires.asleep

pub returns-clause-asleep : goal.returns-clause-asleep
returns-clause-asleep c = c.step_of.ensures.asleep
