use Rattle.std.proofs.Common.{◌≡◌, ◌∙◌, ◌-◌, List, true, false, sym, ap, subst, arith}
use Rattle.oz_language.specs.declared.kernel.Statement.{Statement}
use Rattle.oz_semantics.specs.Spaces.{goes_on}
use Rattle.oz_semantics.specs.Schedule.{turn}
use Rattle.oz_semantics.specs.Runs.{Ended, TopRaised, run}
use Rattle.oz_semantics.specs.declared.configuration.Configuration.{Configuration}
use Rattle.turn_laws.specs.Kept.{IsKept}
use Rattle.oz_machine.specs.Courses.{config_of, Keeps}
use Rattle.oz_machine.specs.Asleep.{Sleeps}
use Rattle.oz_machine.specs.Quiet.{IsHeadAnswer}
use Rattle.oz_machine.proofs.RunLaws.{was_made, not_made, made_within, moved_within, ended_within, ok_run, run_still, run_out, run_quiet, run_stopped, run_went, same_quiet, none_after, same_after, turn_after, left_off, on_err}
use Rattle.oz_machine.proofs.runs.run_turns.Goals as goal

pub turns-init : goal.turns-init
turns-init c =
    let k = c.args.kernel.now in
    let here = config_of k.statements c.settle.new.course in
    let there = config_of k.statements c.args.course.now in
    let same : here ≡ there = ap (λ (st : List Statement). config_of st c.settle.new.course) (sym c.as_slice-statements.ensures) ∙ c.settle.ensures.same ∙ ap (λ (st : List Statement). config_of st c.args.course.now) c.as_slice-statements.ensures in
    record {
      within = omega arith;
      same = ap (λ (b : Configuration). run k c.args.space.now b c.args.fuel) same;
      kept = λ known. subst (IsKept k.statements) (sym same) (c.requires.kept known);
      after = none_after k there here same;
      asleep = subst (λ (st : List Statement). Sleeps st c.settle.new.sleeping c.settle.new.course) c.as_slice-statements.ensures c.settle.ensures.asleep;
      due = c.in_ok-settle.ensures.due;
      answered = subst (λ (st : List Statement). IsHeadAnswer st c.settle.new.course.levels c.settle.new.course.queue c.settle.new.answered) c.as_slice-statements.ensures c.in_ok-settle.ensures.answer;
    }

pub returns-in_default-clause-run : goal.returns-in_default-clause-run
returns-in_default-clause-run c =
    let k = c.args.kernel.now in
    let here = config_of k.statements c.turns.course in
    let there = config_of k.statements c.turn.new.course in
    let goes : goes_on k.statements here.layers c.args.space.now ≡ true
    = ap (λ (st : List Statement). goes_on st (config_of st c.turns.course).layers c.args.space.now) (sym c.as_slice-statements.ensures) ∙ sym (c.in_ok-goes_on.ensures c.turns.invariant.due (subst (λ st. Keeps st c.turns.kept c.turns.course) (sym c.as_slice-statements.ensures) c.turns.invariant.kept)) ∙ c.if-branch.true in
    let over = not_made (turn k here) c.turns.left here there c.in_ok-stepped.field-0 c.in_ok-stepped.ensures.turn c.in_default.not-Some in
    sym c.turns.invariant.same ∙ run_out k c.args.space.now c.turns.left here there goes over.0 over.1

pub turns-smaller : goal.turns-smaller
turns-smaller c =
    let made = made_within c.turns.left c.in_ok-stepped.field-0 c.in-Some.stepped c.in_ok-stepped.ensures.cost c.in-Some.is in
    let cost = moved_within c.turns.left c.in-Moved.cost c.in-Some.stepped made c.in-Moved.is in
    omega (arith, cost.0, cost.1)

pub turns-preserved : goal.turns-preserved
turns-preserved c =
    let k = c.args.kernel.now in
    let here = config_of k.statements c.turns.course in
    let there = config_of k.statements c.turn.new.course in
    let next = c.settle-in-Moved.new.course in
    let goes : goes_on k.statements here.layers c.args.space.now ≡ true
    = ap (λ (st : List Statement). goes_on st (config_of st c.turns.course).layers c.args.space.now) (sym c.as_slice-statements.ensures) ∙ sym (c.in_ok-goes_on.ensures c.turns.invariant.due (subst (λ st. Keeps st c.turns.kept c.turns.course) (sym c.as_slice-statements.ensures) c.turns.invariant.kept)) ∙ c.if-branch.true in
    let turned = was_made (turn k here) c.turns.left here there c.in_ok-stepped.field-0 c.in-Some.stepped c.in_ok-stepped.ensures.turn c.in-Some.is in
    let made = made_within c.turns.left c.in_ok-stepped.field-0 c.in-Some.stepped c.in_ok-stepped.ensures.cost c.in-Some.is in
    let cost = moved_within c.turns.left c.in-Moved.cost c.in-Some.stepped made c.in-Moved.is in
    let held = c.turns.invariant.within in
    let same : config_of k.statements next ≡ there =
    subst (λ (st : List Statement). config_of st next ≡ config_of st c.turn.new.course) c.as_slice-statements.ensures c.settle-in-Moved.ensures.same in
    record {
      within = omega (arith, held);
      kept = λ known. subst (IsKept k.statements) (sym same) (c.in_ok-stepped.ensures.kept known);
      same =
          ap (λ (b : Configuration). run k c.args.space.now b (c.turns.left - c.in-Moved.cost)) same
          ∙ run_went k c.args.space.now c.turns.left here there c.in-Moved.cost goes (turned ∙ ap (λ s. (s, there)) c.in-Moved.is) cost.0 cost.1 ∙ c.turns.invariant.same;
      after = same_after k (config_of k.statements c.args.course.now) there (config_of k.statements next) same (turn_after k (config_of k.statements c.args.course.now) here there c.in-Some.stepped turned c.turns.invariant.after);
      asleep = subst (λ (st : List Statement). Sleeps st c.settle-in-Moved.new.sleeping next) c.as_slice-statements.ensures c.settle-in-Moved.ensures.asleep;
      due = c.in_ok-settle-in-Moved.ensures.due;
      answered = subst (λ (st : List Statement). IsHeadAnswer st next.levels next.queue c.settle-in-Moved.new.answered) c.as_slice-statements.ensures c.in_ok-settle-in-Moved.ensures.answer;
    }

pub returns-in_err-settle-clause-err : goal.returns-in_err-settle-clause-err
returns-in_err-settle-clause-err c =
    let k = c.args.kernel.now in
    let first = config_of k.statements c.args.course.now in
    let here = config_of k.statements c.settle.new.course in
    let same = subst (λ (st : List Statement). config_of st c.settle.new.course ≡ config_of st c.args.course.now) c.as_slice-statements.ensures c.settle.ensures.same in
    on_err c.from_residual.result
    (left_off k c.args.space.now c.args.fuel c.args.fuel first here (none_after k first here same) (omega arith) (ap (λ (b : Configuration). run k c.args.space.now b c.args.fuel) same))

pub returns-in_err-settle-in-Moved-clause-err : goal.returns-in_err-settle-in-Moved-clause-err
returns-in_err-settle-in-Moved-clause-err c =
    let k = c.args.kernel.now in
    let first = config_of k.statements c.args.course.now in
    let here = config_of k.statements c.turns.course in
    let there = config_of k.statements c.turn.new.course in
    let next = c.settle-in-Moved.new.course in
    let goes : goes_on k.statements here.layers c.args.space.now ≡ true
    = ap (λ (st : List Statement). goes_on st (config_of st c.turns.course).layers c.args.space.now) (sym c.as_slice-statements.ensures) ∙ sym (c.in_ok-goes_on.ensures c.turns.invariant.due (subst (λ st. Keeps st c.turns.kept c.turns.course) (sym c.as_slice-statements.ensures) c.turns.invariant.kept)) ∙ c.if-branch.true in
    let turned = was_made (turn k here) c.turns.left here there c.in_ok-stepped.field-0 c.in-Some.stepped c.in_ok-stepped.ensures.turn c.in-Some.is in
    let made = made_within c.turns.left c.in_ok-stepped.field-0 c.in-Some.stepped c.in_ok-stepped.ensures.cost c.in-Some.is in
    let cost = moved_within c.turns.left c.in-Moved.cost c.in-Some.stepped made c.in-Moved.is in
    let held = c.turns.invariant.within in
    let same : config_of k.statements next ≡ there =
    subst (λ (st : List Statement). config_of st next ≡ config_of st c.turn.new.course) c.as_slice-statements.ensures c.settle-in-Moved.ensures.same in
    on_err c.from_residual-in_err-settle-in-Moved.result
    (
    left_off k c.args.space.now c.args.fuel (c.turns.left - c.in-Moved.cost) first (config_of k.statements next)
    (same_after k first there (config_of k.statements next) same (turn_after k first here there c.in-Some.stepped turned c.turns.invariant.after))
    (omega (arith, held))
    (
    ap (λ (b : Configuration). run k c.args.space.now b (c.turns.left - c.in-Moved.cost)) same
    ∙ run_went k c.args.space.now c.turns.left here there c.in-Moved.cost goes (turned ∙ ap (λ s. (s, there)) c.in-Moved.is) cost.0 cost.1 ∙ c.turns.invariant.same
    )
    )

pub returns-in_err-settle-in-Quiescent-clause-err : goal.returns-in_err-settle-in-Quiescent-clause-err
returns-in_err-settle-in-Quiescent-clause-err c =
    let k = c.args.kernel.now in
    let first = config_of k.statements c.args.course.now in
    let here = config_of k.statements c.turns.course in
    let there = config_of k.statements c.turn.new.course in
    let next = config_of k.statements c.settle-in-Quiescent.new.course in
    let turned = was_made (turn k here) c.turns.left here there c.in_ok-stepped.field-0 c.in-Some.stepped c.in_ok-stepped.ensures.turn c.in-Some.is in
    let quiet : here ≡ there = same_quiet k here there (turned ∙ ap (λ s. (s, there)) c.in-Quiescent.is) in
    let settled : next ≡ there =
    subst (λ (st : List Statement). config_of st c.settle-in-Quiescent.new.course ≡ config_of st c.turn.new.course) c.as_slice-statements.ensures c.settle-in-Quiescent.ensures.same in
    let same : next ≡ here = settled ∙ sym quiet in
    on_err c.from_residual-in_err-settle-in-Quiescent.result
    (left_off k c.args.space.now c.args.fuel c.turns.left first next (same_after k first here next same c.turns.invariant.after) c.turns.invariant.within
    (ap (λ (b : Configuration). run k c.args.space.now b c.turns.left) same ∙ c.turns.invariant.same))

pub returns-in-Quiescent-clause-err : goal.returns-in-Quiescent-clause-err
returns-in-Quiescent-clause-err c =
    let k = c.args.kernel.now in
    let first = config_of k.statements c.args.course.now in
    let here = config_of k.statements c.turns.course in
    let there = config_of k.statements c.turn.new.course in
    let next = config_of k.statements c.settle-in-Quiescent.new.course in
    let turned = was_made (turn k here) c.turns.left here there c.in_ok-stepped.field-0 c.in-Some.stepped c.in_ok-stepped.ensures.turn c.in-Some.is in
    let quiet : here ≡ there = same_quiet k here there (turned ∙ ap (λ s. (s, there)) c.in-Quiescent.is) in
    let settled : next ≡ there =
    subst (λ (st : List Statement). config_of st c.settle-in-Quiescent.new.course ≡ config_of st c.turn.new.course) c.as_slice-statements.ensures c.settle-in-Quiescent.ensures.same in
    let same : next ≡ here = settled ∙ sym quiet in
    on_err c.ended.result
    (left_off k c.args.space.now c.args.fuel c.turns.left first next (same_after k first here next same c.turns.invariant.after) c.turns.invariant.within
    (ap (λ (b : Configuration). run k c.args.space.now b c.turns.left) same ∙ c.turns.invariant.same))

pub ended-requires : goal.ended-requires
ended-requires c = record { within = c.turns.invariant.within; due = c.in_ok-settle-in-Quiescent.ensures.due }

pub returns-in-Quiescent-clause-run : goal.returns-in-Quiescent-clause-run
returns-in-Quiescent-clause-run c =
    let k = c.args.kernel.now in
    let here = config_of k.statements c.turns.course in
    let there = config_of k.statements c.turn.new.course in
    let next = config_of k.statements c.settle-in-Quiescent.new.course in
    let goes : goes_on k.statements here.layers c.args.space.now ≡ true
    = ap (λ (st : List Statement). goes_on st (config_of st c.turns.course).layers c.args.space.now) (sym c.as_slice-statements.ensures) ∙ sym (c.in_ok-goes_on.ensures c.turns.invariant.due (subst (λ st. Keeps st c.turns.kept c.turns.course) (sym c.as_slice-statements.ensures) c.turns.invariant.kept)) ∙ c.if-branch.true in
    let turned = was_made (turn k here) c.turns.left here there c.in_ok-stepped.field-0 c.in-Some.stepped c.in_ok-stepped.ensures.turn c.in-Some.is in
    let quiet = run_quiet k c.args.space.now c.turns.left here there goes (turned ∙ ap (λ s. (s, there)) c.in-Quiescent.is) in
    let settled : next ≡ there =
    subst (λ (st : List Statement). config_of st c.settle-in-Quiescent.new.course ≡ config_of st c.turn.new.course) c.as_slice-statements.ensures c.settle-in-Quiescent.ensures.same in
    ok_run c.ended.result k next c.args.space.now c.args.fuel _ _ (sym c.turns.invariant.same ∙ quiet ∙ ap (λ (d : Configuration). Ended d c.turns.left) (sym settled)) c.ended.ensures

pub overflow_sub-steps-in-TopEnded : goal.overflow_sub-steps-in-TopEnded
overflow_sub-steps-in-TopEnded c = let held = c.turns.invariant.within in omega (arith, held)

pub returns-in-TopEnded-clause-run : goal.returns-in-TopEnded-clause-run
returns-in-TopEnded-clause-run c =
    let k = c.args.kernel.now in
    let here = config_of k.statements c.turns.course in
    let there = config_of k.statements c.turn.new.course in
    let goes : goes_on k.statements here.layers c.args.space.now ≡ true
    = ap (λ (st : List Statement). goes_on st (config_of st c.turns.course).layers c.args.space.now) (sym c.as_slice-statements.ensures) ∙ sym (c.in_ok-goes_on.ensures c.turns.invariant.due (subst (λ st. Keeps st c.turns.kept c.turns.course) (sym c.as_slice-statements.ensures) c.turns.invariant.kept)) ∙ c.if-branch.true in
    let turned = was_made (turn k here) c.turns.left here there c.in_ok-stepped.field-0 c.in-Some.stepped c.in_ok-stepped.ensures.turn c.in-Some.is in
    let made = made_within c.turns.left c.in_ok-stepped.field-0 c.in-Some.stepped c.in_ok-stepped.ensures.cost c.in-Some.is in
    let cost = ended_within c.turns.left c.in-TopEnded.cost c.in-TopEnded.exception c.in-Some.stepped made c.in-TopEnded.is in
    let held = c.turns.invariant.within in
    let rest : c.turns.left - c.in-TopEnded.cost ≡ c.args.fuel - (c.args.fuel - (c.turns.left - c.in-TopEnded.cost)) = omega (arith, held) in (
      omega arith,
      sym c.turns.invariant.same
          ∙ run_stopped k c.args.space.now c.turns.left here there c.in-TopEnded.exception c.in-TopEnded.cost goes (turned ∙ ap (λ s. (s, there)) c.in-TopEnded.is) cost.1
          ∙ ap (λ n. TopRaised there n c.in-TopEnded.exception) rest,
    )

pub ended-requires-2 : goal.ended-requires-2
ended-requires-2 c = record { within = c.turns.invariant.within; due = c.turns.invariant.due }

pub returns-clause-run : goal.returns-clause-run
returns-clause-run c =
    let k = c.args.kernel.now in
    let here = config_of k.statements c.turns.course in
    let still : goes_on k.statements here.layers c.args.space.now ≡ false
    = ap (λ (st : List Statement). goes_on st (config_of st c.turns.course).layers c.args.space.now) (sym c.as_slice-statements.ensures) ∙ sym (c.in_ok-goes_on.ensures c.turns.invariant.due (subst (λ st. Keeps st c.turns.kept c.turns.course) (sym c.as_slice-statements.ensures) c.turns.invariant.kept)) ∙ c.if-branch.false in
    ok_run c.ended-2.result k here c.args.space.now c.args.fuel _ _ (sym c.turns.invariant.same ∙ run_still k c.args.space.now c.turns.left here still) c.ended-2.ensures

pub settle-requires : goal.settle-requires
settle-requires c = record { asleep = subst (λ (st : List Statement). Sleeps st c.args.sleeping.now c.args.course.now) (sym c.as_slice-statements.ensures) c.requires.asleep }

pub turn-requires : goal.turn-requires
turn-requires c = record { due = c.turns.invariant.due; answered = c.turns.invariant.answered; kept = c.turns.invariant.kept; asleep = c.turns.invariant.asleep }

pub settle-requires-in-Moved : goal.settle-requires-in-Moved
settle-requires-in-Moved c = record { asleep = subst (λ (st : List Statement). Sleeps st c.turn.new.sleeping c.turn.new.course) (sym c.as_slice-statements.ensures) c.turn.ensures.asleep }

pub settle-requires-in-Quiescent : goal.settle-requires-in-Quiescent
settle-requires-in-Quiescent c = record { asleep = subst (λ (st : List Statement). Sleeps st c.turn.new.sleeping c.turn.new.course) (sym c.as_slice-statements.ensures) c.turn.ensures.asleep }

pub returns-in_err-settle-clause-asleep : goal.returns-in_err-settle-clause-asleep
returns-in_err-settle-clause-asleep c = subst (λ (st : List Statement). Sleeps st c.settle.new.sleeping c.settle.new.course) c.as_slice-statements.ensures c.settle.ensures.asleep

pub returns-in_err-settle-in-Moved-clause-asleep : goal.returns-in_err-settle-in-Moved-clause-asleep
returns-in_err-settle-in-Moved-clause-asleep c = subst (λ (st : List Statement). Sleeps st c.settle-in-Moved.new.sleeping c.settle-in-Moved.new.course) c.as_slice-statements.ensures c.settle-in-Moved.ensures.asleep

pub returns-in_err-settle-in-Quiescent-clause-asleep : goal.returns-in_err-settle-in-Quiescent-clause-asleep
returns-in_err-settle-in-Quiescent-clause-asleep c =
    subst (λ (st : List Statement). Sleeps st c.settle-in-Quiescent.new.sleeping c.settle-in-Quiescent.new.course) c.as_slice-statements.ensures c.settle-in-Quiescent.ensures.asleep

pub returns-in-Quiescent-clause-asleep : goal.returns-in-Quiescent-clause-asleep
returns-in-Quiescent-clause-asleep c =
    subst (λ (st : List Statement). Sleeps st c.settle-in-Quiescent.new.sleeping c.settle-in-Quiescent.new.course) c.as_slice-statements.ensures c.settle-in-Quiescent.ensures.asleep
