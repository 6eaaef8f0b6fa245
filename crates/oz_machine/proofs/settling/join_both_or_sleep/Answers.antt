use Rattle.std.proofs.Common.{arith, List, subst}
use Rattle.std.proofs.lemmas.Bool.Decides.{nat_tests}
use Rattle.oz_base.specs.declared.names.Ident.{Ident}
use Rattle.oz_sleep.specs.Laid.{Lays}
use Rattle.oz_machine.specs.Quiet.{able_in, top_steps}
use Rattle.oz_machine.proofs.AskingLaws.{both_joined, both_slept, no_fewer}
use Rattle.oz_machine.proofs.settling.join_both_or_sleep.Goals as goal

pub overflow_sub-joined : goal.overflow_sub-joined
overflow_sub-joined c =
    let statements = c.args.statements.now in
    let levels = c.args.levels.now in
    let fewer = no_fewer c.args.queue.now (able_in statements levels c.args.id.now) (able_in statements levels c.args.other.now) c.join_both.new.queue c.in_ok-join_both.ensures.ok in
    let after = c.len.ensures in
    let before = c.len-before.ensures in
    omega (arith, fewer, after, before)

pub returns-then-joined-eq2-clause-asleep : goal.returns-then-joined-eq2-clause-asleep
returns-then-joined-eq2-clause-asleep c =
    let statements = c.args.statements.now in
    let levels = c.args.levels.now in
    let id = c.args.id.now in
    let other = c.args.other.now in
    subst (λ (os : List Ident). Lays statements levels c.args.sleeping.now os)
    (both_joined (top_steps statements levels id) (top_steps statements levels other) c.args.queue.now c.join_both.new.queue id other c.in_ok-join_both.ensures.ok
    (grind (arith, nat_tests, c.if-joined-eq2.true, c.len.ensures, c.len-before.ensures)))
    c.requires.asleep

pub returns-clause-asleep : goal.returns-clause-asleep
returns-clause-asleep c =
    both_slept c.args.statements.now c.args.levels.now c.args.sleeping.now c.lay_down.new.self c.lay_down-2.new.self c.args.queue.now c.join_both.new.queue c.args.id.now c.args.other.now c.in_ok-join_both.ensures.ok
    c.lay_down.ensures.more c.lay_down.ensures.rests c.lay_down-2.ensures.more c.lay_down-2.ensures.rests c.requires.asleep
