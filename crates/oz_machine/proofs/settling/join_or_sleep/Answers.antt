use Rattle.std.proofs.Common.{arith, List, subst}
use Rattle.std.proofs.lemmas.Bool.Decides.{nat_tests}
use Rattle.oz_base.specs.declared.names.Ident.{Ident}
use Rattle.oz_sleep.specs.Laid.{Lays}
use Rattle.oz_machine.specs.Quiet.{top_steps}
use Rattle.oz_machine.proofs.AskingLaws.{one_joined, one_slept}
use Rattle.oz_machine.proofs.settling.join_or_sleep.Goals as goal

pub returns-then-len-before-clause-asleep : goal.returns-then-len-before-clause-asleep
returns-then-len-before-clause-asleep c =
    let statements = c.args.statements.now in
    let levels = c.args.levels.now in
    let id = c.args.id.now in
    subst (λ (os : List Ident). Lays statements levels c.args.sleeping.now os)
    (one_joined (top_steps statements levels id) c.args.queue.now c.join_mover.new.queue id c.in_ok-join_mover.ensures.ok (λ e. grind (arith, nat_tests, c.if-len-before.true, c.len.ensures, c.len-before.ensures, e)))
    c.requires.asleep

pub returns-clause-asleep : goal.returns-clause-asleep
returns-clause-asleep c =
    one_slept c.args.statements.now c.args.levels.now c.args.sleeping.now c.lay_down.new.self c.args.queue.now c.join_mover.new.queue c.args.id.now c.in_ok-join_mover.ensures.ok
    c.lay_down.ensures.more c.lay_down.ensures.rests c.requires.asleep
