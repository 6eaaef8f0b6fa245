use Rattle.std.proofs.Common.{arith, ◌≡◌, ◌∙◌, ◌++◌, ℕ, List, [], ◌∷◌, map, sym, subst}
use Rattle.std.proofs.lemmas.Bool.Decides.{nat_tests}
use Rattle.oz_semantics.specs.Names.{named}
use Rattle.oz_sleep.specs.Laid.{Lays}
use Rattle.oz_sleep.specs.declared.sleeping.Sleeping.{Sleeping}
use Rattle.oz_sleep.proofs.LaidLaws.{on_ok}
use Rattle.oz_machine.proofs.AskingLaws.{alone_told, err_then, none_long}
use Rattle.oz_machine.proofs.settling.join_told.Goals as goal

pub join_or_sleep-requires-clause-asleep : goal.join_or_sleep-requires-clause-asleep
join_or_sleep-requires-clause-asleep c =
    let mover = c.args.mover.now in
    let nobody : c.args.woken.now ≡ [] = none_long c.args.woken.now (let e = c.is_empty.ensures in let t = c.if-is_empty.true in grind (arith, nat_tests)) in
    subst (λ (ns : List ℕ). Lays c.args.statements.now c.args.levels.now c.args.sleeping.now (c.args.queue.now ++ mover ∷ map (named mover.space) ns)) nobody c.requires.asleep

pub returns-then-is_empty-clause-ok : goal.returns-then-is_empty-clause-ok
returns-then-is_empty-clause-ok c =
    let queue = c.args.queue.now in
    let woken = c.args.woken.now in
    let nobody : woken ≡ [] = none_long woken (let e = c.is_empty.ensures in let t = c.if-is_empty.true in grind (arith, nat_tests)) in
    let none : queue ≡ [] = none_long queue (let e = c.len.ensures in let t = c.if-len-eq0.true in grind (arith, nat_tests)) in
    on_ok c.join_or_sleep.result (λ e. e ∙ alone_told c.args.statements.now c.args.levels.now c.args.mover.now woken queue nobody none) c.join_or_sleep.ensures.ok

pub returns-then-is_empty-clause-left : goal.returns-then-is_empty-clause-left
returns-then-is_empty-clause-left c =
    let mover = c.args.mover.now in
    err_then c.join_or_sleep.result
    (λ e. subst (λ (s : Sleeping). Lays c.args.statements.now c.args.levels.now s (c.args.queue.now ++ mover ∷ map (named mover.space) c.args.woken.now)) (sym e) c.requires.asleep) c.join_or_sleep.ensures.left
