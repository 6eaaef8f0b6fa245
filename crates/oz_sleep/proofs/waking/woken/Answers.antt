use Rattle.std.proofs.Common.{List, sym, subst}
use Rattle.oz_base.specs.declared.names.Ident.{Ident}
use Rattle.oz_semantics.specs.Configurations.{view}
use Rattle.builtins.specs.Answers.{act_of}
use Rattle.oz_sleep.specs.Laid.{TouchesBy}
use Rattle.oz_sleep.proofs.WakingLaws.{some_holds}
use Rattle.oz_sleep.proofs.waking.woken.Goals as goal

pub returns-in-Some-2-clause-foretold : goal.returns-in-Some-2-clause-foretold
returns-in-Some-2-clause-foretold c =
    let levels = c.args.levels.now in
    let act = act_of c.args.what.now in
    c.wake.ensures.foretold act (λ l at.
    subst (λ (xs : List Ident). TouchesBy (view levels l.space) l act xs) (sym c.deref.ensures.value)
    (some_holds c.in_ok-touched.field-0 c.in-Some-2.touched (λ xs. TouchesBy (view levels l.space) l act xs.items) c.in-Some-2.is (c.in_ok-touched.ensures l at)))
