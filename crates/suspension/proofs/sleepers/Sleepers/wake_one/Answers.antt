use Rattle.std.proofs.Common.{Some, None, subst}
use Rattle.suspension.specs.Changes.{Finds}
use Rattle.suspension.proofs.WakeLaws.{waking_still, waking_more, on_ok_both}
use Rattle.suspension.proofs.sleepers.Sleepers.wake_one.Goals as goal

pub returns-in-None : goal.returns-in-None
returns-in-None c =
    let f : Finds c.args.store.now c.args.self.now c.args.variable.now None =
    subst (Finds c.args.store.now c.args.self.now c.args.variable.now) c.in-None.is c.in_ok-key_of.ensures in
    λ old done a w. waking_still c.args.store.now done c.args.variable.now old a c.args.self.now c.args.woken.now.items w f

pub returns-in-Some : goal.returns-in-Some
returns-in-Some c =
    let f : Finds c.args.store.now c.args.self.now c.args.variable.now (Some c.in-Some.key) =
    subst (Finds c.args.store.now c.args.self.now c.args.variable.now) c.in-Some.is c.in_ok-key_of.ensures in
    on_ok_both _ _ _ c.take_out.result
    (λ l e old done a w. waking_more c.args.store.now done c.args.variable.now old a c.args.self.now c.args.woken.now.items w c.in-Some.key f c.take_out.new.self l
    c.take_out.new.woken.items e) c.take_out.ensures.leaves c.take_out.ensures.woken
