use Rattle.suspension.proofs.WakeLaws.{wakes}
use Rattle.suspension.proofs.sleepers.Sleepers.wake.Goals as goal

pub returns : goal.returns
returns c =
    λ a. wakes c.args.store.now c.args.touched.now c.args.self.now a c.wake_all.new.self c.in_ok-woken.woken.items (c.in_ok-woken.ensures a) c.tidy.new.self
    c.in_ok-tidy.ensures c.ascending.result c.ascending.ensures.ascends c.ascending.ensures.kept c.ascending.ensures.only
