use Rattle.std.proofs.Common.{refl}
use Rattle.space_core.proofs.ThreadLaws.{kept_seen}
use Rattle.space_core.proofs.threads.Threads.cut.Goals as goal

pub invariant_of-self : goal.invariant_of-self
invariant_of-self c =
    kept_seen c.self.inside.threads c.self.inside.next c.self.inside.ended c.self.invariant c.args.self.now c.self.view_is c.in-Some.place c.in-Some.ensures.1.within c.get_mut.result.now (record { number = c.get_mut.result.now.number; frames = c.cut.new.self }) c.get_mut.ensures.value refl
    c.get.result.now c.get.ensures c.with_seen-self-inside.result c.with_seen-self-inside.ensures
