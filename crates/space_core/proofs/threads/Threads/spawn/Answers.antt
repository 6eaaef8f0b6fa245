use Rattle.std.proofs.Common.{◌≡◌, ◌+◌, ap, rules}
use Rattle.oz_semantics.specs.declared.configuration.Thread.{Thread}
use Rattle.space_core.proofs.ThreadLaws.{kept_more}
use Rattle.space_core.proofs.threads.Threads.spawn.Goals as goal

pub invariant_of-self-2 : goal.invariant_of-self-2
invariant_of-self-2 c =
    let after : c.in_ok-next.next ≡ c.self.inside.next + 1 = search rules in
    kept_more c.self.inside.threads c.push.new.self c.self.inside.next c.in_ok-next.next c.self.inside.ended c.self.invariant c.in_ok-thread.thread (ap (λ (t : Thread). t.number) c.in_ok-thread.ensures) c.in_ok-push.ensures.ok after
    c.with_seen-ended.result c.with_seen-ended.ensures
