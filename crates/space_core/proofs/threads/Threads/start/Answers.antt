use Rattle.space_core.proofs.ThreadLaws.{started_is}
use Rattle.space_core.proofs.threads.Threads.start.Goals as goal

pub returns-clause-ok : goal.returns-clause-ok
returns-clause-ok c =
    started_is c.args.number c.in-Some.place c.args.self.now c.spawn-2.new.self c.pop_at-statement.new.self c.args.frames.items c.pop_at-statement.result c.in-Some.ensures.0 c.in-Some.ensures.1 c.in_ok-spawn.ensures.ok c.pop_at-statement.ensures
