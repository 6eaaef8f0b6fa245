use Rattle.space_core.proofs.ThreadLaws.{stands_at}
use Rattle.space_core.proofs.threads.is_at.Goals as goal

pub returns-in-Some : goal.returns-in-Some
returns-in-Some c = λ same.
    let found = c.in-Some.ensures.lookup in
    stands_at c.args.threads.now c.args.number c.args.place c.in-Some.thread.now found.0 found.1 same
