use Rattle.std.proofs.Common.{Some}
use Rattle.oz_semantics.specs.Configurations.{is_numbered}
use Rattle.space_core.proofs.Firsts.{found_at}
use Rattle.space_core.proofs.ThreadLaws.{guessed_in_kept}
use Rattle.space_core.proofs.threads.Threads.place.Goals as goal

pub returns-then-is_at : goal.returns-then-is_at
returns-then-is_at c =
    let h = c.is_at.ensures c.if-is_at.true in
    found_at (is_numbered c.args.number) c.args.self.now.list (Some 0)
    (guessed_in_kept c.self.inside.threads c.as_slice-threads.result.now c.self.inside.next c.self.inside.ended c.args.self.now c.as_slice-threads.ensures c.self.view_is c.self.invariant c.args.number 0 h.0 h.1)
