use Rattle.std.proofs.Common.{refl}
use Rattle.std.proofs.lemmas.Result.{on_ok_weaker}
use Rattle.watching.specs.declared.watched.Watched.{Watched}
use Rattle.watching.proofs.WatchLaws.{has_run}
use Rattle.watching.proofs.watched.Watched.run.Goals as goal

pub returns : goal.returns
returns c =
    let after : Watched = record { keys = c.args.self.now.keys; due = c.add.new.due } in
    on_ok_weaker c.add.result (λ g view ps qs t r. has_run view ps qs c.args.index c.args.self.now after refl g t r) c.add.ensures
