use Rattle.std.proofs.lemmas.Result.{on_ok_weaker}
use Rattle.watching.specs.declared.watched.Watched.{Watched}
use Rattle.watching.proofs.WatchLaws.{posted}
use Rattle.watching.proofs.watched.Watched.post.Goals as goal

pub returns : goal.returns
returns c =
    let after : Watched = record { keys = c.watch_all.new.self; due = c.add.new.due } in
    on_ok_weaker c.add.result (λ g ps r t e. posted c.args.store.now ps r c.args.variables.now c.args.index c.args.self.now after (c.in_ok-watch_all.ensures ps) g t e) c.add.ensures
