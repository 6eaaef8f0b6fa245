use Rattle.watching.proofs.WatchLaws.{foresees_tracks}
use Rattle.watching.proofs.watch.Watch.foresee.Goals as goal

pub returns-in-Ok-clause-keeps : goal.returns-in-Ok-clause-keeps
returns-in-Ok-clause-keeps c =
    λ ps k lost. foresees_tracks c.args.store.now c.args.tells.now ps c.foresee.new.self c.in-Ok.foresight (c.in-Ok.ensures ps (k lost))
