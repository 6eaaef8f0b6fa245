use Rattle.watching.proofs.DueLaws.{ok_from}
use Rattle.watching.proofs.watch.Watch.ran.Goals as goal

pub returns-else-is_err : goal.returns-else-is_err
returns-else-is_err c = λ view ps qs k r lost. ok_from _ c.run.result c.run.ensures c.if-is_err.ensures.value view ps qs (k lost) r
