use Rattle.watching.proofs.DueLaws.{ok_from}
use Rattle.watching.proofs.watch.Watch.follow.Goals as goal

pub returns-else-is_err : goal.returns-else-is_err
returns-else-is_err c = λ old ps f e h lost. ok_from _ c.follow.result c.follow.ensures c.if-is_err.ensures.value old ps (f lost) e h
