use Rattle.watching.proofs.DueLaws.{ok_from}
use Rattle.watching.proofs.watch.Watch.posted.Goals as goal

pub returns-else-is_err : goal.returns-else-is_err
returns-else-is_err c = λ ps r k e lost. ok_from _ c.post.result c.post.ensures c.if-is_err.ensures.value ps r (k lost) e
