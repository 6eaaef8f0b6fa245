use Rattle.builtins.proofs.ReadyLaws.{ready_so}
use Rattle.builtins.proofs.readiness.ready_two.Goals as goal

pub returns : goal.returns
returns c = ready_so c.args.store.now _ _ c.ready_by.result c.awaited_of_two.ensures c.ready_by.ensures
