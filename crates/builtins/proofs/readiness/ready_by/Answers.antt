use Rattle.std.proofs.Common.{ap, option_copied}
use Rattle.builtins.proofs.ReadyLaws.{waits_for}
use Rattle.builtins.proofs.readiness.ready_by.Goals as goal

pub returns-in_ok-single-in-Some : goal.returns-in_ok-single-in-Some
returns-in_ok-single-in-Some c = λ view. waits_for view (option_copied c.args.awaited) c.in-Some.variable.now c.in_ok-single-in-Some.field-0 (ap option_copied c.in-Some.is) c.in_ok-single-in-Some.ensures
