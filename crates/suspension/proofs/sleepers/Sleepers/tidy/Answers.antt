use Rattle.suspension.proofs.KeyLaws.{tidies}
use Rattle.suspension.proofs.sleepers.Sleepers.tidy.Goals as goal

pub returns : goal.returns
returns c = tidies c.args.self.now c.in_ok-self.field-0 c.in_ok-self.ensures
