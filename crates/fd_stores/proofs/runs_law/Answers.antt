use Rattle.fd_stores.proofs.RunLaws.{runs_law, fails_law, changes_law}
use Rattle.fd_stores.proofs.SettleLaws.{settled_law}
use Rattle.fd_stores.proofs.runs_law.Goals as goal

pub returns : goal.returns
returns c = record { keep = runs_law; fail = fails_law; change = changes_law; settle = settled_law }
