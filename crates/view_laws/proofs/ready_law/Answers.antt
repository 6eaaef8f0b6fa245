use Rattle.view_laws.proofs.StayLaws.{readiness_stays}
use Rattle.view_laws.proofs.WakeLaws.{untouched_unmoved}
use Rattle.view_laws.proofs.ReadyLaws.{change_ready, quiet_ready}
use Rattle.view_laws.proofs.ready_law.Goals as goal

pub returns : goal.returns
returns c = record { stays = readiness_stays; unmoved = untouched_unmoved; change = change_ready; quiet = quiet_ready }
