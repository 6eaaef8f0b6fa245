use Rattle.suspension.proofs.WakeLaws.{keys_stay, found_stays}
use Rattle.suspension.proofs.later_law.Goals as goal

pub returns-clause-keys : goal.returns-clause-keys
returns-clause-keys c = keys_stay

pub returns-clause-found : goal.returns-clause-found
returns-clause-found c = found_stays
