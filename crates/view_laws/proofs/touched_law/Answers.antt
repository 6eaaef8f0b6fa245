use Rattle.view_laws.proofs.TouchedLaws.{touched_decide}
use Rattle.view_laws.proofs.CoverLaws.{untouched_alike}
use Rattle.view_laws.proofs.FirstLaws.{firsts_decide, touched_hold}
use Rattle.view_laws.proofs.TwiceLaws.{touches_nothing, touches_twice}
use Rattle.view_laws.proofs.touched_law.Goals as goal

pub returns : goal.returns
returns c = record { decide = touched_decide; firsts = firsts_decide; waits = touched_hold; untouched = untouched_alike; nothing = touches_nothing; twice = touches_twice }
