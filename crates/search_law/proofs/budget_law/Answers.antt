use Rattle.search_law.proofs.Claimed.{claimed_law, there_law, stop_law}
use Rattle.search_law.proofs.NodeLaws.{unique_law}
use Rattle.search_law.proofs.budget_law.Goals as goal

pub returns : goal.returns
returns g c = record { unique = unique_law _ _; claimed = claimed_law _ _; there = there_law _ _; stop = stop_law _ _ }
