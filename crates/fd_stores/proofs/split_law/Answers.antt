use Rattle.fd_stores.proofs.SplitLaws.{split_law, naive_law}
use Rattle.fd_stores.proofs.split_law.Goals as goal

pub returns-clause-parts : goal.returns-clause-parts
returns-clause-parts c = split_law

pub returns-clause-order : goal.returns-clause-order
returns-clause-order c = naive_law
