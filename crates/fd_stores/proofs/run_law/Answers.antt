use Rattle.fd_stores.proofs.StoreLaws.{run_keeps, run_shrinks, run_decides, tells_law}
use Rattle.fd_stores.proofs.run_law.Goals as goal

pub returns-clause-keeps : goal.returns-clause-keeps
returns-clause-keeps c = run_keeps

pub returns-clause-shrinks : goal.returns-clause-shrinks
returns-clause-shrinks c = run_shrinks

pub returns-clause-decides : goal.returns-clause-decides
returns-clause-decides c = run_decides

pub returns-clause-tells : goal.returns-clause-tells
returns-clause-tells c = tells_law
