use Rattle.stability.proofs.Firsts.{found_in}
use Rattle.stability.proofs.offers.first_offering.Goals as goal

pub returns-clause-found : goal.returns-clause-found
returns-clause-found c = found_in _ c.args.threads.now c.offering.result c.offering.ensures.found
