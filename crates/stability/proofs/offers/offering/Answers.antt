use Rattle.std.proofs.Common.{arith}
use Rattle.stability.proofs.OfferLaws.{has_place, if_refused}
use Rattle.stability.proofs.offers.offering.Goals as goal

pub returns-in_err-offers_where-clause-err : goal.returns-in_err-offers_where-clause-err
returns-in_err-offers_where-clause-err c = if_refused c.from_residual.result (has_place c.args.threads.now c.loop-place.place (omega arith))
