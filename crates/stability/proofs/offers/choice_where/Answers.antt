use Rattle.stability.proofs.OfferLaws.{has_place, if_refused}
use Rattle.stability.proofs.offers.choice_where.Goals as goal

pub returns-in_default-clause-choice : goal.returns-in_default-clause-choice
returns-in_default-clause-choice c = (rw c.in_default.is at c.in_ok-place.ensures.found).none

pub returns-clause-choice : goal.returns-clause-choice
returns-clause-choice c =
    let here = rw c.in-Some.is at c.in_ok-place.ensures.found in
    c.choice_at.ensures here.0 here.1

pub returns-clause-err : goal.returns-clause-err
returns-clause-err c =
    let here = rw c.in-Some.is at c.in_ok-place.ensures.found in
    if_refused c.choice_at.result (has_place c.args.threads.now c.in-Some.place here.1.within)
