use Rattle.oz_threads.specs.Sights.{sight_of}
use Rattle.stability.proofs.OfferLaws.{goes_choice, tells_choice}
use Rattle.stability.proofs.offers.choice_at.Goals as goal

pub returns-in-GoesOn : goal.returns-in-GoesOn
returns-in-GoesOn c =
    λ t h. goes_choice (sight_of c.args.statements.now c.args.space.now c.args.store.now) c.args.index c.args.threads.now c.args.place t c.index-threads-place.result c.in-GoesOn.frames.items h
    c.index-threads-place.is ((rw c.in-GoesOn.is at c.in_ok-what.ensures) c.args.space.now) c.going_on.result (c.going_on.ensures t h.item)

pub returns-in-Tells : goal.returns-in-Tells
returns-in-Tells c =
    λ t h. tells_choice (sight_of c.args.statements.now c.args.space.now c.args.store.now) c.args.index c.args.threads.now c.args.place t c.index-threads-place.result c.in-Tells.tell h
    c.index-threads-place.is ((rw c.in-Tells.is at c.in_ok-what.ensures) c.args.space.now)
