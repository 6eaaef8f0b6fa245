use Rattle.std.proofs.Common.{◌≡◌}
use Rattle.std.specs.Prelude.{position}
use Rattle.stability.specs.Offers.{offers}
use Rattle.oz_threads.specs.Sights.{sight_of}
use Rattle.stability.specs.Places.{from_place}
use Rattle.stability.proofs.offers.offering.Given as goal

-- those passed so far offer nothing
abbrev pub invariant-loop-place : goal.invariant-loop-place
invariant-loop-place l =
    from_place (offers (sight_of l.statements l.space l.store)) l.threads l.place
    ≡ position (offers (sight_of l.statements l.space l.store)) l.threads
