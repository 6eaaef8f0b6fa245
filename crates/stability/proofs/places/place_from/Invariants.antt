use Rattle.std.proofs.Common.{◌≡◌}
use Rattle.oz_semantics.specs.Configurations.{is_of}
use Rattle.stability.specs.Places.{from_place}
use Rattle.stability.proofs.places.place_from.Given as goal

-- those passed so far are others
abbrev pub invariant-loop-place : goal.invariant-loop-place
invariant-loop-place l = from_place (is_of l.space) l.levels l.place ≡ from_place (is_of l.space) l.levels l.from
