use Rattle.term_store.proofs.PlaceLaws.{places_tell_apart, places_tell_values}
use Rattle.term_store.proofs.places.place_law.Goals as goal

pub returns : goal.returns
returns c = record { apart = places_tell_apart c.tests_same.ensures; values = places_tell_values }
