use Rattle.oz_semantics.specs.Configurations.{is_of}
use Rattle.stability.proofs.Firsts.{found_at}
use Rattle.stability.proofs.places.place_of.Goals as goal

pub returns : goal.returns
returns c = found_at (is_of c.args.space.now) c.args.levels.now _ c.place.ensures
