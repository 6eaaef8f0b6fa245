use Rattle.space_core.proofs.Firsts.{found_at}
use Rattle.space_core.proofs.looking.changed_place.Goals as goal

pub returns : goal.returns
returns c = found_at _ _ _ c.changed_position.ensures
