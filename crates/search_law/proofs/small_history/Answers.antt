use Rattle.std.proofs.Common.{refl}
use Rattle.search_law.proofs.small_history.Goals as goal

pub returns : goal.returns
returns c = record { bounds = (refl, refl, refl, refl, refl); alternatives = (refl, refl, refl, refl, refl, refl) }
