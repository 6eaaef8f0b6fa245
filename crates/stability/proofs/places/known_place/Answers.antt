use Rattle.std.proofs.Common.{ap₂, ◌∙◌, ◌-◌, ℕ}
use Rattle.stability.proofs.KnownLaws.{known_found}
use Rattle.stability.proofs.places.known_place.Goals as goal

pub returns : goal.returns
returns c =
    known_found c.args.levels.now c.args.states.now c.args.space.now c.saturating_sub-from.result c.place_from.result
    (c.saturating_sub-from.ensures ∙ ap₂ (λ (m n : ℕ). m - n) c.len.ensures c.len-2.ensures) c.place_from.ensures
