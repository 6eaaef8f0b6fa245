use Rattle.std.proofs.Common.{◌≡◌, ℕ, ◌<◌, true, Some}
use Rattle.std.specs.Prelude.{slice_get}
use Rattle.oz_semantics.specs.Names.{is_below}
use Rattle.oz_semantics.specs.declared.configuration.Layer.{Layer}
use Rattle.space_core.specs.Levels.{OfLayer}
use Rattle.stability.proofs.parts.end_of.Given as goal

-- those passed so far are below
abbrev pub invariant-below : goal.invariant-below
invariant-below l = OfLayer l.levels l.place (λ m. (k : ℕ) (n : Layer) → l.place < k → k < l.behind → slice_get l.levels k ≡ Some n → is_below m.space n.space ≡ true)
