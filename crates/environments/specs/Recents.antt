-- An environment as recent bindings over a map with the older ones.
use Rattle.std.specs.Prelude.{ℕ, ◌+◌}
use Rattle.std.specs.FinMap as maps
use Rattle.environments.specs.Environments.{Environment}
use Rattle.environments.specs.declared.recent.Recent.{Recent, Over, Newest'}

-- which variables the numbers of identifiers stand for: what stands further in front counts
abbrev pub meant : Recent → Environment
meant (Over older) = older
meant (Newest' p code variable older) = maps.insert (meant older) code variable

-- how many bindings stand before the map
abbrev pub cells : Recent → ℕ
cells (Over older) = 0
cells (Newest' p code variable older) = cells older + 1
