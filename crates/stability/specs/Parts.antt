-- Layers that stand together.
use Rattle.std.specs.Prelude.{ℕ, ◌-◌, List, drop, take}
use Rattle.oz_semantics.specs.declared.configuration.Layer.{Layer}

-- the layers from one place to another
abbrev pub part : List Layer → ℕ → ℕ → List Layer
part layers from to = take (to - from) (drop from layers)
