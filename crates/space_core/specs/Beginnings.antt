-- What is kept of a space at its beginning.
use Rattle.std.specs.Prelude.{◌≡◌, false, []}
use Rattle.oz_semantics.specs.Configurations.{new_layer}
use Rattle.space_core.specs.Shown.{shown}
use Rattle.space_core.specs.declared.level.Level.{Level}

pub record IsTopLevel (l : Level) : Type 0 where
  pub shows : shown l ≡ new_layer []
  pub store : l.constraints.store ≡ []
  pub told_from : l.told_from ≡ 0
  pub kept : l.bare ≡ false
