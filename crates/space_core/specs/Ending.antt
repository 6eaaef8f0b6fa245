-- What is kept of a space that fails, or begins.
use Rattle.std.specs.Prelude.{ℕ, ◌≡◌, ◌⊎◌, true, false, not, List, [], length, Contains}
use Rattle.oz_base.specs.declared.names.Ident.{Ident}
use Rattle.oz_semantics.specs.Names.{is_top}
use Rattle.oz_semantics.specs.Configurations.{new_layer, placed}
use Rattle.oz_semantics.specs.Edits.{starting}
use Rattle.oz_semantics.specs.declared.value.Tell.{Tell}
use Rattle.oz_semantics.specs.declared.configuration.Status.TheVariants.{Failed}
use Rattle.space_core.specs.Shown.{shown, shown_all}
use Rattle.space_core.specs.declared.level.Level.{Level}

-- what is kept of a space that has failed: nothing of what it sees, but of the top
abbrev pub fallen : Level → Level
fallen l =
    record l {
      status = Failed;
      constraints = record { store = []; propagators = [] };
      told_from = 0;
      touched = [];
      threads = record l.threads { list = [] };
      triggers = [];
      objects = record { cells = []; ports = [] };
      traced = true;
      knows_space = false;
      bare = not (is_top l.space);
    }

-- the store is what the space above sees, and the space was told nothing
pub record IsUntold (tells : List Tell) (l : Level) : Type 0 where
  pub store : l.constraints.store ≡ tells
  pub told_from : l.told_from ≡ length tells
  pub touched : l.touched ≡ []
  pub kept : l.bare ≡ false

-- a child in which a thread applies the procedure to the root variable
pub record IsChild (space : List ℕ) (procedure : Ident) (tells : List Tell) (l : Level) : Type 0 where
  pub untold : IsUntold tells l
  pub shows : shown l ≡ starting procedure (new_layer space)

-- the new one came among what is kept
pub record IsAdded (levels news : List Level) (new : Level) : Type 0 where
  pub shows : shown_all news ≡ placed (shown new) (shown_all levels)
  pub member : (n : Level) → Contains news n → (n ≡ new) ⊎ Contains levels n
