-- Spaces below another one whose stores are made anew.
use Rattle.std.specs.Prelude.{ℕ, ◌≡◌, Bool, true, false, List, ◌++◌, Contains, drop, slice_index_or, slice_set}
use Rattle.std.specs.List.{list_any, list_all, flat_map}
use Rattle.oz_semantics.specs.Names.{is_properly_below}
use Rattle.oz_semantics.specs.Store.{named_by, is_consistent}
use Rattle.oz_semantics.specs.Configurations.{with_frames, counting_child}
use Rattle.oz_semantics.specs.declared.value.Tell.{Tell}
use Rattle.oz_semantics.specs.declared.configuration.Layer.{Layer}
use Rattle.view_laws.specs.Trees.{IsTree}
use Rattle.view_laws.specs.Spaceless.{gives_space}
use Rattle.space_core.specs.Fates.{AreFates, with_fates}
use Rattle.space_core.specs.Shown.{shown, shown_all, is_home, IsBare, Fits, IsQuiet}
use Rattle.space_core.specs.Telling.{IsToldMore}
use Rattle.space_core.specs.declared.fates.Fate.{Fate}
use Rattle.space_core.specs.declared.level.Level.{Level}

-- The layers are those of a tree, and what is kept of all spaces fits them but of those properly below this one, which may see anything
pub record IsLoose (space : List ℕ) (levels : List Level) : Type 0 where
  pub tree : IsTree (shown_all levels)
  pub fits : (l : Level) → Contains levels l → is_properly_below space l.space ≡ false → Fits (shown_all levels) l
  pub home : (l : Level) → Contains levels l → l.traced ≡ true → is_properly_below space l.space ≡ true → list_all (is_home (shown_all levels) l.space) (flat_map named_by (shown l).tells) ≡ true
  pub known : (l : Level) → Contains levels l → l.knows_space ≡ false → is_properly_below space l.space ≡ true → list_any gives_space (shown l).tells ≡ false
  pub bare : (l : Level) → Contains levels l → l.bare ≡ true → is_properly_below space l.space ≡ true → IsBare l

-- each of them has its fate by what it sees then
pub record IsAnew (space : List ℕ) (old new : List Level) : Type 0 where
  pub fates : List Fate
  pub are : AreFates space old fates
  pub left : new ≡ with_fates fates old

-- The space at a place was changed quietly and told this, and those below it still see what they saw
pub record ToldAlone (change : Layer → Layer) (place : ℕ) (ts : List Tell) (old new : List Level) : Type 0 where
  pub before : Level
  pub changed : Level
  pub told : Level
  pub home : Bool
  pub read : before ≡ slice_index_or old place before
  pub quiet : IsQuiet change before changed
  pub homes : home ≡ list_all (λ t. list_all (is_home (shown_all (slice_set old place changed)) changed.space) (named_by t)) ts
  pub tells : IsToldMore home ts changed told
  pub left : new ≡ slice_set (slice_set old place changed) place told

-- or these are inconsistent with what the space sees
pub record ClashesAlone (change : Layer → Layer) (place : ℕ) (ts : List Tell) (old : List Level) : Type 0 where
  pub before : Level
  pub changed : Level
  pub read : before ≡ slice_index_or old place before
  pub quiet : IsQuiet change before changed
  pub kept : changed.bare ≡ false
  pub clash : is_consistent (changed.constraints.store ++ ts) ≡ false

abbrev pub IsToldAlone : (Layer → Layer) → ℕ → List Tell → List Level → List Level → Bool → Type 0
IsToldAlone change place ts old new true = ToldAlone change place ts old new
IsToldAlone change place ts old new false = ClashesAlone change place ts old

-- the statement on top of a thread's stack was taken off, and one more child is counted
abbrev pub counting_by : ℕ → Layer → Layer
counting_by number l = counting_child (with_frames number (λ stack. drop 1 stack) l)
