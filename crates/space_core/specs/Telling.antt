-- What is kept of a space that is told more.
use Rattle.std.specs.Prelude.{ℕ, ◌≡◌, ◌⊎◌, ◌||◌, Bool, true, false, List, ◌++◌, filter, is_some, slice_index_or, slice_set}
use Rattle.std.specs.List.{list_any, list_all}
use Rattle.oz_base.specs.declared.names.Ident.{Ident}
use Rattle.oz_semantics.specs.Names.{is_properly_below, is_top}
use Rattle.oz_semantics.specs.Store.{is_consistent, named_by}
use Rattle.oz_semantics.specs.Configurations.{thread_at, with_frames}
use Rattle.oz_semantics.specs.declared.value.Tell.{Tell}
use Rattle.oz_semantics.specs.declared.configuration.Frame.{Frame}
use Rattle.oz_semantics.specs.declared.configuration.Layer.{Layer}
use Rattle.view_laws.specs.Spaceless.{gives_space}
use Rattle.space_core.specs.Fates.{AreFates, with_fates}
use Rattle.space_core.specs.Giving.{after_giving}
use Rattle.space_core.specs.Shown.{shown_all, is_home, is_other, Traces, IsQuiet}
use Rattle.space_core.specs.declared.fates.Fate.{Fate}
use Rattle.space_core.specs.declared.given.Given.{Given}
use Rattle.space_core.specs.declared.level.Level.{Level}

-- whether there are spaces below this one
abbrev pub has_below : List Layer → List ℕ → Bool
has_below layers space = list_any (λ (l : Layer). is_properly_below space l.space) layers

-- these variables were noted besides, which are those of other spaces that what was told touches
pub record IsNoted (ts : List Tell) (old new : Level) : Type 0 where
  pub more : List Ident
  pub noted : new.touched ≡ old.touched ++ more
  pub traces : Traces old.space old.constraints.store ts more

-- it was told this, of which home says whether the variables are those of the space or of spaces above it, and of these variables those
-- of other spaces were noted
pub record IsMarked (home : Bool) (ts : List Tell) (noted : List Ident) (old new : Level) : Type 0 where
  pub store : new.constraints.store ≡ old.constraints.store
  pub space : new.space ≡ old.space
  pub status : new.status ≡ old.status
  pub told_from : new.told_from ≡ old.told_from
  pub threads : new.threads ≡ old.threads
  pub triggers : new.triggers ≡ old.triggers
  pub propagators : new.constraints.propagators ≡ old.constraints.propagators
  pub objects : new.objects ≡ old.objects
  pub numbers : new.numbers ≡ old.numbers
  pub traced : new.traced ≡ true → (old.traced ≡ true) × (home ≡ true)
  pub notes : new.traced ≡ true → is_top old.space ≡ false → new.touched ≡ old.touched ++ filter (is_other old.space) noted
  pub knows : new.knows_space ≡ (old.knows_space || list_any gives_space ts)
  pub bare : new.bare ≡ old.bare

-- the store was told this; home says whether the variables are those of the space or of spaces above it
pub record IsToldMore (home : Bool) (ts : List Tell) (old new : Level) : Type 0 where
  pub store : new.constraints.store ≡ old.constraints.store ++ ts
  pub consistent : is_consistent (old.constraints.store ++ ts) ≡ true
  pub space : new.space ≡ old.space
  pub status : new.status ≡ old.status
  pub told_from : new.told_from ≡ old.told_from
  pub threads : new.threads ≡ old.threads
  pub triggers : new.triggers ≡ old.triggers
  pub propagators : new.constraints.propagators ≡ old.constraints.propagators
  pub objects : new.objects ≡ old.objects
  pub numbers : new.numbers ≡ old.numbers
  pub traced : new.traced ≡ true → (old.traced ≡ true) × (home ≡ true)
  pub notes : new.traced ≡ true → is_top old.space ≡ false → IsNoted ts old new
  pub knows : new.knows_space ≡ (old.knows_space || list_any gives_space ts)
  -- it is not bare
  pub kept : old.bare ≡ false
  pub bare : new.bare ≡ old.bare

-- it was told this; or that is inconsistent with what the space sees
abbrev pub IsLevelTold : Bool → List Tell → Level → Level → Bool → Type 0
IsLevelTold home ts old new true = IsToldMore home ts old new
IsLevelTold home ts old new false = (new ≡ old) × (is_consistent (old.constraints.store ++ ts) ≡ false) × (old.bare ≡ false)

-- no other space is below the one at a place, which became this
pub record IsAlone (place : ℕ) (before told : Level) (old new : List Level) : Type 0 where
  pub none : has_below (shown_all old) before.space ≡ false
  pub left : new ≡ slice_set old place told

-- the space at a place sees this
abbrev pub sees_at : ℕ → Level → List Tell → List Level → List Level
sees_at place l store levels = slice_set levels place (record l { constraints = record l.constraints { store = store } })

-- the space at a place became this, and each space below it has its fate by what it sees then
pub record IsRemade (place : ℕ) (before told : Level) (old new : List Level) : Type 0 where
  pub fates : List Fate
  pub are : AreFates before.space (sees_at place before told.constraints.store old) fates
  pub left : new ≡ with_fates fates (slice_set old place told)

-- this becomes of the spaces by what the space at a place sees
pub record IsFated (place : ℕ) (old new : List Level) (fates : List Fate) : Type 0 where
  pub left : new ≡ old
  pub are : (l : Level) → l ≡ slice_index_or old place l → AreFates l.space old fates

-- the space at a place sees this again
abbrev pub IsSetBack : ℕ → List Tell → List Level → List Level → Type 0
IsSetBack place store old new = (l : Level) → l ≡ slice_index_or old place l → new ≡ sees_at place l store old

abbrev pub IsLeft : ℕ → Level → Level → List Level → List Level → Type 0
IsLeft place before told old new = IsAlone place before told old new ⊎ IsRemade place before told old new

-- the space at a place was told these, and those below it see them
pub record ToldThrough (place : ℕ) (home : Bool) (ts : List Tell) (old new : List Level) : Type 0 where
  pub before : Level
  pub told : Level
  pub read : before ≡ slice_index_or old place before
  pub tells : IsToldMore home ts before told
  pub left : IsLeft place before told old new

-- what is kept of the space at a place, which gave this out
abbrev pub after_giving_at : ℕ → Given → Level → List Level → List Level
after_giving_at place given l levels = slice_set levels place (after_giving given l)

-- the space at a place gave this out and was told these, and those below it see them
pub record ToldAt (place : ℕ) (ts : List Tell) (given : Given) (old new : List Level) : Type 0 where
  pub before : Level
  pub told : Level
  pub home : Bool
  pub read : before ≡ slice_index_or old place before
  pub homes : home ≡ list_all (λ t. list_all (is_home (shown_all (after_giving_at place given before old)) before.space) (named_by t)) ts
  pub tells : IsToldMore home ts (after_giving given before) told
  pub left : IsLeft place (after_giving given before) told (after_giving_at place given before old) new

-- these are inconsistent with what the space at a place sees, and nothing was done
pub record ClashesAt (place : ℕ) (ts : List Tell) (old new : List Level) : Type 0 where
  pub before : Level
  pub read : before ≡ slice_index_or old place before
  pub kept : before.bare ≡ false
  pub clash : is_consistent (before.constraints.store ++ ts) ≡ false
  pub left : new ≡ old

abbrev pub IsToldThrough : ℕ → Bool → List Tell → List Level → List Level → Bool → Type 0
IsToldThrough place home ts old new true = ToldThrough place home ts old new
IsToldThrough place home ts old new false = ClashesAt place ts old new

abbrev pub IsToldAt : ℕ → List Tell → Given → List Level → List Level → Bool → Type 0
IsToldAt place ts given old new true = ToldAt place ts given old new
IsToldAt place ts given old new false = ClashesAt place ts old new

-- the space at a place has this thread
abbrev pub HasThread : ℕ → ℕ → List Level → Type 0
HasThread place number levels = (l : Level) → l ≡ slice_index_or levels place l → is_some (thread_at l.threads.list number) ≡ true

-- a handler was put on the stack of its thread, and then it gave this out and was told these
pub record ToldUnder (place number : ℕ) (handler : List Frame) (ts : List Tell) (given : Given) (old new : List Level) : Type 0 where
  pub before : Level
  pub pushed : Level
  pub read : before ≡ slice_index_or old place before
  pub quiet : IsQuiet (with_frames number (λ stack. handler ++ stack)) before pushed
  pub told : ToldAt place ts given (slice_set old place pushed) new
