-- What becomes of the spaces below one that was told more.
use Rattle.std.specs.Prelude.{ℕ, zero, suc, ◌≡◌, ◌<◌, ◌⊎◌, Bool, true, false, List, [], ◌∷◌, ◌++◌, Option, Some, None, length, slice_get, slice_index_or, Contains}
use Rattle.std.specs.List.{list_any, list_all, flat_map}
use Rattle.oz_base.specs.Lists.{holds_of, list_eq}
use Rattle.oz_semantics.specs.Names.{is_below, is_properly_below, parent_of}
use Rattle.oz_semantics.specs.Store.{is_consistent, named_by}
use Rattle.oz_semantics.specs.Configurations.{view}
use Rattle.oz_semantics.specs.Settling.{may_fail, inconsistent_spaces}
use Rattle.oz_semantics.specs.declared.value.Tell.{Tell}
use Rattle.oz_semantics.specs.declared.configuration.Layer.{Layer}
use Rattle.view_laws.specs.Trees.{IsTree}
use Rattle.view_laws.specs.Spaceless.{gives_space}
use Rattle.space_core.specs.Ending.{fallen}
use Rattle.space_core.specs.Shown.{shown, shown_all, is_home, Traces, IsBare, Fits}
use Rattle.space_core.specs.declared.fates.Fate.{Fate}
use Rattle.space_core.specs.declared.fates.Fate.TheVariants.{Stays, Gone, Fails, Sees, Bare}
use Rattle.space_core.specs.declared.fates.Seen.{Seen}
use Rattle.space_core.specs.declared.level.Level.{Level}

-- How it is found out

-- what a space sees that was told the same under a parent that sees this
pub record IsSeen (layers : List Layer) (above : List Tell) (l : Level) (seen : Seen) : Type 0 where
  pub store : seen.store ≡ above ++ (shown l).tells
  pub consistent : is_consistent seen.store ≡ true
  pub from : seen.told_from ≡ length above
  pub traced : seen.traced ≡ true → (l.traced ≡ true) ⊎ (list_all (λ t. list_all (is_home layers l.space) (named_by t)) (shown l).tells ≡ true)
  pub touches : Traces l.space above (shown l).tells seen.touched

-- or that is inconsistent
abbrev pub IsSeenUnder : List Layer → List Tell → Level → Option Seen → Type 0
IsSeenUnder layers above l (Some seen) = IsSeen layers above l seen
IsSeenUnder layers above l None = is_consistent (above ++ (shown l).tells) ≡ false

-- then a space that may fail does
pub record IsFailing (above : List Tell) (l : Level) : Type 0 where
  pub may : may_fail l.status ≡ true
  pub clash : is_consistent (above ++ (shown l).tells) ≡ false

-- what becomes of a space under a parent that sees this
abbrev pub IsUnder : List Layer → List Tell → Level → Fate → Type 0
IsUnder layers above l (Sees seen) = (l.bare ≡ false) × IsSeen layers above l seen
IsUnder layers above l Fails = IsFailing above l
IsUnder layers above l Bare = l.bare ≡ true
IsUnder layers above l Gone = ⊥
IsUnder layers above l Stays = ⊥

-- and by what becomes of the parent, which is not bare
abbrev pub IsAfter : List Layer → Level → Fate → Level → Fate → Type 0
IsAfter layers parent Stays l fate = (parent.bare ≡ false) × IsUnder layers parent.constraints.store l fate
IsAfter layers parent (Sees seen) l fate = IsUnder layers seen.store l fate
IsAfter layers parent Fails l fate = fate ≡ Gone
IsAfter layers parent Gone l fate = fate ≡ Gone
IsAfter layers parent Bare l fate = ⊥

-- the space at a place is the parent of a space
pub record IsParentAt (levels : List Level) (place : ℕ) (space : List ℕ) : Type 0 where
  pub within : place < length levels
  pub name : (l : Level) → l ≡ slice_index_or levels place l → l.space ≡ parent_of space

-- whether it is
abbrev pub is_parent_at : List Level → List ℕ → ℕ → Bool
is_parent_at levels space place = holds_of (λ (l : Level). list_eq l.space (parent_of space)) (slice_get levels place)

-- These are the front of others, up to the last that passes, which is this
pub record EndsWith (test : ℕ → Bool) (place : ℕ) (old new : List ℕ) : Type 0 where
  pub front : List ℕ
  pub behind : List ℕ
  pub before : old ≡ front ++ place ∷ behind
  pub passes : test place ≡ true
  pub others : list_any test behind ≡ false
  pub left : new ≡ front ++ place ∷ []

-- the last that passes; or none does
abbrev pub IsUpTo : (ℕ → Bool) → List ℕ → List ℕ → Option ℕ → Type 0
IsUpTo test old new None = list_any test old ≡ false
IsUpTo test old new (Some place) = EndsWith test place old new

-- of the places that led to the space before, those that lead to the parent of a space are left
pub record IsLedTo (levels : List Level) (space : List ℕ) (old new : List ℕ) : Type 0 where
  pub place : ℕ
  pub ends : EndsWith (is_parent_at levels space) place old new

-- where it is below the one that was told, its own place comes to them, and else nothing changes
abbrev pub IsPathTo : List ℕ → List Level → ℕ → List ℕ → List ℕ → List ℕ → Type 0
IsPathTo space levels n other old new =
    ((is_properly_below space other ≡ false) × (new ≡ old))
    ⊎ ((is_properly_below space other ≡ true) × ((front : List ℕ) × IsLedTo levels other old front × (new ≡ front ++ n ∷ [])))

-- it is found out by what becomes of the parent
pub record IsDecided (levels : List Level) (fates : List Fate) (l : Level) (fate : Fate) : Type 0 where
  pub place : ℕ
  pub parent : Level
  pub above : Fate
  pub stands : slice_get levels place ≡ Some parent
  pub has : slice_get fates place ≡ Some above
  pub name : parent.space ≡ parent_of l.space
  pub after : IsAfter (shown_all levels) parent above l fate

-- of a space that is below the one that was told; all others stay as they are
abbrev pub IsChosen : List ℕ → List Level → List Fate → Level → Fate → Type 0
IsChosen space levels fates l fate =
    ((is_properly_below space l.space ≡ false) × (fate ≡ Stays)) ⊎ ((is_properly_below space l.space ≡ true) × IsDecided levels fates l fate)

-- What it comes to

-- what is kept of a space, with what it sees now
abbrev pub seeing : Seen → Level → Level
seeing seen l = record l { constraints = record l.constraints { store = seen.store }; told_from = seen.told_from; touched = seen.touched; traced = seen.traced }

-- a space or one above it sees what is inconsistent
abbrev pub falls : List Layer → List ℕ → Bool
falls layers space = list_any (λ t. is_below t space) (inconsistent_spaces layers)

-- it is gone, since a space above it fails
pub record IsGone (layers : List Layer) (l : Level) : Type 0 where
  pub parent : falls layers (parent_of l.space) ≡ true

-- it fails itself, and no space above it does
pub record IsFallen (layers : List Layer) (l : Level) : Type 0 where
  pub parent : falls layers (parent_of l.space) ≡ false
  pub itself : Contains (inconsistent_spaces layers) l.space
  pub consistent : is_consistent (view layers (parent_of l.space)) ≡ true

-- it stands, and sees this
pub record IsStanding (layers : List Layer) (l : Level) (seen : Seen) : Type 0 where
  pub itself : falls layers l.space ≡ false
  pub kept : l.bare ≡ false
  pub tells : (shown (seeing seen l)).tells ≡ (shown l).tells
  pub fits : Fits layers (seeing seen l)

-- it stands as it is
pub record IsLeftBare (layers : List Layer) (l : Level) : Type 0 where
  pub itself : falls layers l.space ≡ false
  pub fits : Fits layers l

-- What becomes of a space is right by the layers in which this one was told more
abbrev pub IsFate : List ℕ → List Layer → Level → Fate → Type 0
IsFate space layers l Stays = is_properly_below space l.space ≡ false
IsFate space layers l Gone = (is_properly_below space l.space ≡ true) × IsGone layers l
IsFate space layers l Fails = (is_properly_below space l.space ≡ true) × IsFallen layers l
IsFate space layers l (Sees seen) = (is_properly_below space l.space ≡ true) × IsStanding layers l seen
IsFate space layers l Bare = (is_properly_below space l.space ≡ true) × IsLeftBare layers l

-- The space was told more, and what is kept of those below it is as it was before
pub record IsStale (space : List ℕ) (levels : List Level) : Type 0 where
  pub tree : IsTree (shown_all levels)
  pub below : (t : List ℕ) → Contains (inconsistent_spaces (shown_all levels)) t → is_properly_below space t ≡ true
  pub seen : (l : Level) → Contains levels l → is_properly_below space l.space ≡ false → l.bare ≡ false → l.constraints.store ≡ view (shown_all levels) l.space
  pub consistent : (l : Level) → Contains levels l → is_properly_below space l.space ≡ false → is_consistent (view (shown_all levels) l.space) ≡ true
  pub home : (l : Level) → Contains levels l → l.traced ≡ true → is_properly_below space l.space ≡ true → list_all (is_home (shown_all levels) l.space) (flat_map named_by (shown l).tells) ≡ true
  pub known : (l : Level) → Contains levels l → l.knows_space ≡ false → is_properly_below space l.space ≡ true → list_any gives_space (shown l).tells ≡ false
  pub bare : (l : Level) → Contains levels l → l.bare ≡ true → is_properly_below space l.space ≡ true → IsBare l

-- what becomes of each of these spaces is right
abbrev pub EachFate : List ℕ → List Level → List Fate → List Layer → Type 0
EachFate space levels fates layers = (n : ℕ) (l : Level) (fate : Fate) → slice_get levels n ≡ Some l → slice_get fates n ≡ Some fate → IsFate space layers l fate

pub record AreFates (space : List ℕ) (levels : List Level) (fates : List Fate) : Type 0 where
  pub as_many : length fates ≡ length levels
  pub right : IsStale space levels → EachFate space levels fates (shown_all levels)

-- What is left

-- of one space
abbrev pub left_as : Fate → Level → List Level
left_as Stays l = l ∷ []
left_as Gone l = []
left_as Fails l = fallen l ∷ []
left_as (Sees seen) l = seeing seen l ∷ []
left_as Bare l = l ∷ []

-- where the space at a place has its fate
abbrev pub with_fate : ℕ → Fate → List Level → List Level
with_fate n fate [] = []
with_fate zero fate (l ∷ ls) = left_as fate l ++ ls
with_fate (suc n) fate (l ∷ ls) = l ∷ with_fate n fate ls

-- and where each has
abbrev pub with_fates : List Fate → List Level → List Level
with_fates [] ls = ls
with_fates (fate ∷ fates) [] = []
with_fates (fate ∷ fates) (l ∷ ls) = left_as fate l ++ with_fates fates ls
