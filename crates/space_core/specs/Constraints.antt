-- The constraint store that a space sees and its propagators, and which of these are watched (CTM 12.3.1; Schulte, LNCS 2302, chapter 2).
use Rattle.std.specs.Prelude.{ℕ, ◌≡◌, ◌≤◌, false, true, List, ◌++◌, length, take}
use Rattle.oz_base.specs.declared.interval.Interval.{Interval}
use Rattle.oz_base.specs.declared.names.Ident.{Ident}
use Rattle.oz_laws.specs.Touched.{Touches}
use Rattle.oz_semantics.specs.Store.{is_consistent}
use Rattle.oz_semantics.specs.declared.configuration.LastRun.TheVariants.{Saw}
use Rattle.oz_semantics.specs.declared.configuration.Propagator.{Propagator}
use Rattle.oz_semantics.specs.declared.value.Tell.{Tell}
use Rattle.watching.specs.Watching.{Knows}
use Rattle.watching.specs.declared.watch.Watch.{Watch}

-- what contracts see: the store, and the propagators in the order in which they were posted
pub record Held : Type 0 where
  pub store : List Tell
  pub propagators : List Propagator

-- so many of the propagators, from the first on, are watched: of these it is known which may be due
pub record IsWatched (store : List Tell) (ps : List Propagator) (watch : Watch) (watched : ℕ) : Type 0 where
  pub within : watched ≤ length ps
  pub knows : Knows store (take watched ps) watch

-- the store was told this, which touches these variables
pub record IsStoreTold (ts : List Tell) (noted : List Ident) (old new : Held) : Type 0 where
  pub becomes : new ≡ record old { store = old.store ++ ts }
  pub consistent : is_consistent (old.store ++ ts) ≡ true
  pub touches : Touches old.store ts noted

-- it is inconsistent with what the store was told before, and nothing was done
pub record IsStoreClash (ts : List Tell) (old new : Held) : Type 0 where
  pub left : new ≡ old
  pub clash : is_consistent (old.store ++ ts) ≡ false

-- the last run of a propagator saw these domains
abbrev pub noting_last : List (List Interval) → Propagator → Propagator
noting_last ds p = record p { last = Saw ds }
