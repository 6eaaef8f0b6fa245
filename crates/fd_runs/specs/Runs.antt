-- Runs of propagators in a view, and the domains that they note (propagation, CTM 12.3; Schulte, LNCS 2302, chapter 2).
use Rattle.std.specs.Prelude.{◌≡◌, ℕ, List, map, ◌++◌, Option, Some, None}
use Rattle.oz_base.specs.declared.names.Ident.{Ident}
use Rattle.oz_base.specs.declared.interval.Interval.{Interval}
use Rattle.oz_domains.specs.Domains.{IntSet, union, between}
use Rattle.oz_semantics.specs.Store.{View}
use Rattle.oz_semantics.specs.Propagation.{Run, Fails, Narrows}
use Rattle.oz_semantics.specs.declared.value.Tell.{Tell}
use Rattle.oz_semantics.specs.declared.configuration.LastRun.{LastRun}
use Rattle.oz_semantics.specs.declared.configuration.LastRun.TheVariants.{Never, Saw}
use Rattle.fd_stores.specs.Stores.{Store}
use Rattle.fd_stores.specs.Notes.{Note}
use Rattle.fd_views.specs.Views.{StandsFor, OnlyDomains}

-- a run of a propagator fails where the run over the store fails, and else it narrows domains: it tells basic constraints with which the
-- view stands for the store that is left
abbrev pub RunsTo : View → List Ident → Option Store → Run → Type 0
RunsTo view xs None r = r ≡ Fails
RunsTo view xs (Some m) r = (ts : List Tell) × (r ≡ Narrows ts) × OnlyDomains ts × StandsFor (view ++ ts) xs m

-- the domain of the integers of an interval, once for each of these positions
abbrev pub each_between : Interval → List ℕ → List IntSet
each_between i is = map (λ x. between i.low i.high) is

-- the note of a propagator: the domains of its variables when its last run began, and none before the first run
abbrev pub note_of : LastRun → Note
note_of Never = None
note_of (Saw ds) = Some (map union ds)
