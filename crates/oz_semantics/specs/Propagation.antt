-- Propagators (CTM 12.3.1, 12.4.5; Schulte 2): relations that were posted. Each keeps what domains its last run saw, and is due where
-- they have changed since. A run makes one pass over the domains of its variables, and tells the store what is left of them.
use Rattle.std.specs.Prelude.{Bool, true, false, not, ◌&&◌, if◌then◌else◌, List, [], ◌∷◌, ◌++◌, Option, Some, None, map, unwrap_or}
use Rattle.std.specs.List.{list_any, zip}
use Rattle.std.specs.FinSet as set
use Rattle.oz_base.specs.Lists.{edit_first}
use Rattle.oz_base.specs.declared.names.Ident.{Ident}
use Rattle.oz_base.specs.declared.interval.Interval.{Interval}
use Rattle.oz_base.specs.declared.relation.Relation.{Relation}
use Rattle.oz_domains.specs.Domains.{IntSet, intervals_of, intervals_eq}
use Rattle.oz_semantics.specs.Store.{View, domain_of, is_determined, is_consistent, news}
use Rattle.oz_domains.specs.Passes.{pass}
use Rattle.oz_semantics.specs.Configurations.{telling}
use Rattle.oz_semantics.specs.declared.value.Tell.{Tell}
use Rattle.oz_semantics.specs.declared.value.Tell.TheVariants.{Within}
use Rattle.oz_semantics.specs.declared.configuration.LastRun.{LastRun}
use Rattle.oz_semantics.specs.declared.configuration.LastRun.TheVariants.{Never, Saw}
use Rattle.oz_semantics.specs.declared.configuration.Propagator.{Propagator}
use Rattle.oz_semantics.specs.declared.configuration.Layer.{Layer}

-- what a propagator sees

-- the domain of a variable; the variables of a propagator have one, while their space is consistent
abbrev pub domain_in : View → Ident → IntSet
domain_in view x = unwrap_or (domain_of view x) set.empty

-- the domains of variables, each as its intervals
abbrev pub noted : View → List Ident → List (List Interval)
noted view xs = map (λ x. intervals_of (domain_in view x)) xs

abbrev pub all_eq : List (List Interval) → List (List Interval) → Bool
all_eq [] [] = true
all_eq (d ∷ ds) (e ∷ es) = intervals_eq d e && all_eq ds es
all_eq [] (e ∷ es) = false
all_eq (d ∷ ds) [] = false

-- the last run saw these domains
abbrev pub saw : LastRun → List (List Interval) → Bool
saw Never now = false
saw (Saw ds) now = all_eq ds now

-- it has not run, or the domains of its variables differ from those at the start of its last run
abbrev pub is_due : View → Propagator → Bool
is_due view p = not (saw p.last (noted view p.variables))

-- a variable of it is not determined
abbrev pub is_undecided : View → Propagator → Bool
is_undecided view p = list_any (λ x. not (is_determined view x)) p.variables

-- a run

pub data Run : Type 0 where
  Fails : Run
  -- the domains that are told; none where it rests
  Narrows : View → Run

-- each of these variables has this domain
abbrev pub narrowed : List Ident → List IntSet → List Tell
narrowed xs ds = map (λ (p : Ident × IntSet). Within p.0 (intervals_of p.1)) (zip xs ds)

-- where two positions have one variable, their domains may have nothing in common
abbrev pub if_consistent : View → List Tell → Run
if_consistent view ts = if is_consistent (view ++ ts) then Narrows ts else Fails

abbrev pub after_pass : View → List Ident → Option (List IntSet) → Run
after_pass view xs None = Fails
after_pass view xs (Some ds) = if_consistent view (news view (narrowed xs ds))

-- what a run of the propagator comes to
abbrev pub run_of : View → Propagator → Run
run_of view p = after_pass view p.variables (pass p.relation (map (domain_in view) p.variables))

-- edits of a layer

-- one propagator more, which has not run
abbrev pub posting : Relation → List Ident → Layer → Layer
posting r xs l = record l { propagators = l.propagators ++ record { relation = r; variables = xs; last = Never } ∷ [] }

-- the last run of the first propagator that is due saw these domains
abbrev pub noting : View → List (List Interval) → Layer → Layer
noting view ds l = record l { propagators = edit_first (is_due view) (λ (p : Propagator). record p { last = Saw ds }) l.propagators }

-- a run of the first propagator of a layer that is due, in whose view it saw these domains and told this
abbrev pub after_run : View → Propagator → List Tell → Layer → Layer
after_run view p ts l = telling ts (noting view (noted view p.variables) l)
