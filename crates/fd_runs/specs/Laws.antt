-- The laws of propagators and of distributors in views of a search (propagation and distribution, CTM 12.3, 12.4; Schulte, LNCS 2302,
-- chapter 2).
use Rattle.std.specs.Prelude.{◌≡◌, ◌⊎◌, ◌<◌, ℕ, false, List, [], ◌∷◌, ◌++◌, length, map, Contains, All, Some, MatchOption}
use Rattle.oz_base.specs.declared.names.Ident.{Ident}
use Rattle.oz_base.specs.declared.interval.Interval.{Interval}
use Rattle.oz_base.specs.declared.relation.Relation.{Relation}
use Rattle.oz_base.specs.declared.distribution.Split.{Split}
use Rattle.oz_domains.specs.Domains.{between, whole, intervals_of}
use Rattle.oz_domains.specs.Positions.{AreDomains}
use Rattle.oz_domains.specs.Relations.{Fits}
use Rattle.oz_semantics.specs.Store.{View}
use Rattle.oz_semantics.specs.Inputs.{Known}
use Rattle.oz_semantics.specs.Propagation.{noted, is_due, run_of}
use Rattle.oz_semantics.specs.Distributors.{distribution_of}
use Rattle.oz_semantics.specs.Builtins.{interval_news}
use Rattle.oz_semantics.specs.declared.configuration.LastRun.{LastRun}
use Rattle.oz_semantics.specs.declared.configuration.LastRun.TheVariants.{Saw}
use Rattle.fd_problems.specs.declared.problem.Distribution.{Distribution}
use Rattle.fd_stores.specs.Stores.{Store, Constraint, Posted, Told, domains_at, told, run, Runs, Fails}
use Rattle.fd_stores.specs.Choices.{choice, first_store, second_store}
use Rattle.fd_stores.specs.Notes.{IsNoted}
use Rattle.fd_views.specs.Views.{variables_at, AreDomainValues, HaveDomains, StandsFor, OnlyDomains, IsTold}
use Rattle.fd_runs.specs.Runs.{RunsTo, each_between, note_of}
use Rattle.fd_runs.specs.Offers.{first_tell, second_tell, offer_of, WidensFirst}

-- Runs

-- variables that are told one interval as their domain, as far as that is news: the store is cut as by these basic constraints, told one
-- after another
pub record ConfineLaw : Type 0 where
  pub confines : (view : View) (xs : List Ident) (s : Store) (is : List ℕ) (i : Interval) → StandsFor view xs s → AreDomains s → All (λ x. x < length xs) is
      → AreDomainValues (between i.low i.high) → OnlyDomains (interval_news view (variables_at xs is) i) × IsTold view xs (interval_news view (variables_at xs is) i) (told is (each_between i is) s)
  pub runs : (cs : List Constraint) (s : Store) (is : List ℕ) (i : Interval) → ((x : ℕ) → Contains is x → Contains cs (Told x (between i.low i.high)))
      → MatchOption (told is (each_between i is) s) (Fails cs s) (Runs cs s)

-- what precedes the post of a propagator: its variables are told all domain values, which leaves the store as it is, and makes them
-- finite-domain variables
pub record PostLaw (view : View) (xs : List Ident) (s : Store) (is : List ℕ) : Type 0 where
  pub stays : StandsFor (view ++ interval_news view (variables_at xs is) whole) xs s
  pub only : OnlyDomains (interval_news view (variables_at xs is) whole)
  pub have : HaveDomains (view ++ interval_news view (variables_at xs is) whole) (variables_at xs is)

-- and this holds of each propagator over variables of the search
abbrev pub PostsLaw : Type 0
PostsLaw = (view : View) (xs : List Ident) (s : Store) (is : List ℕ) → StandsFor view xs s → AreDomains s → All (λ x. x < length xs) is → PostLaw view xs s is

-- a run of a propagator in a view is its run over the store that the view stands for
abbrev pub RunLaw : Type 0
RunLaw = (view : View) (xs : List Ident) (s : Store) (r : Relation) (is : List ℕ) (last : LastRun) → StandsFor view xs s → AreDomains s → Fits r (length is)
    → All (λ x. x < length xs) is → HaveDomains view (variables_at xs is)
    → RunsTo view xs (run (Posted r is) s) (run_of view (record { relation = r; variables = variables_at xs is; last = last }))

-- a run notes the domains of the store; a propagator that is not due noted them, and one that noted them is not due
pub record NoteLaw (view : View) (xs : List Ident) (s : Store) (r : Relation) (is : List ℕ) : Type 0 where
  pub ran : note_of (Saw (noted view (variables_at xs is))) ≡ Some (domains_at s is)
  pub rests : (last : LastRun) → is_due view (record { relation = r; variables = variables_at xs is; last = last }) ≡ false → IsNoted (Posted r is) (note_of last) s
  pub noted_is : noted view (variables_at xs is) ≡ map intervals_of (domains_at s is)
  pub stays : (m : Store) → domains_at m is ≡ domains_at s is
      → is_due view (record { relation = r; variables = variables_at xs is; last = Saw (map intervals_of (domains_at m is)) }) ≡ false

-- and this holds of each propagator over finite-domain variables of the search
abbrev pub NotesLaw : Type 0
NotesLaw = (view : View) (xs : List Ident) (s : Store) (r : Relation) (is : List ℕ) → StandsFor view xs s → All (λ x. x < length xs) is → HaveDomains view (variables_at xs is)
    → NoteLaw view xs s r is

-- Distributors

-- where all its variables have domains, a distributor offers the parts of the split that the rule takes, and else it tells them all
-- domain values first
abbrev pub OfferLaw : Type 0
OfferLaw = (view : View) (xs : List Ident) (s : Store) (d : Distribution) → StandsFor view xs s → AreDomains s → All (λ x. x < length xs) d.over
    → (HaveDomains view (variables_at xs d.over) → distribution_of view d.rule (variables_at xs d.over) ≡ Known (offer_of view xs d s (choice d s)))
    × (HaveDomains view (variables_at xs d.over) ⊎ WidensFirst view xs s d)

-- where an alternative is told, the view stands for the store of that alternative of the split
pub record PartLaw (view : View) (xs : List Ident) (s : Store) (d : Distribution) (p : Split) : Type 0 where
  pub first : (a : Store) → first_store d p s ≡ Some a → StandsFor (view ++ first_tell xs d s p ∷ []) xs a
  pub second : (b : Store) → second_store d p s ≡ Some b → StandsFor (view ++ second_tell xs d s p ∷ []) xs b

-- and this holds of each split that the rule of a distributor takes
abbrev pub PartsLaw : Type 0
PartsLaw = (view : View) (xs : List Ident) (s : Store) (d : Distribution) (p : Split) → StandsFor view xs s → AreDomains s → All (λ x. x < length xs) d.over → choice d s ≡ Some p
    → PartLaw view xs s d p
