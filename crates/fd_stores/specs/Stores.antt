-- The store of a search over finite domains, the constraints on it, and the runs that cut its domains (CTM chapter 12; Schulte,
-- LNCS 2302, chapter 4; Apt, Principles of Constraint Programming, chapter 7).
use Rattle.std.specs.Prelude.{◌≡◌, ◌≢◌, ℕ, zero, suc, ◌+◌, ◌<◌, nat_lt, ℤ, Bool, true, List, [], ◌∷◌, length, map, slice_index_or, Contains, All, Option, Some, None, if◌then◌else◌, option_and_then}
use Rattle.std.specs.FinSet as set
use Rattle.oz_base.specs.declared.relation.Relation.{Relation}
use Rattle.oz_domains.specs.Domains.{IntSet, Has}
use Rattle.oz_domains.specs.Positions.{domain, value, IsIn}
use Rattle.oz_domains.specs.Relations.{allowed, Fits}
use Rattle.oz_domains.specs.Passes.{keep, pass}
use Rattle.fd_problems.specs.Problems.{values_at}

-- the domains of the variables 0, 1, ..
abbrev pub Store : Type 0
Store = List IntSet

-- a relation is posted over variables, of which one may stand at several positions; or a variable is told to be in a set
pub data Constraint : Type 0 where
  Posted : Relation → List ℕ → Constraint
  Told : ℕ → IntSet → Constraint

-- the variables of its positions
abbrev pub variables : Constraint → List ℕ
variables (Posted r xs) = xs
variables (Told x d) = x ∷ []

-- the domains of the positions
abbrev pub domains_at : Store → List ℕ → List IntSet
domains_at s xs = map (domain s) xs

-- whether a tuple of values for all variables meets it
abbrev pub meets : Constraint → List ℤ → Bool
meets (Posted r xs) t = allowed r (values_at t xs)
meets (Told x d) t = set.contains d (value t x)

-- a constraint over n variables
abbrev pub IsOver : ℕ → Constraint → Type 0
IsOver n (Posted r xs) = Fits r (length xs) × All (λ x. x < n) xs
IsOver n (Told x d) = x < n

-- a value for each variable, in its domain, that meets all constraints
pub record Solves (cs : List Constraint) (s : Store) (t : List ℤ) : Type 0 where
  pub inside : IsIn s t
  pub met : (c : Constraint) → Contains cs c → meets c t ≡ true

-- ---- a run

-- each variable in turn keeps the values that the domain for its position has; None where one keeps none
unfoldable pub told : List ℕ → List IntSet → Store → Option Store
told [] ds s = Some s
told (x ∷ xs) [] s = Some s
told (x ∷ xs) (d ∷ ds) s = option_and_then (told xs ds) (keep x (set.contains d) s)

-- what that leaves to a variable: its values that the domain for each of its positions has
abbrev pub Remains : List ℕ → List IntSet → Store → ℕ → ℤ → Type 0
Remains xs ds s x q = Has (domain s x) q × ((i : ℕ) → i < length xs → slice_index_or xs i 0 ≡ x → Has (domain ds i) q)

-- a propagator takes the domains of its positions, makes one pass, and tells what is left; None is failure
abbrev pub run : Constraint → Store → Option Store
run (Posted r xs) s = option_and_then (λ ds. told xs ds s) (pass r (domains_at s xs))
run (Told x d) s = keep x (set.contains d) s

-- ---- runs in any order

-- from one store to another by runs of these constraints
pub data Runs (cs : List Constraint) : Store → Store → Type 0 where
  none : {s : Store} → Runs cs s s
  more : {s m e : Store} (c : Constraint) → Contains cs c → run c s ≡ Some m → Runs cs m e → Runs cs s e

-- runs that lead to one that fails
pub record Fails (cs : List Constraint) (s : Store) : Type 0 where
  pub before : Store
  pub runs : Runs cs s before
  pub constraint : Constraint
  pub among : Contains cs constraint
  pub fails : run constraint before ≡ None

-- nothing is due: each run leaves the store as it is
abbrev pub AtRest : List Constraint → Store → Type 0
AtRest cs s = (c : Constraint) → Contains cs c → run c s ≡ Some s

-- runs to a store where nothing is due
pub record Rests (cs : List Constraint) (s m : Store) : Type 0 where
  pub runs : Runs cs s m
  pub rest : AtRest cs m

-- a number of runs, each of which changes the store
pub data Changes (cs : List Constraint) : ℕ → Store → Store → Type 0 where
  nothing : {s : Store} → Changes cs 0 s s
  another : {n : ℕ} {s m e : Store} (c : Constraint) → Contains cs c → run c s ≡ Some m → m ≢ s → Changes cs n m e → Changes cs (suc n) s e

-- how many values all domains have
abbrev pub total : Store → ℕ
total [] = 0
total (d ∷ s) = set.len d + total s

-- ---- one order: the first run that fails or changes something

-- a run fails, or changes the store, or nothing is due
pub data Next : Type 0 where
  Failing : Next
  Changed : Store → Next
  Resting : Next

-- what a run did to s, or else what comes later
abbrev pub next_by : Option Store → Store → Next → Next
next_by None s later = Failing
next_by (Some m) s later = if nat_lt (total m) (total s) then Changed m else later

-- the first run that does not leave the store as it is
abbrev pub next : List Constraint → Store → Next
next [] s = Resting
next (c ∷ cs) s = next_by (run c s) s (next cs s)

-- where it changed the store, again from there
abbrev pub after : (Store → Option Store) → Store → Next → Option Store
after again s Failing = None
after again s (Changed m) = again m
after again s Resting = Some s

-- at most n such runs
unfoldable pub settle : ℕ → List Constraint → Store → Option Store
settle zero cs s = Some s
settle (suc n) cs s = after (settle n cs) s (next cs s)

-- until nothing is due: each run leaves fewer values, so that there are never more runs than values
abbrev pub settled : List Constraint → Store → Option Store
settled cs s = settle (suc (total s)) cs s
