-- The laws of runs of propagators, and of the splits of distributors (propagation and distribution, CTM 12.1, 12.3; Schulte, LNCS 2302,
-- chapter 2; Apt, Principles of Constraint Programming, chapter 7).
use Rattle.std.specs.Prelude.{◌≡◌, ◌⊎◌, ◌↔◌, ℕ, ◌+◌, ◌<◌, ◌≤◌, ℤ, true, false, List, length, map, Contains, All, Some, None, IsSomeAnd, IfSome, MatchOption}
use Rattle.oz_base.specs.declared.distribution.Rule.TheVariants.{Naive}
use Rattle.oz_base.specs.declared.distribution.Split.{Split}
use Rattle.oz_domains.specs.Domains.{IntSet, Has, least}
use Rattle.oz_domains.specs.Positions.{domain, IsIn, AreParts, AreDomains, all_single}
use Rattle.fd_problems.specs.declared.problem.Distribution.{Distribution}
use Rattle.fd_problems.specs.Problems.{IsLeft, values_at}
use Rattle.fd_stores.specs.Stores.{Store, Constraint, variables, domains_at, meets, IsOver, Solves, Remains, told, run, Runs, Fails, Rests, Changes, total, settled}
use Rattle.fd_stores.specs.Choices.{choice, first_store, second_store}

-- domains, and constraints over their variables
pub record AreOver (cs : List Constraint) (s : Store) : Type 0 where
  pub domains : AreDomains s
  pub over : (c : Constraint) → Contains cs c → IsOver (length s) c

-- ---- one run

-- what is told to the positions leaves each variable exactly the values that are left to it, and fails exactly where a
-- variable has none: so the order of the positions does not matter
pub record TellsTo (xs : List ℕ) (ds : List IntSet) (s m : Store) : Type 0 where
  pub long : length m ≡ length s
  pub remain : (x : ℕ) (q : ℤ) → Has (domain m x) q ↔ Remains xs ds s x q

-- and this holds of all positions within the store
abbrev pub TellsLaw : Type 0
TellsLaw = (xs : List ℕ) (ds : List IntSet) (s : Store) → All (λ x. x < length s) xs → length ds ≡ length xs
    → MatchOption (told xs ds s) ((x : ℕ) × Contains xs x × ((q : ℤ) → Remains xs ds s x q → ⊥)) (TellsTo xs ds s)

-- it loses no tuple that meets the constraint
abbrev pub KeepsLaw : Type 0
KeepsLaw = (c : Constraint) (s : Store) (t : List ℤ) → IsOver (length s) c → AreDomains s → IsIn s t → meets c t ≡ true → IsSomeAnd (run c s) (λ m. IsIn m t)

-- it adds none, and no domain becomes empty
abbrev pub ShrinksLaw : Type 0
ShrinksLaw = (c : Constraint) (s : Store) → IsOver (length s) c → AreDomains s → IfSome (run c s) (λ m. AreParts m s × AreDomains m)

-- where its variables are determined, it fails exactly where their values do not meet the constraint
abbrev pub DecidesLaw : Type 0
DecidesLaw = (c : Constraint) (s : Store) → IsOver (length s) c → AreDomains s → all_single (domains_at s (variables c)) ≡ true
    → (run c s ≡ None) ↔ (meets c (map least s) ≡ false)

-- ---- runs in any order

-- they keep exactly the solutions
abbrev pub RunsLaw : Type 0
RunsLaw = (cs : List Constraint) (s m : Store) → AreOver cs s → Runs cs s m → AreOver cs m × AreParts m s × ((t : List ℤ) → Solves cs s t ↔ Solves cs m t)

-- where one fails, there is no solution
abbrev pub FailsLaw : Type 0
FailsLaw = (cs : List Constraint) (s : Store) → AreOver cs s → Fails cs s → (t : List ℤ) → Solves cs s t → ⊥

-- no more runs change something than there are values
abbrev pub ChangesLaw : Type 0
ChangesLaw = (cs : List Constraint) (n : ℕ) (s m : Store) → AreOver cs s → Changes cs n s m → n + total m ≤ total s

-- so that runs end: in failure, or where nothing is due
abbrev pub SettledLaw : Type 0
SettledLaw = (cs : List Constraint) (s : Store) → AreOver cs s → MatchOption (settled cs s) (Fails cs s) (Rests cs s)

-- ---- a split

-- each solution is one of exactly one alternative, and each alternative has fewer values
pub record AreAlternatives (cs : List Constraint) (s a b : Store) : Type 0 where
  pub cover : (t : List ℤ) → Solves cs s t ↔ (Solves cs a t ⊎ Solves cs b t)
  pub disjoint : (t : List ℤ) → Solves cs a t → Solves cs b t → ⊥
  pub first : AreOver cs a × AreParts a s × (total a < total s)
  pub second : AreOver cs b × AreParts b s × (total b < total s)

-- and these are the alternatives of each split that a rule takes
abbrev pub SplitLaw : Type 0
SplitLaw = (cs : List Constraint) (d : Distribution) (s : Store) (p : Split) → AreOver cs s → All (λ x. x < length s) d.over → choice d s ≡ Some p
    → IsSomeAnd (first_store d p s) (λ a. IsSomeAnd (second_store d p s) (AreAlternatives cs s a))

-- for `naive` each tuple of the first alternative is left of each tuple of the second
abbrev pub NaiveLaw : Type 0
NaiveLaw = (d : Distribution) (s a b : Store) (p : Split) → AreDomains s → All (λ x. x < length s) d.over → d.rule ≡ Naive → choice d s ≡ Some p
    → first_store d p s ≡ Some a → second_store d p s ≡ Some b → (t u : List ℤ) → IsIn a t → IsIn b u → IsLeft (values_at t d.over) (values_at u d.over)
