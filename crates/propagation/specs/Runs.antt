-- What the code's answers say of runs.
use Rattle.std.specs.Prelude.{◌≡◌, Bool, true, false, List, [], ◌∷◌, ◌++◌, Some}
use Rattle.oz_base.specs.declared.names.Ident.{Ident}
use Rattle.oz_domains.specs.Domains.{IntSet}
use Rattle.oz_semantics.specs.Propagation.{Run, Fails, Narrows}
use Rattle.oz_semantics.specs.Store.{domain_of, is_consistent}
use Rattle.oz_semantics.specs.declared.value.Tell.{Tell}
use Rattle.propagation.specs.declared.runs.Run as runs
use Rattle.propagation.specs.declared.runs.Run.TheVariants as run

abbrev pub run_as : runs.Run → Run
run_as run.Fails = Fails
run_as (run.Narrows tells) = Narrows tells.items

-- each variable has its domain
abbrev pub AreDomainsOf : List Tell → List Ident → List IntSet → Type 0
AreDomainsOf view [] [] = Unit {0}
AreDomainsOf view (x ∷ xs) (d ∷ ds) = (domain_of view x ≡ Some d) × AreDomainsOf view xs ds
AreDomainsOf view [] (d ∷ ds) = ⊥
AreDomainsOf view (x ∷ xs) [] = ⊥

-- a store was told this, or it is inconsistent with what was told before
abbrev pub IsOneTold : List Tell → List Tell → Tell → Bool → Type 0
IsOneTold old new t true = (new ≡ old ++ t ∷ []) × (is_consistent new ≡ true)
IsOneTold old new t false = is_consistent (old ++ t ∷ []) ≡ false
