-- The alternatives that a distributor offers to its space (distribution, CTM 12.4; Schulte, LNCS 2302, chapter 2).
use Rattle.std.specs.Prelude.{◌≡◌, ℕ, List, ◌++◌, Option, Some, None}
use Rattle.oz_base.specs.declared.names.Ident.{Ident}
use Rattle.oz_base.specs.declared.distribution.Split.{Split}
use Rattle.oz_domains.specs.Domains.{intervals_of, whole}
use Rattle.oz_domains.specs.Positions.{domain}
use Rattle.oz_domains.specs.Splits.{first_part, second_part}
use Rattle.oz_semantics.specs.Store.{View}
use Rattle.oz_semantics.specs.Inputs.{Known}
use Rattle.oz_semantics.specs.Distributors as machine
use Rattle.oz_semantics.specs.Distributors.{undetermined, distribution_of}
use Rattle.oz_semantics.specs.Builtins.{interval_news}
use Rattle.oz_semantics.specs.declared.value.Tell.{Tell}
use Rattle.oz_semantics.specs.declared.value.Tell.TheVariants.{Within}
use Rattle.fd_problems.specs.declared.problem.Distribution.{Distribution}
use Rattle.fd_stores.specs.Stores.{Store}
use Rattle.fd_stores.specs.Choices.{split_variable}
use Rattle.fd_views.specs.Views.{variable_at, variables_at, HaveDomains, StandsFor, OnlyDomains}

-- the basic constraint of the first alternative: the variable that is split is in the first part of its domain
abbrev pub first_tell : List Ident → Distribution → Store → Split → Tell
first_tell xs d s p = Within (variable_at xs (split_variable d p)) (intervals_of (first_part p.test (domain s (split_variable d p))))

-- and that of the second alternative: it is in the other part
abbrev pub second_tell : List Ident → Distribution → Store → Split → Tell
second_tell xs d s p = Within (variable_at xs (split_variable d p)) (intervals_of (second_part p.test (domain s (split_variable d p))))

-- what a distributor does by the split that its rule takes: it offers the two alternatives, and is finished where all its variables are
-- determined
abbrev pub offer_of : View → List Ident → Distribution → Store → Option Split → machine.Distribution
offer_of view xs d s None = machine.Finished
offer_of view xs d s (Some p) = machine.Splits (first_tell xs d s p) (second_tell xs d s p) (undetermined view (variables_at xs d.over))

-- a distributor of which some variables have no domain yet: it tells these all domain values first, and that leaves the store as it is
pub record WidensFirst (view : View) (xs : List Ident) (s : Store) (d : Distribution) : Type 0 where
  pub bare : List ℕ
  pub widens : distribution_of view d.rule (variables_at xs d.over) ≡ Known (machine.Widens (variables_at xs bare))
  pub stays : StandsFor (view ++ interval_news view (variables_at xs bare) whole) xs s
  pub only : OnlyDomains (interval_news view (variables_at xs bare) whole)
  pub have : HaveDomains (view ++ interval_news view (variables_at xs bare) whole) (variables_at xs d.over)
