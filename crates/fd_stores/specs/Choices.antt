-- How a store is distributed: the split that a rule takes, and the stores of its two alternatives (Schulte, LNCS 2302, chapters 2
-- and 4; CTM chapter 12).
use Rattle.std.specs.Prelude.{ℕ, not, Option, slice_index_or}
use Rattle.oz_base.specs.declared.distribution.Split.{Split}
use Rattle.oz_domains.specs.Passes.{keep}
use Rattle.oz_domains.specs.Splits.{split_of, passes}
use Rattle.fd_problems.specs.declared.problem.Distribution.{Distribution}
use Rattle.fd_stores.specs.Stores.{Store, domains_at}

-- the split that the rule takes; None where all variables are determined
abbrev pub choice : Distribution → Store → Option Split
choice d s = split_of d.rule (domains_at s d.over)

-- the variable that is split
abbrev pub split_variable : Distribution → Split → ℕ
split_variable d p = slice_index_or d.over p.var 0

-- the store of the first alternative, and that of the second
abbrev pub first_store : Distribution → Split → Store → Option Store
first_store d p s = keep (split_variable d p) (passes p.test) s

abbrev pub second_store : Distribution → Split → Store → Option Store
second_store d p s = keep (split_variable d p) (λ v. not (passes p.test v)) s
