-- Where a best search starts, and the tree that it goes through (branch and bound: Schulte, LNCS 2302, on search).
use Rattle.oz_language.specs.declared.kernel.Constant.{Constant}
use Rattle.oz_language.specs.declared.kernel.Constant.TheVariants as constant
use Rattle.oz_language.specs.declared.token.Literal.TheVariants as literal
use Rattle.oz_search.specs.Nodes.{Maker, Fuelled}
use Rattle.oz_search.specs.declared.best.Bounded.{Bounded}
use Rattle.oz_search.specs.declared.best.Costed.{Costed}
use Rattle.oz_semantics.specs.BestSearch.{best_maker, best_tree}
use Rattle.oz_semantics.specs.declared.configuration.Configuration.{Configuration}
use Rattle.recompute.specs.Origins.{Origin, nowhere}

-- where the search starts, and the feature at which the root variable has the cost
pub record BestOrigin : Type 0 where
  pub start : Origin
  pub feature : Constant

abbrev pub best_origin : Origin → Constant → BestOrigin
best_origin start feature = record { start = start; feature = feature }

-- that of no program
abbrev pub best_nowhere : BestOrigin
best_nowhere = best_origin nowhere (constant.Literal literal.Unit)

-- how its nodes are made
abbrev pub best_maker_of : BestOrigin → Maker Bounded Costed Configuration
best_maker_of o = best_maker o.start.kernel o.start.space o.feature

-- the tree below the root, as far as each node takes no more steps than there is fuel
abbrev pub best_tree_of : BestOrigin → Fuelled Bounded Costed
best_tree_of o = best_tree o.start.kernel o.start.space o.feature o.start.config
