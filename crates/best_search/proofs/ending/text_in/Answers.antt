use Rattle.std.proofs.Common.{rules, subst, FitsSigned, to_z-of_z}
use Rattle.std.specs.Int.{w128}
use Rattle.best_search.specs.Found.{IsSolution}
use Rattle.best_search.proofs.EntryLaws.{leaf_only, none_by}
use Rattle.best_search.proofs.ending.text_in.Goals as goal

pub returns-in-Leaf-clause-none : goal.returns-in-Leaf-clause-none
returns-in-Leaf-clause-none c =
    let fits : FitsSigned w128 c.args.cost = search rules in
    none_by
    c.text_of.result
    (λ never text is. never text (leaf_only c.in-Leaf.worker c.in-Leaf.path c.in-Leaf.leaf c.in-Leaf.steps text c.args.cost (subst (IsSolution text c.args.cost) c.in-Leaf.is is)))
    (rw (to_z-of_z fits) at c.text_of.ensures.none)
