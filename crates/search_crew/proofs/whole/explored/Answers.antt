use Rattle.std.proofs.Common.{Contains, ap, subst, arith, ◌∙◌}
use Rattle.oz_search.specs.Histories.{History, IsLegal}
use Rattle.search_law.specs.Law.{HoldsTree, StopsRightly}
use Rattle.recompute.specs.Origins.{Origin}
use Rattle.search_crew.specs.Crews.{IsOver}
use Rattle.search_crew.proofs.CrewLaws.{carried}
use Rattle.search_crew.proofs.whole.explored.Goals as goal

pub returns-clause-over : goal.returns-clause-over
returns-clause-over g c =
    let k = g.T.Kind.SearchKind.search in
    carried (λ x b h. IsOver k h) _ _ _ _ _ _ (c.in_ok-pool.ensures.pool.0 ∙ c.in_ok-tag.ensures) (c.in_ok-pool.ensures.pool.1 ∙ c.budget.ensures.budget ∙ ap (λ (o : Origin). o.budget) c.frozen.ensures) c.close.ensures.entries c.explore_together-worker.ensures.over

pub returns-clause-legal : goal.returns-clause-legal
returns-clause-legal g c =
    let k = g.T.Kind.SearchKind.search in
    carried (λ x b h. IsLegal (g.T.Tree.within x) k b h) _ _ _ _ _ _ (c.in_ok-pool.ensures.pool.0 ∙ c.in_ok-tag.ensures) (c.in_ok-pool.ensures.pool.1 ∙ c.budget.ensures.budget ∙ ap (λ (o : Origin). o.budget) c.frozen.ensures) c.close.ensures.entries c.close.ensures.legal

pub returns-clause-among : goal.returns-clause-among
returns-clause-among g c e inside =
    let l = c.close.ensures.among _ e c.explore_together-worker.ensures.stands.0 (subst (λ (h : History g.row.T-Kind-Branch.Denot g.row.T-Kind-Leaf.Denot). Contains h e) c.close.ensures.entries inside) in
    omega (arith, l)

pub returns-clause-finished : goal.returns-clause-finished
returns-clause-finished g c =
    let k = g.T.Kind.SearchKind.search in
    carried (λ x b h. HoldsTree k (g.T.Kind.SearchKind.takes h) (g.T.Tree.within x b) b h) _ _ _ _ _ _ (c.in_ok-pool.ensures.pool.0 ∙ c.in_ok-tag.ensures) (c.in_ok-pool.ensures.pool.1 ∙ c.budget.ensures.budget ∙ ap (λ (o : Origin). o.budget) c.frozen.ensures) c.close.ensures.entries c.close.ensures.finished

pub returns-clause-spent : goal.returns-clause-spent
returns-clause-spent g c =
    let k = g.T.Kind.SearchKind.search in
    carried (λ x b h. StopsRightly k (g.T.Kind.SearchKind.takes h) (g.T.Tree.within x b) b h) _ _ _ _ _ _ (c.in_ok-pool.ensures.pool.0 ∙ c.in_ok-tag.ensures) (c.in_ok-pool.ensures.pool.1 ∙ c.budget.ensures.budget ∙ ap (λ (o : Origin). o.budget) c.frozen.ensures) c.close.ensures.entries c.close.ensures.spent
