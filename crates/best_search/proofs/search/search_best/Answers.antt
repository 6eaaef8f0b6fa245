use Rattle.std.proofs.Common.{◌∙◌, ap}
use Rattle.recompute.specs.Origins.{Origin}
use Rattle.recompute.specs.Bests.{best_tree_of}
use Rattle.best_search.proofs.SearchLaws.{found_by}
use Rattle.best_search.proofs.search.search_best.Goals as goal

pub returns : goal.returns
returns g c =
    let o = c.args.source.now in
    let budget = c.budget-budget.ensures.budget ∙ ap (λ (x : Origin). x.budget) c.frozen.ensures in
    let ended = c.in_ok-ended.ensures in
    found_by (best_tree_of o) o.start.budget c.budget-budget.result c.args.workers c.in_ok-ended.ended.entries.items c.found_in.result budget ended.legal ended.among ended.over c.found_in.ensures.found
