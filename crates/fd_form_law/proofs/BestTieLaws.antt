-- What the best search of a script finds, from the tree that its nodes show.
use Rattle.std.proofs.Common.{arith}
use Rattle.oz_language.specs.Translation.{kernel_of}
use Rattle.oz_semantics.specs.Search.{script_variable, with_root, search_space}
use Rattle.oz_semantics.specs.BestSearch.{script_best}
use Rattle.machine_search.proofs.BestMakerLaws.{best_tree_law}
use Rattle.fd_form.specs.FdScripts.{answer_text}
use Rattle.fd_best.proofs.OptimumLaws.{optimum_law}
use Rattle.fd_form_law.specs.FdOptimality.{BestTieSuffices}
use Rattle.fd_form_law.proofs.CostLaws.{cost_within}
use Rattle.fd_form_law.proofs.ProgramLaws.{form_is_problem}
use Rattle.fd_form_law.proofs.ShapeLaws.{scripts_shaped}

pub best_tie_suffices : BestTieSuffices
best_tie_suffices tie text p s place feature budget left top h acc has ran legal open_none out_none =
    let w = tie text p s place feature budget left top acc has ran in
    let k = kernel_of p in
    let l = cost_within p.words s place has.cost in
    let count = (scripts_shaped p s has.script).count in
    optimum_law s.problem place (answer_text p.words s) (script_best k feature top) left w.tree h (form_is_problem p s acc.derived.program has.script) (omega (arith, l, count)) w.is_tree
    (best_tree_law k (search_space top) feature (with_root k.statements script_variable top)) (w.shows left) legal open_none out_none
