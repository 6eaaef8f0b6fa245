use Rattle.std.proofs.Common.{rules, sym, ◌∙◌, FitsSigned, to_z-of_z}
use Rattle.std.specs.Int.{w128}
use Rattle.best_search.proofs.EntryLaws.{least_solved}
use Rattle.best_search.proofs.ending.best_in.Goals as goal

pub solution-requires : goal.solution-requires
solution-requires c =
    let fits : FitsSigned w128 c.in-Some.cost = search rules in
    rw (to_z-of_z fits) (least_solved c.args.entries.now c.in-Some.cost (sym c.best_of.ensures ∙ c.in-Some.is))
