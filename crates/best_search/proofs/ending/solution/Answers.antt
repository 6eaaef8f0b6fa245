use Rattle.std.proofs.Common.{rules, FitsSigned, to_z-of_z}
use Rattle.std.specs.Int.{w128}
use Rattle.best_search.proofs.EntryLaws.{left_after, found_first}
use Rattle.best_search.proofs.ending.solution.Goals as goal

pub returns-in-Some-text_in : goal.returns-in-Some-text_in
returns-in-Some-text_in c =
    let fits : FitsSigned w128 c.args.cost = search rules in
    let left = rw (to_z-of_z fits) at c.entries.invariant in
    let is = rw (to_z-of_z fits) at c.in-Some-text_in.ensures.some in
    found_first c.args.entries.now c.entries.rest.now c.in-Some.further.now c.args.cost c.in-Some.entry.now c.in-Some-text_in.text.now c.copied.result c.in-Some.ensures.cases.0 is left c.copied.ensures

pub entries-preserved : goal.entries-preserved
entries-preserved c =
    let fits : FitsSigned w128 c.args.cost = search rules in
    let left = rw (to_z-of_z fits) at c.entries.invariant in
    let not = rw (to_z-of_z fits) at c.in_default-text_in.ensures.none in
    rw (to_z-of_z fits) (left_after c.args.entries.now c.entries.rest.now c.in-Some.further.now c.args.cost c.in-Some.entry.now c.in-Some.ensures.cases.0 not left)
