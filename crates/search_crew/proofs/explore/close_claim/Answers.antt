use Rattle.std.proofs.Common.{sym, arith, ◌∙◌}
use Rattle.search_crew.proofs.EndLaws.{node_there, node_costs, short_there, refused_there}
use Rattle.search_crew.proofs.explore.close_claim.Goals as goal

pub settle-requires-clause-steps : goal.settle-requires-clause-steps
settle-requires-clause-steps g c =
    let k = g.T.Kind.SearchKind.search in
    let x = c.args.pool.now.tag in
    let costs = node_costs k (g.T.Source.maker x) (g.T.Source.origin x) c.args.pool.now.budget (g.T.Tree.within x c.args.pool.now.budget) (g.met.T.Source.grows x c.args.pool.now.budget) c.args.path (g.met.T.Source.makes x) c.in-Ok-Node.report (sym c.in-Ok-Node.field-0-is ∙ rw c.in-Ok-Node.is at c.requires.solved) in
    let fits = costs.1 in
    let small = c.requires.small in
    (costs.0, omega (arith, fits, small))

pub settle-requires-clause-node : goal.settle-requires-clause-node
settle-requires-clause-node g c =
    let k = g.T.Kind.SearchKind.search in
    let x = c.args.pool.now.tag in
    (c.args.pool.now.budget, node_there k (g.T.Source.maker x) (g.T.Source.origin x) c.args.pool.now.budget (g.T.Tree.within x c.args.pool.now.budget) (g.met.T.Source.grows x c.args.pool.now.budget) c.args.path c.in-Ok-Node.report (sym c.in-Ok-Node.field-0-is ∙ rw c.in-Ok-Node.is at c.requires.solved))

pub run_out-requires-clause-none : goal.run_out-requires-clause-none
run_out-requires-clause-none g c =
    let k = g.T.Kind.SearchKind.search in
    let x = c.args.pool.now.tag in
    short_there k (g.T.Source.maker x) (g.T.Source.origin x) c.args.pool.now.budget (g.T.Tree.within x c.args.pool.now.budget) (g.met.T.Source.grows x c.args.pool.now.budget) c.args.path c.in-Ok-OutOfFuel.field-0-0 (sym c.in-Ok-OutOfFuel.field-0-is ∙ rw c.in-Ok-OutOfFuel.is at c.requires.solved)

pub run_out-requires-in-Ok-NotANode-clause-none : goal.run_out-requires-in-Ok-NotANode-clause-none
run_out-requires-in-Ok-NotANode-clause-none g c =
    let k = g.T.Kind.SearchKind.search in
    let x = c.args.pool.now.tag in
    refused_there k (g.T.Source.maker x) (g.T.Source.origin x) c.args.pool.now.budget (g.T.Tree.within x c.args.pool.now.budget) (g.met.T.Source.grows x c.args.pool.now.budget) c.args.path c.in-Ok-NotANode.field-0-0 (sym c.in-Ok-NotANode.field-0-is ∙ rw c.in-Ok-NotANode.is at c.requires.solved)
