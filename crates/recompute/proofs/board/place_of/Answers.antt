use Rattle.std.proofs.Common.{is_eq, ap, ◌∙◌, sym}
use Rattle.recompute.proofs.EntryLaws.{same_path, placed_there}
use Rattle.recompute.proofs.board.place_of.Goals as goal

pub returns-then-is_eq-clause-path : goal.returns-then-is_eq-clause-path
returns-then-is_eq-clause-path g c =
    let same = same_path g.T.Kind.SearchKind.search g.met.T.Kind.SearchKind.searches c.index-entries-at.result.choice c.args.path.now (ap is_eq (sym c.order.ensures) ∙ sym c.is_eq.ensures ∙ c.if-is_eq.true) in
    placed_there (λ entry. entry.choice) c.args.entries.now c.in-Ok.at c.index-entries-at.result c.args.path.now c.in-Ok.ensures c.index-entries-at.is same
