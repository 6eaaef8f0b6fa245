use Rattle.std.proofs.Common.{◌≡◌, length, refl, rules}
use Rattle.term_store.proofs.ConsistencyLaws.{clash_nothing}
use Rattle.term_store.proofs.store.Store.tell_within.Goals as goal

pub returns-then-is_empty-clause-told : goal.returns-then-is_empty-clause-told
returns-then-is_empty-clause-told c =
    let none : length c.args.intervals.now ≡ 0 = search rules in
    (refl, clash_nothing c.args.self.now c.args.variable.now c.args.intervals.now none)
