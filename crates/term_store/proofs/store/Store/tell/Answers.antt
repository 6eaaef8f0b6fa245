use Rattle.std.proofs.Common.{◌≡◌, [], length, subst, rules}
use Rattle.term_store.specs.Closing.{Going}
use Rattle.term_store.proofs.SequenceLaws.{told_empty}
use Rattle.term_store.proofs.store.Store.tell.Goals as goal

pub returns-then-is_empty-clause-told : goal.returns-then-is_empty-clause-told
returns-then-is_empty-clause-told c =
    let none : length c.args.tells.now ≡ 0 = search rules in
    told_empty c.args.self.now c.args.tells.now c.self.inside.classes (subst (λ ts. Going ts c.self.inside.classes []) c.self.view_is c.self.invariant) none c.args.touched.now.items
