use Rattle.std.proofs.Common.{◌∙◌, sym}
use Rattle.oz_semantics.specs.Store.{same}
use Rattle.tree_equal.proofs.Lists.{noted}
use Rattle.tree_equal.proofs.affected.note.Goals as goal

pub returns-in_ok-insert : goal.returns-in_ok-insert
returns-in_ok-insert c = λ z.
    noted c.args.grown.now.keys c.insert.new.self.keys c.in_ok-copied.field-0 c.args.root.now z (same c.args.store.now c.args.variable.now c.args.root.now) c.in_ok-insert.ensures.keys c.in_ok-copied.ensures
    (sym c.same.ensures ∙ c.if-not-same.true)
