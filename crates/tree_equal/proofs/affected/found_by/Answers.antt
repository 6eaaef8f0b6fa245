use Rattle.std.proofs.Common.{◌∷◌, [], ap}
use Rattle.oz_semantics.specs.declared.value.Tell.{Tell}
use Rattle.tree_equal.proofs.Telling.{clashes, waits}
use Rattle.tree_equal.proofs.affected.found_by.Goals as goal

pub returns-then-not-branch : goal.returns-then-not-branch
returns-then-not-branch c =
    clashes c.args.store.now c.args.copy.now c.tell.new.self (c.in_ok-equation.field-0 ∷ []) c.args.left.now c.args.right.now c.new-touched.result.items c.tell.new.touched.items c.requires
    (ap (λ (t : Tell). t ∷ []) c.in_ok-equation.ensures) (rw c.if-not-branch.true at c.in_ok-tell.ensures.told)

pub returns : goal.returns
returns c =
    waits c.args.store.now c.args.copy.now c.tell.new.self (c.in_ok-equation.field-0 ∷ []) c.args.left.now c.args.right.now c.new-touched.result.items c.tell.new.touched.items c.requires
    (ap (λ (t : Tell). t ∷ []) c.in_ok-equation.ensures) c.classes.result.now c.in_ok-waits.waits.items c.new-touched.ensures.items (rw c.if-not-branch.false at c.in_ok-tell.ensures.told) c.classes.ensures
    (rw c.as_slice.ensures.value at c.in_ok-waits.ensures)
