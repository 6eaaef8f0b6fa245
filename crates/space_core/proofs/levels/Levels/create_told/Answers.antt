use Rattle.space_core.proofs.SpaceEditLaws.{advanced_by, create_clash, create_there, create_done}
use Rattle.space_core.proofs.levels.Levels.create_told.Goals as goal

pub returns-then-not-branch-clause-told : goal.returns-then-not-branch-clause-told
returns-then-not-branch-clause-told c =
    create_clash c.args.id.now c.args.self.now c.requires c.args.procedure c.args.variable c.in_ok-child.child c.in_ok-tells.tells.items c.in_ok-child.ensures c.in_ok-tells.ensures c.tell_by.new.self
    (advanced_by c.args.id.now c.tell_by.new.self c.in_ok-levels.ensures c.as_slice.ensures.value c.if-not-branch.true c.in_ok-tell_by.ensures.told)

pub create-requires : goal.create-requires
create-requires c =
    create_there c.args.id.now c.args.self.now c.requires c.args.procedure c.args.variable c.in_ok-child.child c.in_ok-tells.tells.items c.in_ok-child.ensures c.in_ok-tells.ensures c.tell_by.new.self
    (advanced_by c.args.id.now c.tell_by.new.self c.in_ok-levels.ensures c.as_slice.ensures.value c.if-not-branch.false c.in_ok-tell_by.ensures.told)

pub returns-clause-told : goal.returns-clause-told
returns-clause-told c =
    create_done c.args.id.now c.args.self.now c.requires c.args.procedure c.args.variable c.in_ok-child.child c.in_ok-tells.tells.items c.in_ok-child.ensures c.in_ok-tells.ensures
    c.is_tree.ensures c.tell_by.new.self c.create.new.self
    (advanced_by c.args.id.now c.tell_by.new.self c.in_ok-levels.ensures c.as_slice.ensures.value c.if-not-branch.false c.in_ok-tell_by.ensures.told) c.in_ok-_child.ensures.ok
