use Rattle.std.proofs.Common.{is_some, sym, ap, ◌∙◌}
use Rattle.space_core.proofs.SpaceEditLaws.{has_child_by, there_position}
use Rattle.space_core.proofs.levels.Levels.has_child.Goals as goal

pub returns-in-Some-clause-child : goal.returns-in-Some-clause-child
returns-in-Some-clause-child c = λ e.
    has_child_by c.args.self.now c.args.parent.now c.args.child.now (sym c.is_child.ensures ∙ c.if-not-is_child.false) (ap is_some (sym c.in-Some.ensures))
    (ap is_some (sym c.place-in-Some.ensures) ∙ sym c.is_some.ensures ∙ e)

pub returns-in-Some-clause-all : goal.returns-in-Some-clause-all
returns-in-Some-clause-all c = λ h. c.is_some.ensures ∙ ap is_some c.place-in-Some.ensures ∙ there_position c.args.self.now c.args.child.now h.child_there

pub returns-in-None-clause-all : goal.returns-in-None-clause-all
returns-in-None-clause-all c = λ h. ap is_some c.in-None.ensures ∙ there_position c.args.self.now c.args.parent.now h.parent_there
