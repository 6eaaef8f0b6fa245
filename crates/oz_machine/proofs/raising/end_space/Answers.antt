use Rattle.std.proofs.Common.{◌∙◌, sym}
use Rattle.oz_machine.proofs.StepEdits.{empty_top}
use Rattle.oz_machine.proofs.raising.end_space.Goals as goal

pub end_top-requires : goal.end_top-requires
end_top-requires c = sym (empty_top c.args.id.now.space) ∙ sym c.is_top.ensures ∙ c.if-is_top.true

pub end_child-requires : goal.end_child-requires
end_child-requires c =
    record { head = c.requires.head; there = c.requires.there; child = sym (empty_top c.args.id.now.space) ∙ sym c.is_top.ensures ∙ c.if-is_top.false }
