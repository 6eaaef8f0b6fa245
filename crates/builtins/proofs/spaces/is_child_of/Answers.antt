use Rattle.std.proofs.Common.{◌∙◌, sym, ap}
use Rattle.oz_base.specs.Lists.{list_eq}
use Rattle.oz_semantics.specs.Names.{is_child_of}
use Rattle.builtins.proofs.NameLaws.{child_after}
use Rattle.builtins.proofs.spaces.is_child_of.Goals as goal

pub returns-in-Some : goal.returns-in-Some
returns-in-Some c =
    let space = c.args.space.now in
    let parent = c.in-Some.parent.now in
    c.same_numbers.ensures ∙ ap (list_eq parent) c.as_slice-in-Some.ensures ∙ sym (child_after space parent c.in-Some.field-0-0.now)
    ∙ ap (is_child_of space) (sym c.in-Some.ensures.cases.0 ∙ c.as_slice.ensures)
