use Rattle.std.proofs.Common.{◌∙◌, sym}
use Rattle.oz_top.proofs.CostLaws.{of_parts, no_script, read_cost}
use Rattle.oz_top.proofs.answers.script_cost.Goals as goal

pub returns-in-None : goal.returns-in-None
returns-in-None c = no_script c.args.program.now (sym (of_parts c.args.program.now _ _ c.in_ok-fd_form.field-0 c.words.ensures c.phrase.ensures c.in_ok-fd_form.ensures) ∙ c.in-None.is)

pub returns-in-Some : goal.returns-in-Some
returns-in-Some c =
    read_cost c.args.program.now c.in-Some.script c.words-in-Some.result.now c.cost_of.result c.words-in-Some.ensures
    (sym (of_parts c.args.program.now _ _ c.in_ok-fd_form.field-0 c.words.ensures c.phrase.ensures c.in_ok-fd_form.ensures) ∙ c.in-Some.is)
    c.cost_of.ensures.some c.cost_of.ensures.none
