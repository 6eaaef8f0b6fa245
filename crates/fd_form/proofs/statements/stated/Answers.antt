use Rattle.std.proofs.Common.{◌≡◌, ap, ◌∙◌}
use Rattle.oz_language.specs.Grammar.{of_list}
use Rattle.oz_syntax.specs.View.{view, views}
use Rattle.fd_form.specs.FdScripts.{distribution_of, stated}
use Rattle.fd_form.specs.Parts.{both}
use Rattle.fd_form.specs.Steps.{all_items}
use Rattle.fd_form.proofs.StatedLaws.{stated_last}
use Rattle.fd_form.proofs.statements.stated.Goals as goal

pub returns-in-Some : goal.returns-in-Some
returns-in-Some c =
    let root = c.args.root in
    let vs = c.args.variables.now in
    let parts : stated root vs (of_list (views c.args.statements.now))
    ≡ both (all_items root vs (of_list (views c.in-Some.others.now))) (distribution_of root vs (view c.in-Some.last.now)) =
    ap (λ ps. stated root vs (of_list (views ps))) c.in-Some.ensures.cases.0 ∙ stated_last root vs c.in-Some.others.now c.in-Some.last.now in
    rw parts c.distributed.ensures
