use Rattle.std.proofs.Common.{sym, ap, ◌++◌, ◌∙◌}
use Rattle.fd_form.proofs.StatedLaws.{items_some}
use Rattle.fd_form.proofs.statements.all_items.Goals as goal

pub statements-preserved : goal.statements-preserved
statements-preserved c =
    items_some c.args.root c.args.variables.now _ c.statements.items _ c.in-Some.more c.args.statements.now c.statements.statement-index c.statement-item.result
    c.statements-test.true c.statement-item.is (sym c.in-Some.is ∙ c.in_ok-more.ensures)
    (c.in_ok-append.ensures ∙ ap (λ q. c.statements.items ++ q) c.into_vec.ensures) c.statements.invariant
