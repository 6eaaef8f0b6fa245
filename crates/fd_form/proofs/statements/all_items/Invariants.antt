use Rattle.std.proofs.Common.{◌≡◌, drop}
use Rattle.oz_language.specs.Grammar.{of_list}
use Rattle.oz_syntax.specs.View.{views}
use Rattle.fd_form.specs.Steps.{all_items}
use Rattle.fd_form.proofs.EachLaws.{behind}
use Rattle.fd_form.proofs.statements.all_items.Given as goal

abbrev pub invariant-statements : goal.invariant-statements
invariant-statements l =
    all_items l.fn.root l.variables (of_list (views l.statements))
    ≡ behind l.items (all_items l.fn.root l.variables (of_list (views (drop l.statement-index l.statements))))
