use Rattle.std.proofs.Common.{sym, ap, ◌∙◌}
use Rattle.oz_language.specs.Grammar.{of_list}
use Rattle.oz_language.specs.Refusals.{declaring}
use Rattle.oz_syntax.specs.View.{views}
use Rattle.oz_scope.proofs.Naming.{declaring_last}
use Rattle.oz_scope.proofs.names.declare.Goals as goal

pub phrases-preserved : goal.phrases-preserved
phrases-preserved c =
    ap (declaring (of_list (views c.in-Some.others.now))) c.in_ok-declare_one.ensures
    ∙ sym (declaring_last c.in-Some.others.now c.in-Some.last.now c.phrases.scope)
    ∙ ap (λ ps. declaring (of_list (views ps)) c.phrases.scope) (sym c.in-Some.ensures.cases.0)
    ∙ c.phrases.invariant
