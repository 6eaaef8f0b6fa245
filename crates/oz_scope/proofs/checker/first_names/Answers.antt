use Rattle.std.proofs.Common.{◌≡◌, ◌-◌, ◌∙◌, ap, arith}
use Rattle.oz_scope.specs.Declares.{numbers_from}
use Rattle.oz_scope.proofs.checker.first_names.Goals as goal

pub returns : goal.returns
returns c =
    let all : c.names.count ≡ 22 = omega (arith, c.names-test.false, c.names.auto.count-end) in
    c.names.invariant ∙ ap (λ n. numbers_from (22 - n) n) all
