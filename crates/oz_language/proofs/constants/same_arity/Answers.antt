use Rattle.std.proofs.Common.{◌≡◌, ◌∙◌, ◌==◌, false, length, sym, arith, rules, tests}
use Rattle.std.proofs.lemmas.Bool.Decides.{nat_tests}
use Rattle.std.proofs.lemmas.Iterator.{YieldsList-from_slice, YieldsList-from_zip}
use Rattle.std.proofs.lemmas.Iterator.Search.{all_from_yields_List}
use Rattle.oz_language.specs.Constants.{constant_eq}
use Rattle.oz_language.specs.declared.kernel.Constant.{Constant}
use Rattle.oz_language.proofs.ArityLaws.{arity_of_pairs, arity_apart}
use Rattle.oz_language.proofs.constants.same_arity.Goals as goal

pub returns-then-left-right : goal.returns-then-left-right
returns-then-left-right c =
    all_from_yields_List (λ (p : Constant × Constant). constant_eq p.0 p.1) c.all.new.self _ _ c.all.ensures.ran
    (YieldsList-from_zip (YieldsList-from_slice c.args.left.now cc) (YieldsList-from_slice c.args.right.now cc)) (λ x b q k. search (rules, tests))
    ∙ arity_of_pairs c.args.left.now c.args.right.now c.if-left-right.true

pub returns-else-left-right : goal.returns-else-left-right
returns-else-left-right c =
    let apart : (length c.args.left.now == length c.args.right.now) ≡ false = grind (arith, nat_tests, c.if-left-right.false) in
    apart ∙ sym (arity_apart c.args.left.now c.args.right.now c.if-left-right.false)
