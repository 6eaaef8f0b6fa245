use Rattle.std.proofs.Common.{◌≡◌, ◌<◌, length, arith, ◌∙◌}
use Rattle.std.proofs.lemmas.Bool.Decides.{nat_tests}
use Rattle.fd_inputs.proofs.PlaceLaws.{all_in_domain}
use Rattle.fd_inputs.proofs.OfferLaws.{any_none, any_some, offers}
use Rattle.fd_inputs.proofs.distribution.waited_for.Goals as goal

pub returns-then-is_empty : goal.returns-then-is_empty
returns-then-is_empty c rule =
    let none : length c.in_ok-waits.waits.items ≡ 0 = (let e = c.is_empty.ensures in let t = c.if-is_empty.true in let k = c.in_ok-waits.waits.ok in grind (arith, nat_tests)) in
    any_none c.in_ok-waits.waits.items none
    ∙ offers c.args.store.now rule c.args.xs.now c.in_ok-waits.waits.items (all_in_domain c.args.store.now c.args.xs.now c.requires.integers c.requires.domains) c.in_ok-waits.ensures

pub returns : goal.returns
returns c rule =
    let some : 0 < length c.in_ok-waits.waits.items = (let e = c.is_empty.ensures in let t = c.if-is_empty.false in let k = c.in_ok-waits.waits.ok in grind (arith, nat_tests)) in
    any_some c.in_ok-waits.waits.items some
    ∙ offers c.args.store.now rule c.args.xs.now c.in_ok-waits.waits.items (all_in_domain c.args.store.now c.args.xs.now c.requires.integers c.requires.domains) c.in_ok-waits.ensures
