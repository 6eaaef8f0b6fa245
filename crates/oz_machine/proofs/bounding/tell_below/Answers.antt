use Rattle.std.proofs.Common.{◌≡◌, ◌∙◌, ◌<◌, List, length, sym, ap, subst, arith}
use Rattle.std.specs.Prelude.{OnOk}
use Rattle.std.proofs.lemmas.Bool.Decides.{nat_tests}
use Rattle.oz_base.specs.Lists.{is_empty}
use Rattle.oz_semantics.specs.BestSearch.{bound_tells}
use Rattle.oz_semantics.specs.Configurations.{in_layer, telling, view}
use Rattle.oz_semantics.specs.Settling.{without_inconsistent}
use Rattle.oz_semantics.specs.Store.{View}
use Rattle.oz_semantics.specs.declared.value.Tell.{Tell}
use Rattle.oz_acts.proofs.PlaceLaws.{place_there, place_view}
use Rattle.oz_machine.proofs.BoundLaws.{clash_left, none_clashes, no_items, some_items, untold}
use Rattle.oz_machine.proofs.bounding.tell_below.Goals as goal

pub returns-then-is_empty-clause-ok : goal.returns-then-is_empty-clause-ok
returns-then-is_empty-clause-ok c =
    let old = c.args.levels.now in
    let space = c.args.space.now in
    let stands = c.in-Some.ensures.stands in
    let seen = place_view old space c.in-Some.place c.store_at.result.now stands c.store_at.ensures in
    let tells = c.in_ok-tells.ensures ∙ ap (λ (v : View). bound_tells v space c.args.feature c.args.bound) seen in
    let none : length c.in_ok-tells.tells.items ≡ 0 = (let e = c.is_empty.ensures in let t = c.if-is_empty.true in let k = c.in_ok-tells.tells.ok in grind (arith, nat_tests)) in
    untold space old c.consistent.ensures ∙ ap (λ (ts : List Tell). without_inconsistent (in_layer space (telling ts) old)) (sym (no_items c.in_ok-tells.tells.items none) ∙ tells)

pub returns-then-allows_none-clause-ok : goal.returns-then-allows_none-clause-ok
returns-then-allows_none-clause-ok c =
    let old = c.args.levels.now in
    let space = c.args.space.now in
    let stands = c.in-Some.ensures.stands in
    let seen = place_view old space c.in-Some.place c.store_at.result.now stands c.store_at.ensures in
    let tells = c.in_ok-tells.ensures ∙ ap (λ (v : View). bound_tells v space c.args.feature c.args.bound) seen in
    let some : 0 < length c.in_ok-tells.tells.items = (let e = c.is_empty.ensures in let t = c.if-is_empty.false in let k = c.in_ok-tells.tells.ok in grind (arith, nat_tests)) in
    c.fail.ensures
    ∙ clash_left space (bound_tells (view old space) space c.args.feature c.args.bound) old (place_there old space c.in-Some.place stands) c.in-Some.ensures.opened c.consistent.ensures
    (none_clashes (view old space) space c.args.feature c.args.bound (sym c.allows_none.ensures ∙ c.if-allows_none.true) (ap is_empty (sym tells) ∙ some_items c.in_ok-tells.tells.items some))

pub tell_or_fail-requires-clause-there : goal.tell_or_fail-requires-clause-there
tell_or_fail-requires-clause-there c = place_there c.args.levels.now c.args.space.now c.in-Some.place c.in-Some.ensures.stands

pub returns-clause-ok : goal.returns-clause-ok
returns-clause-ok c =
    let old = c.args.levels.now in
    let space = c.args.space.now in
    let seen = place_view old space c.in-Some.place c.store_at.result.now c.in-Some.ensures.stands c.store_at.ensures in
    let tells = c.in_ok-tells.ensures ∙ ap (λ (v : View). bound_tells v space c.args.feature c.args.bound) seen in
    subst (λ (ts : List Tell). OnOk c.tell_or_fail.result (c.tell_or_fail.new.levels ≡ without_inconsistent (in_layer space (telling ts) old))) (c.deref.ensures.value ∙ tells) c.tell_or_fail.ensures.ok
