use Rattle.std.proofs.Common.{◌≡◌, ◌∙◌, ◌+◌, ◌++◌, ◌∷◌, ◌<◌, ◌-◌, [], drop, Some, refl, ap, sym, subst, arith}
use Rattle.oz_semantics.specs.Store.{View}
use Rattle.oz_semantics.specs.Configurations.{view, in_layer, without_terminated}
use Rattle.oz_semantics.specs.Steps.{shown_by, without_top}
use Rattle.oz_semantics.specs.Texts.{Printed, term_text}
use Rattle.settle_laws.proofs.EditLaws.{pop_view}
use Rattle.oz_machine.specs.Courses.{stepping}
use Rattle.oz_acts.proofs.PlaceLaws.{place_view}
use Rattle.oz_machine.proofs.DoingLaws.{settled_cost}
use Rattle.oz_machine.proofs.turn.show.Goals as goal

pub returns-in-None-clause-turn : goal.returns-in-None-clause-turn
returns-in-None-clause-turn c =
    let k = c.args.kernel.now in
    let id = c.args.id.now in
    let now = c.args.course.now in
    let x = c.args.variable.now in
    let wt = without_top id now.levels in
    let seen : c.store_at-store.result.now ≡ view wt id.space = place_view now.levels id.space c.args.place c.store_at-store.result.now c.requires.place c.store_at-store.ensures ∙ sym (pop_view id now.levels id.space) in
    let more = rw c.in-None.is at c.in_ok-term_text.ensures in
    let printed : Printed = term_text k.words (view wt id.space) x in
    let less : c.args.fuel - 1 < printed.nodes = subst (λ (ts : View). c.args.fuel - 1 < (term_text k.words ts x).nodes) seen more in
    let cost = settled_cost k.statements (Some id) (1 + printed.nodes) (record { layers = in_layer id.space without_terminated wt; queue = drop 1 now.queue; shown = now.shown ++ printed.bytes ∷ [] }) in
    (omega (arith, less, cost, c.requires.fuel), refl)

pub returns-in_ok-show_text-in-Some-clause-turn : goal.returns-in_ok-show_text-in-Some-clause-turn
returns-in_ok-show_text-in-Some-clause-turn c =
    let k = c.args.kernel.now in
    let id = c.args.id.now in
    let now = c.args.course.now in
    let x = c.args.variable.now in
    let wt = without_top id now.levels in
    let seen : c.store_at-store.result.now ≡ view wt id.space = place_view now.levels id.space c.args.place c.store_at-store.result.now c.requires.place c.store_at-store.ensures ∙ sym (pop_view id now.levels id.space) in
    let within = rw c.in-Some.is at c.in_ok-term_text.ensures in
    let stored : Printed = term_text k.words c.store_at-store.result.now x in
    let text : Printed = record { bytes = c.in-Some.text.bytes; nodes = c.in-Some.text.nodes } in
    let same : stored ≡ text = λ i. record { bytes = sym within.0 i; nodes = sym within.1 i } in
    ap (λ (p : Printed). shown_by k.statements id p wt (stepping now)) (ap (λ (ts : View). term_text k.words ts x) (sym seen) ∙ same) ∙ c.in_ok-show_text-in-Some.ensures.turn
