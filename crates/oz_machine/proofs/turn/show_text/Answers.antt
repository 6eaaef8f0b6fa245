use Rattle.std.proofs.Common.{◌≡◌, ◌∙◌, ◌+◌, ◌++◌, ◌∷◌, [], ℕ, List, drop, refl, ap, sym}
use Rattle.oz_semantics.specs.Steps.{went_on, without_top}
use Rattle.oz_semantics.specs.declared.configuration.Layer.{Layer}
use Rattle.settle_laws.proofs.SettleLaws.{nothing_fails}
use Rattle.turn_laws.proofs.HeadLaws.{kept_shown}
use Rattle.oz_machine.specs.Courses.{stepping}
use Rattle.oz_machine.proofs.turn.show_text.Goals as goal

pub returns-then-kept-clause-turn : goal.returns-then-kept-clause-turn
returns-then-kept-clause-turn c =
    let st = c.args.kernel.now.statements in
    let id = c.args.id.now in
    let now = c.args.course.now in
    let text = c.args.text in
    let popped = c.take_off.new.levels in
    let shown = c.push.new.self in
    let cost : c.in_ok-cost.cost ≡ 1 + text.nodes = c.in_ok-cost.ensures in
    let head = kept_shown st (record (stepping now) { queue = id ∷ drop 1 now.queue }) shown (c.requires.kept c.if-kept.true) in
    ap (λ (n : ℕ). went_on st id n (without_top id now.levels) (record (stepping now) { shown = now.shown ++ text.bytes ∷ [] })) (sym cost)
    ∙ ap (λ (ls : List Layer). went_on st id c.in_ok-cost.cost ls (record (stepping now) { shown = now.shown ++ text.bytes ∷ [] })) (sym c.take_off.ensures)
    ∙ ap (λ (h : List (List ℕ)). went_on st id c.in_ok-cost.cost popped (record (stepping now) { shown = h })) (sym c.in_ok-push.ensures.ok)
    ∙ c.go_on_quietly.ensures.turn now.levels [] head c.take_off.ensures refl refl (λ e. refl)

pub returns-clause-turn : goal.returns-clause-turn
returns-clause-turn c =
    let st = c.args.kernel.now.statements in
    let id = c.args.id.now in
    let now = c.args.course.now in
    let text = c.args.text in
    let popped = c.take_off.new.levels in
    let cost : c.in_ok-cost.cost ≡ 1 + text.nodes = c.in_ok-cost.ensures in
    ap (λ (n : ℕ). went_on st id n (without_top id now.levels) (record (stepping now) { shown = now.shown ++ text.bytes ∷ [] })) (sym cost)
    ∙ ap (λ (ls : List Layer). went_on st id c.in_ok-cost.cost ls (record (stepping now) { shown = now.shown ++ text.bytes ∷ [] })) (sym c.take_off.ensures)
    ∙ ap (λ (h : List (List ℕ)). went_on st id c.in_ok-cost.cost popped (record (stepping now) { shown = h })) (sym c.in_ok-push.ensures.ok)
    ∙ c.go_on.ensures.turn st popped (nothing_fails id.space popped c.consistent.ensures)
