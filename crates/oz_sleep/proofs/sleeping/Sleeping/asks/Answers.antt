use Rattle.std.proofs.Common.{◌≡◌, ◌∙◌, ap, sym}
use Rattle.oz_semantics.specs.Configurations.{view}
use Rattle.oz_semantics.specs.Sights.{Readiness, can_step}
use Rattle.oz_semantics.specs.Statements.{code_answer}
use Rattle.oz_semantics.specs.Readiness.{answer_ready}
use Rattle.oz_acts.proofs.PlaceLaws.{place_none, place_view}
use Rattle.oz_sleep.proofs.LaidLaws.{empty_able, empty_rests, nowhere_stack, ready_is, lay_more, lay_rests, more_itself, other_rests}
use Rattle.oz_sleep.proofs.sleeping.Sleeping.asks.Goals.{then-attends, else-attends}
use Rattle.oz_sleep.proofs.sleeping.Sleeping.asks.Goals as goal

pub returns-in_default-clause-able : goal.returns-in_default-clause-able
returns-in_default-clause-able c =
    let levels = c.args.levels.now in
    let id = c.args.id.now in
    empty_able c.args.statements.now levels id (nowhere_stack levels id (place_none levels id.space c.in_default.ensures))

pub returns-in_default-clause-rests : goal.returns-in_default-clause-rests
returns-in_default-clause-rests c = λ none.
    let levels = c.args.levels.now in
    let id = c.args.id.now in
    empty_rests c.args.statements.now levels c.args.self.now id (nowhere_stack levels id (place_none levels id.space c.in_default.ensures))

pub returns-then-is_step-clause-able : goal.returns-then-is_step-clause-able
returns-then-is_step-clause-able c =
    let statements = c.args.statements.now in
    let levels = c.args.levels.now in
    let id = c.args.id.now in
    let frame = c.in-Some-top_frame.frame.now in
    let store = c.store_at-store.result.now in
    let seen : store ≡ view levels id.space = place_view levels id.space c.in-Some.place store (sym c.in-Some.is ∙ c.place.ensures) c.store_at-store.ensures in
    let ready : Readiness = answer_ready (code_answer (record { statements = statements; space = id.space; view = store }) frame.environment frame.code) in
    sym c.if-is_step.true ∙ c.is_step.ensures store ready c.in_ok-ready.ensures ∙ ap can_step (ready_is statements levels id store frame seen c.in-Some-top_frame.ensures)

pub returns-clause-able : goal.returns-clause-able
returns-clause-able c =
    let statements = c.args.statements.now in
    let levels = c.args.levels.now in
    let id = c.args.id.now in
    let frame = c.in-Some-top_frame.frame.now in
    let store = c.store_at-store.result.now in
    let seen : store ≡ view levels id.space = place_view levels id.space c.in-Some.place store (sym c.in-Some.is ∙ c.place.ensures) c.store_at-store.ensures in
    let ready : Readiness = answer_ready (code_answer (record { statements = statements; space = id.space; view = store }) frame.environment frame.code) in
    sym c.if-is_step.false ∙ c.is_step.ensures store ready c.in_ok-ready.ensures ∙ ap can_step (ready_is statements levels id store frame seen c.in-Some-top_frame.ensures)

pub returns-clause-more : goal.returns-clause-more
returns-clause-more c =
    let statements = c.args.statements.now in
    let levels = c.args.levels.now in
    let id = c.args.id.now in
    let frame = c.in-Some-top_frame.frame.now in
    let store = c.store_at-store.result.now in
    let seen : store ≡ view levels id.space = place_view levels id.space c.in-Some.place store (sym c.in-Some.is ∙ c.place.ensures) c.store_at-store.ensures in
    let ready : Readiness = answer_ready (code_answer (record { statements = statements; space = id.space; view = store }) frame.environment frame.code) in
    elim c.if-attends.branch [
      | then-attends w ↦ rw w.self-is (lay_more statements levels id c.args.self.now w.lay.new.self store ready seen (sym c.attends.ensures ∙ w.if-attends.true) (w.lay.ensures ready c.in_ok-ready.ensures))
      | else-attends w ↦ rw w.self-is (more_itself levels c.args.self.now)
    ]

pub returns-clause-rests : goal.returns-clause-rests
returns-clause-rests c =
    let statements = c.args.statements.now in
    let levels = c.args.levels.now in
    let id = c.args.id.now in
    let frame = c.in-Some-top_frame.frame.now in
    let store = c.store_at-store.result.now in
    let seen : store ≡ view levels id.space = place_view levels id.space c.in-Some.place store (sym c.in-Some.is ∙ c.place.ensures) c.store_at-store.ensures in
    let ready : Readiness = answer_ready (code_answer (record { statements = statements; space = id.space; view = store }) frame.environment frame.code) in
    elim c.if-attends.branch [
      | then-attends w ↦ rw w.self-is (λ none. lay_rests statements levels id c.args.self.now w.lay.new.self store ready seen (sym c.attends.ensures ∙ w.if-attends.true) (w.lay.ensures ready c.in_ok-ready.ensures)
          (ready_is statements levels id store frame seen c.in-Some-top_frame.ensures))
      | else-attends w ↦ rw w.self-is (λ none. other_rests statements levels c.args.self.now id (sym c.attends.ensures ∙ w.if-attends.false))
    ]
