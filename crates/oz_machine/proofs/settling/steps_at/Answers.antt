use Rattle.std.proofs.Common.{◌≡◌, ◌∙◌, ap, sym}
use Rattle.oz_semantics.specs.Store.{View}
use Rattle.oz_semantics.specs.Configurations.{view, stack_of}
use Rattle.oz_semantics.specs.Sights.{Sight, can_step}
use Rattle.oz_semantics.specs.Spaces.{sight}
use Rattle.oz_semantics.specs.Statements.{code_answer}
use Rattle.oz_semantics.specs.Readiness.{answer_ready}
use Rattle.oz_acts.proofs.PlaceLaws.{place_view}
use Rattle.oz_machine.proofs.TurnLaws.{top_answers}
use Rattle.oz_machine.proofs.QuietLaws.{empty_steps}
use Rattle.oz_machine.proofs.settling.steps_at.Goals as goal

pub returns-in_default : goal.returns-in_default
returns-in_default c = empty_steps (sight c.args.statements.now c.args.levels.now c.args.id.now.space) (stack_of c.args.levels.now c.args.id.now) c.in_default.ensures

pub returns : goal.returns
returns c =
    let levels = c.args.levels.now in
    let id = c.args.id.now in
    let frame = c.in-Some.frame.now in
    let sees : View → Sight = λ ts. record { statements = c.args.statements.now; space = id.space; view = ts } in
    let seen : c.store_at.result.now ≡ view levels id.space = place_view levels id.space c.args.place c.store_at.result.now c.requires.place c.store_at.ensures in
    c.is_step.ensures c.store_at.result.now (answer_ready (code_answer (sees c.store_at.result.now) frame.environment frame.code)) c.in_ok-ready.ensures
    ∙ ap (λ ts. can_step (answer_ready (code_answer (sees ts) frame.environment frame.code))) seen
    ∙ sym (ap (λ a. can_step (answer_ready a)) (top_answers (sees (view levels id.space)) (stack_of levels id) frame c.in-Some.ensures))
