use Rattle.std.proofs.Common.{◌≡◌, ◌∙◌, ap, sym}
use Rattle.oz_semantics.specs.Configurations.{view, stack_of}
use Rattle.oz_semantics.specs.Sights.{Sight}
use Rattle.oz_semantics.specs.Store.{View}
use Rattle.oz_semantics.specs.Spaces.{sight}
use Rattle.oz_semantics.specs.Statements.{code_answer, stack_answer}
use Rattle.oz_acts.proofs.PlaceLaws.{place_view}
use Rattle.oz_machine.proofs.TurnLaws.{empty_rests, top_answers, ok_answer}
use Rattle.oz_machine.proofs.settling.top_answer.Goals as goal

pub returns-in-None : goal.returns-in-None
returns-in-None c =
    empty_rests (sight c.args.statements.now c.args.levels.now c.args.id.now.space) (stack_of c.args.levels.now c.args.id.now) c.in-None.ensures

pub returns-in-Some : goal.returns-in-Some
returns-in-Some c =
    let levels = c.args.levels.now in
    let id = c.args.id.now in
    let frame = c.in-Some.frame.now in
    let sees : View → Sight = λ ts. record { statements = c.args.statements.now; space = id.space; view = ts } in
    let seen : c.store_at.result.now ≡ view levels id.space = place_view levels id.space c.args.place c.store_at.result.now c.requires.place c.store_at.ensures in
    ok_answer c.answer.result (stack_answer (sees (view levels id.space)) (stack_of levels id)) (code_answer (sees c.store_at.result.now) frame.environment frame.code)
    (top_answers (sees (view levels id.space)) (stack_of levels id) frame c.in-Some.ensures ∙ ap (λ ts. code_answer (sees ts) frame.environment frame.code) (sym seen))
    c.answer.ensures
