use Rattle.std.proofs.Common.{◌∙◌, sym, subst}
use Rattle.oz_semantics.specs.Configurations.{stack_of}
use Rattle.oz_semantics.specs.Spaces.{sight}
use Rattle.oz_acts.proofs.PlaceLaws.{place_none, place_there}
use Rattle.oz_sleep.proofs.WakingLaws.{some_holds}
use Rattle.oz_machine.specs.Quiet.{able_in, IsDeclaration, IsDeclaring, IsHeadAnswer}
use Rattle.oz_machine.proofs.QuietLaws.{empty_steps, nowhere_steps}
use Rattle.oz_machine.proofs.TurnLaws.{alone_joins, resting_joins}
use Rattle.oz_machine.proofs.HeadLaws.{none_joined, one_joins, one_alone, still_joins, declared_joins, alone_answers, alone_declares, none_answers}
use Rattle.oz_machine.proofs.settling.join_alone.Goals as goal

pub returns-in_default-clause-ok : goal.returns-in_default-clause-ok
returns-in_default-clause-ok c =
    let statements = c.args.statements.now in
    let levels = c.args.levels.now in
    let id = c.args.id.now in
    none_joined c.args.queue.now (able_in statements levels id) (still_joins statements levels id (nowhere_steps statements levels id (place_none levels id.space c.in_default.ensures)))

pub returns-in_default-top_frame-clause-ok : goal.returns-in_default-top_frame-clause-ok
returns-in_default-top_frame-clause-ok c =
    let statements = c.args.statements.now in
    let levels = c.args.levels.now in
    let id = c.args.id.now in
    none_joined c.args.queue.now (able_in statements levels id) (still_joins statements levels id (empty_steps (sight statements levels id.space) (stack_of levels id) c.in_default-top_frame.ensures))

pub returns-in-Some-declaring-clause-ok : goal.returns-in-Some-declaring-clause-ok
returns-in-Some-declaring-clause-ok c =
    let statements = c.args.statements.now in
    let levels = c.args.levels.now in
    let id = c.args.id.now in
    let frame = c.in-Some-top_frame.frame.now in
    let said = some_holds c.declaring.result c.in-Some-declaring.number (IsDeclaring statements frame) c.in-Some-declaring.is c.declaring.ensures in
    let d : IsDeclaration statements (stack_of levels id) said.names said.body = record { frame = frame; top = c.in-Some-top_frame.ensures; answers = said.answers } in
    one_joins c.args.queue.now c.push.new.self id c.in_ok-copied.field-0 (able_in statements levels id) c.in_ok-push.ensures.ok c.in_ok-copied.ensures (declared_joins statements levels id said.names said.body d)

pub returns-in-Some-declaring-clause-answer : goal.returns-in-Some-declaring-clause-answer
returns-in-Some-declaring-clause-answer c =
    let statements = c.args.statements.now in
    let levels = c.args.levels.now in
    let id = c.args.id.now in
    let frame = c.in-Some-top_frame.frame.now in
    let number = c.in-Some-declaring.number in
    let said = some_holds c.declaring.result number (IsDeclaring statements frame) c.in-Some-declaring.is c.declaring.ensures in
    subst (IsHeadAnswer statements levels c.push.new.self) (sym c.note.ensures)
    (alone_declares levels c.push.new.self id number (one_alone c.args.queue.now c.push.new.self id c.in_ok-copied.field-0 c.requires.queue c.in_ok-push.ensures.ok c.in_ok-copied.ensures)
    (place_there levels id.space c.in-Some.place (sym c.in-Some.is ∙ c.place.ensures)) (record { frame = frame; top = c.in-Some-top_frame.ensures; numbered = said.numbered }))

pub returns-then-branch-clause-ok : goal.returns-then-branch-clause-ok
returns-then-branch-clause-ok c =
    let statements = c.args.statements.now in
    let levels = c.args.levels.now in
    let id = c.args.id.now in
    let said = c.in_ok-note_answer.ensures in
    none_joined c.args.queue.now (able_in statements levels id) (resting_joins statements levels id said.0 said.2 (sym said.3 ∙ c.if-branch.true))

pub returns-then-branch-clause-answer : goal.returns-then-branch-clause-answer
returns-then-branch-clause-answer c = none_answers c.args.statements.now c.args.levels.now c.args.queue.now c.note_answer.new.answered c.requires.queue

pub returns-clause-ok : goal.returns-clause-ok
returns-clause-ok c =
    let statements = c.args.statements.now in
    let levels = c.args.levels.now in
    let id = c.args.id.now in
    let said = c.in_ok-note_answer.ensures in
    one_joins c.args.queue.now c.push-2.new.self id c.in_ok-copied-2.field-0 (able_in statements levels id) c.in_ok-push-2.ensures.ok c.in_ok-copied-2.ensures
    (alone_joins statements levels id said.0 said.2 (sym said.3 ∙ c.if-branch.false))

pub returns-clause-answer : goal.returns-clause-answer
returns-clause-answer c =
    let statements = c.args.statements.now in
    let levels = c.args.levels.now in
    let id = c.args.id.now in
    let said = c.in_ok-note_answer.ensures in
    subst (IsHeadAnswer statements levels c.push-2.new.self) (sym said.1)
    (alone_answers statements levels c.push-2.new.self id c.in-Some.place said.0 (one_alone c.args.queue.now c.push-2.new.self id c.in_ok-copied-2.field-0 c.requires.queue c.in_ok-push-2.ensures.ok c.in_ok-copied-2.ensures)
    (sym c.in-Some.is ∙ c.place.ensures) said.2)
