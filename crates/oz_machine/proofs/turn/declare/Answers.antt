use Rattle.std.proofs.Common.{◌∙◌, refl, sym}
use Rattle.std.proofs.lemmas.Bool.{false≢true}
use Rattle.oz_semantics.specs.Configurations.{layer_of}
use Rattle.oz_semantics.specs.Effects.{declared_changes}
use Rattle.settle_laws.proofs.SettleLaws.{nothing_fails}
use Rattle.oz_machine.specs.Courses.{stepping}
use Rattle.oz_machine.proofs.DeclareLaws.{declaration_made}
use Rattle.oz_machine.proofs.PendLaws.{pending_laid, pending_sleeps, resumed}
use Rattle.oz_machine.proofs.turn.declare.Goals as goal

pub returns-then-kept-clause-turn : goal.returns-then-kept-clause-turn
returns-then-kept-clause-turn c =
    let k = c.args.kernel.now in
    let d = c.requires.declared in
    let id = c.args.id.now in
    let now = c.args.course.now in
    let names = c.args.names.now in
    let body = c.args.body.now in
    let made = c.in_ok-declare_in.ensures.ok d.frame d.top in
    declaration_made k id names body (stepping now) d c.declare_in.new.self c.requires.there made
    ∙ c.go_on_quietly-stepped.ensures.turn now.levels (declared_changes (layer_of now.levels id.space) d.frame.environment names body) (c.requires.kept c.if-kept.true) made refl refl (λ e. absurd (false≢true (sym e)))

pub returns-clause-turn : goal.returns-clause-turn
returns-clause-turn c =
    let k = c.args.kernel.now in
    let d = c.requires.declared in
    let id = c.args.id.now in
    let new = c.declare_in.new.self in
    declaration_made k id c.args.names.now c.args.body.now (stepping c.args.course.now) d new c.requires.there (c.in_ok-declare_in.ensures.ok d.frame d.top)
    ∙ c.go_on.ensures.turn k.statements new (nothing_fails id.space new c.consistent.ensures)

pub returns-in_err-declare_in-clause-asleep : goal.returns-in_err-declare_in-clause-asleep
returns-in_err-declare_in-clause-asleep c = pending_sleeps c.args.kernel.now.statements c.args.sleeping.now c.args.course.now (record c.args.course.now { levels = c.declare_in.new.self }) c.requires.asleep

pub returns-then-kept-clause-asleep : goal.returns-then-kept-clause-asleep
returns-then-kept-clause-asleep c =
    let k = c.args.kernel.now in
    let d = c.requires.declared in
    let id = c.args.id.now in
    let now = c.args.course.now in
    let made = c.in_ok-declare_in.ensures.ok d.frame d.top in
    resumed k.statements c.args.sleeping.now c.resume.new.self c.go_on_quietly-stepped.new.course c.resume.ensures
    (λ pending. c.go_on_quietly-stepped.ensures.asleep c.resume.new.self now.levels (declared_changes (layer_of now.levels id.space) d.frame.environment c.args.names.now c.args.body.now) (c.requires.kept c.if-kept.true) made refl
    (pending_laid k.statements c.args.sleeping.now c.resume.new.self now id c.requires.asleep c.requires.head c.resume.ensures pending))

pub returns-clause-asleep : goal.returns-clause-asleep
returns-clause-asleep c = pending_sleeps c.args.kernel.now.statements c.args.sleeping.now c.args.course.now c.go_on.new.course c.requires.asleep
