use Rattle.std.proofs.Common.{◌≡◌, ◌∙◌, ◌&&◌, not, Bool, true, false, if◌then◌else◌, List, ap, sym, subst}
use Rattle.std.specs.Prelude.{is_some, OnErr}
use Rattle.oz_semantics.specs.Configurations.{layer_at, layer_of}
use Rattle.oz_semantics.specs.Effects.{act_effect}
use Rattle.oz_semantics.specs.Changes.{done}
use Rattle.oz_semantics.specs.Steps.{after_effect, went_on, raised_kind, without_top}
use Rattle.oz_semantics.specs.declared.configuration.Layer.{Layer}
use Rattle.oz_semantics.specs.declared.outcome.RaiseKind.TheVariants.{FailureTell}
use Rattle.builtins.specs.Answers.{act_of}
use Rattle.oz_sleep.specs.declared.sleeping.Sleeping.{Sleeping}
use Rattle.oz_laws.proofs.SameLaws.{and-left, and-right}
use Rattle.space_core.specs.Telling.{has_below}
use Rattle.oz_machine.specs.Courses.{config_of, stepping}
use Rattle.oz_acts.specs.Doings.{is_quiet}
use Rattle.oz_machine.specs.Quiet.{delays}
use Rattle.oz_machine.proofs.DoingLaws.{done_leaves, done_clashes, fits_popped, ok_turn}
use Rattle.oz_machine.proofs.QuietLaws.{quiet_done}
use Rattle.oz_machine.proofs.StepEdits.{effect_popped}
use Rattle.oz_machine.proofs.ToldLaws.{not_true, told_done, none_fails, done_below, pop_below, alone_there}
use Rattle.oz_machine.proofs.PendLaws.{foretold, pending_laid, resumed, told_sleeps, unknown_sleeps}
use Rattle.oz_machine.proofs.turn.make_act.Goals as goal

pub clash-requires : goal.clash-requires
clash-requires c =
    let id = c.args.id.now in
    let now = c.args.course.now in
    let effect = act_effect (layer_of now.levels id.space) (act_of c.args.what.now) in
    let d = done_clashes c.args.kernel.now id effect now.levels c.act.new.levels (stepping now) (rw c.if-not-branch.true at c.in_ok-act.ensures.ok) in
    record { head = c.requires.head; there = ap (λ (ls : List Layer). is_some (layer_at ls id.space)) d.0 ∙ c.requires.there }

pub returns-then-not-branch-clause-err : goal.returns-then-not-branch-clause-err
returns-then-not-branch-clause-err c =
    let id = c.args.id.now in
    let now = c.args.course.now in
    let effect = act_effect (layer_of now.levels id.space) (act_of c.args.what.now) in
    let d = done_clashes c.args.kernel.now id effect now.levels c.act.new.levels (stepping now) (rw c.if-not-branch.true at c.in_ok-act.ensures.ok) in
    subst (λ (ls : List Layer). OnErr c.clash.result (c.clash.new.course ≡ record now { levels = ls })) d.0 c.clash.ensures.err

pub returns-then-not-branch-clause-turn : goal.returns-then-not-branch-clause-turn
returns-then-not-branch-clause-turn c =
    let k = c.args.kernel.now in
    let id = c.args.id.now in
    let now = c.args.course.now in
    let old = now.levels in
    let new = c.act.new.levels in
    let act = act_of c.args.what.now in
    let wt = without_top id old in
    let d = done_clashes k id (act_effect (layer_of old id.space) act) old new (stepping now) (rw c.if-not-branch.true at c.in_ok-act.ensures.ok) in
    ok_turn c.clash.result (after_effect k id wt (stepping now) (act_effect (layer_of wt id.space) act))
    (raised_kind k.statements id FailureTell (without_top id new) (stepping (record now { levels = new }))) (config_of k.statements c.clash.new.course)
    (
    ap (after_effect k id wt (stepping now)) (effect_popped id old act c.requires.there)
    ∙ d.1
    ∙ ap (λ (ls : List Layer). raised_kind k.statements id FailureTell (without_top id ls) (stepping (record now { levels = ls }))) (sym d.0)
    )
    (c.clash.ensures.turn k.statements)

pub returns-then-still-clause-turn : goal.returns-then-still-clause-turn
returns-then-still-clause-turn c =
    let k = c.args.kernel.now in
    let id = c.args.id.now in
    let now = c.args.course.now in
    let old = now.levels in
    let new = c.act.new.levels in
    let act = act_of c.args.what.now in
    let l = layer_of old id.space in
    let wt = without_top id old in
    let known = c.is_known_quiet-quiet.result in
    let silent : (known && not (delays act)) ≡ true = sym c.is_known_still-still.ensures ∙ c.if-still.true in
    let both : (c.args.kept && is_quiet act) ≡ true = sym c.is_known_quiet-quiet.ensures ∙ and-left known (not (delays act)) silent in
    let none : delays act ≡ false = not_true (delays act) (and-right known (not (delays act)) silent) in
    let head = c.requires.kept (and-left c.args.kept (is_quiet act) both) in
    let quiet = quiet_done id l act old new (and-right c.args.kept (is_quiet act) both) none (rw c.if-not-branch.false at c.in_ok-act.ensures.ok) in
    ap (after_effect k id wt (stepping now)) (effect_popped id old act c.requires.there ∙ quiet.effect)
    ∙ ap (λ (ls : List Layer). went_on k.statements id 1 ls (stepping now)) (sym quiet.made)
    ∙ c.go_on_quietly-stepped.ensures.turn old quiet.changes head quiet.made (quiet.started ∙ sym c.in_ok-started.ensures) quiet.adds (λ e. quiet.gives (sym c.gives_out-gives.ensures ∙ e))

pub returns-then-lowest-clause-turn : goal.returns-then-lowest-clause-turn
returns-then-lowest-clause-turn c =
    let k = c.args.kernel.now in
    let id = c.args.id.now in
    let now = c.args.course.now in
    let old = now.levels in
    let new = c.act.new.levels in
    let act = act_of c.args.what.now in
    let l = layer_of old id.space in
    let wt = without_top id old in
    let loud_kept = c.args.kept && not c.is_known_quiet-quiet.result in
    let both : (loud_kept && not (has_below old id.space)) ≡ true = sym c.is_known_lowest-lowest.ensures ∙ c.if-lowest.true in
    let loud_known : loud_kept ≡ true = and-left loud_kept (not (has_below old id.space)) both in
    let known : c.args.kept ≡ true = and-left c.args.kept (not c.is_known_quiet-quiet.result) loud_known in
    let none : has_below old id.space ≡ false = not_true (has_below old id.space) (and-right loud_kept (not (has_below old id.space)) both) in
    let loud : is_quiet act ≡ false =
    ap (λ b. b && is_quiet act) (sym known) ∙ sym c.is_known_quiet-quiet.ensures ∙ not_true c.is_known_quiet-quiet.result (and-right c.args.kept (not c.is_known_quiet-quiet.result) loud_known) in
    let told = told_done id l act old new loud (rw c.if-not-branch.false at c.in_ok-act.ensures.ok) in
    let made : new ≡ done id told.tells told.changes wt = none_fails id.space (done id told.tells told.changes wt) new told.settles (done_below id told.tells told.changes wt (pop_below id old ∙ none)) in
    ap (after_effect k id wt (stepping now)) (effect_popped id old act c.requires.there ∙ told.effect)
    ∙ ap (λ (b : Bool). if b then went_on k.statements id 1 (done id told.tells told.changes wt) (stepping now) else raised_kind k.statements id FailureTell wt (stepping now)) (fits_popped id told.tells old true told.fits)
    ∙ ap (λ (ls : List Layer). went_on k.statements id 1 ls (stepping now)) (sym made)
    ∙ c.go_on_told-stepped.ensures.turn c.resume.new.self old told.tells told.changes (c.requires.kept known) (alone_there id old none) told.fits made
    (foretold k.statements now id act c.args.sleeping.now c.foreseen.new.sleeping c.resume.new.self c.in_ok-woken.woken told.tells told.changes c.requires.asleep c.requires.head (c.in_ok-woken.ensures.foretold c.if-lowest.true) c.resume.ensures told.effect)

pub returns-clause-turn : goal.returns-clause-turn
returns-clause-turn c =
    let k = c.args.kernel.now in
    let id = c.args.id.now in
    let now = c.args.course.now in
    let old = now.levels in
    let act = act_of c.args.what.now in
    let wt = without_top id old in
    let d = done_leaves k id (act_effect (layer_of old id.space) act) old c.act.new.levels (stepping now) c.consistent.ensures (rw c.if-not-branch.false at c.in_ok-act.ensures.ok) in
    ap (after_effect k id wt (stepping now)) (effect_popped id old act c.requires.there)
    ∙ d.follows ∙ c.go_on.ensures.turn k.statements d.before d.settles

pub returns-in_err-started-clause-asleep : goal.returns-in_err-started-clause-asleep
returns-in_err-started-clause-asleep c = unknown_sleeps c.args.kernel.now.statements c.args.sleeping.now c.args.course.now c.requires.asleep.known

pub returns-in_err-woken-clause-asleep : goal.returns-in_err-woken-clause-asleep
returns-in_err-woken-clause-asleep c =
    unknown_sleeps c.args.kernel.now.statements c.foreseen.new.sleeping c.args.course.now (c.foreseen.ensures.known ∙ c.requires.asleep.known)

pub returns-in_err-act-clause-asleep : goal.returns-in_err-act-clause-asleep
returns-in_err-act-clause-asleep c =
    unknown_sleeps c.args.kernel.now.statements c.foreseen.new.sleeping (record c.args.course.now { levels = c.act.new.levels }) (c.foreseen.ensures.known ∙ c.requires.asleep.known)

pub returns-then-not-branch-clause-asleep : goal.returns-then-not-branch-clause-asleep
returns-then-not-branch-clause-asleep c =
    unknown_sleeps c.args.kernel.now.statements c.foreseen.new.sleeping c.clash.new.course (c.foreseen.ensures.known ∙ c.requires.asleep.known)

pub returns-then-lowest-clause-asleep : goal.returns-then-lowest-clause-asleep
returns-then-lowest-clause-asleep c =
    let k = c.args.kernel.now in
    let id = c.args.id.now in
    let now = c.args.course.now in
    let old = now.levels in
    let new = c.act.new.levels in
    let act = act_of c.args.what.now in
    let l = layer_of old id.space in
    let wt = without_top id old in
    let loud_kept = c.args.kept && not c.is_known_quiet-quiet.result in
    let both : (loud_kept && not (has_below old id.space)) ≡ true = sym c.is_known_lowest-lowest.ensures ∙ c.if-lowest.true in
    let loud_known : loud_kept ≡ true = and-left loud_kept (not (has_below old id.space)) both in
    let known : c.args.kept ≡ true = and-left c.args.kept (not c.is_known_quiet-quiet.result) loud_known in
    let none : has_below old id.space ≡ false = not_true (has_below old id.space) (and-right loud_kept (not (has_below old id.space)) both) in
    let loud : is_quiet act ≡ false =
    ap (λ b. b && is_quiet act) (sym known) ∙ sym c.is_known_quiet-quiet.ensures ∙ not_true c.is_known_quiet-quiet.result (and-right c.args.kept (not c.is_known_quiet-quiet.result) loud_known) in
    let told = told_done id l act old new loud (rw c.if-not-branch.false at c.in_ok-act.ensures.ok) in
    let made : new ≡ done id told.tells told.changes wt = none_fails id.space (done id told.tells told.changes wt) new told.settles (done_below id told.tells told.changes wt (pop_below id old ∙ none)) in
    let found = c.in_ok-woken.ensures.foretold c.if-lowest.true in
    told_sleeps k.statements old c.go_on_told-stepped.new.course id act c.args.sleeping.now c.foreseen.new.sleeping c.resume.new.self c.in_ok-woken.woken found c.resume.ensures
    (c.go_on_told-stepped.ensures.asleep c.resume.new.self old told.tells told.changes (c.requires.kept known) (alone_there id old none) told.fits made
    (foretold k.statements now id act c.args.sleeping.now c.foreseen.new.sleeping c.resume.new.self c.in_ok-woken.woken told.tells told.changes c.requires.asleep c.requires.head found c.resume.ensures told.effect))

pub returns-then-still-clause-asleep : goal.returns-then-still-clause-asleep
returns-then-still-clause-asleep c =
    let k = c.args.kernel.now in
    let id = c.args.id.now in
    let now = c.args.course.now in
    let old = now.levels in
    let new = c.act.new.levels in
    let act = act_of c.args.what.now in
    let l = layer_of old id.space in
    let known = c.is_known_quiet-quiet.result in
    let silent : (known && not (delays act)) ≡ true = sym c.is_known_still-still.ensures ∙ c.if-still.true in
    let both : (c.args.kept && is_quiet act) ≡ true = sym c.is_known_quiet-quiet.ensures ∙ and-left known (not (delays act)) silent in
    let none : delays act ≡ false = not_true (delays act) (and-right known (not (delays act)) silent) in
    let head = c.requires.kept (and-left c.args.kept (is_quiet act) both) in
    let quiet = quiet_done id l act old new (and-right c.args.kept (is_quiet act) both) none (rw c.if-not-branch.false at c.in_ok-act.ensures.ok) in
    let stood : c.foreseen.new.sleeping ≡ c.args.sleeping.now = c.foreseen.ensures.quiet c.if-lowest.false in
    let resumes = c.resume-then-still.ensures ∙ ap (λ (r : Sleeping). record r { known = r.pending }) stood in
    resumed k.statements c.args.sleeping.now c.resume-then-still.new.self c.go_on_quietly-stepped.new.course resumes
    (λ pending. c.go_on_quietly-stepped.ensures.asleep c.resume-then-still.new.self old quiet.changes head quiet.made (quiet.started ∙ sym c.in_ok-started.ensures)
    (pending_laid k.statements c.args.sleeping.now c.resume-then-still.new.self now id c.requires.asleep c.requires.head resumes pending))

pub returns-clause-asleep : goal.returns-clause-asleep
returns-clause-asleep c = unknown_sleeps c.args.kernel.now.statements c.foreseen.new.sleeping c.go_on.new.course (c.foreseen.ensures.known ∙ c.requires.asleep.known)
