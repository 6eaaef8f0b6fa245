use Rattle.std.proofs.Common.{◌≡◌, ◌∙◌, List, sym, ap}
use Rattle.oz_semantics.specs.Propagation.{Fails, Narrows, run_of}
use Rattle.oz_semantics.specs.Configurations.{view}
use Rattle.oz_semantics.specs.Schedule.{after_run_of, run_failed, turn}
use Rattle.oz_semantics.specs.declared.value.Tell.{Tell}
use Rattle.propagation.specs.Runs.{run_as}
use Rattle.oz_machine.specs.Courses.{config_of}
use Rattle.oz_machine.specs.Propagating.{as_it_is}
use Rattle.oz_machine.proofs.DoingLaws.{ok_turn}
use Rattle.oz_machine.proofs.PropagatingLaws.{turn_runs}
use Rattle.oz_machine.proofs.propagating.propagate.Goals as goal

pub fail_at-requires : goal.fail_at-requires
fail_at-requires c = record { due = c.requires.due; within = c.requires.least.there.within }

pub returns-in-Fails-clause-turn : goal.returns-in-Fails-clause-turn
returns-in-Fails-clause-turn c =
    let k = c.args.kernel.now in
    let st = k.statements in
    let now = c.args.course.now in
    let h = c.requires.least in
    let comes : run_of (view now.levels h.layer.space) h.propagator ≡ Fails = sym (c.in_ok-run.ensures h.layer h.propagator h.least) ∙ ap run_as c.in-Fails.is in
    ok_turn c.fail_at.result (turn k (config_of st now)) (run_failed st h.layer.space (as_it_is now)) (config_of st c.fail_at.new.course)
    (turn_runs k now h.layer h.propagator c.requires.due h.least ∙ ap (after_run_of st h.layer h.propagator (as_it_is now)) comes) (c.fail_at.ensures.turn st h.layer h.there.item)

pub returns-in-Narrows-clause-turn : goal.returns-in-Narrows-clause-turn
returns-in-Narrows-clause-turn c =
    let k = c.args.kernel.now in
    let st = k.statements in
    let now = c.args.course.now in
    let h = c.requires.least in
    let ts = c.deref.result.now in
    let comes : run_of (view now.levels h.layer.space) h.propagator ≡ Narrows ts
    = sym (c.in_ok-run.ensures h.layer h.propagator h.least) ∙ ap run_as c.in-Narrows.is ∙ ap (λ (us : List Tell). Narrows us) (sym c.deref.ensures.value) in
    ok_turn c.narrow.result (turn k (config_of st now)) (after_run_of st h.layer h.propagator (as_it_is now) (Narrows ts)) (config_of st c.narrow.new.course)
    (turn_runs k now h.layer h.propagator c.requires.due h.least ∙ ap (after_run_of st h.layer h.propagator (as_it_is now)) comes) (c.narrow.ensures.turn st h.layer h.propagator h.least)
