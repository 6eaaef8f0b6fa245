use Rattle.std.proofs.Common.{◌≡◌, ◌∙◌, Bool, true, false, if◌then◌else◌, List, ℕ, None, sym, ap}
use Rattle.oz_semantics.specs.Names.{is_top}
use Rattle.oz_semantics.specs.Schedule.{run_failed}
use Rattle.oz_semantics.specs.Settling.{settled, failing, top_failed}
use Rattle.oz_machine.specs.Courses.{config_of}
use Rattle.oz_machine.specs.Propagating.{as_it_is}
use Rattle.oz_machine.proofs.DoingLaws.{ok_turn}
use Rattle.oz_machine.proofs.propagating.fail_at.Goals as goal

pub returns-then-is_top-clause-turn : goal.returns-then-is_top-clause-turn
returns-then-is_top-clause-turn c = λ statements l e.
    let now = as_it_is c.args.course.now in
    let top : is_top l.space ≡ true = ap is_top (sym (c.in_ok-space.ensures ∙ c.space_at.ensures l e)) ∙ sym c.is_top.ensures ∙ c.if-is_top.true in
    ok_turn c.fail_top.result (run_failed statements l.space now) (top_failed 1 now) (config_of statements c.fail_top.new.course)
    (ap (λ (b : Bool). if b then top_failed 1 now else settled statements None 1 (record now { layers = failing now.layers l.space })) top) (c.fail_top.ensures.turn statements)

pub returns-clause-turn : goal.returns-clause-turn
returns-clause-turn c = λ statements l e.
    let now = as_it_is c.args.course.now in
    let name : c.in_ok-space.space ≡ l.space = c.in_ok-space.ensures ∙ c.space_at.ensures l e in
    let inner : is_top l.space ≡ false = ap is_top (sym name) ∙ sym c.is_top.ensures ∙ c.if-is_top.false in
    ap (λ (b : Bool). if b then top_failed 1 now else settled statements None 1 (record now { layers = failing now.layers l.space })) inner
    ∙ ap (λ (s : List ℕ). settled statements None 1 (record now { layers = failing now.layers s })) (sym name)
    ∙ c.fail_child.ensures.turn statements
