use Rattle.std.proofs.Common.{◌∙◌, [], sym, ap, refl}
use Rattle.oz_base.specs.declared.names.Ident.{Ident}
use Rattle.oz_semantics.specs.Settling.{with_raised}
use Rattle.oz_semantics.specs.declared.configuration.Configuration.{Configuration}
use Rattle.oz_semantics.specs.declared.outcome.RaiseKind.TheVariants.{FailureTop}
use Rattle.oz_semantics.specs.declared.outcome.Stepped.TheVariants.{TopEnded}
use Rattle.oz_machine.specs.declared.course.Due.TheVariants.{Nobody}
use Rattle.oz_machine.specs.Propagating.{as_it_is}
use Rattle.oz_machine.proofs.DoingLaws.{course_view}
use Rattle.oz_machine.proofs.propagating.fail_top.Goals as goal

pub returns-clause-turn : goal.returns-clause-turn
returns-clause-turn c = λ statements.
    let old = c.args.course.now in
    let failed = c.in_ok-failed.failed in
    let layers = with_raised FailureTop [] old.levels in
    ap (λ (x : Ident). (TopEnded x 1, record (as_it_is old) { layers = layers })) (sym c.in_ok-failed.ensures.exception)
    ∙ ap (λ (d : Configuration). (TopEnded failed.exception 1, d))
    (sym (course_view statements (record old { levels = failed.levels }) layers Nobody old.queue old.shown c.in_ok-failed.ensures.levels c.requires refl refl))
