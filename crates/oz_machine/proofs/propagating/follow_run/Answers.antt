use Rattle.std.proofs.Common.{◌∙◌, None, sym, ap, refl}
use Rattle.oz_semantics.specs.declared.outcome.Stepped.TheVariants.{Moved}
use Rattle.settle_laws.proofs.SettleLaws.{settled_by}
use Rattle.oz_machine.specs.declared.course.Due.TheVariants.{Everybody}
use Rattle.oz_machine.proofs.DoingLaws.{course_view}
use Rattle.oz_machine.proofs.propagating.follow_run.Goals as goal

pub returns-clause-turn : goal.returns-clause-turn
returns-clause-turn c = λ statements space before h.
    let old = c.args.course.now in
    settled_by statements None 1 space before old.levels old.queue old.shown h
    ∙ ap (λ d. (Moved 1, d)) (sym (course_view statements (record old { due = Everybody None }) old.levels (Everybody None) old.queue old.shown refl refl refl refl))
