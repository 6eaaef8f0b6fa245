use Rattle.std.proofs.Common.{List, subst, sym}
use Rattle.oz_language.specs.declared.kernel.Statement.{Statement}
use Rattle.oz_machine.specs.Asleep.{Sleeps}
use Rattle.oz_machine.proofs.turn.step.Goals as goal

pub settle_only-requires : goal.settle_only-requires
settle_only-requires c = record { asleep = subst (λ (st : List Statement). Sleeps st c.args.sleeping.now c.args.course.now) (sym c.as_slice.ensures) c.requires.asleep }

pub turn_anew-requires-clause-asleep : goal.turn_anew-requires-clause-asleep
turn_anew-requires-clause-asleep c = subst (λ (st : List Statement). Sleeps st c.settle_only.new.sleeping c.settle_only.new.course) c.as_slice.ensures c.settle_only.ensures.asleep

pub returns-in_err-settle_only-clause-asleep : goal.returns-in_err-settle_only-clause-asleep
returns-in_err-settle_only-clause-asleep c = subst (λ (st : List Statement). Sleeps st c.settle_only.new.sleeping c.settle_only.new.course) c.as_slice.ensures c.settle_only.ensures.asleep
