use Rattle.std.proofs.Common.{sym, subst}
use Rattle.oz_language.specs.declared.kernel.Kernel.{Kernel}
use Rattle.oz_machine.specs.Asleep.{Sleeps}
use Rattle.oz_machine.specs.Courses.{Keeps}
use Rattle.oz_machine.proofs.machine.Machine.step.Goals as goal

pub step-requires : goal.step-requires
step-requires c = record {
  kept = subst (λ (k : Kernel). Keeps k.statements c.self.inside.kept c.self.inside.course) (sym c.get.ensures) c.self.invariant.0;
  asleep = subst (λ (k : Kernel). Sleeps k.statements c.self.inside.sleeping c.self.inside.course) (sym c.get.ensures) c.self.invariant.1;
}

pub invariant_of-self : goal.invariant_of-self
invariant_of-self c = (
  subst (λ (k : Kernel). Keeps k.statements c.step.new.kept c.step.new.course) c.get.ensures c.step.ensures.kept,
  subst (λ (k : Kernel). Sleeps k.statements c.step.new.sleeping c.step.new.course) c.get.ensures c.step.ensures.asleep,
)
