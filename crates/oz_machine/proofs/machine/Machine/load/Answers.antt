use Rattle.std.proofs.Common.{◌∙◌, sym, subst}
use Rattle.std.proofs.lemmas.Bool.{false≢true}
use Rattle.oz_language.specs.declared.kernel.Kernel.{Kernel}
use Rattle.turn_laws.specs.Kept.{IsKept}
use Rattle.turn_laws.proofs.KeptLaws.{kept_opening}
use Rattle.oz_machine.specs.Courses.{config_of}
use Rattle.oz_machine.proofs.machine.Machine.load.Goals as goal

pub invariant_of-result : goal.invariant_of-result
invariant_of-result c =
    let k = c.args.kernel in
    let made : IsKept k.statements (config_of k.statements c.in_ok-course.course) = subst (IsKept k.statements) (sym c.in_ok-course.ensures) (kept_opening k) in
    (λ known. subst (λ (p : Kernel). IsKept p.statements (config_of p.statements c.in_ok-course.course)) (sym c.in_ok-new.ensures) made, λ known. absurd (false≢true (sym c.unknown.ensures.known ∙ known)))
