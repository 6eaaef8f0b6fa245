use Rattle.std.proofs.Common.{◌≡◌, ◌∙◌, List, false, sym, ap, subst}
use Rattle.oz_language.specs.declared.kernel.Statement.{Statement}
use Rattle.oz_language.specs.declared.kernel.Kernel.{Kernel}
use Rattle.oz_semantics.specs.BestSearch.{chosen_below}
use Rattle.oz_semantics.specs.Names.{is_top}
use Rattle.turn_laws.specs.Kept.{IsKept}
use Rattle.oz_machine.specs.Courses.{config_of, Keeps, Loaded}
use Rattle.oz_machine.specs.Asleep.{Sleeps}
use Rattle.oz_machine.proofs.BoundLaws.{kept_below}
use Rattle.oz_machine.proofs.machine.Machine.commit_below.Goals as goal

pub invariant_of-result : goal.invariant_of-result
invariant_of-result c =
    let st = c.self.inside.kernel.statements in
    let space = c.args.space.now in
    let after = c.in_ok-course.course in
    let same : c.as_slice-statements.result.now ≡ st = c.as_slice-statements.ensures ∙ ap (λ (k : Kernel). k.statements) c.get.ensures in
    let made : config_of st after ≡ chosen_below st space c.args.feature c.args.branch (config_of st c.self.inside.course) =
    subst (λ (ss : List Statement). config_of ss after ≡ chosen_below ss space c.args.feature c.args.branch (config_of ss c.self.inside.course)) same c.in_ok-course.ensures.commit in
    let kept : Keeps st c.self.inside.kept after = λ known.
    subst (IsKept st) (sym made) (kept_below st space c.args.feature c.args.branch (config_of st c.self.inside.course) c.in_ok-course.ensures.lower (c.self.invariant.0 known)) in
    (kept, subst (λ (ss : List Statement). Sleeps ss c.commit_below.new.sleeping after) same c.in_ok-course.ensures.asleep)

pub commit_below-requires : goal.commit_below-requires
commit_below-requires c =
    let same : c.as_slice-statements.result.now ≡ c.self.inside.kernel.statements = c.as_slice-statements.ensures ∙ ap (λ (k : Kernel). k.statements) c.get.ensures in
    record { asleep = subst (λ (ss : List Statement). Sleeps ss c.self.inside.sleeping c.self.inside.course) (sym same) c.self.invariant.1 }

pub returns-clause-commit : goal.returns-clause-commit
returns-clause-commit c =
    let st = c.self.inside.kernel.statements in
    let space = c.args.space.now in
    let after = c.in_ok-course.course in
    let same : c.as_slice-statements.result.now ≡ st = c.as_slice-statements.ensures ∙ ap (λ (k : Kernel). k.statements) c.get.ensures in
    let made : config_of st after ≡ chosen_below st space c.args.feature c.args.branch (config_of st c.self.inside.course) =
    subst (λ (ss : List Statement). config_of ss after ≡ chosen_below ss space c.args.feature c.args.branch (config_of ss c.self.inside.course)) same c.in_ok-course.ensures.commit in
    subst (λ (m : Loaded). config_of st after ≡ chosen_below m.kernel.statements space c.args.feature c.args.branch m.config) c.self.view_is made
