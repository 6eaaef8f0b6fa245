use Rattle.std.proofs.Common.{◌≡◌, ◌∙◌, List, sym, ap, subst}
use Rattle.std.specs.Prelude.{OnOk, OnErr}
use Rattle.oz_language.specs.declared.kernel.Statement.{Statement}
use Rattle.oz_language.specs.declared.kernel.Kernel.{Kernel}
use Rattle.oz_semantics.specs.Search.{with_root}
use Rattle.turn_laws.proofs.KeptLaws.{kept_root}
use Rattle.oz_machine.specs.Courses.{config_of, Keeps}
use Rattle.oz_machine.specs.Asleep.{Sleeps}
use Rattle.oz_machine.proofs.SearchLaws.{kept_by}
use Rattle.oz_machine.proofs.machine.Machine.root.Goals as goal

pub invariant_of-self : goal.invariant_of-self
invariant_of-self c =
    let st = c.self.inside.kernel.statements in
    let old = config_of st c.self.inside.course in
    let new = config_of st c.root.new.course in
    let same : c.as_slice-statements.result.now ≡ st = c.as_slice-statements.ensures ∙ ap (λ (k : Kernel). k.statements) c.get.ensures in
    let made : OnOk c.root.result (new ≡ with_root st c.args.procedure old) =
    subst (λ (ss : List Statement). OnOk c.root.result (config_of ss c.root.new.course ≡ with_root ss c.args.procedure (config_of ss c.self.inside.course))) same c.root.ensures.root in
    let refused : OnErr c.root.result (new ≡ old) =
    subst (λ (ss : List Statement). OnErr c.root.result (config_of ss c.root.new.course ≡ config_of ss c.self.inside.course)) same c.root.ensures.err in
    let kept : Keeps st c.self.inside.kept c.root.new.course = λ known.
    let held = c.self.invariant.0 known in
    kept_by c.root.result st old new (with_root st c.args.procedure old) made refused held (kept_root st c.args.procedure old held) in
    (kept, subst (λ (ss : List Statement). Sleeps ss c.root.new.sleeping c.root.new.course) same c.root.ensures.asleep)

pub root-requires : goal.root-requires
root-requires c =
    let same : c.as_slice-statements.result.now ≡ c.self.inside.kernel.statements = c.as_slice-statements.ensures ∙ ap (λ (k : Kernel). k.statements) c.get.ensures in
    record { asleep = subst (λ (ss : List Statement). Sleeps ss c.self.inside.sleeping c.self.inside.course) (sym same) c.self.invariant.1 }
