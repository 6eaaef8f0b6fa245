use Rattle.std.proofs.Common.{◌≡◌, ◌∙◌, List, sym, ap, subst}
use Rattle.std.specs.Prelude.{OnOk, OnErr}
use Rattle.oz_language.specs.declared.kernel.Statement.{Statement}
use Rattle.oz_language.specs.declared.kernel.Kernel.{Kernel}
use Rattle.oz_semantics.specs.Search.{chosen_in}
use Rattle.turn_laws.proofs.KeptLaws.{kept_chosen}
use Rattle.oz_machine.specs.Courses.{config_of, Keeps}
use Rattle.oz_machine.specs.Asleep.{Sleeps}
use Rattle.oz_machine.proofs.SearchLaws.{kept_by}
use Rattle.oz_machine.proofs.machine.Machine.commit.Goals as goal

pub invariant_of-self : goal.invariant_of-self
invariant_of-self c =
    let st = c.self.inside.kernel.statements in
    let old = config_of st c.self.inside.course in
    let new = config_of st c.commit.new.course in
    let same : c.as_slice-statements.result.now ≡ st = c.as_slice-statements.ensures ∙ ap (λ (k : Kernel). k.statements) c.get.ensures in
    let made : OnOk c.commit.result (new ≡ chosen_in st c.args.space.now c.args.index old) =
    subst (λ (ss : List Statement). OnOk c.commit.result (config_of ss c.commit.new.course ≡ chosen_in ss c.args.space.now c.args.index (config_of ss c.self.inside.course))) same c.commit.ensures.commit in
    let refused : OnErr c.commit.result (new ≡ old) =
    subst (λ (ss : List Statement). OnErr c.commit.result (config_of ss c.commit.new.course ≡ config_of ss c.self.inside.course)) same c.commit.ensures.err in
    let kept : Keeps st c.self.inside.kept c.commit.new.course = λ known.
    let held = c.self.invariant.0 known in
    kept_by c.commit.result st old new (chosen_in st c.args.space.now c.args.index old) made refused held (kept_chosen st c.args.space.now c.args.index old held) in
    (kept, subst (λ (ss : List Statement). Sleeps ss c.commit.new.sleeping c.commit.new.course) same c.commit.ensures.asleep)

pub commit-requires : goal.commit-requires
commit-requires c =
    let same : c.as_slice-statements.result.now ≡ c.self.inside.kernel.statements = c.as_slice-statements.ensures ∙ ap (λ (k : Kernel). k.statements) c.get.ensures in
    record { asleep = subst (λ (ss : List Statement). Sleeps ss c.self.inside.sleeping c.self.inside.course) (sym same) c.self.invariant.1 }
