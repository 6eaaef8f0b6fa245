use Rattle.std.proofs.Common.{◌≡◌, IfOk, ℕ, List, sym, ap, subst, ◌∙◌}
use Rattle.oz_language.specs.declared.kernel.Kernel.{Kernel}
use Rattle.oz_machine.specs.Courses.{Loaded}
use Rattle.oz_semantics.specs.BestSearch.{chosen_below}
use Rattle.recompute.specs.Bests.{BestOrigin, best_maker_of}
use Rattle.recompute.proofs.bounded.FrozenBestSource.commit.Goals as goal

pub returns-clause-commit : goal.returns-clause-commit
returns-clause-commit c =
    let made = c.commit_below.result in
    let kernel : c.args.machine.kernel ≡ c.self.inside.frozen.kernel = c.requires ∙ sym (ap (λ (o : BestOrigin). o.start.kernel) c.self.view_is) in
    subst (λ (o : BestOrigin). IfOk made (λ after. after.config ≡ (best_maker_of o).commit c.args.branch c.args.machine.config)) c.self.view_is
    (subst (λ (q : Kernel). IfOk made (λ after. after.config ≡ chosen_below q.statements c.self.inside.frozen.space c.self.inside.feature c.args.branch c.args.machine.config)) kernel
    (subst (λ (s : List ℕ). IfOk made (λ after. after.config ≡ chosen_below c.args.machine.kernel.statements s c.self.inside.feature c.args.branch c.args.machine.config)) c.space.ensures c.commit_below.ensures.commit))
