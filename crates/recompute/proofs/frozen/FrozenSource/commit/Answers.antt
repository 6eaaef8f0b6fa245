use Rattle.std.proofs.Common.{◌≡◌, sym, ap, subst, ◌∙◌}
use Rattle.oz_language.specs.declared.kernel.Kernel.{Kernel}
use Rattle.oz_semantics.specs.Search.{chosen_in}
use Rattle.recompute.specs.Origins.{Origin, maker_of}
use Rattle.recompute.proofs.frozen.FrozenSource.commit.Goals as goal

pub returns-clause-commit : goal.returns-clause-commit
returns-clause-commit c =
    let kernel : c.args.machine.kernel ≡ c.self.inside.machine.kernel = c.requires ∙ sym (ap (λ (o : Origin). o.kernel) c.self.view_is) in
    subst (λ (o : Origin). c.commit.new.self.config ≡ (maker_of o).commit c.args.branch c.args.machine.config) c.self.view_is
    (subst (λ (q : Kernel). c.commit.new.self.config ≡ chosen_in q.statements c.self.inside.space c.args.branch c.args.machine.config) kernel c.in_ok-commit.ensures.commit)
