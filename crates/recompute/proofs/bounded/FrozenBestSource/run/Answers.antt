use Rattle.std.proofs.Common.{◌≡◌, ap, ◌∙◌}
use Rattle.recompute.specs.Bests.{BestOrigin}
use Rattle.recompute.proofs.BestLaws.{best_short, best_stands}
use Rattle.recompute.proofs.bounded.FrozenBestSource.run.Goals as goal

pub returns-in_default : goal.returns-in_default
returns-in_default c =
    let space : c.space-space.result.now ≡ c.args.self.now.start.space = c.space-space.ensures ∙ ap (λ (o : BestOrigin). o.start.space) c.self.view_is in
    best_short c.args.self.now c.space-space.result.now c.args.machine.now c.run_to_rest.new.machine c.args.fuel c.requires space (rw c.in_default.is at c.in_ok-report.ensures)

pub returns : goal.returns
returns c =
    let space : c.space-space.result.now ≡ c.args.self.now.start.space = c.space-space.ensures ∙ ap (λ (o : BestOrigin). o.start.space) c.self.view_is in
    let feature : c.self.inside.feature ≡ c.args.self.now.feature = ap (λ (o : BestOrigin). o.feature) c.self.view_is in
    best_stands c.args.self.now c.space-space.result.now c.args.machine.now c.run_to_rest.new.machine c.args.fuel c.requires space c.in-Some.report c.self.inside.feature c.in_ok-cost.cost c.costed-kind.result feature
    (rw c.in-Some.is at c.in_ok-report.ensures) c.in_ok-cost.ensures c.costed-kind.ensures
