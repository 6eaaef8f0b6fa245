use Rattle.std.proofs.Common.{[], ◌∷◌}
use Rattle.fd_inputs.proofs.LoopLaws.{mapped_more}
use Rattle.oz_semantics.specs.declared.value.Tell.TheVariants.{Within}
use Rattle.fd_inputs.proofs.news.confinements.Goals as goal

pub loop-x-preserved : goal.loop-x-preserved
loop-x-preserved c =
    mapped_more (λ y. Within y (c.args.interval ∷ [])) c.args.xs.now c.loop-x.x-index c.x-item.result c.loop-x.tells.items c.push.new.self.items c.in_ok-confinement.field-0 c.loop-x-test.true
    c.x-item.is c.loop-x.invariant c.in_ok-confinement.ensures c.in_ok-push.ensures.items
