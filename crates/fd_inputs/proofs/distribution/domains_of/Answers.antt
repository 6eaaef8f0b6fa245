use Rattle.oz_semantics.specs.Propagation.{domain_in}
use Rattle.fd_inputs.proofs.LoopLaws.{mapped_more}
use Rattle.fd_inputs.proofs.distribution.domains_of.Goals as goal

pub loop-x-preserved : goal.loop-x-preserved
loop-x-preserved c =
    mapped_more (domain_in c.args.store.now) c.args.xs.now c.loop-x.x-index c.x-item.result c.loop-x.domains.items c.push.new.self.items c.in_ok-domain_of.field-0 c.loop-x-test.true
    c.x-item.is c.loop-x.invariant c.in_ok-domain_of.ensures c.in_ok-push.ensures.items
