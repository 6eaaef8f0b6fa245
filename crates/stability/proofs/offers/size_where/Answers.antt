use Rattle.stability.proofs.offers.size_where.Goals as goal

pub returns : goal.returns
returns c = c.offer_size.ensures c.args.store.now _ c.in_ok-ready.ensures
