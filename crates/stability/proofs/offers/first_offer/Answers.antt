use Rattle.stability.proofs.offers.first_offer.Goals as goal

pub returns : goal.returns
returns c = λ l e. rw (c.space_at-space.ensures l e, c.store_at-store.ensures l e, c.threads_at.ensures l e) at c.first_offer_where.ensures
