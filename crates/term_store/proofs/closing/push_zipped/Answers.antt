use Rattle.std.proofs.Common.{inl, inr}
use Rattle.term_store.proofs.Pairs.{zipped}
use Rattle.term_store.proofs.closing.push_zipped.Goals as goal

pub returns : goal.returns
returns c = zipped _ _ c.loop-a.a-iterator.a.rest.now c.loop-a.a-iterator.b.rest.now (elim c.in-None.ensures.steps [ inl h ↦ inl h.1.0 | inr h ↦ inr h.1.0 ]) c.loop-a.invariant
