use Rattle.std.proofs.Common.{ap, arith, length}
use Rattle.term_store.specs.Logs.{told_in, with_ended}
use Rattle.term_store.proofs.LogLaws.{length_told}
use Rattle.term_store.proofs.log.Log.len.Goals as goal

pub overflow_add-result : goal.overflow_add-result
overflow_add-result c = omega (arith, c.listed.ensures, ap (λ l. length l.chunks) c.self.view_is, c.len.ensures, c.self.inside.rest.ok.0, c.self.invariant.2, length_told (with_ended c.self.inside.chunks c.self.inside.ended) c.self.inside.rest.items c.self.invariant.0)

pub returns : goal.returns
returns c = omega (arith, c.listed.ensures, ap (λ l. length l.chunks) c.self.view_is, ap (λ l. length (told_in l)) c.self.view_is, c.len.ensures, c.self.inside.rest.ok.0, length_told (with_ended c.self.inside.chunks c.self.inside.ended) c.self.inside.rest.items c.self.invariant.0)
