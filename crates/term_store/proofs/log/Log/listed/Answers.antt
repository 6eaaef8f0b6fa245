use Rattle.std.proofs.Common.{◌∙◌, ◌*◌, length, ap}
use Rattle.term_store.proofs.log.Log.listed.Goals as goal

pub returns : goal.returns
returns c = c.self.invariant.3 ∙ ap (λ l. 32 * length l.chunks) c.self.view_is
