use Rattle.std.proofs.Common.{◌∙◌, is_some, ap}
use Rattle.oz_semantics.specs.Propagation.{is_due}
use Rattle.watching.proofs.PlaceLaws.{position_any}
use Rattle.watching.proofs.watch.Watch.has_due.Goals as goal

pub returns : goal.returns
returns c = λ k. c.is_some.ensures ∙ ap is_some (c.first_due.ensures k) ∙ position_any (is_due c.args.store.now) c.args.propagators.now
