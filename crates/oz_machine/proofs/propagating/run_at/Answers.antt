use Rattle.std.specs.Prelude.{◌≡◌, IfOk}
use Rattle.oz_semantics.specs.Propagation.{run_of}
use Rattle.propagation.specs.Runs.{run_as}
use Rattle.oz_machine.proofs.PropagatingLaws.{due_read, read_due}
use Rattle.oz_machine.proofs.propagating.run_at.Goals as goal

pub store_at-store-requires : goal.store_at-store-requires
store_at-store-requires c = c.requires.there.within

pub propagators_at-propagators-requires : goal.propagators_at-propagators-requires
propagators_at-propagators-requires c = c.requires.there.within

pub returns : goal.returns
returns c = λ l p least.
    let h = c.requires in
    due_read c.args.levels.now c.args.due h l p least (λ v q. IfOk c.run_of.result (λ run. run_as run ≡ run_of v q)) c.store_at-store.result.now c.index-propagators-index.result c.run_of.ensures
    (c.store_at-store.ensures h.layer h.there.item)
    (read_due c.args.levels.now c.args.due h c.propagators_at-propagators.result.now c.index-propagators-index.result (c.propagators_at-propagators.ensures h.layer h.there.item) c.index-propagators-index.is)
