use Rattle.std.proofs.Common.{◌≡◌, ◌∙◌, List, sym, ap, subst}
use Rattle.std.specs.Prelude.{IfOk}
use Rattle.oz_base.specs.declared.names.Ident.{Ident}
use Rattle.oz_semantics.specs.Propagation.{noted}
use Rattle.oz_semantics.specs.declared.configuration.Propagator.{Propagator}
use Rattle.oz_machine.proofs.PropagatingLaws.{due_read, read_due}
use Rattle.oz_machine.proofs.propagating.seen_at.Goals as goal

pub store_at-store-requires : goal.store_at-store-requires
store_at-store-requires c = c.requires.there.within

pub propagators_at-propagators-requires : goal.propagators_at-propagators-requires
propagators_at-propagators-requires c = c.requires.there.within

pub returns : goal.returns
returns c = λ l p least.
    let h = c.requires in
    let store = c.store_at-store.result.now in
    due_read c.args.levels.now c.args.due h l p least (λ v q. IfOk c.seen.result (λ domains. domains ≡ noted v q.variables)) store c.index-propagators-index.result
    (subst (λ (xs : List Ident). IfOk c.seen.result (λ domains. domains ≡ noted store xs)) (c.as_slice.ensures ∙ ap (λ (p : Propagator). p.variables) (sym c.index-propagators-index.is)) c.seen.ensures)
    (c.store_at-store.ensures h.layer h.there.item)
    (read_due c.args.levels.now c.args.due h c.propagators_at-propagators.result.now c.index-propagators-index.result (c.propagators_at-propagators.ensures h.layer h.there.item) c.index-propagators-index.is)
