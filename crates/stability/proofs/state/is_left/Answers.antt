use Rattle.std.proofs.Common.{◌∙◌, List, sym, ap}
use Rattle.std.specs.List.{list_any}
use Rattle.oz_semantics.specs.Store.{View}
use Rattle.oz_semantics.specs.Configurations.{view}
use Rattle.oz_semantics.specs.Propagation.{is_undecided}
use Rattle.oz_semantics.specs.declared.configuration.Propagator.{Propagator}
use Rattle.stability.proofs.StateLaws.{empty_length, left_threads, left_propagators}
use Rattle.stability.proofs.state.is_left.Goals as goal

pub returns-then-not-is_empty : goal.returns-then-not-is_empty
returns-then-not-is_empty c =
    λ l e. left_threads (view c.args.levels.now l.space) l c.threads_at.result.now (c.threads_at.ensures l e) (sym (empty_length c.threads_at.result.now) ∙ sym c.is_empty.ensures ∙ c.if-not-is_empty.true)

pub returns : goal.returns
returns c =
    λ l e.
    let v = view c.args.levels.now l.space in
    c.any_undecided.ensures ∙ ap (λ (w : View). list_any (is_undecided w) c.propagators_at.result.now) (c.store_at.ensures l e)
    ∙ ap (λ (ps : List Propagator). list_any (is_undecided v) ps) (c.propagators_at.ensures l e)
    ∙ left_propagators v l c.threads_at.result.now (c.threads_at.ensures l e) (sym (empty_length c.threads_at.result.now) ∙ sym c.is_empty.ensures ∙ c.if-not-is_empty.false)
