use Rattle.std.proofs.Common.{◌&&◌, ◌∙◌, Bool, List, sym, ap}
use Rattle.std.specs.List.{list_any}
use Rattle.oz_base.specs.declared.names.Ident.{Ident}
use Rattle.oz_semantics.specs.Configurations.{view, ancestor_variables}
use Rattle.oz_semantics.specs.Spaces.{is_held}
use Rattle.oz_semantics.specs.Store.{View}
use Rattle.oz_semantics.specs.Propagation.{is_undecided}
use Rattle.stability.proofs.waits.propagator_waits.Goals as goal

pub returns-then-not-is_undecided : goal.returns-then-not-is_undecided
returns-then-not-is_undecided c =
    λ l e.
    let held = list_any (is_held (view c.args.levels.now l.space) (ancestor_variables c.args.levels.now c.args.space.now)) c.args.propagator.now.variables in
    ap (λ (b : Bool). b && held) (sym c.if-not-is_undecided.true ∙ c.is_undecided.ensures ∙ ap (λ (v : View). is_undecided v c.args.propagator.now) (c.store_at.ensures l e))

pub returns : goal.returns
returns c =
    λ l e.
    let held = list_any (is_held (view c.args.levels.now l.space) (ancestor_variables c.args.levels.now c.args.space.now)) c.args.propagator.now.variables in
    c.any_held.ensures l e
    ∙ ap (λ (xs : List Ident). list_any (is_held (view c.args.levels.now l.space) (ancestor_variables c.args.levels.now c.args.space.now)) xs) c.as_slice.ensures
    ∙ ap (λ (b : Bool). b && held) (sym c.if-not-is_undecided.false ∙ c.is_undecided.ensures ∙ ap (λ (v : View). is_undecided v c.args.propagator.now) (c.store_at.ensures l e))
