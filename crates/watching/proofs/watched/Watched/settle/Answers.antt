use Rattle.std.proofs.Common.{◌∙◌, ℕ, List, slice_get, sym, ap}
use Rattle.watching.proofs.WatchLaws.{dropped}
use Rattle.watching.proofs.watched.Watched.settle.Goals as goal

pub candidates-preserved : goal.candidates-preserved
candidates-preserved c =
    λ t. dropped c.args.store.now c.args.propagators.now c.candidates.self c.take_front-dropped.new.self c.take_front-dropped.result c.in-Some.index c.take_front-dropped.ensures (c.in-Some.ensures ∙ ap (λ (is : List ℕ). slice_get is 0) c.as_slice.ensures)
    (sym c.if-is_due_at.ensures) (c.candidates.invariant t)
