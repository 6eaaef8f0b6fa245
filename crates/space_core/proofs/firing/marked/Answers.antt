use Rattle.std.proofs.Common.{sym, ◌∙◌, arith}
use Rattle.space_core.proofs.FiringLaws.{marked_none, marked_joins, marked_passes}
use Rattle.space_core.proofs.firing.marked.Goals.{then-is_marked+in_ok-copied+in_ok-push, else-is_marked}
use Rattle.space_core.proofs.firing.marked.Goals as goal

pub loop-place-init : goal.loop-place-init
loop-place-init c = c.new-begun.ensures ∙ sym (marked_none c.args.marks.now)

pub loop-place-preserved : goal.loop-place-preserved
loop-place-preserved c = elim c.if-is_marked.branch [
  | then-is_marked+in_ok-copied+in_ok-push w ↦
      rw w.begun-is (marked_joins c.args.marks.now c.args.triggers.now c.loop-place.place w.index-triggers-place.result (omega arith) w.index-triggers-place.is
      _ _ _ c.loop-place.invariant w.in_ok-push.ensures.ok w.in_ok-copied.ensures (sym w.if-is_marked.true ∙ c.is_marked.ensures))
  | else-is_marked w ↦ rw w.begun-is (marked_passes c.args.marks.now c.args.triggers.now c.loop-place.place (omega arith) _ c.loop-place.invariant (sym w.if-is_marked.false ∙ c.is_marked.ensures))
]
