use Rattle.std.proofs.Common.{sym, ◌∙◌, arith}
use Rattle.space_core.proofs.FiringLaws.{unmarked_none, unmarked_joins, unmarked_passes}
use Rattle.space_core.proofs.firing.unmarked.Goals.{then-not-is_marked+in_ok-copied+in_ok-push, else-not-is_marked}
use Rattle.space_core.proofs.firing.unmarked.Goals as goal

pub loop-place-init : goal.loop-place-init
loop-place-init c = c.new-left.ensures ∙ sym (unmarked_none c.args.marks.now)

pub loop-place-preserved : goal.loop-place-preserved
loop-place-preserved c = elim c.if-not-is_marked.branch [
  | then-not-is_marked+in_ok-copied+in_ok-push w ↦
      rw w.left-is (unmarked_joins c.args.marks.now c.args.triggers.now c.loop-place.place w.index-triggers-place.result (omega arith) w.index-triggers-place.is
      _ _ _ c.loop-place.invariant w.in_ok-push.ensures.ok w.in_ok-copied.ensures (sym w.if-not-is_marked.true ∙ c.is_marked.ensures))
  | else-not-is_marked w ↦ rw w.left-is (unmarked_passes c.args.marks.now c.args.triggers.now c.loop-place.place (omega arith) _ c.loop-place.invariant (sym w.if-not-is_marked.false ∙ c.is_marked.ensures))
]
