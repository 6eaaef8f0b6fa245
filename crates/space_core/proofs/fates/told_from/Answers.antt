use Rattle.space_core.proofs.FatedLaws.{took_more, took_none}
use Rattle.space_core.proofs.fates.told_from.Goals.{in-Some+in_ok-copied+in_ok-push, in_default}
use Rattle.space_core.proofs.fates.told_from.Goals as goal

pub loop-place-preserved : goal.loop-place-preserved
loop-place-preserved c = elim c.match-told_at.branch [
  | in-Some+in_ok-copied+in_ok-push w ↦
      rw w.tells-is (took_more c.args.store.now c.loop-place.place c.args.from c.loop-place.tells.items _ _ _ c.loop-place.invariant w.in-Some.ensures w.in_ok-copied.ensures w.in_ok-push.ensures.items)
  | in_default w ↦ rw w.tells-is (took_none c.args.store.now c.loop-place.place c.args.from c.loop-place.tells.items c.loop-place.invariant w.in_default.ensures)
]
