use Rattle.std.proofs.Common.{sym, ◌∙◌}
use Rattle.std.specs.Prelude.{option_copied}
use Rattle.oz_threads.specs.Members.{is_member, joins}
use Rattle.oz_threads.proofs.MemberLaws.{one_joins, none_joins}
use Rattle.oz_threads.proofs.queue.others_of.Goals.{then-joins+in_ok-copied+in_ok-push_back, else-joins}
use Rattle.oz_threads.proofs.queue.others_of.Goals as goal

pub loop-id-preserved : goal.loop-id-preserved
loop-id-preserved c = elim c.if-joins.branch [
  | then-joins+in_ok-copied+in_ok-push_back w ↦
      rw w.others-is (one_joins (joins (is_member c.args.queued.now) (option_copied c.args.mover)) c.args.ids.now c.loop-id.id-index c.id-item.result c.loop-id-test.true c.id-item.is
      _ _ _ c.loop-id.invariant w.in_ok-push_back.ensures.items w.in_ok-copied.ensures (sym w.if-joins.true ∙ c.joins.ensures))
  | else-joins w ↦
      rw w.others-is (none_joins (joins (is_member c.args.queued.now) (option_copied c.args.mover)) c.args.ids.now c.loop-id.id-index c.id-item.result c.loop-id-test.true c.id-item.is
      _ c.loop-id.invariant (sym w.if-joins.false ∙ c.joins.ensures))
]
