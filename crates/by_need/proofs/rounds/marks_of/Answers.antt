use Rattle.std.proofs.Common.{arith}
use Rattle.by_need.proofs.RoundLaws.{marks_in, mapped_more}
use Rattle.by_need.proofs.rounds.marks_of.Goals as goal

pub loop-place-preserved : goal.loop-place-preserved
loop-place-preserved c =
    mapped_more (marks_in c.args.statements.now c.args.levels.now) c.args.levels.now c.loop-place.place (omega arith) _ _ _ c.loop-place.invariant c.in_ok-push.ensures.ok (λ l e. c.in_ok-needed_at.ensures c.in_ok-states.ensures l e)
