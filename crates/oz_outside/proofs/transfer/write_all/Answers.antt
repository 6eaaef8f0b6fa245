use Rattle.std.proofs.Common.{arith}
use Rattle.oz_outside.proofs.Pieces.{moves_on}
use Rattle.oz_outside.proofs.transfer.write_all.Goals as goal

pub writes-preserved : goal.writes-preserved
writes-preserved g c =
    let moved = moves_on (g.K.Sink.written c.args.sink.now) (g.K.Sink.written c.writes.sink) (g.K.Sink.written c.write.new.self) c.args.reply.now
    c.writes.done c.in_ok-done.field-0 c.writes.invariant.within c.in_ok-done.ensures.bound c.writes.invariant.wrote c.in_ok-done.ensures.bytes in
    record {
      within = moved.0;
      wrote = moved.1;
      count = omega arith;
    }
