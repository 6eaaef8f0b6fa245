use Rattle.std.proofs.Common.{length, ◌-◌, ◌≤◌, take}
use Rattle.std.specs.Io.KnownBytes.{Appends}
use Rattle.oz_outside.proofs.transfer.write_all.Given as goal

abbrev pub invariant-writes : goal.invariant-writes
invariant-writes g l = record {
  within : l.done ≤ length l.reply;
  wrote : Appends (g.K.Sink.written l.initial.sink) (g.K.Sink.written l.sink) (take l.done l.reply);
  count : g.K.Sink.faults l.initial.sink ≤ g.K.Sink.faults l.sink;
}

abbrev pub decreases-writes : goal.decreases-writes
decreases-writes g l = length l.reply - l.done
