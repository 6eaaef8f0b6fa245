use Rattle.std.proofs.Common.{◌≡◌}
use Rattle.kernel_writer.specs.Tasks.{outcome}
use Rattle.kernel_trans.proofs.programs.perform_all.Given as goal

abbrev pub invariant-tasks : goal.invariant-tasks
invariant-tasks l = outcome l.words l.writer ≡ outcome l.words l.initial.writer
