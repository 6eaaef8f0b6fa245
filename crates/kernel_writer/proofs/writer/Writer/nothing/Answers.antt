use Rattle.kernel_writer.specs.Tasks.{state_of, all_done}
use Rattle.std.proofs.Common.{ap, sym}
use Rattle.kernel_writer.proofs.Laws.{nothing_written}
use Rattle.kernel_writer.proofs.writer.Writer.nothing.Goals as goal

pub returns : goal.returns
returns c words = ap (all_done words c.args.self.now.tasks) (sym (nothing_written (state_of c.args.self.now)))
