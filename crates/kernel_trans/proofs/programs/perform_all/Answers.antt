use Rattle.kernel_writer.specs.Tasks.{state_of, all_done}
use Rattle.std.proofs.Common.{ap, sym, ◌∙◌}
use Rattle.kernel_trans.proofs.programs.perform_all.Goals as goal

pub returns-in_default : goal.returns-in_default
returns-in_default c = sym (ap (λ q. all_done c.args.words.now q (state_of c.tasks.writer)) c.in_default.ensures.0) ∙ c.tasks.invariant
