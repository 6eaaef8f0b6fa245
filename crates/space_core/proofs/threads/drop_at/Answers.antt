use Rattle.std.proofs.Common.{sym, ◌∙◌}
use Rattle.space_core.proofs.ThreadLaws.{dropped_at, none_dropped}
use Rattle.space_core.proofs.threads.drop_at.Goals as goal

pub returns-else-is_terminated : goal.returns-else-is_terminated
returns-else-is_terminated c = λ others. none_dropped c.args.threads.now c.args.place c.get.result.now c.get.ensures (sym c.is_terminated.ensures ∙ c.if-is_terminated.false) others

pub returns-then-is_terminated : goal.returns-then-is_terminated
returns-then-is_terminated c = λ others. c.remove.ensures ∙ dropped_at c.args.threads.now c.args.place c.requires c.get.result.now c.get.ensures (sym c.is_terminated.ensures ∙ c.if-is_terminated.true) others
