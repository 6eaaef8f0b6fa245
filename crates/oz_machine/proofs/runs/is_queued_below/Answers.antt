use Rattle.std.proofs.Common.{◌∙◌, ℕ, not, nat_eq, ap, sym}
use Rattle.oz_machine.proofs.TopLaws.{any_below_top}
use Rattle.oz_machine.proofs.runs.is_queued_below.Goals as goal

pub returns-then-is_top : goal.returns-then-is_top
returns-then-is_top c = ap (λ (n : ℕ). not (nat_eq n 0)) c.len.ensures ∙ any_below_top c.args.space.now c.args.queue.now (sym c.is_top.ensures ∙ c.if-is_top.true)
