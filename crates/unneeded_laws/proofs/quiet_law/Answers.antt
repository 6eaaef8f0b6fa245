use Rattle.unneeded_laws.proofs.UnneededLaws.{able_waits_not, changes_need_none, stack_needs_none, added_need_none, changes_need_met, stack_needs_met, changes_need_own, stack_needs_own}
use Rattle.unneeded_laws.proofs.quiet_law.Goals as goal

pub returns : goal.returns
returns c = record { able = able_waits_not; changes = changes_need_none; stack = stack_needs_none; added = added_need_none; met = changes_need_met; met_stack = stack_needs_met; own = changes_need_own; own_stack = stack_needs_own }
