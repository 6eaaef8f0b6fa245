use Rattle.view_laws.proofs.StepLaws.{changes_made, stack_made}
use Rattle.view_laws.proofs.NumberLaws.{step_numbered, step_new, runnable_once, mover_told}
use Rattle.view_laws.proofs.NeedLaws.{nothing_fires}
use Rattle.view_laws.proofs.SettleLaws.{quiet_sound, quiet_settles, changes_settle, stack_settle}
use Rattle.view_laws.proofs.step_law.Goals as goal

pub returns : goal.returns
returns c =
    record { changes = changes_made; stack = stack_made; numbered = step_numbered; new = step_new; once = runnable_once; mover = mover_told; sound = quiet_sound; nothing_fires = nothing_fires; quiet = quiet_settles; changes_settle = changes_settle; stack_settle = stack_settle }
