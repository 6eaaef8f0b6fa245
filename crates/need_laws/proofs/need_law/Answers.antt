use Rattle.need_laws.proofs.FireLaws.{all_fired}
use Rattle.need_laws.proofs.AfterLaws.{fired_view, fired_tree, fired_there, fired_numbered, fired_sound, fired_stack}
use Rattle.need_laws.proofs.RoundLaws.{none_there, none_left, unneeded_stays}
use Rattle.need_laws.proofs.need_law.Goals as goal

pub returns : goal.returns
returns c =
    record { there = none_there; left = none_left; fired = all_fired; seen = fired_view; tree = fired_tree; stays_there = fired_there; numbered = fired_numbered; sound = fired_sound; stack = fired_stack; unneeded = unneeded_stays }
