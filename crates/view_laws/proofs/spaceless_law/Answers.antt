use Rattle.view_laws.proofs.SpacelessLaws.{spaceless_answer, spaceless_ready, quiet_spaceless, tell_spaceless, untold_spaceless}
use Rattle.view_laws.proofs.spaceless_law.Goals as goal

pub returns : goal.returns
returns c = record { answer = spaceless_answer; ready = spaceless_ready; quiet = quiet_spaceless; tell = tell_spaceless; untold = untold_spaceless }
