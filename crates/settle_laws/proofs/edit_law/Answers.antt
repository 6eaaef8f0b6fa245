use Rattle.settle_laws.proofs.EditLaws.{edits_join, edits_agree, term_settles, committing_parts, are_quiet, quiet_there, quiet_view, pop_view}
use Rattle.settle_laws.proofs.edit_law.Goals as goal

pub returns : goal.returns
returns c = record { join = edits_join; agree = edits_agree; term = term_settles; committing = committing_parts; quiet = are_quiet; there = quiet_there; seen = quiet_view; pop = pop_view }
