use Rattle.inside_laws.proofs.ContentLaws.{only_merge_adds, run_adds_its_own}
use Rattle.inside_laws.proofs.contents_law.Goals as goal

pub returns : goal.returns
returns c = record { merge = only_merge_adds; run = run_adds_its_own }
