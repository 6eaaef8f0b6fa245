use Rattle.settle_laws.proofs.ContentLaws.{settled_content, step_content, turn_content, followed_content, opening_content}
use Rattle.settle_laws.proofs.content_law.Goals as goal

pub returns : goal.returns
returns c = record { settled = settled_content; step = step_content; turn = turn_content; followed = followed_content; opening = opening_content }
