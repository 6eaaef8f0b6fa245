use Rattle.view_laws.proofs.SightLaws.{change_unseen, quiet_unseen, tell_seen, end_unseen, failure_unseen, raise_unseen, creation_unseen, commitment_unseen, commitment_seen, view_splits}
use Rattle.view_laws.proofs.ChoiceLaws.{committed_consistent}
use Rattle.view_laws.proofs.sight_law.Goals as goal

pub returns : goal.returns
returns c =
    record { change = change_unseen; quiet = quiet_unseen; tell = tell_seen; end = end_unseen; failure = failure_unseen; raised = raise_unseen; creation = creation_unseen; commitment = commitment_unseen; committed = commitment_seen; consistent = committed_consistent; split = view_splits }
