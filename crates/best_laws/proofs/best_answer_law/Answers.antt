use Rattle.search_law.proofs.OneWorkerLaws.{finishes_law}
use Rattle.fd_form_law.proofs.BestTieLaws.{best_tie_suffices}
use Rattle.fd_tie.proofs.BestTieLaws.{best_tie}
use Rattle.best_laws.proofs.AnswerLaws.{best_answers}
use Rattle.best_laws.proofs.best_answer_law.Goals as goal

pub returns : goal.returns
returns c = best_answers (best_tie_suffices best_tie) finishes_law
