use Rattle.fd_form_law.proofs.AnswerLaws.{tie_suffices}
use Rattle.fd_form_law.proofs.ProgramLaws.{form_is_problem}
use Rattle.fd_tie.proofs.TieLaws.{tie}
use Rattle.fd_tie.proofs.complete_law.Goals as goal

pub returns : goal.returns
returns c = (tie_suffices form_is_problem).leaves tie
