use Rattle.fd_tie.proofs.TieLaws.{fd_reply}
use Rattle.fd_tie.proofs.reply_law.Goals as goal

pub returns : goal.returns
returns c = fd_reply
