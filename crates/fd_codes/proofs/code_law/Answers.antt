use Rattle.fd_codes.proofs.StatementCodes.{scripts_coded}
use Rattle.fd_codes.proofs.code_law.Goals as goal

pub returns : goal.returns
returns c = scripts_coded
