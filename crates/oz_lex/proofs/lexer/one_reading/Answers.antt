use Rattle.oz_lex.proofs.Readings.{one_reading}
use Rattle.oz_lex.proofs.lexer.one_reading.Goals as goal

pub returns : goal.returns
returns c = one_reading
