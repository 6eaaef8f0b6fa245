use Rattle.text_laws.proofs.OnceLaws.{read_once, texts_tell}
use Rattle.text_laws.proofs.once_law.Goals as goal

pub returns : goal.returns
returns c = record { once = read_once; tells = texts_tell }
