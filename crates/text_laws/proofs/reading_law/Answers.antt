use Rattle.text_laws.proofs.TermLaws.{constants_read, terms_read}
use Rattle.text_laws.proofs.RenameLaws.{terms_read_anew}
use Rattle.text_laws.proofs.OwnWords.{words_stand, terms_read_alone}
use Rattle.text_laws.proofs.reading_law.Goals as goal

pub returns : goal.returns
returns c = record { constants = constants_read; terms = terms_read; anew = terms_read_anew; alone = terms_read_alone; words = words_stand }
