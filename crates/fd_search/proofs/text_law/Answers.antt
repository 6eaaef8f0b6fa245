use Rattle.fd_search.proofs.TextLaws as texts
use Rattle.fd_search.proofs.text_law.Goals as goal

pub returns : goal.returns
returns c = texts.texts_law
