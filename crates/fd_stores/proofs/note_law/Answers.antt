use Rattle.fd_stores.proofs.NoteLaws.{notes_stand, told_stays}
use Rattle.fd_stores.proofs.note_law.Goals as goal

pub returns : goal.returns
returns c = record { notes = notes_stand; told = told_stays }
