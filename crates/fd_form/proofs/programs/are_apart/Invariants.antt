use Rattle.std.proofs.Common.{◌≡◌, [], ◌∷◌, drop}
use Rattle.fd_form.specs.FdScripts.{are_apart}
use Rattle.fd_form.specs.Parts.{fd_word, script_word}
use Rattle.fd_form.proofs.programs.are_apart.Given as goal

abbrev pub invariant-names : goal.invariant-names
invariant-names l = are_apart l.seen (drop l.name-index l.names) ≡ are_apart (l.fn.root ∷ script_word ∷ fd_word ∷ []) l.names
