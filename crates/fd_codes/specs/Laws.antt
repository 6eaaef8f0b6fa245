-- The law of the kernel code of a script's statements (translation into the kernel language, CTM 2.6; scripts, CTM 12.2).
use Rattle.std.specs.Prelude.{◌≡◌, ℕ, List, Some}
use Rattle.oz_language.specs.Grammar.{Phrases}
use Rattle.oz_language.specs.Translation.{translated_each}
use Rattle.fd_problems.specs.declared.problem.Item.{Item}
use Rattle.fd_problems.specs.declared.problem.Distribution.{Distribution}
use Rattle.fd_form.specs.FdScripts.{stated}
use Rattle.fd_codes.specs.Codes.{ScriptCode}

-- statements that state these items and then distribute are translated into the code of such a script, whatever the next identifier
abbrev pub ScriptsCoded : Type 0
ScriptsCoded = (words : List (List ℕ)) (root : ℕ) (vs : List ℕ) (n : ℕ) (ss : Phrases) (is : List Item) (d : Distribution)
    → stated root vs ss ≡ Some (is, d) → ScriptCode root vs is d (translated_each words n ss).code
