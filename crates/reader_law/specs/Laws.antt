-- What the machine has to do with the grammar.
use Rattle.std.specs.Prelude.{◌≡◌, ◌↔◌, List, Some}
use Rattle.oz_language.specs.declared.token.Token.{Token}
use Rattle.oz_language.specs.Grammar.{Phrase, Derives, Begins}
use Rattle.reader_law.specs.Machine.{Stack, start, run, parse}

-- it accepts exactly what the grammar derives
abbrev pub ParsesLaw : Type 0
ParsesLaw = (ts : List Token) (p : Phrase) → Derives ts p ↔ (parse ts ≡ Some p)

-- it goes through tokens exactly where some program begins with them
abbrev pub BeginsLaw : Type 0
BeginsLaw = (ts : List Token) → Begins ts ↔ ((k : Stack) × (run (Some start) ts ≡ Some k))
