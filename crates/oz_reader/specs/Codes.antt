-- Programs as numbers, by which proofs tell them apart.
use Rattle.std.specs.Prelude.{ℕ, List, refl}
use Rattle.std.specs.Coded.{Coded, code_by, coded×, coded_list, coded_ℕ}
use Rattle.oz_language.specs.Grammar.{Phrase}
use Rattle.oz_language.specs.Refusals.{Program}
use Rattle.oz_syntax.specs.Codes.{phrase_code}

-- a program is told apart by its words and its phrase
abbrev pub program_code : Coded Program
program_code =
    code_by (List (List ℕ) × Phrase) (coded× (coded_list (coded_list coded_ℕ)) phrase_code) (λ p. (p.words, p.phrase)) (λ p. record { words = p.0; phrase = p.1 }) (λ _. refl)
