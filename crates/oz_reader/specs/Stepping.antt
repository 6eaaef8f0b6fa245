-- What one more token does, as the code goes about it.
use Rattle.std.specs.Prelude.{Bool, Option, Some, None}
use Rattle.oz_language.specs.Grammar.{Phrase}
use Rattle.oz_language.specs.declared.token.Token.{Token}
use Rattle.reader_law.specs.Machine.{Frame, accepted, Stack, guard, shift_in, kind_of}

-- an operator behind a phrase
abbrev pub shift : Token → Phrase → Bool → Bool → Stack → Option Stack
shift t p s e k = guard e (shift_in (kind_of k) t p s k)

-- the program, where one is accepted
abbrev pub program_of : Frame → Option Phrase
program_of (accepted p) = Some p
program_of f = None
