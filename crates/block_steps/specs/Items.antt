-- How the phrases of a block begin, case by case as the code reads it.
use Rattle.std.specs.Prelude.{◌∷◌, Bool, List, Option, Some, None, if◌then◌else◌}
use Rattle.oz_language.specs.Grammar.{Phrase}
use Rattle.oz_language.specs.declared.token.Token.{Token}
use Rattle.reader_law.specs.Machine.{Opener, Stack, guard, block, is_begun, expression_begins, close}

-- where the next phrase is known by no token of its own
abbrev pub other_item : Option Token → Opener → Bool → Bool → Bool → List Phrase → List Phrase → Stack → Option Stack
other_item (Some t) o d s e ds ps k = if is_begun t then guard s (expression_begins t (block o d s ds ps ∷ k)) else close (Some t) o s e ds ps k
other_item None o d s e ds ps k = close None o s e ds ps k
