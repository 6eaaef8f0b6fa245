-- No phrase of a block ends outside a block.
use Rattle.std.proofs.Common.{◌≡◌, Bool, ◌∷◌, false, refl, Option, None}
use Rattle.oz_language.specs.Grammar.{Phrase}
use Rattle.oz_language.specs.declared.token.Token.{Token}
use Rattle.reader_law.specs.Machine.{block, Stack, item_over}
use Rattle.open_constructs.specs.View.{is_in_block}

pub over_outside : (t : Option Token) (p : Phrase) (s e : Bool) (k : Stack) → is_in_block k ≡ false → item_over t p s e k ≡ None
over_outside t p s e (block o d b ds ps ∷ k) h = absurd (cc)
over_outside t p s e k h = refl
