-- Patterns in parentheses.
use Rattle.std.proofs.Common.{◌≡◌, ℕ, List, [], ◌∷◌, length, get_or, refl, ap}
use Rattle.oz_language.specs.Grammar.{Phrases, nothing, more, paren, of_list}
use Rattle.oz_language.specs.Kernels.{pieces}
use Rattle.oz_language.specs.declared.kernel.Piece.TheVariants as piece
use Rattle.oz_language.specs.Translation.{patterned}
use Rattle.oz_syntax.specs.declared.phrase.Phrase.{Phrase as Tree}
use Rattle.oz_syntax.specs.View.{view, views}

pub paren_one : (words : List (List ℕ)) (ps : List Tree) (p : Tree) → length ps ≡ 1 → p ≡ get_or ps 0 p →
    pieces (patterned words (view p)) ≡ pieces (patterned words (paren 0 (of_list (views ps))))
paren_one words (q ∷ []) p one e = ap (λ r. pieces (patterned words (view r))) e
paren_one words [] p one e = absurd (cc)
paren_one words (q ∷ r ∷ ps) p one e = absurd (cc)

pub paren_others : (words : List (List ℕ)) (ps : List Tree) → (length ps ≡ 1 → ⊥) → piece.Any ∷ [] ≡ pieces (patterned words (paren 0 (of_list (views ps))))
paren_others words [] other = refl
paren_others words (q ∷ []) other = absurd (other refl)
paren_others words (q ∷ r ∷ ps) other = refl

pub paren_anywhere : (words : List (List ℕ)) (at : ℕ) (ps : Phrases) → pieces (patterned words (paren 0 ps)) ≡ pieces (patterned words (paren at ps))
paren_anywhere words at nothing = refl
paren_anywhere words at (more p nothing) = refl
paren_anywhere words at (more p (more q ps)) = refl
