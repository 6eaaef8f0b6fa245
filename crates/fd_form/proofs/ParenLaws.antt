-- What is read of parentheses round more than one phrase.
use Rattle.std.proofs.Common.{◌≡◌, ℕ, List, [], ◌∷◌, length, ◌≤◌, arith}
use Rattle.oz_language.specs.Grammar.{Phrase, Phrases, more, paren, of_list}
use Rattle.oz_syntax.specs.View.{view, views}
use Rattle.oz_syntax.specs.declared.phrase.Phrase.{Phrase as Tree}

pub of_many : {A : Type 0} (read : Phrase → A) (a : A) (at : ℕ) (ps : List Tree) → 2 ≤ length ps →
    ((p q : Phrase) (es : Phrases) → a ≡ read (paren at (more p (more q es)))) → a ≡ read (paren at (of_list (views ps)))
of_many read a at [] h by = absurd (omega (arith, h))
of_many read a at (p ∷ []) h by = absurd (omega (arith, h))
of_many read a at (p ∷ q ∷ ps) h by = by (view p) (view q) (of_list (views ps))
