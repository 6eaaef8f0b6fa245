-- When phrases are one alone.
use Rattle.std.proofs.Common.{◌≡◌, ◌≢◌, List, [], ◌∷◌, length, true, false, refl, arith}
use Rattle.oz_syntax.specs.declared.phrase.Phrase.{Phrase as Tree}
use Rattle.oz_language.specs.Grammar.{is_single, of_list}
use Rattle.oz_syntax.specs.View.{views}

pub single_views : (ps : List Tree) → length ps ≡ 1 → is_single (of_list (views ps)) ≡ true
single_views [] h = absurd (omega arith)
single_views (p ∷ []) h = refl
single_views (p ∷ (q ∷ ps)) h = absurd (omega arith)

pub not_single_views : (ps : List Tree) → length ps ≢ 1 → is_single (of_list (views ps)) ≡ false
not_single_views [] h = refl
not_single_views (p ∷ []) h = absurd (h refl)
not_single_views (p ∷ (q ∷ ps)) h = refl
