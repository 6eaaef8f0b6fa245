-- The top is above all spaces, and below none.
use Rattle.std.proofs.Common.{◌≡◌, ℕ, true, false, List, [], ◌∷◌, refl}
use Rattle.std.proofs.lemmas.Bool.{false≢true}
use Rattle.oz_base.specs.Lists.{is_empty}
use Rattle.oz_semantics.specs.Names.{is_below, is_properly_below}

pub top_above : (s t : List ℕ) → is_empty s ≡ true → is_below s t ≡ true
top_above [] t e = refl
top_above (n ∷ s) t e = absurd (false≢true e)

pub none_above_top : (s t : List ℕ) → is_empty t ≡ true → is_properly_below s t ≡ false
none_above_top [] [] e = refl
none_above_top (n ∷ s) [] e = refl
none_above_top [] (m ∷ t) e = absurd (false≢true e)
none_above_top (n ∷ s) (m ∷ t) e = absurd (false≢true e)
