-- Children, by the last number of their names.
use Rattle.std.proofs.Common.{◌≡◌, ℕ, List, [], ◌∷◌, ◌++◌, refl, ap}
use Rattle.oz_base.specs.Lists.{list_eq}
use Rattle.oz_semantics.specs.Names.{parent_of, is_child_of}

parent_before : (p : List ℕ) (n : ℕ) → parent_of (p ++ n ∷ []) ≡ p
parent_before [] n = refl
parent_before (a ∷ []) n = refl
parent_before (a ∷ b ∷ p) n = ap (λ ns. a ∷ ns) (parent_before (b ∷ p) n)

pub child_after : (s p : List ℕ) (n : ℕ) → is_child_of s (p ++ n ∷ []) ≡ list_eq p s
child_after s [] n = refl
child_after s (a ∷ p) n = ap (λ q. list_eq q s) (parent_before (a ∷ p) n)
