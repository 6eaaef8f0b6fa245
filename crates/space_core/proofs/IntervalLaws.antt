-- Intervals that are compared.
use Rattle.std.proofs.Common.{◌≡◌, Bool, ◌&&◌, List, [], ◌∷◌, refl, ap₂}
use Rattle.std.proofs.lemmas.Cmp.{int_eq_equiv}
use Rattle.oz_base.specs.declared.interval.Interval.{Interval}
use Rattle.oz_domains.specs.Domains.{intervals_eq}

-- in the other order
pub swapped : (is js : List Interval) → intervals_eq is js ≡ intervals_eq js is
swapped [] [] = refl
swapped [] (j ∷ js) = refl
swapped (i ∷ is) [] = refl
swapped (i ∷ is) (j ∷ js) =
    ap₂ (λ (a b : Bool). a && b) (ap₂ (λ (a b : Bool). a && b) (int_eq_equiv.symm i.low j.low) (int_eq_equiv.symm i.high j.high)) (swapped is js)
