-- Tests of what is kept, as tests of what it is shown as.
use Rattle.std.proofs.Common.{◌≡◌, Bool, ◌||◌, List, [], ◌∷◌, map, refl, ap}
use Rattle.std.specs.List.{list_any}

pub any_shown : {A B : Type 0} (f : A → B) (test : B → Bool) (xs : List A) → list_any test (map f xs) ≡ list_any (λ x. test (f x)) xs
any_shown f test [] = refl
any_shown f test (x ∷ xs) = ap (λ b. test (f x) || b) (any_shown f test xs)
