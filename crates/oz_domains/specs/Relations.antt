-- The relations of propagators, and the tuples that they allow (CTM chapter 12; Schulte, LNCS 2302).
use Rattle.std.specs.Prelude.{◌≡◌, ◌<◌, ◌≤◌, ℕ, ℤ, pos, ◌+ℤ◌, ◌*ℤ◌, ◌≤ℤ◌, neg_ℤ, int_le, int_lt, Bool, true, not, ◌&&◌, List, [], ◌∷◌, length}
use Rattle.std.specs.List.{list_any}
use Rattle.std.specs.Ordering.{int_eq}
use Rattle.oz_base.specs.declared.relation.Linear.{Linear}
use Rattle.oz_base.specs.declared.relation.Relation.{Relation}
use Rattle.oz_base.specs.declared.relation.Relation.TheVariants.{Le, Lt, Eq, Ne, Times, Distinct}
use Rattle.oz_domains.specs.Positions.{value}
use Rattle.oz_base.specs.declared.relation.TheConstants.{MOST_TERMS, LARGEST_COEFFICIENT, LARGEST_CONSTANT}

-- each coefficient times the value at its position, added up
abbrev pub dot : List ℤ → List ℤ → ℤ
dot [] t = pos 0
dot (a ∷ as') [] = pos 0
dot (a ∷ as') (x ∷ t) = a *ℤ x +ℤ dot as' t

abbrev pub sum_at : Linear → List ℤ → ℤ
sum_at l t = l.constant +ℤ dot l.coefficients t

abbrev pub is_product : List ℤ → Bool
is_product t = int_eq (value t 0 *ℤ value t 1) (value t 2)

abbrev pub are_distinct : List ℤ → Bool
are_distinct [] = true
are_distinct (x ∷ t) = not (list_any (int_eq x) t) && are_distinct t

-- whether the relation allows the tuple
abbrev pub allowed : Relation → List ℤ → Bool
allowed (Le l) t = int_le (sum_at l t) (pos 0)
allowed (Lt l) t = int_lt (sum_at l t) (pos 0)
allowed (Eq l) t = int_eq (sum_at l t) (pos 0)
allowed (Ne l) t = not (int_eq (sum_at l t) (pos 0))
allowed Times t = is_product t
allowed Distinct t = are_distinct t

-- ---- the relations that are posted

-- the size of a number is at most the bound
pub record IsSize (bound : ℕ) (number : ℤ) : Type 0 where
  pub low : neg_ℤ (pos bound) ≤ℤ number
  pub high : number ≤ℤ pos bound

-- a linear sum over n positions that keeps to the limits
pub record IsSum (l : Linear) (n : ℕ) : Type 0 where
  pub long : length l.coefficients ≡ n
  pub few : n ≤ MOST_TERMS
  pub constant : IsSize LARGEST_CONSTANT l.constant
  pub each : (i : ℕ) → i < n → IsSize LARGEST_COEFFICIENT (value l.coefficients i)

-- a relation over n positions
abbrev pub Fits : Relation → ℕ → Type 0
Fits (Le l) n = IsSum l n
Fits (Lt l) n = IsSum l n
Fits (Eq l) n = IsSum l n
Fits (Ne l) n = IsSum l n
Fits Times n = n ≡ 3
Fits Distinct n = Unit {0}
