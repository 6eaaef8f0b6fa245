-- What the assignments of a finite-domain problem are (CTM 12.3; Schulte, LNCS 2302, chapter 2).
use Rattle.std.specs.Prelude.{◌≡◌, ℕ, ℤ, pos, ◌+ℤ◌, ◌*ℤ◌, int_le, int_lt, Bool, true, not, ◌&&◌, List, [], ◌∷◌, length, map, Contains}
use Rattle.std.specs.List.{list_all}
use Rattle.std.specs.Ordering.{int_eq, int_cmp}
use Rattle.std.specs.Cmp.Lexicographic.{slice_cmp}
use Rattle.std.specs.declared.cmp.Ordering.TheVariants.{Less}
use Rattle.oz_base.specs.declared.interval.TheConstants.{GREATEST_VALUE}
use Rattle.oz_language.specs.declared.kernel.Sign.{Sign}
use Rattle.oz_language.specs.declared.kernel.Sign.TheVariants.{Zero, NotZero, Negative, NotPositive}
use Rattle.oz_domains.specs.Positions.{value, AreValues}
use Rattle.oz_domains.specs.Relations.{are_distinct}
use Rattle.fd_problems.specs.declared.problem.Term.{Term}
use Rattle.fd_problems.specs.declared.problem.Term.TheVariants.{Multiple, Product}
use Rattle.fd_problems.specs.declared.problem.Item.{Item}
use Rattle.fd_problems.specs.declared.problem.Item.TheVariants.{Within, Compares, Different}
use Rattle.fd_problems.specs.declared.problem.Problem.{Problem}

-- An assignment is an integer for each variable, in the order of the variables

abbrev pub term_value : List ℤ → Term → ℤ
term_value t (Multiple a x) = a *ℤ value t x
term_value t (Product a x y) = a *ℤ (value t x *ℤ value t y)

abbrev pub terms_sum : List ℤ → List Term → ℤ
terms_sum t [] = pos 0
terms_sum t (m ∷ ms) = term_value t m +ℤ terms_sum t ms

abbrev pub compares : Sign → ℤ → Bool
compares Zero s = int_eq s (pos 0)
compares NotZero s = not (int_eq s (pos 0))
compares Negative s = int_lt s (pos 0)
compares NotPositive s = int_le s (pos 0)

-- the values of these variables
abbrev pub values_at : List ℤ → List ℕ → List ℤ
values_at t xs = map (value t) xs

-- a product is a domain value
abbrev pub product_fits : List ℤ → Term → Bool
product_fits t (Multiple a x) = true
product_fits t (Product a x y) = int_le (value t x *ℤ value t y) GREATEST_VALUE

abbrev pub holds : List ℤ → Item → Bool
holds t (Within x low high) = int_le low (value t x) && int_le (value t x) high
holds t (Compares c k ms) = compares c (k +ℤ terms_sum t ms) && list_all (product_fits t) ms
holds t (Different xs) = are_distinct (values_at t xs)

-- a domain value for each variable, of which all items hold
pub record Meets (p : Problem) (t : List ℤ) : Type 0 where
  pub long : length t ≡ p.count
  pub values : AreValues t
  pub each : (i : Item) → Contains p.items i → holds t i ≡ true

-- left of another in lexicographic order
abbrev pub IsLeft : List ℤ → List ℤ → Type 0
IsLeft t u = slice_cmp int_cmp t u ≡ Less

-- an assignment in the order of the distributed variables
abbrev pub IsAnswer : Problem → List ℤ → Type 0
IsAnswer p u = (t : List ℤ) × Meets p t × (values_at t p.distribution.over ≡ u)
