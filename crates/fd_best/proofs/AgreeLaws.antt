-- Tuples that agree on the variables of a problem lie below the same paths.
use Rattle.std.proofs.Common.{◌≡◌, ℕ, zero, suc, ◌<◌, ℤ, cond, not, ◌&&◌, nat_eq, List, [], ◌∷◌, get_or, All, Option, Some, None, refl, ap, arith}
use Rattle.std.proofs.lemmas.List.Elements.{All-head, All-tail}
use Rattle.oz_base.specs.Lists.{holds_of}
use Rattle.oz_base.specs.declared.distribution.Split.{Split}
use Rattle.oz_domains.specs.Positions.{value}
use Rattle.oz_domains.specs.Splits.{passes}
use Rattle.oz_search.specs.declared.best.Bounded.{Bounded}
use Rattle.fd_problems.specs.declared.problem.Distribution.{Distribution}
use Rattle.fd_stores.specs.Choices.{split_variable}
use Rattle.fd_bounds.specs.BoundedTrees.{BoundedTree, Failed, Leaf, Choice}
use Rattle.fd_best.specs.Parts.{child, is_under, takes, goes, lies_below}

index_below : (n i : ℕ) (xs : List ℕ) → 0 < n → All (λ x. x < n) xs → get_or xs i 0 < n
index_below n i [] z a = z
index_below n zero (x ∷ xs) z a = All-head (λ y. y < n) x xs a
index_below n (suc i) (x ∷ xs) z a = index_below n i xs z (All-tail (λ y. y < n) x xs a)

module _ (d : Distribution) (cost n : ℕ) (w : All (λ x. x < n) d.over) (l : cost < n) (x y : List ℤ) (a : (i : ℕ) → i < n → value x i ≡ value y i) where
  takes_same : (s : Split) (i : ℕ) → takes d s i x ≡ takes d s i y
  takes_same s i = ap (λ v. cond (nat_eq i 1) (passes s.test v) (not (passes s.test v))) (a (split_variable d s) (index_below n s.var d.over (omega (arith, l)) w))

  goes_same : (b : Bounded) (t : BoundedTree) → goes d cost b x t ≡ goes d cost b y t
  goes_same b Failed = refl
  goes_same b (Leaf m) = refl
  goes_same b (Choice s u v) = λ k. takes_same s b.alternative k && is_under (a cost l k) b.bound

  holds_same : (q : List Bounded) → ((t : BoundedTree) → lies_below d cost q x t ≡ lies_below d cost q y t) → (o : Option BoundedTree) → holds_of (lies_below d cost q x) o ≡ holds_of (lies_below d cost q y) o
  holds_same q ih None = refl
  holds_same q ih (Some t) = ih t

  pub lies_same : (q : List Bounded) (t : BoundedTree) → lies_below d cost q x t ≡ lies_below d cost q y t
  lies_same [] t = refl
  lies_same (b ∷ q) t = λ k. goes_same b t k && holds_same q (lies_same q) (child b t) k
