-- What the best assignments of a finite-domain problem are, by the value of one variable, its cost (CTM 12.1; Schulte, LNCS 2302, on
-- search).
use Rattle.std.specs.Prelude.{ℕ, ℤ, ◌≤ℤ◌, List}
use Rattle.oz_domains.specs.Positions.{value}
use Rattle.fd_problems.specs.declared.problem.Problem.{Problem}
use Rattle.fd_problems.specs.Problems.{Meets}

-- an assignment that meets the problem, and that none betters: the cost of each other one is no smaller
pub record IsOptimum (p : Problem) (cost : ℕ) (t : List ℤ) : Type 0 where
  pub meets : Meets p t
  pub cheapest : (u : List ℤ) → Meets p u → value t cost ≤ℤ value u cost
