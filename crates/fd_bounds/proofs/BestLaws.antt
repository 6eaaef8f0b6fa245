-- The least cost of a problem.
use Rattle.std.proofs.Common.{◌≡◌, ℕ, ◌<◌, ℤ, pos, ◌≤ℤ◌, List, ◌++◌, length, map, Contains, Option, ◌∙◌, subst, arith}
use Rattle.std.proofs.lemmas.List.{get_or-map, get_or-take, get_or_append_left}
use Rattle.std.specs.FinSet as set
use Rattle.oz_domains.specs.Domains.{least}
use Rattle.oz_domains.specs.Positions.{value}
use Rattle.fd_problems.specs.declared.problem.Problem.{Problem}
use Rattle.fd_problems.specs.Problems.{Meets}
use Rattle.fd_stores.specs.Stores.{Store}
use Rattle.fd_trees.specs.Trees.{Tree, leaves}
use Rattle.fd_trees.specs.Scripts.{IsProblem, constraints, start, tuple_at}
use Rattle.fd_trees.proofs.ExtensionLaws.{product_values}
use Rattle.fd_trees.proofs.ScriptLaws.{long, search, follows, solves_meets, meets_solves}
use Rattle.fd_bounds.specs.Bounds.{IsBounded, AreCosts, cost_of, BestAnswerLaw}
use Rattle.fd_bounds.proofs.BoundLaws.{bounded_leaves, best_law, bounded_law}

module _ (p : Problem) (cost : ℕ) (u : Option ℤ) (t : Tree) (bs : List ℤ) (h : IsProblem p) (l : cost < p.count) (i : IsBounded (constraints p) p.distribution cost u (start p) t bs) where
  inside : cost < length (start p)
  inside = (let e = long p h in omega (arith, l))

  leaf_meets : (m : Store) → Contains (leaves t) m → Meets p (tuple_at p m)
  leaf_meets m c = solves_meets p h (map least m) (bounded_law (constraints p) p.distribution cost u (start p) t bs (search p h) inside (follows p h) i m c)

  leaf_cost : (m : Store) → Contains (leaves t) m → value (tuple_at p m) cost ≡ cost_of cost m
  leaf_cost m c =
      let s = search p h in
      let e = (bounded_leaves (constraints p) p.distribution cost u (start p) t bs s.over s.within inside i).ends m c in
      let q = e.parts in
      get_or-take p.count (map least m) cost (pos 0) l ∙ get_or-map least m cost set.empty (pos 0) (let k = q.long in let j = inside in omega arith)

  none_cheaper : AreCosts cost t bs → (v : List ℤ) → Meets p v → (m : Store) × Contains (leaves t) m × (cost_of cost m ≤ℤ value v cost)
  none_cheaper a v k =
      let more = product_values v p.items in
      let f = best_law (constraints p) p.distribution cost u (start p) t bs (search p h) inside (follows p h cost inside) i a (v ++ more) (meets_solves p h v k) in
      (f.0, f.1, subst (λ z. cost_of cost f.0 ≤ℤ z) (get_or_append_left v more (pos 0) cost (let e = k.long in omega (arith, l))) f.2)

pub best_answer_law : BestAnswerLaw
best_answer_law p cost u t bs h l i a = record { meets = λ m c. (leaf_meets p cost u t bs h l i m c, leaf_cost p cost u t bs h l i m c); cheapest = none_cheaper p cost u t bs h l i a }
