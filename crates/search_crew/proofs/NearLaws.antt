-- What there is at a path, by the node before it.
use Rattle.std.proofs.Common.{◌≡◌, List, Result, IfOk, sym, subst}
use Rattle.oz_search.specs.Searches.{Search}
use Rattle.oz_search.specs.Nodes.{Maker}
use Rattle.oz_semantics.specs.declared.configuration.Configuration.{Configuration}
use Rattle.recompute.specs.Origins.{Origin, met_by}
use Rattle.recompute.specs.Ways.{answer_of}
use Rattle.recompute.specs.declared.explorer.Solved.{Solved}

module _ {T B L : Type 0} (k : Search B L) (maker : T → Maker B L Configuration) (origin : T → Origin) where
  -- what is answered for the path p with all the steps that there are for the search of x
  abbrev pub answer_at : T → List B → Solved L
  answer_at x p = answer_of (met_by k (maker x) (origin x) (origin x).budget p)

  -- it was found at a path that is q, in a search that starts at x
  pub solved_there : {F E : Type 0} (solved : F → Solved L) (r : Result F E) (x s : T) (p q : List B) → x ≡ s → p ≡ q
      → IfOk r (λ f. solved f ≡ answer_at s p) → IfOk r (λ f. solved f ≡ answer_at x q)
  solved_there {F} {E} solved r x s p q start path found =
      subst (λ (t : T). IfOk r (λ f. solved f ≡ answer_at t q)) (sym start)
      (subst (λ (y : List B). IfOk r (λ f. solved f ≡ answer_at s y)) path found)
