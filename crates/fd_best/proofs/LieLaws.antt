-- Which assignments lie below a path: as it gets longer.
use Rattle.std.proofs.Common.{◌≡◌, ℕ, ℤ, Bool, true, false, ◌&&◌, List, [], ◌∷◌, ◌++◌, Option, Some, None, option_and_then, refl, sym, ap, ◌∙◌, subst}
use Rattle.oz_base.specs.Lists.{holds_of}
use Rattle.oz_search.specs.declared.best.Bounded.{Bounded}
use Rattle.fd_problems.specs.declared.problem.Distribution.{Distribution}
use Rattle.fd_bounds.specs.BoundedTrees.{BoundedTree}
use Rattle.fd_best.specs.Parts.{child, part, goes, lies_below}

pub same_tree : (a b : BoundedTree) → Some a ≡ Some b → a ≡ b
same_tree a b e = cc

module _ (d : Distribution) (cost : ℕ) (b : Bounded) (x : List ℤ) where
  abbrev Lies : List Bounded → BoundedTree → Type 0
  Lies p t = lies_below d cost p x t ≡ true

  pub rises : (p : List Bounded) (t : BoundedTree) → Lies (p ++ b ∷ []) t → Lies p t
  rises [] t e = refl
  rises (c ∷ p) t e = by (goes d cost c x t) (child c t) (rises p) e
    where
      by : (g : Bool) (o : Option BoundedTree) → ((u : BoundedTree) → Lies (p ++ b ∷ []) u → Lies p u) → (g && holds_of (lies_below d cost (p ++ b ∷ []) x) o) ≡ true → (g && holds_of (lies_below d cost p x) o) ≡ true
      by true None ih e = absurd (cc)
      by true (Some u) ih e = ih u e
      by false o ih e = e

  at_last : {u : BoundedTree} (t v : BoundedTree) → u ≡ t → goes d cost b x u ≡ true → child b u ≡ Some v → Lies (b ∷ []) t
  at_last {u} t v e g h =
      subst (λ w. (goes d cost b x w && holds_of (lies_below d cost [] x) (child b w)) ≡ true) e
      (ap (λ q. q && holds_of (lies_below d cost [] x) (child b u)) g ∙ ap (λ o. holds_of (lies_below d cost [] x) o) h)

  -- where it lies below a node and goes into an alternative, it lies below that
  pub falls : (p : List Bounded) (t u v : BoundedTree) → Lies p t → part p t ≡ Some u → goes d cost b x u ≡ true → child b u ≡ Some v → Lies (p ++ b ∷ []) t
  falls [] t u v l e g h = at_last t v (sym (same_tree t u e)) g h
  falls (c ∷ p) t u v l e g h = by (goes d cost c x t) (child c t) (λ w k f. falls p w u v k f g h) l e
    where
      by : (q : Bool) (o : Option BoundedTree) → ((w : BoundedTree) → Lies p w → part p w ≡ Some u → Lies (p ++ b ∷ []) w) → (q && holds_of (lies_below d cost p x) o) ≡ true → option_and_then (part p) o ≡ Some u
          → (q && holds_of (lies_below d cost (p ++ b ∷ []) x) o) ≡ true
      by true None ih k f = absurd (cc)
      by true (Some w) ih k f = ih w k f
      by false o ih k f = k
