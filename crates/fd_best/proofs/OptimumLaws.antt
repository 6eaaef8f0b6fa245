-- A finished history of best search has found an optimum.
use Rattle.std.proofs.Common.{◌≡◌, ⊎_elim, ◌⊎◌, inl, inr, ℕ, ◌<◌, ℤ, ◌≤ℤ◌, List, [], ◌∷◌, ◌++◌, Contains, Option, Some, None, refl, sym, ◌∙◌, ap, subst}
use Rattle.std.specs.List.{fold}
use Rattle.oz_domains.specs.Positions.{value}
use Rattle.oz_search.specs.declared.best.Bounded.{Bounded}
use Rattle.oz_search.specs.declared.best.Costed.{Costed}
use Rattle.oz_search.specs.declared.leaf.Outcome.TheVariants as outcome
use Rattle.oz_search.specs.declared.history.Entry.TheVariants as entries
use Rattle.oz_search.specs.declared.tree.Kind.TheVariants.{End}
use Rattle.oz_search.specs.Trees.{Costs, report}
use Rattle.oz_search.specs.Nodes.{Fuelled, IsFuelled}
use Rattle.oz_search.specs.Histories.{IsLegal, IsNothingOpen, IsNothingOut}
use Rattle.oz_search.specs.Best.{BestEntry, best, best_after, best_of, cost_of}
use Rattle.search_law.specs.BestLaw.{IsLeast}
use Rattle.search_law.proofs.Costs.{lesser_one}
use Rattle.search_law.proofs.Bests as bests
use Rattle.fd_problems.specs.declared.problem.Problem.{Problem}
use Rattle.fd_problems.specs.Problems.{Meets}
use Rattle.fd_problems.specs.Optima.{IsOptimum}
use Rattle.fd_stores.proofs.Lists.{contains_none, contains_head, contains_tail, contains_cases}
use Rattle.fd_trees.specs.Scripts.{IsProblem, tuple_at}
use Rattle.fd_bounds.specs.BoundedTrees.{BoundedTree, Failed, Leaf, Choice}
use Rattle.fd_best.specs.Parts.{Assignment, cost_at, part, solved_leaf, IsKind, ShowsTree}
use Rattle.fd_best.specs.Laws.{IsTreeOf, has_below, Finds, OptimumLaw}
use Rattle.fd_best.proofs.SolvesLaws.{same_cost, failed_cost, leaf_meets, solves_law}

-- ---- the least cost of a history is that of one of its leaves

abbrev LeafOf : List BestEntry → ℤ → Type 0
LeafOf h c = (w : ℕ) × (q : List Bounded) × (l : Costed) × (s : ℕ) × Contains h (entries.Leaf w q l s) × (cost_of l ≡ Some c)

leaf_later : (e : BestEntry) (h : List BestEntry) (c : ℤ) → LeafOf h c → LeafOf (e ∷ h) c
leaf_later e h c f = (f.0, f.1, f.2, f.3, contains_tail e (entries.Leaf f.0 f.1 f.2 f.3) h f.4, f.5)

leaf_from : (h : List BestEntry) (b : Option ℤ) (c : ℤ) → fold best_after b h ≡ Some c → (b ≡ Some c) ⊎ LeafOf h c
leaf_from [] b c e = inl e
leaf_from (entries.Claim w p ∷ h) b c e = ⊎_elim (λ f. inl f) (λ f. inr (leaf_later (entries.Claim w p) h c f)) (leaf_from h b c e)
leaf_from (entries.Split w p n s ∷ h) b c e = ⊎_elim (λ f. inl f) (λ f. inr (leaf_later (entries.Split w p n s) h c f)) (leaf_from h b c e)
leaf_from (entries.Leaf w p l s ∷ h) b c e =
    ⊎_elim
    (λ f. ⊎_elim (λ k. inl k) (λ g. inr (w, p, l, s, contains_head (entries.Leaf w p l s) h, g)) (lesser_one b (cost_of l) c f))
    (λ f. inr (leaf_later (entries.Leaf w p l s) h c f))
    (leaf_from h (best_after b (entries.Leaf w p l s)) c e)
leaf_from (entries.Stop x ∷ h) b c e = ⊎_elim (λ f. inl f) (λ f. inr (leaf_later (entries.Stop x) h c f)) (leaf_from h b c e)

no_cost : {P : Type 0} (c : ℤ) → ◌≡◌ {A = Option ℤ} None (Some c) → P
no_cost c e = absurd (cc (e))

least_leaf : (h : List BestEntry) (c : ℤ) → best_of h ≡ Some c → LeafOf h c
least_leaf h c e = ⊎_elim (λ f. no_cost c f) (λ f. f) (leaf_from h None c e)

-- ---- what stands before and after an entry

cut_at : (h : List BestEntry) (e : BestEntry) → Contains h e → (b : List BestEntry) × (a : List BestEntry) × (h ≡ b ++ e ∷ a)
cut_at [] e c = absurd (contains_none e c)
cut_at (x ∷ h) e c =
    ⊎_elim
    (λ f. ([], h, ap (λ z. z ∷ h) f))
    (λ f. let r = cut_at h e f in (x ∷ r.0, r.1, ap (λ z. x ∷ z) r.2))
    (contains_cases x e h c)

same_least : (b : Option ℤ) (c w v : ℤ) → b ≡ Some c → b ≡ Some w → w ≤ℤ v → c ≤ℤ v
same_least b c w v e f l = subst (λ z. z ≤ℤ v) (same_cost w c (sym f ∙ e)) l

-- ---- the law

module _ (p : Problem) (cost : ℕ) (text : List ℤ → List ℕ) (within : Fuelled Bounded Costed) (budget : ℕ) (t : BoundedTree) (h : List BestEntry) (problem : IsProblem p) (l : cost < p.count) (i : IsTreeOf p cost t)
    (fuelled : IsFuelled best within) (shows : ShowsTree (solved_leaf text p cost) (within budget) t) (legal : IsLegal within best budget h) (open_none : IsNothingOpen best h) (out_none : IsNothingOut best h) where
  all_cost : Costs (within budget)
  all_cost q r e = (fuelled.costs budget q r e).0

  is_least : IsLeast {A = Assignment p} (cost_at p cost) (has_below p cost t) (best_of h)
  is_least = bests.best_law (Assignment p) within budget (cost_at p cost) (has_below p cost t) (solves_law p cost text (within budget) t problem l i shows) all_cost h legal open_none out_none

  no_assignment : best_of h ≡ None → (v : List ℤ) → Meets p v → ⊥
  no_assignment e v m = (let k = is_least.least (v, m) refl in no_cost k.0 (sym e ∙ k.1))

  none_cheaper : (c : ℤ) → best_of h ≡ Some c → (v : List ℤ) → Meets p v → c ≤ℤ value v cost
  none_cheaper c e v m = (let k = is_least.least (v, m) refl in same_least (best_of h) c k.0 (value v cost) e k.1 k.2)

  abbrev Shown : Costed → ℤ → Type 0
  Shown o c = (v : List ℤ) × IsOptimum p cost v × (value v cost ≡ c) × (o.outcome ≡ outcome.Solved (text v))

  shown_at : (q : List Bounded) (o : Costed) (c : ℤ) (u : BoundedTree) → part q t ≡ Some u → IsKind (solved_leaf text p cost) u (End o) → cost_of o ≡ Some c → best_of h ≡ Some c → Shown o c
  shown_at q o c Failed e k f g = absurd (failed_cost o.outcome o.cost c k f)
  shown_at q o c (Leaf m) e k f g =
      let v = tuple_at p m in
      let same : value v cost ≡ c = same_cost (value v cost) c (sym (ap cost_of k) ∙ f) in (
        v,
        record { meets = leaf_meets p cost text t problem l i q m e; cheapest = λ u n. subst (λ z. z ≤ℤ value u cost) (sym same) (none_cheaper c g u n) },
        same,
        ap (λ (z : Costed). z.outcome) k,
      )
  shown_at q o c (Choice s f' g') e k f g = absurd k

  leaf_shown : (w : ℕ) (q : List Bounded) (o : Costed) (s : ℕ) (c : ℤ) → Contains h (entries.Leaf w q o s) → cost_of o ≡ Some c → best_of h ≡ Some c → Shown o c
  leaf_shown w q o s c k f g =
      let r = cut_at h (entries.Leaf w q o s) k in
      let told : within budget q ≡ Some (report (End o) s) = legal.1 r.0 (entries.Leaf w q o s) r.1 r.2 in
      let n = shows q (report (End o) s) told in
      shown_at q o c n.0 n.1 n.2 f g

  finds : Finds p cost text h
  finds = record { none = no_assignment; some = least_leaf h; shown = leaf_shown }

pub optimum_law : OptimumLaw
optimum_law p cost text within budget t h problem l i fuelled shows legal open_none out_none = finds p cost text within budget t h problem l i fuelled shows legal open_none out_none
