-- Nodes that show the tree of a problem agree with its assignments.
use Rattle.std.proofs.Common.{◌≡◌, ℕ, ◌<◌, ◌≤◌, ℤ, pos, ◌≤ℤ◌, int_lt, Bool, true, false, not, ◌&&◌, List, [], ◌∷◌, ◌++◌, length, map, Option, Some, None, refl, sym, ◌∙◌, ap, subst, arith}
use Rattle.std.specs.Prelude.{◌<ℤ◌}
use Rattle.std.specs.FinSet as set
use Rattle.std.proofs.lemmas.Int.{ints}
use Rattle.std.proofs.lemmas.List.{get_or-map, get_or-take, get_or_append_left}
use Rattle.oz_base.specs.declared.distribution.Split.{Split}
use Rattle.oz_domains.specs.Domains.{least}
use Rattle.oz_domains.specs.Positions.{domain, value}
use Rattle.oz_domains.specs.Splits.{passes}
use Rattle.oz_search.specs.declared.best.Bounded.{Bounded}
use Rattle.oz_search.specs.declared.best.Costed.{Costed}
use Rattle.oz_search.specs.declared.leaf.Outcome.{Outcome}
use Rattle.oz_search.specs.declared.leaf.Outcome.TheVariants as outcome
use Rattle.oz_search.specs.declared.tree.Kind.TheVariants.{Alternatives, End}
use Rattle.oz_search.specs.Trees.{Tree, report}
use Rattle.oz_search.specs.Best.{cost_by, cost_of}
use Rattle.oz_search.specs.Plain.{is_failed}
use Rattle.search_law.specs.BestLaw.{IsUnder, bounded, Solves}
use Rattle.search_law.proofs.Costs.{cost_itself}
use Rattle.propagators.proofs.StepLaws.{parts_refl}
use Rattle.fd_problems.specs.declared.problem.Problem.{Problem}
use Rattle.fd_problems.specs.Problems.{Meets}
use Rattle.fd_stores.specs.Stores as stores
use Rattle.fd_stores.specs.Choices.{split_variable}
use Rattle.fd_stores.proofs.Sets.{single_value}
use Rattle.fd_stores.proofs.StoreLaws.{tuple_in}
use Rattle.fd_stores.proofs.RunLaws.{solves_parts}
use Rattle.fd_trees.specs.Laws.{IsEnd}
use Rattle.fd_trees.specs.Scripts.{IsProblem, constraints, start, tuple_at}
use Rattle.fd_trees.proofs.EndLaws.{Within}
use Rattle.fd_trees.proofs.AnswerLaws.{follows_single, solved_end}
use Rattle.fd_trees.proofs.ExtensionLaws.{product_values}
use Rattle.fd_trees.proofs.ScriptLaws.{long, over, search, follows, solves_meets, meets_solves}
use Rattle.fd_bounds.specs.BoundedTrees.{BoundedTree, Failed, Leaf, Choice}
use Rattle.fd_best.specs.Parts.{Assignment, cost_at, is_under, part, lies_below, solved_leaf, IsKind, ShowsTree}
use Rattle.fd_best.specs.Laws.{IsTreeOf, has_below, SolvesLaw}
use Rattle.fd_best.proofs.LieLaws as lie
use Rattle.fd_best.proofs.AgreeLaws.{lies_same}
use Rattle.fd_best.proofs.PathLaws.{Place, Stands, placed, stands, stands_not, stands_leaf, leaf_end, back}

-- ---- costs

pub same_cost : (a b : ℤ) → Some a ≡ Some b → a ≡ b
same_cost a b e = cc

-- a leaf that has failed has no cost
pub failed_cost : (o : Outcome) (c : Option ℤ) (v : ℤ) → is_failed o ≡ true → cost_by o c ≡ Some v → ⊥
failed_cost outcome.Failed c v h e = cc (e)
failed_cost (outcome.Solved t) c v h e = cc (h)
failed_cost (outcome.Stuck t) c v h e = cc (h)
failed_cost (outcome.Raised t) c v h e = cc (h)
failed_cost outcome.Suspended c v h e = cc (h)

lt_holds : (a b : ℤ) → a <ℤ b → int_lt a b ≡ true
lt_holds a b l = grind (arith, ints)

under_of : (v : ℤ) (o : Option ℤ) → IsUnder v o → is_under v o ≡ true
under_of v None h = refl
under_of v (Some b) h = lt_holds v b h

no_more : (v w : ℤ) → v ≡ w → v ≤ℤ w
no_more v w e = subst (λ z. v ≤ℤ z) e (cost_itself v)

-- what an end of a path shows
end_shown : (shown : stores.Store → Costed) (node : Tree Bounded Costed) (t : BoundedTree) → ShowsTree shown node t → (q : List Bounded) (l : Costed) (s : ℕ) → node q ≡ Some (report (End l) s)
    → (u : BoundedTree) × (part q t ≡ Some u) × IsKind shown u (End l)
end_shown shown node t f q l s e = f q (report (End l) s) e

choice_shown : (shown : stores.Store → Costed) (node : Tree Bounded Costed) (t : BoundedTree) → ShowsTree shown node t → (q : List Bounded) (n s : ℕ) → node q ≡ Some (report (Alternatives n) s)
    → (u : BoundedTree) × (part q t ≡ Some u) × IsKind shown u (Alternatives n)
choice_shown shown node t f q n s e = f q (report (Alternatives n) s) e

module _ (p : Problem) (cost : ℕ) (text : List ℤ → List ℕ) (t : BoundedTree) (h : IsProblem p) (l : cost < p.count) (i : IsTreeOf p cost t) where
  within : Within p.distribution (start p)
  within = (let s = search p h in s.within)

  inside : cost < length (start p)
  inside = (let e = long p h in omega (arith, l, e))

  abbrev TreePlace : BoundedTree → Type 0
  TreePlace u = Place (constraints p) p.distribution cost (start p) within inside u

  abbrev TreeStands : List ℤ → BoundedTree → Type 0
  TreeStands v u = Stands (constraints p) p.distribution cost (start p) within inside v u

  abbrev top : TreePlace t
  top = record { bound = None; store = start p; over = over p h; parts = parts_refl (start p); shape = i }

  -- ---- an assignment with the values of its products

  abbrev full : List ℤ → List ℤ
  full v = v ++ product_values v p.items

  full_agrees : (v : List ℤ) → Meets p v → (k : ℕ) → k < p.count → value v k ≡ value (full v) k
  full_agrees v m k g = sym (get_or_append_left v (product_values v p.items) (pos 0) k (let e = m.long in omega (arith, g, e)))

  -- it stands at each part that it lies below
  below : (q : List Bounded) (v : List ℤ) (u : BoundedTree) → Meets p v → lies_below p.distribution cost q v t ≡ true → part q t ≡ Some u → TreeStands (full v) u
  below q v u m e f =
      let same = lies_same p.distribution cost p.count h.over l v (full v) (full_agrees v m) q t in
      stands (constraints p) p.distribution cost (start p) within inside q (full v) t u (record { place = top; solves = meets_solves p h v m; under = refl }) (sym same ∙ e) f

  -- ---- the tuple of a leaf

  end_of : (q : List Bounded) (m : stores.Store) → part q t ≡ Some (Leaf m) → IsEnd (constraints p) p.distribution (start p) m
  end_of q m e = leaf_end (constraints p) p.distribution cost (start p) within inside m (placed (constraints p) p.distribution cost (start p) within inside q t (Leaf m) top e)

  pub leaf_meets : (q : List Bounded) (m : stores.Store) → part q t ≡ Some (Leaf m) → Meets p (tuple_at p m)
  leaf_meets q m e =
      let k = end_of q m e in
      let f = solved_end (constraints p) p.distribution (start p) m (over p h) k (follows p h) in
      solves_meets p h (map least m) (solves_parts (constraints p) (start p) m (map least m) k.parts f.2)

  -- lies below the path to it
  leaf_lies : (q : List Bounded) (m : stores.Store) → part q t ≡ Some (Leaf m) → lies_below p.distribution cost q (tuple_at p m) t ≡ true
  leaf_lies q m e =
      let k = end_of q m e in
      let o = k.over in
      let b = back (constraints p) p.distribution cost (start p) within inside q None (start p) m (map least m) t (over p h) (parts_refl (start p)) i e (tuple_in m o.domains) in
      lies_same p.distribution cost p.count h.over l (tuple_at p m) (map least m) (λ x g. get_or-take p.count (map least m) x (pos 0) g) q t ∙ b.lies

  -- an assignment that stands at a leaf has its cost
  leaf_cost : (v : List ℤ) (m : stores.Store) → Meets p v → TreeStands (full v) (Leaf m) → value (tuple_at p m) cost ≡ value v cost
  leaf_cost v m g k =
      let f = stands_leaf (constraints p) p.distribution cost (start p) within inside (full v) m k in
      let e = f.0 in
      let parts = e.parts in
      let there : cost < length m = (let a = parts.long in let b = inside in omega (arith, a, b)) in
      let single = follows_single (constraints p) p.distribution (start p) m (over p h) e cost inside (follows p h cost inside) in
      let sol = f.1 in
      let ins = sol.inside in
      get_or-take p.count (map least m) cost (pos 0) l
      ∙ get_or-map least m cost set.empty (pos 0) there
      ∙ sym (single_value (domain m cost) (value (full v) cost) single (ins.each cost there))
      ∙ sym (full_agrees v g cost l)

  -- ---- the nodes

  module _ (node : Tree Bounded Costed) (shows : ShowsTree (solved_leaf text p cost) node t) where
    abbrev Has : List Bounded → Assignment p → Type 0
    Has q x = lies_below p.distribution cost q x.0 t ≡ true

    sound_at : (q : List Bounded) (o : Costed) (v : ℤ) (u : BoundedTree) → part q t ≡ Some u → IsKind (solved_leaf text p cost) u (End o) → cost_of o ≡ Some v → (x : Assignment p) × Has q x × (cost_at p cost x ≡ v)
    sound_at q o v Failed e k c = absurd (failed_cost o.outcome o.cost v k c)
    sound_at q o v (Leaf m) e k c = ((tuple_at p m, leaf_meets q m e), leaf_lies q m e, same_cost (value (tuple_at p m) cost) v (sym (ap cost_of k) ∙ c))
    sound_at q o v (Choice s f g) e k c = absurd k

    ends_at : (q : List Bounded) (o : Costed) (x : Assignment p) (u : BoundedTree) → part q t ≡ Some u → IsKind (solved_leaf text p cost) u (End o) → Has q x → (w : ℤ) × (cost_of o ≡ Some w) × (w ≤ℤ cost_at p cost x)
    ends_at q o x Failed e k b = absurd (stands_not (constraints p) p.distribution cost (start p) within inside (full x.0) (below q x.0 Failed x.1 b e))
    ends_at q o x (Leaf m) e k b = (value (tuple_at p m) cost, ap cost_of k, no_more (value (tuple_at p m) cost) (value x.0 cost) (leaf_cost x.0 m x.1 (below q x.0 (Leaf m) x.1 b e)))
    ends_at q o x (Choice s f g) e k b = absurd k

    -- the first alternative where the value passes the test, else the second
    abbrev Falls : List Bounded → ℕ → Assignment p → Type 0
    Falls q n x = (a : ℕ) × (1 ≤ a) × (a ≤ n) × ((bound : Option ℤ) → IsUnder (cost_at p cost x) bound → Has (q ++ bounded a bound ∷ []) x)

    falls_by : (q : List Bounded) (n : ℕ) (x : Assignment p) (s : Split) (f g : Option ℤ → BoundedTree) → part q t ≡ Some (Choice s f g) → n ≡ 2 → Has q x → (b : Bool) → passes s.test (value x.0 (split_variable p.distribution s)) ≡ b
        → Falls q n x
    falls_by q n x s f g e k b true y = (
      1,
      omega arith,
      omega (arith, k),
      λ bound un. lie.falls p.distribution cost (bounded 1 bound) x.0 q t (Choice s f g) (f bound) b e (ap (λ z. z && is_under (value x.0 cost) bound) y ∙ under_of (value x.0 cost) bound un) refl,
    )
    falls_by q n x s f g e k b false y = (
      2,
      omega arith,
      omega (arith, k),
      λ bound un. lie.falls p.distribution cost (bounded 2 bound) x.0 q t (Choice s f g) (g bound) b e (ap (λ z. not z && is_under (value x.0 cost) bound) y ∙ under_of (value x.0 cost) bound un) refl,
    )

    falls_at : (q : List Bounded) (n : ℕ) (x : Assignment p) (u : BoundedTree) → part q t ≡ Some u → IsKind (solved_leaf text p cost) u (Alternatives n) → Has q x → Falls q n x
    falls_at q n x Failed e k b = absurd k
    falls_at q n x (Leaf m) e k b = absurd k
    falls_at q n x (Choice s f g) e k b = falls_by q n x s f g e k b (passes s.test (value x.0 (split_variable p.distribution s))) refl

    pub solves : Solves {A = Assignment p} node (cost_at p cost) (has_below p cost t)
    solves = record {
      rises = λ q b x e. lie.rises p.distribution cost b x.0 q t e;
      sound = λ q o s v e c. (let k = end_shown (solved_leaf text p cost) node t shows q o s e in sound_at q o v k.0 k.1 k.2 c);
      ends = λ q o s x e b. (let k = end_shown (solved_leaf text p cost) node t shows q o s e in ends_at q o x k.0 k.1 k.2 b);
      falls = λ q n s x e b. (let k = choice_shown (solved_leaf text p cost) node t shows q n s e in falls_at q n x k.0 k.1 k.2 b);
    }

pub solves_law : SolvesLaw
solves_law p cost text node t h l i shows = solves p cost text t h l i node shows
