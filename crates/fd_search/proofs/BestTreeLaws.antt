-- The nodes of a best search show a bounded tree of the search over stores.
use Rattle.std.proofs.Common.{◌≡◌, ◌⊎◌, inl, inr, ℕ, zero, suc, ◌+◌, ◌-◌, ◌<◌, ◌≤◌, ℤ, Bool, true, false, ◌&&◌, if◌then◌else◌, List, [], ◌∷◌, length, Option, Some, None, option_map, refl, sym, ◌∙◌, ap, subst, arith}
use Rattle.std.proofs.lemmas.Bool.Decides.{nat_tests}
use lib.Dec.{leb}
use Rattle.oz_base.specs.declared.distribution.Split.{Split}
use Rattle.oz_language.specs.declared.kernel.Constant.{Constant}
use Rattle.oz_domains.specs.Positions.{AreParts, AreDomains}
use Rattle.oz_search.specs.Paths.{is_among}
use Rattle.oz_search.specs.Nodes.{Reached, Maker, Met, met_last, met_next, met_by_kind, met_from, report_met, if_within}
use Rattle.oz_search.specs.Trees.{report}
use Rattle.oz_search.specs.Best.{best}
use Rattle.oz_search.specs.declared.best.Bounded.{Bounded}
use Rattle.oz_search.specs.declared.best.Costed.{Costed}
use Rattle.oz_search.specs.declared.leaf.Outcome.{Outcome}
use Rattle.oz_search.specs.declared.leaf.Outcome.TheVariants as outcome
use Rattle.oz_search.specs.declared.tree.Kind.{Kind}
use Rattle.oz_search.specs.declared.tree.Kind.TheVariants as kinds
use Rattle.oz_search.specs.declared.tree.Report.{Report}
use Rattle.search_law.specs.BestLaw.{bounded}
use Rattle.oz_semantics.specs.Configurations.{view}
use Rattle.oz_semantics.specs.Spaces.{goes_on, state}
use Rattle.oz_semantics.specs.Search.{state_text, kind_of}
use Rattle.oz_semantics.specs.BestSearch.{field_in, chosen_below, costed_kind, costed, best_maker}
use Rattle.oz_semantics.specs.declared.configuration.Configuration.{Configuration}
use Rattle.oz_semantics.specs.declared.outcome.State.{State}
use Rattle.oz_semantics.specs.declared.outcome.State.TheVariants as states
use Rattle.machine_search.proofs.BestMakerLaws.{best_maker_law}
use Rattle.propagators.proofs.StepLaws.{parts_trans}
use Rattle.fd_stores.specs.Stores.{Store, Rests, total}
use Rattle.fd_stores.specs.Choices.{choice, first_store, second_store}
use Rattle.fd_stores.specs.Laws.{AreOver}
use Rattle.fd_stores.proofs.RunLaws.{over_parts, parts_total}
use Rattle.fd_trees.proofs.TreeLaws.{Kept, rests_keep}
use Rattle.fd_trees.proofs.EndLaws.{Parted, parted, within_parts}
use Rattle.fd_bounds.specs.Bounds.{below}
use Rattle.fd_bounds.specs.BoundedTrees.{BoundedTree, Failed, Leaf, Choice, IsBoundedTree}
use Rattle.fd_bounds.specs.BoundedTrees as trees
use Rattle.fd_bounds.proofs.BoundLaws.{bounded_by}
use Rattle.fd_best.specs.Parts.{part, IsKind, ShowsTree}
use Rattle.fd_turns.specs.Nodes.{node_space}
use Rattle.fd_turns.specs.Moves.{Moves, stays}
use Rattle.fd_turns.proofs.MoveLaws.{node_there}
use Rattle.fd_search.specs.Laws.{Setting, IsSearched, Stands}
use Rattle.fd_search.specs.BestSearching.{IsCost, StandsForLeft, StandsBelow, EndsBelow, failed, solved, divided, ComesBelow, shown_leaf, ShowsBelow, TreeBelowLaw, SearchBelowLaw}
use Rattle.fd_search.proofs.BestRunLaws.{run_below_law}

some_same : {A : Type 0} (x y : A) → Some x ≡ Some y → x ≡ y
some_same x y e = cc

not_three : (i : ℕ) → (leb 1 (suc (suc (suc i))) && leb (suc (suc (suc i))) 2) ≡ true → ⊥
not_three i e = grind (arith, nat_tests)

one_of_two : (b : Bounded) → is_among best 2 b ≡ true → (b.alternative ≡ 1) ⊎ (b.alternative ≡ 2)
one_of_two b e = by b.alternative e where
  by : (i : ℕ) → (leb 1 i && leb i 2) ≡ true → (i ≡ 1) ⊎ (i ≡ 2)
  by zero e = cc
  by (suc zero) e = inl refl
  by (suc (suc zero)) e = inr refl
  by (suc (suc (suc i))) e = absurd (not_three i e)

module _ (its : Setting) (feature : Constant) (cost : ℕ) where
  abbrev made : Maker Bounded Costed Configuration
  made = best_maker its.kernel node_space feature

  abbrev chosen : ℕ → Option ℤ → Configuration → Configuration
  chosen i u last = chosen_below its.kernel.statements node_space feature (bounded i u) last

  abbrev IsShown : BoundedTree → Kind Costed → Type 0
  IsShown = IsKind (shown_leaf its feature cost)

  -- the nodes from a configuration on show a tree, however many branches lead to it
  abbrev Shows : Configuration → BoundedTree → Type 0
  Shows c t = (at fuel : ℕ) → ShowsTree (shown_leaf its feature cost) (λ p. report_met (met_from best made fuel at c p)) t

  -- ---- one node

  -- the node at the end of a run
  record NodeOf (c last : Configuration) (kind : Kind Costed) : Type 0 where
    node : Reached Configuration Costed
    fuel : ℕ
    there : made.run fuel c ≡ Some node
    config : node.config ≡ last
    as_kind : node.report.kind ≡ kind

  node_of : (c last : Configuration) (turns : ℕ) (s : State) (kind : Kind Outcome) → Moves its.kernel node_space c turns last → goes_on its.kernel.statements last.layers node_space ≡ false
      → state its.kernel.statements last.layers node_space ≡ Some s → kind_of s (state_text its.kernel.words last node_space s).bytes ≡ Some kind
      → NodeOf c last (costed_kind (field_in (view last.layers node_space) node_space feature) kind)
  node_of c last turns s kind m e f g =
      let n = (state_text its.kernel.words last node_space s).nodes in
      record {
        node = costed node_space feature (record { config = last; report = report kind (suc (turns + n) - n + n) });
        fuel = suc (turns + n);
        there = ap (option_map (costed node_space feature)) (node_there its.kernel node_space c last turns s kind m e f g);
        config = refl;
        as_kind = refl;
      }

  module _ (c last : Configuration) (kind : Kind Costed) (q : NodeOf c last kind) where
    run_at : (fuel : ℕ) → made.run fuel c ≡ if_within fuel q.node
    run_at = (best_maker_law its.kernel node_space feature q.fuel c q.node q.there).2

    -- with fuel enough, it is what is met
    at_node : (fuel : ℕ) (r : Report Costed) (met : Option (Reached Configuration Costed) → Met Configuration Costed) (P : Type 0) → report_met (met None) ≡ None → (report_met (met (Some q.node)) ≡ Some r → P)
        → report_met (met (made.run fuel c)) ≡ Some r → P
    at_node fuel r met P none some e = by (leb q.node.report.steps fuel) (subst (λ o. report_met (met o) ≡ Some r) (run_at fuel) e) where
      by : (b : Bool) → report_met (met (if b then Some q.node else None)) ≡ Some r → P
      by true f = some f
      by false f = absurd (let g : None ≡ Some r = sym none ∙ f in cc)

    at_root : (t : BoundedTree) → IsShown t kind → (at fuel : ℕ) (r : Report Costed) → report_met (met_from best made fuel at c []) ≡ Some r → (u : BoundedTree) × (part [] t ≡ Some u) × IsShown u r.kind
    at_root t s at fuel r e =
        at_node fuel r (met_last best at) ((u : BoundedTree) × (part [] t ≡ Some u) × IsShown u r.kind) refl
        (λ f. (t, refl, subst (IsShown t) (sym q.as_kind ∙ ap (λ (z : Report Costed). z.kind) (some_same q.node.report r f)) s)) e

    -- beyond it
    beyond : (b : Bounded) (p : List Bounded) (at fuel : ℕ) (r : Report Costed) (P : Type 0) → (report_met (met_by_kind best at b kind (met_from best made fuel (suc at) (made.commit b last) p)) ≡ Some r → P)
        → report_met (met_from best made fuel at c (b ∷ p)) ≡ Some r → P
    beyond b p at fuel r P some e =
        at_node fuel r (met_next best at b (λ d. met_from best made fuel (suc at) (made.commit b d) p)) P refl
        (λ f. some (subst (λ z. report_met (met_by_kind best at b kind (met_from best made fuel (suc at) (made.commit b z) p)) ≡ Some r) q.config
        (subst (λ z. report_met (met_by_kind best at b z (met_from best made fuel (suc at) (made.commit b q.node.config) p)) ≡ Some r) q.as_kind f))) e

  -- ---- leaves and choices

  end_shows : (c last : Configuration) (l : Costed) → NodeOf c last (kinds.End l) → (t : BoundedTree) → IsShown t (kinds.End l) → Shows c t
  end_shows c last l q t s at fuel [] r e = at_root c last (kinds.End l) q t s at fuel r e
  end_shows c last l q t s at fuel (b ∷ p) r e = beyond c last (kinds.End l) q b p at fuel r ((u : BoundedTree) × (part (b ∷ p) t ≡ Some u) × IsShown u r.kind) (λ f. absurd (cc)) e

  module _ (c last : Configuration) (q : NodeOf c last (kinds.Alternatives 2)) (p : Split) (l r : Option ℤ → BoundedTree) (first : (u : Option ℤ) → Shows (chosen 1 u last) (l u)) (second : (u : Option ℤ) → Shows (chosen 2 u last) (r u)) where
    abbrev Goes : List Bounded → ℕ → ℕ → Report Costed → Bounded → Type 0
    Goes path at fuel x b = report_met (met_from best made fuel (suc at) (made.commit b last) path) ≡ Some x → (u : BoundedTree) × (part (b ∷ path) (Choice p l r) ≡ Some u) × IsShown u x.kind

    goes : (b : Bounded) (path : List Bounded) (at fuel : ℕ) (x : Report Costed) → (b.alternative ≡ 1) ⊎ (b.alternative ≡ 2) → Goes path at fuel x b
    goes b path at fuel x (inl e) = (let same : bounded 1 b.bound ≡ b = λ i. bounded (sym e i) b.bound in subst (Goes path at fuel x) same (first b.bound (suc at) fuel path x))
    goes b path at fuel x (inr e) = (let same : bounded 2 b.bound ≡ b = λ i. bounded (sym e i) b.bound in subst (Goes path at fuel x) same (second b.bound (suc at) fuel path x))

    among : (b : Bounded) (path : List Bounded) (at fuel : ℕ) (x : Report Costed) (t : Bool) → is_among best 2 b ≡ t
        → report_met (if t then met_from best made fuel (suc at) (made.commit b last) path else Met.NotANode (suc at)) ≡ Some x → (u : BoundedTree) × (part (b ∷ path) (Choice p l r) ≡ Some u) × IsShown u x.kind
    among b path at fuel x true e f = goes b path at fuel x (one_of_two b e) f
    among b path at fuel x false e f = absurd (cc)

    choice_shows : Shows c (Choice p l r)
    choice_shows at fuel [] x e = at_root c last (kinds.Alternatives 2) q (Choice p l r) refl at fuel x e
    choice_shows at fuel (b ∷ path) x e =
        beyond c last (kinds.Alternatives 2) q b path at fuel x ((u : BoundedTree) × (part (b ∷ path) (Choice p l r) ≡ Some u) × IsShown u x.kind) (among b path at fuel x (is_among best 2 b) refl) e

-- ---- trees

module _ (its : Setting) (feature : Constant) (cost : ℕ) (g : IsSearched its) (k : IsCost its feature cost) where
  -- the nodes from a configuration on show a tree below a store that is told a bound
  record Under (u : Option ℤ) (c : Configuration) (s : Store) : Type 0 where
    tree : BoundedTree
    is_tree : IsBoundedTree its.constraints its.distribution cost u s tree
    shows : Shows its feature cost c tree

  -- a store under a bound has the trees of what is left of it
  left_tree : (u : Option ℤ) (s e : Store) (t : BoundedTree) → below cost u s ≡ Some e → IsBoundedTree its.constraints its.distribution cost None e t → IsBoundedTree its.constraints its.distribution cost u s t
  left_tree u s e t h (trees.cut q) = absurd (cc)
  left_tree u s e t h (trees.failed {e = m} q f) = trees.failed (h ∙ q) f
  left_tree u s e t h (trees.leaf {e = m} q r n) = trees.leaf (h ∙ q) r n
  left_tree u s e t h (trees.split {e = m} p q r n a b l w) = trees.split p (h ∙ q) r n a b l w

  failed_under : (u : Option ℤ) (c last : Configuration) (s : Store) (turns : ℕ) → Moves its.kernel node_space c turns last → goes_on its.kernel.statements last.layers node_space ≡ false
      → state its.kernel.statements last.layers node_space ≡ Some states.Failed → IsBoundedTree its.constraints its.distribution cost u s Failed → Under u c s
  failed_under u c last s turns m e f t = record {
    tree = Failed;
    is_tree = t;
    shows = end_shows its feature cost c last (record { outcome = outcome.Failed; cost = None }) (node_of its feature cost c last turns states.Failed (kinds.End outcome.Failed) m e f refl) Failed refl;
  }

  -- the nodes of stores with fewer values than n
  abbrev Shown : ℕ → Type 0
  Shown n = (c : Configuration) (s : Store) → total s < n → AreParts s its.start → AreOver its.constraints s → ComesBelow its feature cost c s → Under None c s

  -- a space that stands for what a bound has left of such a store
  left_under : (n : ℕ) (again : Shown n) (u : Option ℤ) (c : Configuration) (a : Store) → total a < n → AreParts a its.start → AreOver its.constraints a → cost < length a → (o : Option Store) → below cost u a ≡ o
      → StandsForLeft its feature cost c o → Under u c a
  left_under n again u c a l parts over inside None q h = failed_under u c c a 0 stays h.0 h.1 (trees.cut q)
  left_under n again u c a l parts over inside (Some e) q h =
      let b = bounded_by its.constraints its.distribution cost u a e over inside q in
      let less = (parts_total a e b.parts).0 in
      let w = again c e (omega (arith, l, less)) (parts_trans its.start a e parts b.parts) b.over (run_below_law its feature cost c e g k h) in
      record { tree = w.tree; is_tree = left_tree u a e w.tree q w.is_tree; shows = w.shows }

  module _ (n : ℕ) (again : Shown n) (c last : Configuration) (s : Store) (l : total s < suc n) (parts : AreParts s its.start) (over : AreOver its.constraints s) where
    kept : (m : Store) → Rests its.constraints s m → Kept its.constraints s m
    kept m r = rests_keep its.constraints s m over r

    parts_of : (m : Store) → Rests its.constraints s m → AreParts m its.start
    parts_of m r = (let k = kept m r in parts_trans its.start s m parts k.parts)

    two : (m : Store) (p : Split) → Rests its.constraints s m → choice its.distribution m ≡ Some p → Parted its.constraints its.distribution m p
    two m p r e = (let k = kept m r in let q = g.search in parted its.constraints its.distribution m p k.over (within_parts its.distribution its.start m (parts_of m r) q.within) e)

    less : (m : Store) → Rests its.constraints s m → (a : Store) → total a < total m → total a < n
    less m r a e = (let k = kept m r in let f = (parts_total s m k.parts).0 in omega (arith, e, f, l))

    -- the cost is a variable of each store for which a space stands
    inside : (d : Configuration) (a : Store) → Stands its d a → cost < length a
    inside d a h =
        let o = h.good in
        let t = o.stands in
        let f : length its.variables ≤ length a = subst (λ z. length its.variables ≤ length z) h.store (subst (λ xs. length xs ≤ length h.state.store) h.variables t.fits) in
        let i = k.inside in
        omega (arith, f, i)

    alternative : (m a : Store) (i : ℕ) (o : Option Store) → Rests its.constraints s m → AreOver its.constraints a → AreParts a m → total a < total m → o ≡ Some a → StandsBelow its feature cost i last o
        → (u : Option ℤ) → Under u (chosen its feature cost i u last) a
    alternative m a i o r v q e f h u =
        left_under n again u (chosen its feature cost i u last) a (less m r a e) (parts_trans its.start m a (parts_of m r) q) v (inside (chosen its feature cost i None last) a (h None a f)) (below cost u a) refl (h u a f)

    choice_under : (m a b : Store) (p : Split) → NodeOf its feature cost c last (kinds.Alternatives 2) → Rests its.constraints s m → choice its.distribution m ≡ Some p → first_store its.distribution p m ≡ Some a
        → second_store its.distribution p m ≡ Some b → ((u : Option ℤ) → Under u (chosen its feature cost 1 u last) a) → ((u : Option ℤ) → Under u (chosen its feature cost 2 u last) b) → Under None c s
    choice_under m a b p q r e f h x y = record {
      tree = Choice p (λ u. (x u).tree) (λ u. (y u).tree);
      is_tree = trees.split p refl r e f h (λ u. (x u).is_tree) (λ u. (y u).is_tree);
      shows = choice_shows its feature cost c last q p (λ u. (x u).tree) (λ u. (y u).tree) (λ u. (x u).shows) (λ u. (y u).shows);
    }

    divided_under : (m : Store) (p : Split) → NodeOf its feature cost c last (kinds.Alternatives 2) → Rests its.constraints s m → choice its.distribution m ≡ Some p
        → StandsBelow its feature cost 1 last (first_store its.distribution p m) → StandsBelow its feature cost 2 last (second_store its.distribution p m) → Under None c s
    divided_under m p q r e first second =
        let w = two m p r e in
        let k = w.parts in
        let x = k.first in
        let y = k.second in
        choice_under m w.a w.b p q r e w.first w.second (alternative m w.a 1 (first_store its.distribution p m) r x.0 x.1 x.2 w.first first) (alternative m w.b 2 (second_store its.distribution p m) r y.0 y.1 y.2 w.second second)

    leaf_under : (m : Store) → NodeOf its feature cost c last (kinds.End (shown_leaf its feature cost m)) → Rests its.constraints s m → choice its.distribution m ≡ None → Under None c s
    leaf_under m q r e = record { tree = Leaf m; is_tree = trees.leaf refl r e; shows = end_shows its feature cost c last (shown_leaf its feature cost m) q (Leaf m) refl }

    ends_under : (turns : ℕ) → Moves its.kernel node_space c turns last → goes_on its.kernel.statements last.layers node_space ≡ false → EndsBelow its feature cost last s → Under None c s
    ends_under turns m e (failed f q) = failed_under None c last s turns m e q (trees.failed refl f)
    ends_under turns m e (solved x r none q text value) =
        leaf_under x (subst (λ o. NodeOf its feature cost c last (costed_kind o (kinds.End (outcome.Solved (its.shown x))))) value
        (node_of its feature cost c last turns states.Solved (kinds.End (outcome.Solved (its.shown x))) m e q (ap (λ bytes. Some (kinds.End (outcome.Solved bytes))) text))) r none
    ends_under turns m e (divided x p r some q first second) = divided_under x p (node_of its feature cost c last turns (states.Alternatives 2) (kinds.Alternatives 2) m e q refl) r some first second

  shown_for : (n : ℕ) → Shown n
  shown_for zero c s l p o h = absurd (omega (arith, l))
  shown_for (suc n) c s l p o h = ends_under n (shown_for n) c h.last s l p o h.turns h.moves h.stops h.ends

  pub shows_below : (c : Configuration) (s : Store) → AreParts s its.start → AreDomains s → ComesBelow its feature cost c s → ShowsBelow its feature cost c s
  shows_below c s p d h =
      let q = g.search in
      let w = shown_for (suc (total s)) c s (omega arith) p (over_parts its.constraints its.start s q.over p d) h in
      record { tree = w.tree; is_tree = w.is_tree; shows = λ fuel. w.shows 0 fuel }

pub tree_below_law : TreeBelowLaw
tree_below_law its feature cost c s g k p d h = shows_below its feature cost g k c s p d h

pub search_below_law : SearchBelowLaw
search_below_law its feature cost c s g k h =
    let good = h.good in
    let over = good.over in
    shows_below its feature cost g k c s (subst (λ z. AreParts z its.start) h.store h.parts) (subst AreDomains h.store over.domains) (run_below_law its feature cost c s g k h)
