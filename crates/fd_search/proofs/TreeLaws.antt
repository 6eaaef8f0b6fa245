-- The nodes of a search show a tree of the search over stores.
use Rattle.std.proofs.Common.{◌≡◌, ℕ, zero, suc, ◌+◌, ◌-◌, ◌<◌, false, Some, refl, sym, ap, subst, arith}
use Rattle.oz_base.specs.declared.distribution.Split.{Split}
use Rattle.oz_domains.specs.Positions.{AreParts, AreDomains}
use Rattle.oz_language.specs.declared.kernel.Kernel.{Kernel}
use Rattle.oz_search.specs.Nodes.{Reached}
use Rattle.oz_search.specs.Trees.{report}
use Rattle.oz_search.specs.declared.leaf.Outcome.{Outcome}
use Rattle.oz_search.specs.declared.leaf.Outcome.TheVariants as outcome
use Rattle.oz_search.specs.declared.tree.Kind.{Kind}
use Rattle.oz_search.specs.declared.tree.Kind.TheVariants as kinds
use Rattle.oz_semantics.specs.Spaces.{goes_on, state}
use Rattle.oz_semantics.specs.Search.{chosen_in, state_text, kind_of}
use Rattle.oz_semantics.specs.declared.configuration.Configuration.{Configuration}
use Rattle.oz_semantics.specs.declared.outcome.State.{State}
use Rattle.oz_semantics.specs.declared.outcome.State.TheVariants as states
use Rattle.propagators.proofs.StepLaws.{parts_trans}
use Rattle.fd_stores.specs.Stores.{Store, Rests, total}
use Rattle.fd_stores.specs.Choices.{choice, first_store, second_store}
use Rattle.fd_stores.specs.Laws.{AreOver}
use Rattle.fd_stores.proofs.RunLaws.{over_parts, parts_total}
use Rattle.fd_trees.specs.Trees.{Tree, Failed, Leaf, Choice, IsTree}
use Rattle.fd_trees.specs.Trees as trees
use Rattle.fd_trees.proofs.TreeLaws.{Kept, rests_keep}
use Rattle.fd_trees.proofs.EndLaws.{Parted, parted, within_parts}
use Rattle.fd_nodes.specs.Nodes.{IsNode, ShowsTree}
use Rattle.fd_nodes.specs.Nodes as nodes
use Rattle.fd_turns.specs.Nodes.{node_space}
use Rattle.fd_turns.specs.Moves.{Moves}
use Rattle.fd_turns.proofs.MoveLaws.{node_there}
use Rattle.fd_search.specs.Searching.{Ends, failed, solved, divided}
use Rattle.fd_search.specs.Laws.{Setting, IsSearched, Stands, Arrives, ShowsSearch, TreeLaw, SearchLaw}
use Rattle.fd_search.proofs.RunLaws.{full_stands, run_law}

-- the node at the end of a run
pub record NodeOf (k : Kernel) (c last : Configuration) (kind : Kind Outcome) : Type 0 where
  pub node : Reached Configuration Outcome
  pub there : IsNode k node_space c node
  pub config : node.config ≡ last
  pub as_kind : node.report.kind ≡ kind

node_of : (k : Kernel) (c last : Configuration) (turns : ℕ) (s : State) (kind : Kind Outcome) → Moves k node_space c turns last → goes_on k.statements last.layers node_space ≡ false → state k.statements last.layers node_space ≡ Some s
    → kind_of s (state_text k.words last node_space s).bytes ≡ Some kind → NodeOf k c last kind
node_of k c last turns s kind m e f g =
    let n = (state_text k.words last node_space s).nodes in
    record {
      node = record { config = last; report = report kind (suc (turns + n) - n + n) };
      there = (suc (turns + n), node_there k node_space c last turns s kind m e f g);
      config = refl;
      as_kind = refl;
    }

module _ (its : Setting) (g : IsSearched its) where
  abbrev shown : Store → Outcome
  shown m = outcome.Solved (its.shown m)

  abbrev chosen : ℕ → Configuration → Configuration
  chosen i last = chosen_in its.kernel.statements node_space i last

  -- the nodes of stores with fewer values than n
  abbrev Shown : ℕ → Type 0
  Shown n = (c : Configuration) (s : Store) → total s < n → AreParts s its.start → AreOver its.constraints s → Arrives its c s → ShowsSearch its c s

  module _ (n : ℕ) (again : Shown n) (c last : Configuration) (s : Store) (l : total s < suc n) (parts : AreParts s its.start) (over : AreOver its.constraints s) where
    failed_shows : NodeOf its.kernel c last (kinds.End outcome.Failed) → IsTree its.constraints its.distribution s Failed → ShowsSearch its c s
    failed_shows q t = record { tree = Failed; is_tree = t; steps = q.node.report.steps; shows = nodes.failed q.node q.there q.as_kind }

    leaf_shows : (m : Store) → NodeOf its.kernel c last (kinds.End (shown m)) → IsTree its.constraints its.distribution s (Leaf m) → ShowsSearch its c s
    leaf_shows m q t = record { tree = Leaf m; is_tree = t; steps = q.node.report.steps; shows = nodes.leaf q.node q.there q.as_kind refl }

    choice_shows : (m a b : Store) (p : Split) → NodeOf its.kernel c last (kinds.Alternatives 2) → Rests its.constraints s m → choice its.distribution m ≡ Some p → first_store its.distribution p m ≡ Some a
        → second_store its.distribution p m ≡ Some b → ShowsSearch its (chosen 1 last) a → ShowsSearch its (chosen 2 last) b → ShowsSearch its c s
    choice_shows m a b p q r e f h x y = record {
      tree = Choice x.tree y.tree;
      is_tree = trees.split p r e f h x.is_tree y.is_tree;
      steps = q.node.report.steps + (x.steps + y.steps);
      shows = nodes.choice q.node q.there q.as_kind (subst (λ z. ShowsTree its.kernel node_space shown (chosen 1 z) x.tree x.steps) (sym q.config) x.shows)
          (subst (λ z. ShowsTree its.kernel node_space shown (chosen 2 z) y.tree y.steps) (sym q.config) y.shows);
    }

    -- what is left of the store
    kept : (m : Store) → Rests its.constraints s m → Kept its.constraints s m
    kept m r = rests_keep its.constraints s m over r

    parts_of : (m : Store) → Rests its.constraints s m → AreParts m its.start
    parts_of m r = (let k = kept m r in parts_trans its.start s m parts k.parts)

    two : (m : Store) (p : Split) → Rests its.constraints s m → choice its.distribution m ≡ Some p → Parted its.constraints its.distribution m p
    two m p r e = (let k = kept m r in let q = g.search in parted its.constraints its.distribution m p k.over (within_parts its.distribution its.start m (parts_of m r) q.within) e)

    less : (m : Store) → Rests its.constraints s m → (a : Store) → total a < total m → total a < n
    less m r a e = (let k = kept m r in let f = (parts_total s m k.parts).0 in omega (arith, e, f, l))

    below : (m a : Store) (d : Configuration) → Rests its.constraints s m → AreOver its.constraints a → AreParts a m → total a < total m → Stands its d a → ShowsSearch its d a
    below m a d r o q e h = again d a (less m r a e) (parts_trans its.start m a (parts_of m r) q) o (run_law its d a g h)

    divided_shows : (m : Store) (p : Split) → NodeOf its.kernel c last (kinds.Alternatives 2) → Rests its.constraints s m → choice its.distribution m ≡ Some p
        → ((a : Store) → first_store its.distribution p m ≡ Some a → Stands its (chosen 1 last) a) → ((b : Store) → second_store its.distribution p m ≡ Some b → Stands its (chosen 2 last) b) → ShowsSearch its c s
    divided_shows m p q r e first second =
        let w = two m p r e in
        let k = w.parts in
        let x = k.first in
        let y = k.second in
        choice_shows m w.a w.b p q r e w.first w.second (below m w.a (chosen 1 last) r x.0 x.1 x.2 (first w.a w.first)) (below m w.b (chosen 2 last) r y.0 y.1 y.2 (second w.b w.second))

    ends_show : (turns : ℕ) → Moves its.kernel node_space c turns last → goes_on its.kernel.statements last.layers node_space ≡ false
        → Ends its.kernel its.constraints its.distribution its.shown (Stands its) last s → ShowsSearch its c s
    ends_show turns m e (failed f q) = failed_shows (node_of its.kernel c last turns states.Failed (kinds.End outcome.Failed) m e q refl) (trees.failed f)
    ends_show turns m e (solved x r none q text) =
        leaf_shows x (node_of its.kernel c last turns states.Solved (kinds.End (shown x)) m e q (ap (λ bytes. Some (kinds.End (outcome.Solved bytes))) text)) (trees.leaf r none)
    ends_show turns m e (divided x p r some q first second) = divided_shows x p (node_of its.kernel c last turns (states.Alternatives 2) (kinds.Alternatives 2) m e q refl) r some first second

  shows_for : (n : ℕ) → Shown n
  shows_for zero c s l p o h = absurd (omega (arith, l))
  shows_for (suc n) c s l p o h = ends_show n (shows_for n) c h.last s l p o h.turns h.moves h.stops h.ends

  pub shows : (c : Configuration) (s : Store) → AreParts s its.start → AreDomains s → Arrives its c s → ShowsSearch its c s
  shows c s p d h = (let q = g.search in shows_for (suc (total s)) c s (omega arith) p (over_parts its.constraints its.start s q.over p d) h)

pub tree_law : TreeLaw
tree_law its c s g p d h = shows its g c s p d h

pub search_law : SearchLaw
search_law its c s g h =
    let full = full_stands its c s h in
    let good = h.good in
    let over = good.over in
    shows its g c s (subst (λ z. AreParts z its.start) h.store h.parts) (subst AreDomains h.store over.domains) (run_law its c s g h)
