-- Nothing of its space can step in a node of best search.
use Rattle.std.proofs.Common.{◌≡◌, ℕ, List, [], None, Some, ap, subst, ◌∙◌}
use Rattle.oz_language.specs.declared.kernel.Constant.{Constant}
use Rattle.oz_language.specs.declared.kernel.Kernel.{Kernel}
use Rattle.oz_search.specs.Nodes.{Reached}
use Rattle.oz_search.specs.Best.{best}
use Rattle.oz_search.specs.declared.best.Costed.{Costed}
use Rattle.oz_semantics.specs.Configurations.{layer_of, view}
use Rattle.oz_semantics.specs.Edits.{committed}
use Rattle.oz_semantics.specs.Search.{node_at}
use Rattle.oz_semantics.specs.BestSearch.{bound_tells, told_below, best_maker}
use Rattle.oz_semantics.specs.declared.configuration.Layer.{Layer}
use Rattle.oz_semantics.specs.declared.configuration.Configuration.{Configuration}
use Rattle.turn_laws.proofs.KeptLaws.{committed_top}
use Rattle.machine_search.specs.Rests.{IsSettled}
use Rattle.machine_search.specs.BestNodes.{ChosenBelowLaw, SearchSpaceLaw, BestNodesLaw}
use Rattle.machine_search.proofs.TopLaws.{told_top, child_not_top}
use Rattle.machine_search.proofs.MetLaws.{met_rests}
use Rattle.machine_search.proofs.RestLaws.{Rests, settled_law, node_rests}
use Rattle.machine_search.proofs.BestMakerLaws.{node_of}

pub chosen_below_law : ChosenBelowLaw
chosen_below_law statements space feature b c lower h =
    let layers : List Layer = committed statements space b.alternative c.layers in
    settled_law statements None 1 (record c { layers = told_below space feature b.bound layers })
    (told_top space (bound_tells (view layers space) space feature b.bound) lower layers ∙ committed_top statements space b.alternative c.layers h.0)

pub search_space_law : SearchSpaceLaw
search_space_law c = let top = layer_of c.layers [] in child_not_top top.space top.next.child

module _ (k : Kernel) (space : List ℕ) (feature : Constant) where
  best_rests : (f : ℕ) (c : Configuration) → IsSettled k.statements c → (r : Reached Configuration Costed) → (best_maker k space feature).run f c ≡ Some r → Rests k space r.config
  best_rests f c h r e =
      let n = node_of space feature (node_at k space f c) r e in
      subst (λ (d : Configuration). Rests k space d) (ap (λ (x : Reached Configuration Costed). x.config) n.2) (node_rests k space f c h n.0 n.1)

pub best_nodes_law : BestNodesLaw
best_nodes_law k space feature c fuel p node lower h e =
    met_rests best (best_maker k space feature) (IsSettled k.statements) (Rests k space) (best_rests k space feature) (λ b d g. chosen_below_law k.statements space feature b d lower g.1) fuel 0 c p h node e
