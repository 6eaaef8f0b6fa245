-- The machine's tree over configurations is its tree over paths.
use Rattle.std.proofs.Common.{◌≡◌, ℕ, zero, suc, ◌-◌, List, [], Option, Some, None, refl, sym, ap, arith, ◌∙◌}
use Rattle.oz_language.specs.declared.kernel.Kernel.{Kernel}
use Rattle.oz_search.specs.declared.leaf.Outcome.{Outcome}
use Rattle.oz_search.specs.declared.tree.Kind.{Kind}
use Rattle.oz_search.specs.declared.tree.Kind.TheVariants.{Alternatives, End}
use Rattle.oz_search.specs.Searches.{IsSearch}
use Rattle.oz_search.specs.Paths.{IsTaking}
use Rattle.oz_search.specs.Trees.{Costs, Found, visit_all, in_steps, explore, depth_first}
use Rattle.oz_search.specs.Nodes.{Reached}
use Rattle.oz_search.specs.Plain.{is_failed, itself, outcomes}
use Rattle.search_law.specs.NodeLaw as nodes
use Rattle.search_law.specs.NodeLaw.{found_in_kind, found_in, leaves_alone}
use Rattle.search_law.proofs.Booleans.{append_nil}
use Rattle.search_law.proofs.Explores.{bound_law}
use Rattle.search_law.proofs.NodeLaws as made
use Rattle.search_law.proofs.Configs.{config_law}
use Rattle.search_law.proofs.Instances.{plain_search}
use Rattle.oz_semantics.specs.Search.{script_variable, with_root, search_space, node_at, maker, space_tree, script_found}
use Rattle.oz_semantics.specs.declared.configuration.Configuration.{Configuration}
use Rattle.machine_search.specs.Visits.{leaf_of, children_of, found_at, explored, found_below}
use Rattle.machine_search.specs.Laws.{TreeLaw, SpaceLaw, ScriptLaw}
use Rattle.machine_search.proofs.MakerLaws.{maker_law}
use Rattle.machine_search.proofs.VisitLaws.{front_nil}

in_steps_alone : (fuel : ℕ) (o : Found (List ℕ × Outcome)) → leaves_alone (in_steps fuel o) ≡ in_steps fuel (leaves_alone o)
in_steps_alone fuel None = refl
in_steps_alone fuel (Some r) = refl

module _ (k : Kernel) (space : List ℕ) where
  in_kind : (v : Configuration → ℕ → Found Outcome) (r : Reached Configuration Outcome) (fuel : ℕ) (kind : Kind Outcome) → r.report.kind ≡ kind
      → found_at k space v fuel (Some r) ≡ found_in_kind outcomes (maker k space) v r.config kind (fuel - r.report.steps)
  in_kind v r fuel (Alternatives n) e = rw e (front_nil (visit_all v (children_of k space r.config (Alternatives n)) (fuel - r.report.steps)))
  in_kind v r fuel (End o) e = rw e (ap (λ (ls : List Outcome). Some (ls, fuel - r.report.steps)) (append_nil (leaf_of (End o))))

  found_same : (v : Configuration → ℕ → Found Outcome) (fuel : ℕ) (o : Option (Reached Configuration Outcome)) → found_at k space v fuel o ≡ found_in outcomes (maker k space) v o fuel
  found_same v fuel None = refl
  found_same v fuel (Some r) = in_kind v r fuel r.report.kind refl

  levels : (bound : ℕ) (c : Configuration) (fuel : ℕ) → explored k space bound c fuel ≡ nodes.explored outcomes (maker k space) bound c fuel
  unfolding explored nodes.explored
  levels zero c fuel = refl
  levels (suc bound) c fuel =
      found_same (explored k space bound) fuel (node_at k space fuel c)
      ∙ (λ i. found_in outcomes (maker k space) (λ d g. levels bound d g i) (node_at k space fuel c) fuel)

  the_search : IsSearch outcomes
  the_search = plain_search Outcome is_failed

  module _ (c : Configuration) (fuel : ℕ) where
    node_costs : Costs (space_tree k space c fuel)
    node_costs p r e = ((made.tree_law ℕ Outcome Configuration outcomes (maker k space) (maker_law k space) c).costs fuel p r e).0

    taking : IsTaking outcomes itself
    taking p i = refl

    found : found_below k space c fuel ≡ leaves_alone (explore outcomes itself (space_tree k space c fuel) fuel [] fuel)
    unfolding found_below
    found =
        levels (suc fuel) c fuel
        ∙ (config_law ℕ Outcome Configuration outcomes the_search (maker k space) (maker_law k space) (suc fuel) fuel c
        ∙ ap leaves_alone (bound_law ℕ Outcome outcomes the_search itself taking (space_tree k space c fuel) node_costs (suc fuel) [] fuel (omega arith)))

    space_found : leaves_alone (depth_first outcomes itself (space_tree k space c fuel) fuel) ≡ in_steps fuel (found_below k space c fuel)
    unfolding depth_first
    space_found = in_steps_alone fuel (explore outcomes itself (space_tree k space c fuel) fuel [] fuel) ∙ ap (in_steps fuel) (sym found)

pub tree_law : TreeLaw
tree_law k space c = made.tree_law ℕ Outcome Configuration outcomes (maker k space) (maker_law k space) c

pub space_law : SpaceLaw
space_law k space c fuel = space_found k space c fuel

pub script_law : ScriptLaw
unfolding script_found
script_law k c fuel = space_found k (search_space c) (with_root k.statements script_variable c) fuel
