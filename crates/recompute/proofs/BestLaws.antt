-- The nodes of a best search, from those of the plain one.
use Rattle.std.proofs.Common.{◌≡◌, ℕ, ℤ, List, Option, Some, None, option_map, sym, ap, subst, ◌∙◌}
use Rattle.oz_language.specs.declared.kernel.Constant.{Constant}
use Rattle.oz_language.specs.declared.kernel.Kernel.{Kernel}
use Rattle.oz_search.specs.Trees.{report}
use Rattle.oz_search.specs.Nodes.{Reached}
use Rattle.oz_search.specs.declared.best.Costed.{Costed}
use Rattle.oz_search.specs.declared.leaf.Outcome.{Outcome}
use Rattle.oz_search.specs.declared.tree.Kind.{Kind}
use Rattle.oz_search.specs.declared.tree.Report.{Report}
use Rattle.oz_semantics.specs.BestSearch.{costed, costed_kind, field_in}
use Rattle.oz_semantics.specs.Configurations.{view}
use Rattle.oz_semantics.specs.Search.{node_at}
use Rattle.oz_semantics.specs.declared.configuration.Configuration.{Configuration}
use Rattle.oz_machine.specs.Courses.{Loaded}
use Rattle.recompute.specs.Bests.{BestOrigin, best_maker_of}
use Rattle.recompute.specs.Ways.{ComesToRest, StandsAfter}

module _ (o : BestOrigin) (space : List ℕ) (old new : Loaded) (fuel : ℕ) (kernel : old.kernel ≡ o.start.kernel) (same : space ≡ o.start.space) where
  -- the space is that of the search
  there : (r : Option (Reached Configuration Outcome)) → node_at old.kernel space fuel old.config ≡ r → node_at o.start.kernel o.start.space fuel old.config ≡ r
  there r e =
      subst (λ (q : Kernel). node_at q o.start.space fuel old.config ≡ r) kernel
      (subst (λ (s : List ℕ). node_at old.kernel s fuel old.config ≡ r) same e)

  -- the node needs too many steps
  pub best_short : ComesToRest space fuel old new None → StandsAfter (best_maker_of o) fuel old new None
  best_short e = ap (option_map (costed o.start.space o.feature)) (there None e)

  -- it is that of the plain search with its cost
  pub best_stands : (r : Report Outcome) (feature : Constant) (cost : Option ℤ) (kind : Kind Costed) → feature ≡ o.feature → ComesToRest space fuel old new (Some r)
      → cost ≡ field_in (view new.config.layers space) space feature → kind ≡ costed_kind cost r.kind → StandsAfter (best_maker_of o) fuel old new (Some (report kind r.steps))
  best_stands r feature cost kind alike e field known =
      let its : cost ≡ field_in (view new.config.layers o.start.space) o.start.space o.feature =
      subst (λ (x : Constant). cost ≡ field_in (view new.config.layers o.start.space) o.start.space x) alike
      (subst (λ (s : List ℕ). cost ≡ field_in (view new.config.layers s) s feature) same field) in
      let node : node_at o.start.kernel o.start.space fuel old.config ≡ Some (record { config = new.config; report = r }) = there (Some (record { config = new.config; report = r })) e.0 in (
        ap (option_map (costed o.start.space o.feature)) node
            ∙ sym (ap (λ (x : Kind Costed). Some (record { config = new.config; report = report x r.steps })) (known ∙ ap (λ (z : Option ℤ). costed_kind z r.kind) its)),
        e.1,
      )
