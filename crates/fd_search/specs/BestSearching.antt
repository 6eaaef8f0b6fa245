-- What a configuration of a best search comes to: as in plain search, but that the space is told, as it is committed to an alternative,
-- that its cost is below a bound (branch and bound: Schulte, LNCS 2302, on search; CTM 12.4).
use Rattle.std.specs.Prelude.{◌≡◌, ◌<◌, ℕ, ℤ, false, length, Option, Some, None}
use Rattle.oz_base.specs.declared.distribution.Split.{Split}
use Rattle.oz_domains.specs.Positions.{AreParts, AreDomains}
use Rattle.oz_language.specs.declared.kernel.Constant.{Constant}
use Rattle.oz_search.specs.declared.best.Costed.{Costed}
use Rattle.oz_search.specs.declared.leaf.Outcome.TheVariants as outcome
use Rattle.search_law.specs.BestLaw.{bounded}
use Rattle.oz_semantics.specs.Configurations.{view}
use Rattle.oz_semantics.specs.Spaces.{goes_on, state}
use Rattle.oz_semantics.specs.Search.{state_text}
use Rattle.oz_semantics.specs.BestSearch.{field_of, field_in, chosen_below, best_tree}
use Rattle.oz_semantics.specs.declared.configuration.Configuration.{Configuration}
use Rattle.oz_semantics.specs.declared.outcome.State.TheVariants.{Failed, Alternatives, Solved}
use Rattle.fd_stores.specs.Stores.{Store, Runs, Fails, Rests}
use Rattle.fd_stores.specs.Choices.{choice, first_store, second_store}
use Rattle.fd_bounds.specs.Bounds.{below, cost_of}
use Rattle.fd_bounds.specs.BoundedTrees.{BoundedTree, IsBoundedTree}
use Rattle.fd_best.specs.Parts.{ShowsTree}
use Rattle.fd_views.specs.Views.{variable_at}
use Rattle.fd_turns.specs.Nodes.{node_space, failed_config}
use Rattle.fd_turns.specs.Moves.{Moves}
use Rattle.fd_search.specs.Laws.{Setting, IsSearched, Stands, StepsTo}

-- the cost of a search: the field of the root variable at this feature is the variable at this place of the store
pub record IsCost (its : Setting) (feature : Constant) (cost : ℕ) : Type 0 where
  pub inside : cost < length its.variables
  pub field : field_of feature its.root ≡ Some (variable_at its.variables cost)

module _ (its : Setting) (feature : Constant) (cost : ℕ) where
  -- the space stands for what a bound has left of a store, and has failed where nothing is left
  abbrev pub StandsForLeft : Configuration → Option Store → Type 0
  StandsForLeft c None = (goes_on its.kernel.statements c.layers node_space ≡ false) × (state its.kernel.statements c.layers node_space ≡ Some Failed)
  StandsForLeft c (Some s) = Stands its c s

  -- committed to an alternative of this number, under whatever bound, it stands for what that leaves of the store of the alternative
  abbrev pub StandsBelow : ℕ → Configuration → Option Store → Type 0
  StandsBelow i c o = (u : Option ℤ) (a : Store) → o ≡ Some a → StandsForLeft (chosen_below its.kernel.statements node_space feature (bounded i u) c) (below cost u a)

  -- what the space is once its run has ended, for the store that it stood for: failed, solved with the cost of the store, or a choice of
  -- two alternatives
  pub data EndsBelow (c : Configuration) (s : Store) : Type 0 where
    failed : Fails its.constraints s → state its.kernel.statements c.layers node_space ≡ Some Failed → EndsBelow c s
    solved : (m : Store) → Rests its.constraints s m → choice its.distribution m ≡ None → state its.kernel.statements c.layers node_space ≡ Some Solved
        → (state_text its.kernel.words c node_space Solved).bytes ≡ its.shown m → field_in (view c.layers node_space) node_space feature ≡ Some (cost_of cost m) → EndsBelow c s
    divided : (m : Store) (p : Split) → Rests its.constraints s m → choice its.distribution m ≡ Some p → state its.kernel.statements c.layers node_space ≡ Some (Alternatives 2)
        → StandsBelow 1 c (first_store its.distribution p m) → StandsBelow 2 c (second_store its.distribution p m) → EndsBelow c s

  -- the space comes to such an end after some turns, and nothing of it can go on then
  pub record ComesBelow (c : Configuration) (s : Store) : Type 0 where
    pub last : Configuration
    pub turns : ℕ
    pub moves : Moves its.kernel node_space c turns last
    pub stops : goes_on its.kernel.statements last.layers node_space ≡ false
    pub ends : EndsBelow last s

  -- what is reported of a solved leaf: what is shown of its store, and the cost
  abbrev pub shown_leaf : Store → Costed
  shown_leaf m = record { outcome = outcome.Solved (its.shown m); cost = Some (cost_of cost m) }

  -- the nodes from this configuration on show the bounded tree below this store
  pub record ShowsBelow (c : Configuration) (s : Store) : Type 0 where
    pub tree : BoundedTree
    pub is_tree : IsBoundedTree its.constraints its.distribution cost None s tree
    pub shows : (fuel : ℕ) → ShowsTree shown_leaf (best_tree its.kernel node_space feature c fuel) tree

-- a run ends where it ends after a step, by runs of the store, and where a step fails the space, as one of these runs fails
pub record StepsBelowLaw (its : Setting) (feature : Constant) (cost : ℕ) : Type 0 where
  pub back : (c e : Configuration) (s m : Store) → StepsTo its.kernel c e → Runs its.constraints s m → ComesBelow its feature cost e m → ComesBelow its feature cost c s
  pub failing : (c : Configuration) (n : ℕ) (s : Store) → StepsTo its.kernel c (failed_config its.top n) → Fails its.constraints s → ComesBelow its feature cost c s

-- from where the space stands at its distributor, its run ends so
abbrev pub RunBelowLaw : Type 0
RunBelowLaw = (its : Setting) (feature : Constant) (cost : ℕ) (c : Configuration) (s : Store) → IsSearched its → IsCost its feature cost → Stands its c s → ComesBelow its feature cost c s

-- where its run ends so, the nodes from there on show a bounded tree below its store
abbrev pub TreeBelowLaw : Type 0
TreeBelowLaw = (its : Setting) (feature : Constant) (cost : ℕ) (c : Configuration) (s : Store) → IsSearched its → IsCost its feature cost → AreParts s its.start → AreDomains s → ComesBelow its feature cost c s
    → ShowsBelow its feature cost c s

-- and so they do from where the space stands at its distributor
abbrev pub SearchBelowLaw : Type 0
SearchBelowLaw = (its : Setting) (feature : Constant) (cost : ℕ) (c : Configuration) (s : Store) → IsSearched its → IsCost its feature cost → Stands its c s → ShowsBelow its feature cost c s
