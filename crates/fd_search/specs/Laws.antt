-- The laws of a search in a script's one computation space (CTM 12.4; Schulte, LNCS 2302, chapter 4 and on search).
use Rattle.std.specs.Prelude.{◌≡◌, ◌<◌, ℕ, true, List, length, All}
use Rattle.oz_base.specs.declared.names.Ident.{Ident}
use Rattle.oz_domains.specs.Positions.{AreParts, AreDomains, all_single}
use Rattle.oz_language.specs.declared.kernel.Kernel.{Kernel}
use Rattle.oz_search.specs.declared.leaf.Outcome.TheVariants.{Solved}
use Rattle.oz_semantics.specs.Texts.{term_text}
use Rattle.oz_semantics.specs.Spaces.{goes_on}
use Rattle.oz_semantics.specs.Settling.{Turned}
use Rattle.oz_semantics.specs.Schedule.{turn}
use Rattle.oz_semantics.specs.declared.value.Value.{Value}
use Rattle.oz_semantics.specs.declared.configuration.Configuration.{Configuration}
use Rattle.oz_semantics.specs.declared.outcome.Stepped.TheVariants.{Moved}
use Rattle.fd_problems.specs.declared.problem.Distribution.{Distribution}
use Rattle.fd_stores.specs.Stores.{Store, Constraint, Runs, Fails}
use Rattle.fd_trees.specs.Trees.{Tree, IsTree, Follows}
use Rattle.fd_trees.specs.Laws.{IsSearch}
use Rattle.fd_nodes.specs.Nodes.{ShowsTree}
use Rattle.fd_views.specs.Views.{HasValue}
use Rattle.fd_turns.specs.Nodes.{Top, IsKnown, node_space, own, failed_config}
use Rattle.fd_steps.specs.States.{State, view_of, IsGood}
use Rattle.fd_search.specs.Searching.{IsDistributing, Comes}

-- A search: a kernel program and its top, constraints and a distribution over the variables of a store, which are these variables of the
-- space, the value of the root variable, and the text that shows a solved store.
pub record Setting : Type 0 where
  pub kernel : Kernel
  pub top : Top
  pub constraints : List Constraint
  pub distribution : Distribution
  pub start : Store
  pub variables : List Ident
  pub root : Value
  pub shown : Store → List ℕ

-- What the laws suppose: all variables of the top are determined. The constraints and the distribution are over the variables, of which
-- each follows from those that are distributed; and once all are determined, the text of the root variable is what is shown of the store.
pub record IsSearched (its : Setting) : Type 0 where
  pub known : IsKnown its.top
  pub search : IsSearch its.constraints its.distribution its.start
  pub inside : All (λ x. x < length its.variables) its.distribution.over
  pub follows : (x : ℕ) → x < length its.start → Follows its.constraints its.distribution its.start x
  pub text : (st : State) → IsGood its.top its.constraints st → st.variables ≡ its.variables → HasValue (view_of its.top st) (own 0) its.root → all_single st.store ≡ true
      → (term_text its.kernel.words (view_of its.top st) (own 0)).bytes ≡ its.shown st.store

-- the space of this search stands at its distributor, for this store
abbrev pub Stands : Setting → Configuration → Store → Type 0
Stands its c s = IsDistributing its.kernel.statements its.top its.constraints its.distribution its.start its.variables its.root c s

-- the run of the space of this search ends: it is failed, solved, or a choice of two alternatives
abbrev pub Arrives : Setting → Configuration → Store → Type 0
Arrives its c s = Comes its.kernel its.constraints its.distribution its.shown (Stands its) c s

-- the nodes of the search from this configuration on show a search tree below this store
pub record ShowsSearch (its : Setting) (c : Configuration) (s : Store) : Type 0 where
  pub tree : Tree
  pub is_tree : IsTree its.constraints its.distribution s tree
  pub steps : ℕ
  pub shows : ShowsTree its.kernel node_space (λ m. Solved (its.shown m)) c tree steps

-- one turn of the machine, a step of the space, leads from one configuration to another
abbrev pub StepsTo : Kernel → Configuration → Configuration → Type 0
StepsTo k c e = (goes_on k.statements c.layers node_space ≡ true) × ◌≡◌ {A = Turned} (turn k c) (Moved 1, e)

-- a run ends where it ends after a step, by runs of the store, and where a step fails the space, as one of these runs fails
pub record StepsLaw (its : Setting) : Type 0 where
  pub back : (c e : Configuration) (s m : Store) → StepsTo its.kernel c e → Runs its.constraints s m → Arrives its e m → Arrives its c s
  pub failing : (c : Configuration) (n : ℕ) (s : Store) → StepsTo its.kernel c (failed_config its.top n) → Fails its.constraints s → Arrives its c s

-- from where the space stands at its distributor, its run ends
abbrev pub RunLaw : Type 0
RunLaw = (its : Setting) (c : Configuration) (s : Store) → IsSearched its → Stands its c s → Arrives its c s

-- where its run ends, the nodes from there on show a search tree below its store
abbrev pub TreeLaw : Type 0
TreeLaw = (its : Setting) (c : Configuration) (s : Store) → IsSearched its → AreParts s its.start → AreDomains s → Arrives its c s → ShowsSearch its c s

-- and so they do from where the space stands at its distributor
abbrev pub SearchLaw : Type 0
SearchLaw = (its : Setting) (c : Configuration) (s : Store) → IsSearched its → Stands its c s → ShowsSearch its c s
