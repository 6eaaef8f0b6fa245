-- What a configuration of a search comes to: its computation space fails, is solved, or is stable and waits to be committed to one of two
-- alternatives (CTM 12.4; Schulte, LNCS 2302, chapter 4).
use Rattle.std.specs.Prelude.{◌≡◌, ℕ, false, List, [], ◌∷◌, Contains, Some, None}
use Rattle.oz_base.specs.declared.names.Ident.{Ident}
use Rattle.oz_base.specs.declared.distribution.Split.{Split}
use Rattle.oz_domains.specs.Positions.{AreParts}
use Rattle.oz_language.specs.declared.kernel.Statement.{Statement}
use Rattle.oz_language.specs.declared.kernel.Kernel.{Kernel}
use Rattle.oz_semantics.specs.Spaces.{goes_on, state}
use Rattle.oz_semantics.specs.Search.{chosen_in, state_text}
use Rattle.oz_semantics.specs.declared.value.Value.{Value}
use Rattle.oz_semantics.specs.declared.configuration.Frame.{Frame}
use Rattle.oz_semantics.specs.declared.configuration.Configuration.{Configuration}
use Rattle.oz_semantics.specs.declared.outcome.State.TheVariants.{Failed, Alternatives, Solved}
use Rattle.fd_problems.specs.declared.problem.Distribution.{Distribution}
use Rattle.fd_stores.specs.Stores.{Store, Constraint, Fails, Rests}
use Rattle.fd_stores.specs.Choices.{choice, first_store, second_store}
use Rattle.fd_views.specs.Views.{HasValue}
use Rattle.fd_turns.specs.Nodes.{Top, node_space, own, config}
use Rattle.fd_turns.specs.Moves.{Moves}
use Rattle.fd_steps.specs.States as states
use Rattle.fd_steps.specs.States.{node_of, view_of, IsGood}
use Rattle.fd_steps.specs.Distributing.{Distributes}

-- the space stands at its distributor: all constraints are posted and the thread distributes; these are the variables of the search, s is
-- the store, whose domains are parts of those at the start, and the root variable has this value
pub record IsDistributing (statements : List Statement) (t : Top) (cs : List Constraint) (d : Distribution) (start : Store) (xs : List Ident) (root : Value) (c : Configuration) (s : Store) : Type 0 where
  pub state : states.State
  pub frame : Frame
  pub good : IsGood t cs state
  pub distributes : Distributes statements t cs d state frame []
  pub posted : (k : Constraint) → Contains cs k → Contains state.posted k
  pub parts : AreParts state.store start
  pub variables : state.variables ≡ xs
  pub rooted : HasValue (view_of t state) (own 0) root
  pub here : c ≡ config statements t (node_of state (frame ∷ []))
  pub store : state.store ≡ s

-- what the space is once its run has ended, for the store that it stood for: failed, solved, or a choice of two alternatives; committed to
-- one of these it stands for the store of that alternative
pub data Ends (k : Kernel) (cs : List Constraint) (d : Distribution) (shown : Store → List ℕ) (Stands : Configuration → Store → Type 0) (c : Configuration) (s : Store) : Type 0 where
  failed : Fails cs s → state k.statements c.layers node_space ≡ Some Failed → Ends k cs d shown Stands c s
  solved : (m : Store) → Rests cs s m → choice d m ≡ None → state k.statements c.layers node_space ≡ Some Solved → (state_text k.words c node_space Solved).bytes ≡ shown m → Ends k cs d shown Stands c s
  divided : (m : Store) (p : Split) → Rests cs s m → choice d m ≡ Some p → state k.statements c.layers node_space ≡ Some (Alternatives 2)
      → ((a : Store) → first_store d p m ≡ Some a → Stands (chosen_in k.statements node_space 1 c) a)
      → ((b : Store) → second_store d p m ≡ Some b → Stands (chosen_in k.statements node_space 2 c) b) → Ends k cs d shown Stands c s

-- the space comes to such an end after some turns, and nothing of it can go on then
pub record Comes (k : Kernel) (cs : List Constraint) (d : Distribution) (shown : Store → List ℕ) (Stands : Configuration → Store → Type 0) (c : Configuration) (s : Store) : Type 0 where
  pub last : Configuration
  pub turns : ℕ
  pub moves : Moves k node_space c turns last
  pub stops : goes_on k.statements last.layers node_space ≡ false
  pub ends : Ends k cs d shown Stands last s
