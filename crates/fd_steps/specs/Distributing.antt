-- A thread that distributes (distributors, CTM 12.4; Schulte, LNCS 2302, chapter 2).
use Rattle.std.specs.Prelude.{◌≡◌, List, ◌∷◌}
use Rattle.oz_language.specs.declared.kernel.Statement.{Statement}
use Rattle.oz_semantics.specs.Inputs.{Known}
use Rattle.oz_semantics.specs.Distributors as machine
use Rattle.oz_semantics.specs.Distributors.{distribution_of}
use Rattle.oz_semantics.specs.Builtins.{distributes}
use Rattle.oz_semantics.specs.declared.configuration.Frame.{Frame}
use Rattle.view_laws.specs.Readies.{Keeps}
use Rattle.fd_problems.specs.declared.problem.Distribution.{Distribution}
use Rattle.fd_stores.specs.Stores.{Constraint}
use Rattle.fd_views.specs.Views.{variables_at}
use Rattle.fd_turns.specs.Nodes.{Top, answered}
use Rattle.fd_steps.specs.States.{State, node_of, view_of, IsGood}

-- the statement on top of the thread's stack is a distributor: in this state and in all later ones it answers what the distributor does
pub record Distributes (statements : List Statement) (t : Top) (cs : List Constraint) (d : Distribution) (st : State) (f : Frame) (rest : List Frame) : Type 0 where
  pub answers : (later : State) → IsGood t cs later → Keeps (view_of t st) (view_of t later) → later.variables ≡ st.variables → (D : machine.Distribution)
      → distribution_of (view_of t later) d.rule (variables_at later.variables d.over) ≡ Known D → answered statements t (node_of later (f ∷ rest)) ≡ distributes (view_of t later) D
