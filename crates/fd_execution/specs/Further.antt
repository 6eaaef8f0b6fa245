-- States further on in the execution of a script: more variables of the search, and more of the constraints posted; the last, in which the
-- script distributes; and the value of its root variable (scripts, CTM 12.2; their execution in a computation space, CTM 12.4; Schulte,
-- LNCS 2302, chapter 2).
use Rattle.std.specs.Prelude.{◌≡◌, ◌⊎◌, ℕ, List, [], ◌∷◌, ◌++◌, length, map, Contains}
use Rattle.oz_base.specs.declared.names.Ident.{Ident}
use Rattle.oz_language.specs.declared.token.Literal.{Literal}
use Rattle.oz_language.specs.declared.kernel.Constant.{Constant}
use Rattle.oz_language.specs.declared.kernel.Constant.TheVariants as constant
use Rattle.oz_language.specs.declared.kernel.Statement.{Statement}
use Rattle.oz_semantics.specs.declared.value.Value.{Value}
use Rattle.oz_semantics.specs.declared.value.Value.TheVariants as value
use Rattle.oz_semantics.specs.declared.configuration.Frame.{Frame}
use Rattle.view_laws.specs.Readies.{Keeps}
use Rattle.fd_problems.specs.declared.problem.Distribution.{Distribution}
use Rattle.fd_stores.specs.Stores.{Store, Constraint, Runs}
use Rattle.fd_views.specs.Views.{HasValue}
use Rattle.fd_turns.specs.Nodes.{Top, own}
use Rattle.fd_steps.specs.States.{State, view_of, IsGood}
use Rattle.fd_steps.specs.Distributing.{Distributes}

-- a state further on: more is told, the store was narrowed by runs, there are so many variables of the search more, and these constraints
-- were posted
pub record IsFurther (t : Top) (cs : List Constraint) (n : ℕ) (ks : List Constraint) (before after : State) : Type 0 where
  pub keeps : Keeps (view_of t before) (view_of t after)
  pub runs : Runs cs before.store after.store
  pub more : List Ident
  pub variables : after.variables ≡ before.variables ++ more
  pub count : length more ≡ n
  pub posted : (c : Constraint) → Contains before.posted c ⊎ Contains ks c → Contains after.posted c

-- the value that a script gives its root variable: a record of these variables, or its label alone where there are none
abbrev pub root_value : Literal → List (Constant × ℕ) → List Ident → Value
root_value l [] base = value.Constant (constant.Literal l)
root_value l (f ∷ fs) base = value.Record (record { label = l; features = map (λ (g : Constant × ℕ). g.0) (f ∷ fs); fields = base })

-- The last state, in which the script distributes: these constraints are posted, the root variable has its value, and the first variables,
-- so many, are the fields of its record.
pub record IsLast (statements : List Statement) (t : Top) (cs ks : List Constraint) (d : Distribution) (l : Literal) (fs : List (Constant × ℕ)) (n : ℕ) (s : Store) (last : State) (f : Frame) : Type 0 where
  pub base : List Ident
  pub more : List Ident
  pub good : IsGood t cs last
  pub variables : last.variables ≡ base ++ more
  pub count : length base ≡ n
  pub rooted : HasValue (view_of t last) (own 0) (root_value l fs base)
  pub posted : (c : Constraint) → Contains ks c → Contains last.posted c
  pub distributes : Distributes statements t cs d last f []
  pub runs : Runs cs s last.store
