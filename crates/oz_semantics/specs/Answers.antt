-- What a statement answers: it can't step yet, it raises an exception, or it acts. An operation on a space goes by the state of that.
use Rattle.std.specs.Prelude.{ℕ, List, [], ◌∷◌, slice_get, unwrap_or, Option, Some, None}
use Rattle.oz_base.specs.declared.names.Ident.{Ident}
use Rattle.environments.specs.Environments.{Environment, nowhere}
use Rattle.oz_language.specs.declared.kernel.Constant.{Constant}
use Rattle.oz_language.specs.declared.kernel.Identifier.{Identifier}
use Rattle.oz_semantics.specs.Store.{View, value_of}
use Rattle.oz_base.specs.declared.relation.Relation.{Relation}
use Rattle.oz_semantics.specs.Terms.{Term}
use Rattle.oz_semantics.specs.Sights.{Readiness, Waits}
use Rattle.oz_semantics.specs.declared.value.SpaceOperation.{SpaceOperation}
use Rattle.oz_semantics.specs.declared.value.Value.{Value}
use Rattle.oz_semantics.specs.declared.value.Value.TheVariants as value
use Rattle.oz_semantics.specs.declared.value.Tell.{Tell}
use Rattle.oz_semantics.specs.declared.configuration.Frame.{Frame}
use Rattle.oz_semantics.specs.declared.outcome.RaiseKind.{RaiseKind}
use Rattle.oz_semantics.specs.declared.outcome.RaiseKind.TheVariants as raise

-- What a step does, in words of the thread and of its space. Cells and ports are those of this space, by their numbers.
pub data Act : Type 0 where
  -- nothing
  Passes : Act
  -- these go on, before what is left of the stack
  GoesOn : List Frame → Act
  -- a body goes on, in which these identifiers stand for new variables
  Declares : Environment → List Identifier → List ℕ → Act
  -- a new thread with these
  Starts : List Frame → Act
  -- x is this value
  GivesValue : Ident → Value → Act
  -- x is this term
  GivesTerm : Ident → Term → Act
  -- x is what y is
  GivesVariable : Ident → Ident → Act
  -- x is a new procedure, by its parameters, its body and its environment
  MakesProcedure : Ident → List Identifier → List ℕ → Environment → Act
  -- x is a new name
  MakesName : Ident → Act
  -- x is a new cell with this content
  MakesCell : Ident → Ident → Act
  -- x is what the cell contains
  Reads : ℕ → Ident → Act
  -- the cell contains x from now on
  Writes : ℕ → Ident → Act
  -- x is what the cell contains, and from now on it contains y
  Exchanges : ℕ → Ident → Ident → Act
  -- x is a new port with this stream
  MakesPort : Ident → Ident → Act
  -- x is the next in the stream of the port
  Sends : ℕ → Ident → Act
  -- the procedure is applied to x once x is needed
  Delays : Ident → Ident → Act
  -- these domains are told
  Confines : List Tell → Act
  -- so are these, and the relation is posted
  Posts : List Tell → Relation → List Ident → Act
  -- the text of x is shown
  Shows : Ident → Act

-- What a step does with the spaces in the thread's own
pub data Edit : Type 0 where
  -- x is a new one, in which the procedure is applied to the root variable
  Creates : Ident → Ident → Edit
  -- the space goes on with the alternative of this number
  Commits : List ℕ → ℕ → Edit
  -- x is a copy of it
  Copies : List ℕ → Ident → Edit
  -- in it the procedure is applied to the root variable
  Injects : List ℕ → Ident → Edit
  -- it becomes a part of the thread's space, and x is its root variable
  TakesIn : List ℕ → Ident → Edit

pub data Answer : Type 0 where
  -- a step
  Acts : Act → Answer
  Edits : Edit → Answer
  -- a step too: an exception of the machine
  RaisesKind : RaiseKind → Answer
  -- and the exception that is the term of x
  RaisesTerm : Ident → Answer
  -- an operation on a space in the thread's own, with its other argument: what it answers goes by the state of that space
  Operates : SpaceOperation → List ℕ → Ident → Answer
  -- these domains are told, and the statement stays
  Widens : List Tell → Answer
  -- it can't step yet
  Rests : Readiness → Answer

abbrev pub gives_constant : Ident → Constant → Answer
gives_constant x c = Acts (GivesValue x (value.Constant c))

-- the n-th argument, from 0, of a call with as many as the built-in takes
abbrev pub argument : List Ident → ℕ → Ident
argument xs n = unwrap_or (slice_get xs n) nowhere

-- with the value of an input, which is waited for
abbrev pub given : Ident → Option Value → (Value → Answer) → Answer
given x None go = Rests (Waits (x ∷ []))
given x (Some v) go = go v

abbrev pub with_value : View → Ident → (Value → Answer) → Answer
with_value view x go = given x (value_of view x) go

-- with what a value is of a kind, or the exception that it is not
abbrev pub of_kind : {A : Type 0} → Option A → (A → Answer) → Answer
of_kind None go = RaisesKind raise.BadKind
of_kind (Some a) go = go a
