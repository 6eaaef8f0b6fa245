-- What an act comes to: what the thread's space is told, and which changes follow; or a text that is shown.
use Rattle.std.specs.Prelude.{ℕ, pos, List, [], ◌∷◌, length}
use Rattle.oz_base.specs.declared.names.Ident.{Ident}
use Rattle.environments.specs.Environments.{Environment, binding_all}
use Rattle.oz_language.specs.Wording.{bar_word}
use Rattle.oz_language.specs.declared.token.Literal.TheVariants.{Atom}
use Rattle.oz_language.specs.declared.kernel.Constant.TheVariants as constant
use Rattle.oz_language.specs.declared.kernel.Identifier.{Identifier}
use Rattle.oz_semantics.specs.Names.{named}
use Rattle.oz_semantics.specs.Terms.{term_tells, nodes_inside}
use Rattle.oz_semantics.specs.Configurations.{frames_of, fresh_variables, content_of, end_of}
use Rattle.oz_semantics.specs.Answers.{Act, Passes, GoesOn, Declares, Starts, GivesValue, GivesTerm, GivesVariable, MakesProcedure, MakesName, MakesCell, Reads, Writes, Exchanges, MakesPort, Sends, Delays, Confines, Posts, Shows}
use Rattle.oz_semantics.specs.Changes.{Change, GivesOut, CountsProcedure, CountsName, Pushes, Spawns, AddsCell, Holds, AddsPort, EndsAt, AddsTrigger, AddsPropagator}
use Rattle.oz_semantics.specs.declared.value.Procedure as procedures
use Rattle.oz_semantics.specs.declared.value.Value.{Value}
use Rattle.oz_semantics.specs.declared.value.Value.TheVariants as value
use Rattle.oz_semantics.specs.declared.value.Tell.{Tell}
use Rattle.oz_semantics.specs.declared.value.Tell.TheVariants.{Equal, Is}
use Rattle.oz_semantics.specs.declared.configuration.Layer.{Layer}

pub data Effect : Type 0 where
  -- these changes are made
  Makes : List Change → Effect
  -- the space is told this, and then these changes are made; where that clashes with what the space sees, nothing is done and
  -- `failure(tell)` is raised
  Tells : List Tell → List Change → Effect
  -- the text of x is shown
  ShowsText : Ident → Effect

-- new variables for the identifiers of a `local`, and its body
abbrev pub declared_changes : Layer → Environment → List Identifier → List ℕ → List Change
declared_changes l environment names body =
    Pushes (frames_of (binding_all names (fresh_variables l (length names)) environment) body) ∷ GivesOut (length names) ∷ []

-- the procedure value that is made here
abbrev pub procedure_made : Layer → List Identifier → List ℕ → Environment → procedures.Procedure
procedure_made l parameters body environment =
    record { name = named l.space l.next.procedure; parameters = parameters; body = body; environment = environment }

-- x at the front of a stream
abbrev pub stream_value : Ident → Ident → Value
stream_value x rest =
    value.Record (record { label = Atom bar_word; features = constant.Int (pos 1) ∷ constant.Int (pos 2) ∷ []; fields = x ∷ rest ∷ [] })

-- the variable at which a stream of the space ends once something was sent
abbrev pub new_end : Layer → Ident
new_end l = named l.space l.next.variable

-- The effect of each act of a thread whose space has the layer
abbrev pub act_effect : Layer → Act → Effect
act_effect l Passes = Makes []
act_effect l (GoesOn frames) = Makes (Pushes frames ∷ [])
act_effect l (Declares environment names body) = Makes (declared_changes l environment names body)
act_effect l (Starts frames) = Makes (Spawns frames ∷ [])
act_effect l (GivesValue x v) = Tells (Is x v ∷ []) []
act_effect l (GivesTerm x t) = Tells (term_tells l.space l.next.variable x t) (GivesOut (nodes_inside t) ∷ [])
act_effect l (GivesVariable x y) = Tells (Equal x y ∷ []) []
act_effect l (MakesProcedure x parameters body environment) =
    Tells (Is x (value.Procedure (procedure_made l parameters body environment)) ∷ []) (CountsProcedure ∷ [])
act_effect l (MakesName x) = Tells (Is x (value.Name (named l.space l.next.name)) ∷ []) (CountsName ∷ [])
act_effect l (MakesCell x content) = Tells (Is x (value.Cell (named l.space (length l.cells))) ∷ []) (AddsCell content ∷ [])
act_effect l (Reads n x) = Tells (Equal x (content_of l n) ∷ []) []
act_effect l (Writes n x) = Makes (Holds n x ∷ [])
act_effect l (Exchanges n x y) = Tells (Equal x (content_of l n) ∷ []) (Holds n y ∷ [])
act_effect l (MakesPort x stream) = Tells (Is x (value.Port (named l.space (length l.ports))) ∷ []) (AddsPort stream ∷ [])
act_effect l (Sends n x) = Tells (Is (end_of l n) (stream_value x (new_end l)) ∷ []) (GivesOut 1 ∷ EndsAt n (new_end l) ∷ [])
act_effect l (Delays procedure x) = Makes (AddsTrigger procedure x ∷ [])
act_effect l (Confines ts) = Tells ts []
act_effect l (Posts ts r xs) = Tells ts (AddsPropagator r xs ∷ [])
act_effect l (Shows x) = ShowsText x
