-- What an answer says.
use Rattle.std.specs.Prelude.{◌≡◌, List}
use Rattle.oz_base.specs.declared.names.Ident.{Ident}
use Rattle.oz_semantics.specs.Store.{View}
use Rattle.oz_semantics.specs.Terms.{list_term}
use Rattle.oz_semantics.specs.Sights as sights
use Rattle.oz_semantics.specs.Sights.{Offer, count_of}
use Rattle.oz_semantics.specs.Answers as answers
use Rattle.tree_equal.specs.Answers.{SameClasses}
use Rattle.builtins.specs.declared.answer.Act.{Act}
use Rattle.builtins.specs.declared.answer.Act.TheVariants as act
use Rattle.builtins.specs.declared.answer.Edit.{Edit}
use Rattle.builtins.specs.declared.answer.Edit.TheVariants as edit
use Rattle.builtins.specs.declared.answer.Answer.{Answer}
use Rattle.builtins.specs.declared.answer.Answer.TheVariants as answer
use Rattle.builtins.specs.declared.answer.Readiness.{Readiness}
use Rattle.builtins.specs.declared.answer.Readiness.TheVariants as readiness

abbrev pub act_of : Act → answers.Act
act_of act.Passes = answers.Passes
act_of (act.GoesOn frames) = answers.GoesOn frames
act_of (act.Declares d) = answers.Declares d.environment d.names d.body
act_of (act.Starts frames) = answers.Starts frames
act_of (act.GivesValue x v) = answers.GivesValue x v
act_of (act.GivesList x items) = answers.GivesTerm x (list_term items)
act_of (act.GivesVariable x y) = answers.GivesVariable x y
act_of (act.MakesProcedure x c) = answers.MakesProcedure x c.parameters c.body c.environment
act_of (act.MakesName x) = answers.MakesName x
act_of (act.MakesCell x content) = answers.MakesCell x content
act_of (act.Reads n x) = answers.Reads n x
act_of (act.Writes n content) = answers.Writes n content
act_of (act.Exchanges n x content) = answers.Exchanges n x content
act_of (act.MakesPort x stream) = answers.MakesPort x stream
act_of (act.Sends n item) = answers.Sends n item
act_of (act.Delays procedure x) = answers.Delays procedure x
act_of (act.Confines ts) = answers.Confines ts
act_of (act.Posts p) = answers.Posts p.tells p.relation p.variables
act_of (act.Shows x) = answers.Shows x

abbrev pub edit_of : Edit → answers.Edit
edit_of (edit.Creates procedure x) = answers.Creates procedure x
edit_of (edit.Commits space i) = answers.Commits space i
edit_of (edit.Copies space x) = answers.Copies space x
edit_of (edit.Injects space procedure) = answers.Injects space procedure
edit_of (edit.TakesIn space x) = answers.TakesIn space x

-- a step does just this
abbrev pub IsAct : answers.Act → Act → Type 0
IsAct a b = a ≡ act_of b

-- an answer is this, but that it may rest for anything
abbrev pub IsAnswer : answers.Answer → Answer → Type 0
IsAnswer a (answer.Acts b) = a ≡ answers.Acts (act_of b)
IsAnswer a (answer.Edits b) = a ≡ answers.Edits (edit_of b)
IsAnswer a (answer.RaisesKind kind) = a ≡ answers.RaisesKind kind
IsAnswer a (answer.RaisesTerm x) = a ≡ answers.RaisesTerm x
IsAnswer a (answer.Operates op space x) = a ≡ answers.Operates op space x
IsAnswer a (answer.Widens ts) = a ≡ answers.Widens ts
IsAnswer a answer.Rests = (ready : sights.Readiness) × (a ≡ answers.Rests ready)

-- a thread can do this; a class that is waited for may be named by any variable of it, and more than once
abbrev pub IsReady : View → sights.Readiness → Readiness → Type 0
IsReady view ready readiness.Steps = ready ≡ sights.Steps
IsReady view ready (readiness.Waits xs) = (ys : List Ident) × (ready ≡ sights.Waits ys) × SameClasses view xs ys
IsReady view ready (readiness.WaitsForState space) = ready ≡ sights.WaitsForState space
IsReady view ready (readiness.Offers n xs) =
    (offer : Offer) × (ys : List Ident) × (ready ≡ sights.Offers offer ys) × (n ≡ count_of offer) × SameClasses view xs ys
