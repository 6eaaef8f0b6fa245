-- What a step does to the layers, before what follows it.
use Rattle.std.specs.Prelude.{ℕ, ◌≡◌, Bool, true, false, List, [], ◌∷◌, ◌++◌}
use Rattle.oz_base.specs.declared.names.Ident.{Ident}
use Rattle.oz_semantics.specs.Names.{named}
use Rattle.oz_semantics.specs.Store.{is_consistent}
use Rattle.oz_semantics.specs.Answers.{Act, Passes, GoesOn, Declares, Starts, GivesValue, GivesTerm, GivesVariable, MakesProcedure, MakesName, MakesCell, Reads, Writes, Exchanges, MakesPort, Sends, Delays, Confines, Posts, Shows}
use Rattle.oz_semantics.specs.Configurations.{view}
use Rattle.oz_semantics.specs.Changes.{changed_all, done}
use Rattle.oz_semantics.specs.Steps.{without_top}
use Rattle.oz_semantics.specs.Effects.{Effect, Makes, Tells, ShowsText}
use Rattle.settle_laws.specs.Settles.{Settles}
use Rattle.oz_semantics.specs.declared.configuration.Layer.{Layer}

-- the statement is off the thread's stack, and the layers are those that the effect leaves, less those that fail by it; or its tells
-- clash, and nothing was done
abbrev pub IsDone : Ident → Effect → List Layer → List Layer → Bool → Type 0
IsDone id (Makes changes) old new true = new ≡ changed_all id changes (without_top id old)
IsDone id (Tells ts changes) old new true =
    (is_consistent (view old id.space ++ ts) ≡ true) × Settles id.space (done id ts changes (without_top id old)) new
IsDone id (Tells ts changes) old new false = (is_consistent (view old id.space ++ ts) ≡ false) × (new ≡ old)
IsDone id (Makes changes) old new false = ⊥
IsDone id (ShowsText x) old new done = ⊥

-- an act that tells its space nothing, and shows nothing
abbrev pub is_quiet : Act → Bool
is_quiet Passes = true
is_quiet (GoesOn frames) = true
is_quiet (Declares environment names body) = true
is_quiet (Starts frames) = true
is_quiet (GivesValue x v) = false
is_quiet (GivesTerm x t) = false
is_quiet (GivesVariable x y) = false
is_quiet (MakesProcedure x parameters body environment) = false
is_quiet (MakesName x) = false
is_quiet (MakesCell x content) = false
is_quiet (Reads n x) = false
is_quiet (Writes n content) = true
is_quiet (Exchanges n x content) = false
is_quiet (MakesPort x stream) = false
is_quiet (Sends n item) = false
is_quiet (Delays procedure x) = true
is_quiet (Confines ts) = false
is_quiet (Posts ts r xs) = false
is_quiet (Shows x) = false

-- an act that shows a text
abbrev pub is_shown : Act → Bool
is_shown (Shows x) = true
is_shown Passes = false
is_shown (GoesOn frames) = false
is_shown (Declares environment names body) = false
is_shown (Starts frames) = false
is_shown (GivesValue x v) = false
is_shown (GivesTerm x t) = false
is_shown (GivesVariable x y) = false
is_shown (MakesProcedure x parameters body environment) = false
is_shown (MakesName x) = false
is_shown (MakesCell x content) = false
is_shown (Reads n x) = false
is_shown (Writes n content) = false
is_shown (Exchanges n x content) = false
is_shown (MakesPort x stream) = false
is_shown (Sends n item) = false
is_shown (Delays procedure x) = false
is_shown (Confines ts) = false
is_shown (Posts ts r xs) = false

-- the thread that an act starts, in a space with this layer
abbrev pub started_by : List ℕ → Layer → Act → List Ident
started_by space l (Starts frames) = named space l.next.thread ∷ []
started_by space l Passes = []
started_by space l (GoesOn frames) = []
started_by space l (Declares environment names body) = []
started_by space l (GivesValue x v) = []
started_by space l (GivesTerm x t) = []
started_by space l (GivesVariable x y) = []
started_by space l (MakesProcedure x parameters body environment) = []
started_by space l (MakesName x) = []
started_by space l (MakesCell x content) = []
started_by space l (Reads n x) = []
started_by space l (Writes n content) = []
started_by space l (Exchanges n x content) = []
started_by space l (MakesPort x stream) = []
started_by space l (Sends n item) = []
started_by space l (Delays procedure x) = []
started_by space l (Confines ts) = []
started_by space l (Posts ts r xs) = []
started_by space l (Shows x) = []
