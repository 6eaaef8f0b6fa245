-- What a step of a thread makes of the layers at one go: its statement is off its stack, and all else is done.
use Rattle.std.specs.Prelude.{ℕ, ◌≡◌, Bool, true, false, List, [], ◌∷◌, ◌++◌, Option, Some, None, drop}
use Rattle.oz_base.specs.declared.names.Ident.{Ident}
use Rattle.oz_semantics.specs.Store.{is_consistent}
use Rattle.oz_semantics.specs.Configurations.{view, in_layer, with_frames, stack_of}
use Rattle.oz_semantics.specs.Changes.{Change, GivesOut, CountsProcedure, CountsName, AddsCell, Holds, AddsPort, EndsAt, AddsPropagator, done}
use Rattle.oz_semantics.specs.Exceptions.{unwound}
use Rattle.oz_semantics.specs.Steps.{without_top}
use Rattle.oz_semantics.specs.declared.value.Tell.{Tell}
use Rattle.oz_semantics.specs.declared.configuration.Frame.{Frame}
use Rattle.oz_semantics.specs.declared.configuration.Layer.{Layer}
use Rattle.settle_laws.specs.Settles.{Settles}
use Rattle.space_core.specs.declared.given.Given.{Given}
use Rattle.space_core.specs.declared.given.Given.TheVariants.{Nothing, Variables, Procedure, Name, Cell, Content, Port, End, Propagator}

-- the change that comes with what a space is told
abbrev pub given_out : Given → List Change
given_out Nothing = []
given_out (Variables n) = GivesOut n ∷ []
given_out Procedure = CountsProcedure ∷ []
given_out Name = CountsName ∷ []
given_out (Cell content) = AddsCell content ∷ []
given_out (Content n content) = Holds n content ∷ []
given_out (Port stream) = AddsPort stream ∷ []
given_out (End n end) = GivesOut 1 ∷ EndsAt n end ∷ []
given_out (Propagator relation variables) = AddsPropagator relation variables ∷ []

-- the space was told this, and then these changes were made; or what it is told clashes with what it sees, and nothing was done
abbrev pub IsAdvanced : Ident → List Tell → List Change → List Layer → List Layer → Bool → Type 0
IsAdvanced id ts changes old new true =
    (is_consistent (view old id.space ++ ts) ≡ true) × Settles id.space (done id ts changes (without_top id old)) new
IsAdvanced id ts changes old new false = (is_consistent (view old id.space ++ ts) ≡ false) × (new ≡ old)

-- the stack that an exception leaves of what is below the statement that raised it, where that has a mark
abbrev pub left_by : Ident → Ident → List Layer → Option (List Frame)
left_by x id layers = unwound x (drop 1 (stack_of layers id))

-- these took the place of the thread's stack
abbrev pub taken_on : Ident → List Frame → List Layer → List Layer
taken_on id frames layers = in_layer id.space (with_frames id.number (λ rest. frames)) layers

-- the exception went to the nearest mark; or there is none, and nothing was done
abbrev pub IsCaught : Ident → Ident → List Layer → List Layer → Bool → Type 0
IsCaught x id old new true = (frames : List Frame) × (left_by x id old ≡ Some frames) × (new ≡ taken_on id frames old)
IsCaught x id old new false = (left_by x id old ≡ None) × (new ≡ old)

-- and the space was told the exception's term besides, by so many new variables
abbrev pub IsRaised : Ident → Ident → List Tell → ℕ → List Layer → List Layer → Bool → Type 0
IsRaised x id ts count old new true =
    (frames : List Frame) × (left_by x id old ≡ Some frames) × Settles id.space (taken_on id frames (done id ts (GivesOut count ∷ []) old)) new
IsRaised x id ts count old new false = (left_by x id old ≡ None) × (new ≡ old)
