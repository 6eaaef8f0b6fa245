-- The alternatives of an offer.
use Rattle.std.specs.Prelude.{ℕ, ◌-◌, ◌==◌, ◌≡◌, Bool, true, false, if◌then◌else◌, List, [], ◌∷◌, ◌++◌, drop, map, length, slice_get, unwrap_or, Option, Some, None}
use Rattle.oz_base.specs.declared.names.Ident.{Ident}
use Rattle.environments.specs.Environments.{Environment, bound, unbound}
use Rattle.oz_language.specs.declared.kernel.Statement.{Statement}
use Rattle.oz_language.specs.declared.kernel.Statement.TheVariants as statement
use Rattle.oz_semantics.specs.Store.{View, value_of}
use Rattle.oz_semantics.specs.Inputs.{Input, Known, Unknown, OtherKind}
use Rattle.oz_semantics.specs.Distributors.{Distribution, Widens, Finished, Splits, distribution}
use Rattle.oz_semantics.specs.Answers.{argument}
use Rattle.oz_semantics.specs.Configurations.{frames_of}
use Rattle.oz_semantics.specs.Sights.{Offer, Bodies, Number, Parts}
use Rattle.oz_semantics.specs.Edits.{chosen, chosen_tells}
use Rattle.oz_semantics.specs.declared.configuration.Code.TheVariants as code
use Rattle.oz_semantics.specs.declared.configuration.Frame.{Frame}
use Rattle.oz_semantics.specs.declared.value.Builtin.TheVariants as builtin
use Rattle.oz_semantics.specs.declared.value.Value.{Value}
use Rattle.oz_semantics.specs.declared.value.Value.TheVariants as value
use Rattle.oz_semantics.specs.declared.value.Tell.{Tell}
use Rattle.builtins.specs.Choices.{choice_of}
use Rattle.statements.specs.declared.alternatives.Chosen.{Chosen}
use Rattle.statements.specs.declared.alternatives.Chosen.TheVariants.{GoesOn, Tells}

-- x becomes i
abbrev pub number_frame : Ident → ℕ → Frame
number_frame x i = record { code = code.Bind x i; environment = unbound }

pub data Alternative : Type 0 where
  -- these go on in the place of the statement
  Frames : List Frame → Alternative
  -- this is told, and the statement stays
  Part : Tell → Alternative

-- the i-th, from 1
abbrev pub alternative_in : ℕ → Option Offer → Alternative
alternative_in i (Some (Bodies bodies)) = Frames (unwrap_or (slice_get bodies (i - 1)) [])
alternative_in i (Some (Number n x)) = Frames (number_frame x i ∷ [])
alternative_in i (Some (Parts one other)) = Part (if i == 1 then one else other)
alternative_in i None = Frames []

-- what is chosen, as an alternative
abbrev pub of_chosen : Chosen → Alternative
of_chosen (GoesOn frames) = Frames frames.items
of_chosen (Tells t) = Part t

-- a commitment to the i-th alternative of the offer that stands on this stack does just this
abbrev pub IsChosen : ℕ → List Frame → Offer → Chosen → Type 0
IsChosen i stack offer (GoesOn frames) = (frames.items ++ drop 1 stack ≡ chosen i stack offer) × (chosen_tells i (Some offer) ≡ [])
IsChosen i stack offer (Tells t) = (stack ≡ chosen i stack offer) × (chosen_tells i (Some offer) ≡ t ∷ [])

-- Choices

-- of the i-th of these bodies
abbrev pub alternative_at : Environment → List (List ℕ) → ℕ → List Frame
alternative_at e bodies i = frames_of e (unwrap_or (slice_get bodies (i - 1)) [])

-- Calls, of which those of `Choose` and of `FD.distribute` alone offer

abbrev pub is_choose : Option Value → Bool
is_choose (Some (value.Builtin builtin.Choose)) = true
is_choose o = false

abbrev pub is_distribute : Option Value → Bool
is_distribute (Some (value.Builtin builtin.Distribute)) = true
is_distribute o = false

-- so many numbers for x, if any are offered
abbrev pub number_offer : Ident → Option ℕ → Option Offer
number_offer x None = None
number_offer x (Some n) = Some (Number n x)

-- of a call of `Choose` with these arguments
abbrev pub chosen_offer : View → List Ident → Option Offer
chosen_offer view xs = if length xs == 2 then number_offer (argument xs 1) (choice_of view (argument xs 0)) else None

-- the two parts of a domain, as long as there are any
abbrev pub parts_in : Input Distribution → Option Offer
parts_in (Known (Widens xs)) = None
parts_in (Known Finished) = None
parts_in (Known (Splits one other xs)) = Some (Parts one other)
parts_in (Unknown x) = None
parts_in OtherKind = None

-- of a call of `FD.distribute` with these arguments
abbrev pub parts_offer : View → List Ident → Option Offer
parts_offer view xs = if length xs == 2 then parts_in (distribution view (argument xs 0) (argument xs 1)) else None

-- of the call of what has this value
abbrev pub value_offer : View → List Ident → Option Value → Option Offer
value_offer view xs o = if is_choose o then chosen_offer view xs else (if is_distribute o then parts_offer view xs else None)

-- of the call of x
abbrev pub called_offer : View → Ident → List Ident → Option Offer
called_offer view x xs = value_offer view xs (value_of view x)

-- Statements

-- the i-th alternative that a statement offers
abbrev pub alternative_of : View → Environment → ℕ → Option Statement → Alternative
alternative_of view e i (Some (statement.Choice bodies)) = Frames (alternative_at e bodies i)
alternative_of view e i (Some (statement.Call procedure arguments)) = alternative_in i (called_offer view (bound e procedure) (map (bound e) arguments))
alternative_of view e i st = Frames []
