-- What operations on spaces come to, one by one.
use Rattle.std.specs.Prelude.{ℕ, ◌≡◌, Bool, true, false, List}
use Rattle.oz_base.specs.declared.names.Ident.{Ident}
use Rattle.oz_language.specs.declared.kernel.Statement.{Statement}
use Rattle.oz_raise.specs.Nodes.{term_of}
use Rattle.oz_semantics.specs.Values.{integer_in}
use Rattle.oz_semantics.specs.Store.{View}
use Rattle.oz_semantics.specs.Sights.{Sight, Readiness, Steps, WaitsForState}
use Rattle.oz_semantics.specs.Answers as answers
use Rattle.oz_semantics.specs.Answers.{with_value, of_kind}
use Rattle.oz_semantics.specs.Operations.{once_decided, unless_merged, state_term, committed_in, unless_ended, injects}
use Rattle.oz_semantics.specs.declared.value.SpaceOperation.TheVariants as operation
use Rattle.oz_semantics.specs.declared.value.Value.{Value}
use Rattle.oz_semantics.specs.declared.outcome.State.{State}
use Rattle.oz_semantics.specs.declared.outcome.State.TheVariants as states
use Rattle.builtins.specs.Answers.{IsAnswer}
use Rattle.builtins.specs.Exact.{answer_of}
use Rattle.operations.specs.declared.outcome.Outcome.{Outcome}
use Rattle.operations.specs.declared.outcome.Outcome.TheVariants.{Answers, GivesTerm}

-- an operation comes to this, but that it may rest for anything
abbrev pub IsOutcome : answers.Answer → Outcome → Type 0
IsOutcome a (Answers b) = IsAnswer a b
IsOutcome a (GivesTerm x nodes) = a ≡ answers.Acts (answers.GivesTerm x (term_of nodes))

-- the answer that it is, which rests for nothing
abbrev pub outcome_of : Outcome → answers.Answer
outcome_of (Answers b) = answer_of b
outcome_of (GivesTerm x nodes) = answers.Acts (answers.GivesTerm x (term_of nodes))

-- what a thread of the space goes by that sees this
abbrev pub seeing : List Statement → List ℕ → View → Sight
seeing statements space view = record { statements = statements; space = space; view = view }

-- The states

abbrev pub is_decided : State → Bool
is_decided states.Running = false
is_decided states.Suspended = false
is_decided states.Failed = true
is_decided (states.Raised x) = true
is_decided states.Merged = true
is_decided (states.Alternatives n) = true
is_decided states.Solved = true
is_decided states.Stuck = true

abbrev pub is_merged : State → Bool
is_merged states.Merged = true
is_merged states.Running = false
is_merged states.Suspended = false
is_merged states.Failed = false
is_merged (states.Raised x) = false
is_merged (states.Alternatives n) = false
is_merged states.Solved = false
is_merged states.Stuck = false

-- Each operation, of a space with its state, and with its other argument x

abbrev pub asks : View → List ℕ → Ident → State → answers.Answer
asks inner space x st = once_decided st (answers.Operates operation.Ask space x) (answers.Acts (answers.GivesTerm x (state_term inner st)))

-- where x has this value
abbrev pub commits_to : List ℕ → Ident → State → Value → answers.Answer
commits_to space x st v = once_decided st (answers.Operates operation.Commit space x) (of_kind (integer_in v) (committed_in space st))

abbrev pub commits : View → List ℕ → Ident → State → answers.Answer
commits view space x st = unless_merged st (with_value view x (commits_to space x st))

abbrev pub clones : List ℕ → Ident → State → answers.Answer
clones space x st = unless_merged st (once_decided st (answers.Operates operation.Clone space x) (unless_ended st (answers.Copies space x)))

abbrev pub injections : View → List ℕ → Ident → State → answers.Answer
injections view space x st = unless_merged st (with_value view x (injects space x st))

abbrev pub merges : List ℕ → Ident → State → answers.Answer
merges space x st = unless_merged st (once_decided st (answers.Operates operation.Merge space x) (unless_ended st (answers.TakesIn space x)))

-- What they wait for: for the state of the space, while that is not decided

abbrev pub once : List ℕ → Bool → Readiness
once space true = Steps
once space false = WaitsForState space
