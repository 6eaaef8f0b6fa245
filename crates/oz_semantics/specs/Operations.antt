-- What an operation on a space answers, by the state of that (CTM 12.5; Schulte 4). A space that was merged can only be asked for its state.
-- The others wait for their other argument, where that is an input, and all but `Inject` until the space neither runs nor is suspended.
use Rattle.std.specs.Prelude.{ℕ, ℤ, pos, negsuc, nat_le, ◌&&◌, if◌then◌else◌, List, Option, Some, None, unwrap_or, codes}
use Rattle.oz_base.specs.declared.names.Ident.{Ident}
use Rattle.oz_language.specs.declared.kernel.Constant.TheVariants as constant
use Rattle.oz_semantics.specs.Values.{integer_in, is_procedure}
use Rattle.oz_semantics.specs.Store.{View}
use Rattle.oz_semantics.specs.Terms.{Term, just_constant, just_atom, around, read_term}
use Rattle.oz_semantics.specs.Configurations.{view}
use Rattle.oz_semantics.specs.Sights.{Sight, States, state_in}
use Rattle.oz_semantics.specs.Answers.{Passes, GivesTerm, Edit, Commits, Copies, Injects, TakesIn, Answer, Acts, Edits, RaisesKind, RaisesTerm, Operates, Widens, Rests, with_value, of_kind}
use Rattle.oz_semantics.specs.declared.value.Value.{Value}
use Rattle.oz_semantics.specs.declared.value.SpaceOperation.{SpaceOperation}
use Rattle.oz_semantics.specs.declared.value.SpaceOperation.TheVariants as operation
use Rattle.oz_semantics.specs.declared.configuration.Layer.{Layer}
use Rattle.oz_semantics.specs.declared.outcome.RaiseKind.TheVariants as raise
use Rattle.oz_semantics.specs.declared.outcome.State.{State}
use Rattle.oz_semantics.specs.declared.outcome.State.TheVariants as states

-- The state

-- while it runs or is suspended, it is not decided
abbrev pub once_decided : State → Answer → Answer → Answer
once_decided states.Running waits go = waits
once_decided states.Suspended waits go = waits
once_decided states.Failed waits go = go
once_decided (states.Raised x) waits go = go
once_decided states.Merged waits go = go
once_decided (states.Alternatives n) waits go = go
once_decided states.Solved waits go = go
once_decided states.Stuck waits go = go

abbrev pub unless_merged : State → Answer → Answer
unless_merged states.Merged go = RaisesKind raise.SpaceMerged
unless_merged states.Running go = go
unless_merged states.Suspended go = go
unless_merged states.Failed go = go
unless_merged (states.Raised x) go = go
unless_merged (states.Alternatives n) go = go
unless_merged states.Solved go = go
unless_merged states.Stuck go = go

-- Ask: `failed`, `raised(E)`, `merged`, `alternatives(N)`, `succeeded`

-- the most nodes of an exception that is copied
abbrev pub copy_limit : ℕ
copy_limit = 1000

-- E is the exception that is the term of x in what its space sees, or else `opaque`
abbrev pub raised_term : View → Ident → Term
raised_term view x = around (codes "raised") (unwrap_or (read_term view copy_limit x) (just_atom (codes "opaque")))

abbrev pub state_term : View → State → Term
state_term view states.Failed = just_atom (codes "failed")
state_term view (states.Raised x) = raised_term view x
state_term view states.Merged = just_atom (codes "merged")
state_term view (states.Alternatives n) = around (codes "alternatives") (just_constant (constant.Int (pos n)))
state_term view states.Solved = just_atom (codes "succeeded")
state_term view states.Stuck = just_atom (codes "succeeded")
-- of these nothing is said
state_term view states.Running = just_atom (codes "running")
state_term view states.Suspended = just_atom (codes "suspended")

-- Commit

-- the i-th of n alternatives, from 1
abbrev pub alternative_of : List ℕ → ℕ → ℤ → Answer
alternative_of space n (pos i) = if nat_le 1 i && nat_le i n then Edits (Commits space i) else RaisesKind raise.SpaceChoice
alternative_of space n (negsuc i) = RaisesKind raise.SpaceChoice

abbrev pub committed_in : List ℕ → State → ℤ → Answer
committed_in space (states.Alternatives n) i = alternative_of space n i
committed_in space (states.Raised x) i = RaisesKind raise.SpaceRaised
committed_in space states.Failed i = RaisesKind raise.SpaceChoice
committed_in space states.Running i = RaisesKind raise.SpaceChoice
committed_in space states.Suspended i = RaisesKind raise.SpaceChoice
committed_in space states.Merged i = RaisesKind raise.SpaceChoice
committed_in space states.Solved i = RaisesKind raise.SpaceChoice
committed_in space states.Stuck i = RaisesKind raise.SpaceChoice

-- Clone and Merge: not of a space that has failed or was ended by another exception

abbrev pub unless_ended : State → Edit → Answer
unless_ended states.Failed edit = RaisesKind raise.FailureSpace
unless_ended (states.Raised x) edit = RaisesKind raise.SpaceRaised
unless_ended states.Running edit = Edits edit
unless_ended states.Suspended edit = Edits edit
unless_ended states.Merged edit = Edits edit
unless_ended (states.Alternatives n) edit = Edits edit
unless_ended states.Solved edit = Edits edit
unless_ended states.Stuck edit = Edits edit

-- Inject: nothing into such a space

abbrev pub injected_in : List ℕ → Ident → State → Answer
injected_in space p states.Failed = Acts Passes
injected_in space p (states.Raised x) = Acts Passes
injected_in space p states.Running = Edits (Injects space p)
injected_in space p states.Suspended = Edits (Injects space p)
injected_in space p states.Merged = Edits (Injects space p)
injected_in space p (states.Alternatives n) = Edits (Injects space p)
injected_in space p states.Solved = Edits (Injects space p)
injected_in space p states.Stuck = Edits (Injects space p)

abbrev pub injects : List ℕ → Ident → State → Value → Answer
injects space p st v = if is_procedure v then injected_in space p st else RaisesKind raise.BadKind

-- The operations, by what the thread goes by, what the space sees, its name and state, and the other argument

abbrev pub operated : Sight → View → SpaceOperation → List ℕ → Ident → State → Answer
operated s inner operation.Ask space x st = once_decided st (Operates operation.Ask space x) (Acts (GivesTerm x (state_term inner st)))
operated s inner operation.Commit space x st =
    unless_merged st
    (with_value s.view x (λ v. once_decided st (Operates operation.Commit space x) (of_kind (integer_in v) (committed_in space st))))
operated s inner operation.Clone space x st =
    unless_merged st (once_decided st (Operates operation.Clone space x) (unless_ended st (Copies space x)))
operated s inner operation.Inject space x st = unless_merged st (with_value s.view x (injects space x st))
operated s inner operation.Merge space x st =
    unless_merged st (once_decided st (Operates operation.Merge space x) (unless_ended st (TakesIn space x)))

abbrev pub with_state : Option State → (State → Answer) → Answer
with_state None go = RaisesKind raise.SpaceParent
with_state (Some st) go = go st

-- an answer, once the states are known of the spaces in the thread's own
abbrev pub by_state : List Layer → Sight → States → Answer → Answer
by_state layers s states (Operates op space x) = with_state (state_in states space) (operated s (view layers space) op space x)
by_state layers s states (Acts act) = Acts act
by_state layers s states (Edits edit) = Edits edit
by_state layers s states (RaisesKind kind) = RaisesKind kind
by_state layers s states (RaisesTerm x) = RaisesTerm x
by_state layers s states (Widens ts) = Widens ts
by_state layers s states (Rests ready) = Rests ready
