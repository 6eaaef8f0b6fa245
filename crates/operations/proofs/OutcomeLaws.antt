-- What an operation comes to, by what is said of it and by the state of the space.
use Rattle.std.proofs.Common.{◌≡◌, ℕ, ℤ, pos, negsuc, ◌&&◌, Bool, true, false, if◌then◌else◌, List, Option, Some, None, refl, sym, ap, ◌∙◌}
use Rattle.std.specs.Prelude.{nat_le}
use Rattle.oz_base.specs.declared.names.Ident.{Ident}
use Rattle.oz_semantics.specs.Values.{integer_in, is_procedure}
use Rattle.oz_semantics.specs.Store.{View, value_of}
use Rattle.oz_semantics.specs.Sights.{Sight, Readiness, Steps}
use Rattle.oz_semantics.specs.Answers as answers
use Rattle.oz_semantics.specs.Answers.{given, of_kind}
use Rattle.oz_semantics.specs.Operations.{once_decided, unless_merged, alternative_of, committed_in, injected_in, injects, operated}
use Rattle.oz_semantics.specs.Readiness.{answer_ready}
use Rattle.oz_semantics.specs.declared.value.SpaceOperation.{SpaceOperation}
use Rattle.oz_semantics.specs.declared.value.SpaceOperation.TheVariants as operation
use Rattle.oz_semantics.specs.declared.value.Value.{Value}
use Rattle.oz_semantics.specs.declared.outcome.State.{State}
use Rattle.oz_semantics.specs.declared.outcome.State.TheVariants as states
use Rattle.oz_semantics.specs.declared.outcome.RaiseKind.TheVariants as raise
use Rattle.builtins.proofs.AnswerLaws.{is_answer}
use Rattle.builtins.specs.Exact.{erased}
use Rattle.builtins.specs.Looks.{awaiting}
use Rattle.operations.specs.declared.outcome.Outcome.{Outcome}
use Rattle.operations.specs.declared.outcome.Outcome.TheVariants.{Answers, GivesTerm}
use Rattle.operations.specs.Outcomes.{IsOutcome, outcome_of, is_decided, is_merged, asks, commits_to, commits, clones, injections, merges, once}

-- what says the same but for a rest is what it comes to
pub is_outcome : (a : answers.Answer) (o : Outcome) → outcome_of o ≡ erased a → IsOutcome a o
is_outcome a (Answers b) e = is_answer a b e
is_outcome (answers.Acts act) (GivesTerm x nodes) e = sym e
is_outcome (answers.Edits edit) (GivesTerm x nodes) e = cc
is_outcome (answers.RaisesKind kind) (GivesTerm x nodes) e = cc
is_outcome (answers.RaisesTerm y) (GivesTerm x nodes) e = cc
is_outcome (answers.Operates op space y) (GivesTerm x nodes) e = cc
is_outcome (answers.Widens ts) (GivesTerm x nodes) e = cc
is_outcome (answers.Rests ready) (GivesTerm x nodes) e = cc

-- States

pub merged_raises : (st : State) (go : answers.Answer) → is_merged st ≡ true → unless_merged st go ≡ answers.RaisesKind raise.SpaceMerged
merged_raises states.Merged go e = refl
merged_raises states.Running go e = cc
merged_raises states.Suspended go e = cc
merged_raises states.Failed go e = cc
merged_raises (states.Raised x) go e = cc
merged_raises (states.Alternatives n) go e = cc
merged_raises states.Solved go e = cc
merged_raises states.Stuck go e = cc

pub unmerged_goes : (st : State) (go : answers.Answer) → is_merged st ≡ false → unless_merged st go ≡ go
unmerged_goes states.Merged go e = cc
unmerged_goes states.Running go e = refl
unmerged_goes states.Suspended go e = refl
unmerged_goes states.Failed go e = refl
unmerged_goes (states.Raised x) go e = refl
unmerged_goes (states.Alternatives n) go e = refl
unmerged_goes states.Solved go e = refl
unmerged_goes states.Stuck go e = refl

pub decided_goes : (st : State) (waits go : answers.Answer) → is_decided st ≡ true → once_decided st waits go ≡ go
decided_goes states.Merged waits go e = refl
decided_goes states.Running waits go e = cc
decided_goes states.Suspended waits go e = cc
decided_goes states.Failed waits go e = refl
decided_goes (states.Raised x) waits go e = refl
decided_goes (states.Alternatives n) waits go e = refl
decided_goes states.Solved waits go e = refl
decided_goes states.Stuck waits go e = refl

pub undecided_waits : (st : State) (waits go : answers.Answer) → is_decided st ≡ false → once_decided st waits go ≡ waits
undecided_waits states.Merged waits go e = cc
undecided_waits states.Running waits go e = refl
undecided_waits states.Suspended waits go e = refl
undecided_waits states.Failed waits go e = cc
undecided_waits (states.Raised x) waits go e = cc
undecided_waits (states.Alternatives n) waits go e = cc
undecided_waits states.Solved waits go e = cc
undecided_waits states.Stuck waits go e = cc

-- What is waited for

abbrev ready_once : View → Ident → List ℕ → State → Readiness
ready_once view x space st = awaiting x (value_of view x) (once space (is_decided st))

pub ask_ready : (inner : View) (space : List ℕ) (x : Ident) (st : State) → answer_ready (asks inner space x st) ≡ once space (is_decided st)
ask_ready inner space x states.Running = refl
ask_ready inner space x states.Suspended = refl
ask_ready inner space x states.Failed = refl
ask_ready inner space x (states.Raised y) = refl
ask_ready inner space x states.Merged = refl
ask_ready inner space x (states.Alternatives n) = refl
ask_ready inner space x states.Solved = refl
ask_ready inner space x states.Stuck = refl

pub clone_ready : (space : List ℕ) (x : Ident) (st : State) → answer_ready (clones space x st) ≡ once space (is_decided st)
clone_ready space x states.Running = refl
clone_ready space x states.Suspended = refl
clone_ready space x states.Failed = refl
clone_ready space x (states.Raised y) = refl
clone_ready space x states.Merged = refl
clone_ready space x (states.Alternatives n) = refl
clone_ready space x states.Solved = refl
clone_ready space x states.Stuck = refl

pub merge_ready : (space : List ℕ) (x : Ident) (st : State) → answer_ready (merges space x st) ≡ once space (is_decided st)
merge_ready space x states.Running = refl
merge_ready space x states.Suspended = refl
merge_ready space x states.Failed = refl
merge_ready space x (states.Raised y) = refl
merge_ready space x states.Merged = refl
merge_ready space x (states.Alternatives n) = refl
merge_ready space x states.Solved = refl
merge_ready space x states.Stuck = refl

-- a commitment of a number, once the space is decided

alternative_steps : (space : List ℕ) (n : ℕ) (i : ℤ) → answer_ready (alternative_of space n i) ≡ Steps
alternative_steps space n (pos i) = by (nat_le 1 i && nat_le i n)
  where
    by : (b : Bool) → answer_ready (if b then answers.Edits (answers.Commits space i) else answers.RaisesKind raise.SpaceChoice) ≡ Steps
    by true = refl
    by false = refl
alternative_steps space n (negsuc i) = refl

committed_steps : (space : List ℕ) (st : State) (i : ℤ) → answer_ready (committed_in space st i) ≡ Steps
committed_steps space (states.Alternatives n) i = alternative_steps space n i
committed_steps space (states.Raised x) i = refl
committed_steps space states.Failed i = refl
committed_steps space states.Running i = refl
committed_steps space states.Suspended i = refl
committed_steps space states.Merged i = refl
committed_steps space states.Solved i = refl
committed_steps space states.Stuck i = refl

number_steps : (space : List ℕ) (st : State) (o : Option ℤ) → answer_ready (of_kind o (committed_in space st)) ≡ Steps
number_steps space st None = refl
number_steps space st (Some i) = committed_steps space st i

commit_decided : (space : List ℕ) (x : Ident) (st : State) (v : Value) → answer_ready (commits_to space x st v) ≡ once space (is_decided st)
commit_decided space x states.Running v = refl
commit_decided space x states.Suspended v = refl
commit_decided space x states.Failed v = number_steps space states.Failed (integer_in v)
commit_decided space x (states.Raised y) v = number_steps space (states.Raised y) (integer_in v)
commit_decided space x states.Merged v = number_steps space states.Merged (integer_in v)
commit_decided space x (states.Alternatives n) v = number_steps space (states.Alternatives n) (integer_in v)
commit_decided space x states.Solved v = number_steps space states.Solved (integer_in v)
commit_decided space x states.Stuck v = number_steps space states.Stuck (integer_in v)

commit_given : (space : List ℕ) (x : Ident) (st : State) (o : Option Value) → answer_ready (given x o (commits_to space x st)) ≡ awaiting x o (once space (is_decided st))
commit_given space x st None = refl
commit_given space x st (Some v) = commit_decided space x st v

pub commit_ready : (view : View) (space : List ℕ) (x : Ident) (st : State) → is_merged st ≡ false → answer_ready (commits view space x st) ≡ ready_once view x space st
commit_ready view space x st e = ap answer_ready (unmerged_goes st (given x (value_of view x) (commits_to space x st)) e) ∙ commit_given space x st (value_of view x)

-- an injection waits for no state

injected_steps : (space : List ℕ) (p : Ident) (st : State) → answer_ready (injected_in space p st) ≡ Steps
injected_steps space p states.Running = refl
injected_steps space p states.Suspended = refl
injected_steps space p states.Failed = refl
injected_steps space p (states.Raised y) = refl
injected_steps space p states.Merged = refl
injected_steps space p (states.Alternatives n) = refl
injected_steps space p states.Solved = refl
injected_steps space p states.Stuck = refl

injects_steps : (b : Bool) (space : List ℕ) (p : Ident) (st : State) → answer_ready (if b then injected_in space p st else answers.RaisesKind raise.BadKind) ≡ Steps
injects_steps true space p st = injected_steps space p st
injects_steps false space p st = refl

inject_given : (space : List ℕ) (x : Ident) (st : State) (o : Option Value) → answer_ready (given x o (injects space x st)) ≡ awaiting x o Steps
inject_given space x st None = refl
inject_given space x st (Some v) = injects_steps (is_procedure v) space x st

pub inject_ready : (view : View) (space : List ℕ) (x : Ident) (st : State) → is_merged st ≡ false → answer_ready (injections view space x st) ≡ awaiting x (value_of view x) Steps
inject_ready view space x st e = ap answer_ready (unmerged_goes st (given x (value_of view x) (injects space x st)) e) ∙ inject_given space x st (value_of view x)

-- any operation on a space that was merged is a step
pub merged_steps : (s : Sight) (inner : View) (op : SpaceOperation) (space : List ℕ) (x : Ident) (st : State) → is_merged st ≡ true → Steps ≡ answer_ready (operated s inner op space x st)
merged_steps s inner operation.Ask space x states.Merged e = refl
merged_steps s inner operation.Commit space x states.Merged e = refl
merged_steps s inner operation.Clone space x states.Merged e = refl
merged_steps s inner operation.Inject space x states.Merged e = refl
merged_steps s inner operation.Merge space x states.Merged e = refl
merged_steps s inner op space x states.Running e = cc
merged_steps s inner op space x states.Suspended e = cc
merged_steps s inner op space x states.Failed e = cc
merged_steps s inner op space x (states.Raised y) e = cc
merged_steps s inner op space x (states.Alternatives n) e = cc
merged_steps s inner op space x states.Solved e = cc
merged_steps s inner op space x states.Stuck e = cc
