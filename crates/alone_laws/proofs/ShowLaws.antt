-- A text is shown in the top alone.
use Rattle.std.proofs.Common.{◌≡◌, ◌==◌, ℕ, ℤ, Bool, true, false, if◌then◌else◌, List, [], ◌∷◌, map, length, refl, ap, Option, Some, None, Result, Ok, Err, slice_get}
use Rattle.std.specs.Prelude.{int_lt, int_le, pos, negsuc, ◌&&◌, nat_le}
use Rattle.oz_base.specs.Lists.{list_eq}
use Rattle.oz_base.specs.declared.names.Ident.{Ident}
use Rattle.oz_base.specs.declared.numbers.NumFault.{NumFault}
use Rattle.oz_base.specs.declared.numbers.NumFault.TheVariants as faults
use Rattle.oz_base.specs.Numbers.{sum, difference, product, quotient, remainder}
use Rattle.environments.specs.Environments.{Environment, bound}
use Rattle.oz_language.specs.declared.token.Literal.{Literal}
use Rattle.oz_language.specs.declared.token.Literal.TheVariants as literal
use Rattle.oz_language.specs.declared.kernel.Constant.TheVariants as constant
use Rattle.oz_language.specs.declared.kernel.Operation.{Operation}
use Rattle.oz_language.specs.declared.kernel.Operation.TheVariants as operation
use Rattle.oz_language.specs.declared.kernel.Statement.{Statement}
use Rattle.oz_language.specs.declared.kernel.Statement.TheVariants as statement
use Rattle.oz_semantics.specs.Names.{is_top, is_child_of}
use Rattle.oz_semantics.specs.Values.{constant_in, integer_in, fields_of, cell_in, port_in, space_in, is_procedure}
use Rattle.oz_semantics.specs.Store.{View, value_of}
use Rattle.oz_semantics.specs.Configurations.{view}
use Rattle.oz_semantics.specs.Matching.{Match, Matches, Differs, MatchWaits, matched}
use Rattle.oz_semantics.specs.Entailment.{Equality, Entailed, Contradicted, Undecided, equality}
use Rattle.oz_semantics.specs.Terms.{list_term}
use Rattle.oz_semantics.specs.Sights.{Sight, States, state_in, Number, Offers}
use Rattle.oz_semantics.specs.Answers.{Act, Edit, Creates, Commits, Copies, TakesIn, Answer, Acts, Edits, RaisesKind, Operates, Rests, GivesTerm, Passes, Reads, Writes, Exchanges, Sends, Delays, Shows, given, with_value, of_kind, argument, gives_constant}
use Rattle.oz_semantics.specs.Builtins.{truth, gives_number, with_integers, compares, computes, of_equality, label_in, arity_in, gives_field, field_at, selects, own_act, on_cell, on_port, delays, creates, choice_limit, offered, operates, of_input, unless_refused, confines, posts, distributes, of_operation, answer, arguments_of, call_answer}
use Rattle.oz_semantics.specs.Inputs.{Input, Known, Unknown, OtherKind, both}
use Rattle.oz_semantics.specs.Vectors.{vector}
use Rattle.oz_semantics.specs.Constraints.{bounds, refusal_of}
use Rattle.oz_semantics.specs.Distributors as distributors
use Rattle.oz_semantics.specs.Distributors.{Distribution, Finished, Splits, distribution}
use Rattle.oz_base.specs.declared.relation.Relation.TheVariants.{Distinct}
use Rattle.oz_semantics.specs.declared.outcome.RaiseKind.{RaiseKind}
use Rattle.oz_semantics.specs.Statements.{value_called, called, branch, literal_branch, clause, statement_answer, numbered_answer, code_answer, stack_answer}
use Rattle.oz_semantics.specs.Operations.{once_decided, unless_merged, unless_ended, alternative_of, committed_in, injected_in, injects, state_term, operated, with_state, by_state}
use Rattle.oz_semantics.specs.declared.configuration.Code.{Code}
use Rattle.oz_semantics.specs.declared.configuration.Code.TheVariants as code
use Rattle.oz_semantics.specs.declared.configuration.Frame.{Frame}
use Rattle.oz_semantics.specs.declared.configuration.Layer.{Layer}
use Rattle.oz_semantics.specs.declared.value.Builtin.{Builtin}
use Rattle.oz_semantics.specs.declared.value.Builtin.TheVariants as builtin
use Rattle.oz_semantics.specs.declared.value.SpaceOperation.{SpaceOperation}
use Rattle.oz_semantics.specs.declared.value.SpaceOperation.TheVariants as spaces
use Rattle.oz_semantics.specs.declared.value.Value.{Value}
use Rattle.oz_semantics.specs.declared.value.Value.TheVariants as value
use Rattle.oz_semantics.specs.declared.outcome.RaiseKind.TheVariants as raise
use Rattle.oz_semantics.specs.declared.outcome.State.{State}
use Rattle.oz_semantics.specs.declared.outcome.State.TheVariants as states

abbrev pub act_shows : Act → Bool
act_shows (Shows x) = true
act_shows act = false

abbrev pub shows : Answer → Bool
shows (Acts act) = act_shows act
shows a = false

-- it shows nothing
abbrev Silent : Answer → Type 0
Silent a = shows a ≡ false

either_silent : (b : Bool) (one other : Answer) → Silent one → Silent other → Silent (if b then one else other)
either_silent true one other e f = e
either_silent false one other e f = f

kind_silent : {A : Type 0} (o : Option A) (go : A → Answer) → ((a : A) → Silent (go a)) → Silent (of_kind o go)
kind_silent None go h = refl
kind_silent (Some a) go h = h a

given_silent : (x : Ident) (o : Option Value) (go : Value → Answer) → ((v : Value) → Silent (go v)) → Silent (given x o go)
given_silent x None go h = refl
given_silent x (Some v) go h = h v

value_silent : (seen : View) (x : Ident) (go : Value → Answer) → ((v : Value) → Silent (go v)) → Silent (with_value seen x go)
value_silent seen x go h = given_silent x (value_of seen x) go h

input_silent : {A : Type 0} (i : Input A) (go : A → Answer) → ((a : A) → Silent (go a)) → Silent (of_input i go)
input_silent (Known a) go h = h a
input_silent (Unknown x) go h = refl
input_silent OtherKind go h = refl

refused_silent : (o : Option RaiseKind) (a : Answer) → Silent a → Silent (unless_refused o a)
refused_silent None a e = e
refused_silent (Some kind) a e = refl

-- Operators

number_silent : (z : Ident) (r : Result ℤ NumFault) → Silent (gives_number z r)
number_silent z (Ok i) = refl
number_silent z (Err faults.Overflow) = refl
number_silent z (Err faults.DivZero) = refl

field_silent : (z : Ident) (o : Option Ident) → Silent (gives_field z o)
field_silent z None = refl
field_silent z (Some x) = refl

selects_silent : (z : Ident) (v w : Value) → Silent (selects z v w)
selects_silent z v w =
    kind_silent (arity_in v) (λ features. of_kind (constant_in w) (λ f. gives_field z (field_at features (fields_of v) f)))
    (λ features. kind_silent (constant_in w) (λ f. gives_field z (field_at features (fields_of v) f)) (λ f. field_silent z (field_at features (fields_of v) f)))

equality_silent : (z : Ident) (asked : Bool) (e : Equality) → Silent (of_equality z asked e)
equality_silent z asked Entailed = refl
equality_silent z asked Contradicted = refl
equality_silent z asked (Undecided xs) = refl

module _ (seen : View) where
  two_silent : (x y : Ident) (go : Value → Value → Answer) → ((v w : Value) → Silent (go v w)) → Silent (with_value seen x (λ v. with_value seen y (go v)))
  two_silent x y go h = value_silent seen x (λ v. with_value seen y (go v)) (λ v. value_silent seen y (go v) (h v))

  integers_silent : (x y : Ident) (go : ℤ → ℤ → Answer) → ((i j : ℤ) → Silent (go i j)) → Silent (with_integers seen x y go)
  integers_silent x y go h =
      two_silent x y (λ v w. of_kind (integer_in v) (λ i. of_kind (integer_in w) (go i)))
      (λ v w. kind_silent (integer_in v) (λ i. of_kind (integer_in w) (go i)) (λ i. kind_silent (integer_in w) (go i) (h i)))

  compare_silent : (test : ℤ → ℤ → Bool) (x y z : Ident) → Silent (compares seen test x y z)
  compare_silent test x y z = integers_silent x y (λ i j. gives_constant z (truth (test i j))) (λ i j. refl)

  compute_silent : (operate : ℤ → ℤ → Result ℤ NumFault) (x y z : Ident) → Silent (computes seen operate x y z)
  compute_silent operate x y z = integers_silent x y (λ i j. gives_number z (operate i j)) (λ i j. number_silent z (operate i j))

  confines_silent : (xs : List Ident) (b : ℤ × ℤ) → Silent (confines seen xs b)
  confines_silent xs b = refused_silent (refusal_of b.0 b.1) _ refl

  distributes_silent : (d : Distribution) → Silent (distributes seen d)
  distributes_silent (distributors.Widens xs) = refl
  distributes_silent Finished = refl
  distributes_silent (Splits one other xs) = refl

  operation_silent : (op : Operation) (x y z : Ident) → Silent (of_operation seen op x y z)
  operation_silent operation.Same x y z = equality_silent z true (equality seen x y)
  operation_silent operation.Differs x y z = equality_silent z false (equality seen x y)
  operation_silent operation.Less x y z = compare_silent int_lt x y z
  operation_silent operation.AtMost x y z = compare_silent int_le x y z
  operation_silent operation.Greater x y z = compare_silent (λ i j. int_lt j i) x y z
  operation_silent operation.AtLeast x y z = compare_silent (λ i j. int_le j i) x y z
  operation_silent operation.Plus x y z = compute_silent sum x y z
  operation_silent operation.Minus x y z = compute_silent difference x y z
  operation_silent operation.Times x y z = compute_silent product x y z
  operation_silent operation.Div x y z = compute_silent quotient x y z
  operation_silent operation.Mod x y z = compute_silent remainder x y z
  operation_silent operation.Select x y z = two_silent x y (selects z) (selects_silent z)
  operation_silent operation.Bound x y z = input_silent (bounds seen y) (confines seen (x ∷ [])) (confines_silent (x ∷ []))
  operation_silent operation.BoundEach x y z =
      input_silent (both (vector seen x) (bounds seen y)) (λ (i : List Ident × (ℤ × ℤ)). confines seen i.0 i.1) (λ (i : List Ident × (ℤ × ℤ)). confines_silent i.0 i.1)

-- Operations on a space

decided_silent : (st : State) (one other : Answer) → Silent one → Silent other → Silent (once_decided st one other)
decided_silent states.Running one other e f = e
decided_silent states.Suspended one other e f = e
decided_silent st one other e f = f

unmerged_silent : (st : State) (a : Answer) → Silent a → Silent (unless_merged st a)
unmerged_silent states.Merged a e = refl
unmerged_silent st a e = e

unended_silent : (st : State) (edit : Edit) → Silent (unless_ended st edit)
unended_silent states.Failed edit = refl
unended_silent st edit = refl

alternative_silent : (space : List ℕ) (n : ℕ) (i : ℤ) → Silent (alternative_of space n i)
alternative_silent space n (pos i) = either_silent (nat_le 1 i && nat_le i n) (Edits (Commits space i)) (RaisesKind raise.SpaceChoice) refl refl
alternative_silent space n (negsuc i) = refl

committed_silent : (space : List ℕ) (st : State) (i : ℤ) → Silent (committed_in space st i)
committed_silent space (states.Alternatives n) i = alternative_silent space n i
committed_silent space st i = refl

injected_silent : (space : List ℕ) (p : Ident) (st : State) → Silent (injected_in space p st)
injected_silent space p states.Failed = refl
injected_silent space p st = refl

operated_silent : (s : Sight) (inner : View) (op : SpaceOperation) (space : List ℕ) (x : Ident) (st : State) → Silent (operated s inner op space x st)
operated_silent s inner spaces.Ask space x st = decided_silent st (Operates spaces.Ask space x) (Acts (GivesTerm x (state_term inner st))) refl refl
operated_silent s inner spaces.Commit space x st =
    unmerged_silent st _
    (value_silent s.view x (λ v. once_decided st (Operates spaces.Commit space x) (of_kind (integer_in v) (committed_in space st)))
    (λ v. decided_silent st (Operates spaces.Commit space x) (of_kind (integer_in v) (committed_in space st)) refl (kind_silent (integer_in v) (committed_in space st) (committed_silent space st))))
operated_silent s inner spaces.Clone space x st =
    unmerged_silent st _ (decided_silent st (Operates spaces.Clone space x) (unless_ended st (Copies space x)) refl (unended_silent st (Copies space x)))
operated_silent s inner spaces.Inject space x st =
    unmerged_silent st _
    (value_silent s.view x (injects space x st) (λ v. either_silent (is_procedure v) (injected_in space x st) (RaisesKind raise.BadKind) (injected_silent space x st) refl))
operated_silent s inner spaces.Merge space x st =
    unmerged_silent st _ (decided_silent st (Operates spaces.Merge space x) (unless_ended st (TakesIn space x)) refl (unended_silent st (TakesIn space x)))

-- the states of spaces make no text shown
pub state_silent : (layers : List Layer) (s : Sight) (known : States) (a : Answer) → shows a ≡ false → shows (by_state layers s known a) ≡ false
state_silent layers s known (Operates op space x) e = by (state_in known space)
  where
    by : (o : Option State) → Silent (with_state o (operated s (view layers space) op space x))
    by None = refl
    by (Some st) = operated_silent s (view layers space) op space x st
state_silent layers s known (Acts act) e = e
state_silent layers s known a e = refl

-- What a thread of a space that is not the top answers

module _ (s : Sight) (inner : is_top s.space ≡ false) where
  cell_silent : (x : Ident) (act : ℕ → Act) → ((n : ℕ) → act_shows (act n) ≡ false) → Silent (on_cell s x act)
  cell_silent x act h =
      value_silent s.view x (λ v. of_kind (cell_in v) (own_act s raise.GlobalCell act))
      (λ v. kind_silent (cell_in v) (own_act s raise.GlobalCell act) (λ owner. either_silent (list_eq owner.space s.space) (Acts (act owner.number)) (RaisesKind raise.GlobalCell) (h owner.number) refl))

  port_silent : (x : Ident) (act : ℕ → Act) → ((n : ℕ) → act_shows (act n) ≡ false) → Silent (on_port s x act)
  port_silent x act h =
      value_silent s.view x (λ v. of_kind (port_in v) (own_act s raise.GlobalPort act))
      (λ v. kind_silent (port_in v) (own_act s raise.GlobalPort act) (λ owner. either_silent (list_eq owner.space s.space) (Acts (act owner.number)) (RaisesKind raise.GlobalPort) (h owner.number) refl))

  offered_silent : (x : Ident) (i : ℤ) → Silent (offered x i)
  offered_silent x (pos n) = either_silent (nat_le 1 n && nat_le n choice_limit) (Rests (Offers (Number n x) [])) (RaisesKind raise.Domain) refl refl
  offered_silent x (negsuc n) = refl

  operates_silent : (op : SpaceOperation) (x : Ident) (child : List ℕ) → Silent (operates s op x child)
  operates_silent op x child = either_silent (is_child_of s.space child) (Operates op child x) (RaisesKind raise.SpaceParent) refl refl

  answer_silent : (b : Builtin) (x : ℕ → Ident) → Silent (answer s b x)
  answer_silent (builtin.Operation op) x = operation_silent s.view op (x 0) (x 1) (x 2)
  answer_silent builtin.Label x = value_silent s.view (x 0) _ (λ v. kind_silent (label_in v) (gives_constant (x 1)) (λ c. refl))
  answer_silent builtin.Width x = value_silent s.view (x 0) _ (λ v. kind_silent (arity_in v) (λ fs. gives_constant (x 1) (constant.Int (pos (length fs)))) (λ fs. refl))
  answer_silent builtin.Arity x = value_silent s.view (x 0) _ (λ v. kind_silent (arity_in v) (λ fs. Acts (GivesTerm (x 1) (list_term fs))) (λ fs. refl))
  answer_silent builtin.Wait x = value_silent s.view (x 0) (λ v. Acts Passes) (λ v. refl)
  answer_silent builtin.Access x = cell_silent (x 0) (λ n. Reads n (x 1)) (λ n. refl)
  answer_silent builtin.Assign x = cell_silent (x 0) (λ n. Writes n (x 1)) (λ n. refl)
  answer_silent builtin.Exchange x = cell_silent (x 0) (λ n. Exchanges n (x 1) (x 2)) (λ n. refl)
  answer_silent builtin.Send x = port_silent (x 0) (λ n. Sends n (x 1)) (λ n. refl)
  answer_silent builtin.ByNeed x =
      value_silent s.view (x 0) (delays (x 0) (x 1)) (λ v. either_silent (is_procedure v) (Acts (Delays (x 0) (x 1))) (RaisesKind raise.BadKind) refl refl)
  answer_silent builtin.Show x = ap (λ (b : Bool). shows (if b then Acts (Shows (x 0)) else RaisesKind raise.GlobalIo)) inner
  answer_silent builtin.NewSpace x =
      value_silent s.view (x 0) (creates (x 0) (x 1)) (λ v. either_silent (is_procedure v) (Edits (Creates (x 0) (x 1))) (RaisesKind raise.BadKind) refl refl)
  answer_silent builtin.Choose x = value_silent s.view (x 0) _ (λ v. kind_silent (integer_in v) (offered (x 1)) (offered_silent (x 1)))
  answer_silent (builtin.OnSpace op) x = value_silent s.view (x 0) _ (λ v. kind_silent (space_in v) (operates s op (x 1)) (operates_silent op (x 1)))
  answer_silent builtin.Distinct x = input_silent (vector s.view (x 0)) (posts s.view Distinct) (λ xs. refl)
  answer_silent builtin.Distribute x = input_silent (distribution s.view (x 0) (x 1)) (distributes s.view) (distributes_silent s.view)
  answer_silent b x = refl

  call_silent : (b : Builtin) (xs : List Ident) → Silent (call_answer s b xs)
  call_silent b xs = either_silent (length xs == arguments_of b) (answer s b (argument xs)) (RaisesKind raise.Arity) (answer_silent b (argument xs)) refl

  value_called_silent : (xs : List Ident) (v : Value) → Silent (value_called s xs v)
  value_called_silent xs (value.Builtin b) = call_silent b xs
  value_called_silent xs (value.Procedure q) = either_silent (length xs == length q.parameters) _ (RaisesKind raise.Arity) refl refl
  value_called_silent xs v = refl

  called_silent : (x : Ident) (xs : List Ident) → Silent (called s x xs)
  called_silent x xs = value_silent s.view x (value_called s xs) (value_called_silent xs)

  literal_silent : (environment : Environment) (accepted otherwise : List ℕ) (l : Literal) → Silent (literal_branch environment accepted otherwise l)
  literal_silent environment accepted otherwise literal.True = refl
  literal_silent environment accepted otherwise l = refl

  branch_silent : (environment : Environment) (accepted otherwise : List ℕ) (v : Value) → Silent (branch environment accepted otherwise v)
  branch_silent environment accepted otherwise (value.Constant (constant.Literal l)) = literal_silent environment accepted otherwise l
  branch_silent environment accepted otherwise (value.Constant (constant.Int i)) = refl
  branch_silent environment accepted otherwise v = refl

  clause_silent : (environment : Environment) (accepted otherwise : List ℕ) (m : Match) → Silent (clause environment accepted otherwise m)
  clause_silent environment accepted otherwise (Matches extended) = refl
  clause_silent environment accepted otherwise Differs = refl
  clause_silent environment accepted otherwise (MatchWaits x) = refl

  statement_silent : (environment : Environment) (st : Statement) → Silent (statement_answer s environment st)
  statement_silent environment (statement.Call procedure arguments) = called_silent (bound environment procedure) (map (bound environment) arguments)
  statement_silent environment (statement.Operate op arguments) = call_silent (builtin.Operation op) (map (bound environment) arguments)
  statement_silent environment (statement.If condition accepted otherwise) = value_silent s.view (bound environment condition) (branch environment accepted otherwise) (branch_silent environment accepted otherwise)
  statement_silent environment (statement.Case subject pattern accepted otherwise) = clause_silent environment accepted otherwise (matched s.view pattern (bound environment subject ∷ []) environment)
  statement_silent environment st = refl

  numbered_silent : (environment : Environment) (o : Option Statement) → Silent (numbered_answer s environment o)
  numbered_silent environment None = refl
  numbered_silent environment (Some st) = statement_silent environment st

  code_silent : (environment : Environment) (c : Code) → Silent (code_answer s environment c)
  code_silent environment (code.Statement n) = numbered_silent environment (slice_get s.statements n)
  code_silent environment (code.Call procedure argument) = called_silent procedure (argument ∷ [])
  code_silent environment c = refl

  pub stack_silent : (frames : List Frame) → shows (stack_answer s frames) ≡ false
  stack_silent [] = refl
  stack_silent (frame ∷ rest) = code_silent frame.environment frame.code
