-- What a stack answers: what is so of all answers of some kinds, and of each operation on a space that the thread sees, is so of it.
use Rattle.std.proofs.Common.{◌≡◌, ◌==◌, ℕ, ℤ, Bool, true, false, if◌then◌else◌, List, [], ◌∷◌, map, length, refl, Option, Some, None, Result, Ok, Err, slice_get, Contains}
use Rattle.std.specs.Prelude.{int_lt, int_le, pos, negsuc, ◌&&◌, nat_le}
use Rattle.oz_base.specs.Lists.{list_eq}
use Rattle.oz_base.specs.declared.names.Ident.{Ident}
use Rattle.oz_base.specs.declared.numbers.NumFault.{NumFault}
use Rattle.oz_base.specs.declared.numbers.NumFault.TheVariants as faults
use Rattle.oz_base.specs.Numbers.{sum, difference, product, quotient, remainder}
use Rattle.environments.specs.Environments.{Environment, bound}
use Rattle.oz_language.specs.declared.token.Literal.TheVariants as literal
use Rattle.oz_language.specs.declared.kernel.Constant.{Constant}
use Rattle.oz_language.specs.declared.kernel.Constant.TheVariants as constant
use Rattle.oz_language.specs.declared.kernel.Operation.{Operation}
use Rattle.oz_language.specs.declared.kernel.Operation.TheVariants as operation
use Rattle.oz_language.specs.declared.kernel.Statement.{Statement}
use Rattle.oz_language.specs.declared.kernel.Statement.TheVariants as statement
use Rattle.oz_semantics.specs.Names.{is_top, is_child_of}
use Rattle.oz_semantics.specs.Values.{constant_in, integer_in, fields_of, cell_in, port_in, space_in, is_procedure}
use Rattle.oz_semantics.specs.Store.{value_of}
use Rattle.oz_semantics.specs.Matching.{Match, Matches, Differs, MatchWaits, matched}
use Rattle.oz_semantics.specs.Entailment.{Equality, Entailed, Contradicted, Undecided, equality}
use Rattle.oz_semantics.specs.Terms.{list_term}
use Rattle.oz_semantics.specs.Sights.{Sight, Offer, Bodies, Number, Parts, Readiness, Steps, Waits, WaitsForState, Offers}
use Rattle.oz_semantics.specs.Answers.{Act, Creates, Answer, Acts, Edits, RaisesKind, RaisesTerm, Operates, Widens, Rests, GivesTerm, Passes, Reads, Writes, Exchanges, Sends, Delays, Shows, given, with_value, of_kind, argument, gives_constant}
use Rattle.oz_semantics.specs.Builtins.{truth, gives_number, with_integers, compares, computes, of_equality, label_in, arity_in, gives_field, field_at, selects, own_act, on_cell, on_port, delays, creates, choice_limit, offered, operates, of_input, unless_refused, confines, posts, distributes, of_operation, answer, arguments_of, call_answer}
use Rattle.oz_semantics.specs.Inputs.{Input, Known, Unknown, OtherKind, both}
use Rattle.oz_semantics.specs.Vectors.{vector}
use Rattle.oz_semantics.specs.Constraints.{bounds, refusal_of}
use Rattle.oz_semantics.specs.Distributors as distributors
use Rattle.oz_semantics.specs.Distributors.{Distribution, Finished, Splits, distribution}
use Rattle.oz_base.specs.declared.relation.Relation.TheVariants.{Distinct}
use Rattle.oz_semantics.specs.Statements.{procedure_called, value_called, called, branch, constant_branch, clause, statement_answer, numbered_answer, code_answer, stack_answer}
use Rattle.oz_semantics.specs.declared.configuration.Code.{Code}
use Rattle.oz_semantics.specs.declared.configuration.Code.TheVariants as code
use Rattle.oz_semantics.specs.declared.configuration.Frame.{Frame}
use Rattle.oz_semantics.specs.declared.value.Procedure as procedures
use Rattle.oz_semantics.specs.declared.value.Builtin.{Builtin}
use Rattle.oz_semantics.specs.declared.value.Builtin.TheVariants as builtin
use Rattle.oz_semantics.specs.declared.value.SpaceOperation.{SpaceOperation}
use Rattle.oz_semantics.specs.declared.value.Value.{Value}
use Rattle.oz_semantics.specs.declared.value.Value.TheVariants as value
use Rattle.oz_semantics.specs.declared.value.Tell.{Tell}
use Rattle.oz_semantics.specs.declared.value.Tell.TheVariants.{Is}
use Rattle.oz_semantics.specs.declared.outcome.RaiseKind.{RaiseKind}
use Rattle.oz_semantics.specs.declared.outcome.RaiseKind.TheVariants as raise
use Rattle.view_laws.proofs.KnownLaws.{Known as KnownValue, was_told, is_only, known_value}

-- it offers the parts of a domain
abbrev pub is_parts : Offer → Bool
is_parts (Parts one other) = true
is_parts (Bodies bodies) = false
is_parts (Number n x) = false

abbrev pub offers_parts : Readiness → Bool
offers_parts Steps = false
offers_parts (Waits xs) = false
offers_parts (WaitsForState space) = false
offers_parts (Offers offer xs) = is_parts offer

-- What is so of each of these is so of what a stack answers
module _ (s : Sight) (Holds : Answer → Type 0) (acts : (act : Act) → Holds (Acts act)) (creation : (procedure x : Ident) → Holds (Edits (Creates procedure x)))
    (kinds : (kind : RaiseKind) → Holds (RaisesKind kind)) (terms : (x : Ident) → Holds (RaisesTerm x)) (widens : (ts : List Tell) → Holds (Widens ts))
    (rests : (ready : Readiness) → offers_parts ready ≡ false → Holds (Rests ready))
    (parts : (rule v : Ident) (one other : Tell) (xs : List Ident) → distribution s.view rule v ≡ Known (Splits one other xs) → Holds (Rests (Offers (Parts one other) xs)))
    (operation_on : (op : SpaceOperation) (child : List ℕ) (x y : Ident) → Contains s.view (Is y (value.Space child)) → is_child_of s.space child ≡ true → Holds (Operates op child x)) where
  -- Answers that ask nothing of the view

  kind_holds : {A : Type 0} (o : Option A) (go : A → Answer) → ((a : A) → Holds (go a)) → Holds (of_kind o go)
  kind_holds None go h = kinds raise.BadKind
  kind_holds (Some a) go h = h a

  either_holds : (b : Bool) (one other : Answer) → Holds one → Holds other → Holds (if b then one else other)
  either_holds true one other e f = e
  either_holds false one other e f = f

  number_holds : (z : Ident) (r : Result ℤ NumFault) → Holds (gives_number z r)
  number_holds z (Ok i) = acts _
  number_holds z (Err faults.Overflow) = kinds raise.Overflow
  number_holds z (Err faults.DivZero) = kinds raise.DivZero

  field_holds : (z : Ident) (o : Option Ident) → Holds (gives_field z o)
  field_holds z None = kinds raise.Feature
  field_holds z (Some x) = acts _

  selects_holds : (z : Ident) (v w : Value) → Holds (selects z v w)
  selects_holds z v w =
      kind_holds (arity_in v) (λ features. of_kind (constant_in w) (λ f. gives_field z (field_at features (fields_of v) f)))
      (λ features. kind_holds (constant_in w) (λ f. gives_field z (field_at features (fields_of v) f)) (λ f. field_holds z (field_at features (fields_of v) f)))

  own_holds : (global : RaiseKind) (act : ℕ → Act) (owner : Ident) → Holds (own_act s global act owner)
  own_holds global act owner = either_holds (list_eq owner.space s.space) (Acts (act owner.number)) (RaisesKind global) (acts _) (kinds global)

  delay_holds : (procedure x : Ident) (v : Value) → Holds (delays procedure x v)
  delay_holds procedure x v = either_holds (is_procedure v) (Acts (Delays procedure x)) (RaisesKind raise.BadKind) (acts _) (kinds raise.BadKind)

  create_holds : (procedure x : Ident) (v : Value) → Holds (creates procedure x v)
  create_holds procedure x v = either_holds (is_procedure v) (Edits (Creates procedure x)) (RaisesKind raise.BadKind) (creation procedure x) (kinds raise.BadKind)

  offer_holds : (x : Ident) (i : ℤ) → Holds (offered x i)
  offer_holds x (pos n) = either_holds (nat_le 1 n && nat_le n choice_limit) (Rests (Offers (Number n x) [])) (RaisesKind raise.Domain) (rests _ refl) (kinds raise.Domain)
  offer_holds x (negsuc n) = kinds raise.Domain

  equality_holds : (z : Ident) (asked : Bool) (e : Equality) → Holds (of_equality z asked e)
  equality_holds z asked Entailed = acts _
  equality_holds z asked Contradicted = acts _
  equality_holds z asked (Undecided xs) = rests _ refl

  clause_holds : (environment : Environment) (accepted otherwise : List ℕ) (m : Match) → Holds (clause environment accepted otherwise m)
  clause_holds environment accepted otherwise (Matches extended) = acts _
  clause_holds environment accepted otherwise Differs = acts _
  clause_holds environment accepted otherwise (MatchWaits x) = rests _ refl

  literal_holds : (environment : Environment) (accepted otherwise : List ℕ) (c : Constant) → Holds (constant_branch environment accepted otherwise c)
  literal_holds environment accepted otherwise (constant.Literal literal.True) = acts _
  literal_holds environment accepted otherwise (constant.Literal literal.False) = acts _
  literal_holds environment accepted otherwise (constant.Literal literal.Unit) = kinds raise.Boolean
  literal_holds environment accepted otherwise (constant.Literal (literal.Atom a)) = kinds raise.Boolean
  literal_holds environment accepted otherwise (constant.Int i) = kinds raise.Boolean

  branch_holds : (environment : Environment) (accepted otherwise : List ℕ) (v : Value) → Holds (branch environment accepted otherwise v)
  branch_holds environment accepted otherwise (value.Constant c) = literal_holds environment accepted otherwise c
  branch_holds environment accepted otherwise (value.Record r) = kinds raise.Boolean
  branch_holds environment accepted otherwise (value.Procedure p) = kinds raise.Boolean
  branch_holds environment accepted otherwise (value.Name n) = kinds raise.Boolean
  branch_holds environment accepted otherwise (value.Cell c) = kinds raise.Boolean
  branch_holds environment accepted otherwise (value.Port p) = kinds raise.Boolean
  branch_holds environment accepted otherwise (value.Space t) = kinds raise.Boolean
  branch_holds environment accepted otherwise (value.Builtin b) = kinds raise.Boolean

  procedure_holds : (q : procedures.Procedure) (xs : List Ident) → Holds (procedure_called q xs)
  procedure_holds q xs = either_holds (length xs == length q.parameters) _ (RaisesKind raise.Arity) (acts _) (kinds raise.Arity)

  -- Domains

  input_holds : {A : Type 0} (i : Input A) (go : A → Answer) → ((a : A) → Holds (go a)) → Holds (of_input i go)
  input_holds (Known a) go h = h a
  input_holds (Unknown x) go h = rests _ refl
  input_holds OtherKind go h = kinds raise.BadKind

  refusal_holds : (o : Option RaiseKind) (a : Answer) → Holds a → Holds (unless_refused o a)
  refusal_holds None a h = h
  refusal_holds (Some kind) a h = kinds kind

  confine_holds : (xs : List Ident) (b : ℤ × ℤ) → Holds (confines s.view xs b)
  confine_holds xs b = refusal_holds (refusal_of b.0 b.1) _ (acts _)

  distribute_holds : (rule v : Ident) (i : Input Distribution) → distribution s.view rule v ≡ i → Holds (of_input i (distributes s.view))
  distribute_holds rule v (Known (distributors.Widens xs)) e = widens _
  distribute_holds rule v (Known Finished) e = acts Passes
  distribute_holds rule v (Known (Splits one other xs)) e = parts rule v one other xs e
  distribute_holds rule v (Unknown x) e = rests _ refl
  distribute_holds rule v OtherKind e = kinds raise.BadKind

  -- Inputs

  value_holds : (x : Ident) (go : Value → Answer) → ((v : Value) → KnownValue s.view x v → Holds (go v)) → Holds (with_value s.view x go)
  value_holds x go h = by (value_of s.view x) refl
    where
      by : (o : Option Value) → value_of s.view x ≡ o → Holds (given x o go)
      by None e = rests _ refl
      by (Some v) e = h v (known_value s.view x v e)

  one_holds : (x : Ident) (go : Value → Answer) → ((v : Value) → Holds (go v)) → Holds (with_value s.view x go)
  one_holds x go h = value_holds x go (λ v e. h v)

  two_holds : (x y : Ident) (go : Value → Value → Answer) → ((v w : Value) → Holds (go v w)) → Holds (with_value s.view x (λ v. with_value s.view y (go v)))
  two_holds x y go h = one_holds x (λ v. with_value s.view y (go v)) (λ v. one_holds y (go v) (h v))

  integers_holds : (x y : Ident) (go : ℤ → ℤ → Answer) → ((i j : ℤ) → Holds (go i j)) → Holds (with_integers s.view x y go)
  integers_holds x y go h =
      two_holds x y (λ v w. of_kind (integer_in v) (λ i. of_kind (integer_in w) (go i)))
      (λ v w. kind_holds (integer_in v) (λ i. of_kind (integer_in w) (go i)) (λ i. kind_holds (integer_in w) (go i) (h i)))

  -- Built-ins

  compare_holds : (test : ℤ → ℤ → Bool) (x y z : Ident) → Holds (compares s.view test x y z)
  compare_holds test x y z = integers_holds x y (λ i j. gives_constant z (truth (test i j))) (λ i j. acts _)

  compute_holds : (operate : ℤ → ℤ → Result ℤ NumFault) (x y z : Ident) → Holds (computes s.view operate x y z)
  compute_holds operate x y z = integers_holds x y (λ i j. gives_number z (operate i j)) (λ i j. number_holds z (operate i j))

  operation_holds : (op : Operation) (x y z : Ident) → Holds (of_operation s.view op x y z)
  operation_holds operation.Same x y z = equality_holds z true (equality s.view x y)
  operation_holds operation.Differs x y z = equality_holds z false (equality s.view x y)
  operation_holds operation.Less x y z = compare_holds int_lt x y z
  operation_holds operation.AtMost x y z = compare_holds int_le x y z
  operation_holds operation.Greater x y z = compare_holds (λ i j. int_lt j i) x y z
  operation_holds operation.AtLeast x y z = compare_holds (λ i j. int_le j i) x y z
  operation_holds operation.Plus x y z = compute_holds sum x y z
  operation_holds operation.Minus x y z = compute_holds difference x y z
  operation_holds operation.Times x y z = compute_holds product x y z
  operation_holds operation.Div x y z = compute_holds quotient x y z
  operation_holds operation.Mod x y z = compute_holds remainder x y z
  operation_holds operation.Select x y z = two_holds x y (selects z) (selects_holds z)
  operation_holds operation.Bound x y z = input_holds (bounds s.view y) (confines s.view (x ∷ [])) (confine_holds (x ∷ []))
  operation_holds operation.BoundEach x y z =
      input_holds (both (vector s.view x) (bounds s.view y)) (λ (i : List Ident × (ℤ × ℤ)). confines s.view i.0 i.1) (λ (i : List Ident × (ℤ × ℤ)). confine_holds i.0 i.1)

  cell_holds : (x : Ident) (act : ℕ → Act) → Holds (on_cell s x act)
  cell_holds x act =
      one_holds x (λ v. of_kind (cell_in v) (own_act s raise.GlobalCell act))
      (λ v. kind_holds (cell_in v) (own_act s raise.GlobalCell act) (own_holds raise.GlobalCell act))

  port_holds : (x : Ident) (act : ℕ → Act) → Holds (on_port s x act)
  port_holds x act =
      one_holds x (λ v. of_kind (port_in v) (own_act s raise.GlobalPort act))
      (λ v. kind_holds (port_in v) (own_act s raise.GlobalPort act) (own_holds raise.GlobalPort act))

  operates_holds : (op : SpaceOperation) (child : List ℕ) (x y : Ident) → Contains s.view (Is y (value.Space child)) → Holds (operates s op x child)
  operates_holds op child x y told = by (is_child_of s.space child) refl
    where
      by : (b : Bool) → is_child_of s.space child ≡ b → Holds (if b then Operates op child x else RaisesKind raise.SpaceParent)
      by true e = operation_on op child x y told e
      by false e = kinds raise.SpaceParent

  on_space_holds : (op : SpaceOperation) (x y : Ident) (v : Value) → KnownValue s.view y v → Holds (of_kind (space_in v) (operates s op x))
  on_space_holds op x y (value.Space child) (was_told g) = operates_holds op child x g.variable g.told
  on_space_holds op x y (value.Space child) (is_only n e o) = absurd (cc)
  on_space_holds op x y (value.Constant c) g = kinds raise.BadKind
  on_space_holds op x y (value.Record r) g = kinds raise.BadKind
  on_space_holds op x y (value.Procedure p) g = kinds raise.BadKind
  on_space_holds op x y (value.Name n) g = kinds raise.BadKind
  on_space_holds op x y (value.Cell c) g = kinds raise.BadKind
  on_space_holds op x y (value.Port p) g = kinds raise.BadKind
  on_space_holds op x y (value.Builtin b) g = kinds raise.BadKind

  answer_holds : (b : Builtin) (x : ℕ → Ident) → Holds (answer s b x)
  answer_holds (builtin.Operation op) x = operation_holds op (x 0) (x 1) (x 2)
  answer_holds builtin.Label x = one_holds (x 0) (λ v. of_kind (label_in v) (gives_constant (x 1))) (λ v. kind_holds (label_in v) (gives_constant (x 1)) (λ c. acts _))
  answer_holds builtin.Width x =
      one_holds (x 0) (λ v. of_kind (arity_in v) (λ fs. gives_constant (x 1) (constant.Int (pos (length fs)))))
      (λ v. kind_holds (arity_in v) (λ fs. gives_constant (x 1) (constant.Int (pos (length fs)))) (λ fs. acts _))
  answer_holds builtin.Arity x =
      one_holds (x 0) (λ v. of_kind (arity_in v) (λ fs. Acts (GivesTerm (x 1) (list_term fs))))
      (λ v. kind_holds (arity_in v) (λ fs. Acts (GivesTerm (x 1) (list_term fs))) (λ fs. acts _))
  answer_holds builtin.NewName x = acts _
  answer_holds builtin.Wait x = one_holds (x 0) (λ v. Acts Passes) (λ v. acts Passes)
  answer_holds builtin.NewCell x = acts _
  answer_holds builtin.Access x = cell_holds (x 0) (λ n. Reads n (x 1))
  answer_holds builtin.Assign x = cell_holds (x 0) (λ n. Writes n (x 1))
  answer_holds builtin.Exchange x = cell_holds (x 0) (λ n. Exchanges n (x 1) (x 2))
  answer_holds builtin.NewPort x = acts _
  answer_holds builtin.Send x = port_holds (x 0) (λ n. Sends n (x 1))
  answer_holds builtin.ByNeed x = one_holds (x 0) (delays (x 0) (x 1)) (delay_holds (x 0) (x 1))
  answer_holds builtin.Show x = either_holds (is_top s.space) (Acts (Shows (x 0))) (RaisesKind raise.GlobalIo) (acts _) (kinds raise.GlobalIo)
  answer_holds builtin.NewSpace x = one_holds (x 0) (creates (x 0) (x 1)) (create_holds (x 0) (x 1))
  answer_holds builtin.Choose x = one_holds (x 0) (λ v. of_kind (integer_in v) (offered (x 1))) (λ v. kind_holds (integer_in v) (offered (x 1)) (offer_holds (x 1)))
  answer_holds builtin.Distinct x = input_holds (vector s.view (x 0)) (posts s.view Distinct) (λ xs. acts _)
  answer_holds builtin.Distribute x = distribute_holds (x 0) (x 1) (distribution s.view (x 0) (x 1)) refl
  answer_holds (builtin.OnSpace op) x = value_holds (x 0) (λ v. of_kind (space_in v) (operates s op (x 1))) (on_space_holds op (x 1) (x 0))

  call_holds : (b : Builtin) (xs : List Ident) → Holds (call_answer s b xs)
  call_holds b xs = either_holds (length xs == arguments_of b) (answer s b (argument xs)) (RaisesKind raise.Arity) (answer_holds b (argument xs)) (kinds raise.Arity)

  -- Calls

  value_called_holds : (xs : List Ident) (v : Value) → Holds (value_called s xs v)
  value_called_holds xs (value.Builtin b) = call_holds b xs
  value_called_holds xs (value.Constant c) = kinds raise.Apply
  value_called_holds xs (value.Record r) = kinds raise.Apply
  value_called_holds xs (value.Name m) = kinds raise.Apply
  value_called_holds xs (value.Cell c) = kinds raise.Apply
  value_called_holds xs (value.Port p) = kinds raise.Apply
  value_called_holds xs (value.Space t) = kinds raise.Apply
  value_called_holds xs (value.Procedure p) = procedure_holds p xs

  called_holds : (x : Ident) (xs : List Ident) → Holds (called s x xs)
  called_holds x xs = one_holds x (value_called s xs) (value_called_holds xs)

  -- Statements

  statement_holds : (environment : Environment) (st : Statement) → Holds (statement_answer s environment st)
  statement_holds environment statement.Skip = acts Passes
  statement_holds environment statement.Fail = kinds raise.FailureFail
  statement_holds environment (statement.Local names body) = acts _
  statement_holds environment (statement.Equate left right) = acts _
  statement_holds environment (statement.Bind name c) = acts _
  statement_holds environment (statement.BindRecord name label features fields) = acts _
  statement_holds environment (statement.BindProcedure name parameters body) = acts _
  statement_holds environment (statement.Call procedure arguments) = called_holds (bound environment procedure) (map (bound environment) arguments)
  statement_holds environment (statement.Operate op arguments) = call_holds (builtin.Operation op) (map (bound environment) arguments)
  statement_holds environment (statement.Choice alternatives) = rests _ refl
  statement_holds environment (statement.If condition accepted otherwise) = one_holds (bound environment condition) (branch environment accepted otherwise) (branch_holds environment accepted otherwise)
  statement_holds environment (statement.Case subject pattern accepted otherwise) =
      clause_holds environment accepted otherwise (matched s.view pattern (bound environment subject ∷ []) environment)
  statement_holds environment statement.NoMatch = kinds raise.NoElse
  statement_holds environment (statement.Thread body) = acts _
  statement_holds environment (statement.Try body exception handler) = acts _
  statement_holds environment (statement.Raise name) = terms _
  statement_holds environment (statement.Post sign constant terms) = acts _
  statement_holds environment (statement.PostTimes left right product) = acts _

  numbered_holds : (environment : Environment) (o : Option Statement) → Holds (numbered_answer s environment o)
  numbered_holds environment (Some st) = statement_holds environment st
  numbered_holds environment None = rests _ refl

  code_holds : (environment : Environment) (k : Code) → Holds (code_answer s environment k)
  code_holds environment (code.Statement n) = numbered_holds environment (slice_get s.statements n)
  code_holds environment (code.Call procedure argument) = called_holds procedure (argument ∷ [])
  code_holds environment (code.Bind x n) = acts _
  code_holds environment (code.Mark exception handler) = acts Passes

  pub stack_holds_by : (frames : List Frame) → Holds (stack_answer s frames)
  stack_holds_by [] = rests _ refl
  stack_holds_by (frame ∷ rest) = code_holds frame.environment frame.code

-- the same of what holds of all offers
module _ (s : Sight) (Holds : Answer → Type 0) (acts : (act : Act) → Holds (Acts act)) (creation : (procedure x : Ident) → Holds (Edits (Creates procedure x)))
    (kinds : (kind : RaiseKind) → Holds (RaisesKind kind)) (terms : (x : Ident) → Holds (RaisesTerm x)) (widens : (ts : List Tell) → Holds (Widens ts)) (rests : (ready : Readiness) → Holds (Rests ready))
    (operation_on : (op : SpaceOperation) (child : List ℕ) (x y : Ident) → Contains s.view (Is y (value.Space child)) → is_child_of s.space child ≡ true → Holds (Operates op child x)) where
  pub stack_holds : (frames : List Frame) → Holds (stack_answer s frames)
  stack_holds frames = stack_holds_by s Holds acts creation kinds terms widens (λ ready e. rests ready) (λ rule v one other xs e. rests (Offers (Parts one other) xs)) operation_on frames
