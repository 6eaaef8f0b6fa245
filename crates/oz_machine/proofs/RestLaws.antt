-- A statement that rests cannot step: it waits or offers.
use Rattle.std.proofs.Common.{◌≡◌, ◌==◌, ◌&&◌, nat_le, ℕ, ℤ, pos, negsuc, Bool, true, false, if◌then◌else◌, List, [], ◌∷◌, map, length, slice_get, Option, Some, None, Result, Ok, Err, refl}
use Rattle.oz_base.specs.Lists.{list_eq}
use Rattle.oz_base.specs.declared.names.Ident.{Ident}
use Rattle.oz_base.specs.declared.numbers.NumFault.{NumFault}
use Rattle.oz_base.specs.declared.numbers.NumFault.TheVariants as faults
use Rattle.environments.specs.Environments.{Environment, bound}
use Rattle.oz_language.specs.declared.token.Literal.{Literal}
use Rattle.oz_language.specs.declared.token.Literal.TheVariants as literal
use Rattle.oz_language.specs.declared.kernel.Constant.{Constant}
use Rattle.oz_language.specs.declared.kernel.Constant.TheVariants as constant
use Rattle.oz_language.specs.declared.kernel.Operation.{Operation}
use Rattle.oz_language.specs.declared.kernel.Operation.TheVariants as operation
use Rattle.oz_language.specs.declared.kernel.Statement.{Statement}
use Rattle.oz_language.specs.declared.kernel.Statement.TheVariants as statement
use Rattle.oz_semantics.specs.Names.{is_top, is_child_of}
use Rattle.oz_semantics.specs.Store.{View, value_of}
use Rattle.oz_semantics.specs.Values.{integer_in, constant_in, fields_of, cell_in, port_in, space_in, is_procedure}
use Rattle.oz_semantics.specs.Entailment.{Equality, Entailed, Contradicted, Undecided, equality}
use Rattle.oz_semantics.specs.Matching.{Match, Matches, Differs, MatchWaits, matched}
use Rattle.oz_semantics.specs.Sights.{Sight, Number, Readiness, Offers, can_step}
use Rattle.oz_semantics.specs.Answers.{Act, Creates, Answer, Acts, Edits, RaisesKind, RaisesTerm, Operates, Widens, Rests, Reads, Writes, Exchanges, Sends, Delays, Confines, Shows, argument, given, of_kind}
use Rattle.oz_semantics.specs.Readiness.{answer_ready}
use Rattle.oz_semantics.specs.Builtins.{arguments_of, gives_number, with_integers, of_equality, label_in, arity_in, gives_field, field_at, own_act, on_cell, on_port, choice_limit, offered, of_input, unless_refused, interval_news, confines, posts, distributes, of_operation, answer, call_answer}
use Rattle.oz_base.specs.declared.relation.Relation.TheVariants.{Distinct}
use Rattle.oz_semantics.specs.Inputs.{Input, Known, Unknown, OtherKind, both}
use Rattle.oz_semantics.specs.Vectors.{vector}
use Rattle.oz_semantics.specs.Constraints.{bounds, refusal_of}
use Rattle.oz_semantics.specs.Distributors as distributors
use Rattle.oz_semantics.specs.Distributors.{Distribution, distribution}
use Rattle.oz_semantics.specs.Statements.{procedure_called, value_called, called, literal_branch, constant_branch, branch, clause, statement_answer, numbered_answer, code_answer, stack_answer}
use Rattle.oz_semantics.specs.declared.configuration.Code.{Code}
use Rattle.oz_semantics.specs.declared.configuration.Code.TheVariants as code
use Rattle.oz_semantics.specs.declared.configuration.Frame.{Frame}
use Rattle.oz_semantics.specs.declared.outcome.RaiseKind.{RaiseKind}
use Rattle.oz_semantics.specs.declared.outcome.RaiseKind.TheVariants as raise
use Rattle.oz_semantics.specs.declared.value.Builtin.{Builtin}
use Rattle.oz_semantics.specs.declared.value.Builtin.TheVariants as builtin
use Rattle.oz_semantics.specs.declared.value.Procedure as procedures
use Rattle.oz_semantics.specs.declared.value.Value.{Value}
use Rattle.oz_semantics.specs.declared.value.Value.TheVariants as value

-- where it rests, it cannot step
abbrev Stays : Answer → Type 0
Stays (Acts act) = Unit {0}
Stays (RaisesKind kind) = Unit {0}
Stays (RaisesTerm x) = Unit {0}
Stays (Edits edit) = Unit {0}
Stays (Operates op space x) = Unit {0}
Stays (Widens ts) = Unit {0}
Stays (Rests ready) = can_step ready ≡ false

-- Built-ins

if_stays : (b : Bool) (one other : Answer) → Stays one → Stays other → Stays (if b then one else other)
if_stays true one other h i = h
if_stays false one other h i = i

given_stays : (x : Ident) (o : Option Value) (go : Value → Answer) → ((v : Value) → Stays (go v)) → Stays (given x o go)
given_stays x None go h = refl
given_stays x (Some v) go h = h v

kind_stays : {A : Type 0} (o : Option A) (go : A → Answer) → ((a : A) → Stays (go a)) → Stays (of_kind o go)
kind_stays None go h = tt
kind_stays (Some a) go h = h a

number_stays : (x : Ident) (r : Result ℤ NumFault) → Stays (gives_number x r)
number_stays x (Ok i) = tt
number_stays x (Err faults.Overflow) = tt
number_stays x (Err faults.DivZero) = tt

integers_stay : (view : View) (x y : Ident) (go : ℤ → ℤ → Answer) → ((i j : ℤ) → Stays (go i j)) → Stays (with_integers view x y go)
integers_stay view x y go h =
    given_stays x (value_of view x) _ (λ v. given_stays y (value_of view y) _ (λ w. kind_stays (integer_in v) _ (λ i. kind_stays (integer_in w) _ (h i))))

equality_stays : (z : Ident) (asked : Bool) (e : Equality) → Stays (of_equality z asked e)
equality_stays z asked Entailed = tt
equality_stays z asked Contradicted = tt
equality_stays z asked (Undecided xs) = refl

field_stays : (z : Ident) (o : Option Ident) → Stays (gives_field z o)
field_stays z (Some x) = tt
field_stays z None = tt

input_stays : {A : Type 0} (i : Input A) (go : A → Answer) → ((a : A) → Stays (go a)) → Stays (of_input i go)
input_stays (Known a) go h = h a
input_stays (Unknown x) go h = refl
input_stays OtherKind go h = tt

refused_stays : (o : Option RaiseKind) (a : Answer) → Stays a → Stays (unless_refused o a)
refused_stays None a h = h
refused_stays (Some kind) a h = tt

confines_stay : (view : View) (xs : List Ident) (b : ℤ × ℤ) → Stays (confines view xs b)
confines_stay view xs b = refused_stays (refusal_of b.0 b.1) (Acts (Confines (interval_news view xs (record { low = b.0; high = b.1 })))) tt

distributes_stay : (view : View) (d : Distribution) → Stays (distributes view d)
distributes_stay view (distributors.Widens xs) = tt
distributes_stay view distributors.Finished = tt
distributes_stay view (distributors.Splits one other xs) = refl

operation_stays : (view : View) (op : Operation) (x y z : Ident) → Stays (of_operation view op x y z)
operation_stays view operation.Same x y z = equality_stays z true (equality view x y)
operation_stays view operation.Differs x y z = equality_stays z false (equality view x y)
operation_stays view operation.Less x y z = integers_stay view x y _ (λ i j. tt)
operation_stays view operation.AtMost x y z = integers_stay view x y _ (λ i j. tt)
operation_stays view operation.Greater x y z = integers_stay view x y _ (λ i j. tt)
operation_stays view operation.AtLeast x y z = integers_stay view x y _ (λ i j. tt)
operation_stays view operation.Plus x y z = integers_stay view x y _ (λ i j. number_stays z _)
operation_stays view operation.Minus x y z = integers_stay view x y _ (λ i j. number_stays z _)
operation_stays view operation.Times x y z = integers_stay view x y _ (λ i j. number_stays z _)
operation_stays view operation.Div x y z = integers_stay view x y _ (λ i j. number_stays z _)
operation_stays view operation.Mod x y z = integers_stay view x y _ (λ i j. number_stays z _)
operation_stays view operation.Select x y z =
    given_stays x (value_of view x) _ (λ v. given_stays y (value_of view y) _ (λ w.
    kind_stays (arity_in v) _ (λ features. kind_stays (constant_in w) _ (λ f. field_stays z (field_at features (fields_of v) f)))))
operation_stays view operation.Bound x y z = input_stays (bounds view y) (confines view (x ∷ [])) (confines_stay view (x ∷ []))
operation_stays view operation.BoundEach x y z = input_stays (both (vector view x) (bounds view y)) (λ (i : List Ident × (ℤ × ℤ)). confines view i.0 i.1) (λ i. confines_stay view i.0 i.1)

own_stays : (s : Sight) (global : RaiseKind) (act : ℕ → Act) (owner : Ident) → Stays (own_act s global act owner)
own_stays s global act owner = if_stays (list_eq owner.space s.space) (Acts (act owner.number)) (RaisesKind global) tt tt

cell_stays : (s : Sight) (x : Ident) (act : ℕ → Act) → Stays (on_cell s x act)
cell_stays s x act = given_stays x (value_of s.view x) _ (λ v. kind_stays (cell_in v) _ (own_stays s raise.GlobalCell act))

port_stays : (s : Sight) (x : Ident) (act : ℕ → Act) → Stays (on_port s x act)
port_stays s x act = given_stays x (value_of s.view x) _ (λ v. kind_stays (port_in v) _ (own_stays s raise.GlobalPort act))

offered_stays : (x : Ident) (i : ℤ) → Stays (offered x i)
offered_stays x (pos n) = if_stays (nat_le 1 n && nat_le n choice_limit) (Rests (Offers (Number n x) [])) (RaisesKind raise.Domain) refl tt
offered_stays x (negsuc n) = tt

answer_stays : (s : Sight) (b : Builtin) (x : ℕ → Ident) → Stays (answer s b x)
answer_stays s (builtin.Operation op) x = operation_stays s.view op (x 0) (x 1) (x 2)
answer_stays s builtin.Label x = given_stays (x 0) (value_of s.view (x 0)) _ (λ v. kind_stays (label_in v) _ (λ l. tt))
answer_stays s builtin.Width x = given_stays (x 0) (value_of s.view (x 0)) _ (λ v. kind_stays (arity_in v) _ (λ fs. tt))
answer_stays s builtin.Arity x = given_stays (x 0) (value_of s.view (x 0)) _ (λ v. kind_stays (arity_in v) _ (λ fs. tt))
answer_stays s builtin.NewName x = tt
answer_stays s builtin.NewCell x = tt
answer_stays s builtin.Access x = cell_stays s (x 0) (λ n. Reads n (x 1))
answer_stays s builtin.Assign x = cell_stays s (x 0) (λ n. Writes n (x 1))
answer_stays s builtin.Exchange x = cell_stays s (x 0) (λ n. Exchanges n (x 1) (x 2))
answer_stays s builtin.NewPort x = tt
answer_stays s builtin.Send x = port_stays s (x 0) (λ n. Sends n (x 1))
answer_stays s builtin.Wait x = given_stays (x 0) (value_of s.view (x 0)) _ (λ v. tt)
answer_stays s builtin.ByNeed x = given_stays (x 0) (value_of s.view (x 0)) _ (λ v. if_stays (is_procedure v) (Acts (Delays (x 0) (x 1))) (RaisesKind raise.BadKind) tt tt)
answer_stays s builtin.Show x = if_stays (is_top s.space) (Acts (Shows (x 0))) (RaisesKind raise.GlobalIo) tt tt
answer_stays s builtin.NewSpace x = given_stays (x 0) (value_of s.view (x 0)) _ (λ v. if_stays (is_procedure v) (Edits (Creates (x 0) (x 1))) (RaisesKind raise.BadKind) tt tt)
answer_stays s builtin.Choose x = given_stays (x 0) (value_of s.view (x 0)) _ (λ v. kind_stays (integer_in v) _ (offered_stays (x 1)))
answer_stays s builtin.Distinct x = input_stays (vector s.view (x 0)) (posts s.view Distinct) (λ xs. tt)
answer_stays s builtin.Distribute x = input_stays (distribution s.view (x 0) (x 1)) (distributes s.view) (distributes_stay s.view)
answer_stays s (builtin.OnSpace op) x =
    given_stays (x 0) (value_of s.view (x 0)) _ (λ v. kind_stays (space_in v) _ (λ child. if_stays (is_child_of s.space child) (Operates op child (x 1)) (RaisesKind raise.SpaceParent) tt tt))

call_stays : (s : Sight) (b : Builtin) (xs : List Ident) → Stays (call_answer s b xs)
call_stays s b xs = if_stays (length xs == arguments_of b) (answer s b (argument xs)) (RaisesKind raise.Arity) (answer_stays s b (argument xs)) tt

-- Statements

procedure_stays : (q : procedures.Procedure) (xs : List Ident) → Stays (procedure_called q xs)
procedure_stays q xs = if_stays (length xs == length q.parameters) _ (RaisesKind raise.Arity) tt tt

value_stays : (s : Sight) (xs : List Ident) (v : Value) → Stays (value_called s xs v)
value_stays s xs (value.Procedure q) = procedure_stays q xs
value_stays s xs (value.Builtin b) = call_stays s b xs
value_stays s xs (value.Constant c) = tt
value_stays s xs (value.Record r) = tt
value_stays s xs (value.Name n) = tt
value_stays s xs (value.Cell c) = tt
value_stays s xs (value.Port p) = tt
value_stays s xs (value.Space space) = tt

called_stays : (s : Sight) (x : Ident) (xs : List Ident) → Stays (called s x xs)
called_stays s x xs = given_stays x (value_of s.view x) _ (value_stays s xs)

literal_stays : (environment : Environment) (accepted otherwise : List ℕ) (l : Literal) → Stays (literal_branch environment accepted otherwise l)
literal_stays environment accepted otherwise literal.True = tt
literal_stays environment accepted otherwise literal.False = tt
literal_stays environment accepted otherwise literal.Unit = tt
literal_stays environment accepted otherwise (literal.Atom a) = tt

constant_stays : (environment : Environment) (accepted otherwise : List ℕ) (c : Constant) → Stays (constant_branch environment accepted otherwise c)
constant_stays environment accepted otherwise (constant.Literal l) = literal_stays environment accepted otherwise l
constant_stays environment accepted otherwise (constant.Int i) = tt

branch_stays : (environment : Environment) (accepted otherwise : List ℕ) (v : Value) → Stays (branch environment accepted otherwise v)
branch_stays environment accepted otherwise (value.Constant c) = constant_stays environment accepted otherwise c
branch_stays environment accepted otherwise (value.Record r) = tt
branch_stays environment accepted otherwise (value.Procedure p) = tt
branch_stays environment accepted otherwise (value.Name n) = tt
branch_stays environment accepted otherwise (value.Cell c) = tt
branch_stays environment accepted otherwise (value.Port p) = tt
branch_stays environment accepted otherwise (value.Builtin b) = tt
branch_stays environment accepted otherwise (value.Space space) = tt

clause_stays : (environment : Environment) (accepted otherwise : List ℕ) (m : Match) → Stays (clause environment accepted otherwise m)
clause_stays environment accepted otherwise (Matches extended) = tt
clause_stays environment accepted otherwise Differs = tt
clause_stays environment accepted otherwise (MatchWaits x) = refl

statement_stays : (s : Sight) (environment : Environment) (st : Statement) → Stays (statement_answer s environment st)
statement_stays s environment statement.Skip = tt
statement_stays s environment statement.Fail = tt
statement_stays s environment (statement.Local names body) = tt
statement_stays s environment (statement.Equate left right) = tt
statement_stays s environment (statement.Bind name c) = tt
statement_stays s environment (statement.BindRecord name label features fields) = tt
statement_stays s environment (statement.BindProcedure name parameters body) = tt
statement_stays s environment (statement.Call procedure arguments) = called_stays s (bound environment procedure) (map (bound environment) arguments)
statement_stays s environment (statement.Operate op arguments) = call_stays s (builtin.Operation op) (map (bound environment) arguments)
statement_stays s environment (statement.Choice alternatives) = refl
statement_stays s environment (statement.If condition accepted otherwise) =
    given_stays (bound environment condition) (value_of s.view (bound environment condition)) _ (branch_stays environment accepted otherwise)
statement_stays s environment (statement.Case subject pattern accepted otherwise) =
    clause_stays environment accepted otherwise (matched s.view pattern (bound environment subject ∷ []) environment)
statement_stays s environment statement.NoMatch = tt
statement_stays s environment (statement.Thread body) = tt
statement_stays s environment (statement.Try body exception handler) = tt
statement_stays s environment (statement.Raise name) = tt
statement_stays s environment (statement.Post sign constant terms) = tt
statement_stays s environment (statement.PostTimes left right product) = tt

-- Stacks

numbered_stays : (s : Sight) (environment : Environment) (o : Option Statement) → Stays (numbered_answer s environment o)
numbered_stays s environment (Some st) = statement_stays s environment st
numbered_stays s environment None = refl

code_stays : (s : Sight) (environment : Environment) (c : Code) → Stays (code_answer s environment c)
code_stays s environment (code.Statement n) = numbered_stays s environment (slice_get s.statements n)
code_stays s environment (code.Call procedure argument) = called_stays s procedure (argument ∷ [])
code_stays s environment (code.Bind x n) = tt
code_stays s environment (code.Mark exception handler) = tt

stack_stays : (s : Sight) (frames : List Frame) → Stays (stack_answer s frames)
stack_stays s [] = refl
stack_stays s (frame ∷ rest) = code_stays s frame.environment frame.code

-- what rests on top of a stack cannot step
pub rest_stays : (s : Sight) (frames : List Frame) (ready : Readiness) → stack_answer s frames ≡ Rests ready → can_step (answer_ready (stack_answer s frames)) ≡ false
rest_stays s frames ready e = by (stack_answer s frames) e (stack_stays s frames)
  where
    by : (a : Answer) → a ≡ Rests ready → Stays a → can_step (answer_ready a) ≡ false
    by (Rests other) e h = h
    by (Acts act) e h = absurd (cc)
    by (RaisesKind kind) e h = absurd (cc)
    by (RaisesTerm x) e h = absurd (cc)
    by (Edits edit) e h = absurd (cc)
    by (Operates op space x) e h = absurd (cc)
    by (Widens ts) e h = absurd (cc)
