-- Choices, and calls of `Choose` and of `FD.distribute`, alone offer alternatives.
use Rattle.std.proofs.Common.{◌≡◌, ◌∷◌, [], ◌-◌, ◌++◌, drop, ℕ, ℤ, refl, sym, ap, ◌∙◌, Bool, true, false, Option, Some, None, Result, Ok, Err, List, length, map, if◌then◌else◌, eq-eqb, pos, negsuc, ◌&&◌}
use Rattle.std.specs.Prelude.{◌==◌, nat_le, slice_get, unwrap_or, option_map}
use Rattle.std.specs.Option.{option_and_then}
use Rattle.std.proofs.lemmas.Option.{slice_get-map}
use Rattle.oz_base.specs.Lists.{list_eq}
use Rattle.oz_base.specs.Numbers.{sum, difference, product, quotient, remainder}
use Rattle.oz_base.specs.declared.names.Ident.{Ident}
use Rattle.oz_base.specs.declared.numbers.NumFault.{NumFault}
use Rattle.oz_base.specs.declared.numbers.NumFault.TheVariants as faults
use Rattle.environments.specs.Environments.{Environment, bound}
use Rattle.oz_language.specs.declared.kernel.Operation.{Operation}
use Rattle.oz_language.specs.declared.kernel.Operation.TheVariants as operation
use Rattle.oz_language.specs.declared.kernel.Statement.{Statement}
use Rattle.oz_language.specs.declared.kernel.Statement.TheVariants as statement
use Rattle.oz_semantics.specs.Names.{is_top, is_child_of}
use Rattle.oz_semantics.specs.Values.{fields_of, constant_in, integer_in, cell_in, port_in, space_in, is_procedure}
use Rattle.oz_semantics.specs.Store.{View, value_of}
use Rattle.oz_semantics.specs.Entailment.{Equality, Entailed, Contradicted, Undecided, equality}
use Rattle.oz_semantics.specs.Sights.{Sight, Offer, Bodies, Number, Parts, Offers, offer_of}
use Rattle.oz_base.specs.declared.relation.Relation.TheVariants.{Distinct}
use Rattle.oz_semantics.specs.Inputs.{Input, Known, Unknown, OtherKind, both}
use Rattle.oz_semantics.specs.Vectors.{vector}
use Rattle.oz_semantics.specs.Constraints.{bounds, refusal_of}
use Rattle.oz_semantics.specs.Distributors.{Distribution, Widens, Finished, Splits, distribution}
use Rattle.oz_semantics.specs.Answers.{Act, Creates, Answer, Acts, Edits, RaisesKind, Operates, Rests, Reads, Writes, Exchanges, Sends, Delays, Shows, Confines, gives_constant, argument, given, with_value, of_kind}
use Rattle.oz_semantics.specs.Builtins.{arguments_of, gives_number, gives_field, field_at, of_equality, label_in, arity_in, own_act, on_cell, on_port, delays, creates, choice_limit, offered, operates, of_input, unless_refused, interval_news, confines, posts, distributes, of_operation, answer, call_answer}
use Rattle.oz_semantics.specs.Configurations.{frames_of}
use Rattle.oz_semantics.specs.Matching.{Match, Matches, Differs, MatchWaits, matched}
use Rattle.oz_semantics.specs.Statements.{value_called, called, branch, clause, numbered_answer}
use Rattle.oz_semantics.specs.Readiness.{answer_ready}
use Rattle.oz_semantics.specs.declared.configuration.Frame.{Frame}
use Rattle.oz_semantics.specs.declared.value.Value.{Value}
use Rattle.oz_semantics.specs.declared.value.Value.TheVariants as value
use Rattle.oz_semantics.specs.declared.value.SpaceOperation.{SpaceOperation}
use Rattle.oz_semantics.specs.declared.value.Builtin.{Builtin}
use Rattle.oz_semantics.specs.declared.value.Builtin.TheVariants as builtin
use Rattle.oz_semantics.specs.declared.outcome.RaiseKind.{RaiseKind}
use Rattle.oz_semantics.specs.declared.outcome.RaiseKind.TheVariants as raise
use Rattle.oz_semantics.specs.declared.value.Tell.{Tell}
use Rattle.builtins.specs.Choices.{size_in, choice_in, choice_of, part_in, part_of}
use Rattle.statements.specs.Offers.{Alternative, Frames, Part, number_frame, alternative_in, alternative_of, number_offer, chosen_offer, parts_in, parts_offer, value_offer, called_offer, of_chosen, IsChosen}
use Rattle.statements.specs.declared.alternatives.Chosen.{Chosen}
use Rattle.statements.specs.declared.alternatives.Chosen.TheVariants.{GoesOn, Tells}
use Rattle.statements.proofs.ReadyLaws.{procedure_steps, branch_steps}

-- an answer offers nothing
abbrev IsQuiet : Answer → Type 0
IsQuiet a = offer_of (answer_ready a) ≡ None

if_quiet : (b : Bool) (a c : Answer) → IsQuiet a → IsQuiet c → IsQuiet (if b then a else c)
if_quiet true a c h k = h
if_quiet false a c h k = k

given_quiet : (x : Ident) (o : Option Value) (go : Value → Answer) → ((v : Value) → IsQuiet (go v)) → IsQuiet (given x o go)
given_quiet x None go h = refl
given_quiet x (Some v) go h = h v

kind_quiet : {A : Type 0} (o : Option A) (go : A → Answer) → ((a : A) → IsQuiet (go a)) → IsQuiet (of_kind o go)
kind_quiet None go h = refl
kind_quiet (Some a) go h = h a

-- Built-ins

equality_quiet : (z : Ident) (asked : Bool) (e : Equality) → IsQuiet (of_equality z asked e)
equality_quiet z asked Entailed = refl
equality_quiet z asked Contradicted = refl
equality_quiet z asked (Undecided xs) = refl

number_quiet : (z : Ident) (r : Result ℤ NumFault) → IsQuiet (gives_number z r)
number_quiet z (Ok i) = refl
number_quiet z (Err faults.Overflow) = refl
number_quiet z (Err faults.DivZero) = refl

field_quiet : (z : Ident) (o : Option Ident) → IsQuiet (gives_field z o)
field_quiet z (Some x) = refl
field_quiet z None = refl

integers_quiet : (view : View) (x y : Ident) (go : ℤ → ℤ → Answer) → ((i j : ℤ) → IsQuiet (go i j)) → IsQuiet (with_value view x (λ v. with_value view y (λ w. of_kind (integer_in v) (λ i. of_kind (integer_in w) (go i)))))
integers_quiet view x y go h =
    given_quiet x (value_of view x) _ (λ v. given_quiet y (value_of view y) _ (λ w. kind_quiet (integer_in v) _ (λ i. kind_quiet (integer_in w) (go i) (h i))))

input_quiet : {A : Type 0} (i : Input A) (go : A → Answer) → ((a : A) → IsQuiet (go a)) → IsQuiet (of_input i go)
input_quiet (Known a) go h = h a
input_quiet (Unknown x) go h = refl
input_quiet OtherKind go h = refl

refusal_quiet : (o : Option RaiseKind) (a : Answer) → IsQuiet a → IsQuiet (unless_refused o a)
refusal_quiet None a h = h
refusal_quiet (Some kind) a h = refl

confines_quiet : (view : View) (xs : List Ident) (b : ℤ × ℤ) → IsQuiet (confines view xs b)
confines_quiet view xs b = refusal_quiet (refusal_of b.0 b.1) (Acts (Confines (interval_news view xs (record { low = b.0; high = b.1 })))) refl

operation_quiet : (view : View) (op : Operation) (x y z : Ident) → IsQuiet (of_operation view op x y z)
operation_quiet view operation.Same x y z = equality_quiet z true (equality view x y)
operation_quiet view operation.Differs x y z = equality_quiet z false (equality view x y)
operation_quiet view operation.Less x y z = integers_quiet view x y _ (λ i j. refl)
operation_quiet view operation.AtMost x y z = integers_quiet view x y _ (λ i j. refl)
operation_quiet view operation.Greater x y z = integers_quiet view x y _ (λ i j. refl)
operation_quiet view operation.AtLeast x y z = integers_quiet view x y _ (λ i j. refl)
operation_quiet view operation.Plus x y z = integers_quiet view x y _ (λ i j. number_quiet z (sum i j))
operation_quiet view operation.Minus x y z = integers_quiet view x y _ (λ i j. number_quiet z (difference i j))
operation_quiet view operation.Times x y z = integers_quiet view x y _ (λ i j. number_quiet z (product i j))
operation_quiet view operation.Div x y z = integers_quiet view x y _ (λ i j. number_quiet z (quotient i j))
operation_quiet view operation.Mod x y z = integers_quiet view x y _ (λ i j. number_quiet z (remainder i j))
operation_quiet view operation.Select x y z =
    given_quiet x (value_of view x) _
    (λ v. given_quiet y (value_of view y) _ (λ w. kind_quiet (arity_in v) _ (λ features. kind_quiet (constant_in w) _ (λ f. field_quiet z (field_at features (fields_of v) f)))))
operation_quiet view operation.Bound x y z = input_quiet (bounds view y) (confines view (x ∷ [])) (confines_quiet view (x ∷ []))
operation_quiet view operation.BoundEach x y z =
    input_quiet (both (vector view x) (bounds view y)) (λ (i : List Ident × (ℤ × ℤ)). confines view i.0 i.1) (λ (i : List Ident × (ℤ × ℤ)). confines_quiet view i.0 i.1)

own_quiet : (s : Sight) (global : RaiseKind) (act : ℕ → Act) (owner : Ident) → IsQuiet (own_act s global act owner)
own_quiet s global act owner = if_quiet (list_eq owner.space s.space) (Acts (act owner.number)) (RaisesKind global) refl refl

cell_quiet : (s : Sight) (x : Ident) (act : ℕ → Act) → IsQuiet (on_cell s x act)
cell_quiet s x act = given_quiet x (value_of s.view x) _ (λ v. kind_quiet (cell_in v) _ (own_quiet s raise.GlobalCell act))

port_quiet : (s : Sight) (x : Ident) (act : ℕ → Act) → IsQuiet (on_port s x act)
port_quiet s x act = given_quiet x (value_of s.view x) _ (λ v. kind_quiet (port_in v) _ (own_quiet s raise.GlobalPort act))

delays_quiet : (procedure x : Ident) (v : Value) → IsQuiet (delays procedure x v)
delays_quiet procedure x v = if_quiet (is_procedure v) (Acts (Delays procedure x)) (RaisesKind raise.BadKind) refl refl

creates_quiet : (procedure x : Ident) (v : Value) → IsQuiet (creates procedure x v)
creates_quiet procedure x v = if_quiet (is_procedure v) (Edits (Creates procedure x)) (RaisesKind raise.BadKind) refl refl

operates_quiet : (s : Sight) (op : SpaceOperation) (x : Ident) (child : List ℕ) → IsQuiet (operates s op x child)
operates_quiet s op x child = if_quiet (is_child_of s.space child) (Operates op child x) (RaisesKind raise.SpaceParent) refl refl

integer_offers : (x : Ident) (i : ℤ) → offer_of (answer_ready (offered x i)) ≡ number_offer x (size_in i)
integer_offers x (pos n) = by (nat_le 1 n && nat_le n choice_limit)
  where
    by : (b : Bool) → offer_of (answer_ready (if b then Rests (Offers (Number n x) []) else RaisesKind raise.Domain)) ≡ number_offer x (if b then Some n else None)
    by true = refl
    by false = refl
integer_offers x (negsuc n) = refl

kind_offers : (x : Ident) (o : Option ℤ) → offer_of (answer_ready (of_kind o (offered x))) ≡ number_offer x (option_and_then size_in o)
kind_offers x None = refl
kind_offers x (Some i) = integer_offers x i

given_offers : (x y : Ident) (o : Option Value) → offer_of (answer_ready (given y o (λ v. of_kind (integer_in v) (offered x)))) ≡ number_offer x (option_and_then choice_in o)
given_offers x y None = refl
given_offers x y (Some v) = kind_offers x (integer_in v)

-- the parts of a domain
distribution_offers : (view : View) (i : Input Distribution) → offer_of (answer_ready (of_input i (distributes view))) ≡ parts_in i
distribution_offers view (Known (Widens xs)) = refl
distribution_offers view (Known Finished) = refl
distribution_offers view (Known (Splits one other xs)) = refl
distribution_offers view (Unknown x) = refl
distribution_offers view OtherKind = refl

-- what a built-in offers of its arguments
abbrev builtin_offer : View → Builtin → (ℕ → Ident) → Option Offer
builtin_offer view builtin.Choose f = number_offer (f 1) (choice_of view (f 0))
builtin_offer view builtin.Distribute f = parts_in (distribution view (f 0) (f 1))
builtin_offer view b f = None

builtin_offers : (s : Sight) (b : Builtin) (f : ℕ → Ident) → offer_of (answer_ready (answer s b f)) ≡ builtin_offer s.view b f
builtin_offers s (builtin.Operation op) f = operation_quiet s.view op (f 0) (f 1) (f 2)
builtin_offers s builtin.Label f = given_quiet (f 0) (value_of s.view (f 0)) _ (λ v. kind_quiet (label_in v) (gives_constant (f 1)) (λ c. refl))
builtin_offers s builtin.Width f = given_quiet (f 0) (value_of s.view (f 0)) _ (λ v. kind_quiet (arity_in v) _ (λ fs. refl))
builtin_offers s builtin.Arity f = given_quiet (f 0) (value_of s.view (f 0)) _ (λ v. kind_quiet (arity_in v) _ (λ fs. refl))
builtin_offers s builtin.NewName f = refl
builtin_offers s builtin.Wait f = given_quiet (f 0) (value_of s.view (f 0)) _ (λ v. refl)
builtin_offers s builtin.NewCell f = refl
builtin_offers s builtin.Access f = cell_quiet s (f 0) (λ n. Reads n (f 1))
builtin_offers s builtin.Assign f = cell_quiet s (f 0) (λ n. Writes n (f 1))
builtin_offers s builtin.Exchange f = cell_quiet s (f 0) (λ n. Exchanges n (f 1) (f 2))
builtin_offers s builtin.NewPort f = refl
builtin_offers s builtin.Send f = port_quiet s (f 0) (λ n. Sends n (f 1))
builtin_offers s builtin.ByNeed f = given_quiet (f 0) (value_of s.view (f 0)) (delays (f 0) (f 1)) (delays_quiet (f 0) (f 1))
builtin_offers s builtin.Show f = if_quiet (is_top s.space) (Acts (Shows (f 0))) (RaisesKind raise.GlobalIo) refl refl
builtin_offers s builtin.NewSpace f = given_quiet (f 0) (value_of s.view (f 0)) (creates (f 0) (f 1)) (creates_quiet (f 0) (f 1))
builtin_offers s builtin.Choose f = given_offers (f 1) (f 0) (value_of s.view (f 0))
builtin_offers s builtin.Distinct f = input_quiet (vector s.view (f 0)) (posts s.view Distinct) (λ xs. refl)
builtin_offers s builtin.Distribute f = distribution_offers s.view (distribution s.view (f 0) (f 1))
builtin_offers s (builtin.OnSpace op) f =
    given_quiet (f 0) (value_of s.view (f 0)) _ (λ v. kind_quiet (space_in v) (operates s op (f 1)) (operates_quiet s op (f 1)))

-- a call, by its number of arguments
call_offers : (s : Sight) (b : Builtin) (xs : List Ident)
    → offer_of (answer_ready (call_answer s b xs)) ≡ (if length xs == arguments_of b then builtin_offer s.view b (argument xs) else None)
call_offers s b xs = by (length xs == arguments_of b)
  where
    by : (t : Bool) → offer_of (answer_ready (if t then answer s b (argument xs) else RaisesKind raise.Arity)) ≡ (if t then builtin_offer s.view b (argument xs) else None)
    by true = builtin_offers s b (argument xs)
    by false = refl

either_none : (t : Bool) → ◌≡◌ {A = Option Offer} (if t then None else None) None
either_none true = refl
either_none false = refl

operate_quiet : (s : Sight) (op : Operation) (xs : List Ident) → IsQuiet (call_answer s (builtin.Operation op) xs)
operate_quiet s op xs = call_offers s (builtin.Operation op) xs ∙ either_none (length xs == arguments_of (builtin.Operation op))

-- of built-ins these two alone
two_alone : (view : View) (b : Builtin) (xs : List Ident) → (if length xs == arguments_of b then builtin_offer view b (argument xs) else None) ≡ value_offer view xs (Some (value.Builtin b))
two_alone view builtin.Choose xs = refl
two_alone view builtin.Distribute xs = refl
two_alone view b xs = either_none (length xs == arguments_of b)

-- Calls

value_offers : (s : Sight) (x : Ident) (xs : List Ident) (o : Option Value) → offer_of (answer_ready (given x o (value_called s xs))) ≡ value_offer s.view xs o
value_offers s x xs None = refl
value_offers s x xs (Some (value.Procedure q)) = ap offer_of (procedure_steps q xs)
value_offers s x xs (Some (value.Builtin b)) = call_offers s b xs ∙ two_alone s.view b xs
value_offers s x xs (Some (value.Constant c)) = refl
value_offers s x xs (Some (value.Record r)) = refl
value_offers s x xs (Some (value.Name n)) = refl
value_offers s x xs (Some (value.Cell c)) = refl
value_offers s x xs (Some (value.Port p)) = refl
value_offers s x xs (Some (value.Space child)) = refl

pub called_offers : (s : Sight) (x : Ident) (xs : List Ident) → offer_of (answer_ready (called s x xs)) ≡ called_offer s.view x xs
called_offers s x xs = value_offers s x xs (value_of s.view x)

-- Statements

clause_quiet : (e : Environment) (accepted otherwise : List ℕ) (m : Match) → IsQuiet (clause e accepted otherwise m)
clause_quiet e accepted otherwise (Matches extended) = refl
clause_quiet e accepted otherwise Differs = refl
clause_quiet e accepted otherwise (MatchWaits x) = refl

test_quiet : (s : Sight) (x : Ident) (e : Environment) (accepted otherwise : List ℕ) → IsQuiet (with_value s.view x (branch e accepted otherwise))
test_quiet s x e accepted otherwise = given_quiet x (value_of s.view x) (branch e accepted otherwise) (λ v. ap offer_of (branch_steps e accepted otherwise v))

unwrapped : (e : Environment) (o : Option (List ℕ)) → unwrap_or (option_map (frames_of e) o) [] ≡ frames_of e (unwrap_or o [])
unwrapped e None = refl
unwrapped e (Some body) = refl

-- what a statement offers
pub numbered_offers : (s : Sight) (e : Environment) (i : ℕ) (o : Option Statement) → alternative_of s.view e i o ≡ alternative_in i (offer_of (answer_ready (numbered_answer s e o)))
numbered_offers s e i (Some (statement.Choice bodies)) =
    sym (ap (λ (o : Option (List Frame)). Frames (unwrap_or o [])) (slice_get-map (frames_of e) bodies (i - 1)) ∙ ap (λ fs. Frames fs) (unwrapped e (slice_get bodies (i - 1))))
numbered_offers s e i (Some (statement.Call procedure arguments)) = sym (ap (alternative_in i) (called_offers s (bound e procedure) (map (bound e) arguments)))
numbered_offers s e i (Some (statement.Operate op arguments)) = sym (ap (alternative_in i) (operate_quiet s op (map (bound e) arguments)))
numbered_offers s e i (Some (statement.If condition accepted otherwise)) = sym (ap (alternative_in i) (test_quiet s (bound e condition) e accepted otherwise))
numbered_offers s e i (Some (statement.Case subject pattern accepted otherwise)) =
    sym (ap (alternative_in i) (clause_quiet e accepted otherwise (matched s.view pattern (bound e subject ∷ []) e)))
numbered_offers s e i o = refl

-- The number that is chosen

pub number_taken : (view : View) (i : ℕ) (xs : List Ident) (n : ℕ) (x : Ident) (frames : List Frame) → length xs ≡ 2 → Some n ≡ choice_of view (argument xs 0) → x ≡ argument xs 1 → frames ≡ number_frame x i ∷ []
    → Frames frames ≡ alternative_in i (chosen_offer view xs)
number_taken view i xs n x frames e h k f =
    ap (λ fs. Frames fs) f ∙ ap (λ y. Frames (number_frame y i ∷ [])) k ∙ ap (λ (o : Option ℕ). alternative_in i (number_offer (argument xs 1) o)) h
    ∙ sym (ap (λ b. alternative_in i (if b then number_offer (argument xs 1) (choice_of view (argument xs 0)) else None)) (eq-eqb (length xs) 2 e))

-- The part that is told

parts_none : (i : ℕ) (d : Input Distribution) → None ≡ part_in i d → Frames [] ≡ alternative_in i (parts_in d)
parts_none i (Known (Widens xs)) e = refl
parts_none i (Known Finished) e = refl
parts_none i (Known (Splits one other xs)) e = cc
parts_none i (Unknown x) e = refl
parts_none i OtherKind e = refl

parts_some : (i : ℕ) (d : Input Distribution) (t : Tell) → Some t ≡ part_in i d → Part t ≡ alternative_in i (parts_in d)
parts_some i (Known (Widens xs)) t e = cc
parts_some i (Known Finished) t e = cc
parts_some i (Known (Splits one other xs)) t e = ap (λ (o : Option Tell). Part (unwrap_or o t)) e
parts_some i (Unknown x) t e = cc
parts_some i OtherKind t e = cc

with_two : (view : View) (i : ℕ) (xs : List Ident) → length xs ≡ 2 → alternative_in i (parts_in (distribution view (argument xs 0) (argument xs 1))) ≡ alternative_in i (parts_offer view xs)
with_two view i xs e = sym (ap (λ b. alternative_in i (if b then parts_in (distribution view (argument xs 0) (argument xs 1)) else None)) (eq-eqb (length xs) 2 e))

pub no_part : (view : View) (i : ℕ) (xs : List Ident) → length xs ≡ 2 → None ≡ part_of view i (argument xs 0) (argument xs 1) → Frames [] ≡ alternative_in i (parts_offer view xs)
no_part view i xs e h = parts_none i (distribution view (argument xs 0) (argument xs 1)) h ∙ with_two view i xs e

pub part_taken : (view : View) (i : ℕ) (xs : List Ident) (t : Tell) → length xs ≡ 2 → Some t ≡ part_of view i (argument xs 0) (argument xs 1) → Part t ≡ alternative_in i (parts_offer view xs)
part_taken view i xs t e h = parts_some i (distribution view (argument xs 0) (argument xs 1)) t h ∙ with_two view i xs e

-- What is chosen

abbrev frames_in : Alternative → List Frame
frames_in (Frames frames) = frames
frames_in (Part t) = []

abbrev part_or : Tell → Alternative → Tell
part_or u (Frames frames) = u
part_or u (Part t) = t

is_chosen : (i : ℕ) (a : Chosen) (offer : Offer) (stack : List Frame) → of_chosen a ≡ alternative_in i (Some offer) → IsChosen i stack offer a
is_chosen i (GoesOn frames) (Bodies bodies) stack e = (ap (λ fs. fs ++ drop 1 stack) (ap frames_in e), refl)
is_chosen i (GoesOn frames) (Number n x) stack e = (ap (λ fs. fs ++ drop 1 stack) (ap frames_in e), refl)
is_chosen i (Tells t) (Parts one other) stack e = (refl, ap (λ u. u ∷ []) (sym (ap (part_or t) e)))
is_chosen i a offer stack e = cc

pub chosen_of : (i : ℕ) (a : Chosen) (o : Option Offer) (offer : Offer) (stack : List Frame) → of_chosen a ≡ alternative_in i o → o ≡ Some offer → IsChosen i stack offer a
chosen_of i a o offer stack e h = is_chosen i a offer stack (e ∙ ap (alternative_in i) h)
