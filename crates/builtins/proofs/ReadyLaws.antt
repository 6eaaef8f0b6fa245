-- What calls of built-ins wait for is their inputs alone.
use Rattle.std.proofs.Common.{◌≡◌, ◌<◌, ◌∷◌, [], ℕ, ℤ, refl, sym, ap, ◌∙◌, Bool, true, false, Option, Some, None, Result, Ok, Err, IfOk, List, length, subst, lit<, get_or, if◌then◌else◌, pos, negsuc, ◌&&◌}
use Rattle.std.specs.Prelude.{nat_le}
use Rattle.std.specs.List.{list_any}
use Rattle.std.specs.Option.{option_and_then}
use Rattle.oz_base.specs.Lists.{list_eq}
use Rattle.oz_base.specs.Numbers.{sum, difference, product, quotient, remainder}
use Rattle.oz_base.specs.declared.names.Ident.{Ident}
use Rattle.oz_base.specs.declared.numbers.NumFault.{NumFault}
use Rattle.oz_base.specs.declared.numbers.NumFault.TheVariants as faults
use Rattle.oz_language.specs.declared.kernel.Operation.{Operation}
use Rattle.oz_language.specs.declared.kernel.Operation.TheVariants as operation
use Rattle.oz_language.specs.declared.kernel.Statement.{Statement}
use Rattle.oz_semantics.specs.Names.{is_top, is_child_of}
use Rattle.oz_semantics.specs.Values.{fields_of, constant_in, integer_in, cell_in, port_in, space_in, is_procedure}
use Rattle.oz_semantics.specs.Store.{View, value_of, same}
use Rattle.oz_semantics.specs.Sights.{Sight, Number, Readiness, Steps, Waits, WaitsForState, Offers}
use Rattle.oz_semantics.specs.Answers.{Act, Creates, Answer, Acts, Edits, RaisesKind, Operates, Rests, Reads, Writes, Exchanges, Sends, Delays, Shows, gives_constant, given, argument, with_value, of_kind}
use Rattle.oz_semantics.specs.Builtins.{arguments_of, gives_number, gives_field, field_at, selects, label_in, arity_in, own_act, on_cell, delays, creates, choice_limit, offered, operates, of_operation, answer}
use Rattle.oz_semantics.specs.Vectors.{vector}
use Rattle.oz_semantics.specs.Distributors.{distribution}
use Rattle.oz_semantics.specs.Readiness.{answer_ready}
use Rattle.oz_semantics.specs.declared.value.Value.{Value}
use Rattle.oz_semantics.specs.declared.value.SpaceOperation.{SpaceOperation}
use Rattle.oz_semantics.specs.declared.value.Builtin.{Builtin}
use Rattle.oz_semantics.specs.declared.value.Builtin.TheVariants as builtin
use Rattle.oz_semantics.specs.declared.outcome.RaiseKind.{RaiseKind}
use Rattle.oz_semantics.specs.declared.outcome.RaiseKind.TheVariants as raise
use Rattle.builtins.specs.Answers.{IsReady}
use Rattle.builtins.specs.Choices.{size_in}
use Rattle.builtins.specs.Looks.{Inputs, ready_by, awaiting, offering, choosing, operating, operating_on, input_ready, distributing}
use Rattle.builtins.specs.declared.answer.Readiness as said
use Rattle.tree_equal.specs.Answers.{SameClasses}
use Rattle.builtins.proofs.AnswerLaws.{takes_one, first_argument}
use Rattle.builtins.proofs.DomainLaws.{distinct_waits, distribute_waits}

-- What looks at kinds steps

kind_steps : {A : Type 0} (o : Option A) (go : A → Answer) → ((a : A) → answer_ready (go a) ≡ Steps) → answer_ready (of_kind o go) ≡ Steps
kind_steps None go h = refl
kind_steps (Some a) go h = h a

kinds_step : {A B : Type 0} (o : Option A) (p : Option B) (go : A → B → Answer) → ((a : A) (b : B) → answer_ready (go a b) ≡ Steps) → answer_ready (of_kind o (λ a. of_kind p (go a))) ≡ Steps
kinds_step o p go h = kind_steps o (λ a. of_kind p (go a)) (λ a. kind_steps p (go a) (h a))

number_steps : (z : Ident) (r : Result ℤ NumFault) → answer_ready (gives_number z r) ≡ Steps
number_steps z (Ok i) = refl
number_steps z (Err faults.Overflow) = refl
number_steps z (Err faults.DivZero) = refl

field_steps : (z : Ident) (o : Option Ident) → answer_ready (gives_field z o) ≡ Steps
field_steps z (Some x) = refl
field_steps z None = refl

selects_steps : (z : Ident) (v w : Value) → answer_ready (selects z v w) ≡ Steps
selects_steps z v w = kinds_step (arity_in v) (constant_in w) (λ features f. gives_field z (field_at features (fields_of v) f)) (λ features f. field_steps z (field_at features (fields_of v) f))

-- What has inputs waits for these, and then steps

one_waits : (x : Ident) (o : Option Value) (go : Value → Answer) → ((v : Value) → answer_ready (go v) ≡ Steps) → answer_ready (given x o go) ≡ awaiting x o Steps
one_waits x None go h = refl
one_waits x (Some v) go h = h v

two_wait : (x y : Ident) (o p : Option Value) (go : Value → Value → Answer) → ((v w : Value) → answer_ready (go v w) ≡ Steps)
    → answer_ready (given x o (λ v. given y p (go v))) ≡ awaiting x o (awaiting y p Steps)
two_wait x y None p go h = refl
two_wait x y (Some v) p go h = one_waits y p (go v) (h v)

integers_wait : (view : View) (x y : Ident) (go : ℤ → ℤ → Answer) → ((i j : ℤ) → answer_ready (go i j) ≡ Steps)
    → answer_ready (with_value view x (λ v. with_value view y (λ w. of_kind (integer_in v) (λ i. of_kind (integer_in w) (go i)))))
    ≡ awaiting x (value_of view x) (awaiting y (value_of view y) Steps)
integers_wait view x y go h =
    two_wait x y (value_of view x) (value_of view y) (λ v w. of_kind (integer_in v) (λ i. of_kind (integer_in w) (go i))) (λ v w. kinds_step (integer_in v) (integer_in w) go h)

-- an operator on the values of its inputs
pub operator_waits : (view : View) (op : Operation) (x y z : Ident) → (op ≡ operation.Same → ⊥) → (op ≡ operation.Differs → ⊥) → (op ≡ operation.Bound → ⊥) → (op ≡ operation.BoundEach → ⊥)
    → answer_ready (of_operation view op x y z) ≡ awaiting x (value_of view x) (awaiting y (value_of view y) Steps)
operator_waits view operation.Same x y z a b c d = absurd (a refl)
operator_waits view operation.Differs x y z a b c d = absurd (b refl)
operator_waits view operation.Bound x y z a b c d = absurd (c refl)
operator_waits view operation.BoundEach x y z a b c d = absurd (d refl)
operator_waits view operation.Less x y z a b c d = integers_wait view x y _ (λ i j. refl)
operator_waits view operation.AtMost x y z a b c d = integers_wait view x y _ (λ i j. refl)
operator_waits view operation.Greater x y z a b c d = integers_wait view x y _ (λ i j. refl)
operator_waits view operation.AtLeast x y z a b c d = integers_wait view x y _ (λ i j. refl)
operator_waits view operation.Plus x y z a b c d = integers_wait view x y (λ i j. gives_number z (sum i j)) (λ i j. number_steps z (sum i j))
operator_waits view operation.Minus x y z a b c d = integers_wait view x y (λ i j. gives_number z (difference i j)) (λ i j. number_steps z (difference i j))
operator_waits view operation.Times x y z a b c d = integers_wait view x y (λ i j. gives_number z (product i j)) (λ i j. number_steps z (product i j))
operator_waits view operation.Div x y z a b c d = integers_wait view x y (λ i j. gives_number z (quotient i j)) (λ i j. number_steps z (quotient i j))
operator_waits view operation.Mod x y z a b c d = integers_wait view x y (λ i j. gives_number z (remainder i j)) (λ i j. number_steps z (remainder i j))
operator_waits view operation.Select x y z a b c d = two_wait x y (value_of view x) (value_of view y) (selects z) (selects_steps z)

-- a built-in with one input
pub label_waits : (s : Sight) (f : ℕ → Ident) → answer_ready (answer s builtin.Label f) ≡ awaiting (f 0) (value_of s.view (f 0)) Steps
label_waits s f = one_waits (f 0) (value_of s.view (f 0)) (λ v. of_kind (label_in v) (gives_constant (f 1))) (λ v. kind_steps (label_in v) (gives_constant (f 1)) (λ c. refl))

pub width_waits : (s : Sight) (f : ℕ → Ident) → answer_ready (answer s builtin.Width f) ≡ awaiting (f 0) (value_of s.view (f 0)) Steps
width_waits s f = one_waits (f 0) (value_of s.view (f 0)) _ (λ v. kind_steps (arity_in v) _ (λ fs. refl))

pub arity_waits : (s : Sight) (f : ℕ → Ident) → answer_ready (answer s builtin.Arity f) ≡ awaiting (f 0) (value_of s.view (f 0)) Steps
arity_waits s f = one_waits (f 0) (value_of s.view (f 0)) _ (λ v. kind_steps (arity_in v) _ (λ fs. refl))

pub wait_waits : (s : Sight) (f : ℕ → Ident) → answer_ready (answer s builtin.Wait f) ≡ awaiting (f 0) (value_of s.view (f 0)) Steps
wait_waits s f = one_waits (f 0) (value_of s.view (f 0)) _ (λ v. refl)

-- one's own is used, and another's is refused
own_steps : (s : Sight) (global : RaiseKind) (act : ℕ → Act) (owner : Ident) → answer_ready (own_act s global act owner) ≡ Steps
own_steps s global act owner = by (list_eq owner.space s.space)
  where
    by : (b : Bool) → answer_ready (if b then Acts (act owner.number) else RaisesKind global) ≡ Steps
    by true = refl
    by false = refl

cell_waits : (s : Sight) (x : Ident) (act : ℕ → Act) → answer_ready (on_cell s x act) ≡ awaiting x (value_of s.view x) Steps
cell_waits s x act =
    one_waits x (value_of s.view x) (λ v. of_kind (cell_in v) (own_act s raise.GlobalCell act))
    (λ v. kind_steps (cell_in v) (own_act s raise.GlobalCell act) (own_steps s raise.GlobalCell act))

pub access_waits : (s : Sight) (f : ℕ → Ident) → answer_ready (answer s builtin.Access f) ≡ awaiting (f 0) (value_of s.view (f 0)) Steps
access_waits s f = cell_waits s (f 0) (λ n. Reads n (f 1))

pub assign_waits : (s : Sight) (f : ℕ → Ident) → answer_ready (answer s builtin.Assign f) ≡ awaiting (f 0) (value_of s.view (f 0)) Steps
assign_waits s f = cell_waits s (f 0) (λ n. Writes n (f 1))

pub exchange_waits : (s : Sight) (f : ℕ → Ident) → answer_ready (answer s builtin.Exchange f) ≡ awaiting (f 0) (value_of s.view (f 0)) Steps
exchange_waits s f = cell_waits s (f 0) (λ n. Exchanges n (f 1) (f 2))

pub send_waits : (s : Sight) (f : ℕ → Ident) → answer_ready (answer s builtin.Send f) ≡ awaiting (f 0) (value_of s.view (f 0)) Steps
send_waits s f =
    one_waits (f 0) (value_of s.view (f 0)) (λ v. of_kind (port_in v) (own_act s raise.GlobalPort (λ n. Sends n (f 1))))
    (λ v. kind_steps (port_in v) (own_act s raise.GlobalPort (λ n. Sends n (f 1))) (own_steps s raise.GlobalPort (λ n. Sends n (f 1))))

delay_steps : (procedure x : Ident) (v : Value) → answer_ready (delays procedure x v) ≡ Steps
delay_steps procedure x v = by (is_procedure v)
  where
    by : (b : Bool) → answer_ready (if b then Acts (Delays procedure x) else RaisesKind raise.BadKind) ≡ Steps
    by true = refl
    by false = refl

pub by_need_waits : (s : Sight) (f : ℕ → Ident) → answer_ready (answer s builtin.ByNeed f) ≡ awaiting (f 0) (value_of s.view (f 0)) Steps
by_need_waits s f = one_waits (f 0) (value_of s.view (f 0)) (delays (f 0) (f 1)) (delay_steps (f 0) (f 1))

new_steps : (procedure x : Ident) (v : Value) → answer_ready (creates procedure x v) ≡ Steps
new_steps procedure x v = by (is_procedure v)
  where
    by : (b : Bool) → answer_ready (if b then Edits (Creates procedure x) else RaisesKind raise.BadKind) ≡ Steps
    by true = refl
    by false = refl

pub new_space_waits : (s : Sight) (f : ℕ → Ident) → answer_ready (answer s builtin.NewSpace f) ≡ awaiting (f 0) (value_of s.view (f 0)) Steps
new_space_waits s f = one_waits (f 0) (value_of s.view (f 0)) (creates (f 0) (f 1)) (new_steps (f 0) (f 1))

-- a `Choose` offers, once its number is known
integer_offers : (x : Ident) (i : ℤ) → answer_ready (offered x i) ≡ offering x (size_in i)
integer_offers x (pos n) = by (nat_le 1 n && nat_le n choice_limit)
  where
    by : (b : Bool) → answer_ready (if b then Rests (Offers (Number n x) []) else RaisesKind raise.Domain) ≡ offering x (if b then Some n else None)
    by true = refl
    by false = refl
integer_offers x (negsuc n) = refl

kind_offers : (x : Ident) (o : Option ℤ) → answer_ready (of_kind o (offered x)) ≡ offering x (option_and_then size_in o)
kind_offers x None = refl
kind_offers x (Some i) = integer_offers x i

given_offers : (x y : Ident) (o : Option Value) → answer_ready (given y o (λ v. of_kind (integer_in v) (offered x))) ≡ choosing x y o
given_offers x y None = refl
given_offers x y (Some v) = kind_offers x (integer_in v)

choose_offers : (s : Sight) (f : ℕ → Ident) → answer_ready (answer s builtin.Choose f) ≡ choosing (f 1) (f 0) (value_of s.view (f 0))
choose_offers s f = given_offers (f 1) (f 0) (value_of s.view (f 0))

-- an operation on a child goes by the state of that
name_operates : (s : Sight) (op : SpaceOperation) (x : Ident) (o : Option (List ℕ)) → answer_ready (of_kind o (operates s op x)) ≡ operating s.space o
name_operates s op x None = refl
name_operates s op x (Some other) = by (is_child_of s.space other)
  where
    by : (b : Bool) → answer_ready (if b then Operates op other x else RaisesKind raise.SpaceParent) ≡ (if b then WaitsForState other else Steps)
    by true = refl
    by false = refl

given_operates : (s : Sight) (op : SpaceOperation) (x y : Ident) (o : Option Value) → answer_ready (given y o (λ v. of_kind (space_in v) (operates s op x))) ≡ operating_on s.space y o
given_operates s op x y None = refl
given_operates s op x y (Some v) = name_operates s op x (space_in v)

space_operates : (s : Sight) (op : SpaceOperation) (f : ℕ → Ident) → answer_ready (answer s (builtin.OnSpace op) f) ≡ operating_on s.space (f 0) (value_of s.view (f 0))
space_operates s op f = given_operates s op (f 1) (f 0) (value_of s.view (f 0))

pub show_steps : (s : Sight) (f : ℕ → Ident) → answer_ready (answer s builtin.Show f) ≡ Steps
show_steps s f = by (is_top s.space)
  where
    by : (b : Bool) → answer_ready (if b then Acts (Shows (f 0)) else RaisesKind raise.GlobalIo) ≡ Steps
    by true = refl
    by false = refl

-- What is ready, by another word for it

pub waits_for : (view : View) (o : Option Ident) (x : Ident) (xs : List Ident) → o ≡ Some x → xs ≡ x ∷ [] → (ys : List Ident) × (ready_by o ≡ Waits ys) × SameClasses view xs ys
waits_for view o x xs e h = (x ∷ [], ap ready_by e, λ z. ap (list_any (same view z)) h)

pub ready_so : {E : Type 0} (view : View) (p q : Readiness) (r : Result said.Readiness E) → p ≡ q → IfOk r (λ s. (v : View) → IsReady v p s) → IfOk r (IsReady view q)
ready_so view p q (Ok s) e h = subst (λ w. IsReady view w s) e (h view)
ready_so view p q (Err f) e h = tt

-- by the inputs that are given
pub ready_one_input : {E : Type 0} (space : List ℕ) (view : View) (b c : Builtin) (x y : Ident) (r : Result said.Readiness E) → b ≡ c
    → ((s : Sight) (f : ℕ → Ident) → answer_ready (answer s c f) ≡ awaiting (f 0) (value_of s.view (f 0)) Steps)
    → IfOk r (IsReady view (awaiting x (value_of view x) Steps))
    → IfOk r (λ r. (statements : List Statement) (given : ℕ → Ident) → Inputs b x y given → IsReady view (answer_ready (answer (record { statements = statements; space = space; view = view }) b given)) r)
ready_one_input space view b c x y (Ok r) e law h = λ statements f i.
    let s : Sight = record { statements = statements; space = space; view = view } in
    subst (λ w. IsReady view w r) (sym (ap (λ d. answer_ready (answer s d f)) e ∙ law s f ∙ ap (λ a. awaiting a (value_of view a) Steps) i.first)) h
ready_one_input space view b c x y (Err f) e law h = tt

pub ready_choose_input : {E : Type 0} (space : List ℕ) (view : View) (b : Builtin) (x y : Ident) (r : Result said.Readiness E) → b ≡ builtin.Choose
    → IfOk r (λ r. (z : Ident) → IsReady view (choosing z x (value_of view x)) r)
    → IfOk r (λ r. (statements : List Statement) (given : ℕ → Ident) → Inputs b x y given → IsReady view (answer_ready (answer (record { statements = statements; space = space; view = view }) b given)) r)
ready_choose_input space view b x y (Ok r) e h = λ statements f i.
    let s : Sight = record { statements = statements; space = space; view = view } in
    subst (λ w. IsReady view w r) (sym (ap (λ d. answer_ready (answer s d f)) e ∙ choose_offers s f ∙ ap (λ a. choosing (f 1) a (value_of view a)) i.first)) (h (f 1))
ready_choose_input space view b x y (Err f) e h = tt

pub ready_space_input : {E : Type 0} (space : List ℕ) (view : View) (b : Builtin) (op : SpaceOperation) (x y : Ident) (r : Result said.Readiness E) → b ≡ builtin.OnSpace op
    → IfOk r (IsReady view (operating_on space x (value_of view x)))
    → IfOk r (λ r. (statements : List Statement) (given : ℕ → Ident) → Inputs b x y given → IsReady view (answer_ready (answer (record { statements = statements; space = space; view = view }) b given)) r)
ready_space_input space view b op x y (Ok r) e h = λ statements f i.
    let s : Sight = record { statements = statements; space = space; view = view } in
    subst (λ w. IsReady view w r) (sym (ap (λ d. answer_ready (answer s d f)) e ∙ space_operates s op f ∙ ap (λ a. operating_on space a (value_of view a)) i.first)) h
ready_space_input space view b op x y (Err f) e h = tt

one_below : 1 < 2
one_below = lit< tt

one_below_three : 1 < 3
one_below_three = lit< tt

pub ready_distinct_input : {E : Type 0} (space : List ℕ) (view : View) (b : Builtin) (x y : Ident) (r : Result said.Readiness E) → b ≡ builtin.Distinct
    → IfOk r (IsReady view (input_ready (vector view x)))
    → IfOk r (λ r. (statements : List Statement) (given : ℕ → Ident) → Inputs b x y given → IsReady view (answer_ready (answer (record { statements = statements; space = space; view = view }) b given)) r)
ready_distinct_input space view b x y (Ok r) e h = λ statements f i.
    let s : Sight = record { statements = statements; space = space; view = view } in
    subst (λ w. IsReady view w r) (sym (ap (λ d. answer_ready (answer s d f)) e ∙ distinct_waits s f ∙ ap (λ a. input_ready (vector view a)) i.first)) h
ready_distinct_input space view b x y (Err f) e h = tt

pub ready_distribute_input : {E : Type 0} (space : List ℕ) (view : View) (b : Builtin) (x y : Ident) (r : Result said.Readiness E) → b ≡ builtin.Distribute
    → IfOk r (IsReady view (distributing (distribution view x y)))
    → IfOk r (λ r. (statements : List Statement) (given : ℕ → Ident) → Inputs b x y given → IsReady view (answer_ready (answer (record { statements = statements; space = space; view = view }) b given)) r)
ready_distribute_input space view b x y (Ok r) e h = λ statements f i.
    let s : Sight = record { statements = statements; space = space; view = view } in
    let i' : Inputs builtin.Distribute x y f = subst (λ d. Inputs d x y f) e i in
    subst (λ w. IsReady view w r)
    (sym (ap (λ d. answer_ready (answer s d f)) e ∙ distribute_waits s f ∙ ap (λ a. distributing (distribution view a (f 1))) i.first ∙ ap (λ a. distributing (distribution view x a)) (i'.second one_below))) h
ready_distribute_input space view b x y (Err f) e h = tt

both : (view : View) (op : Operation) (x y z a b : Ident) → a ≡ x → b ≡ y → of_operation view op a b z ≡ of_operation view op x y z
both view op x y z a b h k = ap (λ c. of_operation view op c b z) h ∙ ap (λ c. of_operation view op x c z) k

by_inputs : (view : View) (op : Operation) (x y : Ident) (f : ℕ → Ident) → Inputs (builtin.Operation op) x y f → of_operation view op (f 0) (f 1) (f 2) ≡ of_operation view op x y (f 2)
by_inputs view operation.Bound x y f i = both view operation.Bound x y (f 2) (f 0) (f 1) i.first (i.second one_below)
by_inputs view operation.BoundEach x y f i = both view operation.BoundEach x y (f 2) (f 0) (f 1) i.first (i.second one_below)
by_inputs view op x y f i = both view op x y (f 2) (f 0) (f 1) i.first (i.second one_below_three)

pub ready_two_inputs : {E : Type 0} (space : List ℕ) (view : View) (b : Builtin) (op : Operation) (x y : Ident) (r : Result said.Readiness E) → b ≡ builtin.Operation op
    → IfOk r (λ r. (z : Ident) → IsReady view (answer_ready (of_operation view op x y z)) r)
    → IfOk r (λ r. (statements : List Statement) (given : ℕ → Ident) → Inputs b x y given → IsReady view (answer_ready (answer (record { statements = statements; space = space; view = view }) b given)) r)
ready_two_inputs space view b op x y (Ok r) e h = λ statements f i.
    let s : Sight = record { statements = statements; space = space; view = view } in
    let i' : Inputs (builtin.Operation op) x y f = subst (λ d. Inputs d x y f) e i in
    subst (λ w. IsReady view w r) (sym (ap (λ d. answer_ready (answer s d f)) e ∙ ap answer_ready (by_inputs view op x y f i'))) (h (f 2))
ready_two_inputs space view b op x y (Err f) e h = tt

pub inputs_in : (b : Builtin) (xs : List Ident) (x y : Ident) → length xs ≡ arguments_of b → x ≡ get_or xs 0 x → (1 < length xs → y ≡ argument xs 1) → Inputs b x y (argument xs)
inputs_in b xs x y e f g = record {
  first = first_argument xs x (subst (λ n. 0 < n) (sym e) (takes_one b)) f;
  second = λ k. sym (g (subst (λ n. 1 < n) (sym e) k));
}
