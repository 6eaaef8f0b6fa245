-- That a thread goes on to step, to offer or to wait where more is told.
use Rattle.std.proofs.Common.{◌≡◌, inl, ◌==◌, ℕ, ℤ, Bool, true, false, ◌||◌, if◌then◌else◌, List, [], ◌∷◌, map, length, refl, sym, ap, subst, ◌∙◌, Option, Some, None, Result, Ok, Err, slice_get, Contains}
use Rattle.std.specs.Prelude.{int_lt, int_le, pos, negsuc, ◌&&◌, nat_le}
use Rattle.std.proofs.lemmas.Bool.{false≢true}
use Rattle.oz_base.specs.Lists.{list_eq}
use Rattle.oz_base.specs.ListLaws.{list_eq-decides}
use Rattle.oz_base.specs.declared.names.Ident.{Ident}
use Rattle.oz_base.specs.declared.numbers.NumFault.{NumFault}
use Rattle.oz_base.specs.declared.numbers.NumFault.TheVariants as faults
use Rattle.oz_base.specs.Numbers.{sum, difference, product, quotient, remainder}
use Rattle.environments.specs.Environments.{Environment, bound}
use Rattle.oz_language.specs.declared.token.Literal.TheVariants as literal
use Rattle.oz_language.specs.declared.kernel.Constant.{Constant}
use Rattle.oz_language.specs.declared.kernel.Constant.TheVariants as constant
use Rattle.oz_language.specs.declared.kernel.Operation.{Operation}
use Rattle.oz_language.specs.declared.kernel.Operation.TheVariants as operation
use Rattle.oz_language.specs.declared.kernel.Statement.{Statement}
use Rattle.oz_language.specs.declared.kernel.Statement.TheVariants as statement
use Rattle.oz_semantics.specs.Values.{is_like, constant_in, integer_in, fields_of, cell_in, port_in, space_in, is_procedure}
use Rattle.oz_semantics.specs.Names.{is_top, is_child_of}
use Rattle.oz_semantics.specs.Store.{Same, itself, reversed, joined, IsConsistent, value_of, is_determined}
use Rattle.oz_semantics.specs.Matching.{Match, Matches, Differs, MatchWaits, matched}
use Rattle.oz_semantics.specs.Entailment.{Equality, Entailed, Contradicted, Undecided, equality}
use Rattle.oz_semantics.specs.Terms.{list_term}
use Rattle.oz_semantics.specs.Sights.{Sight, Bodies, Number, Steps, Waits, Offers}
use Rattle.oz_semantics.specs.Answers.{Act, Creates, Answer, Acts, Edits, RaisesKind, Operates, Rests, GivesTerm, Passes, Reads, Writes, Exchanges, Sends, Delays, Shows, given, with_value, of_kind, argument, gives_constant}
use Rattle.oz_semantics.specs.Builtins.{truth, gives_number, with_integers, compares, computes, of_equality, label_in, arity_in, gives_field, field_at, selects, own_act, on_cell, on_port, delays, creates, choice_limit, offered, operates, of_input, unless_refused, confines, posts, of_operation, answer, arguments_of, call_answer}
use Rattle.oz_semantics.specs.Inputs.{Input, Known, Unknown, OtherKind, both}
use Rattle.oz_semantics.specs.Vectors.{vector}
use Rattle.oz_semantics.specs.Constraints.{bounds, refusal_of}
use Rattle.oz_base.specs.declared.relation.Relation.TheVariants.{Distinct}
use Rattle.oz_semantics.specs.Configurations.{frames_of}
use Rattle.oz_semantics.specs.Statements.{procedure_called, value_called, called, branch, constant_branch, clause, statement_answer, numbered_answer, code_answer, stack_answer}
use Rattle.oz_semantics.specs.Readiness.{answer_ready}
use Rattle.oz_semantics.specs.declared.configuration.Code.{Code}
use Rattle.oz_semantics.specs.declared.configuration.Code.TheVariants as code
use Rattle.oz_semantics.specs.declared.configuration.Frame.{Frame}
use Rattle.oz_semantics.specs.declared.value.Procedure as procedures
use Rattle.oz_semantics.specs.declared.value.Builtin.{Builtin}
use Rattle.oz_semantics.specs.declared.value.Builtin.TheVariants as builtin
use Rattle.oz_semantics.specs.declared.value.SpaceOperation.{SpaceOperation}
use Rattle.oz_semantics.specs.declared.value.Value.{Value}
use Rattle.oz_semantics.specs.declared.value.Value.TheVariants as value
use Rattle.oz_semantics.specs.declared.value.Tell.{Tell}
use Rattle.oz_semantics.specs.declared.outcome.RaiseKind.{RaiseKind}
use Rattle.oz_semantics.specs.declared.outcome.RaiseKind.TheVariants as raise
use Rattle.oz_laws.proofs.SameLaws.{contains-from_In}
use Rattle.oz_laws.proofs.AlikeLaws.{alike-integer, builtin_eq-true}
use Rattle.view_laws.specs.Readies.{Keeps, IsUnmoved, SameClasses, SameReadiness, watched, seeing, ReadinessStays}
use Rattle.view_laws.proofs.ViewLaws.{same_by_meaning, none_is}
use Rattle.view_laws.proofs.EqualLaws.{EqualityStays, equality_stays, consistent_less}
use Rattle.view_laws.proofs.MatchLaws.{AreSame, MatchStays, value_later, match_stays}
use Rattle.view_laws.proofs.InputLaws.{InputStays, Both, Equals, both_stay, bounds_stay}
use Rattle.view_laws.proofs.VectorLaws.{vector_stays}
use Rattle.view_laws.proofs.DistributorLaws.{distribute_leads}

-- Answers that wait for nothing

kind_steps : {A : Type 0} (o : Option A) (go : A → Answer) → ((a : A) → answer_ready (go a) ≡ Steps) → answer_ready (of_kind o go) ≡ Steps
kind_steps None go h = refl
kind_steps (Some a) go h = h a

number_steps : (z : Ident) (r : Result ℤ NumFault) → answer_ready (gives_number z r) ≡ Steps
number_steps z (Ok i) = refl
number_steps z (Err faults.Overflow) = refl
number_steps z (Err faults.DivZero) = refl

field_steps : (z : Ident) (o : Option Ident) → answer_ready (gives_field z o) ≡ Steps
field_steps z None = refl
field_steps z (Some x) = refl

selects_steps : (z : Ident) (v w : Value) → answer_ready (selects z v w) ≡ Steps
selects_steps z v w =
    kind_steps (arity_in v) (λ features. of_kind (constant_in w) (λ f. gives_field z (field_at features (fields_of v) f)))
    (λ features. kind_steps (constant_in w) (λ f. gives_field z (field_at features (fields_of v) f)) (λ f. field_steps z (field_at features (fields_of v) f)))

literal_steps : (environment : Environment) (accepted otherwise : List ℕ) (c : Constant) → answer_ready (constant_branch environment accepted otherwise c) ≡ Steps
literal_steps environment accepted otherwise (constant.Literal literal.True) = refl
literal_steps environment accepted otherwise (constant.Literal literal.False) = refl
literal_steps environment accepted otherwise (constant.Literal literal.Unit) = refl
literal_steps environment accepted otherwise (constant.Literal (literal.Atom a)) = refl
literal_steps environment accepted otherwise (constant.Int i) = refl

branch_steps : (environment : Environment) (accepted otherwise : List ℕ) (v : Value) → answer_ready (branch environment accepted otherwise v) ≡ Steps
branch_steps environment accepted otherwise (value.Constant c) = literal_steps environment accepted otherwise c
branch_steps environment accepted otherwise (value.Record r) = refl
branch_steps environment accepted otherwise (value.Procedure p) = refl
branch_steps environment accepted otherwise (value.Name n) = refl
branch_steps environment accepted otherwise (value.Cell c) = refl
branch_steps environment accepted otherwise (value.Port p) = refl
branch_steps environment accepted otherwise (value.Space s) = refl
branch_steps environment accepted otherwise (value.Builtin b) = refl

either_steps : (b : Bool) (one other : Answer) → answer_ready one ≡ Steps → answer_ready other ≡ Steps → answer_ready (if b then one else other) ≡ Steps
either_steps true one other e f = e
either_steps false one other e f = f

own_steps : (s : Sight) (global : RaiseKind) (act : ℕ → Act) (owner : Ident) → answer_ready (own_act s global act owner) ≡ Steps
own_steps s global act owner = either_steps (list_eq owner.space s.space) (Acts (act owner.number)) (RaisesKind global) refl refl

delay_steps : (procedure x : Ident) (v : Value) → answer_ready (delays procedure x v) ≡ Steps
delay_steps procedure x v = either_steps (is_procedure v) (Acts (Delays procedure x)) (RaisesKind raise.BadKind) refl refl

create_steps : (procedure x : Ident) (v : Value) → answer_ready (creates procedure x v) ≡ Steps
create_steps procedure x v = either_steps (is_procedure v) (Edits (Creates procedure x)) (RaisesKind raise.BadKind) refl refl

-- alike values are one space, or neither is
like_space : (v w : Value) → is_like v w ≡ true → space_in v ≡ space_in w
like_space (value.Constant c) (value.Constant d) e = refl
like_space (value.Record r) (value.Record s) e = refl
like_space (value.Name m) (value.Name n) e = refl
like_space (value.Cell c) (value.Cell d) e = refl
like_space (value.Port p) (value.Port q) e = refl
like_space (value.Procedure p) (value.Procedure q) e = refl
like_space (value.Builtin p) (value.Builtin q) e = refl
like_space (value.Space s) (value.Space t) e = ap (λ u. Some u) ((list_eq-decides s t).0 e)
like_space v w e = absurd (false≢true e)

refusal_steps : (o : Option RaiseKind) (a : Answer) → answer_ready a ≡ Steps → answer_ready (unless_refused o a) ≡ Steps
refusal_steps None a e = e
refusal_steps (Some kind) a e = refl

confine_steps : (view : List Tell) (xs : List Ident) (b : ℤ × ℤ) → answer_ready (confines view xs b) ≡ Steps
confine_steps view xs b = refusal_steps (refusal_of b.0 b.1) _ refl

procedure_steps : (q : procedures.Procedure) (xs : List Ident) → answer_ready (procedure_called q xs) ≡ Steps
procedure_steps q xs = either_steps (length xs == length q.parameters) _ (RaisesKind raise.Arity) refl refl

module _ (statements : List Statement) (space : List ℕ) (before after : List Tell) (keeps : Keeps before after) (sound : IsConsistent after) where
  -- what an answer watches has not moved
  abbrev Still : Answer → Type 0
  Still a = (x : Ident) → Contains (watched a) x → IsUnmoved before after x

  -- one answer goes on to the other
  abbrev Leads : Answer → Answer → Type 0
  Leads a b = Still a → SameReadiness after (answer_ready a) (answer_ready b)

  -- A wait for one variable

  one_class : (x y : Ident) → Same after x y → SameClasses after (x ∷ []) (y ∷ [])
  one_class x y s z = ap (λ b. b || false) (same_by_meaning after after z x z y (λ t. joined t s) (λ t. joined t (reversed s)))

  waits_one : (x y : Ident) (b : Answer) → Same after x y → (is_determined after x ≡ false → answer_ready b ≡ Waits (y ∷ [])) → Leads (Rests (Waits (x ∷ []))) b
  waits_one x y b s h = λ still. (y ∷ [], h (still x (contains-from_In (x ∷ []) x (inl refl))).free, one_class x y s)

  no_wait : Leads (Rests (Waits [])) (Rests (Waits []))
  no_wait = λ still. ([], refl, λ z. refl)

  both_step : (a b : Answer) → answer_ready a ≡ Steps → answer_ready b ≡ Steps → Leads a b
  both_step a b e f = λ still. subst (λ r. SameReadiness after r (answer_ready b)) (sym e) f

  -- Matches

  clause_leads : (environment : Environment) (accepted otherwise : List ℕ) (m n : Match) → MatchStays before after keeps sound m n
      → Leads (clause environment accepted otherwise m) (clause environment accepted otherwise n)
  clause_leads environment accepted otherwise (Matches extended) n h = λ still. ap (λ m. answer_ready (clause environment accepted otherwise m)) h.1
  clause_leads environment accepted otherwise Differs n h = λ still. ap (λ m. answer_ready (clause environment accepted otherwise m)) h
  clause_leads environment accepted otherwise (MatchWaits x) n h = λ still.
      let r = h (still x (contains-from_In (x ∷ []) x (inl refl))).free in
      (r.0 ∷ [], ap (λ m. answer_ready (clause environment accepted otherwise m)) r.1, one_class x r.0 r.2)

  -- Inputs

  given_leads :
      (x : Ident) (go more : Value → Answer) → ((v w : Value) → is_like v w ≡ true → Leads (go v) (more w)) → (o u : Option Value) → value_of before x ≡ o → value_of after x ≡ u
      → Leads (given x o go) (given x u more)
  given_leads x go more h None u e f =
      waits_one x x (given x u more) itself (λ free. ap (λ o. answer_ready (given x o more)) (sym f ∙ none_is (value_of after x) free))
  given_leads x go more h (Some v) u e f =
      let w = value_later before after keeps sound x x v e itself in
      subst (λ o. Leads (go v) (given x o more)) (sym w.1 ∙ f) (h v w.0 w.2.like)

  value_leads : (x : Ident) (go more : Value → Answer) → ((v w : Value) → is_like v w ≡ true → Leads (go v) (more w)) → Leads (with_value before x go) (with_value after x more)
  value_leads x go more h = given_leads x go more h (value_of before x) (value_of after x) refl refl

  one_leads : (x : Ident) (go : Value → Answer) → ((v : Value) → answer_ready (go v) ≡ Steps) → Leads (with_value before x go) (with_value after x go)
  one_leads x go h = value_leads x go go (λ v w like. both_step (go v) (go w) (h v) (h w))

  two_lead : (x y : Ident) (go : Value → Value → Answer) → ((v w : Value) → answer_ready (go v w) ≡ Steps)
      → Leads (with_value before x (λ v. with_value before y (go v))) (with_value after x (λ v. with_value after y (go v)))
  two_lead x y go h =
      value_leads x (λ v. with_value before y (go v)) (λ v. with_value after y (go v)) (λ v w like. value_leads y (go v) (go w) (λ s t alike. both_step (go v s) (go w t) (h v s) (h w t)))

  integers_lead : (x y : Ident) (go : ℤ → ℤ → Answer) → ((i j : ℤ) → answer_ready (go i j) ≡ Steps) → Leads (with_integers before x y go) (with_integers after x y go)
  integers_lead x y go h =
      two_lead x y (λ v w. of_kind (integer_in v) (λ i. of_kind (integer_in w) (go i)))
      (λ v w. kind_steps (integer_in v) (λ i. of_kind (integer_in w) (go i)) (λ i. kind_steps (integer_in w) (go i) (h i)))

  -- Domains

  -- an input of which each answer goes on
  input_leads : {A : Type 0} (R : A → A → Type 0) (i j : Input A) (go more : A → Answer) → ((a b : A) → R a b → Leads (go a) (more b)) → InputStays before after keeps sound R i j → Leads (of_input i go) (of_input j more)
  input_leads R (Known a) j go more h k = subst (λ z. Leads (go a) (of_input z more)) (sym k.1) (h a k.0 k.2)
  input_leads R (Unknown x) j go more h k = λ still.
      let r = k (still x (contains-from_In (x ∷ []) x (inl refl))).free in
      (r.0 ∷ [], ap (λ z. answer_ready (of_input z more)) r.1, one_class x r.0 r.2)
  input_leads R OtherKind j go more h k = λ still. ap (λ z. answer_ready (of_input z more)) k

  abbrev AreRanges : ℤ × ℤ → ℤ × ℤ → Type 0
  AreRanges = Both Equals Equals

  confines_lead : (xs ys : List Ident) (b c : ℤ × ℤ) → Leads (confines before xs b) (confines after ys c)
  confines_lead xs ys b c = both_step (confines before xs b) (confines after ys c) (confine_steps before xs b) (confine_steps after ys c)

  -- Built-ins

  equality_leads : (z : Ident) (asked : Bool) (d e : Equality) → EqualityStays before after d e → Leads (of_equality z asked d) (of_equality z asked e)
  equality_leads z asked Entailed e h = λ still. ap (λ q. answer_ready (of_equality z asked q)) h
  equality_leads z asked Contradicted e h = λ still. ap (λ q. answer_ready (of_equality z asked q)) h
  equality_leads z asked (Undecided xs) e h = λ still. let r = h still in (r.0, ap (λ q. answer_ready (of_equality z asked q)) r.1, r.2)

  equal_leads : (z : Ident) (asked : Bool) (x y : Ident) → Leads (of_equality z asked (equality before x y)) (of_equality z asked (equality after x y))
  equal_leads z asked x y = equality_leads z asked (equality before x y) (equality after x y) (equality_stays before after keeps sound x y)

  compare_leads : (test : ℤ → ℤ → Bool) (x y z : Ident) → Leads (compares before test x y z) (compares after test x y z)
  compare_leads test x y z = integers_lead x y (λ i j. gives_constant z (truth (test i j))) (λ i j. refl)

  compute_leads : (operate : ℤ → ℤ → Result ℤ NumFault) (x y z : Ident) → Leads (computes before operate x y z) (computes after operate x y z)
  compute_leads operate x y z = integers_lead x y (λ i j. gives_number z (operate i j)) (λ i j. number_steps z (operate i j))

  operation_leads : (op : Operation) (x y z : Ident) → Leads (of_operation before op x y z) (of_operation after op x y z)
  operation_leads operation.Same x y z = equal_leads z true x y
  operation_leads operation.Differs x y z = equal_leads z false x y
  operation_leads operation.Less x y z = compare_leads int_lt x y z
  operation_leads operation.AtMost x y z = compare_leads int_le x y z
  operation_leads operation.Greater x y z = compare_leads (λ i j. int_lt j i) x y z
  operation_leads operation.AtLeast x y z = compare_leads (λ i j. int_le j i) x y z
  operation_leads operation.Plus x y z = compute_leads sum x y z
  operation_leads operation.Minus x y z = compute_leads difference x y z
  operation_leads operation.Times x y z = compute_leads product x y z
  operation_leads operation.Div x y z = compute_leads quotient x y z
  operation_leads operation.Mod x y z = compute_leads remainder x y z
  operation_leads operation.Select x y z = two_lead x y (selects z) (selects_steps z)
  operation_leads operation.Bound x y z =
      input_leads AreRanges (bounds before y) (bounds after y) (confines before (x ∷ [])) (confines after (x ∷ [])) (λ b c h. confines_lead (x ∷ []) (x ∷ []) b c) (bounds_stay before after keeps sound y y itself)
  operation_leads operation.BoundEach x y z =
      input_leads (Both (AreSame after) AreRanges) (both (vector before x) (bounds before y)) (both (vector after x) (bounds after y))
      (λ (i : List Ident × (ℤ × ℤ)). confines before i.0 i.1) (λ (i : List Ident × (ℤ × ℤ)). confines after i.0 i.1) (λ p q h. confines_lead p.0 q.0 p.1 q.1)
      (both_stay before after keeps sound (AreSame after) AreRanges (vector before x) (vector after x) (bounds before y) (bounds after y) (vector_stays before after keeps sound x x itself) (bounds_stay before after keeps sound y y itself))

  abbrev here : Sight
  here = seeing statements space before

  abbrev there : Sight
  there = seeing statements space after

  show_leads : (b : Bool) (x : Ident) → Leads (if b then Acts (Shows x) else RaisesKind raise.GlobalIo) (if b then Acts (Shows x) else RaisesKind raise.GlobalIo)
  show_leads true x = λ still. refl
  show_leads false x = λ still. refl

  cell_leads : (x : Ident) (act : ℕ → Act) → Leads (on_cell here x act) (on_cell there x act)
  cell_leads x act =
      one_leads x (λ v. of_kind (cell_in v) (own_act here raise.GlobalCell act))
      (λ v. kind_steps (cell_in v) (own_act here raise.GlobalCell act) (own_steps here raise.GlobalCell act))

  port_leads : (x : Ident) (act : ℕ → Act) → Leads (on_port here x act) (on_port there x act)
  port_leads x act =
      one_leads x (λ v. of_kind (port_in v) (own_act here raise.GlobalPort act))
      (λ v. kind_steps (port_in v) (own_act here raise.GlobalPort act) (own_steps here raise.GlobalPort act))

  -- what can step, offers or operates on a space leads to itself
  offer_leads : (x : Ident) (i : ℤ) → Leads (offered x i) (offered x i)
  offer_leads x (pos n) = by (nat_le 1 n && nat_le n choice_limit)
    where
      by : (b : Bool) → Leads (if b then Rests (Offers (Number n x) []) else RaisesKind raise.Domain) (if b then Rests (Offers (Number n x) []) else RaisesKind raise.Domain)
      by true = λ still. (Number n x, [], refl, refl, λ z. refl)
      by false = λ still. refl
  offer_leads x (negsuc n) = λ still. refl

  choose_leads : (x : Ident) (o : Option ℤ) → Leads (of_kind o (offered x)) (of_kind o (offered x))
  choose_leads x None = λ still. refl
  choose_leads x (Some i) = offer_leads x i

  operate_leads : (op : SpaceOperation) (x : Ident) (child : List ℕ) → Leads (operates here op x child) (operates there op x child)
  operate_leads op x child = by (is_child_of space child)
    where
      by : (b : Bool) → Leads (if b then Operates op child x else RaisesKind raise.SpaceParent) (if b then Operates op child x else RaisesKind raise.SpaceParent)
      by true = λ still. refl
      by false = λ still. refl

  on_space_leads : (op : SpaceOperation) (x : Ident) (o : Option (List ℕ)) → Leads (of_kind o (operates here op x)) (of_kind o (operates there op x))
  on_space_leads op x None = λ still. refl
  on_space_leads op x (Some child) = operate_leads op x child

  answer_leads : (b : Builtin) (x : ℕ → Ident) → Leads (answer here b x) (answer there b x)
  answer_leads (builtin.Operation op) x = operation_leads op (x 0) (x 1) (x 2)
  answer_leads builtin.Label x = one_leads (x 0) (λ v. of_kind (label_in v) (gives_constant (x 1))) (λ v. kind_steps (label_in v) (gives_constant (x 1)) (λ c. refl))
  answer_leads builtin.Width x =
      one_leads (x 0) (λ v. of_kind (arity_in v) (λ fs. gives_constant (x 1) (constant.Int (pos (length fs)))))
      (λ v. kind_steps (arity_in v) (λ fs. gives_constant (x 1) (constant.Int (pos (length fs)))) (λ fs. refl))
  answer_leads builtin.Arity x =
      one_leads (x 0) (λ v. of_kind (arity_in v) (λ fs. Acts (GivesTerm (x 1) (list_term fs)))) (λ v. kind_steps (arity_in v) (λ fs. Acts (GivesTerm (x 1) (list_term fs))) (λ fs. refl))
  answer_leads builtin.NewName x = λ still. refl
  answer_leads builtin.Wait x = one_leads (x 0) (λ v. Acts Passes) (λ v. refl)
  answer_leads builtin.NewCell x = λ still. refl
  answer_leads builtin.Access x = cell_leads (x 0) (λ n. Reads n (x 1))
  answer_leads builtin.Assign x = cell_leads (x 0) (λ n. Writes n (x 1))
  answer_leads builtin.Exchange x = cell_leads (x 0) (λ n. Exchanges n (x 1) (x 2))
  answer_leads builtin.NewPort x = λ still. refl
  answer_leads builtin.Send x = port_leads (x 0) (λ n. Sends n (x 1))
  answer_leads builtin.ByNeed x = one_leads (x 0) (delays (x 0) (x 1)) (delay_steps (x 0) (x 1))
  answer_leads builtin.Show x = show_leads (is_top space) (x 0)
  answer_leads builtin.NewSpace x = one_leads (x 0) (creates (x 0) (x 1)) (create_steps (x 0) (x 1))
  answer_leads builtin.Choose x =
      value_leads (x 0) (λ v. of_kind (integer_in v) (offered (x 1))) (λ v. of_kind (integer_in v) (offered (x 1)))
      (λ v w like. subst (λ o. Leads (of_kind (integer_in v) (offered (x 1))) (of_kind o (offered (x 1)))) (alike-integer v w like) (choose_leads (x 1) (integer_in v)))
  answer_leads builtin.Distinct x =
      input_leads (AreSame after) (vector before (x 0)) (vector after (x 0)) (posts before Distinct) (posts after Distinct) (λ us vs h. λ still. refl) (vector_stays before after keeps sound (x 0) (x 0) itself)
  answer_leads builtin.Distribute x = distribute_leads before after keeps sound (consistent_less before after keeps sound) (x 0) (x 1)
  answer_leads (builtin.OnSpace op) x =
      value_leads (x 0) (λ v. of_kind (space_in v) (operates here op (x 1))) (λ v. of_kind (space_in v) (operates there op (x 1)))
      (λ v w like. subst (λ o. Leads (of_kind (space_in v) (operates here op (x 1))) (of_kind o (operates there op (x 1)))) (like_space v w like) (on_space_leads op (x 1) (space_in v)))

  call_leads : (b : Builtin) (xs : List Ident) → Leads (call_answer here b xs) (call_answer there b xs)
  call_leads b xs = by (length xs == arguments_of b)
    where
      by : (c : Bool) → Leads (if c then answer here b (argument xs) else RaisesKind raise.Arity) (if c then answer there b (argument xs) else RaisesKind raise.Arity)
      by true = answer_leads b (argument xs)
      by false = λ still. refl

  -- Calls

  value_called_leads : (xs : List Ident) (v w : Value) → is_like v w ≡ true → Leads (value_called here xs v) (value_called there xs w)
  value_called_leads xs (value.Builtin b) (value.Builtin c) e = subst (λ d. Leads (call_answer here b xs) (call_answer there d xs)) (builtin_eq-true b c e) (call_leads b xs)
  value_called_leads xs (value.Constant c) (value.Constant d) e = λ still. refl
  value_called_leads xs (value.Record r) (value.Record s) e = λ still. refl
  value_called_leads xs (value.Name m) (value.Name n) e = λ still. refl
  value_called_leads xs (value.Cell c) (value.Cell d) e = λ still. refl
  value_called_leads xs (value.Port p) (value.Port q) e = λ still. refl
  value_called_leads xs (value.Space s) (value.Space t) e = λ still. refl
  value_called_leads xs (value.Procedure p) (value.Procedure q) e = both_step (procedure_called p xs) (procedure_called q xs) (procedure_steps p xs) (procedure_steps q xs)
  value_called_leads xs v w e = absurd (false≢true e)

  called_leads : (x : Ident) (xs : List Ident) → Leads (called here x xs) (called there x xs)
  called_leads x xs = value_leads x (value_called here xs) (value_called there xs) (value_called_leads xs)

  -- Statements

  statement_leads : (environment : Environment) (st : Statement) → Leads (statement_answer here environment st) (statement_answer there environment st)
  statement_leads environment statement.Skip = λ still. refl
  statement_leads environment statement.Fail = λ still. refl
  statement_leads environment (statement.Local names body) = λ still. refl
  statement_leads environment (statement.Equate left right) = λ still. refl
  statement_leads environment (statement.Bind name c) = λ still. refl
  statement_leads environment (statement.BindRecord name label features fields) = λ still. refl
  statement_leads environment (statement.BindProcedure name parameters body) = λ still. refl
  statement_leads environment (statement.Call procedure arguments) = called_leads (bound environment procedure) (map (bound environment) arguments)
  statement_leads environment (statement.Operate op arguments) = call_leads (builtin.Operation op) (map (bound environment) arguments)
  statement_leads environment (statement.Choice alternatives) = λ still. (Bodies (map (frames_of environment) alternatives), [], refl, refl, λ z. refl)
  statement_leads environment (statement.If condition accepted otherwise) = one_leads (bound environment condition) (branch environment accepted otherwise) (branch_steps environment accepted otherwise)
  statement_leads environment (statement.Case subject pattern accepted otherwise) =
      clause_leads environment accepted otherwise (matched before pattern (bound environment subject ∷ []) environment) (matched after pattern (bound environment subject ∷ []) environment)
      (match_stays before after keeps sound pattern (bound environment subject ∷ []) (bound environment subject ∷ []) environment environment (itself, tt))
  statement_leads environment statement.NoMatch = λ still. refl
  statement_leads environment (statement.Thread body) = λ still. refl
  statement_leads environment (statement.Try body exception handler) = λ still. refl
  statement_leads environment (statement.Raise name) = λ still. refl
  statement_leads environment (statement.Post sign constant terms) = λ still. refl
  statement_leads environment (statement.PostTimes left right product) = λ still. refl

  numbered_leads : (environment : Environment) (o : Option Statement) → Leads (numbered_answer here environment o) (numbered_answer there environment o)
  numbered_leads environment (Some st) = statement_leads environment st
  numbered_leads environment None = no_wait

  code_leads : (environment : Environment) (k : Code) → Leads (code_answer here environment k) (code_answer there environment k)
  code_leads environment (code.Statement n) = numbered_leads environment (slice_get statements n)
  code_leads environment (code.Call procedure argument) = called_leads procedure (argument ∷ [])
  code_leads environment (code.Bind x n) = λ still. refl
  code_leads environment (code.Mark exception handler) = λ still. refl

  pub stack_leads : (frames : List Frame) → Leads (stack_answer here frames) (stack_answer there frames)
  stack_leads [] = no_wait
  stack_leads (frame ∷ rest) = code_leads frame.environment frame.code

pub readiness_stays : ReadinessStays
readiness_stays statements space before after t keeps sound still = stack_leads statements space before after keeps sound t.frames still
