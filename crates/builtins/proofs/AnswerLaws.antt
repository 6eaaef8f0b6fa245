-- Answers by what they say, and by the first of their arguments.
use Rattle.std.proofs.Common.{◌≡◌, ◌<◌, ◌∷◌, [], ℕ, refl, sym, ap, ◌∙◌, Result, Ok, Err, IfOk, List, length, get_or, subst, if◌then◌else◌, eq-eqb, arith, lit<}
use Rattle.oz_base.specs.declared.names.Ident.{Ident}
use Rattle.oz_language.specs.declared.kernel.Operation.{Operation}
use Rattle.oz_language.specs.declared.kernel.Operation.TheVariants as operation
use Rattle.oz_language.specs.declared.kernel.Statement.{Statement}
use Rattle.oz_semantics.specs.Store.{View}
use Rattle.oz_semantics.specs.Sights.{Sight}
use Rattle.oz_semantics.specs.Answers as answers
use Rattle.oz_semantics.specs.Answers.{argument}
use Rattle.oz_semantics.specs.Builtins.{operands_of, arguments_of, of_operation, answer, call_answer}
use Rattle.oz_semantics.specs.declared.value.Builtin.{Builtin}
use Rattle.oz_semantics.specs.declared.value.Builtin.TheVariants as builtin
use Rattle.oz_semantics.specs.declared.outcome.RaiseKind.TheVariants as raise
use Rattle.builtins.specs.Answers.{IsAnswer}
use Rattle.builtins.specs.Exact.{answer_of, erased, on_two}
use Rattle.builtins.specs.Looks.{Given}
use Rattle.builtins.specs.declared.answer.Answer.{Answer}
use Rattle.builtins.specs.declared.answer.Answer.TheVariants as said

-- what says the same but for a rest is the answer
pub is_answer : (a : answers.Answer) (r : Answer) → answer_of r ≡ erased a → IsAnswer a r
is_answer (answers.Acts b) (said.Acts c) e = sym e
is_answer (answers.Edits b) (said.Edits c) e = sym e
is_answer (answers.RaisesKind k) (said.RaisesKind l) e = sym e
is_answer (answers.RaisesTerm x) (said.RaisesTerm y) e = sym e
is_answer (answers.Operates op space x) (said.Operates other child y) e = sym e
is_answer (answers.Widens ts) (said.Widens us) e = sym e
is_answer (answers.Rests ready) said.Rests e = (ready, refl)
is_answer a r e = cc

-- an operator on the values of its inputs
pub on_values_alone : (view : View) (op : Operation) (x y z : Ident) → (op ≡ operation.Same → ⊥) → (op ≡ operation.Differs → ⊥) → (op ≡ operation.Bound → ⊥) → (op ≡ operation.BoundEach → ⊥)
    → on_two view op x y z ≡ of_operation view op x y z
on_values_alone view operation.Same x y z a b c d = absurd (a refl)
on_values_alone view operation.Differs x y z a b c d = absurd (b refl)
on_values_alone view operation.Bound x y z a b c d = absurd (c refl)
on_values_alone view operation.BoundEach x y z a b c d = absurd (d refl)
on_values_alone view op x y z a b c d = refl

one_below : 1 < 2
one_below = lit< tt

one_below_three : 1 < 3
one_below_three = lit< tt

two_below : 2 < 3
two_below = lit< tt

two_of : (to : Ident → Ident → answers.Answer) (x y : Ident) (f : ℕ → Ident) → f 0 ≡ x → f 1 ≡ y → to (f 0) (f 1) ≡ to x y
two_of to x y f h k = ap (λ a. to a (f 1)) h ∙ ap (to x) k

three_of : (to : Ident → Ident → Ident → answers.Answer) (x y z : Ident) (f : ℕ → Ident) → f 0 ≡ x → f 1 ≡ y → f 2 ≡ z → to (f 0) (f 1) (f 2) ≡ to x y z
three_of to x y z f h k l = ap (λ a. to a (f 1) (f 2)) h ∙ ap (λ a. to x a (f 2)) k ∙ ap (to x y) l

-- an operator, by its arguments
of_given : (view : View) (op : Operation) (x y z : Ident) (f : ℕ → Ident) → Given (builtin.Operation op) x y z f → of_operation view op (f 0) (f 1) (f 2) ≡ of_operation view op x y z
of_given view operation.Bound x y z f g = two_of (λ a b. of_operation view operation.Bound a b z) x y f g.first (g.second one_below)
of_given view operation.BoundEach x y z f g = two_of (λ a b. of_operation view operation.BoundEach a b z) x y f g.first (g.second one_below)
of_given view op x y z f g = three_of (of_operation view op) x y z f g.first (g.second one_below_three) (g.third two_below)

-- a built-in of two parameters reads the first two arguments
of_two : (s : Sight) (b : Builtin) (x y z : Ident) (f : ℕ → Ident) → Given b x y z f → 1 < arguments_of b → answer s b (argument (f 0 ∷ f 1 ∷ z ∷ [])) ≡ answer s b (argument (x ∷ y ∷ z ∷ []))
of_two s b x y z f g h = two_of (λ a c. answer s b (argument (a ∷ c ∷ z ∷ []))) x y f g.first (g.second h)

-- and one of one parameter the first
of_one : (s : Sight) (b : Builtin) (x y z : Ident) (f : ℕ → Ident) → Given b x y z f → answer s b (argument (f 0 ∷ y ∷ z ∷ [])) ≡ answer s b (argument (x ∷ y ∷ z ∷ []))
of_one s b x y z f g = ap (λ a. answer s b (argument (a ∷ y ∷ z ∷ []))) g.first

-- a built-in reads no more arguments than it takes
pub answer_of_given : (s : Sight) (b : Builtin) (x y z : Ident) (f : ℕ → Ident) → Given b x y z f → answer s b f ≡ answer s b (argument (x ∷ y ∷ z ∷ []))
answer_of_given s (builtin.Operation op) x y z f g = of_given s.view op x y z f g
answer_of_given s builtin.Label x y z f g = of_two s builtin.Label x y z f g one_below
answer_of_given s builtin.Width x y z f g = of_two s builtin.Width x y z f g one_below
answer_of_given s builtin.Arity x y z f g = of_two s builtin.Arity x y z f g one_below
answer_of_given s builtin.NewName x y z f g = of_one s builtin.NewName x y z f g
answer_of_given s builtin.Wait x y z f g = of_one s builtin.Wait x y z f g
answer_of_given s builtin.NewCell x y z f g = of_two s builtin.NewCell x y z f g one_below
answer_of_given s builtin.Access x y z f g = of_two s builtin.Access x y z f g one_below
answer_of_given s builtin.Assign x y z f g = of_two s builtin.Assign x y z f g one_below
answer_of_given s builtin.Exchange x y z f g =
    three_of (λ a b c. answer s builtin.Exchange (argument (a ∷ b ∷ c ∷ []))) x y z f g.first (g.second one_below_three) (g.third two_below)
answer_of_given s builtin.NewPort x y z f g = of_two s builtin.NewPort x y z f g one_below
answer_of_given s builtin.Send x y z f g = of_two s builtin.Send x y z f g one_below
answer_of_given s builtin.ByNeed x y z f g = of_two s builtin.ByNeed x y z f g one_below
answer_of_given s builtin.Show x y z f g = of_one s builtin.Show x y z f g
answer_of_given s builtin.NewSpace x y z f g = of_two s builtin.NewSpace x y z f g one_below
answer_of_given s builtin.Choose x y z f g = of_two s builtin.Choose x y z f g one_below
answer_of_given s builtin.Distinct x y z f g = of_one s builtin.Distinct x y z f g
answer_of_given s builtin.Distribute x y z f g = of_two s builtin.Distribute x y z f g one_below
answer_of_given s (builtin.OnSpace op) x y z f g = of_two s (builtin.OnSpace op) x y z f g one_below

-- what the first arguments answer
pub given_so : {E : Type 0} (space : List ℕ) (view : View) (b : Builtin) (x y z : Ident) (r : Result Answer E)
    → IfOk r (λ a. (statements : List Statement) → answer_of a ≡ erased (answer (record { statements = statements; space = space; view = view }) b (argument (x ∷ y ∷ z ∷ []))))
    → IfOk r (λ a. (statements : List Statement) (given : ℕ → Ident) → Given b x y z given → IsAnswer (answer (record { statements = statements; space = space; view = view }) b given) a)
given_so space view b x y z (Err e) h = tt
given_so space view b x y z (Ok a) h = λ statements given g.
    let s : Sight = record { statements = statements; space = space; view = view } in
    is_answer (answer s b given) a (h statements ∙ sym (ap erased (answer_of_given s b x y z given g)))

-- each built-in takes an argument
pub takes_one : (b : Builtin) → 0 < arguments_of b
takes_one (builtin.Operation op) = operator_takes op
  where
    operator_takes : (op : Operation) → 0 < operands_of op
    operator_takes operation.Bound = lit< tt
    operator_takes operation.BoundEach = lit< tt
    operator_takes op = lit< tt
takes_one builtin.Label = lit< tt
takes_one builtin.Width = lit< tt
takes_one builtin.Arity = lit< tt
takes_one builtin.NewName = lit< tt
takes_one builtin.Wait = lit< tt
takes_one builtin.NewCell = lit< tt
takes_one builtin.Access = lit< tt
takes_one builtin.Assign = lit< tt
takes_one builtin.Exchange = lit< tt
takes_one builtin.NewPort = lit< tt
takes_one builtin.Send = lit< tt
takes_one builtin.ByNeed = lit< tt
takes_one builtin.Show = lit< tt
takes_one builtin.NewSpace = lit< tt
takes_one builtin.Choose = lit< tt
takes_one builtin.Distinct = lit< tt
takes_one builtin.Distribute = lit< tt
takes_one (builtin.OnSpace op) = lit< tt

-- a call with as many arguments as the built-in takes
pub call_is : (s : Sight) (b : Builtin) (xs : List Ident) → length xs ≡ arguments_of b → call_answer s b xs ≡ answer s b (argument xs)
call_is s b xs e = ap (λ t. if t then answer s b (argument xs) else answers.RaisesKind raise.Arity) (eq-eqb (length xs) (arguments_of b) e)

pub first_argument : (xs : List Ident) (x : Ident) → 0 < length xs → x ≡ get_or xs 0 x → argument xs 0 ≡ x
first_argument [] x h e = absurd (omega arith)
first_argument (a ∷ xs) x h e = sym e

-- the arguments begin with these
pub given_in : (b : Builtin) (xs : List Ident) (x y z : Ident) → length xs ≡ arguments_of b → x ≡ get_or xs 0 x → (1 < length xs → y ≡ argument xs 1) → (2 < length xs → z ≡ argument xs 2) → Given b x y z (argument xs)
given_in b xs x y z e f g h = record {
  first = first_argument xs x (subst (λ n. 0 < n) (sym e) (takes_one b)) f;
  second = λ k. sym (g (subst (λ n. 1 < n) (sym e) k));
  third = λ k. sym (h (subst (λ n. 2 < n) (sym e) k));
}
