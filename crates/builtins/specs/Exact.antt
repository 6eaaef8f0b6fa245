-- Answers as values: they say what definitions do, except what a call rests for.
use Rattle.std.specs.Prelude.{ℕ, ℤ, pos, int_lt, int_le, if◌then◌else◌, List, [], length, Option, Some, None, Result, Ok, Err}
use Rattle.oz_base.specs.Lists.{list_eq}
use Rattle.oz_base.specs.Numbers.{sum, difference, product, quotient, remainder}
use Rattle.oz_base.specs.declared.names.Ident.{Ident}
use Rattle.oz_language.specs.declared.kernel.Constant.{Constant}
use Rattle.oz_language.specs.declared.kernel.Constant.TheVariants as constant
use Rattle.oz_language.specs.declared.kernel.Operation.{Operation}
use Rattle.oz_language.specs.declared.kernel.Operation.TheVariants as operation
use Rattle.oz_semantics.specs.Names.{is_top, is_child_of}
use Rattle.oz_semantics.specs.Store.{View}
use Rattle.oz_semantics.specs.Values.{integer_in, constant_in, cell_in, port_in, space_in}
use Rattle.oz_semantics.specs.Terms.{list_term}
use Rattle.oz_semantics.specs.Sights.{Waits}
use Rattle.oz_semantics.specs.Answers as answers
use Rattle.oz_semantics.specs.Answers.{gives_constant, with_value, of_kind}
use Rattle.oz_semantics.specs.Builtins.{truth, gives_number, gives_field, field_at, selects, label_in, arity_in}
use Rattle.oz_semantics.specs.declared.value.SpaceOperation.{SpaceOperation}
use Rattle.oz_semantics.specs.declared.value.Value.{Value}
use Rattle.oz_semantics.specs.declared.outcome.RaiseKind.{RaiseKind}
use Rattle.oz_semantics.specs.declared.outcome.RaiseKind.TheVariants as raise
use Rattle.builtins.specs.Answers.{act_of, edit_of}
use Rattle.builtins.specs.Choices.{size_in}
use Rattle.builtins.specs.declared.answer.Answer.{Answer}
use Rattle.builtins.specs.declared.answer.Answer.TheVariants as answer

-- an answer that rests, for nothing
abbrev pub resting : answers.Answer
resting = answers.Rests (Waits [])

abbrev pub answer_of : Answer → answers.Answer
answer_of (answer.Acts b) = answers.Acts (act_of b)
answer_of (answer.Edits b) = answers.Edits (edit_of b)
answer_of (answer.RaisesKind kind) = answers.RaisesKind kind
answer_of (answer.RaisesTerm x) = answers.RaisesTerm x
answer_of (answer.Operates op space x) = answers.Operates op space x
answer_of (answer.Widens ts) = answers.Widens ts
answer_of answer.Rests = resting

-- without what it rests for
abbrev pub erased : answers.Answer → answers.Answer
erased (answers.Acts a) = answers.Acts a
erased (answers.Edits e) = answers.Edits e
erased (answers.RaisesKind kind) = answers.RaisesKind kind
erased (answers.RaisesTerm x) = answers.RaisesTerm x
erased (answers.Operates op space x) = answers.Operates op space x
erased (answers.Widens ts) = answers.Widens ts
erased (answers.Rests ready) = resting

-- Operators by what they answer to values; one that is no operation on integers rests

abbrev pub on_integers : Operation → Ident → ℤ → ℤ → answers.Answer
on_integers operation.Less z i j = gives_constant z (truth (int_lt i j))
on_integers operation.AtMost z i j = gives_constant z (truth (int_le i j))
on_integers operation.Greater z i j = gives_constant z (truth (int_lt j i))
on_integers operation.AtLeast z i j = gives_constant z (truth (int_le j i))
on_integers operation.Plus z i j = gives_number z (sum i j)
on_integers operation.Minus z i j = gives_number z (difference i j)
on_integers operation.Times z i j = gives_number z (product i j)
on_integers operation.Div z i j = gives_number z (quotient i j)
on_integers operation.Mod z i j = gives_number z (remainder i j)
on_integers op z i j = resting

abbrev pub on_numbers : Operation → Ident → Value → Value → answers.Answer
on_numbers op z v w = of_kind (integer_in v) (λ i. of_kind (integer_in w) (on_integers op z i))

abbrev pub on_values : Operation → Ident → Value → Value → answers.Answer
on_values operation.Select z v w = selects z v w
on_values op z v w = on_numbers op z v w

abbrev pub on_two : View → Operation → Ident → Ident → Ident → answers.Answer
on_two view op x y z = with_value view x (λ v. with_value view y (on_values op z v))

-- Records

abbrev pub selects_in : Ident → List Constant → List Ident → Value → answers.Answer
selects_in z features fields w = of_kind (constant_in w) (λ f. gives_field z (field_at features fields f))

abbrev pub gives_label : Ident → Value → answers.Answer
gives_label z v = of_kind (label_in v) (gives_constant z)

abbrev pub gives_width : Ident → Value → answers.Answer
gives_width z v = of_kind (arity_in v) (λ fs. gives_constant z (constant.Int (pos (length fs))))

abbrev pub gives_arity : Ident → Value → answers.Answer
gives_arity z v = of_kind (arity_in v) (λ fs. answers.Acts (answers.GivesTerm z (list_term fs)))

-- Waiting and showing

abbrev pub passes : Value → answers.Answer
passes v = answers.Acts answers.Passes

abbrev pub shows : List ℕ → Ident → answers.Answer
shows space x = if is_top space then answers.Acts (answers.Shows x) else answers.RaisesKind raise.GlobalIo

-- Cells and ports, by their numbers; what is another space's is not used

abbrev pub own_act : List ℕ → RaiseKind → (ℕ → answers.Act) → Ident → answers.Answer
own_act space global act owner = if list_eq owner.space space then answers.Acts (act owner.number) else answers.RaisesKind global

abbrev pub on_cell : List ℕ → (ℕ → answers.Act) → Value → answers.Answer
on_cell space act v = of_kind (cell_in v) (own_act space raise.GlobalCell act)

abbrev pub on_port : List ℕ → (ℕ → answers.Act) → Value → answers.Answer
on_port space act v = of_kind (port_in v) (own_act space raise.GlobalPort act)

-- the act with a number, or the answer in its place
abbrev pub acting : (ℕ → answers.Act) → Result ℕ Answer → answers.Answer
acting act (Ok n) = answers.Acts (act n)
acting act (Err a) = answer_of a

-- Computation spaces

-- by how many alternatives are offered, if any are
abbrev pub offered_of : Option ℕ → answers.Answer
offered_of None = answers.RaisesKind raise.Domain
offered_of (Some n) = resting

abbrev pub chooses : Value → answers.Answer
chooses v = of_kind (integer_in v) (λ i. offered_of (size_in i))

-- an operation on a space with this name, with its other argument x: it has to be in this one
abbrev pub operates_in : List ℕ → SpaceOperation → Ident → List ℕ → answers.Answer
operates_in space op x child = if is_child_of space child then answers.Operates op child x else answers.RaisesKind raise.SpaceParent

abbrev pub operates_on : List ℕ → SpaceOperation → Ident → Value → answers.Answer
operates_on space op x v = of_kind (space_in v) (operates_in space op x)
