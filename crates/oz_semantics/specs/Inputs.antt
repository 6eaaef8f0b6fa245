-- What a built-in reads off its arguments before it does anything (CTM 2.3, appendix B): it waits for what is not determined yet, and refuses what is of
-- another kind than it asks for.
use Rattle.std.specs.Prelude.{ℤ, Option, Some, None}
use Rattle.oz_base.specs.declared.names.Ident.{Ident}
use Rattle.oz_semantics.specs.Values.{integer_in}
use Rattle.oz_semantics.specs.Store.{View, value_of}
use Rattle.oz_semantics.specs.declared.value.Value.{Value}

pub data Input (A : Type 0) : Type 0 where
  Known : A → Input A
  -- until this variable is determined
  Unknown : Ident → Input A
  OtherKind : Input A

-- of two inputs, both are waited for from left to right before a kind is looked at
abbrev pub both : {A B : Type 0} → Input A → Input B → Input (A × B)
both (Known a) (Known b) = Known (a, b)
both (Known a) (Unknown y) = Unknown y
both (Known a) OtherKind = OtherKind
both (Unknown x) b = Unknown x
both OtherKind (Known b) = OtherKind
both OtherKind (Unknown y) = Unknown y
both OtherKind OtherKind = OtherKind

-- an input of which more is asked
abbrev pub and_further : {A B : Type 0} → (A → Input B) → Input A → Input B
and_further ask (Known a) = ask a
and_further ask (Unknown x) = Unknown x
and_further ask OtherKind = OtherKind

abbrev pub known_if : {A : Type 0} → Option A → Input A
known_if (Some a) = Known a
known_if None = OtherKind

-- the value of a variable, of which this is read
abbrev pub read : {A : Type 0} → (Value → Input A) → Ident → Option Value → Input A
read reading x (Some v) = reading v
read reading x None = Unknown x

abbrev pub integer_input : View → Ident → Input ℤ
integer_input view x = read (λ v. known_if (integer_in v)) x (value_of view x)
