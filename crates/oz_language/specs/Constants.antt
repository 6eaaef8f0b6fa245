-- The values that stand in a program's text, integers and literals, and what tells two of them apart (CTM 2.3.2).
use Rattle.std.specs.Prelude.{ℕ, Bool, true, false, ◌&&◌, ◌==◌, List, [], ◌∷◌}
use Rattle.std.specs.Ordering.{int_eq}
use Rattle.oz_language.specs.declared.token.Literal.{Literal}
use Rattle.oz_language.specs.declared.token.Literal.TheVariants as literal
use Rattle.oz_language.specs.declared.kernel.Constant.{Constant}
use Rattle.oz_language.specs.declared.kernel.Constant.TheVariants as constant
use Rattle.oz_language.specs.declared.kernel.Operation.{Operation}
use Rattle.oz_language.specs.declared.kernel.Operation.TheVariants as operation

-- the literals that are no atoms, told apart by a number
abbrev pub literal_rank : Literal → ℕ
literal_rank (literal.Atom a) = 0
literal_rank literal.False = 1
literal_rank literal.True = 2
literal_rank literal.Unit = 3

abbrev pub literal_eq : Literal → Literal → Bool
literal_eq (literal.Atom a) (literal.Atom b) = (a == b)
literal_eq l m = (literal_rank l == literal_rank m)

abbrev pub constant_eq : Constant → Constant → Bool
constant_eq (constant.Int i) (constant.Int j) = int_eq i j
constant_eq (constant.Literal l) (constant.Literal m) = literal_eq l m
constant_eq (constant.Int i) (constant.Literal m) = false
constant_eq (constant.Literal l) (constant.Int j) = false

-- two lists of features are one arity
abbrev pub same_arity : List Constant → List Constant → Bool
same_arity [] [] = true
same_arity (f ∷ fs) (g ∷ gs) = constant_eq f g && same_arity fs gs
same_arity [] (g ∷ gs) = false
same_arity (f ∷ fs) [] = false

-- operations, told apart by numbers
abbrev pub operation_rank : Operation → ℕ
operation_rank operation.Same = 0
operation_rank operation.Differs = 1
operation_rank operation.Less = 2
operation_rank operation.AtMost = 3
operation_rank operation.Greater = 4
operation_rank operation.AtLeast = 5
operation_rank operation.Plus = 6
operation_rank operation.Minus = 7
operation_rank operation.Times = 8
operation_rank operation.Div = 9
operation_rank operation.Mod = 10
operation_rank operation.Select = 11
operation_rank operation.Bound = 12
operation_rank operation.BoundEach = 13
