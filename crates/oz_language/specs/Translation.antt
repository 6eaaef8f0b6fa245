-- The kernel of a program (CTM 2.6): a statement becomes kernel statements, and so does an expression with an identifier that it
-- makes its value. The translation makes identifiers of its own, numbered from 1 on as they are needed.
use Rattle.std.specs.Prelude.{ℕ, zero, suc, ℤ, pos, neg_ℤ, ◌+ℤ◌, ◌-◌, map, List, [], ◌∷◌, ◌++◌, Option, Some, None, Bool, true, false, not, if◌then◌else◌}
use Rattle.std.specs.List.{zip}
use Rattle.oz_language.specs.declared.kernel.Identifier.{Identifier}
use Rattle.oz_language.specs.declared.kernel.Identifier.TheVariants.{Word, Fresh}
use Rattle.oz_language.specs.declared.kernel.Constant.{Constant}
use Rattle.oz_language.specs.declared.kernel.Constant.TheVariants as constant
use Rattle.oz_language.specs.declared.kernel.Kernel.{Kernel}
use Rattle.oz_language.specs.declared.kernel.LinearTerm.{LinearTerm}
use Rattle.oz_language.specs.declared.kernel.Operation.{Operation}
use Rattle.oz_language.specs.declared.kernel.Operation.TheVariants as operation
use Rattle.oz_language.specs.declared.kernel.Sign.TheVariants as sign
use Rattle.oz_language.specs.declared.token.Literal.{Literal}
use Rattle.oz_language.specs.declared.token.Literal.TheVariants as literals
use Rattle.oz_language.specs.declared.token.Operator.{Operator}
use Rattle.oz_language.specs.declared.token.Operator.TheVariants as operator
use Rattle.oz_language.specs.declared.token.Comparison.{Comparison}
use Rattle.oz_language.specs.declared.token.Comparison.TheVariants as comparison
use Rattle.oz_language.specs.Wording.{access_word, assign_word, by_need_word, nil_word, bar_word, hash_word}
use Rattle.oz_language.specs.Grammar.{Phrase, Phrases, nothing, more, var, any, int, string, literal, rec, keyed, list, paren, binary, bars, hashes, select, access, connected, relate, head, proc, fun, choice, when, choose, arm, cases, cases_or, clause, body}
use Rattle.oz_language.specs.declared.token.Connective.TheVariants.{Equates, Assigns, Bounds, BoundsEach}
use Rattle.oz_language.specs.Grammar as g
use Rattle.oz_language.specs.Kernels.{word_text, Stmt, Stmts, none, followed, Bodies, no_body, Pattern, Patterns, no_pattern, beside, just, ◌⨾◌, numbered}
use Rattle.oz_language.specs.Kernels as k
use Rattle.oz_language.specs.Arities.{in_arity_order}
use Rattle.oz_language.specs.Refusals.{Program, features, declared_by, name_in, contains}

-- What is made

-- kernel statements, and the number of the next identifier
pub record Made : Type 0 where
  pub code : Stmts
  pub next : ℕ

abbrev pub made : Stmts → ℕ → Made
made code next = record { code = code; next = next }

-- one thing made, and then another
abbrev pub and_then : Made → (ℕ → Made) → Made
and_then a make = let b = make a.next in made (a.code ⨾ b.code) b.next

abbrev pub preceded : Stmt → Made → Made
preceded s a = made (followed s a.code) a.next

-- what for: a statement, or the value of an identifier
pub data Goal : Type 0 where
  statement : Goal
  value : Identifier → Goal

-- the identifier that gets the value, as the last argument of a call
abbrev pub result_in : Goal → List Identifier
result_in statement = []
result_in (value x) = x ∷ []

-- Identifiers of parts

-- parentheses leave nothing, and a part may be the field of a record, with its key
abbrev pub variable_of : Phrase → Option Identifier
variable_of (var name at) = Some (Word name)
variable_of (paren at (more e nothing)) = variable_of e
variable_of (keyed c at e) = variable_of e
variable_of p = None

-- a variable is its own identifier, and any other part has the next one
abbrev pub name_or : ℕ → Option Identifier → Identifier
name_or n (Some x) = x
name_or n None = Fresh n

abbrev pub next_after : ℕ → Option Identifier → ℕ
next_after n (Some x) = n
next_after n None = suc n

-- the identifiers of parts, left to right
abbrev pub names_of : ℕ → Phrases → List Identifier
names_of n nothing = []
names_of n (more e es) = name_or n (variable_of e) ∷ names_of (next_after n (variable_of e)) es

-- the next number behind them
abbrev pub behind_names : ℕ → Phrases → ℕ
behind_names n nothing = n
behind_names n (more e es) = behind_names (next_after n (variable_of e)) es

abbrev pub with_fresh : Identifier → List Identifier → List Identifier
with_fresh (Word w) xs = xs
with_fresh (Fresh n) xs = Fresh n ∷ xs

abbrev pub fresh_among : List Identifier → List Identifier
fresh_among [] = []
fresh_among (x ∷ xs) = with_fresh x (fresh_among xs)

-- `local F .. in S .. end`, or the statements alone where there is nothing fresh
abbrev pub scoped : List Identifier → Stmts → Stmts
scoped [] ss = ss
scoped (x ∷ xs) ss = just (k.local (x ∷ xs) ss)

-- the fresh ones among these identifiers, round what is made
abbrev pub within : List Identifier → Made → Made
within xs a = made (scoped (fresh_among xs) a.code) a.next

-- a part that is no variable gets its value
abbrev pub part_made : Option Identifier → (ℕ → Made) → ℕ → Made
part_made (Some x) make n = made none n
part_made None make n = make n

-- a construct with one part, by how its value is made and what is done with its identifier
abbrev pub with_part : ℕ → Option Identifier → (Identifier → ℕ → Made) → (Identifier → ℕ → Made) → Made
with_part n v make use_of =
    let x = name_or n v in
    within (x ∷ []) (and_then (part_made v (make x) (next_after n v)) (use_of x))

-- and with two
abbrev pub with_parts : ℕ → Option Identifier → Option Identifier → (Identifier → ℕ → Made) → (Identifier → ℕ → Made) → (Identifier → Identifier → Stmt) → Made
with_parts n v w make_first make_second use_of =
    let x = name_or n v in
    let m = next_after n v in
    let y = name_or m w in
    within (x ∷ y ∷ [])
    (and_then (and_then (part_made v (make_first x) (next_after m w)) (part_made w (make_second y))) (λ i. made (just (use_of x y)) i))

-- Records and chains

-- the features of fields, as in a record
abbrev pub keys_of : Phrases → List Constant
keys_of fs = map (λ (f : Constant × ℕ). f.0) (features 1 fs)

-- a record without fields is its label
abbrev pub record_or_label : Identifier → Literal → List (Constant × Identifier) → Stmt
record_or_label x l [] = k.bind x (constant.Literal l)
record_or_label x l (f ∷ fs) = k.bind_record x l (map (λ (g : Constant × Identifier). g.0) (f ∷ fs)) (map (λ (g : Constant × Identifier). g.1) (f ∷ fs))

-- a record with its fields in the order of arities
abbrev pub record_bound : List (List ℕ) → Identifier → Literal → Phrases → List Identifier → Stmt
record_bound words x l fs names = record_or_label x l (in_arity_order words (zip (keys_of fs) names))

abbrev pub atom : ℕ → Literal
atom word = literals.Atom word

abbrev pub nil_constant : Constant
nil_constant = constant.Literal (atom nil_word)

-- a cell of a list
abbrev pub cell_bound : Identifier → Identifier → Identifier → Stmt
cell_bound x y z = k.bind_record x (atom bar_word) (constant.Int (pos 1) ∷ constant.Int (pos 2) ∷ []) (y ∷ z ∷ [])

-- a cell, by how its head and its tail are made
abbrev pub cell_made : ℕ → Identifier → Option Identifier → Option Identifier → (Identifier → ℕ → Made) → (Identifier → ℕ → Made) → Made
cell_made n x v w make_head make_tail =
    let y = name_or n v in
    let m = next_after n v in
    let z = name_or m w in
    within (y ∷ z ∷ []) (preceded (cell_bound x y z) (and_then (part_made v (make_head y) (next_after m w)) (part_made w (make_tail z))))

-- what a chain ends in, where that is a variable and nothing else is left
abbrev pub last_variable : Phrases → Option Identifier
last_variable (more e nothing) = variable_of e
last_variable es = None

-- the list of the codes of a string
abbrev pub codes_made : Identifier → List ℕ → ℕ → Made
codes_made x [] n = made (just (k.bind x nil_constant)) n
codes_made x (c ∷ cs) n = cell_made n x None None (λ y i. made (just (k.bind y (constant.Int (pos c)))) i) (λ z i. codes_made z cs i)

-- Patterns

-- fields one beside the other
abbrev pub side_by_side : List Pattern → Patterns
side_by_side [] = no_pattern
side_by_side (p ∷ ps) = beside p (side_by_side ps)

-- a record without fields is its label
abbrev pub labelled_or_literal : Literal → List (Constant × Pattern) → Pattern
labelled_or_literal l [] = k.constant (constant.Literal l)
labelled_or_literal l (f ∷ fs) =
    k.labelled l (map (λ (g : Constant × Pattern). g.0) (f ∷ fs)) (side_by_side (map (λ (g : Constant × Pattern). g.1) (f ∷ fs)))

abbrev pub cell_pattern : Pattern → Pattern → Pattern
cell_pattern p q = k.labelled (atom bar_word) (constant.Int (pos 1) ∷ constant.Int (pos 2) ∷ []) (beside p (beside q no_pattern))

-- a list that ends in a tail, and one that ends in `nil`
abbrev pub list_pattern : List Pattern → Pattern
list_pattern [] = k.constant nil_constant
list_pattern (p ∷ ps) = cell_pattern p (list_pattern ps)

abbrev pub chain_pattern : List Pattern → Pattern
chain_pattern [] = k.any
chain_pattern (p ∷ []) = p
chain_pattern (p ∷ ps) = cell_pattern p (chain_pattern ps)

abbrev mutual
  -- a pattern, with the fields of a record in the order of arities
  pub patterned : List (List ℕ) → Phrase → Pattern
  patterned words (var name at) = k.variable (Word name)
  patterned words (any at) = k.any
  patterned words (int i at) = k.constant (constant.Int i)
  patterned words (string s at) = list_pattern (map (λ c. k.constant (constant.Int (pos c))) (word_text words s))
  patterned words (literal l at) = k.constant (constant.Literal l)
  patterned words (rec l at fs) = labelled_or_literal l (in_arity_order words (zip (keys_of fs) (patterned_each words fs)))
  patterned words (keyed c at p) = patterned words p
  patterned words (list at ps) = list_pattern (patterned_each words ps)
  patterned words (paren at (more p nothing)) = patterned words p
  patterned words (bars ps) = chain_pattern (patterned_each words ps)
  patterned words (hashes ps) = labelled_or_literal (atom hash_word) (zip (keys_of ps) (patterned_each words ps))
  patterned words p = k.any

  pub patterned_each : List (List ℕ) → Phrases → List Pattern
  patterned_each words nothing = []
  patterned_each words (more p ps) = patterned words p ∷ patterned_each words ps

-- Operators

-- what `orelse` and `andthen` make is no operation
abbrev pub operation_of : Operator → Operation
operation_of operator.Same = operation.Same
operation_of operator.Differs = operation.Differs
operation_of operator.Less = operation.Less
operation_of operator.AtMost = operation.AtMost
operation_of operator.Greater = operation.Greater
operation_of operator.AtLeast = operation.AtLeast
operation_of operator.Plus = operation.Plus
operation_of operator.Minus = operation.Minus
operation_of operator.Times = operation.Times
operation_of operator.Div = operation.Div
operation_of operator.Mod = operation.Mod
operation_of op = operation.Same

abbrev pub truth : Bool → Constant
truth true = constant.Literal literals.True
truth false = constant.Literal literals.False

-- `andthen` and `orelse` test their left side
abbrev pub and_made : Identifier → Identifier → Made → Made
and_made x y a = made (just (k.test y a.code (just (k.bind x (truth false))))) a.next

abbrev pub or_made : Identifier → Identifier → Made → Made
or_made x y a = made (just (k.test y (just (k.bind x (truth true))) a.code)) a.next

-- Statements

-- X=e and e=X make X the value of e, and the first does where both sides are variables
abbrev pub equated : ℕ → Option Identifier → Option Identifier → (Identifier → ℕ → Made) → (Identifier → ℕ → Made) → Made
equated n (Some x) w make_left make_right = make_right x n
equated n None (Some y) make_left make_right = make_left y n
equated n None None make_left make_right =
    within (Fresh n ∷ []) (and_then (make_left (Fresh n) (suc n)) (λ i. make_right (Fresh n) i))

-- what is called, and its arguments
abbrev pub called : List Identifier → Stmts
called [] = none
called (x ∷ xs) = just (k.call x xs)

abbrev pub or_skip : Phrases → Made → Made
or_skip nothing a = made (just k.skip) a.next
or_skip (more p ps) a = a

-- the variables that phrases declare, each once, in the order of first declaration
abbrev pub once : List ℕ → Option ℕ → (List ℕ → List Identifier) → List Identifier
once seen None rest = rest seen
once seen (Some name) rest = if contains seen name then rest seen else Word name ∷ rest (name ∷ seen)

abbrev pub declared : List ℕ → Phrases → List Identifier
declared seen nothing = []
declared seen (more p ps) = once seen (declared_by p) (λ names. declared names ps)

-- statements in the scope of what is declared
abbrev pub declaring : Phrases → Made → Made
declaring nothing a = a
declaring (more d ds) a = made (just (k.local (declared [] (more d ds)) a.code)) a.next

-- one clause that catches all in a variable
abbrev pub caught_in : Phrases → Option Identifier
caught_in (more (clause p b) nothing) = variable_of p
caught_in cs = None

-- a `try`, by how its body, the body of its one clause, and its clauses as a `case` are made
abbrev pub attempted : ℕ → Option Identifier → (ℕ → Made) → (ℕ → Made) → (Identifier → ℕ → Made) → Made
attempted n (Some y) body_made handler_made chain_made =
    let a = body_made n in
    let b = handler_made a.next in
    made (just (k.attempt a.code y b.code)) b.next
attempted n None body_made handler_made chain_made =
    let a = body_made (suc n) in
    let b = chain_made (Fresh n) a.next in
    made (just (k.attempt a.code (Fresh n) b.code)) b.next

-- Procedures

-- `_` among parameters has an identifier
abbrev pub parameter_of : Phrase → Option Identifier
parameter_of (var name at) = Some (Word name)
parameter_of p = None

abbrev pub parameter_names : ℕ → Phrases → List Identifier
parameter_names n nothing = []
parameter_names n (more p ps) = name_or n (parameter_of p) ∷ parameter_names (next_after n (parameter_of p)) ps

abbrev pub behind_parameters : ℕ → Phrases → ℕ
behind_parameters n nothing = n
behind_parameters n (more p ps) = behind_parameters (next_after n (parameter_of p)) ps

-- a head's parameters stand behind its name
abbrev pub parameters_of : Phrase → Phrases
parameters_of (head at (more p ps)) = ps
parameters_of p = nothing

abbrev pub word_or_none : Option ℕ → Identifier
word_or_none (Some name) = Word name
word_or_none None = Fresh zero

-- the identifier of a procedure: what gets its value, or its name
abbrev pub procedure_name : Goal → Phrase → Identifier
procedure_name (value x) h = x
procedure_name statement h = word_or_none (name_in h)

-- a function's procedure has one more parameter, for its value
abbrev pub procedure_bound : Identifier → List Identifier → List Identifier → Stmts → Stmts
procedure_bound x xs ys ss = just (k.bind_procedure x (xs ++ ys) ss)

-- a lazy function: the value r is needed before the procedure f, which makes it in s, is called
abbrev pub lazily : Identifier → Identifier → Identifier → Stmts → Stmts
lazily r f s ss = just (k.local (f ∷ []) (followed (k.bind_procedure f (s ∷ []) ss) (just (k.call (Word by_need_word) (f ∷ r ∷ [])))))

-- by its name, its parameters, and how the body makes the value of an identifier
abbrev pub function_made : Identifier → List Identifier → Option ℕ → (Identifier → ℕ → Made) → ℕ → Made
function_made x xs None make n = let a = make (Fresh n) (suc n) in made (procedure_bound x xs (Fresh n ∷ []) a.code) a.next
function_made x xs (Some at) make n =
    let a = make (Fresh (suc (suc n))) (suc (suc (suc n))) in
    made (procedure_bound x xs (Fresh n ∷ []) (lazily (Fresh n) (Fresh (suc n)) (Fresh (suc (suc n))) a.code)) a.next

-- Relations of finite domains. Each reference that is no variable and each product has an identifier, left to right, a product's
-- behind those of its factors.

abbrev pub behind_factor : ℕ → Phrase → ℕ
behind_factor n (select e f) = suc n
behind_factor n p = n

abbrev pub behind_side : ℕ → Phrase → ℕ
behind_side n (binary operator.Plus a b) = behind_side (behind_side n a) b
behind_side n (binary operator.Minus a b) = behind_side (behind_side n a) b
behind_side n (binary operator.Times (int i at) b) = behind_factor n b
behind_side n (binary operator.Times a (int i at)) = behind_factor n a
behind_side n (binary operator.Times a b) = suc (behind_factor (behind_factor n a) b)
behind_side n p = behind_factor n p

abbrev pub signed : Bool → ℤ → ℤ
signed is_negative i = if is_negative then neg_ℤ i else i

abbrev pub linear : Bool → ℤ → Identifier → LinearTerm
linear is_negative i x = record { coefficient = signed is_negative i; variable = x }

-- the terms of a side, or of what is taken from it, with identifiers from n on; integers are none
abbrev pub terms_of : Bool → ℕ → Phrase → List LinearTerm
terms_of s n (binary operator.Plus a b) = terms_of s n a ++ terms_of s (behind_side n a) b
terms_of s n (binary operator.Minus a b) = terms_of s n a ++ terms_of (not s) (behind_side n a) b
terms_of s n (binary operator.Times (int i at) b) = linear s i (name_or n (variable_of b)) ∷ []
terms_of s n (binary operator.Times a (int i at)) = linear s i (name_or n (variable_of a)) ∷ []
terms_of s n (binary operator.Times a b) = linear s (pos 1) (Fresh (behind_factor (behind_factor n a) b)) ∷ []
terms_of s n (int i at) = []
terms_of s n p = linear s (pos 1) (name_or n (variable_of p)) ∷ []

abbrev pub constant_of : Bool → Phrase → ℤ
constant_of s (binary operator.Plus a b) = constant_of s a +ℤ constant_of s b
constant_of s (binary operator.Minus a b) = constant_of s a +ℤ constant_of (not s) b
constant_of s (int i at) = signed s i
constant_of s p = pos 0

-- a statement for each product
abbrev pub products_of : ℕ → Phrase → Stmts
products_of n (binary operator.Plus a b) = products_of n a ⨾ products_of (behind_side n a) b
products_of n (binary operator.Minus a b) = products_of n a ⨾ products_of (behind_side n a) b
products_of n (binary operator.Times (int i at) b) = none
products_of n (binary operator.Times a (int i at)) = none
products_of n (binary operator.Times a b) =
    just (k.post_times (name_or n (variable_of a)) (name_or (behind_factor n a) (variable_of b)) (Fresh (behind_factor (behind_factor n a) b)))
products_of n p = none

-- what is below, not above, or equal to 0
abbrev pub sum_posted : Comparison → ℤ → List LinearTerm → ℤ → List LinearTerm → Stmt
sum_posted comparison.Equal c ts d us = k.post sign.Zero c ts
sum_posted comparison.Unequal c ts d us = k.post sign.NotZero c ts
sum_posted comparison.Below c ts d us = k.post sign.Negative c ts
sum_posted comparison.NotAbove c ts d us = k.post sign.NotPositive c ts
sum_posted comparison.Above c ts d us = k.post sign.Negative d us
sum_posted comparison.NotBelow c ts d us = k.post sign.NotPositive d us

-- left minus right, or right minus left where the left side is to be above
abbrev pub posted : Comparison → ℕ → Phrase → Phrase → Stmt
posted r n a b =
    let m = behind_side n a in
    sum_posted r (constant_of false a +ℤ constant_of true b) (terms_of false n a ++ terms_of true m b)
    (constant_of false b +ℤ constant_of true a) (terms_of false m b ++ terms_of true n a)

-- the identifiers from n on, so many
abbrev pub fresh_names : ℕ → ℕ → List Identifier
fresh_names n zero = []
fresh_names n (suc m) = Fresh n ∷ fresh_names (suc n) m

abbrev pub between : ℕ → ℕ → List Identifier
between n m = fresh_names n (m - n)

-- The table

-- e.f, with its value
abbrev pub selected : ℕ → Identifier → Option Identifier → Option Identifier → (Identifier → ℕ → Made) → (Identifier → ℕ → Made) → Made
selected n x v w make_first make_second = with_parts n v w make_first make_second (λ y z. k.operate operation.Select (y ∷ z ∷ x ∷ []))

-- the alternatives of a choice, and the next number
pub record Alternatives : Type 0 where
  pub bodies : Bodies
  pub next : ℕ

abbrev mutual
  -- a phrase, as a statement or for its value, with fresh identifiers from n on. A variable alone, as it is declared, makes nothing
  pub translated : List (List ℕ) → Goal → ℕ → Phrase → Made
  translated words (value x) n (var name at) = made (just (k.equate x (Word name))) n
  translated words (value x) n (any at) = made (just (k.local (Fresh n ∷ []) (just (k.equate x (Fresh n))))) (suc n)
  translated words (value x) n (int i at) = made (just (k.bind x (constant.Int i))) n
  translated words (value x) n (string s at) = codes_made x (word_text words s) n
  translated words (value x) n (literal l at) = made (just (k.bind x (constant.Literal l))) n
  translated words (value x) n (rec l at fs) =
      within (names_of n fs) (preceded (record_bound words x l fs (names_of n fs)) (filled words n fs (behind_names n fs)))
  translated words (value x) n (keyed c at e) = translated words (value x) n e
  translated words (value x) n (list at es) = list_made words x es n
  translated words (value x) n (paren at (more e nothing)) = translated words (value x) n e
  translated words (value x) n (binary operator.AndThen a b) =
      with_part n (variable_of a) (λ y i. translated words (value y) i a) (λ y i. and_made x y (translated words (value x) i b))
  translated words (value x) n (binary operator.OrElse a b) =
      with_part n (variable_of a) (λ y i. translated words (value y) i a) (λ y i. or_made x y (translated words (value x) i b))
  translated words (value x) n (binary op a b) =
      with_parts n (variable_of a) (variable_of b) (λ y i. translated words (value y) i a) (λ y i. translated words (value y) i b)
      (λ y z. k.operate (operation_of op) (y ∷ z ∷ x ∷ []))
  translated words (value x) n (bars es) = chain_made words x es n
  translated words (value x) n (hashes es) =
      within (names_of n es) (preceded (record_bound words x (atom hash_word) es (names_of n es)) (filled words n es (behind_names n es)))
  translated words (value x) n (select e f) =
      selected n x (variable_of e) (variable_of f) (λ y i. translated words (value y) i e) (λ y i. translated words (value y) i f)
  translated words (value x) n (access at e) =
      with_part n (variable_of e) (λ y i. translated words (value y) i e) (λ y i. made (just (k.call (Word access_word) (y ∷ x ∷ []))) i)
  translated words goal n g.skip = made (just k.skip) n
  translated words goal n (g.fail at) = made (just k.fail) n
  translated words goal n (g.raise at e) =
      with_part n (variable_of e) (λ y i. translated words (value y) i e) (λ y i. made (just (k.raise y)) i)
  translated words goal n (connected Equates a b) =
      equated n (variable_of a) (variable_of b) (λ y i. translated words (value y) i a) (λ y i. translated words (value y) i b)
  translated words goal n (connected Assigns a b) =
      with_parts n (variable_of a) (variable_of b) (λ y i. translated words (value y) i a) (λ y i. translated words (value y) i b)
      (λ y z. k.call (Word assign_word) (y ∷ z ∷ []))
  translated words goal n (connected Bounds a b) =
      with_parts n (variable_of a) (variable_of b) (λ y i. translated words (value y) i a) (λ y i. translated words (value y) i b)
      (λ y z. k.operate operation.Bound (y ∷ z ∷ []))
  translated words goal n (connected BoundsEach a b) =
      with_parts n (variable_of a) (variable_of b) (λ y i. translated words (value y) i a) (λ y i. translated words (value y) i b)
      (λ y z. k.operate operation.BoundEach (y ∷ z ∷ []))
  translated words goal n (relate r a b) =
      let m = behind_side n a in
      let l = behind_side m b in
      within (between n l)
      (and_then (and_then (references words n a l) (λ i. references words m b i))
      (λ i. made ((products_of n a ⨾ products_of m b) ⨾ just (posted r n a b)) i))
  translated words goal n (g.call at es) =
      within (names_of n es) (and_then (filled words n es (behind_names n es)) (λ i. made (called (names_of n es ++ result_in goal)) i))
  translated words goal n (proc at h b) =
      let ps = parameters_of h in
      let a = translated words statement (behind_parameters n ps) b in
      made (procedure_bound (procedure_name goal h) (parameter_names n ps) [] a.code) a.next
  translated words goal n (fun at lazy h b) =
      let ps = parameters_of h in
      function_made (procedure_name goal h) (parameter_names n ps) lazy (λ r i. translated words (value r) i b) (behind_parameters n ps)
  translated words goal n (g.local at ds b) = declaring ds (and_then (translated_each words n ds) (λ i. translated words goal i b))
  translated words goal n (g.thread at b) = let a = translated words goal n b in made (just (k.thread a.code)) a.next
  translated words goal n (choice at bs) = let a = alternatives words goal n bs in made (just (k.choice a.bodies)) a.next
  translated words goal n (when at xs) = arms_made words goal xs (λ i. made (just k.skip) i) n
  translated words goal n (choose at xs b) = arms_made words goal xs (λ i. translated words goal i b) n
  translated words goal n (cases at e cs) =
      with_part n (variable_of e) (λ y i. translated words (value y) i e) (λ y i. clauses_made words goal y cs (λ j. made (just k.no_match) j) i)
  translated words goal n (cases_or at e cs b) =
      with_part n (variable_of e) (λ y i. translated words (value y) i e) (λ y i. clauses_made words goal y cs (λ j. translated words goal j b) i)
  translated words goal n (g.attempt b cs) =
      attempted n (caught_in cs) (λ i. translated words statement i b) (λ i. handled words cs i)
      (λ y i. clauses_made words statement y cs (λ j. made (just (k.raise y)) j) i)
  translated words statement n (paren at ss) = translated_each words n ss
  translated words statement n (body ds ss) =
      declaring ds (and_then (translated_each words n ds) (λ i. or_skip ss (translated_each words i ss)))
  translated words (value x) n (body ds ss) = declaring ds (and_then (translated_each words n ds) (λ i. valued_last words x ss i))
  translated words goal n p = made none n

  -- statements one after another
  pub translated_each : List (List ℕ) → ℕ → Phrases → Made
  translated_each words n nothing = made none n
  translated_each words n (more p ps) = and_then (translated words statement n p) (λ i. translated_each words i ps)

  -- statements, and the value of the last phrase
  pub valued_last : List (List ℕ) → Identifier → Phrases → ℕ → Made
  valued_last words x nothing n = made none n
  valued_last words x (more e nothing) n = translated words (value x) n e
  valued_last words x (more p ps) n = and_then (translated words statement n p) (λ i. valued_last words x ps i)

  -- the values of parts, whose identifiers are numbered from m on
  pub filled : List (List ℕ) → ℕ → Phrases → ℕ → Made
  filled words m nothing n = made none n
  filled words m (more e es) n =
      and_then (part_made (variable_of e) (λ i. translated words (value (name_or m (variable_of e))) i e) n)
      (λ i. filled words (next_after m (variable_of e)) es i)

  -- a list, cell by cell, and a chain that ends in its last phrase
  pub list_made : List (List ℕ) → Identifier → Phrases → ℕ → Made
  list_made words x nothing n = made (just (k.bind x nil_constant)) n
  list_made words x (more e es) n =
      cell_made n x (variable_of e) None (λ y i. translated words (value y) i e) (λ z i. list_made words z es i)

  pub chain_made : List (List ℕ) → Identifier → Phrases → ℕ → Made
  chain_made words x nothing n = made none n
  chain_made words x (more e nothing) n = translated words (value x) n e
  chain_made words x (more e es) n =
      cell_made n x (variable_of e) (last_variable es) (λ y i. translated words (value y) i e) (λ z i. chain_made words z es i)

  -- the references of a side that are no variables, whose identifiers are numbered from m on
  pub references : List (List ℕ) → ℕ → Phrase → ℕ → Made
  references words m (binary operator.Plus a b) n = and_then (references words m a n) (λ i. references words (behind_side m a) b i)
  references words m (binary operator.Minus a b) n = and_then (references words m a n) (λ i. references words (behind_side m a) b i)
  references words m (binary operator.Times a b) n = and_then (references words m a n) (λ i. references words (behind_factor m a) b i)
  references words m (select e f) n =
      selected n (Fresh m) (variable_of e) (variable_of f) (λ y i. translated words (value y) i e) (λ y i. translated words (value y) i f)
  references words m p n = made none n

  pub alternatives : List (List ℕ) → Goal → ℕ → Phrases → Alternatives
  alternatives words goal n nothing = record { bodies = no_body; next = n }
  alternatives words goal n (more b bs) =
      let a = translated words goal n b in
      let rest = alternatives words goal a.next bs in
      record { bodies = k.body a.code rest.bodies; next = rest.next }

  -- the arms of an `if`, each further one where those before it do not hold, and then the last statements
  pub arms_made : List (List ℕ) → Goal → Phrases → (ℕ → Made) → ℕ → Made
  arms_made words goal nothing last n = last n
  arms_made words goal (more (arm e b) xs) last n =
      with_part n (variable_of e) (λ y i. translated words (value y) i e)
      (λ y i.
      let a = translated words goal i b in
      let rest = arms_made words goal xs last a.next in
      made (just (k.test y a.code rest.code)) rest.next)
  arms_made words goal (more p xs) last n = arms_made words goal xs last n

  -- clauses on x, each further one where those before it do not match, and then the last statements
  pub clauses_made : List (List ℕ) → Goal → Identifier → Phrases → (ℕ → Made) → ℕ → Made
  clauses_made words goal x nothing last n = last n
  clauses_made words goal x (more (clause p b) cs) last n =
      let a = translated words goal n b in
      let rest = clauses_made words goal x cs last a.next in
      made (just (k.matching x (patterned words p) a.code rest.code)) rest.next
  clauses_made words goal x (more p cs) last n = clauses_made words goal x cs last n

  -- the body of the one clause of a `try`
  pub handled : List (List ℕ) → Phrases → ℕ → Made
  handled words (more (clause p b) cs) n = translated words statement n b
  handled words cs n = made none n

-- the statements of a program
abbrev pub statements_of : Program → Stmts
statements_of p = (translated p.words statement 1 p.phrase).code

-- the kernel of a program
unfoldable pub kernel_of : Program → Kernel
kernel_of p = numbered p.words (statements_of p)
