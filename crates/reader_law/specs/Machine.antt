-- The reader's steps, one token after another, over the constructs that are open.
use Rattle.std.specs.Prelude.{ℕ, zero, suc, ◌+◌, List, [], ◌∷◌, ◌++◌, Option, Some, None, Bool, true, false, not, nat_le, nat_lt, nat_eq, ◌&&◌, ◌||◌, if◌then◌else◌}
use Rattle.oz_language.specs.declared.token.Literal.{Literal}
use Rattle.oz_language.specs.declared.token.Literal.TheVariants.{Atom}
use Rattle.oz_language.specs.declared.kernel.Constant.{Constant}
use Rattle.oz_language.specs.declared.kernel.Constant.TheVariants as constant
use Rattle.oz_language.specs.Grammar.{level_of, left_level, level_of_bars, level_of_hashes, level_of_selection, tightest, Phrase, of_list, var, any, int, string, literal, rec, keyed, list, paren, binary, bars, hashes, select, access, skip, fail, raise, connected, relate, call, dollar, head, proc, fun, local, thread, choice, when, choose, arm, cases, cases_or, clause, attempt, body, is_single, is_var, is_named_head, is_value_head, is_small, is_small_int, is_reference, is_side, terms_in, terms_limit}
use Rattle.oz_language.specs.Wording.{lazy_word}
use Rattle.oz_language.specs.declared.token.Operator.{Operator}
use Rattle.oz_language.specs.declared.token.Comparison.{Comparison}
use Rattle.oz_language.specs.declared.token.Token.{Token}
use Rattle.oz_language.specs.declared.token.Connective.{Connective}
use Rattle.oz_language.specs.declared.token.Token.TheVariants.{Var, Any, Int, String, Literal as Lit, Label, OpenParen, CloseParen, OpenBracket, CloseBracket, OpenBrace, CloseBrace, Colon, Equals, Assign, Domain, Domains, Box, Bar, Hash, Dot, At, Dollar, Infix, Relates, Case, Catch, Choice, Else, ElseIf, End, Fail, Fun, If, In, Local, Of, Proc, Raise, Skip, Then, Thread, Try}
use Rattle.oz_language.specs.declared.token.Operator.TheVariants.{Plus, Minus, Times}
use Rattle.oz_language.specs.declared.token.Connective.TheVariants.{Equates, Assigns, Bounds, BoundsEach}

-- what holds a sequence of phrases, with what was read before it. Where earlier bodies count, two flags tell whether all of them
-- are bodies of statements, and whether all are bodies with a value
pub data Opener : Type 0 where
  program : Opener
  -- the declarations of a `local`, and its body
  declaring : ℕ → Opener
  of_local : ℕ → List Phrase → Opener
  of_proc : ℕ → Phrase → Opener
  of_fun : ℕ → Option ℕ → Phrase → Opener
  of_thread : ℕ → Opener
  of_choice : ℕ → Bool → Bool → List Phrase → Opener
  -- behind `then`, with the arms before and the condition, and behind `else`
  of_then : ℕ → Bool → Bool → List Phrase → Phrase → Opener
  of_else : ℕ → Bool → Bool → List Phrase → Opener
  -- a clause of a `case`, with the subject, the clauses before and the pattern, and the `else` of a `case`
  of_clause : ℕ → Phrase → Bool → Bool → List Phrase → Phrase → Opener
  of_case_else : ℕ → Phrase → Bool → Bool → List Phrase → Opener
  of_try : Opener
  -- a clause of a `catch`, with what was tried, the clauses before and the pattern
  of_catch : Phrase → List Phrase → Phrase → Opener
  -- a parenthesis where a statement may begin
  of_paren : ℕ → Opener

-- what a head is read for: `proc`, and `fun` with the place of `lazy`
pub data Maker : Type 0 where
  making_proc : ℕ → Maker
  making_fun : ℕ → Option ℕ → Maker

-- what is open. A block knows whether its phrases may all be declarations, and whether all may be statements; then come the
-- declarations before its `in`, and its phrases
pub data Frame : Type 0 where
  block : Opener → Bool → Bool → List Phrase → List Phrase → Frame
  -- a phrase that has come to an end, if no operator follows: whether it is a statement, and whether an expression or a pattern
  whole : Phrase → Bool → Bool → Frame
  -- what stands before an operator, and before each `|` and each `#` of a chain
  left_of : Operator → Phrase → Frame
  barred : List Phrase → Frame
  hashed : List Phrase → Frame
  -- `e.` and `@`
  dotted : Phrase → Frame
  accessing : ℕ → Frame
  -- the left side of a statement with two sides
  connecting : Connective → Phrase → Frame
  relating : Comparison → Phrase → Frame
  -- a record, whether it stands in a pattern, with its label and its fields
  fields : Bool → Literal → ℕ → List Phrase → Frame
  -- a field of which the key was read
  key : Bool → Constant → ℕ → Frame
  -- a list, and a parenthesis of one expression or pattern
  listing : Bool → ℕ → List Phrase → Frame
  enclosing : Bool → ℕ → Frame
  parts : ℕ → List Phrase → Frame
  -- `proc` and `fun`, and their heads
  heading : Maker → Frame
  heads : Maker → ℕ → List Phrase → Frame
  raising : ℕ → Frame
  -- the condition of an arm, with the arms before it
  testing : ℕ → Bool → Bool → List Phrase → Frame
  -- the subject of a `case`
  matching : ℕ → Frame
  -- a pattern of a `case`, with the subject and the clauses before it, and of a `catch`
  patterns : ℕ → Phrase → Bool → Bool → List Phrase → Frame
  catching : Phrase → List Phrase → Frame
  accepted : Phrase → Frame

-- the innermost construct first
abbrev pub Stack : Type 0
Stack = List Frame

abbrev pub guard : {A : Type 0} → Bool → Option A → Option A
guard true o = o
guard false o = None

abbrev pub bind : {A B : Type 0} → Option A → (A → Option B) → Option B
bind None f = None
bind (Some x) f = f x

abbrev pub is_some_item : List Phrase → Bool
is_some_item [] = false
is_some_item (p ∷ ps) = true

abbrev pub body_of : List Phrase → List Phrase → Phrase
body_of ds ps = body (of_list ds) (of_list ps)

abbrev pub opened : Opener → Stack → Stack
opened o k = block o true true [] [] ∷ k

-- Where something stands

-- a statement may begin here
abbrev pub may_state : Stack → Bool
may_state (block o d s ds ps ∷ k) = s
may_state k = false

-- a procedure with a name may begin here, and one that is a value
abbrev pub in_block : Stack → Bool
in_block (block o d s ds ps ∷ k) = true
in_block k = false

abbrev pub may_value : Stack → Bool
may_value (block o d s ds ps ∷ k) = s
may_value k = true

-- what is read: an expression, a pattern, or the right side of a relation
pub data Kind : Type 0 where
  expression : Kind
  pattern : Kind
  side : Kind

abbrev pub kind_by : Bool → Kind
kind_by true = pattern
kind_by false = expression

abbrev pub kind_of : Stack → Kind
kind_of (left_of op a ∷ k) = kind_of k
kind_of (barred es ∷ k) = kind_of k
kind_of (hashed es ∷ k) = kind_of k
kind_of (fields w l at fs ∷ k) = kind_by w
kind_of (key w c place ∷ k) = kind_by w
kind_of (listing w at es ∷ k) = kind_by w
kind_of (enclosing w at ∷ k) = kind_by w
kind_of (patterns at c s e cs ∷ k) = pattern
kind_of (catching b cs ∷ k) = pattern
kind_of (relating r a ∷ k) = side
kind_of k = expression

-- Phrases end

-- a phrase that is whole. What `.` and `@` wait for ends with it
abbrev pub had : Phrase → Bool → Bool → Stack → Stack
had p s e (dotted a ∷ k) = whole (select a p) false true ∷ k
had p s e (accessing at ∷ k) = whole (access at p) false true ∷ k
had p s e k = whole p s e ∷ k

-- it is a statement where one may stand, or an expression
abbrev pub is_alive : Bool → Bool → Stack → Bool
is_alive s e k = (may_state k && s) || e

abbrev pub ends : Phrase → Bool → Bool → Stack → Option Stack
ends p s e k = guard (is_alive s e k) (Some (had p s e k))

-- a value
abbrev pub value : Phrase → Stack → Option Stack
value p k = Some (had p false true k)

-- Operands

-- an expression begins, where no statement does
abbrev pub expression_begins : Token → Stack → Option Stack
expression_begins (Var name at) k = value (var name at) k
expression_begins (Any at) k = value (any at) k
expression_begins (Int i at) k = value (int i at) k
expression_begins (String s at) k = value (string s at) k
expression_begins (Lit l at) k = value (literal l at) k
expression_begins (Label l at) k = Some (fields false l at [] ∷ k)
expression_begins (OpenParen at) k = Some (enclosing false at ∷ k)
expression_begins (OpenBracket at) k = Some (listing false at [] ∷ k)
expression_begins (OpenBrace at) k = Some (parts at [] ∷ k)
expression_begins (At at) k = Some (accessing at ∷ k)
expression_begins (Fail at) k = Some (had (fail at) true true k)
expression_begins (Raise at) k = Some (raising at ∷ k)
expression_begins (Proc at) k = Some (heading (making_proc at) ∷ k)
expression_begins (Fun at) k = Some (heading (making_fun at None) ∷ k)
expression_begins (Local at) k = Some (block (declaring at) true false [] [] ∷ k)
expression_begins (Thread at) k = Some (opened (of_thread at) k)
expression_begins (Choice at) k = Some (opened (of_choice at true true []) k)
expression_begins (If at) k = Some (testing at true true [] ∷ k)
expression_begins (Case at) k = Some (matching at ∷ k)
expression_begins t k = None

abbrev pub pattern_begins : Token → Stack → Option Stack
pattern_begins (Var name at) k = value (var name at) k
pattern_begins (Any at) k = value (any at) k
pattern_begins (Int i at) k = value (int i at) k
pattern_begins (String s at) k = value (string s at) k
pattern_begins (Lit l at) k = value (literal l at) k
pattern_begins (Label l at) k = Some (fields true l at [] ∷ k)
pattern_begins (OpenParen at) k = Some (enclosing true at ∷ k)
pattern_begins (OpenBracket at) k = Some (listing true at [] ∷ k)
pattern_begins t k = None

-- no integer stands behind another one and `*`
abbrev pub takes_int : Stack → Bool
takes_int (left_of Times a ∷ k) = not (is_small_int a)
takes_int k = true

abbrev pub side_begins : Token → Stack → Option Stack
side_begins (Var name at) k = value (var name at) k
side_begins (Int i at) k = guard (is_small i && takes_int k) (value (int i at) k)
side_begins t k = None

abbrev pub begins : Kind → Token → Stack → Option Stack
begins expression t k = expression_begins t k
begins pattern t k = pattern_begins t k
begins side t k = side_begins t k

abbrev pub operand : Option Token → Stack → Option Stack
operand (Some t) k = begins (kind_of k) t k
operand None k = None

-- what may stand behind `.` and behind `@`
abbrev pub feature_begins : Option Token → Stack → Option Stack
feature_begins (Some (Var name at)) k = value (var name at) k
feature_begins (Some (Int i at)) k = value (int i at) k
feature_begins (Some (Lit l at)) k = value (literal l at) k
feature_begins (Some (OpenParen at)) k = Some (enclosing false at ∷ k)
feature_begins t k = None

abbrev pub access_begins : Option Token → Stack → Option Stack
access_begins (Some (Var name at)) k = value (var name at) k
access_begins (Some (OpenParen at)) k = Some (enclosing false at ∷ k)
access_begins t k = None

-- Operators

-- how tightly a phrase binds
abbrev pub binds : Phrase → ℕ
binds (binary op a b) = level_of op
binds (bars es) = level_of_bars
binds (hashes es) = level_of_hashes
binds p = tightest

-- a phrase, whether it is a statement, and what is open round it
pub record Reduced : Type 0 where
  pub phrase : Phrase
  pub states : Bool
  pub rest : Stack

-- what binds at least at a level comes to its end with its last operand
abbrev pub reduce : ℕ → Phrase → Bool → Stack → Reduced
reduce m p s (left_of op a ∷ k) =
    if nat_le m (level_of op) then reduce m (binary op a p) false k else record { phrase = p; states = s; rest = left_of op a ∷ k }
reduce m p s (barred es ∷ k) =
    if nat_le m level_of_bars then reduce m (bars (of_list (es ++ p ∷ []))) false k else record { phrase = p; states = s; rest = barred es ∷ k }
reduce m p s (hashed es ∷ k) =
    if nat_le m level_of_hashes then reduce m (hashes (of_list (es ++ p ∷ []))) false k else record { phrase = p; states = s; rest = hashed es ∷ k }
reduce m p s k = record { phrase = p; states = s; rest = k }

-- how tightly the right side of a statement has to bind
abbrev pub right_level : Connective → ℕ
right_level Bounds = level_of_hashes
right_level BoundsEach = level_of_hashes
right_level c = zero

-- an operator of this level may stand in what is open here
abbrev pub allows : ℕ → Stack → Bool
allows m (block o d s ds ps ∷ k) = s
allows m (connecting c a ∷ k) = nat_le (right_level c) m
allows m k = true

abbrev pub shift_infix : Operator → Phrase → Bool → Stack → Option Stack
shift_infix op p s k =
    let r = reduce (level_of op) p s k in
    guard (nat_le (left_level op) (binds r.phrase) && allows (level_of op) r.rest) (Some (left_of op r.phrase ∷ r.rest))

-- a chain goes on, or begins
abbrev pub add_bar : Phrase → Stack → Option Stack
add_bar p (barred es ∷ k) = Some (barred (es ++ p ∷ []) ∷ k)
add_bar p k = guard (allows level_of_bars k) (Some (barred (p ∷ []) ∷ k))

abbrev pub shift_bar : Phrase → Bool → Stack → Option Stack
shift_bar p s k = let r = reduce level_of_hashes p s k in add_bar r.phrase r.rest

abbrev pub add_hash : Phrase → Stack → Option Stack
add_hash p (hashed es ∷ k) = Some (hashed (es ++ p ∷ []) ∷ k)
add_hash p k = guard (allows level_of_hashes k) (Some (hashed (p ∷ []) ∷ k))

abbrev pub shift_hash : Phrase → Bool → Stack → Option Stack
shift_hash p s k = let r = reduce (suc level_of_hashes) p s k in add_hash r.phrase r.rest

abbrev pub shift_expression : Token → Phrase → Bool → Stack → Option Stack
shift_expression (Infix op) p s k = shift_infix op p s k
shift_expression Bar p s k = shift_bar p s k
shift_expression Hash p s k = shift_hash p s k
shift_expression Dot p s k = guard (allows level_of_selection k) (Some (dotted p ∷ k))
shift_expression t p s k = None

abbrev pub shift_pattern : Token → Phrase → Bool → Stack → Option Stack
shift_pattern Bar p s k = shift_bar p s k
shift_pattern Hash p s k = shift_hash p s k
shift_pattern t p s k = None

-- a further term of the right side of a relation
abbrev pub add_term : Operator → Phrase → Stack → Option Stack
add_term op p (relating r a ∷ k) = guard (nat_lt (terms_in a + terms_in p) terms_limit) (Some (left_of op p ∷ relating r a ∷ k))
add_term op p k = None

abbrev pub shift_sign : Operator → Phrase → Bool → Stack → Option Stack
shift_sign op p s k = let r = reduce (level_of Plus) p s k in add_term op r.phrase r.rest

-- a product has two factors
abbrev pub takes_factor : Stack → Bool
takes_factor (left_of Times a ∷ k) = false
takes_factor k = true

abbrev pub shift_side : Token → Phrase → Bool → Stack → Option Stack
shift_side (Infix Plus) p s k = shift_sign Plus p s k
shift_side (Infix Minus) p s k = shift_sign Minus p s k
shift_side (Infix Times) p s k = guard (takes_factor k) (Some (left_of Times p ∷ k))
shift_side Dot p s k = guard (is_reference p) (Some (dotted p ∷ k))
shift_side t p s k = None

abbrev pub shift_in : Kind → Token → Phrase → Bool → Stack → Option Stack
shift_in expression t p s k = shift_expression t p s k
shift_in pattern t p s k = shift_pattern t p s k
shift_in side t p s k = shift_side t p s k

abbrev pub is_operator : Token → Bool
is_operator (Infix op) = true
is_operator Bar = true
is_operator Hash = true
is_operator Dot = true
is_operator t = false

-- Blocks

-- a block ends by a token; whether its phrases are statements, and whether they are statements and a value
abbrev pub close : Option Token → Opener → Bool → Bool → List Phrase → List Phrase → Stack → Option Stack
close (Some End) (of_local at ls) s e ds ps k = ends (local at (of_list ls) (body_of ds ps)) s e k
close (Some End) (of_proc at h) s e ds ps k = guard s (Some (had (proc at h (body_of ds ps)) (is_named_head h) (is_value_head h) k))
close (Some End) (of_fun at lazy h) s e ds ps k = guard e (Some (had (fun at lazy h (body_of ds ps)) (is_named_head h) (is_value_head h) k))
close (Some End) (of_thread at) s e ds ps k = ends (thread at (body_of ds ps)) s e k
close (Some End) (of_choice at sb eb bs) s e ds ps k = ends (choice at (of_list (bs ++ body_of ds ps ∷ []))) (sb && s) (eb && e) k
close (Some Box) (of_choice at sb eb bs) s e ds ps k =
    guard (is_alive (sb && s) (eb && e) k) (Some (opened (of_choice at (sb && s) (eb && e) (bs ++ body_of ds ps ∷ [])) k))
close (Some End) (of_then at sb eb bs c) s e ds ps k =
    guard (may_state k && (sb && s)) (Some (had (when at (of_list (bs ++ arm c (body_of ds ps) ∷ []))) true false k))
close (Some ElseIf) (of_then at sb eb bs c) s e ds ps k =
    guard (is_alive (sb && s) (eb && e) k) (Some (testing at (sb && s) (eb && e) (bs ++ arm c (body_of ds ps) ∷ []) ∷ k))
close (Some Else) (of_then at sb eb bs c) s e ds ps k =
    guard (is_alive (sb && s) (eb && e) k) (Some (opened (of_else at (sb && s) (eb && e) (bs ++ arm c (body_of ds ps) ∷ [])) k))
close (Some End) (of_else at sb eb bs) s e ds ps k = ends (choose at (of_list bs) (body_of ds ps)) (sb && s) (eb && e) k
close (Some End) (of_clause at c sb eb cs p) s e ds ps k = ends (cases at c (of_list (cs ++ clause p (body_of ds ps) ∷ []))) (sb && s) (eb && e) k
close (Some Box) (of_clause at c sb eb cs p) s e ds ps k =
    guard (is_alive (sb && s) (eb && e) k) (Some (patterns at c (sb && s) (eb && e) (cs ++ clause p (body_of ds ps) ∷ []) ∷ k))
close (Some Else) (of_clause at c sb eb cs p) s e ds ps k =
    guard (is_alive (sb && s) (eb && e) k) (Some (opened (of_case_else at c (sb && s) (eb && e) (cs ++ clause p (body_of ds ps) ∷ [])) k))
close (Some End) (of_case_else at c sb eb cs) s e ds ps k = ends (cases_or at c (of_list cs) (body_of ds ps)) (sb && s) (eb && e) k
close (Some Catch) of_try s e ds ps k = guard s (Some (catching (body_of ds ps) [] ∷ k))
close (Some Box) (of_catch b cs p) s e ds ps k = guard s (Some (catching b (cs ++ clause p (body_of ds ps) ∷ []) ∷ k))
close (Some End) (of_catch b cs p) s e ds ps k = guard s (Some (had (attempt b (of_list (cs ++ clause p (body_of ds ps) ∷ []))) true false k))
close (Some CloseParen) (of_paren at) s e ds ps k = ends (paren at (of_list ps)) (s && is_some_item ps) (e && is_single (of_list ps)) k
close None program s e ds ps k = guard s (Some (accepted (body_of ds ps) ∷ k))
close t o s e ds ps k = None

-- `in` behind declarations
abbrev pub enter_body : Opener → List Phrase → Stack → Option Stack
enter_body (declaring at) ps k = Some (opened (of_local at ps) k)
enter_body o ps k = Some (block o false true ps [] ∷ k)

abbrev pub enter : Opener → Bool → List Phrase → Stack → Option Stack
enter o d ps k = guard (d && is_some_item ps) (enter_body o ps k)

-- a phrase of a block begins with this token, whatever it is
abbrev pub is_begun : Token → Bool
is_begun (Any at) = true
is_begun (Int i at) = true
is_begun (String s at) = true
is_begun (Lit l at) = true
is_begun (Label l at) = true
is_begun (OpenBracket at) = true
is_begun (OpenBrace at) = true
is_begun (At at) = true
is_begun (Fail at) = true
is_begun (Raise at) = true
is_begun (Local at) = true
is_begun (Thread at) = true
is_begun (Choice at) = true
is_begun (If at) = true
is_begun (Case at) = true
is_begun t = false

-- the next phrase of a block begins, or the block ends
abbrev pub item : Option Token → Opener → Bool → Bool → Bool → List Phrase → List Phrase → Stack → Option Stack
item (Some In) o d s e ds ps k = enter o d ps k
item (Some (Var name at)) o d s e ds ps k = guard (d || s) (Some (whole (var name at) false true ∷ block o d s ds ps ∷ k))
item (Some (Proc at)) o d s e ds ps k = guard (d || s) (Some (heading (making_proc at) ∷ block o d s ds ps ∷ k))
item (Some (Fun at)) o d s e ds ps k = guard (d || s) (Some (heading (making_fun at None) ∷ block o d s ds ps ∷ k))
item (Some Skip) o d s e ds ps k = guard s (Some (whole skip true false ∷ block o d s ds ps ∷ k))
item (Some Try) o d s e ds ps k = guard s (Some (opened of_try (block o d s ds ps ∷ k)))
item (Some (OpenParen at)) o d s e ds ps k = guard s (Some (block (of_paren at) false true [] [] ∷ block o d s ds ps ∷ k))
item (Some t) o d s e ds ps k = if is_begun t then guard s (expression_begins t (block o d s ds ps ∷ k)) else close (Some t) o s e ds ps k
item None o d s e ds ps k = close None o s e ds ps k

-- a phrase that may be a declaration
abbrev pub declares : Phrase → Bool
declares (var name at) = true
declares (connected Equates a b) = is_var a
declares (proc at h b) = is_named_head h
declares (fun at lazy h b) = is_named_head h
declares p = false

-- a phrase of a block has ended, and a token follows it
abbrev pub item_over : Option Token → Phrase → Bool → Bool → Stack → Option Stack
item_over t p s e (block o d b ds ps ∷ k) = item t o (d && declares p) (b && s) (b && e) ds (ps ++ p ∷ []) k
item_over t p s e k = None

-- what comes behind the first expression of a block's phrase
abbrev pub behind_item : Option Token → Phrase → Bool → Bool → Opener → Bool → Bool → List Phrase → List Phrase → Stack → Option Stack
behind_item (Some Equals) p s e o d b ds ps k = guard (e && (b || (d && is_var p))) (Some (connecting Equates p ∷ block o d b ds ps ∷ k))
behind_item (Some Assign) p s e o d b ds ps k = guard (e && b) (Some (connecting Assigns p ∷ block o d b ds ps ∷ k))
behind_item (Some Domain) p s e o d b ds ps k = guard (e && (b && nat_le level_of_selection (binds p))) (Some (connecting Bounds p ∷ block o d b ds ps ∷ k))
behind_item (Some Domains) p s e o d b ds ps k = guard (e && (b && nat_le level_of_selection (binds p))) (Some (connecting BoundsEach p ∷ block o d b ds ps ∷ k))
behind_item (Some (Relates r)) p s e o d b ds ps k =
    guard (e && (b && (is_side p && nat_lt (terms_in p) terms_limit))) (Some (relating r p ∷ block o d b ds ps ∷ k))
behind_item t p s e o d b ds ps k = item_over t p s e (block o d b ds ps ∷ k)

-- What comes behind other phrases

abbrev pub next_field : Option Token → Bool → Literal → ℕ → List Phrase → Stack → Option Stack
next_field (Some CloseParen) w l at fs k = value (rec l at (of_list fs)) k
next_field t w l at fs k = operand t (fields w l at fs ∷ k)

-- an integer or a literal turns out to be a key
abbrev pub turn_key : Phrase → Bool → Stack → Option Stack
turn_key (int i at) w k = Some (key w (constant.Int i) at ∷ k)
turn_key (literal l at) w k = Some (key w (constant.Literal l) at ∷ k)
turn_key e w k = None

abbrev pub behind_field : Option Token → Phrase → Bool → Literal → ℕ → List Phrase → Stack → Option Stack
behind_field (Some Colon) e w l at fs k = turn_key e w (fields w l at fs ∷ k)
behind_field t e w l at fs k = next_field t w l at (fs ++ e ∷ []) k

-- a field with a key ends
abbrev pub behind_value : Option Token → Phrase → Constant → ℕ → Stack → Option Stack
behind_value t e c place (fields w l at fs ∷ k) = next_field t w l at (fs ++ keyed c place e ∷ []) k
behind_value t e c place k = None

abbrev pub next_element : Option Token → Bool → ℕ → List Phrase → Stack → Option Stack
next_element (Some CloseBracket) w at es k = guard (is_some_item es) (value (list at (of_list es)) k)
next_element t w at es k = operand t (listing w at es ∷ k)

abbrev pub next_part : Option Token → ℕ → List Phrase → Stack → Option Stack
next_part (Some CloseBrace) at es k = guard (is_some_item es) (Some (had (call at (of_list es)) true true k))
next_part t at es k = operand t (parts at es ∷ k)

abbrev pub close_paren : Option Token → Phrase → Bool → ℕ → Stack → Option Stack
close_paren (Some CloseParen) p s at k = Some (had (paren at (of_list (p ∷ []))) s true k)
close_paren t p s at k = None

abbrev pub raised : Option Token → Phrase → ℕ → Stack → Option Stack
raised (Some End) e at k = Some (had (raise at e) true true k)
raised t e at k = None

-- `then` behind a condition, `of` behind a subject, and `then` behind a pattern
abbrev pub tested : Option Token → Phrase → ℕ → Bool → Bool → List Phrase → Stack → Option Stack
tested (Some Then) c at s e bs k = Some (opened (of_then at s e bs c) k)
tested t c at s e bs k = None

abbrev pub subjected : Option Token → Phrase → ℕ → Stack → Option Stack
subjected (Some Of) c at k = Some (patterns at c true true [] ∷ k)
subjected t c at k = None

abbrev pub claused : Option Token → Phrase → ℕ → Phrase → Bool → Bool → List Phrase → Stack → Option Stack
claused (Some Then) p at c s e cs k = Some (opened (of_clause at c s e cs p) k)
claused t p at c s e cs k = None

abbrev pub caught : Option Token → Phrase → Phrase → List Phrase → Stack → Option Stack
caught (Some Then) p b cs k = Some (opened (of_catch b cs p) k)
caught t p b cs k = None

-- Heads

abbrev pub open_head : Option Token → Maker → Stack → Option Stack
open_head (Some (OpenBrace at)) m k = Some (heads m at [] ∷ k)
open_head (Some (Lit (Atom n) place)) (making_fun at None) k = guard (nat_eq n lazy_word) (Some (heading (making_fun at (Some place)) ∷ k))
open_head t m k = None

abbrev pub made : Maker → Phrase → Opener
made (making_proc at) h = of_proc at h
made (making_fun at lazy) h = of_fun at lazy h

abbrev pub first_head : Option Token → Maker → ℕ → Stack → Option Stack
first_head (Some (Var name place)) m at k = guard (in_block k) (Some (heads m at (var name place ∷ []) ∷ k))
first_head (Some Dollar) m at k = guard (may_value k) (Some (heads m at (dollar ∷ []) ∷ k))
first_head t m at k = None

abbrev pub next_head : Option Token → Maker → ℕ → List Phrase → Stack → Option Stack
next_head t m at [] k = first_head t m at k
next_head (Some (Var name place)) m at hs k = Some (heads m at (hs ++ var name place ∷ []) ∷ k)
next_head (Some (Any place)) m at hs k = Some (heads m at (hs ++ any place ∷ []) ∷ k)
next_head (Some CloseBrace) m at hs k = Some (opened (made m (head at (of_list hs))) k)
next_head t m at hs k = None

-- What comes behind a phrase that is whole

abbrev pub behind : Option Token → Phrase → Bool → Bool → Stack → Option Stack
behind t p s e (block o d b ds ps ∷ k) = behind_item t p s e o d b ds ps k
behind t p s e (connecting c a ∷ k) = item_over t (connected c a p) true false k
behind t p s e (relating r a ∷ k) = item_over t (relate r a p) true false k
behind t p s e (fields w l at fs ∷ k) = behind_field t p w l at fs k
behind t p s e (key w c place ∷ k) = behind_value t p c place k
behind t p s e (listing w at es ∷ k) = next_element t w at (es ++ p ∷ []) k
behind t p s e (enclosing w at ∷ k) = close_paren t p s at k
behind t p s e (parts at es ∷ k) = next_part t at (es ++ p ∷ []) k
behind t p s e (raising at ∷ k) = raised t p at k
behind t p s e (testing at sb eb bs ∷ k) = tested t p at sb eb bs k
behind t p s e (matching at ∷ k) = subjected t p at k
behind t p s e (patterns at c sb eb cs ∷ k) = claused t p at c sb eb cs k
behind t p s e (catching b cs ∷ k) = caught t p b cs k
behind t p s e k = None

-- no operator follows
abbrev pub settled : Option Token → Phrase → Bool → Bool → Stack → Option Stack
settled t p s e k = let r = reduce zero p s k in behind t r.phrase r.states e r.rest

abbrev pub after : Option Token → Phrase → Bool → Bool → Stack → Option Stack
after (Some t) p s e k = if is_operator t then guard e (shift_in (kind_of k) t p s k) else settled (Some t) p s e k
after None p s e k = settled None p s e k

-- one more token, or the end
abbrev pub next : Option Token → Stack → Option Stack
next t (block o d s ds ps ∷ k) = item t o d s false ds ps k
next t (whole p s e ∷ k) = after t p s e k
next t (fields w l at fs ∷ k) = next_field t w l at fs k
next t (listing w at es ∷ k) = next_element t w at es k
next t (parts at es ∷ k) = next_part t at es k
next t (dotted a ∷ k) = feature_begins t (dotted a ∷ k)
next t (accessing at ∷ k) = access_begins t (accessing at ∷ k)
next t (heading m ∷ k) = open_head t m k
next t (heads m at hs ∷ k) = next_head t m at hs k
next t (accepted p ∷ k) = None
next t k = operand t k

abbrev pub step : Token → Stack → Option Stack
step t k = next (Some t) k

abbrev pub run : Option Stack → List Token → Option Stack
run k [] = k
run k (t ∷ ts) = run (bind k (step t)) ts

abbrev pub start : Stack
start = opened program []

abbrev pub accepted_of : Stack → Option Phrase
accepted_of (accepted p ∷ []) = Some p
accepted_of k = None

abbrev pub finish : Stack → Option Phrase
finish k = bind (next None k) accepted_of

abbrev pub parse : List Token → Option Phrase
parse ts = bind (run (Some start) ts) finish
