-- The grammar of the whole language (CTM, appendix C): phrases, the tokens that each is spelled by, and which phrases are
-- expressions, patterns, relations, statements, clauses, declarations and bodies.
use Rattle.std.specs.Prelude.{ℕ, suc, ◌+◌, ℤ, pos, negsuc, ◌≡◌, ◌&&◌, ◌||◌, not, nat_le, nat_eq, Bool, true, false, if◌then◌else◌, List, [], ◌∷◌, ◌++◌, Option, Some, None}
use Rattle.oz_language.specs.declared.token.Literal.{Literal}
use Rattle.oz_language.specs.declared.token.Literal.TheVariants.{Atom}
use Rattle.oz_language.specs.declared.kernel.Constant.{Constant}
use Rattle.oz_language.specs.declared.kernel.Constant.TheVariants as constant
use Rattle.oz_language.specs.declared.token.Operator.{Operator}
use Rattle.oz_language.specs.declared.token.Operator.TheVariants.{OrElse, AndThen, Plus, Minus, Times, Div, Mod}
use Rattle.oz_language.specs.declared.token.Comparison.{Comparison}
use Rattle.oz_language.specs.declared.token.Connective.{Connective}
use Rattle.oz_language.specs.declared.token.Connective.TheVariants.{Equates, Assigns, Bounds, BoundsEach}
use Rattle.oz_language.specs.declared.token.Token.{Token}
use Rattle.oz_language.specs.declared.token.Token.TheVariants.{Var, Any, Int, String, Literal as Lit, Label, OpenParen, CloseParen, OpenBracket, CloseBracket, OpenBrace, CloseBrace, Colon, Equals, Assign, Domain, Domains, Box, Bar, Hash, Dot, At, Dollar, Infix, Relates, Case, Catch, Choice, Else, ElseIf, End, Fail, Fun, If, In, Local, Of, Proc, Raise, Skip, Then, Thread, Try}
use Rattle.oz_language.specs.Wording.{lazy_word}

-- Operators

-- how tightly an expression binds: one that needs no parentheses anywhere has the greatest level
abbrev pub level_of_comparison : ℕ
level_of_comparison = 2

abbrev pub level_of_bars : ℕ
level_of_bars = 3

abbrev pub level_of_hashes : ℕ
level_of_hashes = 4

abbrev pub level_of_selection : ℕ
level_of_selection = 7

abbrev pub tightest : ℕ
tightest = 8

abbrev pub level_of : Operator → ℕ
level_of OrElse = 0
level_of AndThen = 1
level_of Plus = 5
level_of Minus = 5
level_of Times = 6
level_of Div = 6
level_of Mod = 6
level_of op = level_of_comparison

-- what may stand on the left: chains group to the left, and comparisons do not chain
abbrev pub left_level : Operator → ℕ
left_level op = if nat_eq (level_of op) level_of_comparison then level_of_bars else level_of op

-- Phrases

mutual
  pub data Phrase : Type 0 where
    -- a variable's name and the place where it stands
    var : ℕ → ℕ → Phrase
    -- `_`, an integer, a string and a literal, each with its place
    any : ℕ → Phrase
    int : ℤ → ℕ → Phrase
    string : ℕ → ℕ → Phrase
    literal : Literal → ℕ → Phrase
    -- l(F ..), with the place of its label
    rec : Literal → ℕ → Phrases → Phrase
    -- a field with a key: k:e, with the place of the key
    keyed : Constant → ℕ → Phrase → Phrase
    -- [e ..]
    list : ℕ → Phrases → Phrase
    -- (e), (S ..) and (P)
    paren : ℕ → Phrases → Phrase
    -- e op e
    binary : Operator → Phrase → Phrase → Phrase
    -- e|e|.. and e#e#..
    bars : Phrases → Phrase
    hashes : Phrases → Phrase
    -- e.f and @e
    select : Phrase → Phrase → Phrase
    access : ℕ → Phrase → Phrase
    skip : Phrase
    fail : ℕ → Phrase
    -- raise e end
    raise : ℕ → Phrase → Phrase
    -- e = e, e := e, e :: e and e ::: e
    connected : Connective → Phrase → Phrase → Phrase
    -- a relation between two sums
    relate : Comparison → Phrase → Phrase → Phrase
    -- {e ..}
    call : ℕ → Phrases → Phrase
    -- `$`, which stands in place of a procedure's name
    dollar : Phrase
    -- {X Y ..}, the head of a procedure: its name, or `$`, and its parameters
    head : ℕ → Phrases → Phrase
    -- proc H B end
    proc : ℕ → Phrase → Phrase → Phrase
    -- fun H B end, with the place of `lazy` where that stands in it
    fun : ℕ → Option ℕ → Phrase → Phrase → Phrase
    -- local D .. in B end
    local : ℕ → Phrases → Phrase → Phrase
    thread : ℕ → Phrase → Phrase
    -- choice B [] .. end
    choice : ℕ → Phrases → Phrase
    -- if A elseif .. end, and if A elseif .. else B end
    when : ℕ → Phrases → Phrase
    choose : ℕ → Phrases → Phrase → Phrase
    -- an arm of an `if`: e then B
    arm : Phrase → Phrase → Phrase
    -- case e of C [] .. end, and case e of C [] .. else B end
    cases : ℕ → Phrase → Phrases → Phrase
    cases_or : ℕ → Phrase → Phrases → Phrase → Phrase
    -- a clause of a `case` or a `catch`: P then B
    clause : Phrase → Phrase → Phrase
    -- try B catch C [] .. end
    attempt : Phrase → Phrases → Phrase
    -- D .. in S .., of which the last may be an expression
    body : Phrases → Phrases → Phrase

  pub data Phrases : Type 0 where
    nothing : Phrases
    more : Phrase → Phrases → Phrases

abbrev pub of_list : List Phrase → Phrases
of_list [] = nothing
of_list (p ∷ ps) = more p (of_list ps)

-- Tokens of phrases

abbrev pub key_token : Constant → ℕ → Token
key_token (constant.Int i) at = Int i at
key_token (constant.Literal l) at = Lit l at

abbrev pub connective_token : Connective → Token
connective_token Equates = Equals
connective_token Assigns = Assign
connective_token Bounds = Domain
connective_token BoundsEach = Domains

abbrev pub lazy_tokens : Option ℕ → List Token
lazy_tokens None = []
lazy_tokens (Some at) = Lit (Atom lazy_word) at ∷ []

abbrev mutual
  pub tokens_of : Phrase → List Token
  tokens_of (var name at) = Var name at ∷ []
  tokens_of (any at) = Any at ∷ []
  tokens_of (int i at) = Int i at ∷ []
  tokens_of (string s at) = String s at ∷ []
  tokens_of (literal l at) = Lit l at ∷ []
  tokens_of (rec l at fs) = Label l at ∷ (each fs ++ CloseParen ∷ [])
  tokens_of (keyed k at e) = key_token k at ∷ (Colon ∷ tokens_of e)
  tokens_of (list at es) = OpenBracket at ∷ (each es ++ CloseBracket ∷ [])
  tokens_of (paren at es) = OpenParen at ∷ (each es ++ CloseParen ∷ [])
  tokens_of (binary op a b) = tokens_of a ++ Infix op ∷ tokens_of b
  tokens_of (bars es) = separated Bar es
  tokens_of (hashes es) = separated Hash es
  tokens_of (select e f) = tokens_of e ++ Dot ∷ tokens_of f
  tokens_of (access at e) = At at ∷ tokens_of e
  tokens_of skip = Skip ∷ []
  tokens_of (fail at) = Fail at ∷ []
  tokens_of (raise at e) = Raise at ∷ (tokens_of e ++ End ∷ [])
  tokens_of (connected c a b) = tokens_of a ++ connective_token c ∷ tokens_of b
  tokens_of (relate r a b) = tokens_of a ++ Relates r ∷ tokens_of b
  tokens_of (call at es) = OpenBrace at ∷ (each es ++ CloseBrace ∷ [])
  tokens_of dollar = Dollar ∷ []
  tokens_of (head at hs) = OpenBrace at ∷ (each hs ++ CloseBrace ∷ [])
  tokens_of (proc at h b) = Proc at ∷ (tokens_of h ++ (tokens_of b ++ End ∷ []))
  tokens_of (fun at lazy h b) = Fun at ∷ (lazy_tokens lazy ++ (tokens_of h ++ (tokens_of b ++ End ∷ [])))
  tokens_of (local at ds b) = Local at ∷ (each ds ++ In ∷ (tokens_of b ++ End ∷ []))
  tokens_of (thread at b) = Thread at ∷ (tokens_of b ++ End ∷ [])
  tokens_of (choice at bs) = Choice at ∷ (separated Box bs ++ End ∷ [])
  tokens_of (when at xs) = If at ∷ (separated ElseIf xs ++ End ∷ [])
  tokens_of (choose at xs b) = If at ∷ (separated ElseIf xs ++ Else ∷ (tokens_of b ++ End ∷ []))
  tokens_of (arm e b) = tokens_of e ++ Then ∷ tokens_of b
  tokens_of (cases at e cs) = Case at ∷ (tokens_of e ++ Of ∷ (separated Box cs ++ End ∷ []))
  tokens_of (cases_or at e cs b) = Case at ∷ (tokens_of e ++ Of ∷ (separated Box cs ++ Else ∷ (tokens_of b ++ End ∷ [])))
  tokens_of (clause p b) = tokens_of p ++ Then ∷ tokens_of b
  tokens_of (attempt b cs) = Try ∷ (tokens_of b ++ Catch ∷ (separated Box cs ++ End ∷ []))
  tokens_of (body ds ss) = declared ds ++ each ss

  pub each : Phrases → List Token
  each nothing = []
  each (more p ps) = tokens_of p ++ each ps

  -- phrases with a token between them
  pub separated : Token → Phrases → List Token
  separated t nothing = []
  separated t (more p ps) = tokens_of p ++ led t ps

  -- phrases with a token before each
  pub led : Token → Phrases → List Token
  led t nothing = []
  led t (more p ps) = t ∷ (tokens_of p ++ led t ps)

  -- [Decls in]
  pub declared : Phrases → List Token
  declared nothing = []
  declared (more d ds) = (tokens_of d ++ each ds) ++ In ∷ []

-- Which phrases are what

abbrev pub is_more : Phrases → Bool
is_more nothing = false
is_more (more p ps) = true

abbrev pub at_least_two : Phrases → Bool
at_least_two nothing = false
at_least_two (more p ps) = is_more ps

abbrev pub is_single : Phrases → Bool
is_single nothing = false
is_single (more p ps) = not (is_more ps)

abbrev pub is_var : Phrase → Bool
is_var (var name at) = true
is_var p = false

-- Param := Var | _
abbrev pub is_parameter : Phrase → Bool
is_parameter (var name at) = true
is_parameter (any at) = true
is_parameter p = false

abbrev pub are_parameters : Phrases → Bool
are_parameters nothing = true
are_parameters (more p ps) = is_parameter p && are_parameters ps

-- "{" Var {Param} "}", the head of a procedure that has a name
abbrev pub is_named_head : Phrase → Bool
is_named_head (head at (more (var name place) hs)) = are_parameters hs
is_named_head p = false

-- "{" $ {Param} "}", the head of one that is a value
abbrev pub is_value_head : Phrase → Bool
is_value_head (head at (more dollar hs)) = are_parameters hs
is_value_head p = false

-- an integer of a relation has at most this size
abbrev pub integer_size : ℕ
integer_size = 2147483648

abbrev pub is_small : ℤ → Bool
is_small (pos n) = nat_le n integer_size
is_small (negsuc n) = nat_le (suc n) integer_size

abbrev pub is_small_int : Phrase → Bool
is_small_int (int i at) = is_small i
is_small_int p = false

-- Ref := Var {. Feat}
abbrev pub is_reference : Phrase → Bool
is_reference (var name at) = true
is_reference (select e f) = is_reference e
is_reference p = false

-- Int * Ref | Ref * Int | Ref * Ref
abbrev pub is_product : Phrase → Phrase → Bool
is_product a b = (is_small_int a && is_reference b) || (is_reference a && (is_small_int b || is_reference b))

-- FdTerm := Int | Ref | Int * Ref | Ref * Int | Ref * Ref
abbrev pub is_side_term : Phrase → Bool
is_side_term (binary Times a b) = is_product a b
is_side_term p = is_small_int p || is_reference p

-- FdSide := FdTerm {+ FdTerm, - FdTerm}
abbrev pub is_side : Phrase → Bool
is_side (binary Plus a b) = is_side a && is_side_term b
is_side (binary Minus a b) = is_side a && is_side_term b
is_side p = is_side_term p

-- how many terms a side has
abbrev pub terms_in : Phrase → ℕ
terms_in (binary Plus a b) = suc (terms_in a)
terms_in (binary Minus a b) = suc (terms_in a)
terms_in p = 1

-- both sides of a relation have together at most so many terms
abbrev pub terms_limit : ℕ
terms_limit = 64

abbrev mutual
  -- an expression that binds at least at this level, or a pattern
  --   Expr := And {orelse And}   And := Cmp {andthen Cmp}   Cmp := Cons [CmpOp Cons]
  --   Cons := Hash {| Hash}      Hash := Sum {# Sum}        Sum := Mul {+ Mul, - Mul}
  --   Mul := Sel {* Sel, div Sel, mod Sel}                  Sel := Prim {. Feat}
  --   Pat := PHash {| PHash}     PHash := PPrim {# PPrim}
  pub term : Bool → ℕ → Phrase → Bool
  term is_pattern m (var name at) = true
  term is_pattern m (any at) = true
  term is_pattern m (int i at) = true
  term is_pattern m (string s at) = true
  term is_pattern m (literal l at) = true
  term is_pattern m (rec l at fs) = fields is_pattern fs
  term is_pattern m (list at es) = is_more es && terms is_pattern 0 es
  term is_pattern m (paren at es) = is_single es && terms is_pattern 0 es
  term is_pattern m (bars es) = nat_le m level_of_bars && (at_least_two es && terms is_pattern level_of_hashes es)
  term is_pattern m (hashes es) = nat_le m level_of_hashes && (at_least_two es && terms is_pattern (suc level_of_hashes) es)
  term false m (binary op a b) = nat_le m (level_of op) && (term false (left_level op) a && term false (suc (level_of op)) b)
  term false m (select e f) = term false level_of_selection e && feature f
  term false m (access at e) = accessed e
  term false m (fail at) = true
  term false m (raise at e) = term false 0 e
  term false m (call at es) = is_more es && terms false 0 es
  term false m (proc at h b) = is_value_head h && is_body b
  term false m (fun at lazy h b) = is_value_head h && is_value_body b
  term false m (local at ds b) = is_more ds && (decls ds && is_value_body b)
  term false m (thread at b) = is_value_body b
  term false m (choice at bs) = is_more bs && value_bodies bs
  term false m (choose at xs b) = is_more xs && (value_arms xs && is_value_body b)
  term false m (cases at e cs) = term false 0 e && (is_more cs && value_clauses cs)
  term false m (cases_or at e cs b) = term false 0 e && (is_more cs && (value_clauses cs && is_value_body b))
  term is_pattern m p = false

  pub terms : Bool → ℕ → Phrases → Bool
  terms is_pattern m nothing = true
  terms is_pattern m (more e es) = term is_pattern m e && terms is_pattern m es

  -- {[Key :] Expr}, Key := Lit | Int
  pub fields : Bool → Phrases → Bool
  fields is_pattern nothing = true
  fields is_pattern (more (keyed k at e) fs) = term is_pattern 0 e && fields is_pattern fs
  fields is_pattern (more e fs) = term is_pattern 0 e && fields is_pattern fs

  -- Feat := Lit | Int | Var | ( Expr )
  pub feature : Phrase → Bool
  feature (literal l at) = true
  feature (int i at) = true
  feature (var name at) = true
  feature (paren at es) = is_single es && terms false 0 es
  feature p = false

  -- @ Var | @ ( Expr )
  pub accessed : Phrase → Bool
  accessed (var name at) = true
  accessed (paren at es) = is_single es && terms false 0 es
  accessed p = false

  -- Stmt
  pub stmt : Phrase → Bool
  stmt skip = true
  stmt (fail at) = true
  stmt (connected Equates a b) = term false 0 a && term false 0 b
  stmt (connected Assigns a b) = term false 0 a && term false 0 b
  -- Sel :: Hash
  stmt (connected Bounds a b) = term false level_of_selection a && term false level_of_hashes b
  stmt (connected BoundsEach a b) = term false level_of_selection a && term false level_of_hashes b
  stmt (relate r a b) = (term false 0 a && term false 0 b) && ((is_side a && is_side b) && nat_le (terms_in a + terms_in b) terms_limit)
  stmt (call at es) = is_more es && terms false 0 es
  stmt (proc at h b) = is_named_head h && is_body b
  stmt (fun at lazy h b) = is_named_head h && is_value_body b
  stmt (local at ds b) = is_more ds && (decls ds && is_body b)
  stmt (thread at b) = is_body b
  stmt (raise at e) = term false 0 e
  stmt (choice at bs) = is_more bs && bodies bs
  stmt (when at xs) = is_more xs && arms xs
  stmt (choose at xs b) = is_more xs && (arms xs && is_body b)
  stmt (cases at e cs) = term false 0 e && (is_more cs && clauses cs)
  stmt (cases_or at e cs b) = term false 0 e && (is_more cs && (clauses cs && is_body b))
  stmt (attempt b cs) = is_body b && (is_more cs && clauses cs)
  stmt (paren at ss) = is_more ss && stmts ss
  stmt p = false

  pub stmts : Phrases → Bool
  stmts nothing = true
  stmts (more s ss) = stmt s && stmts ss

  -- {Stmt} Expr
  pub stmts_value : Phrases → Bool
  stmts_value nothing = false
  stmts_value (more e nothing) = term false 0 e
  stmts_value (more s ss) = stmt s && stmts_value ss

  -- Decl := Var | Var = Expr | Proc | Fun
  pub decl : Phrase → Bool
  decl (var name at) = true
  decl (connected Equates (var name at) b) = term false 0 b
  decl (proc at h b) = is_named_head h && is_body b
  decl (fun at lazy h b) = is_named_head h && is_value_body b
  decl p = false

  pub decls : Phrases → Bool
  decls nothing = true
  decls (more d ds) = decl d && decls ds

  -- Program := Body, Body := [Decls in] {Stmt}
  pub is_body : Phrase → Bool
  is_body (body ds ss) = decls ds && stmts ss
  is_body p = false

  -- EBody := [Decls in] {Stmt} Expr
  pub is_value_body : Phrase → Bool
  is_value_body (body ds ss) = decls ds && stmts_value ss
  is_value_body p = false

  pub bodies : Phrases → Bool
  bodies nothing = true
  bodies (more b bs) = is_body b && bodies bs

  pub value_bodies : Phrases → Bool
  value_bodies nothing = true
  value_bodies (more b bs) = is_value_body b && value_bodies bs

  -- Expr then Body, and Expr then EBody
  pub arms : Phrases → Bool
  arms nothing = true
  arms (more (arm e b) xs) = (term false 0 e && is_body b) && arms xs
  arms (more p xs) = false

  pub value_arms : Phrases → Bool
  value_arms nothing = true
  value_arms (more (arm e b) xs) = (term false 0 e && is_value_body b) && value_arms xs
  value_arms (more p xs) = false

  -- Pat then Body, and Pat then EBody
  pub clauses : Phrases → Bool
  clauses nothing = true
  clauses (more (clause p b) cs) = (term true 0 p && is_body b) && clauses cs
  clauses (more p cs) = false

  pub value_clauses : Phrases → Bool
  value_clauses nothing = true
  value_clauses (more (clause p b) cs) = (term true 0 p && is_value_body b) && value_clauses cs
  value_clauses (more p cs) = false

abbrev pub expr : Phrase → Bool
expr = term false 0

abbrev pub pattern : Phrase → Bool
pattern = term true 0

-- the tokens are those of the program
pub record Derives (tokens : List Token) (p : Phrase) : Type 0 where
  pub program : is_body p ≡ true
  pub spelled : tokens_of p ≡ tokens

-- some program begins with the tokens
pub record Begins (tokens : List Token) : Type 0 where
  pub program : Phrase
  pub rest : List Token
  pub derived : Derives (tokens ++ rest) program
