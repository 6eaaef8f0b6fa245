-- Which texts are accepted, and where any other is refused: first for a byte at which no token begins, then at the first token
-- that lies too deep or with which the tokens begin no program, and then for the scope of its names and what is repeated.
use Rattle.std.specs.Prelude.{ℕ, pos, suc, ◌≡◌, ◌<◌, ◌+◌, ◌&&◌, ◌||◌, ◌==◌, nat_lt, nat_eq, Bool, true, false, if◌then◌else◌, List, [], ◌∷◌, ◌++◌, length, take, map, slice_get, Option, Some, None}
use Rattle.std.specs.List.{list_any}
use Rattle.oz_language.specs.Tokens.{Lexes, Whole, Bad}
use Rattle.oz_language.specs.Wording.{words_of, tokens_in}
use Rattle.oz_language.specs.Constants.{constant_eq}
use Rattle.oz_language.specs.Grammar.{Phrase, Phrases, nothing, more, var, any, int, string, literal, rec, keyed, list, paren, binary, bars, hashes, select, access, fail, raise, connected, relate, call, head, proc, fun, local, thread, choice, when, choose, arm, cases, cases_or, clause, attempt, body, Derives, Begins}
use Rattle.oz_language.specs.declared.token.Connective.TheVariants.{Equates}
use Rattle.oz_language.specs.declared.kernel.Constant.{Constant}
use Rattle.oz_language.specs.declared.kernel.Constant.TheVariants as constant
use Rattle.oz_language.specs.declared.token.Lexeme.{Lexeme}
use Rattle.oz_language.specs.declared.token.Token.{Token}
use Rattle.oz_language.specs.declared.token.Token.TheVariants as token
use Rattle.oz_language.specs.declared.fault.RefusalKind.{RefusalKind}
use Rattle.oz_language.specs.declared.fault.RefusalKind.TheVariants as kind
use Rattle.oz_language.specs.declared.fault.Fault.{Fault}

-- Depth: how many constructs are open. Each counts 1, with 1 more for each `elseif` and each `[]` of a `case` or `catch` in it,
-- and each operator counts 1 until the outermost expression that it stands in ends, which is not inside a further construct.

abbrev pub depth_limit : ℕ
depth_limit = 200

-- what is open: for how many it counts; whether a `[]` in it counts; the operators of the expression that goes on in it; and
-- whether that may end here, since an operand stands at its end
pub record Open : Type 0 where
  pub weight : ℕ
  pub counts_boxes : Bool
  pub operators : ℕ
  pub may_end : Bool

abbrev pub opened : ℕ → Bool → Open
opened weight counts_boxes = record { weight = weight; counts_boxes = counts_boxes; operators = 0; may_end = false }

-- the text itself counts for nothing
abbrev pub text_open : List Open
text_open = opened 0 false ∷ []

-- an expression ends where another operand follows its last
abbrev pub at_operand : Open → Open
at_operand o = if o.may_end then record o { operators = 0; may_end = true } else record o { may_end = true }

-- it ends at any token that neither goes on with it nor begins an operand
abbrev pub at_end : Open → Open
at_end o = record o { operators = 0; may_end = false }

abbrev pub innermost : (Open → Open) → List Open → List Open
innermost f [] = []
innermost f (o ∷ os) = f o ∷ os

-- a construct is an operand of what holds it
abbrev pub opening : Bool → List Open → List Open
opening counts_boxes os = opened 1 counts_boxes ∷ innermost at_operand os

abbrev pub closing : List Open → List Open
closing [] = []
closing (o ∷ []) = at_end o ∷ []
closing (o ∷ os) = os

abbrev pub operating : Open → Open
operating o = record o { operators = suc o.operators; may_end = false }

-- `@` begins an operand that is not whole yet
abbrev pub accessing : Open → Open
accessing o = if o.may_end then at_end o else o

abbrev pub weighing : Open → Open
weighing o = record (at_end o) { weight = suc o.weight }

abbrev pub boxing : Open → Open
boxing o = if o.counts_boxes then weighing o else at_end o

abbrev pub catching : Open → Open
catching o = record (at_end o) { counts_boxes = true }

-- the innermost first, with one token more
abbrev pub open_with : List Open → Token → List Open
open_with os (token.Label l at) = opening false os
open_with os (token.OpenParen at) = opening false os
open_with os (token.OpenBracket at) = opening false os
open_with os (token.OpenBrace at) = opening false os
open_with os (token.Local at) = opening false os
open_with os (token.If at) = opening false os
open_with os (token.Case at) = opening true os
open_with os (token.Thread at) = opening false os
open_with os token.Try = opening false os
open_with os (token.Proc at) = opening false os
open_with os (token.Fun at) = opening false os
open_with os (token.Choice at) = opening false os
open_with os (token.Raise at) = opening false os
open_with os token.CloseParen = closing os
open_with os token.CloseBracket = closing os
open_with os token.CloseBrace = closing os
open_with os token.End = closing os
open_with os (token.Infix op) = innermost operating os
open_with os token.Bar = innermost operating os
open_with os token.Hash = innermost operating os
open_with os token.Dot = innermost operating os
open_with os (token.Var name at) = innermost at_operand os
open_with os (token.Any at) = innermost at_operand os
open_with os (token.Int i at) = innermost at_operand os
open_with os (token.String s at) = innermost at_operand os
open_with os (token.Literal l at) = innermost at_operand os
open_with os (token.Fail at) = innermost at_operand os
open_with os token.Dollar = innermost at_operand os
open_with os (token.At at) = innermost accessing os
open_with os token.Box = innermost boxing os
open_with os token.ElseIf = innermost weighing os
open_with os token.Catch = innermost catching os
open_with os t = innermost at_end os

abbrev pub depth_of : List Open → ℕ
depth_of [] = 0
depth_of (o ∷ os) = (o.weight + o.operators) + depth_of os

-- with these constructs open, some token lies too deep
abbrev pub too_deep : List Open → List Token → Bool
too_deep os [] = false
too_deep os (t ∷ ts) = nat_lt depth_limit (depth_of (open_with os t)) || too_deep (open_with os t) ts

-- Scope: the faults of names

abbrev pub contains : List ℕ → ℕ → Bool
contains names name = list_any (nat_eq name) names

abbrev pub unbound : ℕ → Fault
unbound at = record { kind = kind.Unbound; at = at }

abbrev pub not_linear : ℕ → Fault
not_linear at = record { kind = kind.Linear; at = at }

-- a variable that has no binding in scope
abbrev pub use_faults : List ℕ → ℕ → ℕ → List Fault
use_faults scope name at = if contains scope name then [] else unbound at ∷ []

-- what stands, each with its place, and stood before
abbrev pub repeat_faults : {A : Type 0} → (A → A → Bool) → List A → List (A × ℕ) → List Fault
repeat_faults eq seen [] = []
repeat_faults eq seen (p ∷ ps) = (if list_any (eq p.0) seen then not_linear p.1 ∷ [] else []) ++ repeat_faults eq (p.0 ∷ seen) ps

-- the variables of a pattern, each with its place
abbrev mutual
  pub variables_in : Phrase → List (ℕ × ℕ)
  variables_in (var name at) = (name, at) ∷ []
  variables_in (rec l at fs) = variables_in_each fs
  variables_in (keyed k at e) = variables_in e
  variables_in (list at es) = variables_in_each es
  variables_in (paren at es) = variables_in_each es
  variables_in (bars es) = variables_in_each es
  variables_in (hashes es) = variables_in_each es
  variables_in p = []

  pub variables_in_each : Phrases → List (ℕ × ℕ)
  variables_in_each nothing = []
  variables_in_each (more p ps) = variables_in p ++ variables_in_each ps

-- a parameter that stands before in the same head, or a variable in the same pattern
abbrev pub name_faults : List (ℕ × ℕ) → List Fault
name_faults xs = repeat_faults nat_eq [] xs

-- where an expression or a pattern begins
abbrev mutual
  pub place_of : Phrase → ℕ
  place_of (var name at) = at
  place_of (any at) = at
  place_of (int i at) = at
  place_of (string s at) = at
  place_of (literal l at) = at
  place_of (rec l at fs) = at
  place_of (keyed k at e) = at
  place_of (list at es) = at
  place_of (paren at es) = at
  place_of (binary op a b) = place_of a
  place_of (bars es) = place_of_first es
  place_of (hashes es) = place_of_first es
  place_of (select e f) = place_of e
  place_of (access at e) = at
  place_of (fail at) = at
  place_of (raise at e) = at
  place_of (call at es) = at
  place_of (proc at h b) = at
  place_of (fun at lazy h b) = at
  place_of (local at ds b) = at
  place_of (thread at b) = at
  place_of (choice at bs) = at
  place_of (when at xs) = at
  place_of (choose at xs b) = at
  place_of (cases at e cs) = at
  place_of (cases_or at e cs b) = at
  place_of p = 0

  pub place_of_first : Phrases → ℕ
  place_of_first nothing = 0
  place_of_first (more p ps) = place_of p

-- the features of fields, each with the place of its field: those without a key have n, n + 1, .. in their order
abbrev pub features : ℕ → Phrases → List (Constant × ℕ)
features n nothing = []
features n (more (keyed k at e) fs) = (k, at) ∷ features n fs
features n (more e fs) = (constant.Int (pos n), place_of e) ∷ features (suc n) fs

-- a feature that stands before in the same record
abbrev pub feature_faults : Phrases → List Fault
feature_faults fs = repeat_faults constant_eq [] (features 1 fs)

-- names before those in scope
abbrev pub with_names : List (ℕ × ℕ) → List ℕ → List ℕ
with_names xs scope = map (λ (x : ℕ × ℕ). x.0) xs ++ scope

-- the name of a procedure, in its head
abbrev pub name_in : Phrase → Option ℕ
name_in (head at (more (var name place) hs)) = Some name
name_in p = None

-- the name that a phrase declares, if it does: a variable declares itself, an equation its left side, a procedure its name
abbrev pub declared_by : Phrase → Option ℕ
declared_by (var name at) = Some name
declared_by (connected Equates (var name at) e) = Some name
declared_by (proc at h b) = name_in h
declared_by (fun at lazy h b) = name_in h
declared_by p = None

abbrev pub with_name : Option ℕ → List ℕ → List ℕ
with_name None scope = scope
with_name (Some name) scope = name ∷ scope

-- the variables that these phrases declare, before those in scope
abbrev pub declaring : Phrases → List ℕ → List ℕ
declaring nothing scope = scope
declaring (more p ps) scope = with_name (declared_by p) (declaring ps scope)

-- the parameters of a head, each with its place: what stands behind the name
abbrev pub parameters_in : Phrase → List (ℕ × ℕ)
parameters_in (head at (more p ps)) = variables_in_each ps
parameters_in p = []

abbrev mutual
  -- with these names in scope
  pub faults : List ℕ → Phrase → List Fault
  faults scope (var name at) = use_faults scope name at
  faults scope (rec l at fs) = feature_faults fs ++ faults_each scope fs
  faults scope (keyed k at e) = faults scope e
  faults scope (list at es) = faults_each scope es
  faults scope (paren at es) = faults_each scope es
  faults scope (binary op a b) = faults scope a ++ faults scope b
  faults scope (bars es) = faults_each scope es
  faults scope (hashes es) = faults_each scope es
  faults scope (select e f) = faults scope e ++ faults scope f
  faults scope (access at e) = faults scope e
  faults scope (raise at e) = faults scope e
  faults scope (connected c a b) = faults scope a ++ faults scope b
  faults scope (relate r a b) = faults scope a ++ faults scope b
  faults scope (call at es) = faults_each scope es
  -- a head uses its name, and its parameters are different
  faults scope (head at nothing) = []
  faults scope (head at (more p ps)) = faults scope p ++ name_faults (variables_in_each ps)
  faults scope (proc at h b) = faults scope h ++ faults (with_names (parameters_in h) scope) b
  faults scope (fun at lazy h b) = faults scope h ++ faults (with_names (parameters_in h) scope) b
  faults scope (local at ds b) = faults_each (declaring ds scope) ds ++ faults (declaring ds scope) b
  faults scope (thread at b) = faults scope b
  faults scope (choice at bs) = faults_each scope bs
  faults scope (when at xs) = faults_each scope xs
  faults scope (choose at xs b) = faults_each scope xs ++ faults scope b
  faults scope (arm e b) = faults scope e ++ faults scope b
  faults scope (cases at e cs) = faults scope e ++ faults_each scope cs
  faults scope (cases_or at e cs b) = faults scope e ++ (faults_each scope cs ++ faults scope b)
  -- the variables of a pattern are bound in its body, and by itself
  faults scope (clause p b) =
      name_faults (variables_in p) ++ (faults (with_names (variables_in p) scope) p ++ faults (with_names (variables_in p) scope) b)
  faults scope (attempt b cs) = faults scope b ++ faults_each scope cs
  faults scope (body ds ss) = faults_each (declaring ds scope) ds ++ faults_each (declaring ds scope) ss
  faults scope p = []

  pub faults_each : List ℕ → Phrases → List Fault
  faults_each scope nothing = []
  faults_each scope (more p ps) = faults scope p ++ faults_each scope ps

-- The fault at the first place decides, and at one place a variable without a binding before what is repeated

abbrev pub unbound_kind : RefusalKind → Bool
unbound_kind kind.Unbound = true
unbound_kind k = false

abbrev pub is_unbound : Fault → Bool
is_unbound f = unbound_kind f.kind

abbrev pub comes_before : Fault → Fault → Bool
comes_before f g = nat_lt f.at g.at || ((f.at == g.at) && is_unbound f)

abbrev pub sooner : Fault → Option Fault → Option Fault
sooner f None = Some f
sooner f (Some g) = if comes_before g f then Some g else Some f

abbrev pub first_of : List Fault → Option Fault
first_of [] = None
first_of (f ∷ fs) = sooner f (first_of fs)

-- the numbers of the names that every text has
abbrev pub first_scope : List ℕ
first_scope = 0 ∷ 1 ∷ 2 ∷ 3 ∷ 4 ∷ 5 ∷ 6 ∷ 7 ∷ 8 ∷ 9 ∷ 10 ∷ 11 ∷ 12 ∷ 13 ∷ 14 ∷ 15 ∷ 16 ∷ 17 ∷ 18 ∷ 19 ∷ 20 ∷ 21 ∷ []

-- Texts

-- a program as it is read: its words, and its phrase, which names them by their numbers
pub record Program : Type 0 where
  pub words : List (List ℕ)
  pub phrase : Phrase

-- the text is the program's
pub record Accepts (text : List ℕ) (p : Program) : Type 0 where
  pub lexemes : List Lexeme
  pub lexed : Lexes text 0 lexemes Whole
  pub words : p.words ≡ words_of text lexemes
  pub derived : Derives (tokens_in text lexemes) p.phrase
  pub shallow : too_deep text_open (tokens_in text lexemes) ≡ false
  pub in_scope : faults first_scope p.phrase ≡ []

-- the tokens before the n-th begin a program and do not lie too deep
pub record IsFineBefore (ts : List Token) (n : ℕ) : Type 0 where
  pub begun : Begins (take n ts)
  pub shallow : too_deep text_open (take n ts) ≡ false

-- the n-th token lies too deep
pub record DeepAt (ts : List Token) (n : ℕ) : Type 0 where
  pub before : IsFineBefore ts n
  pub deep : too_deep text_open (take (n + 1) ts) ≡ true

-- with the n-th token no program begins
pub record SyntaxAt (ts : List Token) (n : ℕ) : Type 0 where
  pub before : IsFineBefore ts n
  pub there : n < length ts
  pub shallow : too_deep text_open (take (n + 1) ts) ≡ false
  pub begun_by_none : Begins (take (n + 1) ts) → ⊥

-- the whole text begins a program and is none
pub record EndsEarly (ts : List Token) : Type 0 where
  pub before : IsFineBefore ts (length ts)
  pub derived_by_none : (p : Phrase) → Derives ts p → ⊥

-- the fault of a program's names that decides
pub record FaultyAt (ts : List Token) (fault : Fault) : Type 0 where
  pub program : Phrase
  pub derived : Derives ts program
  pub shallow : too_deep text_open ts ≡ false
  pub first : first_of (faults first_scope program) ≡ Some fault

-- the text is refused with this fault
pub data IsRefused (text : List ℕ) : Fault → Type 0 where
  bad_byte : {ls : List Lexeme} {at : ℕ} → Lexes text 0 ls (Bad at) → IsRefused text (record { kind = kind.Byte; at = at })
  deep : {ls : List Lexeme} {n : ℕ} {l : Lexeme} → Lexes text 0 ls Whole → slice_get ls n ≡ Some l → DeepAt (tokens_in text ls) n
      → IsRefused text (record { kind = kind.Deep; at = l.at })
  syntax : {ls : List Lexeme} {n : ℕ} {l : Lexeme} → Lexes text 0 ls Whole → slice_get ls n ≡ Some l → SyntaxAt (tokens_in text ls) n
      → IsRefused text (record { kind = kind.Syntax; at = l.at })
  ends_early : {ls : List Lexeme} → Lexes text 0 ls Whole → EndsEarly (tokens_in text ls) → IsRefused text (record { kind = kind.Syntax; at = length text })
  faulty : {ls : List Lexeme} {fault : Fault} → Lexes text 0 ls Whole → FaultyAt (tokens_in text ls) fault → IsRefused text fault
