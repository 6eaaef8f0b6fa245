-- What holds of every stack that the machine comes to.
use Rattle.std.proofs.Common.{◌≡◌, ℕ, zero, suc, List, [], ◌∷◌, ◌++◌, Option, Some, None, Bool, true, false, ◌&&◌, ◌||◌, nat_le, nat_lt, ◌+◌, refl, ap}
use Rattle.oz_language.specs.Grammar.{level_of, left_level, level_of_bars, level_of_hashes, level_of_selection, tightest, Phrase, head, of_list, key_token, connective_token, lazy_tokens, tokens_of, each, separated, declared, is_more, is_var, is_named_head, is_value_head, is_small_int, is_reference, is_product, is_side_term, is_side, terms_in, terms_limit, term, terms, fields as are_fields, expr, pattern as is_pattern, stmt, stmts, decl, decls, is_body, bodies, value_bodies, arms, value_arms, clauses, value_clauses}
use Rattle.oz_language.specs.declared.token.Operator.{Operator}
use Rattle.oz_language.specs.declared.token.Token.{Token}
use Rattle.oz_language.specs.declared.token.Connective.{Connective}
use Rattle.oz_language.specs.declared.token.Token.TheVariants.{Label, OpenParen, OpenBracket, OpenBrace, Colon, Box, Bar, Hash, Dot, At, Infix, Relates, Case, Catch, Choice, Else, ElseIf, Fun, If, In, Local, Of, Proc, Raise, Then, Thread, Try}
use Rattle.oz_language.specs.declared.token.Operator.TheVariants.{OrElse, AndThen, Plus, Minus, Times, Div, Mod}
use Rattle.oz_language.specs.declared.token.Connective.TheVariants.{Equates, Assigns, Bounds, BoundsEach}
use Rattle.reader_law.specs.Machine.{Opener, program, declaring, of_local, of_proc, of_fun, of_thread, of_choice, of_then, of_else, of_clause, of_case_else, of_try, of_catch, of_paren, Maker, making_proc, making_fun, Frame, block, whole, left_of, barred, hashed, dotted, accessing, connecting, relating, fields, key, listing, enclosing, parts, heading, heads, raising, testing, matching, patterns, catching, accepted, Stack, is_some_item, may_state, Kind, expression, pattern, side, kind_by, kind_of, is_alive, takes_factor, binds, right_level, allows, declares}
use Rattle.reader_law.proofs.Basics.{or_true, trailed}

-- ---- the tokens of what is open

abbrev pub opener_tokens : Opener → List Token
opener_tokens program = []
opener_tokens (declaring at) = Local at ∷ []
opener_tokens (of_local at ls) = Local at ∷ (each (of_list ls) ++ In ∷ [])
opener_tokens (of_proc at h) = Proc at ∷ tokens_of h
opener_tokens (of_fun at lazy h) = Fun at ∷ (lazy_tokens lazy ++ tokens_of h)
opener_tokens (of_thread at) = Thread at ∷ []
opener_tokens (of_choice at s e bs) = Choice at ∷ trailed Box bs
opener_tokens (of_then at s e bs c) = If at ∷ (trailed ElseIf bs ++ (tokens_of c ++ Then ∷ []))
opener_tokens (of_else at s e bs) = If at ∷ (separated ElseIf (of_list bs) ++ Else ∷ [])
opener_tokens (of_clause at c s e cs p) = Case at ∷ (tokens_of c ++ Of ∷ (trailed Box cs ++ (tokens_of p ++ Then ∷ [])))
opener_tokens (of_case_else at c s e cs) = Case at ∷ (tokens_of c ++ Of ∷ (separated Box (of_list cs) ++ Else ∷ []))
opener_tokens of_try = Try ∷ []
opener_tokens (of_catch b cs p) = Try ∷ (tokens_of b ++ Catch ∷ (trailed Box cs ++ (tokens_of p ++ Then ∷ [])))
opener_tokens (of_paren at) = OpenParen at ∷ []

abbrev pub maker_tokens : Maker → List Token
maker_tokens (making_proc at) = Proc at ∷ []
maker_tokens (making_fun at lazy) = Fun at ∷ lazy_tokens lazy

abbrev pub frame_tokens : Frame → List Token
frame_tokens (block o d s ds ps) = opener_tokens o ++ (declared (of_list ds) ++ each (of_list ps))
frame_tokens (whole p s e) = tokens_of p
frame_tokens (left_of op a) = tokens_of a ++ Infix op ∷ []
frame_tokens (barred es) = trailed Bar es
frame_tokens (hashed es) = trailed Hash es
frame_tokens (dotted a) = tokens_of a ++ Dot ∷ []
frame_tokens (accessing at) = At at ∷ []
frame_tokens (connecting c a) = tokens_of a ++ connective_token c ∷ []
frame_tokens (relating r a) = tokens_of a ++ Relates r ∷ []
frame_tokens (fields w l at fs) = Label l at ∷ each (of_list fs)
frame_tokens (key w c place) = key_token c place ∷ Colon ∷ []
frame_tokens (listing w at es) = OpenBracket at ∷ each (of_list es)
frame_tokens (enclosing w at) = OpenParen at ∷ []
frame_tokens (parts at es) = OpenBrace at ∷ each (of_list es)
frame_tokens (heading m) = maker_tokens m
frame_tokens (heads m at hs) = maker_tokens m ++ OpenBrace at ∷ each (of_list hs)
frame_tokens (raising at) = Raise at ∷ []
frame_tokens (testing at s e bs) = If at ∷ trailed ElseIf bs
frame_tokens (matching at) = Case at ∷ []
frame_tokens (patterns at c s e cs) = Case at ∷ (tokens_of c ++ Of ∷ trailed Box cs)
frame_tokens (catching b cs) = Try ∷ (tokens_of b ++ Catch ∷ trailed Box cs)
frame_tokens (accepted p) = tokens_of p

abbrev pub spelled : Stack → List Token
spelled [] = []
spelled (f ∷ k) = spelled k ++ frame_tokens f

-- ---- where something may stand

-- where the flag is true, this holds
abbrev pub Says : Bool → Type 0 → Type 0
Says true P = P
Says false P = Unit {0}

abbrev pub IsNil : List Phrase → Type 0
IsNil [] = Unit {0}
IsNil (p ∷ ps) = ⊥

-- any expression or pattern may stand here
abbrev pub Spot : Stack → Type 0
Spot [] = ⊥
Spot (block o d s ds ps ∷ k) = s ≡ true
Spot (whole p s e ∷ k) = ⊥
Spot (dotted a ∷ k) = ⊥
Spot (accessing at ∷ k) = ⊥
Spot (heading m ∷ k) = ⊥
Spot (heads m at hs ∷ k) = ⊥
Spot (accepted p ∷ k) = ⊥
Spot k = Unit {0}

-- a phrase may stand here whole, where these tell whether it is a declaration, a statement, and an expression or a pattern
abbrev pub Stands : Bool → Bool → Bool → Stack → Type 0
Stands d s e [] = ⊥
Stands d s e (block o bd bs ds ps ∷ k) = (bs && (s || e)) || (bd && d) ≡ true
Stands d s e (whole p s' e' ∷ k) = ⊥
Stands d s e (dotted a ∷ k) = ⊥
Stands d s e (accessing at ∷ k) = ⊥
Stands d s e (heading m ∷ k) = ⊥
Stands d s e (heads m at hs ∷ k) = ⊥
Stands d s e (accepted p ∷ k) = ⊥
Stands d s e k = e ≡ true

-- what may stand here is a pattern
abbrev pub is_kind_of_patterns : Kind → Bool
is_kind_of_patterns pattern = true
is_kind_of_patterns c = false

abbrev pub in_pattern : Stack → Bool
in_pattern k = is_kind_of_patterns (kind_of k)

-- any expression may stand here
abbrev pub Expresses : Stack → Type 0
Expresses k = Spot k × (kind_of k ≡ expression)

-- expressions may stand here, or patterns
abbrev pub Holds : Bool → Stack → Type 0
Holds w k = Spot k × (kind_of k ≡ kind_by w)

-- what encloses a phrase in parentheses stands here, also behind `.` and `@`
abbrev pub Encloses : Bool → Stack → Type 0
Encloses w (dotted a ∷ k) = w ≡ false
Encloses w (accessing at ∷ k) = w ≡ false
Encloses w k = Holds w k

-- `proc` and `fun` may stand here, with a name or without
abbrev pub Makes : Stack → Type 0
Makes (block o d s ds ps ∷ k) = Unit {0}
Makes k = Expresses k

-- a procedure with this head may stand here
abbrev pub Heads : Phrase → Stack → Type 0
Heads h k = Stands (is_named_head h) (is_named_head h) (is_value_head h) k × (kind_of k ≡ expression)

-- what binds at this level may stand here whole: an operator that waits here binds looser
abbrev pub is_looser : ℕ → Stack → Bool
is_looser m (left_of op a ∷ k) = nat_lt (level_of op) m
is_looser m (barred es ∷ k) = nat_lt level_of_bars m
is_looser m (hashed es ∷ k) = nat_lt level_of_hashes m
is_looser m (connecting c a ∷ k) = nat_le (right_level c) m
is_looser m k = true

-- a field with a key may stand here
abbrev pub InRecord : Bool → Stack → Type 0
InRecord w (fields v l at fs ∷ k) = w ≡ v
InRecord w k = ⊥

-- one of the two readings of a construct is alive here
abbrev pub Alive : Bool → Bool → Stack → Type 0
Alive s e k = Expresses k × (is_alive s e k ≡ true)

-- ---- the right side of a relation

-- an integer or a reference
abbrev pub is_factor : Phrase → Bool
is_factor p = is_small_int p || is_reference p

-- a factor, a term or all terms so far may stand here
abbrev pub fits_side : Phrase → Stack → Bool
fits_side p (left_of Times a ∷ k) = is_product a p
fits_side p (left_of op a ∷ k) = is_side_term p
fits_side p (relating r a ∷ k) = is_side p && nat_le (terms_in a + terms_in p) terms_limit
fits_side p k = false

-- an operator and what stands before it
abbrev pub fits_sign : Operator → Phrase → Stack → Bool
fits_sign Plus a (relating r b ∷ k) = is_side a && nat_lt (terms_in b + terms_in a) terms_limit
fits_sign Minus a (relating r b ∷ k) = is_side a && nat_lt (terms_in b + terms_in a) terms_limit
fits_sign Times a k = is_factor a && takes_factor k
fits_sign op a k = false

-- what a phrase has to be, what an operator, and what is selected from, in each kind
abbrev pub Fits : Kind → Phrase → Stack → Type 0
Fits side p k = fits_side p k ≡ true
Fits c p k = Unit {0}

abbrev pub FitsSign : Kind → Operator → Phrase → Stack → Type 0
FitsSign expression op a k = Unit {0}
FitsSign pattern op a k = ⊥
FitsSign side op a k = fits_sign op a k ≡ true

abbrev pub Selects : Kind → Phrase → Type 0
Selects expression a = Unit {0}
Selects pattern a = ⊥
Selects side a = is_reference a ≡ true

-- ---- good stacks

-- a block's phrases are what its flags say, and one flag is true
abbrev pub GoodItems : Bool → Bool → List Phrase → List Phrase → Type 0
GoodItems d s ds ps = Says d (IsNil ds × (decls (of_list ps) ≡ true)) × Says s (stmts (of_list ps) ≡ true) × (decls (of_list ds) ≡ true) × (d || s ≡ true)

-- what was read before a block is right, and it stands where its construct may. Declarations of a `local` are no statements, and
-- statements in parentheses no declarations
abbrev pub GoodOpener : Opener → Bool → Bool → List Phrase → Stack → Type 0
GoodOpener program d s ds [] = Unit {0}
GoodOpener program d s ds (f ∷ k) = ⊥
GoodOpener (declaring at) d s ds k = Expresses k × (s ≡ false)
GoodOpener (of_local at ls) d s ds k = Expresses k × (is_more (of_list ls) ≡ true) × (decls (of_list ls) ≡ true)
GoodOpener (of_proc at h) d s ds k = Heads h k
GoodOpener (of_fun at lazy h) d s ds k = Heads h k
GoodOpener (of_thread at) d s ds k = Expresses k
GoodOpener (of_choice at sb eb bs) d s ds k = Alive sb eb k × Says sb (bodies (of_list bs) ≡ true) × Says eb (value_bodies (of_list bs) ≡ true)
GoodOpener (of_then at sb eb bs c) d s ds k = Alive sb eb k × Says sb (arms (of_list bs) ≡ true) × Says eb (value_arms (of_list bs) ≡ true) × (expr c ≡ true)
GoodOpener (of_else at sb eb bs) d s ds k = Alive sb eb k × Says sb (arms (of_list bs) ≡ true) × Says eb (value_arms (of_list bs) ≡ true) × (is_more (of_list bs) ≡ true)
GoodOpener (of_clause at c sb eb cs p) d s ds k = Alive sb eb k × Says sb (clauses (of_list cs) ≡ true) × Says eb (value_clauses (of_list cs) ≡ true) × (expr c ≡ true) × (is_pattern p ≡ true)
GoodOpener (of_case_else at c sb eb cs) d s ds k = Alive sb eb k × Says sb (clauses (of_list cs) ≡ true) × Says eb (value_clauses (of_list cs) ≡ true) × (expr c ≡ true) × (is_more (of_list cs) ≡ true)
GoodOpener of_try d s ds k = may_state k ≡ true
GoodOpener (of_catch b cs p) d s ds k = (may_state k ≡ true) × (is_body b ≡ true) × (clauses (of_list cs) ≡ true) × (is_pattern p ≡ true)
GoodOpener (of_paren at) d s ds k = (may_state k ≡ true) × IsNil ds × (d ≡ false)

-- the left side of a statement stands in a block where a statement may, or the variable of a declaration
abbrev pub Connects : Connective → Phrase → Stack → Type 0
Connects Equates a (block o d s ds ps ∷ k) = s || (d && is_var a) ≡ true
Connects c a k = may_state k ≡ true

abbrev pub connected_level : Connective → ℕ
connected_level Bounds = level_of_selection
connected_level BoundsEach = level_of_selection
connected_level c = zero

-- a head so far
abbrev pub GoodHeads : ℕ → List Phrase → Stack → Type 0
GoodHeads at [] k = Makes k
GoodHeads at (p ∷ ps) k = Heads (head at (of_list (p ∷ ps))) k

-- a phrase, on what is open: what its flags say, and that it may stand there
abbrev pub Has : Phrase → Bool → Bool → Stack → Type 0
Has p s e k = Says s (stmt p ≡ true) × Says e (term (in_pattern k) zero p ≡ true) × Says (declares p) (decl p ≡ true) × Stands (declares p) s e k × (is_looser (binds p) k ≡ true) × Fits (kind_of k) p k

-- what waits for a right operand
abbrev pub Waits : ℕ → Stack → Type 0
Waits m k = Spot k × (is_looser m k ≡ true) × (allows m k ≡ true)

abbrev pub GoodFrame : Frame → Stack → Type 0
GoodFrame (block o d s ds ps) k = GoodItems d s ds ps × GoodOpener o d s ds k
GoodFrame (whole p s e) k = Has p s e k × (nat_le level_of_selection (binds p) ≡ true)
GoodFrame (left_of op a) k = (term false (left_level op) a ≡ true) × Waits (level_of op) k × FitsSign (kind_of k) op a k
GoodFrame (barred es) k = (is_some_item es ≡ true) × (terms (in_pattern k) level_of_hashes (of_list es) ≡ true) × Waits level_of_bars k × (kind_of k ≡ kind_by (in_pattern k))
GoodFrame (hashed es) k = (is_some_item es ≡ true) × (terms (in_pattern k) (suc level_of_hashes) (of_list es) ≡ true) × Waits level_of_hashes k × (kind_of k ≡ kind_by (in_pattern k))
GoodFrame (dotted a) k = (term false level_of_selection a ≡ true) × Waits level_of_selection k × Fits (kind_of k) a k × Selects (kind_of k) a
GoodFrame (accessing at) k = Expresses k
GoodFrame (connecting c a) k = (term false (connected_level c) a ≡ true) × Connects c a k
GoodFrame (relating r a) k = (expr a ≡ true) × (is_side a ≡ true) × (nat_lt (terms_in a) terms_limit ≡ true) × (may_state k ≡ true)
GoodFrame (fields w l at fs) k = (are_fields w (of_list fs) ≡ true) × Holds w k
GoodFrame (key w c place) k = InRecord w k
GoodFrame (listing w at es) k = (terms w zero (of_list es) ≡ true) × Holds w k
GoodFrame (enclosing w at) k = Encloses w k
GoodFrame (parts at es) k = (terms false zero (of_list es) ≡ true) × Expresses k
GoodFrame (heading m) k = Makes k
GoodFrame (heads m at hs) k = GoodHeads at hs k
GoodFrame (raising at) k = Expresses k
GoodFrame (testing at s e bs) k = Alive s e k × Says s (arms (of_list bs) ≡ true) × Says e (value_arms (of_list bs) ≡ true)
GoodFrame (matching at) k = Expresses k
GoodFrame (patterns at c s e cs) k = Alive s e k × Says s (clauses (of_list cs) ≡ true) × Says e (value_clauses (of_list cs) ≡ true) × (expr c ≡ true)
GoodFrame (catching b cs) k = (may_state k ≡ true) × (is_body b ≡ true) × (clauses (of_list cs) ≡ true)
GoodFrame (accepted p) k = ⊥

-- what is under a frame
abbrev pub Under : Stack → Type 0
Under [] = Unit {0}
Under (f ∷ k) = GoodFrame f k × Under k

-- something is open, and all of it is good
abbrev pub Good : Stack → Type 0
Good [] = ⊥
Good (f ∷ k) = GoodFrame f k × Under k

-- the next stack, if there is one, spells the tokens too, and is good
abbrev pub Leads : Stack → List Token → Option Stack → Type 0
Leads k ts None = Unit {0}
Leads k ts (Some j) = (spelled j ≡ spelled k ++ ts) × Good j

-- ---- what follows at once

-- an expression or a pattern may stand on its spot
pub spot_stands : (d s : Bool) (k : Stack) → Spot k → Stands d s true k
spot_stands d s (block o bd true ds ps ∷ k) h = ap (λ b. b || (bd && d)) (or_true s)
spot_stands d s (block o bd false ds ps ∷ k) h = absurd (cc)
spot_stands d s [] h = h
spot_stands d s (whole p s' e' ∷ k) h = h
spot_stands d s (dotted a ∷ k) h = h
spot_stands d s (accessing at ∷ k) h = h
spot_stands d s (heading m ∷ k) h = h
spot_stands d s (heads m at hs ∷ k) h = h
spot_stands d s (accepted p ∷ k) h = h
spot_stands d s (f ∷ k) h = refl

pub fits_kind : (w : Bool) (c : Kind) (p : Phrase) (k : Stack) → c ≡ kind_by w → Fits c p k
fits_kind w expression p k h = tt
fits_kind w pattern p k h = tt
fits_kind true side p k h = absurd (cc)
fits_kind false side p k h = absurd (cc)

pub kind_pattern : (w : Bool) (c : Kind) → c ≡ kind_by w → is_kind_of_patterns c ≡ w
kind_pattern true c h = ap is_kind_of_patterns h
kind_pattern false c h = ap is_kind_of_patterns h

looser_operator : (op : Operator) → nat_lt (level_of op) tightest ≡ true
looser_operator OrElse = refl
looser_operator AndThen = refl
looser_operator Plus = refl
looser_operator Minus = refl
looser_operator Times = refl
looser_operator Div = refl
looser_operator Mod = refl
looser_operator op = refl

-- each operator binds looser than what needs no parentheses
pub looser_tightest : (k : Stack) → is_looser tightest k ≡ true
looser_tightest (left_of op a ∷ k) = looser_operator op
looser_tightest (barred es ∷ k) = refl
looser_tightest (hashed es ∷ k) = refl
looser_tightest (connecting Equates a ∷ k) = refl
looser_tightest (connecting Assigns a ∷ k) = refl
looser_tightest (connecting Bounds a ∷ k) = refl
looser_tightest (connecting BoundsEach a ∷ k) = refl
looser_tightest [] = refl
looser_tightest (f ∷ k) = refl
