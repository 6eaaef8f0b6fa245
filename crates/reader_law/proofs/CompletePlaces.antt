-- Where expressions and patterns may stand, and how the stack that their tokens lead to is that of the whole phrase.
use Rattle.std.proofs.Common.{◌≡◌, ℕ, suc, nat_le, List, [], ◌∷◌, ◌++◌, Option, Some, None, Bool, true, false, ◌&&◌, ◌||◌, if◌then◌else◌, refl, sym, ap, ◌∙◌}
use Rattle.oz_language.specs.declared.token.Literal.{Literal}
use Rattle.oz_language.specs.declared.kernel.Constant.{Constant}
use Rattle.oz_language.specs.Grammar.{level_of, left_level, level_of_bars, level_of_hashes, level_of_selection, Phrase, Phrases, of_list, binary, bars, hashes}
use Rattle.oz_language.specs.declared.token.Token.{Token}
use Rattle.oz_language.specs.declared.token.Operator.{Operator}
use Rattle.oz_language.specs.declared.token.Connective.{Connective}
use Rattle.oz_language.specs.declared.token.Token.TheVariants.{Var, Any, Int, String, Literal as Lit, Label, OpenParen, CloseParen, OpenBracket, CloseBracket, OpenBrace, CloseBrace, At, Bar, Hash, Dot, Infix, Fail, Raise, Proc, Fun, Local, Thread, Choice, If, Case}
use Rattle.oz_language.specs.declared.token.Operator.TheVariants.{OrElse, AndThen, Plus, Minus, Times, Div, Mod}
use Rattle.oz_language.specs.declared.token.Connective.TheVariants.{Equates, Assigns, Bounds, BoundsEach}
use Rattle.reader_law.specs.Machine.{Opener, of_paren, Frame, block, whole, left_of, barred, hashed, connecting, fields, key, listing, enclosing, parts, raising, testing, matching, patterns, catching, right_level, Stack, guard, Kind, expression, pattern, side, kind_by, kind_of, may_value, had, begins, Reduced, reduce, binds, allows, add_bar, add_hash, add_term, shift_in, is_operator, behind, after, next}
use Rattle.reader_law.proofs.Basics.{guard_true, or_true}
use Rattle.reader_law.proofs.CompleteBasics.{le_through, above}

-- ---- what a token does with the phrase before it

-- the level at which a token takes the phrase before it
abbrev pub level_before : Option Token → ℕ
level_before (Some (Infix op)) = level_of op
level_before (Some Bar) = level_of_hashes
level_before (Some Hash) = suc level_of_hashes
level_before (Some Dot) = level_of_selection
level_before t = 0

-- what an operator does with what it takes
abbrev pub taken : Kind → Token → Reduced → Option Stack
taken expression (Infix op) r = guard (nat_le (left_level op) (binds r.phrase) && allows (level_of op) r.rest) (Some (left_of op r.phrase ∷ r.rest))
taken expression Bar r = add_bar r.phrase r.rest
taken expression Hash r = add_hash r.phrase r.rest
taken pattern Bar r = add_bar r.phrase r.rest
taken pattern Hash r = add_hash r.phrase r.rest
taken side (Infix Plus) r = add_term Plus r.phrase r.rest
taken side (Infix Minus) r = add_term Minus r.phrase r.rest
taken w t r = None

abbrev pub onto : Kind → Option Token → Bool → Reduced → Option Stack
onto w (Some t) e r = if is_operator t then guard e (taken w t r) else behind (Some t) r.phrase r.states e r.rest
onto w None e r = behind None r.phrase r.states e r.rest

abbrev pub level_of_signs : ℕ
level_of_signs = 5

abbrev pub level_of_products : ℕ
level_of_products = 6

-- the tightest operators that may take a phrase with an operator
abbrev pub top : Kind → ℕ
top side = level_of_signs
top w = level_of_products

shift_taken : (w : Kind) (t : Token) (p : Phrase) (s : Bool) (k : Stack) → nat_le (level_before (Some t)) (top w) ≡ true → shift_in w t p s k ≡ taken w t (reduce (level_before (Some t)) p s k)
shift_taken expression (Infix op) p s k h = refl
shift_taken expression Bar p s k h = refl
shift_taken expression Hash p s k h = refl
shift_taken expression Dot p s k h = absurd (cc)
shift_taken expression t p s k h = refl
shift_taken pattern Bar p s k h = refl
shift_taken pattern Hash p s k h = refl
shift_taken pattern t p s k h = refl
shift_taken side (Infix Plus) p s k h = refl
shift_taken side (Infix Minus) p s k h = refl
shift_taken side (Infix Times) p s k h = absurd (cc)
shift_taken side Dot p s k h = absurd (cc)
shift_taken side t p s k h = refl

after_onto : (t : Option Token) (p : Phrase) (s e : Bool) (k : Stack) → nat_le (level_before t) (top (kind_of k)) ≡ true
    → after t p s e k ≡ onto (kind_of k) t e (reduce (level_before t) p s k)
after_onto (Some (Infix op)) p s e k h = ap (guard e) (shift_taken (kind_of k) (Infix op) p s k h)
after_onto (Some Bar) p s e k h = ap (guard e) (shift_taken (kind_of k) Bar p s k h)
after_onto (Some Hash) p s e k h = ap (guard e) (shift_taken (kind_of k) Hash p s k h)
after_onto (Some Dot) p s e k h = ap (guard e) (shift_taken (kind_of k) Dot p s k h)
after_onto (Some t) p s e k h = refl
after_onto None p s e k h = refl

-- what reduces to the same goes on in the same way
pub after_same : (t : Option Token) (p q : Phrase) (s s' e : Bool) (j k : Stack) → kind_of j ≡ kind_of k → nat_le (level_before t) (top (kind_of k)) ≡ true
    → reduce (level_before t) p s j ≡ reduce (level_before t) q s' k → after t p s e j ≡ after t q s' e k
after_same t p q s s' e j k i h r =
    after_onto t p s e j (ap (λ w. nat_le (level_before t) (top w)) i ∙ h)
    ∙ ap (onto (kind_of j) t e) r
    ∙ ap (λ w. onto w t e (reduce (level_before t) q s' k)) i
    ∙ sym (after_onto t q s' e k h)

-- ---- going on behind a phrase

-- a token of at most this level finds the one stack like the other with the whole phrase on it
pub record Finds (p : Phrase) (s e : Bool) (m : ℕ) (j k : Stack) : Type 0 where
  pub on : (t : Option Token) → nat_le (level_before t) m ≡ true → next t j ≡ after t p s e k

pub finds_whole : (p : Phrase) (s e : Bool) (m : ℕ) (k : Stack) → Finds p s e m (whole p s e ∷ k) k
finds_whole p s e m k = record { on = λ t h. refl }

pub finds_less : (p : Phrase) (s e : Bool) (m n : ℕ) (j k : Stack) → nat_le m n ≡ true → Finds p s e n j k → Finds p s e m j k
finds_less p s e m n j k l f = record { on = λ t h. f.on t (le_through (level_before t) m n h l) }

-- the last operand of an operator
pub finds_binary : (op : Operator) (a b : Phrase) (s : Bool) (n : ℕ) (j k : Stack) → nat_le (level_of op) n ≡ true → nat_le (level_of op) (top (kind_of k)) ≡ true
    → Finds b s true n j (left_of op a ∷ k) → Finds (binary op a b) false true (level_of op) j k
finds_binary op a b s n j k l i f = record {
  on = λ t h.
      f.on t (le_through (level_before t) (level_of op) n h l)
      ∙ after_same t b (binary op a b) s false true (left_of op a ∷ k) k refl (le_through (level_before t) (level_of op) (top (kind_of k)) h i)
      (ap (λ q. if q then reduce (level_before t) (binary op a b) false k else record { phrase = b; states = s; rest = left_of op a ∷ k }) h);
}

-- ---- chains: those of `|`, and those of `#`

abbrev pub chain : Bool → List Phrase → Frame
chain true es = barred es
chain false es = hashed es

abbrev pub chained : Bool → Phrases → Phrase
chained true es = bars es
chained false es = hashes es

abbrev pub mark : Bool → Token
mark true = Bar
mark false = Hash

abbrev pub chain_level : Bool → ℕ
chain_level true = level_of_bars
chain_level false = level_of_hashes

abbrev pub chain_add : Bool → Phrase → Stack → Option Stack
chain_add true p k = add_bar p k
chain_add false p k = add_hash p k

pub finds_chain : (c : Bool) (es : List Phrase) (e : Phrase) (s : Bool) (j k : Stack) → nat_le level_of_hashes (top (kind_of k)) ≡ true
    → Finds e s true (suc (chain_level c)) j (chain c es ∷ k) → Finds (chained c (of_list (es ++ e ∷ []))) false true (chain_level c) j k
finds_chain true es e s j k i f = record {
  on = λ t h.
      f.on t (le_through (level_before t) level_of_bars (suc level_of_bars) h refl)
      ∙ after_same t e (bars (of_list (es ++ e ∷ []))) s false true (barred es ∷ k) k refl (le_through (level_before t) level_of_bars (top (kind_of k)) h (le_through level_of_bars level_of_hashes (top (kind_of k)) refl i))
      (ap (λ q. if q then reduce (level_before t) (bars (of_list (es ++ e ∷ []))) false k else record { phrase = e; states = s; rest = barred es ∷ k }) h);
}
finds_chain false es e s j k i f = record {
  on = λ t h.
      f.on t (le_through (level_before t) level_of_hashes (suc level_of_hashes) h refl)
      ∙ after_same t e (hashes (of_list (es ++ e ∷ []))) s false true (hashed es ∷ k) k refl (le_through (level_before t) level_of_hashes (top (kind_of k)) h i)
      (ap (λ q. if q then reduce (level_before t) (hashes (of_list (es ++ e ∷ []))) false k else record { phrase = e; states = s; rest = hashed es ∷ k }) h);
}

-- ---- where an expression or a pattern may stand

-- tokens by which an expression or a pattern begins, but for the parenthesis
abbrev pub Opens : Bool → Token → Type 0
Opens w (Var name at) = Unit {0}
Opens w (Any at) = Unit {0}
Opens w (Int i at) = Unit {0}
Opens w (String s at) = Unit {0}
Opens w (Lit l at) = Unit {0}
Opens w (Label l at) = Unit {0}
Opens w (OpenBracket at) = Unit {0}
Opens false (OpenBrace at) = Unit {0}
Opens false (At at) = Unit {0}
Opens false (Fail at) = Unit {0}
Opens false (Raise at) = Unit {0}
Opens false (Proc at) = Unit {0}
Opens false (Fun at) = Unit {0}
Opens false (Local at) = Unit {0}
Opens false (Thread at) = Unit {0}
Opens false (Choice at) = Unit {0}
Opens false (If at) = Unit {0}
Opens false (Case at) = Unit {0}
Opens w t = ⊥

-- what a parenthesis opens: where a statement may begin it may hold several
abbrev pub paren_frame : Bool → Bool → ℕ → Frame
paren_frame true b at = enclosing true at
paren_frame false true at = block (of_paren at) false true [] []
paren_frame false false at = enclosing false at

-- an expression, or a pattern, that binds at least at a level may stand here; whether a statement may
pub record Place (w b : Bool) (m : ℕ) (k : Stack) : Type 0 where
  pub kind : kind_of k ≡ kind_by w
  pub values : may_value k ≡ true
  pub keeps : (p : Phrase) (s e : Bool) → had p s e k ≡ whole p s e ∷ k
  pub opens : (t : Token) → Opens w t → next (Some t) k ≡ begins (kind_by w) t k
  pub opens_paren : (at : ℕ) → next (Some (OpenParen at)) k ≡ Some (paren_frame w b at ∷ k)
  pub stops : (n : ℕ) (p : Phrase) (s : Bool) → nat_le m n ≡ true → reduce n p s k ≡ record { phrase = p; states = s; rest = k }
  pub allowed : (n : ℕ) → nat_le m n ≡ true → allows n k ≡ true
  pub low : nat_le m level_of_selection ≡ true
  pub begins_chain : (c : Bool) (p : Phrase) → nat_le m (chain_level c) ≡ true → chain_add c p k ≡ Some (chain c (p ∷ []) ∷ k)

-- ---- the places

pub place_block : (o : Opener) (d : Bool) (ds ps : List Phrase) (k : Stack) → Place false true 0 (block o d true ds ps ∷ k)
place_block o d ds ps k = record {
  kind = refl;
  values = refl;
  keeps = λ p s e. refl;
  opens = opened_here;
  opens_paren = λ at. refl;
  stops = λ n p s h. refl;
  allowed = λ n h. refl;
  low = refl;
  begins_chain = chains_here;
}
  where
    opened_here : (t : Token) → Opens false t → next (Some t) (block o d true ds ps ∷ k) ≡ begins expression t (block o d true ds ps ∷ k)
    opened_here (Var name at) h = guard_true (d || true) _ (or_true d)
    opened_here (Any at) h = refl
    opened_here (Int i at) h = refl
    opened_here (String s at) h = refl
    opened_here (Lit l at) h = refl
    opened_here (Label l at) h = refl
    opened_here (OpenBracket at) h = refl
    opened_here (OpenBrace at) h = refl
    opened_here (At at) h = refl
    opened_here (Fail at) h = refl
    opened_here (Raise at) h = refl
    opened_here (Proc at) h = guard_true (d || true) _ (or_true d)
    opened_here (Fun at) h = guard_true (d || true) _ (or_true d)
    opened_here (Local at) h = refl
    opened_here (Thread at) h = refl
    opened_here (Choice at) h = refl
    opened_here (If at) h = refl
    opened_here (Case at) h = refl
    opened_here t h = elim h [ ]

    chains_here : (c : Bool) (p : Phrase) → nat_le 0 (chain_level c) ≡ true → chain_add c p (block o d true ds ps ∷ k) ≡ Some (chain c (p ∷ []) ∷ block o d true ds ps ∷ k)
    chains_here true p h = refl
    chains_here false p h = refl

-- behind an operator, and behind the marks of a chain
pub place_operator : (op : Operator) (a : Phrase) (b : Bool) (m : ℕ) (k : Stack) → Place false b m k → Place false false (suc (level_of op)) (left_of op a ∷ k)
place_operator op a b m k f = record {
  kind = f.kind;
  values = refl;
  keeps = λ p s e. refl;
  opens = λ t h. ap (λ w. begins w t (left_of op a ∷ k)) f.kind;
  opens_paren = λ at. ap (λ w. begins w (OpenParen at) (left_of op a ∷ k)) f.kind;
  stops = λ n p s h. ap (λ q. if q then reduce n (binary op a p) false k else record { phrase = p; states = s; rest = left_of op a ∷ k }) (above (level_of op) n h);
  allowed = λ n h. refl;
  low = is_low op;
  begins_chain = chains_here;
}
  where
    is_low : (o : Operator) → nat_le (suc (level_of o)) level_of_selection ≡ true
    is_low OrElse = refl
    is_low AndThen = refl
    is_low Plus = refl
    is_low Minus = refl
    is_low Times = refl
    is_low Div = refl
    is_low Mod = refl
    is_low o = refl

    chains_here : (c : Bool) (p : Phrase) → nat_le (suc (level_of op)) (chain_level c) ≡ true → chain_add c p (left_of op a ∷ k) ≡ Some (chain c (p ∷ []) ∷ left_of op a ∷ k)
    chains_here true p h = refl
    chains_here false p h = refl

pub place_chain : (c : Bool) (es : List Phrase) (w b : Bool) (m : ℕ) (k : Stack) → Place w b m k → Place w false (suc (chain_level c)) (chain c es ∷ k)
place_chain true es w b m k f = record {
  kind = f.kind;
  values = refl;
  keeps = λ p s e. refl;
  opens = λ t h. ap (λ v. begins v t (barred es ∷ k)) f.kind;
  opens_paren = λ at. ap (λ v. begins v (OpenParen at) (barred es ∷ k)) f.kind ∙ begins_paren w at (barred es ∷ k);
  stops = λ n p s h. ap (λ q. if q then reduce n (bars (of_list (es ++ p ∷ []))) false k else record { phrase = p; states = s; rest = barred es ∷ k }) (above level_of_bars n h);
  allowed = λ n h. refl;
  low = refl;
  begins_chain = chains_here;
}
  where
    begins_paren : (v : Bool) (at : ℕ) (j : Stack) → begins (kind_by v) (OpenParen at) j ≡ Some (paren_frame v false at ∷ j)
    begins_paren true at j = refl
    begins_paren false at j = refl

    chains_here : (c : Bool) (p : Phrase) → nat_le (suc level_of_bars) (chain_level c) ≡ true → chain_add c p (barred es ∷ k) ≡ Some (chain c (p ∷ []) ∷ barred es ∷ k)
    chains_here true p h = absurd (cc)
    chains_here false p h = refl
place_chain false es w b m k f = record {
  kind = f.kind;
  values = refl;
  keeps = λ p s e. refl;
  opens = λ t h. ap (λ v. begins v t (hashed es ∷ k)) f.kind;
  opens_paren = λ at. ap (λ v. begins v (OpenParen at) (hashed es ∷ k)) f.kind ∙ begins_paren w at (hashed es ∷ k);
  stops = λ n p s h. ap (λ q. if q then reduce n (hashes (of_list (es ++ p ∷ []))) false k else record { phrase = p; states = s; rest = hashed es ∷ k }) (above level_of_hashes n h);
  allowed = λ n h. refl;
  low = refl;
  begins_chain = chains_here;
}
  where
    begins_paren : (v : Bool) (at : ℕ) (j : Stack) → begins (kind_by v) (OpenParen at) j ≡ Some (paren_frame v false at ∷ j)
    begins_paren true at j = refl
    begins_paren false at j = refl

    chains_here : (c : Bool) (p : Phrase) → nat_le (suc level_of_hashes) (chain_level c) ≡ true → chain_add c p (hashed es ∷ k) ≡ Some (chain c (p ∷ []) ∷ hashed es ∷ k)
    chains_here true p h = absurd (cc)
    chains_here false p h = absurd (cc)

-- behind the connective of a statement
pub place_connecting : (c : Connective) (a : Phrase) (k : Stack) → Place false false (right_level c) (connecting c a ∷ k)
place_connecting c a k = record {
  kind = refl;
  values = refl;
  keeps = λ p s e. refl;
  opens = λ t h. refl;
  opens_paren = λ at. refl;
  stops = λ n p s h. refl;
  allowed = λ n h. h;
  low = is_low c;
  begins_chain = chains_here;
}
  where
    is_low : (c : Connective) → nat_le (right_level c) level_of_selection ≡ true
    is_low Equates = refl
    is_low Assigns = refl
    is_low Bounds = refl
    is_low BoundsEach = refl

    chains_here : (q : Bool) (p : Phrase) → nat_le (right_level c) (chain_level q) ≡ true → chain_add q p (connecting c a ∷ k) ≡ Some (chain q (p ∷ []) ∷ connecting c a ∷ k)
    chains_here true p h = guard_true (nat_le (right_level c) level_of_bars) _ h
    chains_here false p h = guard_true (nat_le (right_level c) level_of_hashes) _ h

-- inside of records, lists, parentheses and calls, and where one expression or pattern is to come

pub place_fields : (w : Bool) (l : Literal) (at : ℕ) (fs : List Phrase) (k : Stack) → Place w false 0 (fields w l at fs ∷ k)
place_fields w l at fs k = record {
  kind = refl;
  values = refl;
  keeps = λ p q r. refl;
  opens = opened_here;
  opens_paren = paren_here w;
  stops = λ n p q h. refl;
  allowed = λ n h. refl;
  low = refl;
  begins_chain = chains_here;
}
  where
    opened_here : (t : Token) → Opens w t → next (Some t) (fields w l at fs ∷ k) ≡ begins (kind_by w) t (fields w l at fs ∷ k)
    opened_here CloseParen h = elim h [ ]
    opened_here t h = refl

    paren_here : (v : Bool) (open_at : ℕ) → begins (kind_by v) (OpenParen open_at) (fields w l at fs ∷ k) ≡ Some (paren_frame v false open_at ∷ fields w l at fs ∷ k)
    paren_here true open_at = refl
    paren_here false open_at = refl

    chains_here : (q : Bool) (p : Phrase) → nat_le 0 (chain_level q) ≡ true → chain_add q p (fields w l at fs ∷ k) ≡ Some (chain q (p ∷ []) ∷ fields w l at fs ∷ k)
    chains_here true p h = refl
    chains_here false p h = refl

pub place_key : (w : Bool) (c : Constant) (place : ℕ) (k : Stack) → Place w false 0 (key w c place ∷ k)
place_key w c place k = record {
  kind = refl;
  values = refl;
  keeps = λ p q r. refl;
  opens = λ t h. refl;
  opens_paren = paren_here w;
  stops = λ n p q h. refl;
  allowed = λ n h. refl;
  low = refl;
  begins_chain = chains_here;
}
  where
    paren_here : (v : Bool) (open_at : ℕ) → begins (kind_by v) (OpenParen open_at) (key w c place ∷ k) ≡ Some (paren_frame v false open_at ∷ key w c place ∷ k)
    paren_here true open_at = refl
    paren_here false open_at = refl

    chains_here : (q : Bool) (p : Phrase) → nat_le 0 (chain_level q) ≡ true → chain_add q p (key w c place ∷ k) ≡ Some (chain q (p ∷ []) ∷ key w c place ∷ k)
    chains_here true p h = refl
    chains_here false p h = refl

pub place_listing : (w : Bool) (at : ℕ) (es : List Phrase) (k : Stack) → Place w false 0 (listing w at es ∷ k)
place_listing w at es k = record {
  kind = refl;
  values = refl;
  keeps = λ p q r. refl;
  opens = opened_here;
  opens_paren = paren_here w;
  stops = λ n p q h. refl;
  allowed = λ n h. refl;
  low = refl;
  begins_chain = chains_here;
}
  where
    opened_here : (t : Token) → Opens w t → next (Some t) (listing w at es ∷ k) ≡ begins (kind_by w) t (listing w at es ∷ k)
    opened_here CloseBracket h = elim h [ ]
    opened_here t h = refl

    paren_here : (v : Bool) (open_at : ℕ) → begins (kind_by v) (OpenParen open_at) (listing w at es ∷ k) ≡ Some (paren_frame v false open_at ∷ listing w at es ∷ k)
    paren_here true open_at = refl
    paren_here false open_at = refl

    chains_here : (q : Bool) (p : Phrase) → nat_le 0 (chain_level q) ≡ true → chain_add q p (listing w at es ∷ k) ≡ Some (chain q (p ∷ []) ∷ listing w at es ∷ k)
    chains_here true p h = refl
    chains_here false p h = refl

pub place_enclosing : (w : Bool) (at : ℕ) (k : Stack) → Place w false 0 (enclosing w at ∷ k)
place_enclosing w at k = record {
  kind = refl;
  values = refl;
  keeps = λ p q r. refl;
  opens = λ t h. refl;
  opens_paren = paren_here w;
  stops = λ n p q h. refl;
  allowed = λ n h. refl;
  low = refl;
  begins_chain = chains_here;
}
  where
    paren_here : (v : Bool) (open_at : ℕ) → begins (kind_by v) (OpenParen open_at) (enclosing w at ∷ k) ≡ Some (paren_frame v false open_at ∷ enclosing w at ∷ k)
    paren_here true open_at = refl
    paren_here false open_at = refl

    chains_here : (q : Bool) (p : Phrase) → nat_le 0 (chain_level q) ≡ true → chain_add q p (enclosing w at ∷ k) ≡ Some (chain q (p ∷ []) ∷ enclosing w at ∷ k)
    chains_here true p h = refl
    chains_here false p h = refl

pub place_parts : (at : ℕ) (es : List Phrase) (k : Stack) → Place false false 0 (parts at es ∷ k)
place_parts at es k = record {
  kind = refl;
  values = refl;
  keeps = λ p q r. refl;
  opens = opened_here;
  opens_paren = λ at. refl;
  stops = λ n p q h. refl;
  allowed = λ n h. refl;
  low = refl;
  begins_chain = chains_here;
}
  where
    opened_here : (t : Token) → Opens false t → next (Some t) (parts at es ∷ k) ≡ begins (kind_by false) t (parts at es ∷ k)
    opened_here CloseBrace h = elim h [ ]
    opened_here t h = refl

    chains_here : (q : Bool) (p : Phrase) → nat_le 0 (chain_level q) ≡ true → chain_add q p (parts at es ∷ k) ≡ Some (chain q (p ∷ []) ∷ parts at es ∷ k)
    chains_here true p h = refl
    chains_here false p h = refl

pub place_raising : (at : ℕ) (k : Stack) → Place false false 0 (raising at ∷ k)
place_raising at k = record {
  kind = refl;
  values = refl;
  keeps = λ p q r. refl;
  opens = λ t h. refl;
  opens_paren = λ at. refl;
  stops = λ n p q h. refl;
  allowed = λ n h. refl;
  low = refl;
  begins_chain = chains_here;
}
  where
    chains_here : (q : Bool) (p : Phrase) → nat_le 0 (chain_level q) ≡ true → chain_add q p (raising at ∷ k) ≡ Some (chain q (p ∷ []) ∷ raising at ∷ k)
    chains_here true p h = refl
    chains_here false p h = refl

pub place_testing : (at : ℕ) (s e : Bool) (bs : List Phrase) (k : Stack) → Place false false 0 (testing at s e bs ∷ k)
place_testing at s e bs k = record {
  kind = refl;
  values = refl;
  keeps = λ p q r. refl;
  opens = λ t h. refl;
  opens_paren = λ at. refl;
  stops = λ n p q h. refl;
  allowed = λ n h. refl;
  low = refl;
  begins_chain = chains_here;
}
  where
    chains_here : (q : Bool) (p : Phrase) → nat_le 0 (chain_level q) ≡ true → chain_add q p (testing at s e bs ∷ k) ≡ Some (chain q (p ∷ []) ∷ testing at s e bs ∷ k)
    chains_here true p h = refl
    chains_here false p h = refl

pub place_matching : (at : ℕ) (k : Stack) → Place false false 0 (matching at ∷ k)
place_matching at k = record {
  kind = refl;
  values = refl;
  keeps = λ p q r. refl;
  opens = λ t h. refl;
  opens_paren = λ at. refl;
  stops = λ n p q h. refl;
  allowed = λ n h. refl;
  low = refl;
  begins_chain = chains_here;
}
  where
    chains_here : (q : Bool) (p : Phrase) → nat_le 0 (chain_level q) ≡ true → chain_add q p (matching at ∷ k) ≡ Some (chain q (p ∷ []) ∷ matching at ∷ k)
    chains_here true p h = refl
    chains_here false p h = refl

pub place_patterns : (at : ℕ) (c : Phrase) (s e : Bool) (cs : List Phrase) (k : Stack) → Place true false 0 (patterns at c s e cs ∷ k)
place_patterns at c s e cs k = record {
  kind = refl;
  values = refl;
  keeps = λ p q r. refl;
  opens = λ t h. refl;
  opens_paren = λ at. refl;
  stops = λ n p q h. refl;
  allowed = λ n h. refl;
  low = refl;
  begins_chain = chains_here;
}
  where
    chains_here : (q : Bool) (p : Phrase) → nat_le 0 (chain_level q) ≡ true → chain_add q p (patterns at c s e cs ∷ k) ≡ Some (chain q (p ∷ []) ∷ patterns at c s e cs ∷ k)
    chains_here true p h = refl
    chains_here false p h = refl

pub place_catching : (b : Phrase) (cs : List Phrase) (k : Stack) → Place true false 0 (catching b cs ∷ k)
place_catching b cs k = record {
  kind = refl;
  values = refl;
  keeps = λ p q r. refl;
  opens = λ t h. refl;
  opens_paren = λ at. refl;
  stops = λ n p q h. refl;
  allowed = λ n h. refl;
  low = refl;
  begins_chain = chains_here;
}
  where
    chains_here : (q : Bool) (p : Phrase) → nat_le 0 (chain_level q) ≡ true → chain_add q p (catching b cs ∷ k) ≡ Some (chain q (p ∷ []) ∷ catching b cs ∷ k)
    chains_here true p h = refl
    chains_here false p h = refl

-- in a pattern it makes no difference whether a statement may begin
pattern_place : (b : Bool) (m : ℕ) (k : Stack) → Place true false m k → Place true b m k
pattern_place b m k f = record {
  kind = f.kind;
  values = f.values;
  keeps = f.keeps;
  opens = f.opens;
  opens_paren = f.opens_paren;
  stops = f.stops;
  allowed = f.allowed;
  low = f.low;
  begins_chain = f.begins_chain;
}

pub place_paren : (w b : Bool) (at : ℕ) (k : Stack) → Place w b 0 (paren_frame w b at ∷ k)
place_paren true b at k = pattern_place b 0 (enclosing true at ∷ k) (place_enclosing true at k)
place_paren false true at k = place_block (of_paren at) false [] [] k
place_paren false false at k = place_enclosing false at k
