-- Operands and operators spell their tokens, and leave what is open good.
use Rattle.std.proofs.Common.{◌≡◌, ℕ, zero, suc, List, [], ◌∷◌, ◌++◌, Some, Bool, true, false, ◌&&◌, nat_le, nat_lt, if◌then◌else◌, refl, sym, ap, ◌∙◌, subst, append_assoc}
use Rattle.oz_language.specs.Grammar.{level_of, left_level, level_of_bars, level_of_hashes, level_of_selection, tightest, Phrase, of_list, var, any, int, string, literal, binary, bars, hashes, select, access, fail, tokens_of, at_least_two, is_small, term, terms, feature, accessed, decl}
use Rattle.oz_language.specs.declared.token.Operator.{Operator}
use Rattle.oz_language.specs.declared.token.Token.{Token}
use Rattle.oz_language.specs.declared.token.Token.TheVariants.{Var, Any, Int, String, Literal as Lit, Label, OpenParen, OpenBracket, OpenBrace, Bar, Hash, At, Case, Choice, Fail, Fun, If, Local, Proc, Raise, Thread}
use Rattle.reader_law.specs.Machine.{left_of, barred, hashed, dotted, accessing, Stack, is_some_item, may_state, Kind, expression, pattern, side, kind_of, value, expression_begins, pattern_begins, takes_int, side_begins, begins, operand, feature_begins, access_begins, binds, Reduced, reduce, declares}
use Rattle.reader_law.proofs.Basics.{both, or_true, more_snoc, separated_snoc, level_zero, term_at, terms_snoc}
use Rattle.reader_law.proofs.Good.{spelled, Says, Spot, Stands, is_kind_of_patterns, in_pattern, Expresses, Holds, is_looser, fits_side, Fits, FitsSign, Selects, Has, GoodFrame, Under, Good, Leads, spot_stands, fits_kind, looser_tightest}
use Rattle.reader_law.proofs.SoundBasics.{told, says, guard_leads, fresh_items, holds_encloses, expresses_makes, had_leads, has_tight, value_leads, InSide, in_side, fits_var, fits_int, fits_select, fits_binary, under_good}

-- ---- operands

-- an expression
pub expression_leads : (t : Token) (k : Stack) → Expresses k → Good k → Leads k (t ∷ []) (expression_begins t k)
expression_leads (Var name at) k h g = value_leads false (var name at) false k k (Var name at ∷ []) refl h tt refl refl refl (under_good k g)
expression_leads (Any at) k h g = value_leads false (any at) false k k (Any at ∷ []) refl h tt refl tt refl (under_good k g)
expression_leads (Int i at) k h g = value_leads false (int i at) false k k (Int i at ∷ []) refl h tt refl tt refl (under_good k g)
expression_leads (String s at) k h g = value_leads false (string s at) false k k (String s at ∷ []) refl h tt refl tt refl (under_good k g)
expression_leads (Lit l at) k h g = value_leads false (literal l at) false k k (Lit l at ∷ []) refl h tt refl tt refl (under_good k g)
expression_leads (Label l at) k h g = (refl, ((refl, h), under_good k g))
expression_leads (OpenParen at) k h g = (refl, (holds_encloses false k h, under_good k g))
expression_leads (OpenBracket at) k h g = (refl, ((refl, h), under_good k g))
expression_leads (OpenBrace at) k h g = (refl, ((refl, h), under_good k g))
expression_leads (At at) k h g = (refl, (h, under_good k g))
expression_leads (Fail at) k h g = value_leads false (fail at) true k k (Fail at ∷ []) refl h refl refl tt refl (under_good k g)
expression_leads (Raise at) k h g = (refl, (h, under_good k g))
expression_leads (Proc at) k h g = (refl, (expresses_makes k h, under_good k g))
expression_leads (Fun at) k h g = (refl, (expresses_makes k h, under_good k g))
expression_leads (Local at) k h g = (refl, ((((tt, refl), tt, refl, refl), (h, refl)), under_good k g))
expression_leads (Thread at) k h g = (refl, ((fresh_items, h), under_good k g))
expression_leads (Choice at) k h g = (refl, ((fresh_items, ((h, or_true (may_state k && true)), refl, refl)), under_good k g))
expression_leads (If at) k h g = (refl, (((h, or_true (may_state k && true)), refl, refl), under_good k g))
expression_leads (Case at) k h g = (refl, (h, under_good k g))
expression_leads t k h g = tt

pattern_leads : (t : Token) (k : Stack) → Holds true k → Good k → Leads k (t ∷ []) (pattern_begins t k)
pattern_leads (Var name at) k h g = value_leads true (var name at) false k k (Var name at ∷ []) refl h tt refl refl refl (under_good k g)
pattern_leads (Any at) k h g = value_leads true (any at) false k k (Any at ∷ []) refl h tt refl tt refl (under_good k g)
pattern_leads (Int i at) k h g = value_leads true (int i at) false k k (Int i at ∷ []) refl h tt refl tt refl (under_good k g)
pattern_leads (String s at) k h g = value_leads true (string s at) false k k (String s at ∷ []) refl h tt refl tt refl (under_good k g)
pattern_leads (Lit l at) k h g = value_leads true (literal l at) false k k (Lit l at ∷ []) refl h tt refl tt refl (under_good k g)
pattern_leads (Label l at) k h g = (refl, ((refl, h), under_good k g))
pattern_leads (OpenParen at) k h g = (refl, (holds_encloses true k h, under_good k g))
pattern_leads (OpenBracket at) k h g = (refl, ((refl, h), under_good k g))
pattern_leads t k h g = tt

-- a variable or an integer, on the right side of a relation
factor_leads : (p : Phrase) (k : Stack) → Spot k → kind_of k ≡ side → term false zero p ≡ true → Says (declares p) (decl p ≡ true) → binds p ≡ tightest → fits_side p k ≡ true → Good k → Leads k (tokens_of p) (value p k)
factor_leads p k h i t d b f g =
    had_leads p false true k k (tokens_of p) refl (
      tt,
      subst (λ c. term (is_kind_of_patterns c) zero p ≡ true) (sym i) t,
      d,
      spot_stands (declares p) false k h,
      subst (λ n. is_looser n k ≡ true) (sym b) (looser_tightest k),
      subst (λ c. Fits c p k) (sym i) f,
    )
    (ap (nat_le level_of_selection) b) (under_good k g)

side_leads : (t : Token) (k : Stack) → Spot k → kind_of k ≡ side → Good k → Leads k (t ∷ []) (side_begins t k)
side_leads (Var name at) k h i g = factor_leads (var name at) k h i refl refl refl (fits_var name at k (in_side k (under_good k g) (sym i))) g
side_leads (Int n at) k h i g =
    guard_leads (is_small n && takes_int k) k (Int n at ∷ []) (value (int n at) k) (λ q.
    factor_leads (int n at) k h i refl tt refl (fits_int n at k (in_side k (under_good k g) (sym i)) q) g)
side_leads t k h i g = tt

-- an operand of each kind
begins_leads : (c : Kind) (t : Token) (k : Stack) → Spot k → kind_of k ≡ c → Good k → Leads k (t ∷ []) (begins c t k)
begins_leads expression t k h i g = expression_leads t k (h, i) g
begins_leads pattern t k h i g = pattern_leads t k (h, i) g
begins_leads side t k h i g = side_leads t k h i g

pub operand_leads : (t : Token) (k : Stack) → Spot k → Good k → Leads k (t ∷ []) (operand (Some t) k)
operand_leads t k h g = begins_leads (kind_of k) t k h refl g

-- ---- what is selected, and what is accessed

-- only from expressions is selected
selects_expression : (c : Kind) (a : Phrase) → Selects c a → is_kind_of_patterns c ≡ false
selects_expression expression a h = refl
selects_expression pattern a h = elim h [ ]
selects_expression side a h = refl

fits_selected : (c : Kind) (a p : Phrase) (k : Stack) → Selects c a → Fits c a k → Fits c (select a p) k
fits_selected expression a p k h f = tt
fits_selected pattern a p k h f = tt
fits_selected side a p k h f = fits_select a p k h f

pub select_leads : (a p : Phrase) (k : Stack) → feature p ≡ true → Good (dotted a ∷ k) → Leads (dotted a ∷ k) (tokens_of p) (value p (dotted a ∷ k))
select_leads a p k h g = (
  simp append_assoc,
  (
    (
      (
        tt,
        subst (λ v. term v zero (select a p) ≡ true) (sym (selects_expression (kind_of k) a g.0.3)) (both (term false level_of_selection a) (feature p) g.0.0 h),
        tt,
        spot_stands false false k g.0.1.0,
        looser_tightest k,
        fits_selected (kind_of k) a p k g.0.3 g.0.2,
      ),
      refl,
    ),
    g.1,
  ),
)

pub feature_leads : (t : Token) (a : Phrase) (k : Stack) → Good (dotted a ∷ k) → Leads (dotted a ∷ k) (t ∷ []) (feature_begins (Some t) (dotted a ∷ k))
feature_leads (Var name at) a k g = select_leads a (var name at) k refl g
feature_leads (Int i at) a k g = select_leads a (int i at) k refl g
feature_leads (Lit l at) a k g = select_leads a (literal l at) k refl g
feature_leads (OpenParen at) a k g = (refl, (refl, g))
feature_leads t a k g = tt

pub accessed_leads : (at : ℕ) (p : Phrase) (k : Stack) → accessed p ≡ true → Good (accessing at ∷ k) → Leads (accessing at ∷ k) (tokens_of p) (value p (accessing at ∷ k))
accessed_leads at p k h g = (simp append_assoc, ((has_tight false (access at p) false true k g.0.1 tt (λ x. h) tt (spot_stands false false k g.0.0) refl, refl), g.1))

pub access_leads : (t : Token) (at : ℕ) (k : Stack) → Good (accessing at ∷ k) → Leads (accessing at ∷ k) (t ∷ []) (access_begins (Some t) (accessing at ∷ k))
access_leads (Var name place) at k g = accessed_leads at (var name place) k refl g
access_leads (OpenParen place) at k g = (refl, (refl, g))
access_leads t at k g = tt

-- ---- operators that end

-- only expressions have operators
sign_expression : (c : Kind) (op : Operator) (a : Phrase) (k : Stack) → FitsSign c op a k → is_kind_of_patterns c ≡ false
sign_expression expression op a k h = refl
sign_expression pattern op a k h = elim h [ ]
sign_expression side op a k h = refl

fits_operated : (c : Kind) (op : Operator) (a p : Phrase) (k : Stack) → FitsSign c op a k → Fits c p (left_of op a ∷ k) → (side ≡ c → InSide k) → Fits c (binary op a p) k
fits_operated expression op a p k h i s = tt
fits_operated pattern op a p k h i s = tt
fits_operated side op a p k h i s = fits_binary op a p k h i (s refl)

-- an expression whose flag is true stands on its spot
stands_true : (d s e : Bool) (k : Stack) → e ≡ true → Spot k → Stands d s e k
stands_true d s true k h i = spot_stands d s k i
stands_true d s false k h i = absurd (cc)

-- what stands behind an operator binds tighter
binary_good : (op : Operator) (a p : Phrase) → term false (left_level op) a ≡ true → term false zero p ≡ true → nat_lt (level_of op) (binds p) ≡ true → term false zero (binary op a p) ≡ true
binary_good op a p h i l =
    both (nat_le zero (level_of op)) (term false (left_level op) a && term false (suc (level_of op)) p) (level_zero op)
    (both (term false (left_level op) a) (term false (suc (level_of op)) p) h (term_at false (suc (level_of op)) p i l))

-- what ends with its last operand stands where it began
has_binary : (op : Operator) (a p : Phrase) (s e : Bool) (k : Stack) → Has p s e (left_of op a ∷ k) → GoodFrame (left_of op a) k → Under k → Has (binary op a p) false e k
has_binary op a p s e k h g u =
    let q = sign_expression (kind_of k) op a k g.2 in
    let t : term false zero p ≡ true = subst (λ v. term v zero p ≡ true) q (told e _ h.1 h.3) in (
      tt,
      says e _ (λ x. subst (λ v. term v zero (binary op a p) ≡ true) (sym q) (binary_good op a p g.0 t h.4)),
      tt,
      stands_true false false e k h.3 g.1.0,
      g.1.1,
      fits_operated (kind_of k) op a p k g.2 h.5 (in_side k u),
    )

two_snoc : (es : List Phrase) (p : Phrase) → is_some_item es ≡ true → at_least_two (of_list (es ++ p ∷ [])) ≡ true
two_snoc (e ∷ es) p h = more_snoc es p
two_snoc [] p h = absurd (cc)

has_bars : (es : List Phrase) (p : Phrase) (s e : Bool) (k : Stack) → Has p s e (barred es ∷ k) → GoodFrame (barred es) k → Has (bars (of_list (es ++ p ∷ []))) false e k
has_bars es p s e k h g =
    let w = in_pattern k in
    let xs = of_list (es ++ p ∷ []) in (
      tt,
      says e _ (λ x. both (at_least_two xs) (terms w level_of_hashes xs) (two_snoc es p g.0) (terms_snoc w level_of_hashes es p g.1 (term_at w level_of_hashes p (told e _ h.1 h.3) h.4))),
      tt,
      stands_true false false e k h.3 g.2.0,
      g.2.1,
      fits_kind w (kind_of k) (bars xs) k g.3,
    )

has_hashes : (es : List Phrase) (p : Phrase) (s e : Bool) (k : Stack) → Has p s e (hashed es ∷ k) → GoodFrame (hashed es) k → Has (hashes (of_list (es ++ p ∷ []))) false e k
has_hashes es p s e k h g =
    let w = in_pattern k in
    let xs = of_list (es ++ p ∷ []) in (
      tt,
      says e _ (λ x. both (at_least_two xs) (terms w (suc level_of_hashes) xs) (two_snoc es p g.0) (terms_snoc w (suc level_of_hashes) es p g.1 (term_at w (suc level_of_hashes) p (told e _ h.1 h.3) h.4))),
      tt,
      stands_true false false e k h.3 g.2.0,
      g.2.1,
      fits_kind w (kind_of k) (hashes xs) k g.3,
    )

-- nothing that waits on top binds at least at this level
abbrev pub Stopped : ℕ → Stack → Type 0
Stopped m (left_of op a ∷ k) = nat_le m (level_of op) ≡ false
Stopped m (barred es ∷ k) = nat_le m level_of_bars ≡ false
Stopped m (hashed es ∷ k) = nat_le m level_of_hashes ≡ false
Stopped m k = Unit {0}

-- what is left of a phrase and of what is open, once what binds at least at a level has ended
pub record Reduces (m : ℕ) (p : Phrase) (e : Bool) (k : Stack) (r : Reduced) : Type 0 where
  pub has : Has r.phrase r.states e r.rest
  pub under : Under r.rest
  pub same : spelled r.rest ++ tokens_of r.phrase ≡ spelled k ++ tokens_of p
  pub kind : kind_of r.rest ≡ kind_of k
  pub tight : nat_le m (binds r.phrase) ≡ true
  pub stopped : Stopped m r.rest

-- one operator, or one chain, ends or waits on
reduced_operator : (q : Bool) (m : ℕ) (op : Operator) (a p : Phrase) (s e : Bool) (k : Stack) → nat_le m (level_of op) ≡ q → Has p s e (left_of op a ∷ k) → Under (left_of op a ∷ k) → nat_le m (binds p) ≡ true
    → (Has (binary op a p) false e k → nat_le m (level_of op) ≡ true → Reduces m (binary op a p) e k (reduce m (binary op a p) false k))
    → Reduces m p e (left_of op a ∷ k) (if q then reduce m (binary op a p) false k else record { phrase = p; states = s; rest = left_of op a ∷ k })
reduced_operator false m op a p s e k n h u b f = record { has = h; under = u; same = refl; kind = refl; tight = b; stopped = n }
reduced_operator true m op a p s e k n h u b f =
    let r = f (has_binary op a p s e k h u.0 u.1) n in
    record { has = r.has; under = r.under; same = r.same ∙ simp append_assoc; kind = r.kind; tight = r.tight; stopped = r.stopped }

reduced_bars : (q : Bool) (m : ℕ) (es : List Phrase) (p : Phrase) (s e : Bool) (k : Stack) → nat_le m level_of_bars ≡ q → Has p s e (barred es ∷ k) → Under (barred es ∷ k) → nat_le m (binds p) ≡ true
    → (Has (bars (of_list (es ++ p ∷ []))) false e k → nat_le m level_of_bars ≡ true → Reduces m (bars (of_list (es ++ p ∷ []))) e k (reduce m (bars (of_list (es ++ p ∷ []))) false k))
    → Reduces m p e (barred es ∷ k) (if q then reduce m (bars (of_list (es ++ p ∷ []))) false k else record { phrase = p; states = s; rest = barred es ∷ k })
reduced_bars false m es p s e k n h u b f = record { has = h; under = u; same = refl; kind = refl; tight = b; stopped = n }
reduced_bars true m es p s e k n h u b f =
    let r = f (has_bars es p s e k h u.0) n in
    record { has = r.has; under = r.under; same = r.same ∙ (ap (λ ts. spelled k ++ ts) (separated_snoc Bar es p) ∙ simp append_assoc); kind = r.kind; tight = r.tight; stopped = r.stopped }

reduced_hashes : (q : Bool) (m : ℕ) (es : List Phrase) (p : Phrase) (s e : Bool) (k : Stack) → nat_le m level_of_hashes ≡ q → Has p s e (hashed es ∷ k) → Under (hashed es ∷ k) → nat_le m (binds p) ≡ true
    → (Has (hashes (of_list (es ++ p ∷ []))) false e k → nat_le m level_of_hashes ≡ true → Reduces m (hashes (of_list (es ++ p ∷ []))) e k (reduce m (hashes (of_list (es ++ p ∷ []))) false k))
    → Reduces m p e (hashed es ∷ k) (if q then reduce m (hashes (of_list (es ++ p ∷ []))) false k else record { phrase = p; states = s; rest = hashed es ∷ k })
reduced_hashes false m es p s e k n h u b f = record { has = h; under = u; same = refl; kind = refl; tight = b; stopped = n }
reduced_hashes true m es p s e k n h u b f =
    let r = f (has_hashes es p s e k h u.0) n in
    record { has = r.has; under = r.under; same = r.same ∙ (ap (λ ts. spelled k ++ ts) (separated_snoc Hash es p) ∙ simp append_assoc); kind = r.kind; tight = r.tight; stopped = r.stopped }

pub reduces : (m : ℕ) (p : Phrase) (s e : Bool) (k : Stack) → Has p s e k → Under k → nat_le m (binds p) ≡ true → Reduces m p e k (reduce m p s k)
reduces m p s e (left_of op a ∷ k) h u b = reduced_operator (nat_le m (level_of op)) m op a p s e k refl h u b (λ i n. reduces m (binary op a p) false e k i u.1 n)
reduces m p s e (barred es ∷ k) h u b = reduced_bars (nat_le m level_of_bars) m es p s e k refl h u b (λ i n. reduces m (bars (of_list (es ++ p ∷ []))) false e k i u.1 n)
reduces m p s e (hashed es ∷ k) h u b = reduced_hashes (nat_le m level_of_hashes) m es p s e k refl h u b (λ i n. reduces m (hashes (of_list (es ++ p ∷ []))) false e k i u.1 n)
reduces m p s e [] h u b = record { has = h; under = u; same = refl; kind = refl; tight = b; stopped = tt }
reduces m p s e (f ∷ k) h u b = record { has = h; under = u; same = refl; kind = refl; tight = b; stopped = tt }
