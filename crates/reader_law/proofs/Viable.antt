-- What is open can be completed.
use Rattle.std.proofs.Common.{◌≡◌, ℕ, List, [], ◌∷◌, ◌++◌, Option, Some, None, Bool, true, false, ◌&&◌, ◌||◌, if◌then◌else◌, refl, ap, sym, ◌∙◌}
use Rattle.oz_language.specs.Grammar.{Phrase, more, nothing, of_list, var, dollar, rec, keyed, list, paren, binary, bars, hashes, select, access, skip, raise, connected, relate, call, head, proc, fun, local, thread, choice, when, choose, arm, cases, cases_or, clause, attempt, is_var, is_named_head, is_value_head}
use Rattle.oz_language.specs.declared.token.Operator.{Operator}
use Rattle.oz_language.specs.declared.token.Token.{Token}
use Rattle.oz_language.specs.declared.token.Connective.{Connective}
use Rattle.oz_language.specs.declared.token.Token.TheVariants.{Var, CloseParen, CloseBracket, OpenBrace, CloseBrace, Equals, Dollar, Catch, Else, End, In, Of, Skip, Then}
use Rattle.oz_language.specs.declared.token.Operator.TheVariants.{OrElse, AndThen, Plus, Minus, Times, Div, Mod}
use Rattle.oz_language.specs.declared.token.Connective.TheVariants.{Equates, Assigns, Bounds, BoundsEach}
use Rattle.reader_law.specs.Machine.{Opener, program, declaring, of_local, of_proc, of_fun, of_thread, of_choice, of_then, of_else, of_clause, of_case_else, of_try, of_catch, of_paren, Maker, making_proc, making_fun, Frame, block, whole, left_of, barred, hashed, dotted, accessing, connecting, relating, fields, key, listing, enclosing, parts, heading, heads, raising, testing, matching, patterns, catching, accepted, Stack, guard, bind, is_some_item, body_of, may_state, Kind, expression, pattern, side, kind_of, had, is_alive, begins, operand, in_block, shift_in, accepted_of, is_operator, settled, after, enter_body, declares, step, run, finish}
use Rattle.reader_law.proofs.Basics.{both, or_true, and_true, guard_true, some_snoc}
use Rattle.reader_law.proofs.Good.{Spot, Stands, Connects, Makes, GoodOpener, Under, Good, spot_stands}

-- the first token does not go on with a phrase by an operator
abbrev pub IsPlain : List Token → Type 0
IsPlain [] = Unit {0}
IsPlain (t ∷ ts) = is_operator t ≡ false

-- some tokens make a program of what is open
pub record Completes (k : Stack) : Type 0 where
  pub by : List Token
  pub program : Phrase
  pub plain : IsPlain by
  pub ends : bind (run (Some k) by) finish ≡ Some program

-- a token leads to what can be completed
by_step : (t : Token) {j k : Stack} → is_operator t ≡ false → step t j ≡ Some k → Completes k → Completes j
by_step t p e c = record {
  by = t ∷ c.by;
  program = c.program;
  plain = p;
  ends = ap (λ o. bind (run o c.by) finish) e ∙ c.ends;
}

-- what stands whole on this can be completed
abbrev Goes : Stack → Type 0
Goes k = (p : Phrase) (s e : Bool) → Stands (declares p) s e k → Completes (whole p s e ∷ k)

-- ---- where something stands

-- what stands here whole is had as it is
had_stands : (p : Phrase) (s e a b c : Bool) (k : Stack) → Stands a b c k → had p s e k ≡ whole p s e ∷ k
had_stands p s e a b c (dotted q ∷ k) h = elim h [ ]
had_stands p s e a b c (accessing at ∷ k) h = elim h [ ]
had_stands p s e a b c [] h = refl
had_stands p s e a b c (f ∷ k) h = refl

-- a token leads to a phrase that stands here
by_had : (t : Token) (j : Stack) (p : Phrase) (s e : Bool) (k : Stack) → is_operator t ≡ false → Stands (declares p) s e k → step t j ≡ Some (had p s e k) → Goes k → Completes j
by_had t j p s e k o h i f = by_step t o (i ∙ ap Some (had_stands p s e (declares p) s e k h)) (f p s e h)

pub alive_stands : (d s e : Bool) (k : Stack) → Spot k → is_alive s e k ≡ true → Stands d s e k
alive_stands d s e (block o bd true ds ps ∷ k) h i = ap (λ b. b || (bd && d)) i
alive_stands d s e (block o bd false ds ps ∷ k) h i = absurd (cc)
alive_stands d s e [] h i = h
alive_stands d s e (whole p s' e' ∷ k) h i = h
alive_stands d s e (dotted a ∷ k) h i = h
alive_stands d s e (accessing at ∷ k) h i = h
alive_stands d s e (heading m ∷ k) h i = h
alive_stands d s e (heads m at hs ∷ k) h i = h
alive_stands d s e (accepted p ∷ k) h i = h
alive_stands d s e (f ∷ k) h i = i

none_alive : (b : Bool) → (b && false) || false ≡ true → ⊥
none_alive true h = absurd (cc)
none_alive false h = absurd (cc)

states : (b : Bool) → (b && true) || false ≡ true → b ≡ true
states true h = refl
states false h = absurd (cc)

pub state_stands : (d e : Bool) (k : Stack) → may_state k ≡ true → Stands d true e k
state_stands d e (block o bd true ds ps ∷ k) h = refl
state_stands d e (block o bd false ds ps ∷ k) h = absurd (cc)
state_stands d e [] h = absurd (cc)
state_stands d e (f ∷ k) h = absurd (cc)

-- ---- where blocks stand

-- a construct whose block this is may stand here. Declarations of a `local` are no statements, and statements in parentheses no
-- declarations
abbrev Ends : Opener → Bool → Bool → Stack → Type 0
Ends program d s [] = Unit {0}
Ends program d s (f ∷ k) = ⊥
Ends (declaring at) d s k = Spot k × (s ≡ false)
Ends (of_local at ls) d s k = Spot k
Ends (of_proc at h) d s k = Stands (is_named_head h) (is_named_head h) (is_value_head h) k
Ends (of_fun at lazy h) d s k = Stands (is_named_head h) (is_named_head h) (is_value_head h) k
Ends (of_thread at) d s k = Spot k
Ends (of_choice at sb eb bs) d s k = Spot k × (is_alive sb eb k ≡ true)
Ends (of_then at sb eb bs c) d s k = Spot k × (is_alive sb eb k ≡ true)
Ends (of_else at sb eb bs) d s k = Spot k × (is_alive sb eb k ≡ true)
Ends (of_clause at c sb eb cs p) d s k = Spot k × (is_alive sb eb k ≡ true)
Ends (of_case_else at c sb eb cs) d s k = Spot k × (is_alive sb eb k ≡ true)
Ends of_try d s k = may_state k ≡ true
Ends (of_catch b cs p) d s k = may_state k ≡ true
Ends (of_paren at) d s k = (may_state k ≡ true) × (d ≡ false)

good_ends : (o : Opener) (d s : Bool) (ds : List Phrase) (k : Stack) → GoodOpener o d s ds k → Ends o d s k
good_ends program d s ds [] g = tt
good_ends program d s ds (f ∷ k) g = g
good_ends (declaring at) d s ds k g = (g.0.0, g.1)
good_ends (of_local at ls) d s ds k g = g.0.0
good_ends (of_proc at h) d s ds k g = g.0
good_ends (of_fun at lazy h) d s ds k g = g.0
good_ends (of_thread at) d s ds k g = g.0
good_ends (of_choice at sb eb bs) d s ds k g = (g.0.0.0, g.0.1)
good_ends (of_then at sb eb bs c) d s ds k g = (g.0.0.0, g.0.1)
good_ends (of_else at sb eb bs) d s ds k g = (g.0.0.0, g.0.1)
good_ends (of_clause at c sb eb cs p) d s ds k g = (g.0.0.0, g.0.1)
good_ends (of_case_else at c sb eb cs) d s ds k g = (g.0.0.0, g.0.1)
good_ends of_try d s ds k g = g
good_ends (of_catch b cs p) d s ds k g = g.0
good_ends (of_paren at) d s ds k g = (g.0, g.2)

-- ---- the ends of blocks

-- the last phrase of a block
abbrev with_skip : Opener → Bool → List Phrase → List Phrase → Stack → Stack
with_skip o d ds ps k = whole skip true false ∷ block o d true ds ps ∷ k

abbrev with_value : Opener → Bool → List Phrase → List Phrase → Stack → Stack
with_value o d ds ps k = whole (var 0 0) false true ∷ block o d true ds ps ∷ k

-- `end` behind a value makes an expression
ends_value : (j : Stack) (p : Phrase) (s : Bool) (k : Stack) → Spot k → step End j ≡ guard (is_alive s true k) (Some (had p s true k)) → Goes k → Completes j
ends_value j p s k h e f = by_had End j p s true k refl (spot_stands (declares p) s k h) (e ∙ guard_true (is_alive s true k) _ (or_true (may_state k && s))) f

-- and behind a statement it makes a statement
ends_statement : (t : Token) (j : Stack) (p : Phrase) (k : Stack) → is_operator t ≡ false → Spot k → is_alive true false k ≡ true → step t j ≡ guard (is_alive true false k) (Some (had p true false k)) → Goes k → Completes j
ends_statement t j p k o h i e f = by_had t j p true false k o (alive_stands (declares p) true false k h i) (e ∙ guard_true (is_alive true false k) _ i) f

-- a value for the `else` of an `if`
value_else : (at : ℕ) (s d : Bool) (bs ds ps : List Phrase) (k : Stack) → Spot k → Goes k → Completes (with_value (of_else at s true bs) d ds ps k)
value_else at s d bs ds ps k h f = ends_value (with_value (of_else at s true bs) d ds ps k) (choose at (of_list bs) (body_of ds (ps ++ var 0 0 ∷ []))) (s && false) k h refl f

value_then : (at : ℕ) (s d : Bool) (bs : List Phrase) (c : Phrase) (ds ps : List Phrase) (k : Stack) → Spot k → Goes k → Completes (with_value (of_then at s true bs c) d ds ps k)
value_then at s d bs c ds ps k h f =
    let xs = bs ++ arm c (body_of ds (ps ++ var 0 0 ∷ [])) ∷ [] in
    by_step Else refl (guard_true (is_alive (s && false) true k) (Some (block (of_else at (s && false) true xs) true true [] [] ∷ k)) (or_true (may_state k && (s && false))))
    (by_step (Var 0 0) refl refl (value_else at (s && false) true xs [] [] k h f))

-- a value among statements
to_value : (o : Opener) (d : Bool) (ds ps : List Phrase) (k : Stack) → ((d : Bool) (ps : List Phrase) → Completes (with_value o d ds ps k)) → Completes (with_skip o d ds ps k)
to_value o d ds ps k c = by_step (Var 0 0) refl (guard_true ((d && false) || true) (Some (with_value o (d && false) ds (ps ++ skip ∷ []) k)) (or_true (d && false))) (c (d && false) (ps ++ skip ∷ []))

-- statements in parentheses
complete_paren : (at : ℕ) (d : Bool) (ds ps : List Phrase) (k : Stack) → may_state k ≡ true → Goes k → Completes (with_skip (of_paren at) d ds ps k)
complete_paren at d ds ps (block o d' true ds' ps' ∷ k) h f =
    let qs = ps ++ skip ∷ [] in
    let j = block o d' true ds' ps' ∷ k in
    by_step CloseParen refl (guard_true (is_some_item qs || false) (Some (whole (paren at (of_list qs)) (is_some_item qs) false ∷ j)) (ap (λ b. b || false) (some_snoc ps skip)))
    (f (paren at (of_list qs)) (is_some_item qs) false (ap (λ b. (b || false) || (d' && false)) (some_snoc ps skip)))
complete_paren at d ds ps (block o d' false ds' ps' ∷ k) h f = absurd (cc)
complete_paren at d ds ps [] h f = absurd (cc)
complete_paren at d ds ps (x ∷ k) h f = absurd (cc)

-- a block of statements
complete_stated : (o : Opener) (d' : Bool) (k : Stack) → Ends o d' true k → Goes k → (d : Bool) (ds ps : List Phrase) → Completes (with_skip o d ds ps k)
complete_stated program d' [] h f d ds ps = record { by = []; program = body_of ds (ps ++ skip ∷ []); plain = tt; ends = refl }
complete_stated program d' (x ∷ k) h f d ds ps = elim h [ ]
complete_stated (declaring at) d' k h f d ds ps = absurd (cc (h.1))
complete_stated (of_local at ls) d' k h f d ds ps =
    to_value (of_local at ls) d ds ps k (λ d ps. ends_value (with_value (of_local at ls) d ds ps k) (local at (of_list ls) (body_of ds (ps ++ var 0 0 ∷ []))) false k h refl f)
complete_stated (of_proc at i) d' k h f d ds ps = by_had End (with_skip (of_proc at i) d ds ps k) (proc at i (body_of ds (ps ++ skip ∷ []))) (is_named_head i) (is_value_head i) k refl h refl f
complete_stated (of_fun at lazy i) d' k h f d ds ps =
    to_value (of_fun at lazy i) d ds ps k
    (λ d ps. by_had End (with_value (of_fun at lazy i) d ds ps k) (fun at lazy i (body_of ds (ps ++ var 0 0 ∷ []))) (is_named_head i) (is_value_head i) k refl h refl f)
complete_stated (of_thread at) d' k h f d ds ps =
    to_value (of_thread at) d ds ps k (λ d ps. ends_value (with_value (of_thread at) d ds ps k) (thread at (body_of ds (ps ++ var 0 0 ∷ []))) false k h refl f)
complete_stated (of_choice at s true bs) d' k h f d ds ps =
    to_value (of_choice at s true bs) d ds ps k
    (λ d ps. ends_value (with_value (of_choice at s true bs) d ds ps k) (choice at (of_list (bs ++ body_of ds (ps ++ var 0 0 ∷ []) ∷ []))) (s && false) k h.0 refl f)
complete_stated (of_choice at true false bs) d' k h f d ds ps =
    ends_statement End (with_skip (of_choice at true false bs) d ds ps k) (choice at (of_list (bs ++ body_of ds (ps ++ skip ∷ []) ∷ []))) k refl h.0 h.1 refl f
complete_stated (of_choice at false false bs) d' k h f d ds ps = absurd (none_alive (may_state k) h.1)
complete_stated (of_then at s true bs c) d' k h f d ds ps = to_value (of_then at s true bs c) d ds ps k (λ d ps. value_then at s d bs c ds ps k h.0 f)
complete_stated (of_then at true false bs c) d' k h f d ds ps =
    let p = when at (of_list (bs ++ arm c (body_of ds (ps ++ skip ∷ [])) ∷ [])) in
    by_had End (with_skip (of_then at true false bs c) d ds ps k) p true false k refl (alive_stands false true false k h.0 h.1)
    (guard_true (may_state k && true) (Some (had p true false k)) (and_true (may_state k) ∙ states (may_state k) h.1)) f
complete_stated (of_then at false false bs c) d' k h f d ds ps = absurd (none_alive (may_state k) h.1)
complete_stated (of_else at s true bs) d' k h f d ds ps = to_value (of_else at s true bs) d ds ps k (λ d ps. value_else at s d bs ds ps k h.0 f)
complete_stated (of_else at true false bs) d' k h f d ds ps =
    ends_statement End (with_skip (of_else at true false bs) d ds ps k) (choose at (of_list bs) (body_of ds (ps ++ skip ∷ []))) k refl h.0 h.1 refl f
complete_stated (of_else at false false bs) d' k h f d ds ps = absurd (none_alive (may_state k) h.1)
complete_stated (of_clause at c s true cs p) d' k h f d ds ps =
    to_value (of_clause at c s true cs p) d ds ps k
    (λ d ps. ends_value (with_value (of_clause at c s true cs p) d ds ps k) (cases at c (of_list (cs ++ clause p (body_of ds (ps ++ var 0 0 ∷ [])) ∷ []))) (s && false) k h.0 refl f)
complete_stated (of_clause at c true false cs p) d' k h f d ds ps =
    ends_statement End (with_skip (of_clause at c true false cs p) d ds ps k) (cases at c (of_list (cs ++ clause p (body_of ds (ps ++ skip ∷ [])) ∷ []))) k refl h.0 h.1 refl f
complete_stated (of_clause at c false false cs p) d' k h f d ds ps = absurd (none_alive (may_state k) h.1)
complete_stated (of_case_else at c s true cs) d' k h f d ds ps =
    to_value (of_case_else at c s true cs) d ds ps k
    (λ d ps. ends_value (with_value (of_case_else at c s true cs) d ds ps k) (cases_or at c (of_list cs) (body_of ds (ps ++ var 0 0 ∷ []))) (s && false) k h.0 refl f)
complete_stated (of_case_else at c true false cs) d' k h f d ds ps =
    ends_statement End (with_skip (of_case_else at c true false cs) d ds ps k) (cases_or at c (of_list cs) (body_of ds (ps ++ skip ∷ []))) k refl h.0 h.1 refl f
complete_stated (of_case_else at c false false cs) d' k h f d ds ps = absurd (none_alive (may_state k) h.1)
complete_stated of_try d' k h f d ds ps =
    let b = body_of ds (ps ++ skip ∷ []) in
    by_step Catch refl refl
    (by_step (Var 0 0) {j = catching b [] ∷ k} refl refl
    (by_step Then {j = whole (var 0 0) false true ∷ catching b [] ∷ k} refl refl
    (by_had End (block (of_catch b [] (var 0 0)) true true [] [] ∷ k) (attempt b (of_list (clause (var 0 0) (body_of [] []) ∷ []))) true false k refl (state_stands false false k h) refl f)))
complete_stated (of_catch b cs p) d' k h f d ds ps =
    by_had End (with_skip (of_catch b cs p) d ds ps k) (attempt b (of_list (cs ++ clause p (body_of ds (ps ++ skip ∷ [])) ∷ []))) true false k refl (state_stands false false k h) refl f
complete_stated (of_paren at) d' k h f d ds ps = complete_paren at d ds ps k h.0 f

-- a block where statements may stand
complete_open : (o : Opener) (d' : Bool) (k : Stack) → Ends o d' true k → Goes k → (d : Bool) (ds ps : List Phrase) → Completes (block o d true ds ps ∷ k)
complete_open o d' k h f d ds ps = by_step Skip refl refl (complete_stated o d' k h f d ds ps)

-- `in` behind declarations
complete_entered : (o : Opener) (d s : Bool) (ps : List Phrase) (k j : Stack) → d ≡ true → Ends o d s k → step In j ≡ enter_body o ps k → Goes k → Completes j
complete_entered program d s ps [] j q h e f = by_step In refl e (complete_open program d [] tt f false ps [])
complete_entered program d s ps (x ∷ k) j q h e f = elim h [ ]
complete_entered (declaring at) d s ps k j q h e f = by_step In refl e (complete_open (of_local at ps) d k h.0 f true [] [])
complete_entered (of_local at ls) d s ps k j q h e f = by_step In refl e (complete_open (of_local at ls) d k h f false ps [])
complete_entered (of_proc at i) d s ps k j q h e f = by_step In refl e (complete_open (of_proc at i) d k h f false ps [])
complete_entered (of_fun at lazy i) d s ps k j q h e f = by_step In refl e (complete_open (of_fun at lazy i) d k h f false ps [])
complete_entered (of_thread at) d s ps k j q h e f = by_step In refl e (complete_open (of_thread at) d k h f false ps [])
complete_entered (of_choice at sb eb bs) d s ps k j q h e f = by_step In refl e (complete_open (of_choice at sb eb bs) d k h f false ps [])
complete_entered (of_then at sb eb bs c) d s ps k j q h e f = by_step In refl e (complete_open (of_then at sb eb bs c) d k h f false ps [])
complete_entered (of_else at sb eb bs) d s ps k j q h e f = by_step In refl e (complete_open (of_else at sb eb bs) d k h f false ps [])
complete_entered (of_clause at c sb eb cs p) d s ps k j q h e f = by_step In refl e (complete_open (of_clause at c sb eb cs p) d k h f false ps [])
complete_entered (of_case_else at c sb eb cs) d s ps k j q h e f = by_step In refl e (complete_open (of_case_else at c sb eb cs) d k h f false ps [])
complete_entered of_try d s ps k j q h e f = by_step In refl e (complete_open of_try d k h f false ps [])
complete_entered (of_catch b cs p) d s ps k j q h e f = by_step In refl e (complete_open (of_catch b cs p) d k h f false ps [])
complete_entered (of_paren at) d s ps k j q h e f = absurd (cc (h.1))

-- a declaration among declarations
complete_declared : (p : Phrase) (s e : Bool) (o : Opener) (d b : Bool) (ds ps : List Phrase) (k : Stack) → d && declares p ≡ true → Ends o d b k → Goes k → Completes (whole p s e ∷ block o d b ds ps ∷ k)
complete_declared p s e o true b ds ps k i h f =
    let qs = ps ++ p ∷ [] in
    complete_entered o true b qs k (whole p s e ∷ block o true b ds ps ∷ k) refl h (guard_true (declares p && is_some_item qs) (enter_body o qs k) (both (declares p) (is_some_item qs) i (some_snoc ps p))) f
complete_declared p s e o false b ds ps k i h f = absurd (cc)

-- ---- operators

after_plain : (t : Token) (p : Phrase) (s e : Bool) (k : Stack) → is_operator t ≡ false → after (Some t) p s e k ≡ settled (Some t) p s e k
after_plain t p s e k h = ap (λ b. if b then guard e (shift_in (kind_of k) t p s k) else settled (Some t) p s e k) h

-- what ends with an operand
record Same (p q : Phrase) (s r e : Bool) (j k : Stack) : Type 0 where
  is : (t : Option Token) → settled t p s e j ≡ settled t q r e k

same_ends : (p q : Phrase) (s r e : Bool) (j k : Stack) → Same p q s r e j k → (ts : List Token) → IsPlain ts → bind (run (Some (whole p s e ∷ j)) ts) finish ≡ bind (run (Some (whole q r e ∷ k)) ts) finish
same_ends p q s r e j k i [] h = ap (λ o. bind o accepted_of) (i.is None)
same_ends p q s r e j k i (t ∷ ts) h = ap (λ o. bind (run o ts) finish) (after_plain t p s e j h ∙ i.is (Some t) ∙ sym (after_plain t q r e k h))

completes_same : (p q : Phrase) (s r e : Bool) (j k : Stack) → Same p q s r e j k → Completes (whole q r e ∷ k) → Completes (whole p s e ∷ j)
completes_same p q s r e j k i c = record {
  by = c.by;
  program = c.program;
  plain = c.plain;
  ends = same_ends p q s r e j k i c.by c.plain ∙ c.ends;
}

same_operator : (op : Operator) (a p : Phrase) (s e : Bool) (k : Stack) → Same p (binary op a p) s false e (left_of op a ∷ k) k
same_operator OrElse a p s e k = record { is = λ t. refl }
same_operator AndThen a p s e k = record { is = λ t. refl }
same_operator Plus a p s e k = record { is = λ t. refl }
same_operator Minus a p s e k = record { is = λ t. refl }
same_operator Times a p s e k = record { is = λ t. refl }
same_operator Div a p s e k = record { is = λ t. refl }
same_operator Mod a p s e k = record { is = λ t. refl }
same_operator op a p s e k = record { is = λ t. refl }

-- ---- phrases in blocks

complete_in_block : (p : Phrase) (s e : Bool) (o : Opener) (d b : Bool) (ds ps : List Phrase) (k : Stack) → Stands (declares p) s e (block o d b ds ps ∷ k) → Ends o d b k → Goes k → Completes (whole p s e ∷ block o d b ds ps ∷ k)
complete_in_block p true e o d true ds ps k h i f = by_step Skip refl refl (complete_stated o d k i f (d && declares p) ds (ps ++ p ∷ []))
complete_in_block p false true o d true ds ps k h i f =
    by_step Equals refl refl
    (by_step (Var 0 0) {j = connecting Equates p ∷ block o d true ds ps ∷ k} refl refl
    (by_step Skip {j = whole (var 0 0) false true ∷ connecting Equates p ∷ block o d true ds ps ∷ k} refl refl (complete_stated o d k i f (d && is_var p) ds (ps ++ connected Equates p (var 0 0) ∷ []))))
complete_in_block p false false o d true ds ps k h i f = complete_declared p false false o d true ds ps k h i f
complete_in_block p s e o d false ds ps k h i f = complete_declared p s e o d false ds ps k h i f

-- the right side of a statement, or of a declaration
complete_right : (c : Connective) (a p : Phrase) (s : Bool) (o : Opener) (d b : Bool) (ds ps : List Phrase) (k : Stack) → Connects c a (block o d b ds ps ∷ k) → Ends o d b k → Goes k
    → Completes (whole p s true ∷ connecting c a ∷ block o d b ds ps ∷ k)
complete_right c a p s o d true ds ps k h i f = by_step Skip refl refl (complete_stated o d k i f (d && declares (connected c a p)) ds (ps ++ connected c a p ∷ []))
complete_right Equates a p s o true false ds ps k h i f =
    let qs = ps ++ connected Equates a p ∷ [] in
    complete_entered o true false qs k (whole p s true ∷ connecting Equates a ∷ block o true false ds ps ∷ k) refl i (guard_true (is_var a && is_some_item qs) (enter_body o qs k) (both (is_var a) (is_some_item qs) h (some_snoc ps (connected Equates a p)))) f
complete_right Equates a p s o false false ds ps k h i f = absurd (cc)
complete_right Assigns a p s o d false ds ps k h i f = absurd (cc)
complete_right Bounds a p s o d false ds ps k h i f = absurd (cc)
complete_right BoundsEach a p s o d false ds ps k h i f = absurd (cc)

no_connects : (c : Connective) (a : Phrase) (k : Stack) → in_block k ≡ false → Connects c a k → ⊥
no_connects c a (block o d s ds ps ∷ k) i h = absurd (cc)
no_connects Equates a [] i h = absurd (cc)
no_connects Equates a (f ∷ k) i h = absurd (cc)
no_connects Assigns a [] i h = absurd (cc)
no_connects Assigns a (f ∷ k) i h = absurd (cc)
no_connects Bounds a [] i h = absurd (cc)
no_connects Bounds a (f ∷ k) i h = absurd (cc)
no_connects BoundsEach a [] i h = absurd (cc)
no_connects BoundsEach a (f ∷ k) i h = absurd (cc)

-- ---- phrases elsewhere

complete_whole : (k : Stack) → Under k → (p : Phrase) (s e : Bool) → Stands (declares p) s e k → Completes (whole p s e ∷ k)
complete_whole [] u p s e h = elim h [ ]
complete_whole (block o d b ds ps ∷ k) u p s e h = complete_in_block p s e o d b ds ps k h (good_ends o d b ds k u.0.1) (complete_whole k u.1)
complete_whole (left_of op a ∷ k) u p s true h =
    completes_same p (binary op a p) s false true (left_of op a ∷ k) k (same_operator op a p s true k) (complete_whole k u.1 (binary op a p) false true (spot_stands false false k u.0.1.0))
complete_whole (barred es ∷ k) u p s true h =
    let q = bars (of_list (es ++ p ∷ [])) in
    completes_same p q s false true (barred es ∷ k) k (record { is = λ t. refl }) (complete_whole k u.1 q false true (spot_stands false false k u.0.2.0))
complete_whole (hashed es ∷ k) u p s true h =
    let q = hashes (of_list (es ++ p ∷ [])) in
    completes_same p q s false true (hashed es ∷ k) k (record { is = λ t. refl }) (complete_whole k u.1 q false true (spot_stands false false k u.0.2.0))
complete_whole (connecting c a ∷ block o d b ds ps ∷ k) u p s true h = complete_right c a p s o d b ds ps k u.0.1 (good_ends o d b ds k u.1.0.1) (complete_whole k u.1.1)
complete_whole (connecting c a ∷ []) u p s true h = absurd (no_connects c a [] refl u.0.1)
complete_whole (connecting c a ∷ f ∷ k) u p s true h = absurd (no_connects c a (f ∷ k) refl u.0.1)
complete_whole (relating r a ∷ block o d true ds ps ∷ k) u p s true h = by_step Skip refl refl (complete_stated o d k (good_ends o d true ds k u.1.0.1) (complete_whole k u.1.1) (d && false) ds (ps ++ relate r a p ∷ []))
complete_whole (relating r a ∷ block o d false ds ps ∷ k) u p s true h = absurd (cc (u.0.3))
complete_whole (relating r a ∷ []) u p s true h = absurd (cc (u.0.3))
complete_whole (relating r a ∷ f ∷ k) u p s true h = absurd (cc (u.0.3))
complete_whole (fields w l at fs ∷ k) u p s true h =
    by_had CloseParen (whole p s true ∷ fields w l at fs ∷ k) (rec l at (of_list (fs ++ p ∷ []))) false true k refl (spot_stands false false k u.0.1.0) refl (complete_whole k u.1)
complete_whole (key w c place ∷ fields v l at fs ∷ k) u p s true h =
    by_had CloseParen (whole p s true ∷ key w c place ∷ fields v l at fs ∷ k) (rec l at (of_list (fs ++ keyed c place p ∷ []))) false true k refl (spot_stands false false k u.1.0.1.0) refl (complete_whole k u.1.1)
complete_whole (key w c place ∷ []) u p s true h = elim u.0 [ ]
complete_whole (key w c place ∷ f ∷ k) u p s true h = elim u.0 [ ]
complete_whole (listing w at es ∷ k) u p s true h =
    let q = list at (of_list (es ++ p ∷ [])) in
    by_had CloseBracket (whole p s true ∷ listing w at es ∷ k) q false true k refl (spot_stands false false k u.0.1.0) (guard_true (is_some_item (es ++ p ∷ [])) (Some (had q false true k)) (some_snoc es p)) (complete_whole k u.1)
complete_whole (enclosing w at ∷ dotted a ∷ k) u p s true h =
    let q = select a (paren at (more p nothing)) in
    by_step CloseParen refl refl (complete_whole k u.1.1 q false true (spot_stands false false k u.1.0.1.0))
complete_whole (enclosing w at ∷ accessing place ∷ k) u p s true h =
    let q = access place (paren at (more p nothing)) in
    by_step CloseParen refl refl (complete_whole k u.1.1 q false true (spot_stands false false k u.1.0.0))
complete_whole (enclosing w at ∷ []) u p s true h = elim u.0.0 [ ]
complete_whole (enclosing w at ∷ f ∷ k) u p s true h =
    by_had CloseParen (whole p s true ∷ enclosing w at ∷ f ∷ k) (paren at (more p nothing)) s true (f ∷ k) refl (spot_stands false s (f ∷ k) u.0.0) refl (complete_whole (f ∷ k) u.1)
complete_whole (parts at es ∷ k) u p s true h =
    let q = call at (of_list (es ++ p ∷ [])) in
    by_had CloseBrace (whole p s true ∷ parts at es ∷ k) q true true k refl (spot_stands false true k u.0.1.0) (guard_true (is_some_item (es ++ p ∷ [])) (Some (had q true true k)) (some_snoc es p)) (complete_whole k u.1)
complete_whole (raising at ∷ k) u p s true h = by_had End (whole p s true ∷ raising at ∷ k) (raise at p) true true k refl (spot_stands false true k u.0.0) refl (complete_whole k u.1)
complete_whole (testing at sb eb bs ∷ k) u p s true h = by_step Then refl refl (complete_open (of_then at sb eb bs p) true k (u.0.0.0.0, u.0.0.1) (complete_whole k u.1) true [] [])
complete_whole (matching at ∷ k) u p s true h =
    by_step Of refl refl
    (by_step (Var 0 0) {j = patterns at p true true [] ∷ k} refl refl
    (by_step Then {j = whole (var 0 0) false true ∷ patterns at p true true [] ∷ k} refl refl
    (complete_open (of_clause at p true true [] (var 0 0)) true k (u.0.0, or_true (may_state k && true)) (complete_whole k u.1) true [] [])))
complete_whole (patterns at c sb eb cs ∷ k) u p s true h = by_step Then refl refl (complete_open (of_clause at c sb eb cs p) true k (u.0.0.0.0, u.0.0.1) (complete_whole k u.1) true [] [])
complete_whole (catching b cs ∷ k) u p s true h = by_step Then refl refl (complete_open (of_catch b cs p) true k u.0.0 (complete_whole k u.1) true [] [])
complete_whole (whole q s' e' ∷ k) u p s e h = elim h [ ]
complete_whole (dotted a ∷ k) u p s e h = elim h [ ]
complete_whole (accessing at ∷ k) u p s e h = elim h [ ]
complete_whole (heading m ∷ k) u p s e h = elim h [ ]
complete_whole (heads m at hs ∷ k) u p s e h = elim h [ ]
complete_whole (accepted q ∷ k) u p s e h = elim h [ ]
complete_whole (f ∷ k) u p s false h = absurd (cc)

-- ---- all frames

begins_var : (c : Kind) (k : Stack) → begins c (Var 0 0) k ≡ Some (had (var 0 0) false true k)
begins_var expression k = refl
begins_var pattern k = refl
begins_var side k = refl

-- a variable where an operand is to come
complete_operand : (k : Stack) → Under k → Stands true false true k → step (Var 0 0) k ≡ operand (Some (Var 0 0)) k → Completes k
complete_operand k u h e = by_had (Var 0 0) k (var 0 0) false true k refl h (e ∙ begins_var (kind_of k) k) (complete_whole k u)

complete_made : (m : Maker) (at : ℕ) (h : Phrase) (hs : List Phrase) (k : Stack) → Under k → Stands (is_named_head (head at (of_list (h ∷ hs)))) (is_named_head (head at (of_list (h ∷ hs)))) (is_value_head (head at (of_list (h ∷ hs)))) k
    → Completes (heads m at (h ∷ hs) ∷ k)
complete_made (making_proc place) at h hs k u i = by_step CloseBrace refl refl (complete_open (of_proc place (head at (of_list (h ∷ hs)))) true k i (complete_whole k u) true [] [])
complete_made (making_fun place lazy) at h hs k u i = by_step CloseBrace refl refl (complete_open (of_fun place lazy (head at (of_list (h ∷ hs)))) true k i (complete_whole k u) true [] [])

complete_head : (m : Maker) (at : ℕ) (k : Stack) → Under k → Makes k → Completes (heads m at [] ∷ k)
complete_head m at (block o d true ds ps ∷ k) u h = by_step (Var 0 0) refl refl (complete_made m at (var 0 0) [] (block o d true ds ps ∷ k) u refl)
complete_head m at (block o true false ds ps ∷ k) u h = by_step (Var 0 0) refl refl (complete_made m at (var 0 0) [] (block o true false ds ps ∷ k) u refl)
complete_head m at (block o false false ds ps ∷ k) u h = absurd (cc (u.0.0.3))
complete_head m at [] u h = elim h.0 [ ]
complete_head m at (f ∷ k) u h = by_step Dollar refl refl (complete_made m at dollar [] (f ∷ k) u (spot_stands false false (f ∷ k) h.0))

complete_frame : (f : Frame) (k : Stack) → Good (f ∷ k) → Completes (f ∷ k)
complete_frame (block o d true ds ps) k g = complete_open o d k (good_ends o d true ds k g.0.1) (complete_whole k g.1) d ds ps
complete_frame (block o true false ds ps) k g = by_step (Var 0 0) refl refl (complete_declared (var 0 0) false true o true false ds ps k refl (good_ends o true false ds k g.0.1) (complete_whole k g.1))
complete_frame (block o false false ds ps) k g = absurd (cc (g.0.0.3))
complete_frame (whole p s e) k g = complete_whole k g.1 p s e g.0.0.3
complete_frame (dotted a) k g = by_step (Var 0 0) refl refl (complete_whole k g.1 (select a (var 0 0)) false true (spot_stands false false k g.0.1.0))
complete_frame (accessing at) k g = by_step (Var 0 0) refl refl (complete_whole k g.1 (access at (var 0 0)) false true (spot_stands false false k g.0.0))
complete_frame (heading m) k g = by_step (OpenBrace 0) refl refl (complete_head m 0 k g.1 g.0)
complete_frame (heads m at []) k g = complete_head m at k g.1 g.0
complete_frame (heads m at (h ∷ hs)) k g = complete_made m at h hs k g.1 g.0.0
complete_frame (accepted p) k g = elim g.0 [ ]
complete_frame f k g = complete_operand (f ∷ k) g refl refl

-- each good stack can be completed
pub complete : (k : Stack) → Good k → Completes k
complete [] g = elim g [ ]
complete (f ∷ k) g = complete_frame f k g
