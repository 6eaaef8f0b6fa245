-- Expressions and patterns: leaves, operators, chains, selections, parentheses, records, lists and calls.
use Rattle.std.proofs.Common.{◌≡◌, ℕ, ℤ, suc, nat_le, List, [], ◌∷◌, ◌++◌, Some, Bool, true, false, ◌&&◌, refl, sym, ap, ◌∙◌, subst, append_assoc}
use Rattle.std.proofs.lemmas.List.{append-nil}
use Rattle.oz_language.specs.declared.token.Literal.{Literal}
use Rattle.oz_language.specs.Grammar.{level_of, left_level, level_of_hashes, level_of_selection, tightest, Phrase, Phrases, nothing, more, of_list, var, any, int, string, literal, paren, binary, select, access, fail, raise, tokens_of, each, separated, led, term}
use Rattle.oz_language.specs.declared.token.Token.{Token}
use Rattle.oz_language.specs.declared.token.Operator.{Operator}
use Rattle.oz_language.specs.declared.token.Token.TheVariants.{Var, Any, Int, String, Literal as Lit, OpenParen, CloseParen, At, Bar, Hash, Dot, Infix, Fail, Raise, End}
use Rattle.oz_language.specs.declared.token.Operator.TheVariants.{OrElse, AndThen, Plus, Minus, Times, Div, Mod}
use Rattle.reader_law.specs.Machine.{of_paren, block, whole, left_of, dotted, accessing, enclosing, raising, Stack, guard, kind_by, kind_of, is_alive, had, value, begins, reduce, binds, allows, add_bar, add_hash, shift_in, next, run}
use Rattle.reader_law.proofs.Basics.{both, or_true, guard_true, list_of, of_list-list_of, then_run, term_binds}
use Rattle.reader_law.proofs.CompleteBasics.{le_through, le_self, le_next, steps, chosen}
use Rattle.reader_law.proofs.CompletePlaces.{Finds, finds_whole, finds_less, finds_binary, chain, chained, mark, chain_level, chain_add, finds_chain, top, Opens, paren_frame, Place, place_chain, level_of_products}

-- ---- what is read

-- the tokens lead to a stack that a token finds like this one with the term on it
pub record ReadsTerm (e : Phrase) (m : ℕ) (k : Stack) : Type 0 where
  pub at : Stack
  pub states : Bool
  pub reads : run (Some k) (tokens_of e) ≡ Some at
  pub finds : Finds e states true m at k

-- the tokens lead from the one stack to the other with a phrase that has come to its end, a statement or a value as it is asked for
pub record ReadsHad (v : Bool) (ts : List Token) (j : Stack) (p : Phrase) (k : Stack) : Type 0 where
  pub states : Bool
  pub values : Bool
  pub good : chosen v states values ≡ true
  pub reads : run (Some j) ts ≡ Some (had p states values k)

pub term_had : (p : Phrase) (w b : Bool) (m n : ℕ) (k : Stack) → Place w b m k → ReadsHad true (tokens_of p) k p k → ReadsTerm p n k
term_had p w b m n k f r = record {
  at = whole p r.states true ∷ k;
  states = r.states;
  reads = r.reads ∙ ap Some (f.keeps p r.states r.values) ∙ ap (λ q. Some (whole p r.states q ∷ k)) r.good;
  finds = finds_whole p r.states true n k;
}

-- what a first token leads to, and the tokens behind it
pub opens_had : (v : Bool) (t : Token) (ts : List Token) (i j : Stack) (p : Phrase) (k : Stack) → next (Some t) i ≡ Some j → ReadsHad v ts j p k → ReadsHad v (t ∷ ts) i p k
opens_had v t ts i j p k h r = record { states = r.states; values = r.values; good = r.good; reads = steps t ts i (Some j) h ∙ r.reads }

-- ---- leaves

leaf : (t : Token) (p : Phrase) (s w b : Bool) (m : ℕ) (k : Stack) → Place w b m k → Opens w t → begins (kind_by w) t k ≡ Some (had p s true k) → ReadsHad true (t ∷ []) k p k
leaf t p s w b m k f o h = record { states = s; values = true; good = refl; reads = f.opens t o ∙ h }

pub reads_var : (name at : ℕ) (w b : Bool) (m n : ℕ) (k : Stack) → Place w b m k → ReadsTerm (var name at) n k
reads_var name at w b m n k f = term_had (var name at) w b m n k f (leaf (Var name at) (var name at) false w b m k f tt (found w))
  where
    found : (v : Bool) → begins (kind_by v) (Var name at) k ≡ value (var name at) k
    found true = refl
    found false = refl

pub reads_any : (at : ℕ) (w b : Bool) (m n : ℕ) (k : Stack) → Place w b m k → ReadsTerm (any at) n k
reads_any at w b m n k f = term_had (any at) w b m n k f (leaf (Any at) (any at) false w b m k f tt (found w))
  where
    found : (v : Bool) → begins (kind_by v) (Any at) k ≡ value (any at) k
    found true = refl
    found false = refl

pub reads_int : (i : ℤ) (at : ℕ) (w b : Bool) (m n : ℕ) (k : Stack) → Place w b m k → ReadsTerm (int i at) n k
reads_int i at w b m n k f = term_had (int i at) w b m n k f (leaf (Int i at) (int i at) false w b m k f tt (found w))
  where
    found : (v : Bool) → begins (kind_by v) (Int i at) k ≡ value (int i at) k
    found true = refl
    found false = refl

pub reads_string : (s at : ℕ) (w b : Bool) (m n : ℕ) (k : Stack) → Place w b m k → ReadsTerm (string s at) n k
reads_string s at w b m n k f = term_had (string s at) w b m n k f (leaf (String s at) (string s at) false w b m k f tt (found w))
  where
    found : (v : Bool) → begins (kind_by v) (String s at) k ≡ value (string s at) k
    found true = refl
    found false = refl

pub reads_literal : (l : Literal) (at : ℕ) (w b : Bool) (m n : ℕ) (k : Stack) → Place w b m k → ReadsTerm (literal l at) n k
reads_literal l at w b m n k f = term_had (literal l at) w b m n k f (leaf (Lit l at) (literal l at) false w b m k f tt (found w))
  where
    found : (v : Bool) → begins (kind_by v) (Lit l at) k ≡ value (literal l at) k
    found true = refl
    found false = refl

pub reads_fail : (v : Bool) (at : ℕ) (b : Bool) (m : ℕ) (k : Stack) → Place false b m k → ReadsHad v (tokens_of (fail at)) k (fail at) k
reads_fail v at b m k f = record { states = true; values = true; good = found v; reads = f.opens (Fail at) tt }
  where
    found : (v : Bool) → chosen v true true ≡ true
    found true = refl
    found false = refl

-- ---- operators

pub level_left : (op : Operator) → nat_le (level_of op) (left_level op) ≡ true
level_left OrElse = refl
level_left AndThen = refl
level_left Plus = refl
level_left Minus = refl
level_left Times = refl
level_left Div = refl
level_left Mod = refl
level_left op = refl

left_tightest : (op : Operator) → nat_le (left_level op) tightest ≡ true
left_tightest OrElse = refl
left_tightest AndThen = refl
left_tightest Plus = refl
left_tightest Minus = refl
left_tightest Times = refl
left_tightest Div = refl
left_tightest Mod = refl
left_tightest op = refl

under_top : (op : Operator) → nat_le (level_of op) level_of_products ≡ true
under_top OrElse = refl
under_top AndThen = refl
under_top Plus = refl
under_top Minus = refl
under_top Times = refl
under_top Div = refl
under_top Mod = refl
under_top op = refl

top_kind : (w : Bool) (k : Stack) → kind_of k ≡ kind_by w → top (kind_of k) ≡ level_of_products
top_kind true k h = ap top h
top_kind false k h = ap top h

takes_operator : (op : Operator) (a : Phrase) (s b : Bool) (m : ℕ) (j k : Stack) → Place false b m k → nat_le m (level_of op) ≡ true → term false (left_level op) a ≡ true
    → Finds a s true (left_level op) j k → next (Some (Infix op)) j ≡ Some (left_of op a ∷ k)
takes_operator op a s b m j k f l h r =
    r.on (Some (Infix op)) (level_left op)
    ∙ ap (λ w. shift_in w (Infix op) a s k) f.kind
    ∙ ap (λ q. guard (nat_le (left_level op) (binds q.phrase) && allows (level_of op) q.rest) (Some (left_of op q.phrase ∷ q.rest))) (f.stops (level_of op) a s l)
    ∙ guard_true (nat_le (left_level op) (binds a) && allows (level_of op) k) _ (both _ _ (term_binds false (left_level op) a (left_tightest op) h) (f.allowed (level_of op) l))

pub reads_binary : (op : Operator) (x y : Phrase) (b : Bool) (m n : ℕ) (k : Stack) → Place false b m k → nat_le m (level_of op) ≡ true → nat_le n (level_of op) ≡ true
    → term false (left_level op) x ≡ true → ReadsTerm x (left_level op) k → ReadsTerm y (suc (level_of op)) (left_of op x ∷ k) → ReadsTerm (binary op x y) n k
reads_binary op x y b m n k f l i h r q = record {
  at = q.at;
  states = false;
  reads =
      then_run (Some k) (tokens_of x) (Infix op ∷ tokens_of y) _ r.reads
      ∙ steps (Infix op) (tokens_of y) r.at _ (takes_operator op x r.states b m r.at k f l h r.finds)
      ∙ q.reads;
  finds =
      finds_less (binary op x y) false true n (level_of op) q.at k i
      (finds_binary op x y q.states (suc (level_of op)) q.at k (after_level (level_of op)) (ap (nat_le (level_of op)) (top_kind false k f.kind) ∙ under_top op) q.finds);
}
  where
    after_level : (a : ℕ) → nat_le a (suc a) ≡ true
    after_level a = le_next a

-- ---- chains

takes_mark : (c : Bool) (e : Phrase) (s w b : Bool) (m : ℕ) (j k : Stack) → Place w b m k → nat_le m (suc (chain_level c)) ≡ true → Finds e s true (suc (chain_level c)) j k
    → next (Some (mark c)) j ≡ chain_add c e k
takes_mark true e s w b m j k f l r =
    r.on (Some Bar) refl
    ∙ ap (λ v. shift_in v Bar e s k) f.kind
    ∙ shifted w
    ∙ ap (λ q. add_bar q.phrase q.rest) (f.stops level_of_hashes e s l)
  where
    shifted : (v : Bool) → shift_in (kind_by v) Bar e s k ≡ add_bar (reduce level_of_hashes e s k).phrase (reduce level_of_hashes e s k).rest
    shifted true = refl
    shifted false = refl
takes_mark false e s w b m j k f l r =
    r.on (Some Hash) refl
    ∙ ap (λ v. shift_in v Hash e s k) f.kind
    ∙ shifted w
    ∙ ap (λ q. add_hash q.phrase q.rest) (f.stops (suc level_of_hashes) e s l)
  where
    shifted : (v : Bool) → shift_in (kind_by v) Hash e s k ≡ add_hash (reduce (suc level_of_hashes) e s k).phrase (reduce (suc level_of_hashes) e s k).rest
    shifted true = refl
    shifted false = refl

grows : (c : Bool) (done : List Phrase) (e : Phrase) (k : Stack) → chain_add c e (chain c done ∷ k) ≡ Some (chain c (done ++ e ∷ []) ∷ k)
grows true done e k = refl
grows false done e k = refl

-- further parts of a chain, each behind its mark
pub record ReadsChain (c : Bool) (es : Phrases) (done : List Phrase) (j k : Stack) : Type 0 where
  pub at : Stack
  pub reads : run (Some j) (led (mark c) es) ≡ Some at
  pub finds : Finds (chained c (of_list (done ++ list_of es))) false true (chain_level c) at k

chain_top : (w b : Bool) (m : ℕ) (k : Stack) → Place w b m k → nat_le level_of_hashes (top (kind_of k)) ≡ true
chain_top w b m k f = ap (nat_le level_of_hashes) (top_kind w k f.kind)

pub chain_ends : (c : Bool) (before : List Phrase) (e : Phrase) (s w b : Bool) (m : ℕ) (j k : Stack) → Place w b m k → Finds e s true (suc (chain_level c)) j (chain c before ∷ k)
    → ReadsChain c nothing (before ++ e ∷ []) j k
chain_ends c before e s w b m j k f r = record {
  at = j;
  reads = refl;
  finds = subst (λ es. Finds (chained c (of_list es)) false true (chain_level c) j k) (sym (append-nil (before ++ e ∷ []))) (finds_chain c before e s j k (chain_top w b m k f) r);
}

pub chain_goes_on : (c : Bool) (before : List Phrase) (e p : Phrase) (ps : Phrases) (s w b : Bool) (m : ℕ) (j k : Stack) → Place w b m k
    → Finds e s true (suc (chain_level c)) j (chain c before ∷ k) → (r : ReadsTerm p (suc (chain_level c)) (chain c (before ++ e ∷ []) ∷ k))
    → ReadsChain c ps ((before ++ e ∷ []) ++ p ∷ []) r.at k → ReadsChain c (more p ps) (before ++ e ∷ []) j k
chain_goes_on c before e p ps s w b m j k f i r q = record {
  at = q.at;
  reads =
      steps (mark c) (tokens_of p ++ led (mark c) ps) j _
      (takes_mark c e s w false (suc (chain_level c)) j (chain c before ∷ k) (place_chain c before w b m k f) (le_self (suc (chain_level c))) i ∙ grows c before e k)
      ∙ then_run (Some (chain c (before ++ e ∷ []) ∷ k)) (tokens_of p) (led (mark c) ps) _ r.reads
      ∙ q.reads;
  finds = subst (λ es. Finds (chained c (of_list es)) false true (chain_level c) q.at k) (append_assoc (before ++ e ∷ []) (p ∷ []) (list_of ps)) q.finds;
}

pub reads_chain : (c : Bool) (x y : Phrase) (es : Phrases) (w b : Bool) (m n : ℕ) (k : Stack) → Place w b m k → nat_le m (chain_level c) ≡ true → nat_le n (chain_level c) ≡ true
    → ReadsTerm x (suc (chain_level c)) k → (r : ReadsTerm y (suc (chain_level c)) (chain c (x ∷ []) ∷ k)) → ReadsChain c es (x ∷ y ∷ []) r.at k
    → ReadsTerm (chained c (more x (more y es))) n k
reads_chain c x y es w b m n k f l i a r q = record {
  at = q.at;
  states = false;
  reads =
      ap (run (Some k)) (spelled c)
      ∙ then_run (Some k) (tokens_of x) (led (mark c) (more y es)) _ a.reads
      ∙ steps (mark c) (tokens_of y ++ led (mark c) es) a.at _
      (takes_mark c x a.states w b m a.at k f (le_through m (chain_level c) (suc (chain_level c)) l (le_next (chain_level c))) a.finds ∙ f.begins_chain c x l)
      ∙ then_run (Some (chain c (x ∷ []) ∷ k)) (tokens_of y) (led (mark c) es) _ r.reads
      ∙ q.reads;
  finds =
      finds_less (chained c (more x (more y es))) false true n (chain_level c) q.at k i
      (subst (λ ps. Finds (chained c (more x (more y ps))) false true (chain_level c) q.at k) (of_list-list_of es) q.finds);
}
  where
    spelled : (c : Bool) → tokens_of (chained c (more x (more y es))) ≡ separated (mark c) (more x (more y es))
    spelled true = refl
    spelled false = refl

-- ---- parentheses and selections

pub reads_enclosed : (e : Phrase) (w : Bool) (at : ℕ) (k : Stack) → ReadsTerm e 0 (enclosing w at ∷ k) → ReadsHad true (each (more e nothing) ++ CloseParen ∷ []) (enclosing w at ∷ k) (paren at (more e nothing)) k
reads_enclosed e w at k r = record {
  states = r.states;
  values = true;
  good = refl;
  reads =
      ap (λ ts. run (Some (enclosing w at ∷ k)) (ts ++ CloseParen ∷ [])) (append-nil (tokens_of e))
      ∙ then_run (Some (enclosing w at ∷ k)) (tokens_of e) (CloseParen ∷ []) _ r.reads
      ∙ r.finds.on (Some CloseParen) refl;
}

reads_enclosed_block : (e : Phrase) (at : ℕ) (k : Stack) → ReadsTerm e 0 (block (of_paren at) false true [] [] ∷ k)
    → ReadsHad true (each (more e nothing) ++ CloseParen ∷ []) (block (of_paren at) false true [] [] ∷ k) (paren at (more e nothing)) k
reads_enclosed_block e at k r = record {
  states = r.states && true;
  values = true;
  good = refl;
  reads =
      ap (λ ts. run (Some (block (of_paren at) false true [] [] ∷ k)) (ts ++ CloseParen ∷ [])) (append-nil (tokens_of e))
      ∙ then_run (Some (block (of_paren at) false true [] [] ∷ k)) (tokens_of e) (CloseParen ∷ []) _ r.reads
      ∙ r.finds.on (Some CloseParen) refl
      ∙ guard_true (is_alive (r.states && true) true k) _ (or_true _);
}

pub reads_paren : (e : Phrase) (at : ℕ) (w b : Bool) (m n : ℕ) (k : Stack) → Place w b m k → ReadsTerm e 0 (paren_frame w b at ∷ k) → ReadsTerm (paren at (more e nothing)) n k
reads_paren e at w b m n k f r =
    term_had (paren at (more e nothing)) w b m n k f
    (opens_had true (OpenParen at) (each (more e nothing) ++ CloseParen ∷ []) k (paren_frame w b at ∷ k) (paren at (more e nothing)) k (f.opens_paren at) (found w b r))
  where
    found : (v d : Bool) → ReadsTerm e 0 (paren_frame v d at ∷ k) → ReadsHad true (each (more e nothing) ++ CloseParen ∷ []) (paren_frame v d at ∷ k) (paren at (more e nothing)) k
    found true d q = reads_enclosed e true at k q
    found false true q = reads_enclosed_block e at k q
    found false false q = reads_enclosed e false at k q

takes_dot : (e : Phrase) (s b : Bool) (m : ℕ) (j k : Stack) → Place false b m k → Finds e s true level_of_selection j k → next (Some Dot) j ≡ Some (dotted e ∷ k)
takes_dot e s b m j k f r =
    r.on (Some Dot) refl
    ∙ ap (λ w. shift_in w Dot e s k) f.kind
    ∙ guard_true (allows level_of_selection k) _ (f.allowed level_of_selection f.low)

-- what stands behind `.`, and behind `@`
pub reads_feature_paren : (at : ℕ) (e a : Phrase) (k : Stack) → ReadsTerm e 0 (enclosing false at ∷ dotted a ∷ k)
    → run (Some (dotted a ∷ k)) (tokens_of (paren at (more e nothing))) ≡ Some (whole (select a (paren at (more e nothing))) false true ∷ k)
reads_feature_paren at e a k r = (reads_enclosed e false at (dotted a ∷ k) r).reads

pub reads_accessed_paren : (at : ℕ) (e : Phrase) (place : ℕ) (k : Stack) → ReadsTerm e 0 (enclosing false at ∷ accessing place ∷ k)
    → run (Some (accessing place ∷ k)) (tokens_of (paren at (more e nothing))) ≡ Some (whole (access place (paren at (more e nothing))) false true ∷ k)
reads_accessed_paren at e place k r = (reads_enclosed e false at (accessing place ∷ k) r).reads

pub reads_select : (e p : Phrase) (b : Bool) (m n : ℕ) (k : Stack) → Place false b m k → ReadsTerm e level_of_selection k
    → run (Some (dotted e ∷ k)) (tokens_of p) ≡ Some (whole (select e p) false true ∷ k) → ReadsTerm (select e p) n k
reads_select e p b m n k f r h = record {
  at = whole (select e p) false true ∷ k;
  states = false;
  reads =
      then_run (Some k) (tokens_of e) (Dot ∷ tokens_of p) _ r.reads
      ∙ steps Dot (tokens_of p) r.at _ (takes_dot e r.states b m r.at k f r.finds)
      ∙ h;
  finds = finds_whole (select e p) false true n k;
}

pub reads_access : (at : ℕ) (e : Phrase) (b : Bool) (m n : ℕ) (k : Stack) → Place false b m k
    → run (Some (accessing at ∷ k)) (tokens_of e) ≡ Some (whole (access at e) false true ∷ k) → ReadsTerm (access at e) n k
reads_access at e b m n k f h = record {
  at = whole (access at e) false true ∷ k;
  states = false;
  reads = steps (At at) (tokens_of e) k _ (f.opens (At at) tt) ∙ h;
  finds = finds_whole (access at e) false true n k;
}

pub reads_raise : (v : Bool) (at : ℕ) (e : Phrase) (b : Bool) (m : ℕ) (k : Stack) → Place false b m k → ReadsTerm e 0 (raising at ∷ k) → ReadsHad v (tokens_of (raise at e)) k (raise at e) k
reads_raise v at e b m k f r = record {
  states = true;
  values = true;
  good = found v;
  reads =
      steps (Raise at) (tokens_of e ++ End ∷ []) k _ (f.opens (Raise at) tt)
      ∙ then_run (Some (raising at ∷ k)) (tokens_of e) (End ∷ []) _ r.reads
      ∙ r.finds.on (Some End) refl;
}
  where
    found : (v : Bool) → chosen v true true ≡ true
    found true = refl
    found false = refl
