-- Facts on truth values, on lists of phrases and on runs.
use Rattle.std.proofs.Common.{◌≡◌, ℕ, zero, suc, List, [], ◌∷◌, ◌++◌, Option, None, Bool, true, false, ◌&&◌, ◌||◌, nat_le, refl, sym, ap, ◌∙◌, append_assoc}
use Rattle.std.proofs.lemmas.List.{append-nil}
use Rattle.oz_language.specs.Grammar.{level_of, left_level, level_of_bars, level_of_hashes, tightest, at_least_two, Phrase, Phrases, nothing, more, keyed, bars, hashes, binary, var, dollar, head, arm, clause, of_list, tokens_of, each, separated, led, is_more, is_parameter, are_parameters, is_named_head, is_value_head, term, terms, fields as are_fields, expr, stmt, stmts, stmts_value, decl, decls, is_body, is_value_body, bodies, value_bodies, arms, value_arms, clauses, value_clauses}
use Rattle.oz_language.specs.declared.token.Operator.{Operator}
use Rattle.oz_language.specs.declared.token.Token.{Token}
use Rattle.oz_language.specs.declared.token.Operator.TheVariants.{OrElse, AndThen, Plus, Minus, Times, Div, Mod}
use Rattle.reader_law.specs.Machine.{Stack, guard, bind, binds, is_some_item, step, run}

-- ---- truth values

pub record And (a b : Bool) : Type 0 where
  pub fst : a ≡ true
  pub snd : b ≡ true

pub split : (a b : Bool) → a && b ≡ true → And a b
split true b h = record { fst = refl; snd = h }
split false b h = absurd (cc)

pub both : (a b : Bool) → a ≡ true → b ≡ true → a && b ≡ true
both true b h i = i
both false b h i = absurd (cc)

pub or_left : (a b : Bool) → a ≡ true → a || b ≡ true
or_left true b h = refl
or_left false b h = absurd (cc)

pub or_true : (a : Bool) → a || true ≡ true
or_true true = refl
or_true false = refl

pub and_true : (a : Bool) → a && true ≡ a
and_true true = refl
and_true false = refl

pub and_false : (a b : Bool) → a ≡ false → a && b ≡ false
and_false false b h = refl
and_false true b h = absurd (cc)

pub guard_true : {A : Type 0} (b : Bool) (o : Option A) → b ≡ true → guard b o ≡ o
guard_true b o h = ap (λ q. guard q o) h

-- ---- lists of phrases

abbrev pub list_of : Phrases → List Phrase
list_of nothing = []
list_of (more p ps) = p ∷ list_of ps

pub of_list-list_of : (ps : Phrases) → of_list (list_of ps) ≡ ps
of_list-list_of nothing = refl
of_list-list_of (more p ps) = ap (more p) (of_list-list_of ps)

-- one more at the end
pub some_snoc : (ps : List Phrase) (p : Phrase) → is_some_item (ps ++ p ∷ []) ≡ true
some_snoc [] p = refl
some_snoc (q ∷ ps) p = refl

pub more_snoc : (ps : List Phrase) (p : Phrase) → is_more (of_list (ps ++ p ∷ [])) ≡ true
more_snoc [] p = refl
more_snoc (q ∷ ps) p = refl

pub each_snoc : (ps : List Phrase) (p : Phrase) → each (of_list (ps ++ p ∷ [])) ≡ each (of_list ps) ++ tokens_of p
each_snoc [] p = append-nil (tokens_of p)
each_snoc (q ∷ ps) p = ap (λ ts. tokens_of q ++ ts) (each_snoc ps p) ∙ sym (append_assoc (tokens_of q) (each (of_list ps)) (tokens_of p))

-- phrases with a token behind each
abbrev pub trailed : Token → List Phrase → List Token
trailed t [] = []
trailed t (p ∷ ps) = tokens_of p ++ t ∷ trailed t ps

pub trailed_snoc : (t : Token) (ps : List Phrase) (p : Phrase) → trailed t (ps ++ p ∷ []) ≡ trailed t ps ++ (tokens_of p ++ t ∷ [])
trailed_snoc t [] p = refl
trailed_snoc t (q ∷ ps) p = ap (λ ts. tokens_of q ++ t ∷ ts) (trailed_snoc t ps p) ∙ sym (append_assoc (tokens_of q) (t ∷ trailed t ps) (tokens_of p ++ t ∷ []))

-- a token before each and not behind the last, or behind each but the last
pub led_snoc : (t : Token) (ps : List Phrase) (p : Phrase) → led t (of_list (ps ++ p ∷ [])) ≡ t ∷ (trailed t ps ++ tokens_of p)
led_snoc t [] p = ap (λ ts. t ∷ ts) (append-nil (tokens_of p))
led_snoc t (q ∷ ps) p = ap (λ ts. t ∷ (tokens_of q ++ ts)) (led_snoc t ps p) ∙ ap (λ ts. t ∷ ts) (sym (append_assoc (tokens_of q) (t ∷ trailed t ps) (tokens_of p)))

pub separated_snoc : (t : Token) (ps : List Phrase) (p : Phrase) → separated t (of_list (ps ++ p ∷ [])) ≡ trailed t ps ++ tokens_of p
separated_snoc t [] p = append-nil (tokens_of p)
separated_snoc t (q ∷ ps) p = ap (λ ts. tokens_of q ++ ts) (led_snoc t ps p) ∙ sym (append_assoc (tokens_of q) (t ∷ trailed t ps) (tokens_of p))

-- ---- what phrases are

-- each operator binds at least at the loosest level
pub level_zero : (op : Operator) → nat_le zero (level_of op) ≡ true
level_zero OrElse = refl
level_zero AndThen = refl
level_zero Plus = refl
level_zero Minus = refl
level_zero Times = refl
level_zero Div = refl
level_zero Mod = refl
level_zero op = refl

-- an expression or a pattern that binds tightly enough
pub term_at : (w : Bool) (m : ℕ) (p : Phrase) → term w zero p ≡ true → nat_le m (binds p) ≡ true → term w m p ≡ true
term_at false m (binary op a b) h i =
    let j = split (nat_le zero (level_of op)) (term false (left_level op) a && term false (suc (level_of op)) b) h in
    both (nat_le m (level_of op)) (term false (left_level op) a && term false (suc (level_of op)) b) i j.snd
term_at true m (binary op a b) h i = h
term_at w m (bars es) h i = both (nat_le m level_of_bars) (at_least_two es && terms w level_of_hashes es) i h
term_at w m (hashes es) h i = both (nat_le m level_of_hashes) (at_least_two es && terms w (suc level_of_hashes) es) i h
term_at true m p h i = h
term_at false m p h i = h

-- one that binds tightly binds at all
pub term_any : (w : Bool) (m : ℕ) (p : Phrase) → term w m p ≡ true → term w zero p ≡ true
term_any false m (binary op a b) h =
    let j = split (nat_le m (level_of op)) (term false (left_level op) a && term false (suc (level_of op)) b) h in
    both (nat_le zero (level_of op)) (term false (left_level op) a && term false (suc (level_of op)) b) (level_zero op) j.snd
term_any true m (binary op a b) h = h
term_any w m (bars es) h = let j = split (nat_le m level_of_bars) (at_least_two es && terms w level_of_hashes es) h in j.snd
term_any w m (hashes es) h = let j = split (nat_le m level_of_hashes) (at_least_two es && terms w (suc level_of_hashes) es) h in j.snd
term_any true m p h = h
term_any false m p h = h

-- and tells how tightly it binds
pub term_binds : (w : Bool) (m : ℕ) (p : Phrase) → nat_le m tightest ≡ true → term w m p ≡ true → nat_le m (binds p) ≡ true
term_binds false m (binary op a b) i h = let j = split (nat_le m (level_of op)) (term false (left_level op) a && term false (suc (level_of op)) b) h in j.fst
term_binds true m (binary op a b) i h = absurd (cc)
term_binds w m (bars es) i h = let j = split (nat_le m level_of_bars) (at_least_two es && terms w level_of_hashes es) h in j.fst
term_binds w m (hashes es) i h = let j = split (nat_le m level_of_hashes) (at_least_two es && terms w (suc level_of_hashes) es) h in j.fst
term_binds w m p i h = i

-- ---- lists of phrases that are all of a kind, and one more

pub terms_snoc : (w : Bool) (m : ℕ) (ps : List Phrase) (p : Phrase) → terms w m (of_list ps) ≡ true → term w m p ≡ true → terms w m (of_list (ps ++ p ∷ [])) ≡ true
terms_snoc w m [] p h i = both (term w m p) true i refl
terms_snoc w m (q ∷ ps) p h i = let j = split (term w m q) (terms w m (of_list ps)) h in both (term w m q) _ j.fst (terms_snoc w m ps p j.snd i)

-- a field, with a key or without
abbrev pub is_field : Bool → Phrase → Bool
is_field w (keyed c place e) = term w zero e
is_field w e = term w zero e

pub fields_more : (w : Bool) (p : Phrase) (ps : Phrases) → are_fields w (more p ps) ≡ is_field w p && are_fields w ps
fields_more w (keyed c place e) ps = refl
fields_more w p ps = refl

pub fields_snoc : (w : Bool) (ps : List Phrase) (p : Phrase) → are_fields w (of_list ps) ≡ true → is_field w p ≡ true → are_fields w (of_list (ps ++ p ∷ [])) ≡ true
fields_snoc w [] p h i = fields_more w p nothing ∙ both (is_field w p) true i refl
fields_snoc w (q ∷ ps) p h i =
    let j = split (is_field w q) (are_fields w (of_list ps)) (sym (fields_more w q (of_list ps)) ∙ h) in
    fields_more w q (of_list (ps ++ p ∷ [])) ∙ both (is_field w q) _ j.fst (fields_snoc w ps p j.snd i)

-- a term is a field
pub term_field : (w : Bool) (p : Phrase) → term w zero p ≡ true → is_field w p ≡ true
term_field true (keyed c place e) h = absurd (cc)
term_field false (keyed c place e) h = absurd (cc)
term_field w p h = h

pub stmts_snoc : (ps : List Phrase) (p : Phrase) → stmts (of_list ps) ≡ true → stmt p ≡ true → stmts (of_list (ps ++ p ∷ [])) ≡ true
stmts_snoc [] p h i = both (stmt p) true i refl
stmts_snoc (q ∷ ps) p h i = let j = split (stmt q) (stmts (of_list ps)) h in both (stmt q) _ j.fst (stmts_snoc ps p j.snd i)

-- statements and an expression
stmts_value_more : (q : Phrase) (ps : List Phrase) (p : Phrase) → stmt q ≡ true → stmts_value (of_list (ps ++ p ∷ [])) ≡ true → stmts_value (more q (of_list (ps ++ p ∷ []))) ≡ true
stmts_value_more q [] p h i = both (stmt q) _ h i
stmts_value_more q (r ∷ ps) p h i = both (stmt q) _ h i

pub stmts_value_snoc : (ps : List Phrase) (p : Phrase) → stmts (of_list ps) ≡ true → expr p ≡ true → stmts_value (of_list (ps ++ p ∷ [])) ≡ true
stmts_value_snoc [] p h i = i
stmts_value_snoc (q ∷ ps) p h i = let j = split (stmt q) (stmts (of_list ps)) h in stmts_value_more q ps p j.fst (stmts_value_snoc ps p j.snd i)

pub decls_snoc : (ps : List Phrase) (p : Phrase) → decls (of_list ps) ≡ true → decl p ≡ true → decls (of_list (ps ++ p ∷ [])) ≡ true
decls_snoc [] p h i = both (decl p) true i refl
decls_snoc (q ∷ ps) p h i = let j = split (decl q) (decls (of_list ps)) h in both (decl q) _ j.fst (decls_snoc ps p j.snd i)

pub bodies_snoc : (ps : List Phrase) (p : Phrase) → bodies (of_list ps) ≡ true → is_body p ≡ true → bodies (of_list (ps ++ p ∷ [])) ≡ true
bodies_snoc [] p h i = both (is_body p) true i refl
bodies_snoc (q ∷ ps) p h i = let j = split (is_body q) (bodies (of_list ps)) h in both (is_body q) _ j.fst (bodies_snoc ps p j.snd i)

pub value_bodies_snoc : (ps : List Phrase) (p : Phrase) → value_bodies (of_list ps) ≡ true → is_value_body p ≡ true → value_bodies (of_list (ps ++ p ∷ [])) ≡ true
value_bodies_snoc [] p h i = both (is_value_body p) true i refl
value_bodies_snoc (q ∷ ps) p h i = let j = split (is_value_body q) (value_bodies (of_list ps)) h in both (is_value_body q) _ j.fst (value_bodies_snoc ps p j.snd i)

-- an arm and a clause, with a body or with one that has a value
abbrev pub is_arm : Phrase → Bool
is_arm (arm e b) = term false zero e && is_body b
is_arm p = false

abbrev pub is_value_arm : Phrase → Bool
is_value_arm (arm e b) = term false zero e && is_value_body b
is_value_arm p = false

abbrev pub is_clause : Phrase → Bool
is_clause (clause p b) = term true zero p && is_body b
is_clause p = false

abbrev pub is_value_clause : Phrase → Bool
is_value_clause (clause p b) = term true zero p && is_value_body b
is_value_clause p = false

pub arms_more : (p : Phrase) (ps : Phrases) → arms (more p ps) ≡ is_arm p && arms ps
arms_more (arm e b) ps = refl
arms_more p ps = refl

pub value_arms_more : (p : Phrase) (ps : Phrases) → value_arms (more p ps) ≡ is_value_arm p && value_arms ps
value_arms_more (arm e b) ps = refl
value_arms_more p ps = refl

pub clauses_more : (p : Phrase) (ps : Phrases) → clauses (more p ps) ≡ is_clause p && clauses ps
clauses_more (clause q b) ps = refl
clauses_more p ps = refl

pub value_clauses_more : (p : Phrase) (ps : Phrases) → value_clauses (more p ps) ≡ is_value_clause p && value_clauses ps
value_clauses_more (clause q b) ps = refl
value_clauses_more p ps = refl

pub arms_snoc : (ps : List Phrase) (p : Phrase) → arms (of_list ps) ≡ true → is_arm p ≡ true → arms (of_list (ps ++ p ∷ [])) ≡ true
arms_snoc [] p h i = arms_more p nothing ∙ both (is_arm p) true i refl
arms_snoc (q ∷ ps) p h i =
    let j = split (is_arm q) (arms (of_list ps)) (sym (arms_more q (of_list ps)) ∙ h) in
    arms_more q (of_list (ps ++ p ∷ [])) ∙ both (is_arm q) _ j.fst (arms_snoc ps p j.snd i)

pub value_arms_snoc : (ps : List Phrase) (p : Phrase) → value_arms (of_list ps) ≡ true → is_value_arm p ≡ true → value_arms (of_list (ps ++ p ∷ [])) ≡ true
value_arms_snoc [] p h i = value_arms_more p nothing ∙ both (is_value_arm p) true i refl
value_arms_snoc (q ∷ ps) p h i =
    let j = split (is_value_arm q) (value_arms (of_list ps)) (sym (value_arms_more q (of_list ps)) ∙ h) in
    value_arms_more q (of_list (ps ++ p ∷ [])) ∙ both (is_value_arm q) _ j.fst (value_arms_snoc ps p j.snd i)

pub clauses_snoc : (ps : List Phrase) (p : Phrase) → clauses (of_list ps) ≡ true → is_clause p ≡ true → clauses (of_list (ps ++ p ∷ [])) ≡ true
clauses_snoc [] p h i = clauses_more p nothing ∙ both (is_clause p) true i refl
clauses_snoc (q ∷ ps) p h i =
    let j = split (is_clause q) (clauses (of_list ps)) (sym (clauses_more q (of_list ps)) ∙ h) in
    clauses_more q (of_list (ps ++ p ∷ [])) ∙ both (is_clause q) _ j.fst (clauses_snoc ps p j.snd i)

pub value_clauses_snoc : (ps : List Phrase) (p : Phrase) → value_clauses (of_list ps) ≡ true → is_value_clause p ≡ true → value_clauses (of_list (ps ++ p ∷ [])) ≡ true
value_clauses_snoc [] p h i = value_clauses_more p nothing ∙ both (is_value_clause p) true i refl
value_clauses_snoc (q ∷ ps) p h i =
    let j = split (is_value_clause q) (value_clauses (of_list ps)) (sym (value_clauses_more q (of_list ps)) ∙ h) in
    value_clauses_more q (of_list (ps ++ p ∷ [])) ∙ both (is_value_clause q) _ j.fst (value_clauses_snoc ps p j.snd i)

-- a further parameter changes nothing
pub parameters_snoc : (ps : List Phrase) (p : Phrase) → is_parameter p ≡ true → are_parameters (of_list (ps ++ p ∷ [])) ≡ are_parameters (of_list ps)
parameters_snoc [] p i = both (is_parameter p) true i refl
parameters_snoc (q ∷ ps) p i = ap (λ b. is_parameter q && b) (parameters_snoc ps p i)

pub named_snoc : (at : ℕ) (q : Phrase) (ps : List Phrase) (p : Phrase) → is_parameter p ≡ true → is_named_head (head at (of_list (q ∷ ps ++ p ∷ []))) ≡ is_named_head (head at (of_list (q ∷ ps)))
named_snoc at (var name place) ps p i = parameters_snoc ps p i
named_snoc at q ps p i = refl

pub value_snoc : (at : ℕ) (q : Phrase) (ps : List Phrase) (p : Phrase) → is_parameter p ≡ true → is_value_head (head at (of_list (q ∷ ps ++ p ∷ []))) ≡ is_value_head (head at (of_list (q ∷ ps)))
value_snoc at dollar ps p i = parameters_snoc ps p i
value_snoc at q ps p i = refl

-- ---- runs

pub run_append : (k : Option Stack) (xs ys : List Token) → run k (xs ++ ys) ≡ run (run k xs) ys
run_append k [] ys = refl
run_append k (x ∷ xs) ys = run_append (bind k (step x)) xs ys

pub run_none : (ts : List Token) → run None ts ≡ None
run_none [] = refl
run_none (t ∷ ts) = run_none ts

pub then_run : (k : Option Stack) (xs ys : List Token) (m : Option Stack) → run k xs ≡ m → run k (xs ++ ys) ≡ run m ys
then_run k xs ys m h = run_append k xs ys ∙ ap (λ o. run o ys) h
