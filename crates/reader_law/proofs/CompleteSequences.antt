-- What comes behind a phrase: the next one begins as if it had been taken in. Records, lists, calls and heads.
use Rattle.std.proofs.Common.{◌≡◌, ℕ, nat_le, List, [], ◌∷◌, ◌++◌, Option, Some, Bool, true, false, ◌&&◌, refl, sym, ap, ◌∙◌, subst, append_assoc, suc}
use Rattle.std.proofs.lemmas.List.{append-nil}
use Rattle.oz_language.specs.declared.token.Literal.{Literal}
use Rattle.oz_language.specs.declared.kernel.Constant.{Constant}
use Rattle.oz_language.specs.declared.kernel.Constant.TheVariants as constant
use Rattle.oz_language.specs.Grammar.{left_level, level_of, level_of_hashes, level_of_selection, Phrase, Phrases, nothing, more, of_list, var, any, int, string, literal, rec, keyed, list, paren, binary, bars, hashes, select, access, fail, raise, call, proc, fun, local, thread, choice, when, choose, cases, cases_or, attempt, skip, connected, relate, head, key_token, tokens_of, each, led, term, terms, fields as are_fields, are_parameters, stmt, decl, level_of_bars}
use Rattle.oz_language.specs.declared.token.Token.{Token}
use Rattle.oz_language.specs.declared.token.Token.TheVariants.{Var, Any, Int, String, Literal as Lit, Label, OpenParen, CloseParen, OpenBracket, CloseBracket, OpenBrace, CloseBrace, Colon, Equals, Assign, Domain, Domains, Relates, At, Bar, Hash, Dot, Infix, Fail, Raise, Proc, Fun, Local, Thread, Choice, If, Case, Skip, Try}
use Rattle.oz_language.specs.declared.token.Connective.TheVariants.{Equates, Assigns, Bounds, BoundsEach}
use Rattle.reader_law.specs.Machine.{fields, key, listing, parts, heads, Maker, made, opened, Stack, is_some_item, kind_by, had, begins, after, next, run}
use Rattle.reader_law.proofs.Basics.{split, guard_true, list_of, of_list-list_of, then_run}
use Rattle.reader_law.proofs.CompleteBasics.{never, zero_least, steps, chosen}
use Rattle.reader_law.proofs.CompletePlaces.{level_before, Finds, Place}
use Rattle.reader_law.proofs.CompleteTerms.{ReadsTerm, ReadsHad, term_had}

-- ---- tokens behind a phrase

-- tokens that do not go on with a phrase
abbrev pub IsNext : Option Token → Type 0
IsNext (Some (Infix op)) = ⊥
IsNext (Some Bar) = ⊥
IsNext (Some Hash) = ⊥
IsNext (Some Dot) = ⊥
IsNext (Some Colon) = ⊥
IsNext (Some Equals) = ⊥
IsNext (Some Assign) = ⊥
IsNext (Some Domain) = ⊥
IsNext (Some Domains) = ⊥
IsNext (Some (Relates r)) = ⊥
IsNext t = Unit {0}

pub next_least : (t : Option Token) (m : ℕ) → IsNext t → nat_le (level_before t) m ≡ true
next_least (Some (Infix op)) m i = elim i [ ]
next_least (Some Bar) m i = elim i [ ]
next_least (Some Hash) m i = elim i [ ]
next_least (Some Dot) m i = elim i [ ]
next_least t m i = zero_least m

-- such a token finds the one as it finds the other
pub record Settles (j k : Stack) : Type 0 where
  pub on : (t : Option Token) → IsNext t → next t j ≡ next t k

abbrev pub Starts : List Token → Type 0
Starts [] = ⊥
Starts (t ∷ ts) = IsNext (Some t)

pub restart : (ts : List Token) (j k : Stack) → Settles j k → Starts ts → run (Some j) ts ≡ run (Some k) ts
restart (t ∷ ts) j k s i = ap (λ q. run q ts) (s.on (Some t) i)
restart [] j k s i = elim i [ ]

-- tokens by which a phrase begins
abbrev pub IsStart : Token → Type 0
IsStart (Var name at) = Unit {0}
IsStart (Any at) = Unit {0}
IsStart (Int i at) = Unit {0}
IsStart (String s at) = Unit {0}
IsStart (Lit l at) = Unit {0}
IsStart (Label l at) = Unit {0}
IsStart (OpenParen at) = Unit {0}
IsStart (OpenBracket at) = Unit {0}
IsStart (OpenBrace at) = Unit {0}
IsStart (At at) = Unit {0}
IsStart (Fail at) = Unit {0}
IsStart (Raise at) = Unit {0}
IsStart (Proc at) = Unit {0}
IsStart (Fun at) = Unit {0}
IsStart (Local at) = Unit {0}
IsStart (Thread at) = Unit {0}
IsStart (Choice at) = Unit {0}
IsStart (If at) = Unit {0}
IsStart (Case at) = Unit {0}
IsStart Skip = Unit {0}
IsStart Try = Unit {0}
IsStart t = ⊥

pub start_next : (t : Token) → IsStart t → IsNext (Some t)
start_next (Infix op) i = elim i [ ]
start_next Bar i = elim i [ ]
start_next Hash i = elim i [ ]
start_next Dot i = elim i [ ]
start_next Colon i = elim i [ ]
start_next Equals i = elim i [ ]
start_next Assign i = elim i [ ]
start_next Domain i = elim i [ ]
start_next Domains i = elim i [ ]
start_next (Relates r) i = elim i [ ]
start_next t i = tt

abbrev pub Begun : List Token → Type 0
Begun [] = ⊥
Begun (t ∷ ts) = IsStart t

pub begun_starts : (ts : List Token) → Begun ts → Starts ts
begun_starts [] i = elim i [ ]
begun_starts (t ∷ ts) i = start_next t i

-- the tokens of a term begin so
pub term_begun : (e : Phrase) (w : Bool) (m : ℕ) (rest : List Token) → term w m e ≡ true → Begun (tokens_of e ++ rest)
term_begun (var name at) w m rest h = tt
term_begun (any at) w m rest h = tt
term_begun (int i at) w m rest h = tt
term_begun (string s at) w m rest h = tt
term_begun (literal l at) w m rest h = tt
term_begun (rec l at fs) w m rest h = tt
term_begun (list at es) w m rest h = tt
term_begun (paren at es) w m rest h = tt
term_begun (bars (more e es)) w m rest h =
    let i = split (nat_le m level_of_bars) _ h in
    let j = split _ (terms w level_of_hashes (more e es)) i.snd in
    subst Begun (sym (append_assoc (tokens_of e) (led Bar es) rest)) (term_begun e w level_of_hashes (led Bar es ++ rest) (split (term w level_of_hashes e) (terms w level_of_hashes es) j.snd).fst)
term_begun (hashes (more e es)) w m rest h =
    let i = split (nat_le m level_of_hashes) _ h in
    let j = split _ (terms w (suc level_of_hashes) (more e es)) i.snd in
    subst Begun (sym (append_assoc (tokens_of e) (led Hash es) rest)) (term_begun e w (suc level_of_hashes) (led Hash es ++ rest) (split (term w (suc level_of_hashes) e) (terms w (suc level_of_hashes) es) j.snd).fst)
term_begun (bars nothing) w m rest h = elim (never (nat_le m level_of_bars) h) [ ]
term_begun (hashes nothing) w m rest h = elim (never (nat_le m level_of_hashes) h) [ ]
term_begun (binary op a b) false m rest h =
    let i = split (nat_le m (level_of op)) _ h in
    subst Begun (sym (append_assoc (tokens_of a) (Infix op ∷ tokens_of b) rest)) (term_begun a false (left_level op) (Infix op ∷ (tokens_of b ++ rest)) (split (term false (left_level op) a) _ i.snd).fst)
term_begun (select e f) false m rest h =
    subst Begun (sym (append_assoc (tokens_of e) (Dot ∷ tokens_of f) rest)) (term_begun e false level_of_selection (Dot ∷ (tokens_of f ++ rest)) (split (term false level_of_selection e) _ h).fst)
term_begun (access at e) w m rest h = tt
term_begun (fail at) w m rest h = tt
term_begun (raise at e) w m rest h = tt
term_begun (call at es) w m rest h = tt
term_begun (proc at x b) w m rest h = tt
term_begun (fun at lazy x b) w m rest h = tt
term_begun (local at ds b) w m rest h = tt
term_begun (thread at b) w m rest h = tt
term_begun (choice at bs) w m rest h = tt
term_begun (choose at xs b) w m rest h = tt
term_begun (cases at e cs) w m rest h = tt
term_begun (cases_or at e cs b) w m rest h = tt
term_begun e w m rest h = absurd (cc)

both_sides_begun : (a b : Phrase) (t : Token) (rest : List Token) (m : ℕ) → term false m a ≡ true → Begun ((tokens_of a ++ t ∷ tokens_of b) ++ rest)
both_sides_begun a b t rest m h = subst Begun (sym (append_assoc (tokens_of a) (t ∷ tokens_of b) rest)) (term_begun a false m (t ∷ (tokens_of b ++ rest)) h)

pub stmt_begun : (p : Phrase) (rest : List Token) → stmt p ≡ true → Begun (tokens_of p ++ rest)
stmt_begun skip rest h = tt
stmt_begun (fail at) rest h = tt
stmt_begun (connected Equates a b) rest h = both_sides_begun a b Equals rest 0 (split (term false 0 a) (term false 0 b) h).fst
stmt_begun (connected Assigns a b) rest h = both_sides_begun a b Assign rest 0 (split (term false 0 a) (term false 0 b) h).fst
stmt_begun (connected Bounds a b) rest h = both_sides_begun a b Domain rest level_of_selection (split (term false level_of_selection a) (term false level_of_hashes b) h).fst
stmt_begun (connected BoundsEach a b) rest h = both_sides_begun a b Domains rest level_of_selection (split (term false level_of_selection a) (term false level_of_hashes b) h).fst
stmt_begun (relate r a b) rest h = both_sides_begun a b (Relates r) rest 0 (split (term false 0 a) (term false 0 b) (split (term false 0 a && term false 0 b) _ h).fst).fst
stmt_begun (call at es) rest h = tt
stmt_begun (proc at x b) rest h = tt
stmt_begun (fun at lazy x b) rest h = tt
stmt_begun (local at ds b) rest h = tt
stmt_begun (thread at b) rest h = tt
stmt_begun (raise at e) rest h = tt
stmt_begun (choice at bs) rest h = tt
stmt_begun (when at xs) rest h = tt
stmt_begun (choose at xs b) rest h = tt
stmt_begun (cases at e cs) rest h = tt
stmt_begun (cases_or at e cs b) rest h = tt
stmt_begun (attempt b cs) rest h = tt
stmt_begun (paren at ss) rest h = tt
stmt_begun p rest h = absurd (cc)

pub decl_begun : (p : Phrase) (rest : List Token) → decl p ≡ true → Begun (tokens_of p ++ rest)
decl_begun (var name at) rest h = tt
decl_begun (connected Equates (var name at) b) rest h = tt
decl_begun (proc at x b) rest h = tt
decl_begun (fun at lazy x b) rest h = tt
decl_begun p rest h = absurd (cc)

-- a term, further phrases, and what closes them
pub first_starts : (e : Phrase) (es : Phrases) (w : Bool) (m : ℕ) (t : Token) (rest : List Token) → term w m e ≡ true → Starts ((tokens_of e ++ each es) ++ t ∷ rest)
first_starts e es w m t rest h =
    begun_starts ((tokens_of e ++ each es) ++ t ∷ rest) (subst Begun (sym (append_assoc (tokens_of e) (each es) (t ∷ rest))) (term_begun e w m (each es ++ t ∷ rest) h))

terms_start : (es : Phrases) (w : Bool) (m : ℕ) (t : Token) (rest : List Token) → IsNext (Some t) → terms w m es ≡ true → Starts (each es ++ t ∷ rest)
terms_start nothing w m t rest i h = i
terms_start (more e es) w m t rest i h =
    first_starts e es w m t rest (split (term w m e) (terms w m es) h).fst

-- ---- records

pub settles_field : (e : Phrase) (s w : Bool) (l : Literal) (at : ℕ) (done : List Phrase) (j k : Stack) → Finds e s true 0 j (fields w l at done ∷ k)
    → Settles j (fields w l at (done ++ e ∷ []) ∷ k)
settles_field e s w l at done j k f = record { on = λ t i. f.on t (next_least t 0 i) ∙ found t i }
  where
    found : (t : Option Token) → IsNext t → after t e s true (fields w l at done ∷ k) ≡ next t (fields w l at (done ++ e ∷ []) ∷ k)
    found (Some (Infix op)) i = elim i [ ]
    found (Some Bar) i = elim i [ ]
    found (Some Hash) i = elim i [ ]
    found (Some Dot) i = elim i [ ]
    found (Some Colon) i = elim i [ ]
    found t i = refl

pub settles_keyed : (e : Phrase) (s w : Bool) (c : Constant) (place : ℕ) (l : Literal) (at : ℕ) (done : List Phrase) (j k : Stack) → Finds e s true 0 j (key w c place ∷ fields w l at done ∷ k)
    → Settles j (fields w l at (done ++ keyed c place e ∷ []) ∷ k)
settles_keyed e s w c place l at done j k f = record { on = λ t i. f.on t (next_least t 0 i) ∙ found t i }
  where
    found : (t : Option Token) → IsNext t → after t e s true (key w c place ∷ fields w l at done ∷ k) ≡ next t (fields w l at (done ++ keyed c place e ∷ []) ∷ k)
    found (Some (Infix op)) i = elim i [ ]
    found (Some Bar) i = elim i [ ]
    found (Some Hash) i = elim i [ ]
    found (Some Dot) i = elim i [ ]
    found t i = refl

-- fields begin with no operator and no `:`
fields_start : (w : Bool) (fs : Phrases) → are_fields w fs ≡ true → Starts (each fs ++ CloseParen ∷ [])
fields_start w nothing h = tt
fields_start w (more (keyed (constant.Int i) at e) fs) h = tt
fields_start w (more (keyed (constant.Literal l) at e) fs) h = tt
fields_start w (more e fs) h =
    first_starts e fs w 0 CloseParen [] (split (term w 0 e) (are_fields w fs) h).fst

-- the fields that are left, and the parenthesis
abbrev pub ReadsFields : Phrases → Bool → Literal → ℕ → List Phrase → Stack → Type 0
ReadsFields fs w l at done k = run (Some (fields w l at done ∷ k)) (each fs ++ CloseParen ∷ []) ≡ Some (had (rec l at (of_list (done ++ list_of fs))) false true k)

pub no_fields : (w : Bool) (l : Literal) (at : ℕ) (done : List Phrase) (k : Stack) → ReadsFields nothing w l at done k
no_fields w l at done k = ap (λ v. Some (had (rec l at (of_list v)) false true k)) (sym (append-nil done))

pub plain_field : (e : Phrase) (fs : Phrases) (w : Bool) (l : Literal) (at : ℕ) (done : List Phrase) (k : Stack) → are_fields w fs ≡ true
    → ReadsTerm e 0 (fields w l at done ∷ k) → ReadsFields fs w l at (done ++ e ∷ []) k → ReadsFields (more e fs) w l at done k
plain_field e fs w l at done k h r q =
    ap (run (Some (fields w l at done ∷ k))) (append_assoc (tokens_of e) (each fs) (CloseParen ∷ []))
    ∙ then_run (Some (fields w l at done ∷ k)) (tokens_of e) (each fs ++ CloseParen ∷ []) _ r.reads
    ∙ restart (each fs ++ CloseParen ∷ []) r.at (fields w l at (done ++ e ∷ []) ∷ k) (settles_field e r.states w l at done r.at k r.finds) (fields_start w fs h)
    ∙ q
    ∙ ap (λ v. Some (had (rec l at (of_list v)) false true k)) (append_assoc done (e ∷ []) (list_of fs))

-- a key and the `:` behind it
opens_key : (c : Constant) (place : ℕ) (ts : List Token) (w : Bool) (l : Literal) (at : ℕ) (done : List Phrase) (k : Stack)
    → run (Some (fields w l at done ∷ k)) (key_token c place ∷ Colon ∷ ts) ≡ run (Some (key w c place ∷ fields w l at done ∷ k)) ts
opens_key (constant.Int i) place ts true l at done k = refl
opens_key (constant.Int i) place ts false l at done k = refl
opens_key (constant.Literal m) place ts true l at done k = refl
opens_key (constant.Literal m) place ts false l at done k = refl

pub keyed_field : (c : Constant) (place : ℕ) (e : Phrase) (fs : Phrases) (w : Bool) (l : Literal) (at : ℕ) (done : List Phrase) (k : Stack) → are_fields w fs ≡ true
    → ReadsTerm e 0 (key w c place ∷ fields w l at done ∷ k) → ReadsFields fs w l at (done ++ keyed c place e ∷ []) k → ReadsFields (more (keyed c place e) fs) w l at done k
keyed_field c place e fs w l at done k h r q =
    opens_key c place ((tokens_of e ++ each fs) ++ CloseParen ∷ []) w l at done k
    ∙ ap (run (Some (key w c place ∷ fields w l at done ∷ k))) (append_assoc (tokens_of e) (each fs) (CloseParen ∷ []))
    ∙ then_run (Some (key w c place ∷ fields w l at done ∷ k)) (tokens_of e) (each fs ++ CloseParen ∷ []) _ r.reads
    ∙ restart (each fs ++ CloseParen ∷ []) r.at (fields w l at (done ++ keyed c place e ∷ []) ∷ k) (settles_keyed e r.states w c place l at done r.at k r.finds) (fields_start w fs h)
    ∙ q
    ∙ ap (λ v. Some (had (rec l at (of_list v)) false true k)) (append_assoc done (keyed c place e ∷ []) (list_of fs))

pub reads_record : (l : Literal) (at : ℕ) (fs : Phrases) (w b : Bool) (m n : ℕ) (k : Stack) → Place w b m k → ReadsFields fs w l at [] k → ReadsTerm (rec l at fs) n k
reads_record l at fs w b m n k f r = term_had (rec l at fs) w b m n k f (record {
  states = false;
  values = true;
  good = refl;
  reads =
      steps (Label l at) (each fs ++ CloseParen ∷ []) k _ (f.opens (Label l at) tt ∙ found w)
      ∙ r
      ∙ ap (λ v. Some (had (rec l at v) false true k)) (of_list-list_of fs);
})
  where
    found : (v : Bool) → begins (kind_by v) (Label l at) k ≡ Some (fields v l at [] ∷ k)
    found true = refl
    found false = refl

-- ---- lists

settles_element : (e : Phrase) (s w : Bool) (at : ℕ) (done : List Phrase) (j k : Stack) → Finds e s true 0 j (listing w at done ∷ k) → Settles j (listing w at (done ++ e ∷ []) ∷ k)
settles_element e s w at done j k f = record { on = λ t i. f.on t (next_least t 0 i) ∙ found t i }
  where
    found : (t : Option Token) → IsNext t → after t e s true (listing w at done ∷ k) ≡ next t (listing w at (done ++ e ∷ []) ∷ k)
    found (Some (Infix op)) i = elim i [ ]
    found (Some Bar) i = elim i [ ]
    found (Some Hash) i = elim i [ ]
    found (Some Dot) i = elim i [ ]
    found t i = refl

abbrev pub ReadsElements : Phrases → Bool → ℕ → List Phrase → Stack → Type 0
ReadsElements es w at done k = run (Some (listing w at done ∷ k)) (each es ++ CloseBracket ∷ []) ≡ Some (had (list at (of_list (done ++ list_of es))) false true k)

pub no_elements : (w : Bool) (at : ℕ) (done : List Phrase) (k : Stack) → is_some_item done ≡ true → ReadsElements nothing w at done k
no_elements w at done k h = guard_true (is_some_item done) _ h ∙ ap (λ v. Some (had (list at (of_list v)) false true k)) (sym (append-nil done))

pub next_element : (e : Phrase) (es : Phrases) (w : Bool) (at : ℕ) (done : List Phrase) (k : Stack) → terms w 0 es ≡ true → ReadsTerm e 0 (listing w at done ∷ k)
    → ReadsElements es w at (done ++ e ∷ []) k → ReadsElements (more e es) w at done k
next_element e es w at done k h r q =
    ap (run (Some (listing w at done ∷ k))) (append_assoc (tokens_of e) (each es) (CloseBracket ∷ []))
    ∙ then_run (Some (listing w at done ∷ k)) (tokens_of e) (each es ++ CloseBracket ∷ []) _ r.reads
    ∙ restart (each es ++ CloseBracket ∷ []) r.at (listing w at (done ++ e ∷ []) ∷ k) (settles_element e r.states w at done r.at k r.finds) (terms_start es w 0 CloseBracket [] tt h)
    ∙ q
    ∙ ap (λ v. Some (had (list at (of_list v)) false true k)) (append_assoc done (e ∷ []) (list_of es))

pub reads_list : (at : ℕ) (es : Phrases) (w b : Bool) (m n : ℕ) (k : Stack) → Place w b m k → ReadsElements es w at [] k → ReadsTerm (list at es) n k
reads_list at es w b m n k f r = term_had (list at es) w b m n k f (record {
  states = false;
  values = true;
  good = refl;
  reads =
      steps (OpenBracket at) (each es ++ CloseBracket ∷ []) k _ (f.opens (OpenBracket at) tt ∙ found w)
      ∙ r
      ∙ ap (λ v. Some (had (list at v) false true k)) (of_list-list_of es);
})
  where
    found : (v : Bool) → begins (kind_by v) (OpenBracket at) k ≡ Some (listing v at [] ∷ k)
    found true = refl
    found false = refl

-- ---- calls

settles_part : (e : Phrase) (s : Bool) (at : ℕ) (done : List Phrase) (j k : Stack) → Finds e s true 0 j (parts at done ∷ k) → Settles j (parts at (done ++ e ∷ []) ∷ k)
settles_part e s at done j k f = record { on = λ t i. f.on t (next_least t 0 i) ∙ found t i }
  where
    found : (t : Option Token) → IsNext t → after t e s true (parts at done ∷ k) ≡ next t (parts at (done ++ e ∷ []) ∷ k)
    found (Some (Infix op)) i = elim i [ ]
    found (Some Bar) i = elim i [ ]
    found (Some Hash) i = elim i [ ]
    found (Some Dot) i = elim i [ ]
    found t i = refl

abbrev pub ReadsParts : Phrases → ℕ → List Phrase → Stack → Type 0
ReadsParts es at done k = run (Some (parts at done ∷ k)) (each es ++ CloseBrace ∷ []) ≡ Some (had (call at (of_list (done ++ list_of es))) true true k)

pub no_parts : (at : ℕ) (done : List Phrase) (k : Stack) → is_some_item done ≡ true → ReadsParts nothing at done k
no_parts at done k h = guard_true (is_some_item done) _ h ∙ ap (λ v. Some (had (call at (of_list v)) true true k)) (sym (append-nil done))

pub next_part : (e : Phrase) (es : Phrases) (at : ℕ) (done : List Phrase) (k : Stack) → terms false 0 es ≡ true → ReadsTerm e 0 (parts at done ∷ k)
    → ReadsParts es at (done ++ e ∷ []) k → ReadsParts (more e es) at done k
next_part e es at done k h r q =
    ap (run (Some (parts at done ∷ k))) (append_assoc (tokens_of e) (each es) (CloseBrace ∷ []))
    ∙ then_run (Some (parts at done ∷ k)) (tokens_of e) (each es ++ CloseBrace ∷ []) _ r.reads
    ∙ restart (each es ++ CloseBrace ∷ []) r.at (parts at (done ++ e ∷ []) ∷ k) (settles_part e r.states at done r.at k r.finds) (terms_start es false 0 CloseBrace [] tt h)
    ∙ q
    ∙ ap (λ v. Some (had (call at (of_list v)) true true k)) (append_assoc done (e ∷ []) (list_of es))

pub reads_call : (v : Bool) (at : ℕ) (es : Phrases) (b : Bool) (m : ℕ) (k : Stack) → Place false b m k → ReadsParts es at [] k → ReadsHad v (tokens_of (call at es)) k (call at es) k
reads_call v at es b m k f r = record {
  states = true;
  values = true;
  good = found v;
  reads =
      steps (OpenBrace at) (each es ++ CloseBrace ∷ []) k _ (f.opens (OpenBrace at) tt)
      ∙ r
      ∙ ap (λ w. Some (had (call at w) true true k)) (of_list-list_of es);
}
  where
    found : (v : Bool) → chosen v true true ≡ true
    found true = refl
    found false = refl

-- ---- heads

-- the parameters that are left, and the brace; what comes before them is not empty
pub reads_parameters : (hs : Phrases) (m : Maker) (at : ℕ) (p : Phrase) (done : List Phrase) (k : Stack) (rest : List Token) → are_parameters hs ≡ true
    → run (Some (heads m at (p ∷ done) ∷ k)) (each hs ++ CloseBrace ∷ rest) ≡ run (Some (opened (made m (head at (of_list (p ∷ (done ++ list_of hs))))) k)) rest
reads_parameters nothing m at p done k rest h = ap (λ v. run (Some (opened (made m (head at (of_list (p ∷ v)))) k)) rest) (sym (append-nil done))
reads_parameters (more (var name place) hs) m at p done k rest h =
    reads_parameters hs m at p (done ++ var name place ∷ []) k rest h
    ∙ ap (λ v. run (Some (opened (made m (head at (of_list (p ∷ v)))) k)) rest) (append_assoc done (var name place ∷ []) (list_of hs))
reads_parameters (more (any place) hs) m at p done k rest h =
    reads_parameters hs m at p (done ++ any place ∷ []) k rest h
    ∙ ap (λ v. run (Some (opened (made m (head at (of_list (p ∷ v)))) k)) rest) (append_assoc done (any place ∷ []) (list_of hs))
reads_parameters (more p hs) m at q done k rest h = absurd (cc)
