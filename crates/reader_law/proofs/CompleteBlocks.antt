-- The phrases of a block: statements, declarations and bodies.
use Rattle.std.proofs.Common.{◌≡◌, ℕ, zero, ◌+◌, nat_le, nat_lt, List, [], ◌∷◌, ◌++◌, Option, Some, Bool, true, false, ◌&&◌, ◌||◌, refl, sym, ap, ◌∙◌, subst, arith, append_assoc}
use Rattle.std.proofs.lemmas.List.{append-nil}
use Rattle.std.proofs.lemmas.Bool.Decides.{nat_tests}
use Rattle.oz_language.specs.Grammar.{connective_token, level_of_selection, Phrase, Phrases, nothing, more, of_list, var, binary, connected, relate, body, skip, tokens_of, each, is_side, terms_in, terms_limit, term}
use Rattle.oz_language.specs.declared.token.Token.{Token}
use Rattle.oz_language.specs.declared.token.Comparison.{Comparison}
use Rattle.oz_language.specs.declared.token.Connective.{Connective}
use Rattle.oz_language.specs.declared.token.Token.TheVariants.{Var, Any, Int, String, Literal as Lit, Label, OpenParen, OpenBracket, OpenBrace, At, Fail, Raise, Proc, Fun, Local, Thread, Choice, If, Case, Skip, Try, In, Bar, Hash, Dot, Infix, Equals, Assign, Domain, Domains, Relates}
use Rattle.oz_language.specs.declared.token.Operator.TheVariants.{Plus, Minus}
use Rattle.oz_language.specs.declared.token.Connective.TheVariants.{Equates, Assigns, Bounds, BoundsEach}
use Rattle.reader_law.specs.Machine.{Opener, declaring, block, whole, connecting, relating, Stack, binds, right_level, item, enter, declares, after, next, run}
use Rattle.reader_law.proofs.Basics.{both, or_true, guard_true, list_of, of_list-list_of, then_run, term_binds}
use Rattle.reader_law.proofs.CompleteBasics.{steps, chosen}
use Rattle.reader_law.proofs.CompletePlaces.{Finds, finds_whole, level_of_signs}
use Rattle.reader_law.proofs.CompleteTerms.{ReadsTerm, ReadsHad}
use Rattle.reader_law.proofs.CompleteSequences.{IsNext, next_least, IsStart, start_next, Begun}
use Rattle.reader_law.proofs.CompleteSides.{ReadsSide}

-- ---- what a block finds behind its phrases

-- what is open is a block with these phrases, the last of them maybe not taken in yet
pub record Onward (j : Stack) (o : Opener) (d s e : Bool) (ds ps : List Phrase) (k : Stack) : Type 0 where
  pub on : (t : Option Token) → IsNext t → next t j ≡ item t o d s e ds ps k

pub block_onward : (o : Opener) (d s : Bool) (ds ps : List Phrase) (k : Stack) → Onward (block o d s ds ps ∷ k) o d s false ds ps k
block_onward o d s ds ps k = record { on = λ t i. refl }

pub finds_onward : (p : Phrase) (s e : Bool) (j : Stack) (o : Opener) (d b : Bool) (ds ps : List Phrase) (k : Stack) → Finds p s e 0 j (block o d b ds ps ∷ k)
    → Onward j o (d && declares p) (b && s) (b && e) ds (ps ++ p ∷ []) k
finds_onward p s e j o d b ds ps k f = record { on = λ t i. f.on t (next_least t 0 i) ∙ found t i }
  where
    found : (t : Option Token) → IsNext t → after t p s e (block o d b ds ps ∷ k) ≡ item t o (d && declares p) (b && s) (b && e) ds (ps ++ p ∷ []) k
    found (Some (Infix op)) i = elim i [ ]
    found (Some Bar) i = elim i [ ]
    found (Some Hash) i = elim i [ ]
    found (Some Dot) i = elim i [ ]
    found (Some Equals) i = elim i [ ]
    found (Some Assign) i = elim i [ ]
    found (Some Domain) i = elim i [ ]
    found (Some Domains) i = elim i [ ]
    found (Some (Relates r)) i = elim i [ ]
    found t i = refl

pub connecting_onward : (c : Connective) (a p : Phrase) (s : Bool) (m : ℕ) (j : Stack) (o : Opener) (d b : Bool) (ds ps : List Phrase) (k : Stack)
    → Finds p s true m j (connecting c a ∷ block o d b ds ps ∷ k) → Onward j o (d && declares (connected c a p)) (b && true) (b && false) ds (ps ++ connected c a p ∷ []) k
connecting_onward c a p s m j o d b ds ps k f = record { on = λ t i. f.on t (next_least t m i) ∙ found t i }
  where
    found : (t : Option Token) → IsNext t → after t p s true (connecting c a ∷ block o d b ds ps ∷ k) ≡ item t o (d && declares (connected c a p)) (b && true) (b && false) ds (ps ++ connected c a p ∷ []) k
    found (Some (Infix op)) i = elim i [ ]
    found (Some Bar) i = elim i [ ]
    found (Some Hash) i = elim i [ ]
    found (Some Dot) i = elim i [ ]
    found t i = refl

pub relating_onward : (r : Comparison) (a p : Phrase) (s : Bool) (j : Stack) (o : Opener) (d b : Bool) (ds ps : List Phrase) (k : Stack)
    → Finds p s true level_of_signs j (relating r a ∷ block o d b ds ps ∷ k) → Onward j o (d && false) (b && true) (b && false) ds (ps ++ relate r a p ∷ []) k
relating_onward r a p s j o d b ds ps k f = record { on = λ t i. f.on t (next_least t level_of_signs i) ∙ found t i }
  where
    found : (t : Option Token) → IsNext t → after t p s true (relating r a ∷ block o d b ds ps ∷ k) ≡ item t o (d && false) (b && true) (b && false) ds (ps ++ relate r a p ∷ []) k
    found (Some (Infix op)) i = elim i [ ]
    found (Some Bar) i = elim i [ ]
    found (Some Hash) i = elim i [ ]
    found (Some Dot) i = elim i [ ]
    found t i = refl

-- whether the phrases before are a value matters only at the end
start_item : (t : Token) (o : Opener) (d s e : Bool) (ds ps : List Phrase) (k : Stack) → IsStart t → item (Some t) o d s e ds ps k ≡ item (Some t) o d s false ds ps k
start_item (Var name at) o d s e ds ps k i = refl
start_item (Any at) o d s e ds ps k i = refl
start_item (Int n at) o d s e ds ps k i = refl
start_item (String w at) o d s e ds ps k i = refl
start_item (Lit l at) o d s e ds ps k i = refl
start_item (Label l at) o d s e ds ps k i = refl
start_item (OpenParen at) o d s e ds ps k i = refl
start_item (OpenBracket at) o d s e ds ps k i = refl
start_item (OpenBrace at) o d s e ds ps k i = refl
start_item (At at) o d s e ds ps k i = refl
start_item (Fail at) o d s e ds ps k i = refl
start_item (Raise at) o d s e ds ps k i = refl
start_item (Proc at) o d s e ds ps k i = refl
start_item (Fun at) o d s e ds ps k i = refl
start_item (Local at) o d s e ds ps k i = refl
start_item (Thread at) o d s e ds ps k i = refl
start_item (Choice at) o d s e ds ps k i = refl
start_item (If at) o d s e ds ps k i = refl
start_item (Case at) o d s e ds ps k i = refl
start_item Skip o d s e ds ps k i = refl
start_item Try o d s e ds ps k i = refl
start_item t o d s e ds ps k i = elim i [ ]

-- the next phrase begins as if the last had been taken in
pub restart_block : (ts : List Token) (j : Stack) (o : Opener) (d s e : Bool) (ds ps : List Phrase) (k : Stack) → Onward j o d s e ds ps k → Begun ts
    → run (Some j) ts ≡ run (Some (block o d s ds ps ∷ k)) ts
restart_block (t ∷ ts) j o d s e ds ps k r i = ap (λ q. run q ts) (r.on (Some t) (start_next t i) ∙ start_item t o d s e ds ps k i)
restart_block [] j o d s e ds ps k r i = elim i [ ]

-- ---- statements

-- the tokens of a phrase among statements: a statement, or a value, as it is asked for
pub record ReadsItem (v : Bool) (p : Phrase) (o : Opener) (d : Bool) (ds ps : List Phrase) (k : Stack) : Type 0 where
  pub at : Stack
  pub states : Bool
  pub values : Bool
  pub good : chosen v states values ≡ true
  pub reads : run (Some (block o d true ds ps ∷ k)) (tokens_of p) ≡ Some at
  pub on : Onward at o (d && declares p) states values ds (ps ++ p ∷ []) k

pub item_had : (v : Bool) (p : Phrase) (o : Opener) (d : Bool) (ds ps : List Phrase) (k : Stack) → ReadsHad v (tokens_of p) (block o d true ds ps ∷ k) p (block o d true ds ps ∷ k) → ReadsItem v p o d ds ps k
item_had v p o d ds ps k r = record {
  at = whole p r.states r.values ∷ block o d true ds ps ∷ k;
  states = r.states;
  values = r.values;
  good = r.good;
  reads = r.reads;
  on = finds_onward p r.states r.values _ o d true ds ps k (finds_whole p r.states r.values 0 (block o d true ds ps ∷ k));
}

pub item_term : (p : Phrase) (o : Opener) (d : Bool) (ds ps : List Phrase) (k : Stack) → ReadsTerm p 0 (block o d true ds ps ∷ k) → ReadsItem true p o d ds ps k
item_term p o d ds ps k r = record {
  at = r.at;
  states = r.states;
  values = true;
  good = refl;
  reads = r.reads;
  on = finds_onward p r.states true r.at o d true ds ps k r.finds;
}

pub item_skip : (o : Opener) (d : Bool) (ds ps : List Phrase) (k : Stack) → ReadsItem false skip o d ds ps k
item_skip o d ds ps k = item_had false skip o d ds ps k (record { states = true; values = false; good = refl; reads = refl })

-- how tightly the left side of a connective has to bind
abbrev pub connected_level : Connective → ℕ
connected_level Bounds = level_of_selection
connected_level BoundsEach = level_of_selection
connected_level c = zero

takes_connective : (c : Connective) (a : Phrase) (s : Bool) (o : Opener) (d : Bool) (ds ps : List Phrase) (j k : Stack) → term false (connected_level c) a ≡ true
    → Finds a s true (connected_level c) j (block o d true ds ps ∷ k) → next (Some (connective_token c)) j ≡ Some (connecting c a ∷ block o d true ds ps ∷ k)
takes_connective Equates a s o d ds ps j k h f = f.on (Some Equals) refl
takes_connective Assigns a s o d ds ps j k h f = f.on (Some Assign) refl
takes_connective Bounds a s o d ds ps j k h f = f.on (Some Domain) refl ∙ guard_true (nat_le level_of_selection (binds a)) _ (term_binds false level_of_selection a refl h)
takes_connective BoundsEach a s o d ds ps j k h f = f.on (Some Domains) refl ∙ guard_true (nat_le level_of_selection (binds a)) _ (term_binds false level_of_selection a refl h)

pub item_connected : (c : Connective) (a b : Phrase) (o : Opener) (d : Bool) (ds ps : List Phrase) (k : Stack) → term false (connected_level c) a ≡ true
    → ReadsTerm a (connected_level c) (block o d true ds ps ∷ k) → ReadsTerm b (right_level c) (connecting c a ∷ block o d true ds ps ∷ k) → ReadsItem false (connected c a b) o d ds ps k
item_connected c a b o d ds ps k h r q = record {
  at = q.at;
  states = true;
  values = false;
  good = refl;
  reads =
      then_run (Some (block o d true ds ps ∷ k)) (tokens_of a) (connective_token c ∷ tokens_of b) _ r.reads
      ∙ steps (connective_token c) (tokens_of b) r.at _ (takes_connective c a r.states o d ds ps r.at k h r.finds)
      ∙ q.reads;
  on = connecting_onward c a b q.states (right_level c) q.at o d true ds ps k q.finds;
}

some_terms : (p : Phrase) → nat_le 1 (terms_in p) ≡ true
some_terms (binary Plus a b) = grind (arith, nat_tests)
some_terms (binary Minus a b) = grind (arith, nat_tests)
some_terms p = refl

below_limit : (a b : ℕ) → nat_le 1 b ≡ true → nat_le (a + b) 64 ≡ true → nat_lt a 64 ≡ true
below_limit a b h i = grind (arith, nat_tests, h, i)

pub item_relate : (r : Comparison) (a b : Phrase) (o : Opener) (d : Bool) (ds ps : List Phrase) (k : Stack) → is_side a ≡ true → nat_le (terms_in a + terms_in b) terms_limit ≡ true
    → ReadsTerm a 0 (block o d true ds ps ∷ k) → ReadsSide b (relating r a ∷ block o d true ds ps ∷ k) → ReadsItem false (relate r a b) o d ds ps k
item_relate r a b o d ds ps k h l f g = record {
  at = g.at;
  states = true;
  values = false;
  good = refl;
  reads =
      then_run (Some (block o d true ds ps ∷ k)) (tokens_of a) (Relates r ∷ tokens_of b) _ f.reads
      ∙ steps (Relates r) (tokens_of b) f.at _
      (f.finds.on (Some (Relates r)) refl
      ∙ guard_true (is_side a && nat_lt (terms_in a) terms_limit) _ (both (is_side a) _ h (below_limit (terms_in a) (terms_in b) (some_terms b) l)))
      ∙ g.reads;
  on = relating_onward r a b g.states g.at o d true ds ps k g.finds;
}

-- the tokens of a block's phrases lead to where it may end
pub record ReadsItems (v : Bool) (ss : Phrases) (j : Stack) (o : Opener) (ds ps : List Phrase) (k : Stack) : Type 0 where
  pub at : Stack
  pub declares_all : Bool
  pub states : Bool
  pub values : Bool
  pub good : chosen v states values ≡ true
  pub reads : run (Some j) (each ss) ≡ Some at
  pub on : Onward at o declares_all states values ds (ps ++ list_of ss) k

pub no_items : (j : Stack) (o : Opener) (d e : Bool) (ds ps : List Phrase) (k : Stack) → Onward j o d true e ds ps k → ReadsItems false nothing j o ds ps k
no_items j o d e ds ps k r = record {
  at = j;
  declares_all = d;
  states = true;
  values = e;
  good = refl;
  reads = refl;
  on = subst (λ w. Onward j o d true e ds w k) (sym (append-nil ps)) r;
}

pub last_value : (p : Phrase) (j : Stack) (o : Opener) (d e : Bool) (ds ps : List Phrase) (k : Stack) → Onward j o d true e ds ps k → Begun (tokens_of p ++ []) → ReadsItem true p o d ds ps k
    → ReadsItems true (more p nothing) j o ds ps k
last_value p j o d e ds ps k r i q = record {
  at = q.at;
  declares_all = d && declares p;
  states = q.states;
  values = q.values;
  good = q.good;
  reads =
      restart_block (tokens_of p ++ []) j o d true e ds ps k r i
      ∙ ap (run (Some (block o d true ds ps ∷ k))) (append-nil (tokens_of p))
      ∙ q.reads;
  on = q.on;
}

-- behind a statement the block goes on
pub item_onward : (p : Phrase) (o : Opener) (d : Bool) (ds ps : List Phrase) (k : Stack) → (r : ReadsItem false p o d ds ps k) → Onward r.at o (d && declares p) true r.values ds (ps ++ p ∷ []) k
item_onward p o d ds ps k r = subst (λ w. Onward r.at o (d && declares p) w r.values ds (ps ++ p ∷ []) k) r.good r.on

pub next_item : (v : Bool) (p : Phrase) (ss : Phrases) (j : Stack) (o : Opener) (d e : Bool) (ds ps : List Phrase) (k : Stack) → Onward j o d true e ds ps k → Begun (tokens_of p ++ each ss)
    → (r : ReadsItem false p o d ds ps k) → ReadsItems v ss r.at o ds (ps ++ p ∷ []) k → ReadsItems v (more p ss) j o ds ps k
next_item v p ss j o d e ds ps k r i q n = record {
  at = n.at;
  declares_all = n.declares_all;
  states = n.states;
  values = n.values;
  good = n.good;
  reads =
      restart_block (tokens_of p ++ each ss) j o d true e ds ps k r i
      ∙ then_run (Some (block o d true ds ps ∷ k)) (tokens_of p) (each ss) _ q.reads
      ∙ n.reads;
  on = subst (λ w. Onward n.at o n.declares_all n.states n.values ds w k) (append_assoc ps (p ∷ []) (list_of ss)) n.on;
}

-- ---- declarations

pub record ReadsDecl (p : Phrase) (o : Opener) (s : Bool) (ps : List Phrase) (k : Stack) : Type 0 where
  pub at : Stack
  pub states : Bool
  pub values : Bool
  pub reads : run (Some (block o true s [] ps ∷ k)) (tokens_of p) ≡ Some at
  pub on : Onward at o true states values [] (ps ++ p ∷ []) k

pub decl_var : (name at : ℕ) (o : Opener) (s : Bool) (ps : List Phrase) (k : Stack) → ReadsDecl (var name at) o s ps k
decl_var name at o s ps k = record {
  at = whole (var name at) false true ∷ block o true s [] ps ∷ k;
  states = s && false;
  values = s && true;
  reads = refl;
  on = finds_onward (var name at) false true _ o true s [] ps k (finds_whole (var name at) false true 0 (block o true s [] ps ∷ k));
}

pub decl_equal : (name at : ℕ) (b : Phrase) (o : Opener) (s : Bool) (ps : List Phrase) (k : Stack) → ReadsTerm b 0 (connecting Equates (var name at) ∷ block o true s [] ps ∷ k)
    → ReadsDecl (connected Equates (var name at) b) o s ps k
decl_equal name at b o s ps k r = record {
  at = r.at;
  states = s && true;
  values = s && false;
  reads =
      ap (λ q. run q (tokens_of b)) (guard_true (s || true) (Some (connecting Equates (var name at) ∷ block o true s [] ps ∷ k)) (or_true s))
      ∙ r.reads;
  on = connecting_onward Equates (var name at) b r.states 0 r.at o true s [] ps k r.finds;
}

-- a procedure that has a name
pub decl_had : (p : Phrase) (e : Bool) (o : Opener) (s : Bool) (ps : List Phrase) (k : Stack) → declares p ≡ true → run (Some (block o true s [] ps ∷ k)) (tokens_of p) ≡ Some (whole p true e ∷ block o true s [] ps ∷ k)
    → ReadsDecl p o s ps k
decl_had p e o s ps k h r = record {
  at = whole p true e ∷ block o true s [] ps ∷ k;
  states = s && true;
  values = s && e;
  reads = r;
  on = subst (λ w. Onward (whole p true e ∷ block o true s [] ps ∷ k) o w (s && true) (s && e) [] (ps ++ p ∷ []) k) h (finds_onward p true e _ o true s [] ps k (finds_whole p true e 0 (block o true s [] ps ∷ k)));
}

pub record ReadsDecls (ds : Phrases) (o : Opener) (ps : List Phrase) (j k : Stack) : Type 0 where
  pub at : Stack
  pub states : Bool
  pub values : Bool
  pub reads : run (Some j) (each ds) ≡ Some at
  pub on : Onward at o true states values [] (ps ++ list_of ds) k

pub no_decls : (o : Opener) (s e : Bool) (ps : List Phrase) (j k : Stack) → Onward j o true s e [] ps k → ReadsDecls nothing o ps j k
no_decls o s e ps j k r = record { at = j; states = s; values = e; reads = refl; on = subst (λ w. Onward j o true s e [] w k) (sym (append-nil ps)) r }

pub next_decl : (p : Phrase) (ds : Phrases) (o : Opener) (s e : Bool) (ps : List Phrase) (j k : Stack) → Onward j o true s e [] ps k → Begun (tokens_of p ++ each ds) → (r : ReadsDecl p o s ps k)
    → ReadsDecls ds o (ps ++ p ∷ []) r.at k → ReadsDecls (more p ds) o ps j k
next_decl p ds o s e ps j k r i q n = record {
  at = n.at;
  states = n.states;
  values = n.values;
  reads =
      restart_block (tokens_of p ++ each ds) j o true s e [] ps k r i
      ∙ then_run (Some (block o true s [] ps ∷ k)) (tokens_of p) (each ds) _ q.reads
      ∙ n.reads;
  on = subst (λ w. Onward n.at o true n.states n.values [] w k) (append_assoc ps (p ∷ []) (list_of ds)) n.on;
}

-- ---- bodies

-- what holds a body
abbrev pub HoldsBody : Opener → Type 0
HoldsBody (declaring at) = ⊥
HoldsBody o = Unit {0}

-- from a block's beginning a body's tokens lead to where it may end
pub record ReadsBody (v : Bool) (x : Phrase) (o : Opener) (k : Stack) : Type 0 where
  pub at : Stack
  pub declares_all : Bool
  pub states : Bool
  pub values : Bool
  pub good : chosen v states values ≡ true
  pub before : List Phrase
  pub done : List Phrase
  pub whole : body (of_list before) (of_list done) ≡ x
  pub reads : run (Some (block o true true [] [] ∷ k)) (tokens_of x) ≡ Some at
  pub on : Onward at o declares_all states values before done k

enters_body : (o : Opener) (d : Phrase) (ds : List Phrase) (k : Stack) → HoldsBody o → enter o true (d ∷ ds) k ≡ Some (block o false true (d ∷ ds) [] ∷ k)
enters_body (declaring at) d ds k h = elim h [ ]
enters_body o d ds k h = refl

pub plain_body : (v : Bool) (ss : Phrases) (o : Opener) (k : Stack) → ReadsItems v ss (block o true true [] [] ∷ k) o [] [] k → ReadsBody v (body nothing ss) o k
plain_body v ss o k r = record {
  at = r.at;
  declares_all = r.declares_all;
  states = r.states;
  values = r.values;
  good = r.good;
  before = [];
  done = list_of ss;
  whole = ap (body nothing) (of_list-list_of ss);
  reads = r.reads;
  on = r.on;
}

pub declared_body : (v : Bool) (d : Phrase) (ds ss : Phrases) (o : Opener) (k : Stack) → HoldsBody o → ReadsDecls (more d ds) o [] (block o true true [] [] ∷ k) k
    → ReadsItems v ss (block o false true (d ∷ list_of ds) [] ∷ k) o (d ∷ list_of ds) [] k → ReadsBody v (body (more d ds) ss) o k
declared_body v d ds ss o k h r q = record {
  at = q.at;
  declares_all = q.declares_all;
  states = q.states;
  values = q.values;
  good = q.good;
  before = d ∷ list_of ds;
  done = list_of ss;
  whole = ap (λ w. body (more d w) (of_list (list_of ss))) (of_list-list_of ds) ∙ ap (body (more d ds)) (of_list-list_of ss);
  reads =
      ap (run (Some (block o true true [] [] ∷ k))) (append_assoc (each (more d ds)) (In ∷ []) (each ss))
      ∙ then_run (Some (block o true true [] [] ∷ k)) (each (more d ds)) (In ∷ each ss) _ r.reads
      ∙ ap (λ w. run w (each ss)) (r.on.on (Some In) tt ∙ enters_body o d (list_of ds) k h)
      ∙ q.reads;
  on = q.on;
}

-- a body and the token that closes it
pub closes : (v : Bool) (x : Phrase) (o : Opener) (k : Stack) (t : Token) (rest : List Token) → IsNext (Some t) → (r : ReadsBody v x o k)
    → run (Some (block o true true [] [] ∷ k)) (tokens_of x ++ t ∷ rest) ≡ run (item (Some t) o r.declares_all r.states r.values r.before r.done k) rest
closes v x o k t rest i r = then_run (Some (block o true true [] [] ∷ k)) (tokens_of x) (t ∷ rest) _ r.reads ∙ ap (λ q. run q rest) (r.on.on (Some t) i)
