-- Constructs that hold bodies. Each is read as a statement or as a value, as it is asked for.
use Rattle.std.proofs.Common.{◌≡◌, ℕ, List, [], ◌∷◌, ◌++◌, Option, Some, None, Bool, true, false, ◌&&◌, ◌||◌, refl, ap, ◌∙◌, subst, append_assoc}
use Rattle.std.proofs.lemmas.List.{append-nil}
use Rattle.oz_language.specs.Grammar.{Phrase, Phrases, nothing, more, of_list, var, paren, head, dollar, proc, fun, local, thread, choice, when, choose, arm, cases, cases_or, clause, attempt, lazy_tokens, tokens_of, each, separated, is_single, is_named_head, is_value_head}
use Rattle.oz_language.specs.declared.token.Token.{Token}
use Rattle.oz_language.specs.declared.token.Token.TheVariants.{Var, CloseParen, CloseBrace, Dollar, Box, Catch, Case, Choice, Else, ElseIf, End, If, In, Local, Of, Then, Thread}
use Rattle.reader_law.specs.Machine.{Opener, declaring, of_local, of_proc, of_fun, of_thread, of_choice, of_then, of_else, of_clause, of_case_else, of_try, of_catch, of_paren, Maker, making_proc, making_fun, block, heading, heads, testing, matching, patterns, catching, Stack, guard, is_some_item, body_of, opened, made, may_state, in_block, may_value, had, is_alive, ends, run}
use Rattle.reader_law.proofs.Basics.{guard_true, list_of, of_list-list_of, then_run}
use Rattle.reader_law.proofs.CompleteBasics.{steps, chosen, chosen_both, alive}
use Rattle.reader_law.proofs.CompletePlaces.{Place}
use Rattle.reader_law.proofs.CompleteTerms.{ReadsTerm, ReadsHad, opens_had}
use Rattle.reader_law.proofs.CompleteSequences.{reads_parameters}
use Rattle.reader_law.proofs.CompleteBlocks.{Onward, ReadsItems, ReadsDecls, ReadsBody, closes}

-- what is of the sort that may stand here comes to its end
ends_alive : (v : Bool) (p : Phrase) (s e : Bool) (k : Stack) → v || may_state k ≡ true → chosen v s e ≡ true → ends p s e k ≡ Some (had p s e k)
ends_alive v p s e k m h = guard_true (is_alive s e k) _ (alive v s e k m h)

-- ---- bodies in words

pub reads_thread : (v : Bool) (at : ℕ) (x : Phrase) (b : Bool) (m : ℕ) (k : Stack) → Place false b m k → v || may_state k ≡ true → ReadsBody v x (of_thread at) k
    → ReadsHad v (tokens_of (thread at x)) k (thread at x) k
reads_thread v at x b m k f a r = record {
  states = r.states;
  values = r.values;
  good = r.good;
  reads =
      steps (Thread at) (tokens_of x ++ End ∷ []) k _ (f.opens (Thread at) tt)
      ∙ closes v x (of_thread at) k End [] tt r
      ∙ ends_alive v (thread at (body_of r.before r.done)) r.states r.values k a r.good
      ∙ ap (λ w. Some (had (thread at w) r.states r.values k)) r.whole;
}

pub reads_local : (v : Bool) (at : ℕ) (l : Phrase) (ls : Phrases) (x : Phrase) (b : Bool) (m : ℕ) (k : Stack) → Place false b m k → v || may_state k ≡ true
    → ReadsDecls (more l ls) (declaring at) [] (block (declaring at) true false [] [] ∷ k) k → ReadsBody v x (of_local at (l ∷ list_of ls)) k
    → ReadsHad v (tokens_of (local at (more l ls) x)) k (local at (more l ls) x) k
reads_local v at l ls x b m k f a q r = record {
  states = r.states;
  values = r.values;
  good = r.good;
  reads =
      steps (Local at) (each (more l ls) ++ In ∷ (tokens_of x ++ End ∷ [])) k _ (f.opens (Local at) tt)
      ∙ then_run (Some (block (declaring at) true false [] [] ∷ k)) (each (more l ls)) (In ∷ (tokens_of x ++ End ∷ [])) _ q.reads
      ∙ ap (λ w. run w (tokens_of x ++ End ∷ [])) (q.on.on (Some In) tt)
      ∙ closes v x (of_local at (l ∷ list_of ls)) k End [] tt r
      ∙ ends_alive v (local at (more l (of_list (list_of ls))) (body_of r.before r.done)) r.states r.values k a r.good
      ∙ ap (λ w. Some (had (local at (more l w) (body_of r.before r.done)) r.states r.values k)) (of_list-list_of ls)
      ∙ ap (λ w. Some (had (local at (more l ls) w) r.states r.values k)) r.whole;
}

-- a parenthesis of statements
pub reads_sequence : (at : ℕ) (ss : Phrases) (o : Opener) (d : Bool) (ds ps : List Phrase) (k : Stack) → is_some_item (list_of ss) ≡ true
    → ReadsItems false ss (block (of_paren at) false true [] [] ∷ block o d true ds ps ∷ k) (of_paren at) [] [] (block o d true ds ps ∷ k)
    → ReadsHad false (tokens_of (paren at ss)) (block o d true ds ps ∷ k) (paren at ss) (block o d true ds ps ∷ k)
reads_sequence at ss o d ds ps k h r =
    let g = both_true r.states (is_some_item (list_of ss)) r.good h in
    record {
      states = r.states && is_some_item (list_of ss);
      values = r.values && is_single (of_list (list_of ss));
      good = g;
      reads =
          then_run (Some (block (of_paren at) false true [] [] ∷ block o d true ds ps ∷ k)) (each ss) (CloseParen ∷ []) _ r.reads
          ∙ r.on.on (Some CloseParen) tt
          ∙ ends_alive false (paren at (of_list (list_of ss))) (r.states && is_some_item (list_of ss)) (r.values && is_single (of_list (list_of ss))) (block o d true ds ps ∷ k) refl g
          ∙ ap (λ w. Some (had (paren at w) (r.states && is_some_item (list_of ss)) (r.values && is_single (of_list (list_of ss))) (block o d true ds ps ∷ k))) (of_list-list_of ss);
    }
  where
    both_true : (a b : Bool) → a ≡ true → b ≡ true → a && b ≡ true
    both_true true b i j = j
    both_true false b i j = absurd (cc)

-- ---- procedures

-- a head leads to the block of its body
abbrev pub ReadsHead : Maker → Phrase → Stack → Type 0
ReadsHead m h k = (rest : List Token) → run (Some (heading m ∷ k)) (tokens_of h ++ rest) ≡ run (Some (opened (made m h) k)) rest

pub named_head : (h : Phrase) (m : Maker) (k : Stack) → in_block k ≡ true → is_named_head h ≡ true → ReadsHead m h k
named_head (head at (more (var name place) hs)) m k i h rest =
    ap (λ ts. run (Some (heads m at [] ∷ k)) (Var name place ∷ ts)) (append_assoc (each hs) (CloseBrace ∷ []) rest)
    ∙ ap (λ q. run q (each hs ++ CloseBrace ∷ rest)) (guard_true (in_block k) (Some (heads m at (var name place ∷ []) ∷ k)) i)
    ∙ reads_parameters hs m at (var name place) [] k rest h
    ∙ ap (λ w. run (Some (opened (made m (head at (more (var name place) w))) k)) rest) (of_list-list_of hs)
named_head h m k i j rest = absurd (cc)

pub value_head : (h : Phrase) (m : Maker) (k : Stack) → may_value k ≡ true → is_value_head h ≡ true → ReadsHead m h k
value_head (head at (more dollar hs)) m k i h rest =
    ap (λ ts. run (Some (heads m at [] ∷ k)) (Dollar ∷ ts)) (append_assoc (each hs) (CloseBrace ∷ []) rest)
    ∙ ap (λ q. run q (each hs ++ CloseBrace ∷ rest)) (guard_true (may_value k) (Some (heads m at (dollar ∷ []) ∷ k)) i)
    ∙ reads_parameters hs m at dollar [] k rest h
    ∙ ap (λ w. run (Some (opened (made m (head at (more dollar w))) k)) rest) (of_list-list_of hs)
value_head h m k i j rest = absurd (cc)

pub reads_proc : (at : ℕ) (h x : Phrase) (k : Stack) → ReadsHead (making_proc at) h k → ReadsBody false x (of_proc at h) k
    → run (Some (heading (making_proc at) ∷ k)) (tokens_of h ++ (tokens_of x ++ End ∷ [])) ≡ Some (had (proc at h x) (is_named_head h) (is_value_head h) k)
reads_proc at h x k f r =
    f (tokens_of x ++ End ∷ [])
    ∙ closes false x (of_proc at h) k End [] tt r
    ∙ guard_true r.states _ r.good
    ∙ ap (λ w. Some (had (proc at h w) (is_named_head h) (is_value_head h) k)) r.whole

reads_lazy : (at : ℕ) (lazy : Option ℕ) (k : Stack) (rest : List Token) → run (Some (heading (making_fun at None) ∷ k)) (lazy_tokens lazy ++ rest) ≡ run (Some (heading (making_fun at lazy) ∷ k)) rest
reads_lazy at None k rest = refl
reads_lazy at (Some place) k rest = refl

pub reads_fun : (at : ℕ) (lazy : Option ℕ) (h x : Phrase) (k : Stack) → ReadsHead (making_fun at lazy) h k → ReadsBody true x (of_fun at lazy h) k
    → run (Some (heading (making_fun at None) ∷ k)) (lazy_tokens lazy ++ (tokens_of h ++ (tokens_of x ++ End ∷ []))) ≡ Some (had (fun at lazy h x) (is_named_head h) (is_value_head h) k)
reads_fun at lazy h x k f r =
    reads_lazy at lazy k (tokens_of h ++ (tokens_of x ++ End ∷ []))
    ∙ f (tokens_of x ++ End ∷ [])
    ∙ closes true x (of_fun at lazy h) k End [] tt r
    ∙ guard_true r.values _ r.good
    ∙ ap (λ w. Some (had (fun at lazy h w) (is_named_head h) (is_value_head h) k)) r.whole

-- ---- choices

pub last_box : (v : Bool) (at : ℕ) (sb eb : Bool) (x : Phrase) (done : List Phrase) (k : Stack) → v || may_state k ≡ true → chosen v sb eb ≡ true → ReadsBody v x (of_choice at sb eb done) k
    → ReadsHad v (separated Box (more x nothing) ++ End ∷ []) (opened (of_choice at sb eb done) k) (choice at (of_list (done ++ x ∷ []))) k
last_box v at sb eb x done k a c r =
    let g = chosen_both v sb eb r.states r.values c r.good in
    record {
      states = sb && r.states;
      values = eb && r.values;
      good = g;
      reads =
          ap (λ ts. run (Some (opened (of_choice at sb eb done) k)) (ts ++ End ∷ [])) (append-nil (tokens_of x))
          ∙ closes v x (of_choice at sb eb done) k End [] tt r
          ∙ ends_alive v (choice at (of_list (done ++ body_of r.before r.done ∷ []))) (sb && r.states) (eb && r.values) k a g
          ∙ ap (λ w. Some (had (choice at (of_list (done ++ w ∷ []))) (sb && r.states) (eb && r.values) k)) r.whole;
    }

pub next_box : (v : Bool) (at : ℕ) (sb eb : Bool) (x y : Phrase) (ys : Phrases) (done : List Phrase) (k : Stack) → v || may_state k ≡ true → chosen v sb eb ≡ true → (r : ReadsBody v x (of_choice at sb eb done) k)
    → ReadsHad v (separated Box (more y ys) ++ End ∷ []) (opened (of_choice at (sb && r.states) (eb && r.values) (done ++ x ∷ [])) k) (choice at (of_list ((done ++ x ∷ []) ++ list_of (more y ys)))) k
    → ReadsHad v (separated Box (more x (more y ys)) ++ End ∷ []) (opened (of_choice at sb eb done) k) (choice at (of_list (done ++ list_of (more x (more y ys))))) k
next_box v at sb eb x y ys done k a c r q = record {
  states = q.states;
  values = q.values;
  good = q.good;
  reads =
      ap (run (Some (opened (of_choice at sb eb done) k))) (append_assoc (tokens_of x) (Box ∷ separated Box (more y ys)) (End ∷ []))
      ∙ closes v x (of_choice at sb eb done) k Box (separated Box (more y ys) ++ End ∷ []) tt r
      ∙ ap (λ w. run w (separated Box (more y ys) ++ End ∷ [])) (guard_true (is_alive (sb && r.states) (eb && r.values) k) _ (alive v (sb && r.states) (eb && r.values) k a (chosen_both v sb eb r.states r.values c r.good)))
      ∙ ap (λ w. run (Some (opened (of_choice at (sb && r.states) (eb && r.values) (done ++ w ∷ [])) k)) (separated Box (more y ys) ++ End ∷ [])) r.whole
      ∙ q.reads
      ∙ ap (λ w. Some (had (choice at (of_list w)) q.states q.values k)) (append_assoc done (x ∷ []) (list_of (more y ys)));
}

pub reads_choice : (v : Bool) (at : ℕ) (bs : Phrases) (b : Bool) (m : ℕ) (k : Stack) → Place false b m k
    → ReadsHad v (separated Box bs ++ End ∷ []) (opened (of_choice at true true []) k) (choice at (of_list (list_of bs))) k → ReadsHad v (tokens_of (choice at bs)) k (choice at bs) k
reads_choice v at bs b m k f r =
    opens_had v (Choice at) (separated Box bs ++ End ∷ []) k (opened (of_choice at true true []) k) (choice at bs) k (f.opens (Choice at) tt)
    (subst (λ w. ReadsHad v (separated Box bs ++ End ∷ []) (opened (of_choice at true true []) k) (choice at w) k) (of_list-list_of bs) r)

-- ---- conditions

-- the tokens of arms, up to where the last one may end
pub record ReadsArms (v : Bool) (xs : Phrases) (place : ℕ) (s e : Bool) (done : List Phrase) (k : Stack) : Type 0 where
  pub at : Stack
  pub declares_all : Bool
  pub states_before : Bool
  pub values_before : Bool
  pub states : Bool
  pub values : Bool
  pub before : List Phrase
  pub test : Phrase
  pub declared : List Phrase
  pub stated : List Phrase
  pub good : chosen v (states_before && states) (values_before && values) ≡ true
  pub whole : before ++ arm test (body_of declared stated) ∷ [] ≡ done ++ list_of xs
  pub reads : run (Some (testing place s e done ∷ k)) (separated ElseIf xs) ≡ Some at
  pub on : Onward at (of_then place states_before values_before before test) declares_all states values declared stated k

reads_test : (c : Phrase) (place : ℕ) (s e : Bool) (done : List Phrase) (k : Stack) (rest : List Token) → ReadsTerm c 0 (testing place s e done ∷ k)
    → run (Some (testing place s e done ∷ k)) (tokens_of c ++ Then ∷ rest) ≡ run (Some (opened (of_then place s e done c) k)) rest
reads_test c place s e done k rest r =
    then_run (Some (testing place s e done ∷ k)) (tokens_of c) (Then ∷ rest) _ r.reads
    ∙ ap (λ q. run q rest) (r.finds.on (Some Then) refl)

pub last_arm : (v : Bool) (c x : Phrase) (place : ℕ) (s e : Bool) (done : List Phrase) (k : Stack) → chosen v s e ≡ true → ReadsTerm c 0 (testing place s e done ∷ k) → ReadsBody v x (of_then place s e done c) k
    → ReadsArms v (more (arm c x) nothing) place s e done k
last_arm v c x place s e done k h q r = record {
  at = r.at;
  declares_all = r.declares_all;
  states_before = s;
  values_before = e;
  states = r.states;
  values = r.values;
  before = done;
  test = c;
  declared = r.before;
  stated = r.done;
  good = chosen_both v s e r.states r.values h r.good;
  whole = ap (λ w. done ++ arm c w ∷ []) r.whole;
  reads =
      ap (run (Some (testing place s e done ∷ k))) (append-nil (tokens_of (arm c x)))
      ∙ reads_test c place s e done k (tokens_of x) q
      ∙ r.reads;
  on = r.on;
}

pub next_arm : (v : Bool) (c x y : Phrase) (ys : Phrases) (place : ℕ) (s e : Bool) (done : List Phrase) (k : Stack) → v || may_state k ≡ true → chosen v s e ≡ true
    → ReadsTerm c 0 (testing place s e done ∷ k) → (r : ReadsBody v x (of_then place s e done c) k)
    → ReadsArms v (more y ys) place (s && r.states) (e && r.values) (done ++ arm c x ∷ []) k → ReadsArms v (more (arm c x) (more y ys)) place s e done k
next_arm v c x y ys place s e done k a h q r n = record {
  at = n.at;
  declares_all = n.declares_all;
  states_before = n.states_before;
  values_before = n.values_before;
  states = n.states;
  values = n.values;
  before = n.before;
  test = n.test;
  declared = n.declared;
  stated = n.stated;
  good = n.good;
  whole = n.whole ∙ append_assoc done (arm c x ∷ []) (list_of (more y ys));
  reads =
      ap (run (Some (testing place s e done ∷ k))) (append_assoc (tokens_of c) (Then ∷ tokens_of x) (ElseIf ∷ separated ElseIf (more y ys)))
      ∙ reads_test c place s e done k (tokens_of x ++ ElseIf ∷ separated ElseIf (more y ys)) q
      ∙ closes v x (of_then place s e done c) k ElseIf (separated ElseIf (more y ys)) tt r
      ∙ ap (λ w. run w (separated ElseIf (more y ys))) (guard_true (is_alive (s && r.states) (e && r.values) k) _ (alive v (s && r.states) (e && r.values) k a (chosen_both v s e r.states r.values h r.good)))
      ∙ ap (λ w. run (Some (testing place (s && r.states) (e && r.values) (done ++ arm c w ∷ []) ∷ k)) (separated ElseIf (more y ys))) r.whole
      ∙ n.reads;
  on = n.on;
}

pub reads_when : (at : ℕ) (xs : Phrases) (b : Bool) (m : ℕ) (k : Stack) → Place false b m k → may_state k ≡ true → ReadsArms false xs at true true [] k → ReadsHad false (tokens_of (when at xs)) k (when at xs) k
reads_when at xs b m k f a r = record {
  states = true;
  values = false;
  good = refl;
  reads =
      steps (If at) (separated ElseIf xs ++ End ∷ []) k _ (f.opens (If at) tt)
      ∙ then_run (Some (testing at true true [] ∷ k)) (separated ElseIf xs) (End ∷ []) _ r.reads
      ∙ r.on.on (Some End) tt
      ∙ ap (λ q. guard (q && (r.states_before && r.states)) (Some (had (when at (of_list (r.before ++ arm r.test (body_of r.declared r.stated) ∷ []))) true false k))) a
      ∙ guard_true (r.states_before && r.states) _ r.good
      ∙ ap (λ w. Some (had (when at (of_list w)) true false k)) r.whole
      ∙ ap (λ w. Some (had (when at w) true false k)) (of_list-list_of xs);
}

pub reads_choose : (v : Bool) (at : ℕ) (xs : Phrases) (x : Phrase) (b : Bool) (m : ℕ) (k : Stack) → Place false b m k → v || may_state k ≡ true → (r : ReadsArms v xs at true true [] k)
    → ReadsBody v x (of_else at (r.states_before && r.states) (r.values_before && r.values) (list_of xs)) k → ReadsHad v (tokens_of (choose at xs x)) k (choose at xs x) k
reads_choose v at xs x b m k f a r q =
    let g = chosen_both v (r.states_before && r.states) (r.values_before && r.values) q.states q.values r.good q.good in
    record {
      states = (r.states_before && r.states) && q.states;
      values = (r.values_before && r.values) && q.values;
      good = g;
      reads =
          steps (If at) (separated ElseIf xs ++ Else ∷ (tokens_of x ++ End ∷ [])) k _ (f.opens (If at) tt)
          ∙ then_run (Some (testing at true true [] ∷ k)) (separated ElseIf xs) (Else ∷ (tokens_of x ++ End ∷ [])) _ r.reads
          ∙ ap (λ w. run w (tokens_of x ++ End ∷ []))
          (r.on.on (Some Else) tt ∙ guard_true (is_alive (r.states_before && r.states) (r.values_before && r.values) k) _ (alive v (r.states_before && r.states) (r.values_before && r.values) k a r.good))
          ∙ ap (λ w. run (Some (opened (of_else at (r.states_before && r.states) (r.values_before && r.values) w) k)) (tokens_of x ++ End ∷ [])) r.whole
          ∙ closes v x (of_else at (r.states_before && r.states) (r.values_before && r.values) (list_of xs)) k End [] tt q
          ∙ ends_alive v (choose at (of_list (list_of xs)) (body_of q.before q.done)) ((r.states_before && r.states) && q.states) ((r.values_before && r.values) && q.values) k a g
          ∙ ap (λ w. Some (had (choose at w (body_of q.before q.done)) ((r.states_before && r.states) && q.states) ((r.values_before && r.values) && q.values) k)) (of_list-list_of xs)
          ∙ ap (λ w. Some (had (choose at xs w) ((r.states_before && r.states) && q.states) ((r.values_before && r.values) && q.values) k)) q.whole;
    }

-- ---- matches

-- the tokens of clauses, up to where the last one may end
pub record ReadsClauses (v : Bool) (cs : Phrases) (place : ℕ) (c : Phrase) (s e : Bool) (done : List Phrase) (k : Stack) : Type 0 where
  pub at : Stack
  pub declares_all : Bool
  pub states_before : Bool
  pub values_before : Bool
  pub states : Bool
  pub values : Bool
  pub before : List Phrase
  pub matched : Phrase
  pub declared : List Phrase
  pub stated : List Phrase
  pub good : chosen v (states_before && states) (values_before && values) ≡ true
  pub whole : before ++ clause matched (body_of declared stated) ∷ [] ≡ done ++ list_of cs
  pub reads : run (Some (patterns place c s e done ∷ k)) (separated Box cs) ≡ Some at
  pub on : Onward at (of_clause place c states_before values_before before matched) declares_all states values declared stated k

reads_pattern : (p : Phrase) (place : ℕ) (c : Phrase) (s e : Bool) (done : List Phrase) (k : Stack) (rest : List Token) → ReadsTerm p 0 (patterns place c s e done ∷ k)
    → run (Some (patterns place c s e done ∷ k)) (tokens_of p ++ Then ∷ rest) ≡ run (Some (opened (of_clause place c s e done p) k)) rest
reads_pattern p place c s e done k rest r =
    then_run (Some (patterns place c s e done ∷ k)) (tokens_of p) (Then ∷ rest) _ r.reads
    ∙ ap (λ q. run q rest) (r.finds.on (Some Then) refl)

pub last_clause : (v : Bool) (p x : Phrase) (place : ℕ) (c : Phrase) (s e : Bool) (done : List Phrase) (k : Stack) → chosen v s e ≡ true → ReadsTerm p 0 (patterns place c s e done ∷ k)
    → ReadsBody v x (of_clause place c s e done p) k → ReadsClauses v (more (clause p x) nothing) place c s e done k
last_clause v p x place c s e done k h q r = record {
  at = r.at;
  declares_all = r.declares_all;
  states_before = s;
  values_before = e;
  states = r.states;
  values = r.values;
  before = done;
  matched = p;
  declared = r.before;
  stated = r.done;
  good = chosen_both v s e r.states r.values h r.good;
  whole = ap (λ w. done ++ clause p w ∷ []) r.whole;
  reads =
      ap (run (Some (patterns place c s e done ∷ k))) (append-nil (tokens_of (clause p x)))
      ∙ reads_pattern p place c s e done k (tokens_of x) q
      ∙ r.reads;
  on = r.on;
}

pub next_clause : (v : Bool) (p x y : Phrase) (ys : Phrases) (place : ℕ) (c : Phrase) (s e : Bool) (done : List Phrase) (k : Stack) → v || may_state k ≡ true → chosen v s e ≡ true
    → ReadsTerm p 0 (patterns place c s e done ∷ k) → (r : ReadsBody v x (of_clause place c s e done p) k)
    → ReadsClauses v (more y ys) place c (s && r.states) (e && r.values) (done ++ clause p x ∷ []) k → ReadsClauses v (more (clause p x) (more y ys)) place c s e done k
next_clause v p x y ys place c s e done k a h q r n = record {
  at = n.at;
  declares_all = n.declares_all;
  states_before = n.states_before;
  values_before = n.values_before;
  states = n.states;
  values = n.values;
  before = n.before;
  matched = n.matched;
  declared = n.declared;
  stated = n.stated;
  good = n.good;
  whole = n.whole ∙ append_assoc done (clause p x ∷ []) (list_of (more y ys));
  reads =
      ap (run (Some (patterns place c s e done ∷ k))) (append_assoc (tokens_of p) (Then ∷ tokens_of x) (Box ∷ separated Box (more y ys)))
      ∙ reads_pattern p place c s e done k (tokens_of x ++ Box ∷ separated Box (more y ys)) q
      ∙ closes v x (of_clause place c s e done p) k Box (separated Box (more y ys)) tt r
      ∙ ap (λ w. run w (separated Box (more y ys))) (guard_true (is_alive (s && r.states) (e && r.values) k) _ (alive v (s && r.states) (e && r.values) k a (chosen_both v s e r.states r.values h r.good)))
      ∙ ap (λ w. run (Some (patterns place c (s && r.states) (e && r.values) (done ++ clause p w ∷ []) ∷ k)) (separated Box (more y ys))) r.whole
      ∙ n.reads;
  on = n.on;
}

reads_subject : (c : Phrase) (at : ℕ) (b : Bool) (m : ℕ) (k : Stack) (rest : List Token) → Place false b m k → ReadsTerm c 0 (matching at ∷ k)
    → run (Some k) (Case at ∷ (tokens_of c ++ Of ∷ rest)) ≡ run (Some (patterns at c true true [] ∷ k)) rest
reads_subject c at b m k rest f r =
    steps (Case at) (tokens_of c ++ Of ∷ rest) k _ (f.opens (Case at) tt)
    ∙ then_run (Some (matching at ∷ k)) (tokens_of c) (Of ∷ rest) _ r.reads
    ∙ ap (λ q. run q rest) (r.finds.on (Some Of) refl)

pub reads_cases : (v : Bool) (at : ℕ) (c : Phrase) (cs : Phrases) (b : Bool) (m : ℕ) (k : Stack) → Place false b m k → v || may_state k ≡ true → ReadsTerm c 0 (matching at ∷ k)
    → ReadsClauses v cs at c true true [] k → ReadsHad v (tokens_of (cases at c cs)) k (cases at c cs) k
reads_cases v at c cs b m k f a q r = record {
  states = r.states_before && r.states;
  values = r.values_before && r.values;
  good = r.good;
  reads =
      reads_subject c at b m k (separated Box cs ++ End ∷ []) f q
      ∙ then_run (Some (patterns at c true true [] ∷ k)) (separated Box cs) (End ∷ []) _ r.reads
      ∙ r.on.on (Some End) tt
      ∙ ends_alive v (cases at c (of_list (r.before ++ clause r.matched (body_of r.declared r.stated) ∷ []))) (r.states_before && r.states) (r.values_before && r.values) k a r.good
      ∙ ap (λ w. Some (had (cases at c (of_list w)) (r.states_before && r.states) (r.values_before && r.values) k)) r.whole
      ∙ ap (λ w. Some (had (cases at c w) (r.states_before && r.states) (r.values_before && r.values) k)) (of_list-list_of cs);
}

pub reads_cases_or : (v : Bool) (at : ℕ) (c : Phrase) (cs : Phrases) (x : Phrase) (b : Bool) (m : ℕ) (k : Stack) → Place false b m k → v || may_state k ≡ true → ReadsTerm c 0 (matching at ∷ k)
    → (r : ReadsClauses v cs at c true true [] k) → ReadsBody v x (of_case_else at c (r.states_before && r.states) (r.values_before && r.values) (list_of cs)) k
    → ReadsHad v (tokens_of (cases_or at c cs x)) k (cases_or at c cs x) k
reads_cases_or v at c cs x b m k f a j r q =
    let g = chosen_both v (r.states_before && r.states) (r.values_before && r.values) q.states q.values r.good q.good in
    record {
      states = (r.states_before && r.states) && q.states;
      values = (r.values_before && r.values) && q.values;
      good = g;
      reads =
          reads_subject c at b m k (separated Box cs ++ Else ∷ (tokens_of x ++ End ∷ [])) f j
          ∙ then_run (Some (patterns at c true true [] ∷ k)) (separated Box cs) (Else ∷ (tokens_of x ++ End ∷ [])) _ r.reads
          ∙ ap (λ w. run w (tokens_of x ++ End ∷ []))
          (r.on.on (Some Else) tt ∙ guard_true (is_alive (r.states_before && r.states) (r.values_before && r.values) k) _ (alive v (r.states_before && r.states) (r.values_before && r.values) k a r.good))
          ∙ ap (λ w. run (Some (opened (of_case_else at c (r.states_before && r.states) (r.values_before && r.values) w) k)) (tokens_of x ++ End ∷ [])) r.whole
          ∙ closes v x (of_case_else at c (r.states_before && r.states) (r.values_before && r.values) (list_of cs)) k End [] tt q
          ∙ ends_alive v (cases_or at c (of_list (list_of cs)) (body_of q.before q.done)) ((r.states_before && r.states) && q.states) ((r.values_before && r.values) && q.values) k a g
          ∙ ap (λ w. Some (had (cases_or at c w (body_of q.before q.done)) ((r.states_before && r.states) && q.states) ((r.values_before && r.values) && q.values) k)) (of_list-list_of cs)
          ∙ ap (λ w. Some (had (cases_or at c cs w) ((r.states_before && r.states) && q.states) ((r.values_before && r.values) && q.values) k)) q.whole;
    }

-- ---- catches

-- the clauses that are left, and the end
abbrev pub ReadsCatches : Phrases → Phrase → List Phrase → Stack → Type 0
ReadsCatches cs y done k = run (Some (catching y done ∷ k)) (separated Box cs ++ End ∷ []) ≡ Some (had (attempt y (of_list (done ++ list_of cs))) true false k)

reads_caught : (p y : Phrase) (done : List Phrase) (k : Stack) (rest : List Token) → ReadsTerm p 0 (catching y done ∷ k)
    → run (Some (catching y done ∷ k)) (tokens_of p ++ Then ∷ rest) ≡ run (Some (opened (of_catch y done p) k)) rest
reads_caught p y done k rest r =
    then_run (Some (catching y done ∷ k)) (tokens_of p) (Then ∷ rest) _ r.reads
    ∙ ap (λ q. run q rest) (r.finds.on (Some Then) refl)

pub last_catch : (p x y : Phrase) (done : List Phrase) (k : Stack) → ReadsTerm p 0 (catching y done ∷ k) → ReadsBody false x (of_catch y done p) k → ReadsCatches (more (clause p x) nothing) y done k
last_catch p x y done k q r =
    ap (λ ts. run (Some (catching y done ∷ k)) (ts ++ End ∷ [])) (append-nil (tokens_of (clause p x)))
    ∙ ap (run (Some (catching y done ∷ k))) (append_assoc (tokens_of p) (Then ∷ tokens_of x) (End ∷ []))
    ∙ reads_caught p y done k (tokens_of x ++ End ∷ []) q
    ∙ closes false x (of_catch y done p) k End [] tt r
    ∙ guard_true r.states _ r.good
    ∙ ap (λ w. Some (had (attempt y (of_list (done ++ clause p w ∷ []))) true false k)) r.whole

pub next_catch : (p x y z : Phrase) (zs : Phrases) (done : List Phrase) (k : Stack) → ReadsTerm p 0 (catching y done ∷ k) → ReadsBody false x (of_catch y done p) k
    → ReadsCatches (more z zs) y (done ++ clause p x ∷ []) k → ReadsCatches (more (clause p x) (more z zs)) y done k
next_catch p x y z zs done k q r n =
    ap (run (Some (catching y done ∷ k))) (append_assoc (tokens_of (clause p x)) (Box ∷ separated Box (more z zs)) (End ∷ []))
    ∙ ap (run (Some (catching y done ∷ k))) (append_assoc (tokens_of p) (Then ∷ tokens_of x) (Box ∷ (separated Box (more z zs) ++ End ∷ [])))
    ∙ reads_caught p y done k (tokens_of x ++ Box ∷ (separated Box (more z zs) ++ End ∷ [])) q
    ∙ closes false x (of_catch y done p) k Box (separated Box (more z zs) ++ End ∷ []) tt r
    ∙ ap (λ w. run w (separated Box (more z zs) ++ End ∷ [])) (guard_true r.states _ r.good)
    ∙ ap (λ w. run (Some (catching y (done ++ clause p w ∷ []) ∷ k)) (separated Box (more z zs) ++ End ∷ [])) r.whole
    ∙ n
    ∙ ap (λ w. Some (had (attempt y (of_list w)) true false k)) (append_assoc done (clause p x ∷ []) (list_of (more z zs)))

pub reads_attempt : (y : Phrase) (cs : Phrases) (o : Opener) (d : Bool) (ds ps : List Phrase) (k : Stack) → ReadsBody false y of_try (block o d true ds ps ∷ k)
    → ReadsCatches cs y [] (block o d true ds ps ∷ k) → ReadsHad false (tokens_of (attempt y cs)) (block o d true ds ps ∷ k) (attempt y cs) (block o d true ds ps ∷ k)
reads_attempt y cs o d ds ps k r q = record {
  states = true;
  values = false;
  good = refl;
  reads =
      closes false y of_try (block o d true ds ps ∷ k) Catch (separated Box cs ++ End ∷ []) tt r
      ∙ ap (λ w. run w (separated Box cs ++ End ∷ [])) (guard_true r.states _ r.good)
      ∙ ap (λ w. run (Some (catching w [] ∷ block o d true ds ps ∷ k)) (separated Box cs ++ End ∷ [])) r.whole
      ∙ q
      ∙ ap (λ w. Some (had (attempt y w) true false (block o d true ds ps ∷ k))) (of_list-list_of cs);
}
