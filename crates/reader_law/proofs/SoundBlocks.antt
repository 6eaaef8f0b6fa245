-- Blocks spell their tokens, and leave what is open good.
use Rattle.std.proofs.Common.{◌≡◌, ℕ, zero, List, [], ◌∷◌, ◌++◌, Option, Some, None, Bool, true, false, ◌&&◌, ◌||◌, refl, sym, ap, ◌∙◌, subst, append_assoc}
use Rattle.std.proofs.lemmas.List.{append-nil}
use Rattle.oz_language.specs.Grammar.{tightest, Phrase, Phrases, nothing, more, of_list, var, paren, skip, proc, fun, local, thread, choice, when, choose, arm, cases, cases_or, clause, attempt, tokens_of, declared, is_more, is_single, is_named_head, is_value_head, terms, stmt, stmts, stmts_value, decl, decls, is_body, is_value_body, bodies, value_bodies, arms, value_arms, clauses, value_clauses, expr, pattern as is_pattern}
use Rattle.oz_language.specs.declared.token.Token.{Token}
use Rattle.oz_language.specs.declared.token.Token.TheVariants.{Var, Any, Int, String, Literal as Lit, Label, OpenParen, CloseParen, OpenBracket, OpenBrace, Box, At, Case, Catch, Choice, Else, ElseIf, End, Fail, Fun, If, In, Local, Of, Proc, Raise, Skip, Thread, Try}
use Rattle.reader_law.specs.Machine.{Opener, program, declaring, of_local, of_proc, of_fun, of_thread, of_choice, of_then, of_else, of_clause, of_case_else, of_try, of_catch, of_paren, making_proc, making_fun, block, whole, heading, testing, patterns, catching, Stack, guard, is_some_item, body_of, opened, may_state, had, is_alive, ends, expression_begins, binds, close, enter_body, enter, item, declares, item_over}
use Rattle.reader_law.proofs.Basics.{split, both, or_true, and_false, more_snoc, each_snoc, trailed_snoc, separated_snoc, stmts_snoc, stmts_value_snoc, decls_snoc, bodies_snoc, value_bodies_snoc, arms_snoc, value_arms_snoc, clauses_snoc, value_clauses_snoc}
use Rattle.reader_law.proofs.Good.{opener_tokens, spelled, Says, IsNil, Expresses, GoodItems, GoodOpener, Under, Good, Leads}
use Rattle.reader_law.proofs.Viable.{alive_stands, state_stands}
use Rattle.reader_law.proofs.SoundBasics.{told, says, says_and, leads_from, guard_leads, fresh_items, state_expresses, tight_leads}
use Rattle.reader_law.proofs.SoundTerms.{expression_leads}

-- what is known of a block's phrases by three flags: all may be declarations, all may be statements, and all but the last are
-- statements and it is a value
abbrev pub Tells : Bool → Bool → Bool → List Phrase → List Phrase → Type 0
Tells d s e ds ps = Says d (IsNil ds × (decls (of_list ps) ≡ true)) × Says s (stmts (of_list ps) ≡ true) × Says e (stmts_value (of_list ps) ≡ true) × (decls (of_list ds) ≡ true)

-- what is known of one phrase
abbrev pub Is : Phrase → Bool → Bool → Type 0
Is p s e = Says s (stmt p ≡ true) × Says e (expr p ≡ true) × Says (declares p) (decl p ≡ true)

-- ---- a block ends

-- bodies of statements, and bodies with a value
body_good : (s : Bool) (ds ps : List Phrase) → decls (of_list ds) ≡ true → Says s (stmts (of_list ps) ≡ true) → Says s (is_body (body_of ds ps) ≡ true)
body_good true ds ps h i = both (decls (of_list ds)) (stmts (of_list ps)) h i
body_good false ds ps h i = tt

value_body_good : (e : Bool) (ds ps : List Phrase) → decls (of_list ds) ≡ true → Says e (stmts_value (of_list ps) ≡ true) → Says e (is_value_body (body_of ds ps) ≡ true)
value_body_good true ds ps h i = both (decls (of_list ds)) (stmts_value (of_list ps)) h i
value_body_good false ds ps h i = tt

says_map : (a : Bool) (P Q : Type 0) → Says a P → (P → Q) → Says a Q
says_map true P Q p f = f p
says_map false P Q p f = tt

-- a block whose phrases are told, on good constructs
abbrev Closed : Opener → Bool → Bool → Bool → Bool → List Phrase → List Phrase → Stack → Type 0
Closed o d b s e ds ps k = GoodOpener o d b ds k × Under k × Says s (is_body (body_of ds ps) ≡ true) × Says e (is_value_body (body_of ds ps) ≡ true)

-- `end` makes a statement or an expression
ends_leads : (p : Phrase) (s e : Bool) (k j : Stack) (ts : List Token) → spelled k ++ tokens_of p ≡ spelled j ++ ts → Expresses k → Says s (stmt p ≡ true) → Says e (expr p ≡ true) → declares p ≡ false → binds p ≡ tightest → Under k → Leads j ts (ends p s e k)
ends_leads p s e k j ts q h i t d b u =
    guard_leads (is_alive s e k) j ts (Some (had p s e k)) (λ a.
    tight_leads false p s e k j ts q h.1 i (told e _ t) (subst (λ v. Says v (decl p ≡ true)) (sym d) tt) (alive_stands (declares p) s e k h.0 a) b u)

-- each construct by the token that ends its block
close_local : (t : Token) (at : ℕ) (ls : List Phrase) (d b s e : Bool) (ds ps : List Phrase) (k : Stack) → Closed (of_local at ls) d b s e ds ps k → Leads (block (of_local at ls) d b ds ps ∷ k) (t ∷ []) (close (Some t) (of_local at ls) s e ds ps k)
close_local End at ls d b s e ds ps k c =
    let x = body_of ds ps in
    ends_leads (local at (of_list ls) x) s e k (block (of_local at ls) d b ds ps ∷ k) (End ∷ []) (simp append_assoc) c.0.0
    (says_map s _ _ c.2 (λ i. both (is_more (of_list ls)) (decls (of_list ls) && is_body x) c.0.1 (both (decls (of_list ls)) (is_body x) c.0.2 i)))
    (says_map e _ _ c.3 (λ i. both (is_more (of_list ls)) (decls (of_list ls) && is_value_body x) c.0.1 (both (decls (of_list ls)) (is_value_body x) c.0.2 i))) refl refl c.1
close_local t at ls d b s e ds ps k c = tt

close_proc : (t : Token) (at : ℕ) (h : Phrase) (d b s e : Bool) (ds ps : List Phrase) (k : Stack) → Closed (of_proc at h) d b s e ds ps k → Leads (block (of_proc at h) d b ds ps ∷ k) (t ∷ []) (close (Some t) (of_proc at h) s e ds ps k)
close_proc End at h d b true e ds ps k c =
    let x = body_of ds ps in
    let n = says (is_named_head h) (stmt (proc at h x) ≡ true) (λ i. both (is_named_head h) (is_body x) i c.2) in
    tight_leads false (proc at h x) (is_named_head h) (is_value_head h) k (block (of_proc at h) d b ds ps ∷ k) (End ∷ []) (simp append_assoc) c.0.1 n (λ i. both (is_value_head h) (is_body x) i c.2) n c.0.0 refl c.1
close_proc End at h d b false e ds ps k c = tt
close_proc t at h d b s e ds ps k c = tt

close_fun : (t : Token) (at : ℕ) (lazy : Option ℕ) (h : Phrase) (d b s e : Bool) (ds ps : List Phrase) (k : Stack) → Closed (of_fun at lazy h) d b s e ds ps k → Leads (block (of_fun at lazy h) d b ds ps ∷ k) (t ∷ []) (close (Some t) (of_fun at lazy h) s e ds ps k)
close_fun End at lazy h d b s true ds ps k c =
    let x = body_of ds ps in
    let n = says (is_named_head h) (stmt (fun at lazy h x) ≡ true) (λ i. both (is_named_head h) (is_value_body x) i c.3) in
    tight_leads false (fun at lazy h x) (is_named_head h) (is_value_head h) k (block (of_fun at lazy h) d b ds ps ∷ k) (End ∷ []) (simp append_assoc) c.0.1 n (λ i. both (is_value_head h) (is_value_body x) i c.3) n c.0.0 refl c.1
close_fun End at lazy h d b s false ds ps k c = tt
close_fun t at lazy h d b s e ds ps k c = tt

close_thread : (t : Token) (at : ℕ) (d b s e : Bool) (ds ps : List Phrase) (k : Stack) → Closed (of_thread at) d b s e ds ps k → Leads (block (of_thread at) d b ds ps ∷ k) (t ∷ []) (close (Some t) (of_thread at) s e ds ps k)
close_thread End at d b s e ds ps k c = ends_leads (thread at (body_of ds ps)) s e k (block (of_thread at) d b ds ps ∷ k) (End ∷ []) (simp append_assoc) c.0 c.2 c.3 refl refl c.1
close_thread t at d b s e ds ps k c = tt

close_choice : (t : Token) (at : ℕ) (sb eb : Bool) (bs : List Phrase) (d b s e : Bool) (ds ps : List Phrase) (k : Stack) → Closed (of_choice at sb eb bs) d b s e ds ps k
    → Leads (block (of_choice at sb eb bs) d b ds ps ∷ k) (t ∷ []) (close (Some t) (of_choice at sb eb bs) s e ds ps k)
close_choice End at sb eb bs d b s e ds ps k c =
    let x = body_of ds ps in
    let xs = bs ++ x ∷ [] in
    ends_leads (choice at (of_list xs)) (sb && s) (eb && e) k (block (of_choice at sb eb bs) d b ds ps ∷ k) (End ∷ [])
    (ap (λ ts. spelled k ++ (Choice at ∷ (ts ++ End ∷ []))) (separated_snoc Box bs x) ∙ simp append_assoc) c.0.0.0
    (says_and sb s _ _ _ c.0.1 c.2 (λ h i. both (is_more (of_list xs)) (bodies (of_list xs)) (more_snoc bs x) (bodies_snoc bs x h i)))
    (says_and eb e _ _ _ c.0.2 c.3 (λ h i. both (is_more (of_list xs)) (value_bodies (of_list xs)) (more_snoc bs x) (value_bodies_snoc bs x h i))) refl refl c.1
close_choice Box at sb eb bs d b s e ds ps k c =
    let x = body_of ds ps in
    let xs = bs ++ x ∷ [] in
    guard_leads (is_alive (sb && s) (eb && e) k) (block (of_choice at sb eb bs) d b ds ps ∷ k) (Box ∷ []) (Some (opened (of_choice at (sb && s) (eb && e) xs) k)) (λ a. (
      ap (λ ts. spelled k ++ ((Choice at ∷ ts) ++ [])) (trailed_snoc Box bs x) ∙ simp (append_assoc, append-nil),
      ((fresh_items, ((c.0.0.0, a), says_and sb s _ _ _ c.0.1 c.2 (bodies_snoc bs x), says_and eb e _ _ _ c.0.2 c.3 (value_bodies_snoc bs x))), c.1),
    ))
close_choice t at sb eb bs d b s e ds ps k c = tt

-- ---- arms of an `if`

-- one more arm
arm_snoc : (sb s : Bool) (bs : List Phrase) (c x : Phrase) → expr c ≡ true → Says sb (arms (of_list bs) ≡ true) → Says s (is_body x ≡ true) → Says (sb && s) (arms (of_list (bs ++ arm c x ∷ [])) ≡ true)
arm_snoc sb s bs c x h i j = says_and sb s _ _ _ i j (λ u v. arms_snoc bs (arm c x) u (both (expr c) (is_body x) h v))

value_arm_snoc : (eb e : Bool) (bs : List Phrase) (c x : Phrase) → expr c ≡ true → Says eb (value_arms (of_list bs) ≡ true) → Says e (is_value_body x ≡ true) → Says (eb && e) (value_arms (of_list (bs ++ arm c x ∷ [])) ≡ true)
value_arm_snoc eb e bs c x h i j = says_and eb e _ _ _ i j (λ u v. value_arms_snoc bs (arm c x) u (both (expr c) (is_value_body x) h v))

close_then : (t : Token) (at : ℕ) (sb eb : Bool) (bs : List Phrase) (q : Phrase) (d b s e : Bool) (ds ps : List Phrase) (k : Stack) → Closed (of_then at sb eb bs q) d b s e ds ps k
    → Leads (block (of_then at sb eb bs q) d b ds ps ∷ k) (t ∷ []) (close (Some t) (of_then at sb eb bs q) s e ds ps k)
close_then End at sb eb bs q d b s e ds ps k c =
    let x = body_of ds ps in
    let xs = bs ++ arm q x ∷ [] in
    let p = when at (of_list xs) in
    guard_leads (may_state k && (sb && s)) (block (of_then at sb eb bs q) d b ds ps ∷ k) (End ∷ []) (Some (had p true false k)) (λ a.
    let i = split (may_state k) (sb && s) a in
    tight_leads false p true false k (block (of_then at sb eb bs q) d b ds ps ∷ k) (End ∷ [])
    (ap (λ ts. spelled k ++ (If at ∷ (ts ++ End ∷ []))) (separated_snoc ElseIf bs (arm q x)) ∙ simp append_assoc) c.0.0.0.1
    (both (is_more (of_list xs)) (arms (of_list xs)) (more_snoc bs (arm q x)) (told (sb && s) _ (arm_snoc sb s bs q x c.0.3 c.0.1 c.2) i.snd))
    (λ n. absurd (cc (n))) tt (state_stands false false k i.fst) refl c.1)
close_then ElseIf at sb eb bs q d b s e ds ps k c =
    let x = body_of ds ps in
    let xs = bs ++ arm q x ∷ [] in
    guard_leads (is_alive (sb && s) (eb && e) k) (block (of_then at sb eb bs q) d b ds ps ∷ k) (ElseIf ∷ []) (Some (testing at (sb && s) (eb && e) xs ∷ k)) (λ a. (
      ap (λ ts. spelled k ++ (If at ∷ ts)) (trailed_snoc ElseIf bs (arm q x)) ∙ simp append_assoc,
      (((c.0.0.0, a), arm_snoc sb s bs q x c.0.3 c.0.1 c.2, value_arm_snoc eb e bs q x c.0.3 c.0.2 c.3), c.1),
    ))
close_then Else at sb eb bs q d b s e ds ps k c =
    let x = body_of ds ps in
    let xs = bs ++ arm q x ∷ [] in
    guard_leads (is_alive (sb && s) (eb && e) k) (block (of_then at sb eb bs q) d b ds ps ∷ k) (Else ∷ []) (Some (opened (of_else at (sb && s) (eb && e) xs) k)) (λ a. (
      ap (λ ts. spelled k ++ ((If at ∷ (ts ++ Else ∷ [])) ++ [])) (separated_snoc ElseIf bs (arm q x)) ∙ simp (append_assoc, append-nil),
      ((fresh_items, ((c.0.0.0, a), arm_snoc sb s bs q x c.0.3 c.0.1 c.2, value_arm_snoc eb e bs q x c.0.3 c.0.2 c.3, more_snoc bs (arm q x))), c.1),
    ))
close_then t at sb eb bs q d b s e ds ps k c = tt

close_else : (t : Token) (at : ℕ) (sb eb : Bool) (bs : List Phrase) (d b s e : Bool) (ds ps : List Phrase) (k : Stack) → Closed (of_else at sb eb bs) d b s e ds ps k
    → Leads (block (of_else at sb eb bs) d b ds ps ∷ k) (t ∷ []) (close (Some t) (of_else at sb eb bs) s e ds ps k)
close_else End at sb eb bs d b s e ds ps k c =
    let x = body_of ds ps in
    let xs = of_list bs in
    ends_leads (choose at xs x) (sb && s) (eb && e) k (block (of_else at sb eb bs) d b ds ps ∷ k) (End ∷ []) (simp append_assoc) c.0.0.0
    (says_and sb s _ _ _ c.0.1 c.2 (λ h i. both (is_more xs) (arms xs && is_body x) c.0.3 (both (arms xs) (is_body x) h i)))
    (says_and eb e _ _ _ c.0.2 c.3 (λ h i. both (is_more xs) (value_arms xs && is_value_body x) c.0.3 (both (value_arms xs) (is_value_body x) h i))) refl refl c.1
close_else t at sb eb bs d b s e ds ps k c = tt

-- ---- clauses of a `case` and of a `catch`

-- one more clause
clause_snoc : (sb s : Bool) (cs : List Phrase) (p x : Phrase) → is_pattern p ≡ true → Says sb (clauses (of_list cs) ≡ true) → Says s (is_body x ≡ true) → Says (sb && s) (clauses (of_list (cs ++ clause p x ∷ [])) ≡ true)
clause_snoc sb s cs p x h i j = says_and sb s _ _ _ i j (λ u v. clauses_snoc cs (clause p x) u (both (is_pattern p) (is_body x) h v))

value_clause_snoc : (eb e : Bool) (cs : List Phrase) (p x : Phrase) → is_pattern p ≡ true → Says eb (value_clauses (of_list cs) ≡ true) → Says e (is_value_body x ≡ true) → Says (eb && e) (value_clauses (of_list (cs ++ clause p x ∷ [])) ≡ true)
value_clause_snoc eb e cs p x h i j = says_and eb e _ _ _ i j (λ u v. value_clauses_snoc cs (clause p x) u (both (is_pattern p) (is_value_body x) h v))

close_clause : (t : Token) (at : ℕ) (q : Phrase) (sb eb : Bool) (cs : List Phrase) (p : Phrase) (d b s e : Bool) (ds ps : List Phrase) (k : Stack) → Closed (of_clause at q sb eb cs p) d b s e ds ps k
    → Leads (block (of_clause at q sb eb cs p) d b ds ps ∷ k) (t ∷ []) (close (Some t) (of_clause at q sb eb cs p) s e ds ps k)
close_clause End at q sb eb cs p d b s e ds ps k c =
    let x = body_of ds ps in
    let xs = cs ++ clause p x ∷ [] in
    let m = more_snoc cs (clause p x) in
    ends_leads (cases at q (of_list xs)) (sb && s) (eb && e) k (block (of_clause at q sb eb cs p) d b ds ps ∷ k) (End ∷ [])
    (ap (λ ts. spelled k ++ (Case at ∷ (tokens_of q ++ Of ∷ (ts ++ End ∷ [])))) (separated_snoc Box cs (clause p x)) ∙ simp append_assoc) c.0.0.0
    (says_map (sb && s) _ _ (clause_snoc sb s cs p x c.0.4 c.0.1 c.2) (λ i. both (expr q) (is_more (of_list xs) && clauses (of_list xs)) c.0.3 (both (is_more (of_list xs)) (clauses (of_list xs)) m i)))
    (says_map (eb && e) _ _ (value_clause_snoc eb e cs p x c.0.4 c.0.2 c.3) (λ i. both (expr q) (is_more (of_list xs) && value_clauses (of_list xs)) c.0.3 (both (is_more (of_list xs)) (value_clauses (of_list xs)) m i))) refl refl c.1
close_clause Box at q sb eb cs p d b s e ds ps k c =
    let x = body_of ds ps in
    let xs = cs ++ clause p x ∷ [] in
    guard_leads (is_alive (sb && s) (eb && e) k) (block (of_clause at q sb eb cs p) d b ds ps ∷ k) (Box ∷ []) (Some (patterns at q (sb && s) (eb && e) xs ∷ k)) (λ a. (
      ap (λ ts. spelled k ++ (Case at ∷ (tokens_of q ++ Of ∷ ts))) (trailed_snoc Box cs (clause p x)) ∙ simp append_assoc,
      (((c.0.0.0, a), clause_snoc sb s cs p x c.0.4 c.0.1 c.2, value_clause_snoc eb e cs p x c.0.4 c.0.2 c.3, c.0.3), c.1),
    ))
close_clause Else at q sb eb cs p d b s e ds ps k c =
    let x = body_of ds ps in
    let xs = cs ++ clause p x ∷ [] in
    guard_leads (is_alive (sb && s) (eb && e) k) (block (of_clause at q sb eb cs p) d b ds ps ∷ k) (Else ∷ []) (Some (opened (of_case_else at q (sb && s) (eb && e) xs) k)) (λ a. (
      ap (λ ts. spelled k ++ ((Case at ∷ (tokens_of q ++ Of ∷ (ts ++ Else ∷ []))) ++ [])) (separated_snoc Box cs (clause p x)) ∙ simp (append_assoc, append-nil),
      ((fresh_items, ((c.0.0.0, a), clause_snoc sb s cs p x c.0.4 c.0.1 c.2, value_clause_snoc eb e cs p x c.0.4 c.0.2 c.3, c.0.3, more_snoc cs (clause p x))), c.1),
    ))
close_clause t at q sb eb cs p d b s e ds ps k c = tt

close_case_else : (t : Token) (at : ℕ) (q : Phrase) (sb eb : Bool) (cs : List Phrase) (d b s e : Bool) (ds ps : List Phrase) (k : Stack) → Closed (of_case_else at q sb eb cs) d b s e ds ps k
    → Leads (block (of_case_else at q sb eb cs) d b ds ps ∷ k) (t ∷ []) (close (Some t) (of_case_else at q sb eb cs) s e ds ps k)
close_case_else End at q sb eb cs d b s e ds ps k c =
    let x = body_of ds ps in
    let xs = of_list cs in
    ends_leads (cases_or at q xs x) (sb && s) (eb && e) k (block (of_case_else at q sb eb cs) d b ds ps ∷ k) (End ∷ []) (simp append_assoc) c.0.0.0
    (says_and sb s _ _ _ c.0.1 c.2 (λ h i. both (expr q) (is_more xs && (clauses xs && is_body x)) c.0.3 (both (is_more xs) (clauses xs && is_body x) c.0.4 (both (clauses xs) (is_body x) h i))))
    (says_and eb e _ _ _ c.0.2 c.3 (λ h i. both (expr q) (is_more xs && (value_clauses xs && is_value_body x)) c.0.3 (both (is_more xs) (value_clauses xs && is_value_body x) c.0.4 (both (value_clauses xs) (is_value_body x) h i)))) refl refl c.1
close_case_else t at q sb eb cs d b s e ds ps k c = tt

close_try : (t : Token) (d b s e : Bool) (ds ps : List Phrase) (k : Stack) → Closed of_try d b s e ds ps k → Leads (block of_try d b ds ps ∷ k) (t ∷ []) (close (Some t) of_try s e ds ps k)
close_try Catch d b s e ds ps k c = guard_leads s (block of_try d b ds ps ∷ k) (Catch ∷ []) (Some (catching (body_of ds ps) [] ∷ k)) (λ h. (simp append_assoc, ((c.0, told s _ c.2 h, refl), c.1)))
close_try t d b s e ds ps k c = tt

close_catch : (t : Token) (q : Phrase) (cs : List Phrase) (p : Phrase) (d b s e : Bool) (ds ps : List Phrase) (k : Stack) → Closed (of_catch q cs p) d b s e ds ps k
    → Leads (block (of_catch q cs p) d b ds ps ∷ k) (t ∷ []) (close (Some t) (of_catch q cs p) s e ds ps k)
close_catch Box q cs p d b s e ds ps k c =
    let x = body_of ds ps in
    let xs = cs ++ clause p x ∷ [] in
    guard_leads s (block (of_catch q cs p) d b ds ps ∷ k) (Box ∷ []) (Some (catching q xs ∷ k)) (λ h. (
      ap (λ ts. spelled k ++ (Try ∷ (tokens_of q ++ Catch ∷ ts))) (trailed_snoc Box cs (clause p x)) ∙ simp append_assoc,
      ((c.0.0, c.0.1, told s _ (clause_snoc true s cs p x c.0.3 c.0.2 c.2) h), c.1),
    ))
close_catch End q cs p d b s e ds ps k c =
    let x = body_of ds ps in
    let xs = cs ++ clause p x ∷ [] in
    let a = attempt q (of_list xs) in
    guard_leads s (block (of_catch q cs p) d b ds ps ∷ k) (End ∷ []) (Some (had a true false k)) (λ h.
    tight_leads false a true false k (block (of_catch q cs p) d b ds ps ∷ k) (End ∷ [])
    (ap (λ ts. spelled k ++ (Try ∷ (tokens_of q ++ Catch ∷ (ts ++ End ∷ [])))) (separated_snoc Box cs (clause p x)) ∙ simp append_assoc) (let i = state_expresses k c.0.0 in i.1)
    (both (is_body q) (is_more (of_list xs) && clauses (of_list xs)) c.0.1 (both (is_more (of_list xs)) (clauses (of_list xs)) (more_snoc cs (clause p x)) (told s _ (clause_snoc true s cs p x c.0.3 c.0.2 c.2) h)))
    (λ n. absurd (cc (n))) tt (state_stands false false k c.0.0) refl c.1)
close_catch t q cs p d b s e ds ps k c = tt

-- ---- statements in parentheses, or one expression

pub some_more : (ps : List Phrase) → is_some_item ps ≡ true → is_more (of_list ps) ≡ true
some_more (p ∷ ps) h = refl
some_more [] h = absurd (cc)

-- what parentheses are by the flags of their phrases
paren_state : (s : Bool) (ps : List Phrase) → Says s (stmts (of_list ps) ≡ true) → Says (s && is_some_item ps) (is_more (of_list ps) && stmts (of_list ps) ≡ true)
paren_state true ps h = says (is_some_item ps) _ (λ i. both (is_more (of_list ps)) (stmts (of_list ps)) (some_more ps i) h)
paren_state false ps h = tt

single_value : (ps : Phrases) → is_single ps ≡ true → stmts_value ps ≡ true → is_single ps && terms false zero ps ≡ true
single_value (more p nothing) h i = both (expr p) true i refl
single_value (more p (more q ps)) h i = absurd (cc)
single_value nothing h i = absurd (cc)

paren_value : (e : Bool) (ps : List Phrase) → Says e (stmts_value (of_list ps) ≡ true) → Says (e && is_single (of_list ps)) (is_single (of_list ps) && terms false zero (of_list ps) ≡ true)
paren_value true ps h = says (is_single (of_list ps)) _ (λ i. single_value (of_list ps) i h)
paren_value false ps h = tt

close_parens : (t : Token) (at : ℕ) (d b s e : Bool) (ds ps : List Phrase) (k : Stack) → GoodOpener (of_paren at) d b ds k → Under k → Tells d s e ds ps → Leads (block (of_paren at) d b ds ps ∷ k) (t ∷ []) (close (Some t) (of_paren at) s e ds ps k)
close_parens CloseParen at d b s e [] ps k g u i =
    ends_leads (paren at (of_list ps)) (s && is_some_item ps) (e && is_single (of_list ps)) k (block (of_paren at) d b [] ps ∷ k) (CloseParen ∷ []) (simp append_assoc) (state_expresses k g.0) (paren_state s ps i.1) (paren_value e ps i.2) refl refl u
close_parens t at d b s e [] ps k g u i = tt
close_parens t at d b s e (q ∷ ds) ps k g u i = elim g.1 [ ]

-- what no token ends
close_program : (t : Token) (d b s e : Bool) (ds ps : List Phrase) (k : Stack) → Leads (block program d b ds ps ∷ k) (t ∷ []) (close (Some t) program s e ds ps k)
close_program End d b s e ds ps k = tt
close_program t d b s e ds ps k = tt

close_declaring : (t : Token) (at : ℕ) (d b s e : Bool) (ds ps : List Phrase) (k : Stack) → Leads (block (declaring at) d b ds ps ∷ k) (t ∷ []) (close (Some t) (declaring at) s e ds ps k)
close_declaring End at d b s e ds ps k = tt
close_declaring t at d b s e ds ps k = tt

-- a token that ends a block
close_leads : (t : Token) (o : Opener) (d b s e : Bool) (ds ps : List Phrase) (k : Stack) → GoodOpener o d b ds k → Under k → Tells d s e ds ps → Leads (block o d b ds ps ∷ k) (t ∷ []) (close (Some t) o s e ds ps k)
close_leads t program d b s e ds ps k g u i = close_program t d b s e ds ps k
close_leads t (declaring at) d b s e ds ps k g u i = close_declaring t at d b s e ds ps k
close_leads t (of_local at ls) d b s e ds ps k g u i = close_local t at ls d b s e ds ps k (g, u, body_good s ds ps i.3 i.1, value_body_good e ds ps i.3 i.2)
close_leads t (of_proc at h) d b s e ds ps k g u i = close_proc t at h d b s e ds ps k (g, u, body_good s ds ps i.3 i.1, value_body_good e ds ps i.3 i.2)
close_leads t (of_fun at lazy h) d b s e ds ps k g u i = close_fun t at lazy h d b s e ds ps k (g, u, body_good s ds ps i.3 i.1, value_body_good e ds ps i.3 i.2)
close_leads t (of_thread at) d b s e ds ps k g u i = close_thread t at d b s e ds ps k (g, u, body_good s ds ps i.3 i.1, value_body_good e ds ps i.3 i.2)
close_leads t (of_choice at sb eb bs) d b s e ds ps k g u i = close_choice t at sb eb bs d b s e ds ps k (g, u, body_good s ds ps i.3 i.1, value_body_good e ds ps i.3 i.2)
close_leads t (of_then at sb eb bs c) d b s e ds ps k g u i = close_then t at sb eb bs c d b s e ds ps k (g, u, body_good s ds ps i.3 i.1, value_body_good e ds ps i.3 i.2)
close_leads t (of_else at sb eb bs) d b s e ds ps k g u i = close_else t at sb eb bs d b s e ds ps k (g, u, body_good s ds ps i.3 i.1, value_body_good e ds ps i.3 i.2)
close_leads t (of_clause at c sb eb cs p) d b s e ds ps k g u i = close_clause t at c sb eb cs p d b s e ds ps k (g, u, body_good s ds ps i.3 i.1, value_body_good e ds ps i.3 i.2)
close_leads t (of_case_else at c sb eb cs) d b s e ds ps k g u i = close_case_else t at c sb eb cs d b s e ds ps k (g, u, body_good s ds ps i.3 i.1, value_body_good e ds ps i.3 i.2)
close_leads t of_try d b s e ds ps k g u i = close_try t d b s e ds ps k (g, u, body_good s ds ps i.3 i.1, value_body_good e ds ps i.3 i.2)
close_leads t (of_catch q cs p) d b s e ds ps k g u i = close_catch t q cs p d b s e ds ps k (g, u, body_good s ds ps i.3 i.1, value_body_good e ds ps i.3 i.2)
close_leads t (of_paren at) d b s e ds ps k g u i = close_parens t at d b s e ds ps k g u i

-- ---- `in` behind declarations

-- a block with its declarations
entered : (o : Opener) (d : Bool) (p : Phrase) (ps : List Phrase) (k : Stack) → GoodOpener o false true (p ∷ ps) k → Under k → decls (of_list (p ∷ ps)) ≡ true → Leads (block o true d [] (p ∷ ps) ∷ k) (In ∷ []) (Some (block o false true (p ∷ ps) [] ∷ k))
entered o d p ps k h u i = (simp (append_assoc, append-nil), (((tt, refl, i, refl), h), u))

enter_body_leads : (o : Opener) (d : Bool) (p : Phrase) (ps : List Phrase) (k : Stack) → GoodOpener o true d [] k → Under k → decls (of_list (p ∷ ps)) ≡ true → Leads (block o true d [] (p ∷ ps) ∷ k) (In ∷ []) (enter_body o (p ∷ ps) k)
enter_body_leads program d p ps [] h u i = entered program d p ps [] tt tt i
enter_body_leads program d p ps (f ∷ k) h u i = elim h [ ]
enter_body_leads (declaring at) d p ps k h u i = (simp (append_assoc, append-nil), ((fresh_items, (h.0, refl, i)), u))
enter_body_leads (of_local at ls) d p ps k h u i = entered (of_local at ls) d p ps k h u i
enter_body_leads (of_proc at q) d p ps k h u i = entered (of_proc at q) d p ps k h u i
enter_body_leads (of_fun at lazy q) d p ps k h u i = entered (of_fun at lazy q) d p ps k h u i
enter_body_leads (of_thread at) d p ps k h u i = entered (of_thread at) d p ps k h u i
enter_body_leads (of_choice at sb eb bs) d p ps k h u i = entered (of_choice at sb eb bs) d p ps k h u i
enter_body_leads (of_then at sb eb bs c) d p ps k h u i = entered (of_then at sb eb bs c) d p ps k h u i
enter_body_leads (of_else at sb eb bs) d p ps k h u i = entered (of_else at sb eb bs) d p ps k h u i
enter_body_leads (of_clause at c sb eb cs q) d p ps k h u i = entered (of_clause at c sb eb cs q) d p ps k h u i
enter_body_leads (of_case_else at c sb eb cs) d p ps k h u i = entered (of_case_else at c sb eb cs) d p ps k h u i
enter_body_leads of_try d p ps k h u i = entered of_try d p ps k h u i
enter_body_leads (of_catch b cs q) d p ps k h u i = entered (of_catch b cs q) d p ps k h u i
enter_body_leads (of_paren at) d p ps k h u i = absurd (cc (h.2))

enter_leads : (o : Opener) (d b s e : Bool) (ds ps : List Phrase) (k : Stack) → GoodOpener o d b ds k → Under k → Tells d s e ds ps → Leads (block o d b ds ps ∷ k) (In ∷ []) (enter o d ps k)
enter_leads o false b s e ds ps k g u i = tt
enter_leads o true b s e ds [] k g u i = tt
enter_leads o true b s e [] (p ∷ ps) k g u i = enter_body_leads o b p ps k g u i.0.1
enter_leads o true b s e (q ∷ ds) (p ∷ ps) k g u i = elim i.0.0 [ ]

-- ---- the next phrase of a block begins

-- a block on which a phrase begins
begun_good : (o : Opener) (d s e : Bool) (ds ps : List Phrase) (k : Stack) → GoodOpener o d s ds k → Under k → Tells d s e ds ps → d || s ≡ true → Good (block o d s ds ps ∷ k)
begun_good o d s e ds ps k g u i h = (((i.0, i.1, i.3, h), g), u)

-- where statements may stand
stated_good : (o : Opener) (d s e : Bool) (ds ps : List Phrase) (k : Stack) → GoodOpener o d s ds k → Under k → Tells d s e ds ps → s ≡ true → Good (block o d s ds ps ∷ k)
stated_good o d s e ds ps k g u i h = begun_good o d s e ds ps k g u i (subst (λ v. d || v ≡ true) (sym h) (or_true d))

-- a variable and `skip` stand where their flags allow
pub var_stands : (d s : Bool) → d || s ≡ true → (s && true) || (d && true) ≡ true
var_stands d true h = refl
var_stands true false h = refl
var_stands false false h = absurd (cc)

-- a phrase begins that begins nowhere else
begun_leads : (t : Token) (o : Opener) (d s e : Bool) (ds ps : List Phrase) (k : Stack) → GoodOpener o d s ds k → Under k → Tells d s e ds ps
    → Leads (block o d s ds ps ∷ k) (t ∷ []) (guard s (expression_begins t (block o d s ds ps ∷ k)))
begun_leads t o d s e ds ps k g u i =
    guard_leads s (block o d s ds ps ∷ k) (t ∷ []) (expression_begins t (block o d s ds ps ∷ k)) (λ h.
    expression_leads t (block o d s ds ps ∷ k) (h, refl) (stated_good o d s e ds ps k g u i h))

skip_stands : (d s : Bool) → s ≡ true → (s && true) || (d && false) ≡ true
skip_stands d true h = refl
skip_stands d false h = absurd (cc)

-- the next token of a block
pub item_leads : (t : Token) (o : Opener) (d s e : Bool) (ds ps : List Phrase) (k : Stack) → GoodOpener o d s ds k → Under k → Tells d s e ds ps → Leads (block o d s ds ps ∷ k) (t ∷ []) (item (Some t) o d s e ds ps k)
item_leads In o d s e ds ps k g u i = enter_leads o d s s e ds ps k g u i
item_leads (Var name at) o d s e ds ps k g u i =
    guard_leads (d || s) (block o d s ds ps ∷ k) (Var name at ∷ []) (Some (whole (var name at) false true ∷ block o d s ds ps ∷ k)) (λ h. (refl, (((tt, refl, refl, var_stands d s h, refl, tt), refl), begun_good o d s e ds ps k g u i h)))
item_leads (Proc at) o d s e ds ps k g u i = guard_leads (d || s) (block o d s ds ps ∷ k) (Proc at ∷ []) (Some (heading (making_proc at) ∷ block o d s ds ps ∷ k)) (λ h. (refl, (tt, begun_good o d s e ds ps k g u i h)))
item_leads (Fun at) o d s e ds ps k g u i = guard_leads (d || s) (block o d s ds ps ∷ k) (Fun at ∷ []) (Some (heading (making_fun at None) ∷ block o d s ds ps ∷ k)) (λ h. (refl, (tt, begun_good o d s e ds ps k g u i h)))
item_leads Skip o d s e ds ps k g u i = guard_leads s (block o d s ds ps ∷ k) (Skip ∷ []) (Some (whole skip true false ∷ block o d s ds ps ∷ k)) (λ h. (refl, (((refl, tt, tt, skip_stands d s h, refl, tt), refl), stated_good o d s e ds ps k g u i h)))
item_leads Try o d s e ds ps k g u i = guard_leads s (block o d s ds ps ∷ k) (Try ∷ []) (Some (opened of_try (block o d s ds ps ∷ k))) (λ h. (refl, ((fresh_items, h), stated_good o d s e ds ps k g u i h)))
item_leads (OpenParen at) o d s e ds ps k g u i =
    guard_leads s (block o d s ds ps ∷ k) (OpenParen at ∷ []) (Some (block (of_paren at) false true [] [] ∷ block o d s ds ps ∷ k)) (λ h. (refl, (((tt, refl, refl, refl), (h, tt, refl)), stated_good o d s e ds ps k g u i h)))
item_leads (Any at) o d s e ds ps k g u i = begun_leads (Any at) o d s e ds ps k g u i
item_leads (Int n at) o d s e ds ps k g u i = begun_leads (Int n at) o d s e ds ps k g u i
item_leads (String n at) o d s e ds ps k g u i = begun_leads (String n at) o d s e ds ps k g u i
item_leads (Lit l at) o d s e ds ps k g u i = begun_leads (Lit l at) o d s e ds ps k g u i
item_leads (Label l at) o d s e ds ps k g u i = begun_leads (Label l at) o d s e ds ps k g u i
item_leads (OpenBracket at) o d s e ds ps k g u i = begun_leads (OpenBracket at) o d s e ds ps k g u i
item_leads (OpenBrace at) o d s e ds ps k g u i = begun_leads (OpenBrace at) o d s e ds ps k g u i
item_leads (At at) o d s e ds ps k g u i = begun_leads (At at) o d s e ds ps k g u i
item_leads (Fail at) o d s e ds ps k g u i = begun_leads (Fail at) o d s e ds ps k g u i
item_leads (Raise at) o d s e ds ps k g u i = begun_leads (Raise at) o d s e ds ps k g u i
item_leads (Local at) o d s e ds ps k g u i = begun_leads (Local at) o d s e ds ps k g u i
item_leads (Thread at) o d s e ds ps k g u i = begun_leads (Thread at) o d s e ds ps k g u i
item_leads (Choice at) o d s e ds ps k g u i = begun_leads (Choice at) o d s e ds ps k g u i
item_leads (If at) o d s e ds ps k g u i = begun_leads (If at) o d s e ds ps k g u i
item_leads (Case at) o d s e ds ps k g u i = begun_leads (Case at) o d s e ds ps k g u i
item_leads t o d s e ds ps k g u i = close_leads t o d s s e ds ps k g u i

-- ---- a phrase of a block ends

-- a block goes on with other flags
pub other_flags : (o : Opener) (d b x y : Bool) (ds : List Phrase) (k : Stack) → GoodOpener o d b ds k → GoodOpener o (d && x) (b && y) ds k
other_flags program d b x y ds [] h = tt
other_flags program d b x y ds (f ∷ k) h = h
other_flags (declaring at) d b x y ds k h = (h.0, and_false b y h.1)
other_flags (of_local at ls) d b x y ds k h = h
other_flags (of_proc at q) d b x y ds k h = h
other_flags (of_fun at lazy q) d b x y ds k h = h
other_flags (of_thread at) d b x y ds k h = h
other_flags (of_choice at sb eb bs) d b x y ds k h = h
other_flags (of_then at sb eb bs c) d b x y ds k h = h
other_flags (of_else at sb eb bs) d b x y ds k h = h
other_flags (of_clause at c sb eb cs p) d b x y ds k h = h
other_flags (of_case_else at c sb eb cs) d b x y ds k h = h
other_flags of_try d b x y ds k h = h
other_flags (of_catch q cs p) d b x y ds k h = h
other_flags (of_paren at) d b x y ds k h = (h.0, h.1, and_false d x h.2)

-- what is known of a block's phrases with one more
pub tells_snoc : (p : Phrase) (s e d b : Bool) (ds ps : List Phrase) → GoodItems d b ds ps → Is p s e → Tells (d && declares p) (b && s) (b && e) ds (ps ++ p ∷ [])
tells_snoc p s e d b ds ps g i = (
  says_and d (declares p) _ _ _ g.0 i.2 (λ x y. (x.0, decls_snoc ps p x.1 y)),
  says_and b s _ _ _ g.1 i.0 (stmts_snoc ps p),
  says_and b e _ _ _ g.1 i.1 (stmts_value_snoc ps p),
  g.2,
)

-- and its tokens
pub spelled_snoc : (o : Opener) (d b d' b' : Bool) (ds ps : List Phrase) (p : Phrase) (k : Stack) → spelled (block o d b ds (ps ++ p ∷ []) ∷ k) ≡ spelled (block o d' b' ds ps ∷ k) ++ tokens_of p
spelled_snoc o d b d' b' ds ps p k = ap (λ ts. spelled k ++ (opener_tokens o ++ (declared (of_list ds) ++ ts))) (each_snoc ps p) ∙ simp append_assoc

-- a phrase of a block has ended, and a token follows
pub over_leads : (t : Token) (p : Phrase) (s e : Bool) (o : Opener) (d b : Bool) (ds ps : List Phrase) (k j : Stack) → spelled (block o d b ds ps ∷ k) ++ tokens_of p ≡ spelled j → Is p s e → Good (block o d b ds ps ∷ k)
    → Leads j (t ∷ []) (item_over (Some t) p s e (block o d b ds ps ∷ k))
over_leads t p s e o d b ds ps k j q i g =
    let d' = d && declares p in
    let b' = b && s in
    leads_from (block o d' b' ds (ps ++ p ∷ []) ∷ k) j (t ∷ []) (t ∷ []) (item (Some t) o d' b' (b && e) ds (ps ++ p ∷ []) k) (ap (λ ts. ts ++ t ∷ []) (spelled_snoc o d' b' d b ds ps p k ∙ q))
    (item_leads t o d' b' (b && e) ds (ps ++ p ∷ []) k (other_flags o d b (declares p) s ds k g.0.1) g.1 (tells_snoc p s e d b ds ps g.0.0 i))
