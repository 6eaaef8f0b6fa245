-- Statements, declarations and bodies, each from its parts.
use Rattle.std.proofs.Common.{◌≡◌, ℕ, ◌+◌, nat_le, List, [], ◌∷◌, ◌++◌, Option, Some, Bool, true, false, ◌&&◌, refl, ap, ◌∙◌}
use Rattle.oz_language.specs.Grammar.{level_of_hashes, level_of_selection, Phrase, Phrases, nothing, more, var, paren, skip, fail, raise, connected, relate, call, proc, fun, local, thread, choice, when, choose, arm, cases, cases_or, clause, attempt, body, lazy_tokens, tokens_of, each, is_more, is_side, is_named_head, is_value_head, term, stmt, stmts, stmts_value, decls, is_body, is_value_body, bodies, arms, clauses, terms_in, terms_limit}
use Rattle.oz_language.specs.declared.token.Comparison.{Comparison}
use Rattle.oz_language.specs.declared.token.Token.TheVariants.{End, Fun, Proc}
use Rattle.oz_language.specs.declared.token.Connective.TheVariants.{Equates, Assigns, Bounds, BoundsEach}
use Rattle.reader_law.specs.Machine.{Opener, declaring, of_local, of_proc, of_fun, of_thread, of_choice, of_then, of_else, of_clause, of_case_else, of_try, of_catch, of_paren, making_proc, making_fun, block, whole, connecting, raising, testing, matching, patterns, catching, Stack, is_some_item}
use Rattle.reader_law.proofs.Basics.{split, list_of}
use Rattle.reader_law.proofs.CompleteBasics.{steps, chosen_both, sort_stmts, body_parts, bodies_parts, arm_parts, clause_parts}
use Rattle.reader_law.proofs.CompletePlaces.{place_block, place_connecting, place_raising, place_testing, place_matching, place_patterns, place_catching}
use Rattle.reader_law.proofs.CompleteTerms.{ReadsHad, reads_fail, reads_raise}
use Rattle.reader_law.proofs.CompleteSequences.{reads_call, term_begun, stmt_begun}
use Rattle.reader_law.proofs.CompleteSides.{SideReads}
use Rattle.reader_law.proofs.CompleteBlocks.{Onward, block_onward, ReadsItem, item_had, item_term, item_skip, item_connected, item_relate, ReadsItems, no_items, last_value, item_onward, next_item, ReadsDecl, decl_var, decl_equal, decl_had, no_decls, next_decl, ReadsBody, plain_body, declared_body}
use Rattle.reader_law.proofs.CompleteBodies.{reads_thread, reads_local, reads_sequence, named_head, reads_proc, reads_fun, last_box, next_box, reads_choice, ReadsArms, last_arm, next_arm, reads_when, reads_choose, ReadsClauses, last_clause, next_clause, reads_cases, reads_cases_or, last_catch, next_catch, reads_attempt}
use Rattle.reader_law.proofs.CompletePhrases.{TermReads, PartsReads, StmtReads, ItemsReads, DeclsReads, BodyReads, BoxesReads, ArmsReads, ClausesReads, CatchesReads}

-- ---- procedures that have a name

named_proc : (at : ℕ) (h x : Phrase) (o : Opener) (d : Bool) (ds ps : List Phrase) (k : Stack) → is_named_head h ≡ true → ReadsBody false x (of_proc at h) (block o d true ds ps ∷ k)
    → ReadsHad false (tokens_of (proc at h x)) (block o d true ds ps ∷ k) (proc at h x) (block o d true ds ps ∷ k)
named_proc at h x o d ds ps k i r = record {
  states = is_named_head h;
  values = is_value_head h;
  good = i;
  reads =
      steps (Proc at) (tokens_of h ++ (tokens_of x ++ End ∷ [])) (block o d true ds ps ∷ k) _ ((place_block o d ds ps k).opens (Proc at) tt)
      ∙ reads_proc at h x (block o d true ds ps ∷ k) (named_head h (making_proc at) (block o d true ds ps ∷ k) refl i) r;
}

named_fun : (at : ℕ) (lazy : Option ℕ) (h x : Phrase) (o : Opener) (d : Bool) (ds ps : List Phrase) (k : Stack) → is_named_head h ≡ true → ReadsBody true x (of_fun at lazy h) (block o d true ds ps ∷ k)
    → ReadsHad false (tokens_of (fun at lazy h x)) (block o d true ds ps ∷ k) (fun at lazy h x) (block o d true ds ps ∷ k)
named_fun at lazy h x o d ds ps k i r = record {
  states = is_named_head h;
  values = is_value_head h;
  good = i;
  reads =
      steps (Fun at) (lazy_tokens lazy ++ (tokens_of h ++ (tokens_of x ++ End ∷ []))) (block o d true ds ps ∷ k) _ ((place_block o d ds ps k).opens (Fun at) tt)
      ∙ reads_fun at lazy h x (block o d true ds ps ∷ k) (named_head h (making_fun at lazy) (block o d true ds ps ∷ k) refl i) r;
}

-- among declarations
decl_proc : (at : ℕ) (h x : Phrase) (o : Opener) (s : Bool) (ps : List Phrase) (k : Stack) → is_named_head h ≡ true → ReadsBody false x (of_proc at h) (block o true s [] ps ∷ k) → ReadsDecl (proc at h x) o s ps k
decl_proc at h x o s ps k i r =
    decl_had (proc at h x) (is_value_head h) o s ps k i
    (reads_proc at h x (block o true s [] ps ∷ k) (named_head h (making_proc at) (block o true s [] ps ∷ k) refl i) r
    ∙ ap (λ q. Some (whole (proc at h x) q (is_value_head h) ∷ block o true s [] ps ∷ k)) i)

decl_fun : (at : ℕ) (lazy : Option ℕ) (h x : Phrase) (o : Opener) (s : Bool) (ps : List Phrase) (k : Stack) → is_named_head h ≡ true → ReadsBody true x (of_fun at lazy h) (block o true s [] ps ∷ k)
    → ReadsDecl (fun at lazy h x) o s ps k
decl_fun at lazy h x o s ps k i r =
    decl_had (fun at lazy h x) (is_value_head h) o s ps k i
    (reads_fun at lazy h x (block o true s [] ps ∷ k) (named_head h (making_fun at lazy) (block o true s [] ps ∷ k) refl i) r
    ∙ ap (λ q. Some (whole (fun at lazy h x) q (is_value_head h) ∷ block o true s [] ps ∷ k)) i)

-- ---- what is not empty

some_more : (ps : Phrases) → is_more ps ≡ true → is_some_item (list_of ps) ≡ true
some_more nothing h = absurd (cc)
some_more (more p ps) h = refl

-- ---- statements

pub stmt_skip : StmtReads skip
stmt_skip = record { on = λ o d ds ps k h. item_skip o d ds ps k }

pub stmt_fail : (at : ℕ) → StmtReads (fail at)
stmt_fail at = record { on = λ o d ds ps k h. item_had false (fail at) o d ds ps k (reads_fail false at true 0 (block o d true ds ps ∷ k) (place_block o d ds ps k)) }

pub stmt_connected_equates : (a b : Phrase) → TermReads a → TermReads b → StmtReads (connected Equates a b)
stmt_connected_equates a b a_reads b_reads = record {
  on = λ o d ds ps k h.
      let i = split (term false 0 a) (term false 0 b) h in
      item_connected Equates a b o d ds ps k i.fst (a_reads.on false true 0 0 (block o d true ds ps ∷ k) (place_block o d ds ps k) refl i.fst)
      (b_reads.on false false 0 0 (connecting Equates a ∷ block o d true ds ps ∷ k) (place_connecting Equates a (block o d true ds ps ∷ k)) refl i.snd);
}

pub stmt_connected_assigns : (a b : Phrase) → TermReads a → TermReads b → StmtReads (connected Assigns a b)
stmt_connected_assigns a b a_reads b_reads = record {
  on = λ o d ds ps k h.
      let i = split (term false 0 a) (term false 0 b) h in
      item_connected Assigns a b o d ds ps k i.fst (a_reads.on false true 0 0 (block o d true ds ps ∷ k) (place_block o d ds ps k) refl i.fst)
      (b_reads.on false false 0 0 (connecting Assigns a ∷ block o d true ds ps ∷ k) (place_connecting Assigns a (block o d true ds ps ∷ k)) refl i.snd);
}

pub stmt_connected_bounds : (a b : Phrase) → TermReads a → TermReads b → StmtReads (connected Bounds a b)
stmt_connected_bounds a b a_reads b_reads = record {
  on = λ o d ds ps k h.
      let i = split (term false level_of_selection a) (term false level_of_hashes b) h in
      item_connected Bounds a b o d ds ps k i.fst (a_reads.on false true 0 level_of_selection (block o d true ds ps ∷ k) (place_block o d ds ps k) refl i.fst)
      (b_reads.on false false level_of_hashes level_of_hashes (connecting Bounds a ∷ block o d true ds ps ∷ k) (place_connecting Bounds a (block o d true ds ps ∷ k)) refl i.snd);
}

pub stmt_connected_bounds_each : (a b : Phrase) → TermReads a → TermReads b → StmtReads (connected BoundsEach a b)
stmt_connected_bounds_each a b a_reads b_reads = record {
  on = λ o d ds ps k h.
      let i = split (term false level_of_selection a) (term false level_of_hashes b) h in
      item_connected BoundsEach a b o d ds ps k i.fst (a_reads.on false true 0 level_of_selection (block o d true ds ps ∷ k) (place_block o d ds ps k) refl i.fst)
      (b_reads.on false false level_of_hashes level_of_hashes (connecting BoundsEach a ∷ block o d true ds ps ∷ k) (place_connecting BoundsEach a (block o d true ds ps ∷ k)) refl i.snd);
}

pub stmt_relate : (r : Comparison) (a b : Phrase) → TermReads a → SideReads b → StmtReads (relate r a b)
stmt_relate r a b a_reads b_reads = record {
  on = λ o d ds ps k h.
      let i = split (term false 0 a && term false 0 b) ((is_side a && is_side b) && nat_le (terms_in a + terms_in b) terms_limit) h in
      let j = split (term false 0 a) (term false 0 b) i.fst in
      let v = split (is_side a && is_side b) (nat_le (terms_in a + terms_in b) terms_limit) i.snd in
      let u = split (is_side a) (is_side b) v.fst in
      item_relate r a b o d ds ps k u.fst v.snd (a_reads.on false true 0 0 (block o d true ds ps ∷ k) (place_block o d ds ps k) refl j.fst)
      (b_reads.sum 0 r a (block o d true ds ps ∷ k) u.snd j.snd v.snd);
}

pub stmt_call : (at : ℕ) (e : Phrase) (es : Phrases) → PartsReads (more e es) → StmtReads (call at (more e es))
stmt_call at e es e_reads = record {
  on = λ o d ds ps k h.
      item_had false (call at (more e es)) o d ds ps k (reads_call false at (more e es) true 0 (block o d true ds ps ∷ k) (place_block o d ds ps k) (e_reads.on at [] (block o d true ds ps ∷ k) refl h));
}

pub stmt_proc : (at : ℕ) (x y : Phrase) → BodyReads y → StmtReads (proc at x y)
stmt_proc at x y y_reads = record {
  on = λ o d ds ps k h.
      let i = split (is_named_head x) (is_body y) h in
      item_had false (proc at x y) o d ds ps k (named_proc at x y o d ds ps k i.fst (y_reads.on false (of_proc at x) (block o d true ds ps ∷ k) tt i.snd));
}

pub stmt_fun : (at : ℕ) (lazy : Option ℕ) (x y : Phrase) → BodyReads y → StmtReads (fun at lazy x y)
stmt_fun at lazy x y y_reads = record {
  on = λ o d ds ps k h.
      let i = split (is_named_head x) (is_value_body y) h in
      item_had false (fun at lazy x y) o d ds ps k (named_fun at lazy x y o d ds ps k i.fst (y_reads.on true (of_fun at lazy x) (block o d true ds ps ∷ k) tt i.snd));
}

pub stmt_local : (at : ℕ) (l : Phrase) (ls : Phrases) (y : Phrase) → DeclsReads (more l ls) → BodyReads y → StmtReads (local at (more l ls) y)
stmt_local at l ls y l_reads y_reads = record {
  on = λ o d ds ps k h.
      let i = split (decls (more l ls)) (is_body y) h in
      item_had false (local at (more l ls) y) o d ds ps k
      (reads_local false at l ls y true 0 (block o d true ds ps ∷ k) (place_block o d ds ps k) refl
      (l_reads.on (declaring at) false false [] (block (declaring at) true false [] [] ∷ block o d true ds ps ∷ k) (block o d true ds ps ∷ k) i.fst
      (block_onward (declaring at) true false [] [] (block o d true ds ps ∷ k)))
      (y_reads.on false (of_local at (l ∷ list_of ls)) (block o d true ds ps ∷ k) tt i.snd));
}

pub stmt_thread : (at : ℕ) (y : Phrase) → BodyReads y → StmtReads (thread at y)
stmt_thread at y y_reads = record {
  on = λ o d ds ps k h.
      item_had false (thread at y) o d ds ps k (reads_thread false at y true 0 (block o d true ds ps ∷ k) (place_block o d ds ps k) refl (y_reads.on false (of_thread at) (block o d true ds ps ∷ k) tt h));
}

pub stmt_raise : (at : ℕ) (e : Phrase) → TermReads e → StmtReads (raise at e)
stmt_raise at e e_reads = record {
  on = λ o d ds ps k h.
      item_had false (raise at e) o d ds ps k
      (reads_raise false at e true 0 (block o d true ds ps ∷ k) (place_block o d ds ps k) (e_reads.on false false 0 0 (raising at ∷ block o d true ds ps ∷ k) (place_raising at (block o d true ds ps ∷ k)) refl h));
}

pub stmt_choice : (at : ℕ) (bs : Phrases) → BoxesReads bs → StmtReads (choice at bs)
stmt_choice at bs bs_reads = record {
  on = λ o d ds ps k h.
      let i = split (is_more bs) (bodies bs) h in
      item_had false (choice at bs) o d ds ps k
      (reads_choice false at bs true 0 (block o d true ds ps ∷ k) (place_block o d ds ps k) (bs_reads.on false at true true [] (block o d true ds ps ∷ k) refl refl i.fst i.snd));
}

pub stmt_when : (at : ℕ) (xs : Phrases) → ArmsReads xs → StmtReads (when at xs)
stmt_when at xs xs_reads = record {
  on = λ o d ds ps k h.
      let i = split (is_more xs) (arms xs) h in
      item_had false (when at xs) o d ds ps k
      (reads_when at xs true 0 (block o d true ds ps ∷ k) (place_block o d ds ps k) refl (xs_reads.on false at true true [] (block o d true ds ps ∷ k) refl refl i.fst i.snd));
}

pub stmt_choose : (at : ℕ) (xs : Phrases) (y : Phrase) → ArmsReads xs → BodyReads y → StmtReads (choose at xs y)
stmt_choose at xs y xs_reads y_reads = record {
  on = λ o d ds ps k h.
      let i = split (is_more xs) (arms xs && is_body y) h in
      let j = split (arms xs) (is_body y) i.snd in
      let r : ReadsArms false xs at true true [] (block o d true ds ps ∷ k) = xs_reads.on false at true true [] (block o d true ds ps ∷ k) refl refl i.fst j.fst in
      item_had false (choose at xs y) o d ds ps k
      (reads_choose false at xs y true 0 (block o d true ds ps ∷ k) (place_block o d ds ps k) refl r
      (y_reads.on false (of_else at (r.states_before && r.states) (r.values_before && r.values) (list_of xs)) (block o d true ds ps ∷ k) tt j.snd));
}

pub stmt_cases : (at : ℕ) (c : Phrase) (cs : Phrases) → TermReads c → ClausesReads cs → StmtReads (cases at c cs)
stmt_cases at c cs c_reads cs_reads = record {
  on = λ o d ds ps k h.
      let i = split (term false 0 c) (is_more cs && clauses cs) h in
      let j = split (is_more cs) (clauses cs) i.snd in
      item_had false (cases at c cs) o d ds ps k
      (reads_cases false at c cs true 0 (block o d true ds ps ∷ k) (place_block o d ds ps k) refl
      (c_reads.on false false 0 0 (matching at ∷ block o d true ds ps ∷ k) (place_matching at (block o d true ds ps ∷ k)) refl i.fst)
      (cs_reads.on false at c true true [] (block o d true ds ps ∷ k) refl refl j.fst j.snd));
}

pub stmt_cases_or : (at : ℕ) (c : Phrase) (cs : Phrases) (y : Phrase) → ClausesReads cs → TermReads c → BodyReads y → StmtReads (cases_or at c cs y)
stmt_cases_or at c cs y cs_reads c_reads y_reads = record {
  on = λ o d ds ps k h.
      let i = split (term false 0 c) (is_more cs && (clauses cs && is_body y)) h in
      let j = split (is_more cs) (clauses cs && is_body y) i.snd in
      let v = split (clauses cs) (is_body y) j.snd in
      let r : ReadsClauses false cs at c true true [] (block o d true ds ps ∷ k) = cs_reads.on false at c true true [] (block o d true ds ps ∷ k) refl refl j.fst v.fst in
      item_had false (cases_or at c cs y) o d ds ps k
      (reads_cases_or false at c cs y true 0 (block o d true ds ps ∷ k) (place_block o d ds ps k) refl
      (c_reads.on false false 0 0 (matching at ∷ block o d true ds ps ∷ k) (place_matching at (block o d true ds ps ∷ k)) refl i.fst) r
      (y_reads.on false (of_case_else at c (r.states_before && r.states) (r.values_before && r.values) (list_of cs)) (block o d true ds ps ∷ k) tt v.snd));
}

pub stmt_attempt : (y : Phrase) (cs : Phrases) → BodyReads y → CatchesReads cs → StmtReads (attempt y cs)
stmt_attempt y cs y_reads cs_reads = record {
  on = λ o d ds ps k h.
      let i = split (is_body y) (is_more cs && clauses cs) h in
      let j = split (is_more cs) (clauses cs) i.snd in
      item_had false (attempt y cs) o d ds ps k
      (reads_attempt y cs o d ds ps k (y_reads.on false of_try (block o d true ds ps ∷ k) tt i.fst) (cs_reads.on y [] (block o d true ds ps ∷ k) j.fst j.snd));
}

pub stmt_paren : (at : ℕ) (ss : Phrases) → ItemsReads ss → StmtReads (paren at ss)
stmt_paren at ss ss_reads = record {
  on = λ o d ds ps k h.
      let i = split (is_more ss) (stmts ss) h in
      item_had false (paren at ss) o d ds ps k
      (reads_sequence at ss o d ds ps k (some_more ss i.fst)
      (ss_reads.on false (block (of_paren at) false true [] [] ∷ block o d true ds ps ∷ k) (of_paren at) false false [] [] (block o d true ds ps ∷ k) i.snd
      (block_onward (of_paren at) false true [] [] (block o d true ds ps ∷ k))));
}

-- ---- blocks

-- the last phrase of a block, and one before others
pub items_nothing : ItemsReads nothing
items_nothing = record { on = found }
  where
    found : (v : Bool) (j : Stack) (o : Opener) (d e : Bool) (ds ps : List Phrase) (k : Stack) → sort_stmts v nothing ≡ true → Onward j o d true e ds ps k → ReadsItems v nothing j o ds ps k
    found false j o d e ds ps k h r = no_items j o d e ds ps k r
    found true j o d e ds ps k h r = absurd (cc)

items_statement : (v : Bool) (p : Phrase) (ss : Phrases) → StmtReads p → ItemsReads ss → (j : Stack) (o : Opener) (d e : Bool) (ds ps : List Phrase) (k : Stack) → stmt p ≡ true → sort_stmts v ss ≡ true
    → Onward j o d true e ds ps k → ReadsItems v (more p ss) j o ds ps k
items_statement v p ss p_reads ss_reads j o d e ds ps k h i r =
    let q : ReadsItem false p o d ds ps k = p_reads.on o d ds ps k h in
    next_item v p ss j o d e ds ps k r (stmt_begun p (each ss) h) q (ss_reads.on v q.at o _ q.values ds (ps ++ p ∷ []) k i (item_onward p o d ds ps k q))

pub items_last : (p : Phrase) → TermReads p → StmtReads p → ItemsReads nothing → ItemsReads (more p nothing)
items_last p e_reads p_reads ss_reads = record { on = found }
  where
    found : (v : Bool) (j : Stack) (o : Opener) (d e : Bool) (ds ps : List Phrase) (k : Stack) → sort_stmts v (more p nothing) ≡ true → Onward j o d true e ds ps k → ReadsItems v (more p nothing) j o ds ps k
    found true j o d e ds ps k h r =
        last_value p j o d e ds ps k r (term_begun p false 0 [] h) (item_term p o d ds ps k (e_reads.on false true 0 0 (block o d true ds ps ∷ k) (place_block o d ds ps k) refl h))
    found false j o d e ds ps k h r = let i = split (stmt p) true h in items_statement false p nothing p_reads ss_reads j o d e ds ps k i.fst refl r

pub items_next : (p x : Phrase) (xs : Phrases) → StmtReads p → ItemsReads (more x xs) → ItemsReads (more p (more x xs))
items_next p x xs p_reads x_reads = record { on = found }
  where
    found : (v : Bool) (j : Stack) (o : Opener) (d e : Bool) (ds ps : List Phrase) (k : Stack) → sort_stmts v (more p (more x xs)) ≡ true → Onward j o d true e ds ps k → ReadsItems v (more p (more x xs)) j o ds ps k
    found true j o d e ds ps k h r = let i = split (stmt p) (stmts_value (more x xs)) h in items_statement true p (more x xs) p_reads x_reads j o d e ds ps k i.fst i.snd r
    found false j o d e ds ps k h r = let i = split (stmt p) (stmts (more x xs)) h in items_statement false p (more x xs) p_reads x_reads j o d e ds ps k i.fst i.snd r

pub decls_nothing : DeclsReads nothing
decls_nothing = record { on = λ o s e ps j k h r. no_decls o s e ps j k r }

pub decls_var : (name at : ℕ) (ds : Phrases) → DeclsReads ds → DeclsReads (more (var name at) ds)
decls_var name at ds ds_reads = record {
  on = λ o s e ps j k h r.
      let q : ReadsDecl (var name at) o s ps k = decl_var name at o s ps k in
      next_decl (var name at) ds o s e ps j k r tt q (ds_reads.on o q.states q.values (ps ++ var name at ∷ []) q.at k h q.on);
}

pub decls_equal : (name at : ℕ) (b : Phrase) (ds : Phrases) → TermReads b → DeclsReads ds → DeclsReads (more (connected Equates (var name at) b) ds)
decls_equal name at b ds b_reads ds_reads = record {
  on = λ o s e ps j k h r.
      let i = split (term false 0 b) (decls ds) h in
      let q : ReadsDecl (connected Equates (var name at) b) o s ps k =
      decl_equal name at b o s ps k (b_reads.on false false 0 0 (connecting Equates (var name at) ∷ block o true s [] ps ∷ k) (place_connecting Equates (var name at) (block o true s [] ps ∷ k)) refl i.fst) in
      next_decl (connected Equates (var name at) b) ds o s e ps j k r tt q (ds_reads.on o q.states q.values (ps ++ connected Equates (var name at) b ∷ []) q.at k i.snd q.on);
}

pub decls_proc : (at : ℕ) (x y : Phrase) (ds : Phrases) → BodyReads y → DeclsReads ds → DeclsReads (more (proc at x y) ds)
decls_proc at x y ds y_reads ds_reads = record {
  on = λ o s e ps j k h r.
      let i = split (is_named_head x && is_body y) (decls ds) h in
      let v = split (is_named_head x) (is_body y) i.fst in
      let q : ReadsDecl (proc at x y) o s ps k = decl_proc at x y o s ps k v.fst (y_reads.on false (of_proc at x) (block o true s [] ps ∷ k) tt v.snd) in
      next_decl (proc at x y) ds o s e ps j k r tt q (ds_reads.on o q.states q.values (ps ++ proc at x y ∷ []) q.at k i.snd q.on);
}

pub decls_fun : (at : ℕ) (lazy : Option ℕ) (x y : Phrase) (ds : Phrases) → BodyReads y → DeclsReads ds → DeclsReads (more (fun at lazy x y) ds)
decls_fun at lazy x y ds y_reads ds_reads = record {
  on = λ o s e ps j k h r.
      let i = split (is_named_head x && is_value_body y) (decls ds) h in
      let v = split (is_named_head x) (is_value_body y) i.fst in
      let q : ReadsDecl (fun at lazy x y) o s ps k = decl_fun at lazy x y o s ps k v.fst (y_reads.on true (of_fun at lazy x) (block o true s [] ps ∷ k) tt v.snd) in
      next_decl (fun at lazy x y) ds o s e ps j k r tt q (ds_reads.on o q.states q.values (ps ++ fun at lazy x y ∷ []) q.at k i.snd q.on);
}

pub body_plain : (ss : Phrases) → ItemsReads ss → BodyReads (body nothing ss)
body_plain ss ss_reads = record {
  on = λ v o k i h.
      plain_body v ss o k (ss_reads.on v (block o true true [] [] ∷ k) o true false [] [] k (body_parts v nothing ss h).snd (block_onward o true true [] [] k));
}

pub body_declared : (d : Phrase) (ds ss : Phrases) → DeclsReads (more d ds) → ItemsReads ss → BodyReads (body (more d ds) ss)
body_declared d ds ss d_reads ss_reads = record {
  on = λ v o k i h.
      let u = body_parts v (more d ds) ss h in
      declared_body v d ds ss o k i
      (d_reads.on o true false [] (block o true true [] [] ∷ k) k u.fst (block_onward o true true [] [] k))
      (ss_reads.on v (block o false true (d ∷ list_of ds) [] ∷ k) o false false (d ∷ list_of ds) [] k u.snd (block_onward o false true (d ∷ list_of ds) [] k));
}

-- ---- choices, arms and clauses

pub boxes_last : (x : Phrase) → BodyReads x → BoxesReads (more x nothing)
boxes_last x x_reads = record { on = λ v at sb eb done k a c i h. last_box v at sb eb x done k a c (x_reads.on v (of_choice at sb eb done) k tt (bodies_parts v x nothing h).fst) }

pub boxes_next : (x y : Phrase) (ys : Phrases) → BodyReads x → BoxesReads (more y ys) → BoxesReads (more x (more y ys))
boxes_next x y ys x_reads y_reads = record {
  on = λ v at sb eb done k a c i h.
      let p = bodies_parts v x (more y ys) h in
      let r : ReadsBody v x (of_choice at sb eb done) k = x_reads.on v (of_choice at sb eb done) k tt p.fst in
      next_box v at sb eb x y ys done k a c r (y_reads.on v at (sb && r.states) (eb && r.values) (done ++ x ∷ []) k a (chosen_both v sb eb r.states r.values c r.good) refl p.snd);
}

pub arms_last : (c x : Phrase) → TermReads c → BodyReads x → ArmsReads (more (arm c x) nothing)
arms_last c x c_reads x_reads = record {
  on = λ v place s e done k a g i h.
      let p = arm_parts v c x nothing h in
      last_arm v c x place s e done k g (c_reads.on false false 0 0 (testing place s e done ∷ k) (place_testing place s e done k) refl p.test) (x_reads.on v (of_then place s e done c) k tt p.inner);
}

pub arms_next : (c x y : Phrase) (ys : Phrases) → BodyReads x → TermReads c → ArmsReads (more y ys) → ArmsReads (more (arm c x) (more y ys))
arms_next c x y ys x_reads c_reads y_reads = record {
  on = λ v place s e done k a g i h.
      let p = arm_parts v c x (more y ys) h in
      let r : ReadsBody v x (of_then place s e done c) k = x_reads.on v (of_then place s e done c) k tt p.inner in
      next_arm v c x y ys place s e done k a g (c_reads.on false false 0 0 (testing place s e done ∷ k) (place_testing place s e done k) refl p.test) r
      (y_reads.on v place (s && r.states) (e && r.values) (done ++ arm c x ∷ []) k a (chosen_both v s e r.states r.values g r.good) refl p.others);
}

pub clauses_last : (p x : Phrase) → TermReads p → BodyReads x → ClausesReads (more (clause p x) nothing)
clauses_last p x p_reads x_reads = record {
  on = λ v place c s e done k a g i h.
      let u = clause_parts v p x nothing h in
      last_clause v p x place c s e done k g (p_reads.on true false 0 0 (patterns place c s e done ∷ k) (place_patterns place c s e done k) refl u.test) (x_reads.on v (of_clause place c s e done p) k tt u.inner);
}

pub clauses_next : (p x y : Phrase) (ys : Phrases) → BodyReads x → TermReads p → ClausesReads (more y ys) → ClausesReads (more (clause p x) (more y ys))
clauses_next p x y ys x_reads p_reads y_reads = record {
  on = λ v place c s e done k a g i h.
      let u = clause_parts v p x (more y ys) h in
      let r : ReadsBody v x (of_clause place c s e done p) k = x_reads.on v (of_clause place c s e done p) k tt u.inner in
      next_clause v p x y ys place c s e done k a g (p_reads.on true false 0 0 (patterns place c s e done ∷ k) (place_patterns place c s e done k) refl u.test) r
      (y_reads.on v place c (s && r.states) (e && r.values) (done ++ clause p x ∷ []) k a (chosen_both v s e r.states r.values g r.good) refl u.others);
}

pub catches_last : (p x : Phrase) → TermReads p → BodyReads x → CatchesReads (more (clause p x) nothing)
catches_last p x p_reads x_reads = record {
  on = λ y done k i h.
      let u = clause_parts false p x nothing h in
      last_catch p x y done k (p_reads.on true false 0 0 (catching y done ∷ k) (place_catching y done k) refl u.test) (x_reads.on false (of_catch y done p) k tt u.inner);
}

pub catches_next : (p x z : Phrase) (zs : Phrases) → TermReads p → BodyReads x → CatchesReads (more z zs) → CatchesReads (more (clause p x) (more z zs))
catches_next p x z zs p_reads x_reads z_reads = record {
  on = λ y done k i h.
      let u = clause_parts false p x (more z zs) h in
      next_catch p x y z zs done k (p_reads.on true false 0 0 (catching y done ∷ k) (place_catching y done k) refl u.test) (x_reads.on false (of_catch y done p) k tt u.inner)
      (z_reads.on y (done ++ clause p x ∷ []) k refl u.others);
}
