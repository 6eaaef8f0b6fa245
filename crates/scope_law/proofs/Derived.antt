-- A phrase that is derived, and whose names have no fault, is bound.
use Rattle.std.proofs.Common.{◌≡◌, ℕ, suc, List, [], ◌++◌, true, false, ◌&&◌, nat_le}
use Rattle.oz_language.specs.declared.token.Connective.TheVariants.{Equates, Assigns, Bounds, BoundsEach}
use Rattle.oz_language.specs.Grammar.{level_of, left_level, level_of_bars, level_of_hashes, level_of_selection, Phrase, Phrases, nothing, more, var, any, int, string, literal, rec, keyed, list, paren, binary, bars, hashes, select, access, skip, fail, raise, connected, relate, call, proc, fun, local, thread, choice, when, choose, arm, cases, cases_or, clause, attempt, body, is_more, is_single, at_least_two, is_named_head, is_value_head, is_side, term, terms, fields, feature, accessed, stmt, stmts, stmts_value, decl, decls, is_body, is_value_body, bodies, value_bodies, arms, value_arms, clauses, value_clauses}
use Rattle.oz_language.specs.Refusals.{use_faults, name_faults, feature_faults, variables_in, with_names, declaring, parameters_in, faults, faults_each}
use Rattle.scope_law.proofs.Basics.{both}
use Rattle.scope_law.proofs.Bound.{Bound, BoundEach, BoundLast, none_in, used, value_head, named_parameters, named_head}

mutual
  -- ---- expressions

  term_bound : (names : List ℕ) (m : ℕ) (p : Phrase) → term false m p ≡ true → faults names p ≡ [] → Bound names true p
  term_bound names m (var name at) h f = used names name at f
  term_bound names m (any at) h f = tt
  term_bound names m (int i at) h f = tt
  term_bound names m (string s at) h f = tt
  term_bound names m (literal l at) h f = tt
  term_bound names m (rec l at fs) h f = fields_bound names fs h (none_in (feature_faults fs) _ f).1
  term_bound names m (list at es) h f = terms_bound names 0 es (both (is_more es) _ h).1 f
  term_bound names m (paren at es) h f = terms_bound names 0 es (both (is_single es) _ h).1 f
  term_bound names m (binary op a b) h f =
      let s = both (term false (left_level op) a) _ (both (nat_le m (level_of op)) _ h).1 in
      let n = none_in (faults names a) _ f in
      (term_bound names (left_level op) a s.0 n.0, term_bound names (suc (level_of op)) b s.1 n.1)
  term_bound names m (bars es) h f = terms_bound names level_of_hashes es (both (at_least_two es) _ (both (nat_le m level_of_bars) _ h).1).1 f
  term_bound names m (hashes es) h f = terms_bound names (suc level_of_hashes) es (both (at_least_two es) _ (both (nat_le m level_of_hashes) _ h).1).1 f
  term_bound names m (select e k) h f =
      let s = both (term false level_of_selection e) _ h in
      let n = none_in (faults names e) _ f in
      (term_bound names level_of_selection e s.0 n.0, feature_bound names k s.1 n.1)
  term_bound names m (access at e) h f = accessed_bound names e h f
  term_bound names m (fail at) h f = tt
  term_bound names m (raise at e) h f = term_bound names 0 e h f
  term_bound names m (call at es) h f = terms_bound names 0 es (both (is_more es) _ h).1 f
  term_bound names m (proc at h b) s f =
      let t = both (is_value_head h) _ s in
      (tt, value_head h t.0, body_bound (with_names (parameters_in h) names) b t.1 (none_in (faults names h) _ f).1)
  term_bound names m (fun at lazy h b) s f =
      let t = both (is_value_head h) _ s in
      (tt, value_head h t.0, value_body_bound (with_names (parameters_in h) names) b t.1 (none_in (faults names h) _ f).1)
  term_bound names m (local at ds b) h f =
      let s = both (decls ds) _ (both (is_more ds) _ h).1 in
      let n = none_in (faults_each (declaring ds names) ds) _ f in
      (decls_bound (declaring ds names) ds s.0 n.0, value_body_bound (declaring ds names) b s.1 n.1)
  term_bound names m (thread at b) h f = value_body_bound names b h f
  term_bound names m (choice at bs) h f = value_bodies_bound names bs (both (is_more bs) _ h).1 f
  term_bound names m (choose at xs b) h f =
      let s = both (value_arms xs) _ (both (is_more xs) _ h).1 in
      let n = none_in (faults_each names xs) _ f in
      (value_arms_bound names xs s.0 n.0, value_body_bound names b s.1 n.1)
  term_bound names m (cases at e cs) h f =
      let s = both (term false 0 e) _ h in
      let n = none_in (faults names e) _ f in
      (term_bound names 0 e s.0 n.0, value_clauses_bound names cs (both (is_more cs) _ s.1).1 n.1)
  term_bound names m (cases_or at e cs b) h f =
      let s = both (term false 0 e) _ h in
      let t = both (value_clauses cs) _ (both (is_more cs) _ s.1).1 in
      let n = none_in (faults names e) _ f in
      let l = none_in (faults_each names cs) _ n.1 in
      (term_bound names 0 e s.0 n.0, value_clauses_bound names cs t.0 l.0, value_body_bound names b t.1 l.1)
  term_bound names m p h f = absurd (cc)

  terms_bound : (names : List ℕ) (m : ℕ) (ps : Phrases) → terms false m ps ≡ true → faults_each names ps ≡ [] → BoundEach names true ps
  terms_bound names m nothing h f = tt
  terms_bound names m (more p ps) h f =
      let s = both (term false m p) _ h in
      let n = none_in (faults names p) _ f in
      (term_bound names m p s.0 n.0, terms_bound names m ps s.1 n.1)

  fields_bound : (names : List ℕ) (ps : Phrases) → fields false ps ≡ true → faults_each names ps ≡ [] → BoundEach names true ps
  fields_bound names nothing h f = tt
  fields_bound names (more (keyed c at p) ps) h f =
      let s = both (term false 0 p) _ h in
      let n = none_in (faults names p) _ f in
      (term_bound names 0 p s.0 n.0, fields_bound names ps s.1 n.1)
  fields_bound names (more p ps) h f =
      let s = both (term false 0 p) _ h in
      let n = none_in (faults names p) _ f in
      (term_bound names 0 p s.0 n.0, fields_bound names ps s.1 n.1)

  feature_bound : (names : List ℕ) (p : Phrase) → feature p ≡ true → faults names p ≡ [] → Bound names true p
  feature_bound names (literal l at) h f = tt
  feature_bound names (int i at) h f = tt
  feature_bound names (var name at) h f = used names name at f
  feature_bound names (paren at es) h f = terms_bound names 0 es (both (is_single es) _ h).1 f
  feature_bound names p h f = absurd (cc)

  accessed_bound : (names : List ℕ) (p : Phrase) → accessed p ≡ true → faults names p ≡ [] → Bound names true p
  accessed_bound names (var name at) h f = used names name at f
  accessed_bound names (paren at es) h f = terms_bound names 0 es (both (is_single es) _ h).1 f
  accessed_bound names p h f = absurd (cc)

  -- ---- statements

  stmt_bound : (names : List ℕ) (p : Phrase) → stmt p ≡ true → faults names p ≡ [] → Bound names false p
  stmt_bound names skip h f = tt
  stmt_bound names (fail at) h f = tt
  stmt_bound names (connected Equates a b) h f =
      let s = both (term false 0 a) _ h in
      let n = none_in (faults names a) _ f in
      (term_bound names 0 a s.0 n.0, term_bound names 0 b s.1 n.1)
  stmt_bound names (connected Assigns a b) h f =
      let s = both (term false 0 a) _ h in
      let n = none_in (faults names a) _ f in
      (term_bound names 0 a s.0 n.0, term_bound names 0 b s.1 n.1)
  stmt_bound names (connected Bounds a b) h f =
      let s = both (term false level_of_selection a) _ h in
      let n = none_in (faults names a) _ f in
      (term_bound names level_of_selection a s.0 n.0, term_bound names level_of_hashes b s.1 n.1)
  stmt_bound names (connected BoundsEach a b) h f =
      let s = both (term false level_of_selection a) _ h in
      let n = none_in (faults names a) _ f in
      (term_bound names level_of_selection a s.0 n.0, term_bound names level_of_hashes b s.1 n.1)
  stmt_bound names (relate r a b) h f =
      let s = both (term false 0 a && term false 0 b) _ h in
      let t = both (term false 0 a) _ s.0 in
      let u = both (is_side a) _ (both (is_side a && is_side b) _ s.1).0 in
      let n = none_in (faults names a) _ f in
      (term_bound names 0 a t.0 n.0, term_bound names 0 b t.1 n.1, u.0, u.1)
  stmt_bound names (call at es) h f = terms_bound names 0 es (both (is_more es) _ h).1 f
  stmt_bound names (proc at h b) s f =
      let t = both (is_named_head h) _ s in
      let n = none_in (faults names h) _ f in
      (named_head names h t.0 n.0, named_parameters h t.0, body_bound (with_names (parameters_in h) names) b t.1 n.1)
  stmt_bound names (fun at lazy h b) s f =
      let t = both (is_named_head h) _ s in
      let n = none_in (faults names h) _ f in
      (named_head names h t.0 n.0, named_parameters h t.0, value_body_bound (with_names (parameters_in h) names) b t.1 n.1)
  stmt_bound names (local at ds b) h f =
      let s = both (decls ds) _ (both (is_more ds) _ h).1 in
      let n = none_in (faults_each (declaring ds names) ds) _ f in
      (decls_bound (declaring ds names) ds s.0 n.0, body_bound (declaring ds names) b s.1 n.1)
  stmt_bound names (thread at b) h f = body_bound names b h f
  stmt_bound names (raise at e) h f = term_bound names 0 e h f
  stmt_bound names (choice at bs) h f = bodies_bound names bs (both (is_more bs) _ h).1 f
  stmt_bound names (when at xs) h f = arms_bound names xs (both (is_more xs) _ h).1 f
  stmt_bound names (choose at xs b) h f =
      let s = both (arms xs) _ (both (is_more xs) _ h).1 in
      let n = none_in (faults_each names xs) _ f in
      (arms_bound names xs s.0 n.0, body_bound names b s.1 n.1)
  stmt_bound names (cases at e cs) h f =
      let s = both (term false 0 e) _ h in
      let n = none_in (faults names e) _ f in
      (term_bound names 0 e s.0 n.0, clauses_bound names cs (both (is_more cs) _ s.1).1 n.1)
  stmt_bound names (cases_or at e cs b) h f =
      let s = both (term false 0 e) _ h in
      let t = both (clauses cs) _ (both (is_more cs) _ s.1).1 in
      let n = none_in (faults names e) _ f in
      let l = none_in (faults_each names cs) _ n.1 in
      (term_bound names 0 e s.0 n.0, clauses_bound names cs t.0 l.0, body_bound names b t.1 l.1)
  stmt_bound names (attempt b cs) h f =
      let s = both (is_body b) _ h in
      let n = none_in (faults names b) _ f in
      (body_bound names b s.0 n.0, clauses_bound names cs (both (is_more cs) _ s.1).1 n.1)
  stmt_bound names (paren at ss) h f = stmts_bound names ss (both (is_more ss) _ h).1 f
  stmt_bound names p h f = absurd (cc)

  stmts_bound : (names : List ℕ) (ps : Phrases) → stmts ps ≡ true → faults_each names ps ≡ [] → BoundEach names false ps
  stmts_bound names nothing h f = tt
  stmts_bound names (more p ps) h f =
      let s = both (stmt p) _ h in
      let n = none_in (faults names p) _ f in
      (stmt_bound names p s.0 n.0, stmts_bound names ps s.1 n.1)

  -- ---- declarations

  decl_bound : (names : List ℕ) (p : Phrase) → decl p ≡ true → faults names p ≡ [] → Bound names false p
  decl_bound names (var name at) h f = used names name at f
  decl_bound names (connected Equates (var name at) b) h f =
      let n = none_in (use_faults names name at) _ f in
      (used names name at n.0, term_bound names 0 b h n.1)
  decl_bound names (proc at h b) s f =
      let t = both (is_named_head h) _ s in
      let n = none_in (faults names h) _ f in
      (named_head names h t.0 n.0, named_parameters h t.0, body_bound (with_names (parameters_in h) names) b t.1 n.1)
  decl_bound names (fun at lazy h b) s f =
      let t = both (is_named_head h) _ s in
      let n = none_in (faults names h) _ f in
      (named_head names h t.0 n.0, named_parameters h t.0, value_body_bound (with_names (parameters_in h) names) b t.1 n.1)
  decl_bound names p h f = absurd (cc)

  decls_bound : (names : List ℕ) (ps : Phrases) → decls ps ≡ true → faults_each names ps ≡ [] → BoundEach names false ps
  decls_bound names nothing h f = tt
  decls_bound names (more p ps) h f =
      let s = both (decl p) _ h in
      let n = none_in (faults names p) _ f in
      (decl_bound names p s.0 n.0, decls_bound names ps s.1 n.1)

  -- ---- bodies

  body_bound : (names : List ℕ) (p : Phrase) → is_body p ≡ true → faults names p ≡ [] → Bound names false p
  body_bound names (body ds ss) h f =
      let s = both (decls ds) _ h in
      let n = none_in (faults_each (declaring ds names) ds) _ f in
      (decls_bound (declaring ds names) ds s.0 n.0, last_bound (declaring ds names) ss s.1 n.1)
  body_bound names p h f = absurd (cc)

  last_bound : (names : List ℕ) (ps : Phrases) → stmts ps ≡ true → faults_each names ps ≡ [] → BoundLast names false ps
  last_bound names nothing h f = tt
  last_bound names (more p nothing) h f = stmt_bound names p (both (stmt p) _ h).0 (none_in (faults names p) _ f).0
  last_bound names (more p (more q ps)) h f =
      let s = both (stmt p) _ h in
      let n = none_in (faults names p) _ f in
      (stmt_bound names p s.0 n.0, last_bound names (more q ps) s.1 n.1)

  value_body_bound : (names : List ℕ) (p : Phrase) → is_value_body p ≡ true → faults names p ≡ [] → Bound names true p
  value_body_bound names (body ds ss) h f =
      let s = both (decls ds) _ h in
      let n = none_in (faults_each (declaring ds names) ds) _ f in
      (decls_bound (declaring ds names) ds s.0 n.0, value_bound (declaring ds names) ss s.1 n.1)
  value_body_bound names p h f = absurd (cc)

  value_bound : (names : List ℕ) (ps : Phrases) → stmts_value ps ≡ true → faults_each names ps ≡ [] → BoundLast names true ps
  value_bound names nothing h f = tt
  value_bound names (more p nothing) h f = term_bound names 0 p h (none_in (faults names p) _ f).0
  value_bound names (more p (more q ps)) h f =
      let s = both (stmt p) _ h in
      let n = none_in (faults names p) _ f in
      (stmt_bound names p s.0 n.0, value_bound names (more q ps) s.1 n.1)

  bodies_bound : (names : List ℕ) (ps : Phrases) → bodies ps ≡ true → faults_each names ps ≡ [] → BoundEach names false ps
  bodies_bound names nothing h f = tt
  bodies_bound names (more p ps) h f =
      let s = both (is_body p) _ h in
      let n = none_in (faults names p) _ f in
      (body_bound names p s.0 n.0, bodies_bound names ps s.1 n.1)

  value_bodies_bound : (names : List ℕ) (ps : Phrases) → value_bodies ps ≡ true → faults_each names ps ≡ [] → BoundEach names true ps
  value_bodies_bound names nothing h f = tt
  value_bodies_bound names (more p ps) h f =
      let s = both (is_value_body p) _ h in
      let n = none_in (faults names p) _ f in
      (value_body_bound names p s.0 n.0, value_bodies_bound names ps s.1 n.1)

  -- ---- arms and clauses

  arms_bound : (names : List ℕ) (ps : Phrases) → arms ps ≡ true → faults_each names ps ≡ [] → BoundEach names false ps
  arms_bound names nothing h f = tt
  arms_bound names (more (arm e b) ps) h f =
      let s = both (term false 0 e && is_body b) _ h in
      let t = both (term false 0 e) _ s.0 in
      let n = none_in (faults names e ++ faults names b) _ f in
      let l = none_in (faults names e) _ n.0 in
      ((term_bound names 0 e t.0 l.0, body_bound names b t.1 l.1), arms_bound names ps s.1 n.1)
  arms_bound names (more p ps) h f = absurd (cc)

  value_arms_bound : (names : List ℕ) (ps : Phrases) → value_arms ps ≡ true → faults_each names ps ≡ [] → BoundEach names true ps
  value_arms_bound names nothing h f = tt
  value_arms_bound names (more (arm e b) ps) h f =
      let s = both (term false 0 e && is_value_body b) _ h in
      let t = both (term false 0 e) _ s.0 in
      let n = none_in (faults names e ++ faults names b) _ f in
      let l = none_in (faults names e) _ n.0 in
      ((term_bound names 0 e t.0 l.0, value_body_bound names b t.1 l.1), value_arms_bound names ps s.1 n.1)
  value_arms_bound names (more p ps) h f = absurd (cc)

  clauses_bound : (names : List ℕ) (ps : Phrases) → clauses ps ≡ true → faults_each names ps ≡ [] → BoundEach names false ps
  clauses_bound names nothing h f = tt
  clauses_bound names (more (clause p b) ps) h f =
      let s = both (term true 0 p && is_body b) _ h in
      let t = both (term true 0 p) _ s.0 in
      let n = none_in (faults names (clause p b)) _ f in
      let l = none_in (name_faults (variables_in p)) _ n.0 in
      let scope = with_names (variables_in p) names in
      ((t.0, body_bound scope b t.1 (none_in (faults scope p) _ l.1).1), clauses_bound names ps s.1 n.1)
  clauses_bound names (more p ps) h f = absurd (cc)

  value_clauses_bound : (names : List ℕ) (ps : Phrases) → value_clauses ps ≡ true → faults_each names ps ≡ [] → BoundEach names true ps
  value_clauses_bound names nothing h f = tt
  value_clauses_bound names (more (clause p b) ps) h f =
      let s = both (term true 0 p && is_value_body b) _ h in
      let t = both (term true 0 p) _ s.0 in
      let n = none_in (faults names (clause p b)) _ f in
      let l = none_in (name_faults (variables_in p)) _ n.0 in
      let scope = with_names (variables_in p) names in
      ((t.0, value_body_bound scope b t.1 (none_in (faults scope p) _ l.1).1), value_clauses_bound names ps s.1 n.1)
  value_clauses_bound names (more p ps) h f = absurd (cc)

-- a program
pub program_bound : (names : List ℕ) (p : Phrase) → is_body p ≡ true → faults names p ≡ [] → Bound names false p
program_bound names p h f = body_bound names p h f
