-- What is spelled is read: the steps over a phrase's tokens leave what the phrase, taken whole, leaves.
use Rattle.std.proofs.Common.{◌≡◌, [], ◌∷◌, Some, None, true, false, refl, ap, ◌∙◌}
use Rattle.oz_language.specs.Grammar.{Phrase, Phrases, nothing, more, var, any, int, string, literal, rec, keyed, list, paren, binary, bars, hashes, select, access, skip, fail, raise, connected, relate, call, proc, fun, local, thread, choice, when, choose, arm, cases, cases_or, clause, attempt, body, tokens_of, is_body}
use Rattle.oz_language.specs.declared.token.Operator.TheVariants.{Plus, Minus, Times}
use Rattle.oz_language.specs.declared.token.Connective.TheVariants.{Equates, Assigns, Bounds, BoundsEach}
use Rattle.reader_law.specs.Machine.{program, accepted, guard, bind, body_of, accepted_of, finish, parse}
use Rattle.reader_law.proofs.CompleteSides.{SideReads, var_side, int_side, times_side, plus_side, minus_side, no_side}
use Rattle.reader_law.proofs.CompletePhrases.{TermReads, LedReads, FieldsReads, ElementsReads, PartsReads, FeatureReads, AccessReads, StmtReads, ItemsReads, DeclsReads, BodyReads, BoxesReads, ArmsReads, ClausesReads, CatchesReads, no_term, no_feature, no_accessed, no_stmt, no_declarations, no_boxes, no_arms, no_clauses, no_catches, no_body, no_bars, no_hashes, term_var, term_any, term_int, term_string, term_literal, term_rec, term_list, term_paren, term_bars, term_hashes, term_binary, term_select, term_access, term_fail, term_raise, term_call, term_proc, term_fun, term_local, term_thread, term_choice, term_choose, term_cases, term_cases_or, led_nothing, led_more, fields_nothing, fields_keyed, fields_more, elements_nothing, elements_more, parts_nothing, parts_more, feature_literal, feature_int, feature_var, feature_paren, accessed_var, accessed_paren, selected_side}
use Rattle.reader_law.proofs.CompleteStatements.{stmt_skip, stmt_fail, stmt_connected_equates, stmt_connected_assigns, stmt_connected_bounds, stmt_connected_bounds_each, stmt_relate, stmt_call, stmt_proc, stmt_fun, stmt_local, stmt_thread, stmt_raise, stmt_choice, stmt_when, stmt_choose, stmt_cases, stmt_cases_or, stmt_attempt, stmt_paren, items_nothing, items_last, items_next, decls_nothing, decls_var, decls_equal, decls_proc, decls_fun, body_plain, body_declared, boxes_last, boxes_next, arms_last, arms_next, clauses_last, clauses_next, catches_last, catches_next}

-- ---- the whole grammar

mutual
  reads_term : (e : Phrase) → TermReads e
  reads_term (var name at) = term_var name at
  reads_term (any at) = term_any at
  reads_term (int i at) = term_int i at
  reads_term (string s at) = term_string s at
  reads_term (literal c at) = term_literal c at
  reads_term (rec c at fs) = term_rec c at fs (reads_fields fs)
  reads_term (list at es) = term_list at es (reads_elements es)
  reads_term (paren at (more e nothing)) = term_paren at e (reads_term e)
  reads_term (bars (more x (more y es))) = term_bars x y es (reads_term y) (reads_term x) (reads_led es)
  reads_term (hashes (more x (more y es))) = term_hashes x y es (reads_term y) (reads_term x) (reads_led es)
  reads_term (binary op x y) = term_binary op x y (reads_term x) (reads_term y)
  reads_term (select e p) = term_select e p (reads_term e) (reads_feature p)
  reads_term (access at e) = term_access at e (reads_accessed e)
  reads_term (fail at) = term_fail at
  reads_term (raise at e) = term_raise at e (reads_term e)
  reads_term (call at (more e es)) = term_call at e es (reads_parts (more e es))
  reads_term (proc at x y) = term_proc at x y (reads_body y)
  reads_term (fun at lazy x y) = term_fun at lazy x y (reads_body y)
  reads_term (local at (more d ds) y) = term_local at d ds y (reads_decls (more d ds)) (reads_body y)
  reads_term (thread at y) = term_thread at y (reads_body y)
  reads_term (choice at bs) = term_choice at bs (reads_boxes bs)
  reads_term (choose at xs y) = term_choose at xs y (reads_arms xs) (reads_body y)
  reads_term (cases at c cs) = term_cases at c cs (reads_term c) (reads_clauses cs)
  reads_term (cases_or at c cs y) = term_cases_or at c cs y (reads_clauses cs) (reads_term c) (reads_body y)
  reads_term (bars (more x nothing)) = no_bars (more x nothing) refl
  reads_term (bars nothing) = no_bars nothing refl
  reads_term (hashes (more x nothing)) = no_hashes (more x nothing) refl
  reads_term (hashes nothing) = no_hashes nothing refl
  reads_term e = no_term e (λ n. refl) (λ n. refl)

  reads_led : (es : Phrases) → LedReads es
  reads_led nothing = led_nothing
  reads_led (more p ps) = led_more p ps (reads_term p) (reads_led ps)

  reads_fields : (fs : Phrases) → FieldsReads fs
  reads_fields nothing = fields_nothing
  reads_fields (more (keyed c place e) fs) = fields_keyed c place e fs (reads_term e) (reads_fields fs)
  reads_fields (more e fs) = fields_more e fs (λ w. refl) (reads_term e) (reads_fields fs)

  reads_elements : (es : Phrases) → ElementsReads es
  reads_elements nothing = elements_nothing
  reads_elements (more e es) = elements_more e es (reads_term e) (reads_elements es)

  reads_parts : (es : Phrases) → PartsReads es
  reads_parts nothing = parts_nothing
  reads_parts (more e es) = parts_more e es (reads_term e) (reads_parts es)

  reads_feature : (p : Phrase) → FeatureReads p
  reads_feature (literal l at) = feature_literal l at
  reads_feature (int i at) = feature_int i at
  reads_feature (var name at) = feature_var name at
  reads_feature (paren at (more e nothing)) = feature_paren at e (reads_term e)
  reads_feature p = no_feature p refl

  reads_accessed : (p : Phrase) → AccessReads p
  reads_accessed (var name at) = accessed_var name at
  reads_accessed (paren at (more e nothing)) = accessed_paren at e (reads_term e)
  reads_accessed p = no_accessed p refl

  side_reads : (p : Phrase) → SideReads p
  side_reads (var name at) = var_side name at
  side_reads (int i at) = int_side i at
  side_reads (select e p) = selected_side e p (side_reads e) (reads_feature p)
  side_reads (binary Plus a b) = plus_side a b (side_reads a) (side_reads b)
  side_reads (binary Minus a b) = minus_side a b (side_reads a) (side_reads b)
  side_reads (binary Times a b) = times_side a b (side_reads a) (side_reads b)
  side_reads p = no_side p refl refl refl

  reads_stmt : (p : Phrase) → StmtReads p
  reads_stmt skip = stmt_skip
  reads_stmt (fail at) = stmt_fail at
  reads_stmt (connected Equates a b) = stmt_connected_equates a b (reads_term a) (reads_term b)
  reads_stmt (connected Assigns a b) = stmt_connected_assigns a b (reads_term a) (reads_term b)
  reads_stmt (connected Bounds a b) = stmt_connected_bounds a b (reads_term a) (reads_term b)
  reads_stmt (connected BoundsEach a b) = stmt_connected_bounds_each a b (reads_term a) (reads_term b)
  reads_stmt (relate r a b) = stmt_relate r a b (reads_term a) (side_reads b)
  reads_stmt (call at (more e es)) = stmt_call at e es (reads_parts (more e es))
  reads_stmt (proc at x y) = stmt_proc at x y (reads_body y)
  reads_stmt (fun at lazy x y) = stmt_fun at lazy x y (reads_body y)
  reads_stmt (local at (more l ls) y) = stmt_local at l ls y (reads_decls (more l ls)) (reads_body y)
  reads_stmt (thread at y) = stmt_thread at y (reads_body y)
  reads_stmt (raise at e) = stmt_raise at e (reads_term e)
  reads_stmt (choice at bs) = stmt_choice at bs (reads_boxes bs)
  reads_stmt (when at xs) = stmt_when at xs (reads_arms xs)
  reads_stmt (choose at xs y) = stmt_choose at xs y (reads_arms xs) (reads_body y)
  reads_stmt (cases at c cs) = stmt_cases at c cs (reads_term c) (reads_clauses cs)
  reads_stmt (cases_or at c cs y) = stmt_cases_or at c cs y (reads_clauses cs) (reads_term c) (reads_body y)
  reads_stmt (attempt y cs) = stmt_attempt y cs (reads_body y) (reads_catches cs)
  reads_stmt (paren at ss) = stmt_paren at ss (reads_items ss)
  reads_stmt p = no_stmt p refl

  reads_items : (ss : Phrases) → ItemsReads ss
  reads_items nothing = items_nothing
  reads_items (more p nothing) = items_last p (reads_term p) (reads_stmt p) (reads_items nothing)
  reads_items (more p (more x xs)) = items_next p x xs (reads_stmt p) (reads_items (more x xs))

  reads_decls : (ds : Phrases) → DeclsReads ds
  reads_decls nothing = decls_nothing
  reads_decls (more (var name at) ds) = decls_var name at ds (reads_decls ds)
  reads_decls (more (connected Equates (var name at) b) ds) = decls_equal name at b ds (reads_term b) (reads_decls ds)
  reads_decls (more (proc at x y) ds) = decls_proc at x y ds (reads_body y) (reads_decls ds)
  reads_decls (more (fun at lazy x y) ds) = decls_fun at lazy x y ds (reads_body y) (reads_decls ds)
  reads_decls (more p ds) = no_declarations (more p ds) refl

  reads_body : (x : Phrase) → BodyReads x
  reads_body (body nothing ss) = body_plain ss (reads_items ss)
  reads_body (body (more d ds) ss) = body_declared d ds ss (reads_decls (more d ds)) (reads_items ss)
  reads_body x = no_body x refl refl

  reads_boxes : (bs : Phrases) → BoxesReads bs
  reads_boxes (more x nothing) = boxes_last x (reads_body x)
  reads_boxes (more x (more y ys)) = boxes_next x y ys (reads_body x) (reads_boxes (more y ys))
  reads_boxes nothing = no_boxes

  reads_arms : (xs : Phrases) → ArmsReads xs
  reads_arms (more (arm c x) nothing) = arms_last c x (reads_term c) (reads_body x)
  reads_arms (more (arm c x) (more y ys)) = arms_next c x y ys (reads_body x) (reads_term c) (reads_arms (more y ys))
  reads_arms xs = no_arms xs refl refl

  reads_clauses : (cs : Phrases) → ClausesReads cs
  reads_clauses (more (clause p x) nothing) = clauses_last p x (reads_term p) (reads_body x)
  reads_clauses (more (clause p x) (more y ys)) = clauses_next p x y ys (reads_body x) (reads_term p) (reads_clauses (more y ys))
  reads_clauses cs = no_clauses cs refl refl

  reads_catches : (cs : Phrases) → CatchesReads cs
  reads_catches (more (clause p x) nothing) = catches_last p x (reads_term p) (reads_body x)
  reads_catches (more (clause p x) (more z zs)) = catches_next p x z zs (reads_term p) (reads_body x) (reads_catches (more z zs))
  reads_catches cs = no_catches cs refl

-- a program's tokens are read as the program
pub parses : (p : Phrase) → is_body p ≡ true → parse (tokens_of p) ≡ Some p
parses p h =
    let r = (reads_body p).on false program [] tt h in
    ap (λ w. bind w finish) r.reads
    ∙ ap (λ w. bind w accepted_of) (r.on.on None tt)
    ∙ ap (λ w. bind (guard w (Some (accepted (body_of r.before r.done) ∷ []))) accepted_of) r.good
    ∙ ap Some r.whole
