-- Each sort of phrase and how it is read, and the expressions and patterns, each from its parts.
use Rattle.std.proofs.Common.{◌≡◌, ℕ, ℤ, suc, nat_le, List, [], ◌∷◌, ◌++◌, Option, Some, Bool, true, false, ◌&&◌, ◌||◌, refl, sym, ap, ◌∙◌, true≢false}
use Rattle.oz_language.specs.declared.token.Literal.{Literal}
use Rattle.oz_language.specs.declared.kernel.Constant.{Constant}
use Rattle.oz_language.specs.Grammar.{level_of, left_level, level_of_bars, level_of_hashes, level_of_selection, Phrase, Phrases, nothing, more, of_list, var, any, int, string, literal, rec, keyed, list, paren, binary, bars, hashes, select, access, fail, raise, call, proc, fun, local, thread, choice, choose, cases, cases_or, lazy_tokens, tokens_of, separated, is_more, at_least_two, is_named_head, is_value_head, term, terms, fields as are_fields, feature, accessed, stmt, decls, is_body, is_value_body, value_bodies, arms, value_arms, clauses, value_clauses}
use Rattle.oz_language.specs.declared.token.Operator.{Operator}
use Rattle.oz_language.specs.declared.token.Token.TheVariants.{Box, End, Fun, Proc}
use Rattle.reader_law.specs.Machine.{Opener, declaring, of_local, of_proc, of_fun, of_thread, of_choice, of_else, of_case_else, making_proc, making_fun, block, whole, left_of, dotted, accessing, fields, key, listing, enclosing, parts, raising, matching, Stack, opened, is_some_item, may_state, run}
use Rattle.reader_law.proofs.Basics.{split, both, list_of, some_snoc}
use Rattle.reader_law.proofs.CompleteBasics.{le_through, le_self, steps, chosen, sort_body, sort_stmts, sort_bodies, sort_arms, sort_clauses}
use Rattle.reader_law.proofs.CompletePlaces.{Finds, chain, chain_level, paren_frame, Place, place_operator, place_chain, place_fields, place_key, place_listing, place_enclosing, place_parts, place_raising, place_matching, place_paren}
use Rattle.reader_law.proofs.CompleteTerms.{ReadsTerm, ReadsHad, term_had, reads_var, reads_any, reads_int, reads_string, reads_literal, reads_fail, level_left, reads_binary, ReadsChain, chain_ends, chain_goes_on, reads_chain, reads_paren, reads_feature_paren, reads_accessed_paren, reads_select, reads_access, reads_raise}
use Rattle.reader_law.proofs.CompleteSequences.{ReadsFields, no_fields, plain_field, keyed_field, reads_record, ReadsElements, no_elements, next_element, reads_list, ReadsParts, no_parts, next_part, reads_call}
use Rattle.reader_law.proofs.CompleteSides.{SideReads, select_side}
use Rattle.reader_law.proofs.CompleteBlocks.{Onward, block_onward, ReadsItem, ReadsItems, ReadsDecls, HoldsBody, ReadsBody}
use Rattle.reader_law.proofs.CompleteBodies.{reads_thread, reads_local, value_head, reads_proc, reads_fun, reads_choice, ReadsArms, reads_choose, ReadsClauses, reads_cases, reads_cases_or, ReadsCatches}

-- ---- how each sort of phrase is read

-- expressions and patterns
pub record TermReads (e : Phrase) : Type 0 where
  pub on : (w b : Bool) (m n : ℕ) (k : Stack) → Place w b m k → nat_le m n ≡ true → term w n e ≡ true → ReadsTerm e n k

-- the further parts of a chain
pub record LedReads (es : Phrases) : Type 0 where
  pub on : (c w b : Bool) (m : ℕ) (before : List Phrase) (e : Phrase) (s : Bool) (j k : Stack) → Place w b m k → terms w (suc (chain_level c)) es ≡ true
      → Finds e s true (suc (chain_level c)) j (chain c before ∷ k) → ReadsChain c es (before ++ e ∷ []) j k

-- the fields of a record, the elements of a list, the parts of a call
pub record FieldsReads (fs : Phrases) : Type 0 where
  pub on : (w : Bool) (l : Literal) (at : ℕ) (done : List Phrase) (k : Stack) → are_fields w fs ≡ true → ReadsFields fs w l at done k

pub record ElementsReads (es : Phrases) : Type 0 where
  pub on : (w : Bool) (at : ℕ) (done : List Phrase) (k : Stack) → is_some_item done || is_more es ≡ true → terms w 0 es ≡ true → ReadsElements es w at done k

pub record PartsReads (es : Phrases) : Type 0 where
  pub on : (at : ℕ) (done : List Phrase) (k : Stack) → is_some_item done || is_more es ≡ true → terms false 0 es ≡ true → ReadsParts es at done k

-- what stands behind `.`, and behind `@`
pub record FeatureReads (p : Phrase) : Type 0 where
  pub on : (a : Phrase) (k : Stack) → feature p ≡ true → run (Some (dotted a ∷ k)) (tokens_of p) ≡ Some (whole (select a p) false true ∷ k)

pub record AccessReads (p : Phrase) : Type 0 where
  pub on : (place : ℕ) (k : Stack) → accessed p ≡ true → run (Some (accessing place ∷ k)) (tokens_of p) ≡ Some (whole (access place p) false true ∷ k)

-- statements, the phrases of a block, declarations and bodies
pub record StmtReads (p : Phrase) : Type 0 where
  pub on : (o : Opener) (d : Bool) (ds ps : List Phrase) (k : Stack) → stmt p ≡ true → ReadsItem false p o d ds ps k

pub record ItemsReads (ss : Phrases) : Type 0 where
  pub on : (v : Bool) (j : Stack) (o : Opener) (d e : Bool) (ds ps : List Phrase) (k : Stack) → sort_stmts v ss ≡ true → Onward j o d true e ds ps k → ReadsItems v ss j o ds ps k

pub record DeclsReads (ds : Phrases) : Type 0 where
  pub on : (o : Opener) (s e : Bool) (ps : List Phrase) (j k : Stack) → decls ds ≡ true → Onward j o true s e [] ps k → ReadsDecls ds o ps j k

pub record BodyReads (x : Phrase) : Type 0 where
  pub on : (v : Bool) (o : Opener) (k : Stack) → HoldsBody o → sort_body v x ≡ true → ReadsBody v x o k

-- the bodies of a choice, arms, clauses, and the clauses of a `catch`
pub record BoxesReads (bs : Phrases) : Type 0 where
  pub on : (v : Bool) (at : ℕ) (sb eb : Bool) (done : List Phrase) (k : Stack) → v || may_state k ≡ true → chosen v sb eb ≡ true → is_more bs ≡ true → sort_bodies v bs ≡ true
      → ReadsHad v (separated Box bs ++ End ∷ []) (opened (of_choice at sb eb done) k) (choice at (of_list (done ++ list_of bs))) k

pub record ArmsReads (xs : Phrases) : Type 0 where
  pub on : (v : Bool) (place : ℕ) (s e : Bool) (done : List Phrase) (k : Stack) → v || may_state k ≡ true → chosen v s e ≡ true → is_more xs ≡ true → sort_arms v xs ≡ true
      → ReadsArms v xs place s e done k

pub record ClausesReads (cs : Phrases) : Type 0 where
  pub on : (v : Bool) (place : ℕ) (c : Phrase) (s e : Bool) (done : List Phrase) (k : Stack) → v || may_state k ≡ true → chosen v s e ≡ true → is_more cs ≡ true → sort_clauses v cs ≡ true
      → ReadsClauses v cs place c s e done k

pub record CatchesReads (cs : Phrases) : Type 0 where
  pub on : (y : Phrase) (done : List Phrase) (k : Stack) → is_more cs ≡ true → clauses cs ≡ true → ReadsCatches cs y done k

-- ---- what is none of these

pub no_term : (e : Phrase) → ((n : ℕ) → term true n e ≡ false) → ((n : ℕ) → term false n e ≡ false) → TermReads e
no_term e p q = record { on = found }
  where
    found : (w b : Bool) (m n : ℕ) (k : Stack) → Place w b m k → nat_le m n ≡ true → term w n e ≡ true → ReadsTerm e n k
    found true b m n k f l h = absurd (true≢false (sym h ∙ p n))
    found false b m n k f l h = absurd (true≢false (sym h ∙ q n))

pub no_feature : (p : Phrase) → feature p ≡ false → FeatureReads p
no_feature p e = record { on = λ a k h. absurd (true≢false (sym h ∙ e)) }

pub no_accessed : (p : Phrase) → accessed p ≡ false → AccessReads p
no_accessed p e = record { on = λ place k h. absurd (true≢false (sym h ∙ e)) }

pub no_stmt : (p : Phrase) → stmt p ≡ false → StmtReads p
no_stmt p e = record { on = λ o d ds ps k h. absurd (true≢false (sym h ∙ e)) }

pub no_declarations : (ds : Phrases) → decls ds ≡ false → DeclsReads ds
no_declarations ds e = record { on = λ o s v ps j k h r. absurd (true≢false (sym h ∙ e)) }

pub no_boxes : BoxesReads nothing
no_boxes = record { on = λ v at sb eb done k a c i h. absurd (cc) }

pub no_arms : (xs : Phrases) → is_more xs && value_arms xs ≡ false → is_more xs && arms xs ≡ false → ArmsReads xs
no_arms xs p q = record { on = found }
  where
    found : (v : Bool) (place : ℕ) (s e : Bool) (done : List Phrase) (k : Stack) → v || may_state k ≡ true → chosen v s e ≡ true → is_more xs ≡ true → sort_arms v xs ≡ true → ReadsArms v xs place s e done k
    found true place s e done k a g i h = absurd (true≢false (sym (both (is_more xs) (value_arms xs) i h) ∙ p))
    found false place s e done k a g i h = absurd (true≢false (sym (both (is_more xs) (arms xs) i h) ∙ q))

pub no_clauses : (cs : Phrases) → is_more cs && value_clauses cs ≡ false → is_more cs && clauses cs ≡ false → ClausesReads cs
no_clauses cs p q = record { on = found }
  where
    found : (v : Bool) (place : ℕ) (c : Phrase) (s e : Bool) (done : List Phrase) (k : Stack) → v || may_state k ≡ true → chosen v s e ≡ true → is_more cs ≡ true → sort_clauses v cs ≡ true
        → ReadsClauses v cs place c s e done k
    found true place c s e done k a g i h = absurd (true≢false (sym (both (is_more cs) (value_clauses cs) i h) ∙ p))
    found false place c s e done k a g i h = absurd (true≢false (sym (both (is_more cs) (clauses cs) i h) ∙ q))

pub no_catches : (cs : Phrases) → is_more cs && clauses cs ≡ false → CatchesReads cs
no_catches cs p = record { on = λ y done k i h. absurd (true≢false (sym (both (is_more cs) (clauses cs) i h) ∙ p)) }

pub no_body : (x : Phrase) → is_value_body x ≡ false → is_body x ≡ false → BodyReads x
no_body x p q = record { on = found }
  where
    found : (v : Bool) (o : Opener) (k : Stack) → HoldsBody o → sort_body v x ≡ true → ReadsBody v x o k
    found true o k i h = absurd (true≢false (sym h ∙ p))
    found false o k i h = absurd (true≢false (sym h ∙ q))

and_never : (a : Bool) → a && false ≡ false
and_never true = refl
and_never false = refl

-- a chain of fewer than two parts
pub no_bars : (es : Phrases) → at_least_two es ≡ false → TermReads (bars es)
no_bars es h = no_term (bars es) (λ n. found true n) (λ n. found false n)
  where
    found : (w : Bool) (n : ℕ) → term w n (bars es) ≡ false
    found w n = ap (λ q. nat_le n level_of_bars && (q && terms w level_of_hashes es)) h ∙ and_never (nat_le n level_of_bars)

pub no_hashes : (es : Phrases) → at_least_two es ≡ false → TermReads (hashes es)
no_hashes es h = no_term (hashes es) (λ n. found true n) (λ n. found false n)
  where
    found : (w : Bool) (n : ℕ) → term w n (hashes es) ≡ false
    found w n = ap (λ q. nat_le n level_of_hashes && (q && terms w (suc level_of_hashes) es)) h ∙ and_never (nat_le n level_of_hashes)

-- ---- procedures, where they stand

value_proc : (at : ℕ) (h x : Phrase) (b : Bool) (m : ℕ) (k : Stack) → Place false b m k → is_value_head h ≡ true → ReadsBody false x (of_proc at h) k → ReadsHad true (tokens_of (proc at h x)) k (proc at h x) k
value_proc at h x b m k f i r = record {
  states = is_named_head h;
  values = is_value_head h;
  good = i;
  reads = steps (Proc at) (tokens_of h ++ (tokens_of x ++ End ∷ [])) k _ (f.opens (Proc at) tt) ∙ reads_proc at h x k (value_head h (making_proc at) k f.values i) r;
}

value_fun : (at : ℕ) (lazy : Option ℕ) (h x : Phrase) (b : Bool) (m : ℕ) (k : Stack) → Place false b m k → is_value_head h ≡ true → ReadsBody true x (of_fun at lazy h) k
    → ReadsHad true (tokens_of (fun at lazy h x)) k (fun at lazy h x) k
value_fun at lazy h x b m k f i r = record {
  states = is_named_head h;
  values = is_value_head h;
  good = i;
  reads =
      steps (Fun at) (lazy_tokens lazy ++ (tokens_of h ++ (tokens_of x ++ End ∷ []))) k _ (f.opens (Fun at) tt)
      ∙ reads_fun at lazy h x k (value_head h (making_fun at lazy) k f.values i) r;
}

-- ---- what is not empty

some_left : (a : Bool) → a || false ≡ true → a ≡ true
some_left true h = refl
some_left false h = h

still_some : (done : List Phrase) (e : Phrase) (b : Bool) → is_some_item (done ++ e ∷ []) || b ≡ true
still_some done e b = ap (λ q. q || b) (some_snoc done e)

-- ---- expressions and patterns

pub term_var : (name at : ℕ) → TermReads (var name at)
term_var name at = record { on = λ w b m n k f l h. reads_var name at w b m n k f }

pub term_any : (at : ℕ) → TermReads (any at)
term_any at = record { on = λ w b m n k f l h. reads_any at w b m n k f }

pub term_int : (i : ℤ) (at : ℕ) → TermReads (int i at)
term_int i at = record { on = λ w b m n k f l h. reads_int i at w b m n k f }

pub term_string : (s at : ℕ) → TermReads (string s at)
term_string s at = record { on = λ w b m n k f l h. reads_string s at w b m n k f }

pub term_literal : (c : Literal) (at : ℕ) → TermReads (literal c at)
term_literal c at = record { on = λ w b m n k f l h. reads_literal c at w b m n k f }

pub term_rec : (c : Literal) (at : ℕ) (fs : Phrases) → FieldsReads fs → TermReads (rec c at fs)
term_rec c at fs fs_reads = record { on = λ w b m n k f l h. reads_record c at fs w b m n k f (fs_reads.on w c at [] k h) }

pub term_list : (at : ℕ) (es : Phrases) → ElementsReads es → TermReads (list at es)
term_list at es es_reads = record {
  on = λ w b m n k f l h.
      let i = split (is_more es) (terms w 0 es) h in
      reads_list at es w b m n k f (es_reads.on w at [] k i.fst i.snd);
}

pub term_paren : (at : ℕ) (e : Phrase) → TermReads e → TermReads (paren at (more e nothing))
term_paren at e e_reads = record { on = λ w b m n k f l h. reads_paren e at w b m n k f (e_reads.on w b 0 0 (paren_frame w b at ∷ k) (place_paren w b at k) refl (split (term w 0 e) true h).fst) }

pub term_bars : (x y : Phrase) (es : Phrases) → TermReads y → TermReads x → LedReads es → TermReads (bars (more x (more y es)))
term_bars x y es y_reads x_reads es_reads = record {
  on = λ w b m n k f l h.
      let i = split (nat_le n level_of_bars) (term w level_of_hashes x && (term w level_of_hashes y && terms w level_of_hashes es)) h in
      let j = split (term w level_of_hashes x) (term w level_of_hashes y && terms w level_of_hashes es) i.snd in
      let v = split (term w level_of_hashes y) (terms w level_of_hashes es) j.snd in
      let below : nat_le m level_of_bars ≡ true = le_through m n level_of_bars l i.fst in
      let r : ReadsTerm y level_of_hashes (chain true (x ∷ []) ∷ k) = y_reads.on w false level_of_hashes level_of_hashes (chain true (x ∷ []) ∷ k) (place_chain true (x ∷ []) w b m k f) refl v.fst in
      reads_chain true x y es w b m n k f below i.fst (x_reads.on w b m level_of_hashes k f (le_through m level_of_bars level_of_hashes below refl) j.fst) r
      (es_reads.on true w b m (x ∷ []) y r.states r.at k f v.snd r.finds);
}

pub term_hashes : (x y : Phrase) (es : Phrases) → TermReads y → TermReads x → LedReads es → TermReads (hashes (more x (more y es)))
term_hashes x y es y_reads x_reads es_reads = record {
  on = λ w b m n k f l h.
      let i = split (nat_le n level_of_hashes) (term w (suc level_of_hashes) x && (term w (suc level_of_hashes) y && terms w (suc level_of_hashes) es)) h in
      let j = split (term w (suc level_of_hashes) x) (term w (suc level_of_hashes) y && terms w (suc level_of_hashes) es) i.snd in
      let v = split (term w (suc level_of_hashes) y) (terms w (suc level_of_hashes) es) j.snd in
      let below : nat_le m level_of_hashes ≡ true = le_through m n level_of_hashes l i.fst in
      let r : ReadsTerm y (suc level_of_hashes) (chain false (x ∷ []) ∷ k) = y_reads.on w false (suc level_of_hashes) (suc level_of_hashes) (chain false (x ∷ []) ∷ k) (place_chain false (x ∷ []) w b m k f) refl v.fst in
      reads_chain false x y es w b m n k f below i.fst (x_reads.on w b m (suc level_of_hashes) k f (le_through m level_of_hashes (suc level_of_hashes) below refl) j.fst) r
      (es_reads.on false w b m (x ∷ []) y r.states r.at k f v.snd r.finds);
}

pub term_binary : (op : Operator) (x y : Phrase) → TermReads x → TermReads y → TermReads (binary op x y)
term_binary op x y x_reads y_reads = record { on = found }
  where
    found : (w b : Bool) (m n : ℕ) (k : Stack) → Place w b m k → nat_le m n ≡ true → term w n (binary op x y) ≡ true → ReadsTerm (binary op x y) n k
    found false b m n k f l h =
        let i = split (nat_le n (level_of op)) (term false (left_level op) x && term false (suc (level_of op)) y) h in
        let j = split (term false (left_level op) x) (term false (suc (level_of op)) y) i.snd in
        let below : nat_le m (level_of op) ≡ true = le_through m n (level_of op) l i.fst in
        reads_binary op x y b m n k f below i.fst j.fst (x_reads.on false b m (left_level op) k f (le_through m (level_of op) (left_level op) below (level_left op)) j.fst)
        (y_reads.on false false (suc (level_of op)) (suc (level_of op)) (left_of op x ∷ k) (place_operator op x b m k f) (le_self (suc (level_of op))) j.snd)
    found true b m n k f l h = absurd (cc)

pub term_select : (e p : Phrase) → TermReads e → FeatureReads p → TermReads (select e p)
term_select e p e_reads p_reads = record { on = found }
  where
    found : (w b : Bool) (m n : ℕ) (k : Stack) → Place w b m k → nat_le m n ≡ true → term w n (select e p) ≡ true → ReadsTerm (select e p) n k
    found false b m n k f l h =
        let i = split (term false level_of_selection e) (feature p) h in
        reads_select e p b m n k f (e_reads.on false b m level_of_selection k f f.low i.fst) (p_reads.on e k i.snd)
    found true b m n k f l h = absurd (cc)

pub term_access : (at : ℕ) (e : Phrase) → AccessReads e → TermReads (access at e)
term_access at e e_reads = record { on = found }
  where
    found : (w b : Bool) (m n : ℕ) (k : Stack) → Place w b m k → nat_le m n ≡ true → term w n (access at e) ≡ true → ReadsTerm (access at e) n k
    found false b m n k f l h = reads_access at e b m n k f (e_reads.on at k h)
    found true b m n k f l h = absurd (cc)

pub term_fail : (at : ℕ) → TermReads (fail at)
term_fail at = record { on = found }
  where
    found : (w b : Bool) (m n : ℕ) (k : Stack) → Place w b m k → nat_le m n ≡ true → term w n (fail at) ≡ true → ReadsTerm (fail at) n k
    found false b m n k f l h = term_had (fail at) false b m n k f (reads_fail true at b m k f)
    found true b m n k f l h = absurd (cc)

pub term_raise : (at : ℕ) (e : Phrase) → TermReads e → TermReads (raise at e)
term_raise at e e_reads = record { on = found }
  where
    found : (w b : Bool) (m n : ℕ) (k : Stack) → Place w b m k → nat_le m n ≡ true → term w n (raise at e) ≡ true → ReadsTerm (raise at e) n k
    found false b m n k f l h = term_had (raise at e) false b m n k f (reads_raise true at e b m k f (e_reads.on false false 0 0 (raising at ∷ k) (place_raising at k) refl h))
    found true b m n k f l h = absurd (cc)

pub term_call : (at : ℕ) (e : Phrase) (es : Phrases) → PartsReads (more e es) → TermReads (call at (more e es))
term_call at e es e_reads = record { on = found }
  where
    found : (w b : Bool) (m n : ℕ) (k : Stack) → Place w b m k → nat_le m n ≡ true → term w n (call at (more e es)) ≡ true → ReadsTerm (call at (more e es)) n k
    found false b m n k f l h = term_had (call at (more e es)) false b m n k f (reads_call true at (more e es) b m k f (e_reads.on at [] k refl h))
    found true b m n k f l h = absurd (cc)

pub term_proc : (at : ℕ) (x y : Phrase) → BodyReads y → TermReads (proc at x y)
term_proc at x y y_reads = record { on = found }
  where
    found : (w b : Bool) (m n : ℕ) (k : Stack) → Place w b m k → nat_le m n ≡ true → term w n (proc at x y) ≡ true → ReadsTerm (proc at x y) n k
    found false b m n k f l h =
        let i = split (is_value_head x) (is_body y) h in
        term_had (proc at x y) false b m n k f (value_proc at x y b m k f i.fst (y_reads.on false (of_proc at x) k tt i.snd))
    found true b m n k f l h = absurd (cc)

pub term_fun : (at : ℕ) (lazy : Option ℕ) (x y : Phrase) → BodyReads y → TermReads (fun at lazy x y)
term_fun at lazy x y y_reads = record { on = found }
  where
    found : (w b : Bool) (m n : ℕ) (k : Stack) → Place w b m k → nat_le m n ≡ true → term w n (fun at lazy x y) ≡ true → ReadsTerm (fun at lazy x y) n k
    found false b m n k f l h =
        let i = split (is_value_head x) (is_value_body y) h in
        term_had (fun at lazy x y) false b m n k f (value_fun at lazy x y b m k f i.fst (y_reads.on true (of_fun at lazy x) k tt i.snd))
    found true b m n k f l h = absurd (cc)

pub term_local : (at : ℕ) (d : Phrase) (ds : Phrases) (y : Phrase) → DeclsReads (more d ds) → BodyReads y → TermReads (local at (more d ds) y)
term_local at d ds y d_reads y_reads = record { on = found }
  where
    found : (w b : Bool) (m n : ℕ) (k : Stack) → Place w b m k → nat_le m n ≡ true → term w n (local at (more d ds) y) ≡ true → ReadsTerm (local at (more d ds) y) n k
    found false b m n k f l h =
        let i = split (decls (more d ds)) (is_value_body y) h in
        term_had (local at (more d ds) y) false b m n k f
        (reads_local true at d ds y b m k f refl
        (d_reads.on (declaring at) false false [] (block (declaring at) true false [] [] ∷ k) k i.fst (block_onward (declaring at) true false [] [] k))
        (y_reads.on true (of_local at (d ∷ list_of ds)) k tt i.snd))
    found true b m n k f l h = absurd (cc)

pub term_thread : (at : ℕ) (y : Phrase) → BodyReads y → TermReads (thread at y)
term_thread at y y_reads = record { on = found }
  where
    found : (w b : Bool) (m n : ℕ) (k : Stack) → Place w b m k → nat_le m n ≡ true → term w n (thread at y) ≡ true → ReadsTerm (thread at y) n k
    found false b m n k f l h = term_had (thread at y) false b m n k f (reads_thread true at y b m k f refl (y_reads.on true (of_thread at) k tt h))
    found true b m n k f l h = absurd (cc)

pub term_choice : (at : ℕ) (bs : Phrases) → BoxesReads bs → TermReads (choice at bs)
term_choice at bs bs_reads = record { on = found }
  where
    found : (w b : Bool) (m n : ℕ) (k : Stack) → Place w b m k → nat_le m n ≡ true → term w n (choice at bs) ≡ true → ReadsTerm (choice at bs) n k
    found false b m n k f l h =
        let i = split (is_more bs) (value_bodies bs) h in
        term_had (choice at bs) false b m n k f (reads_choice true at bs b m k f (bs_reads.on true at true true [] k refl refl i.fst i.snd))
    found true b m n k f l h = absurd (cc)

pub term_choose : (at : ℕ) (xs : Phrases) (y : Phrase) → ArmsReads xs → BodyReads y → TermReads (choose at xs y)
term_choose at xs y xs_reads y_reads = record { on = found }
  where
    found : (w b : Bool) (m n : ℕ) (k : Stack) → Place w b m k → nat_le m n ≡ true → term w n (choose at xs y) ≡ true → ReadsTerm (choose at xs y) n k
    found false b m n k f l h =
        let i = split (is_more xs) (value_arms xs && is_value_body y) h in
        let j = split (value_arms xs) (is_value_body y) i.snd in
        let r : ReadsArms true xs at true true [] k = xs_reads.on true at true true [] k refl refl i.fst j.fst in
        term_had (choose at xs y) false b m n k f
        (reads_choose true at xs y b m k f refl r (y_reads.on true (of_else at (r.states_before && r.states) (r.values_before && r.values) (list_of xs)) k tt j.snd))
    found true b m n k f l h = absurd (cc)

pub term_cases : (at : ℕ) (c : Phrase) (cs : Phrases) → TermReads c → ClausesReads cs → TermReads (cases at c cs)
term_cases at c cs c_reads cs_reads = record { on = found }
  where
    found : (w b : Bool) (m n : ℕ) (k : Stack) → Place w b m k → nat_le m n ≡ true → term w n (cases at c cs) ≡ true → ReadsTerm (cases at c cs) n k
    found false b m n k f l h =
        let i = split (term false 0 c) (is_more cs && value_clauses cs) h in
        let j = split (is_more cs) (value_clauses cs) i.snd in
        term_had (cases at c cs) false b m n k f
        (reads_cases true at c cs b m k f refl (c_reads.on false false 0 0 (matching at ∷ k) (place_matching at k) refl i.fst) (cs_reads.on true at c true true [] k refl refl j.fst j.snd))
    found true b m n k f l h = absurd (cc)

pub term_cases_or : (at : ℕ) (c : Phrase) (cs : Phrases) (y : Phrase) → ClausesReads cs → TermReads c → BodyReads y → TermReads (cases_or at c cs y)
term_cases_or at c cs y cs_reads c_reads y_reads = record { on = found }
  where
    found : (w b : Bool) (m n : ℕ) (k : Stack) → Place w b m k → nat_le m n ≡ true → term w n (cases_or at c cs y) ≡ true → ReadsTerm (cases_or at c cs y) n k
    found false b m n k f l h =
        let i = split (term false 0 c) (is_more cs && (value_clauses cs && is_value_body y)) h in
        let j = split (is_more cs) (value_clauses cs && is_value_body y) i.snd in
        let v = split (value_clauses cs) (is_value_body y) j.snd in
        let r : ReadsClauses true cs at c true true [] k = cs_reads.on true at c true true [] k refl refl j.fst v.fst in
        term_had (cases_or at c cs y) false b m n k f
        (reads_cases_or true at c cs y b m k f refl (c_reads.on false false 0 0 (matching at ∷ k) (place_matching at k) refl i.fst) r
        (y_reads.on true (of_case_else at c (r.states_before && r.states) (r.values_before && r.values) (list_of cs)) k tt v.snd))
    found true b m n k f l h = absurd (cc)

pub led_nothing : LedReads nothing
led_nothing = record { on = λ c w b m before e s j k f h r. chain_ends c before e s w b m j k f r }

pub led_more : (p : Phrase) (ps : Phrases) → TermReads p → LedReads ps → LedReads (more p ps)
led_more p ps p_reads ps_reads = record {
  on = λ c w b m before e s j k f h r.
      let i = split (term w (suc (chain_level c)) p) (terms w (suc (chain_level c)) ps) h in
      let q : ReadsTerm p (suc (chain_level c)) (chain c (before ++ e ∷ []) ∷ k) =
      p_reads.on w false (suc (chain_level c)) (suc (chain_level c)) (chain c (before ++ e ∷ []) ∷ k) (place_chain c (before ++ e ∷ []) w b m k f) (le_self (suc (chain_level c))) i.fst in
      chain_goes_on c before e p ps s w b m j k f r q (ps_reads.on c w b m (before ++ e ∷ []) p q.states q.at k f i.snd q.finds);
}

pub fields_nothing : FieldsReads nothing
fields_nothing = record { on = λ w l at done k h. no_fields w l at done k }

pub fields_keyed : (c : Constant) (place : ℕ) (e : Phrase) (fs : Phrases) → TermReads e → FieldsReads fs → FieldsReads (more (keyed c place e) fs)
fields_keyed c place e fs e_reads fs_reads = record {
  on = λ w l at done k h.
      let i = split (term w 0 e) (are_fields w fs) h in
      keyed_field c place e fs w l at done k i.snd (e_reads.on w false 0 0 (key w c place ∷ fields w l at done ∷ k) (place_key w c place (fields w l at done ∷ k)) refl i.fst)
      (fs_reads.on w l at (done ++ keyed c place e ∷ []) k i.snd);
}

pub fields_more : (e : Phrase) (fs : Phrases) → ((w : Bool) → are_fields w (more e fs) ≡ term w 0 e && are_fields w fs) → TermReads e → FieldsReads fs → FieldsReads (more e fs)
fields_more e fs spelled e_reads fs_reads = record {
  on = λ w l at done k h.
      let i = split (term w 0 e) (are_fields w fs) (sym (spelled w) ∙ h) in
      plain_field e fs w l at done k i.snd (e_reads.on w false 0 0 (fields w l at done ∷ k) (place_fields w l at done k) refl i.fst) (fs_reads.on w l at (done ++ e ∷ []) k i.snd);
}

pub elements_nothing : ElementsReads nothing
elements_nothing = record { on = λ w at done k i h. no_elements w at done k (some_left (is_some_item done) i) }

pub elements_more : (e : Phrase) (es : Phrases) → TermReads e → ElementsReads es → ElementsReads (more e es)
elements_more e es e_reads es_reads = record {
  on = λ w at done k i h.
      let j = split (term w 0 e) (terms w 0 es) h in
      next_element e es w at done k j.snd (e_reads.on w false 0 0 (listing w at done ∷ k) (place_listing w at done k) refl j.fst) (es_reads.on w at (done ++ e ∷ []) k (still_some done e (is_more es)) j.snd);
}

pub parts_nothing : PartsReads nothing
parts_nothing = record { on = λ at done k i h. no_parts at done k (some_left (is_some_item done) i) }

pub parts_more : (e : Phrase) (es : Phrases) → TermReads e → PartsReads es → PartsReads (more e es)
parts_more e es e_reads es_reads = record {
  on = λ at done k i h.
      let j = split (term false 0 e) (terms false 0 es) h in
      next_part e es at done k j.snd (e_reads.on false false 0 0 (parts at done ∷ k) (place_parts at done k) refl j.fst) (es_reads.on at (done ++ e ∷ []) k (still_some done e (is_more es)) j.snd);
}

pub feature_literal : (l : Literal) (at : ℕ) → FeatureReads (literal l at)
feature_literal l at = record { on = λ a k h. refl }

pub feature_int : (i : ℤ) (at : ℕ) → FeatureReads (int i at)
feature_int i at = record { on = λ a k h. refl }

pub feature_var : (name at : ℕ) → FeatureReads (var name at)
feature_var name at = record { on = λ a k h. refl }

pub feature_paren : (at : ℕ) (e : Phrase) → TermReads e → FeatureReads (paren at (more e nothing))
feature_paren at e e_reads = record {
  on = λ a k h.
      reads_feature_paren at e a k (e_reads.on false false 0 0 (enclosing false at ∷ dotted a ∷ k) (place_enclosing false at (dotted a ∷ k)) refl (split (term false 0 e) true h).fst);
}

pub accessed_var : (name at : ℕ) → AccessReads (var name at)
accessed_var name at = record { on = λ place k h. refl }

pub accessed_paren : (at : ℕ) (e : Phrase) → TermReads e → AccessReads (paren at (more e nothing))
accessed_paren at e e_reads = record {
  on = λ place k h.
      reads_accessed_paren at e place k (e_reads.on false false 0 0 (enclosing false at ∷ accessing place ∷ k) (place_enclosing false at (accessing place ∷ k)) refl (split (term false 0 e) true h).fst);
}

pub selected_side : (e p : Phrase) → SideReads e → FeatureReads p → SideReads (select e p)
selected_side e p e_reads p_reads = select_side e p e_reads (λ k h. p_reads.on e k h)
