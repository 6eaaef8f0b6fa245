-- What the translation makes of a phrase is closed, where the phrase is bound.
use Rattle.std.proofs.Common.{◌≡◌, ℕ, List, [], ◌∷◌, ◌++◌, Some, None, true, false, arith}
use Rattle.std.specs.List.{Contains, AllByRecursion}
use Rattle.std.proofs.lemmas.List.Elements.{All-from_recursion}
use Rattle.oz_language.specs.declared.kernel.Identifier.{Identifier}
use Rattle.oz_language.specs.declared.kernel.Identifier.TheVariants.{Word, Fresh}
use Rattle.oz_language.specs.declared.token.Literal.{Literal}
use Rattle.oz_language.specs.declared.token.Operator.TheVariants as operator
use Rattle.oz_language.specs.declared.token.Connective.TheVariants.{Equates, Assigns, Bounds, BoundsEach}
use Rattle.oz_language.specs.Wording.{access_word, assign_word, hash_word}
use Rattle.oz_language.specs.Grammar.{Phrase, Phrases, nothing, more, var, any, int, string, literal, rec, keyed, list, paren, binary, bars, hashes, select, access, connected, relate, proc, fun, choice, when, choose, arm, cases, cases_or, clause, body}
use Rattle.oz_language.specs.Grammar as g
use Rattle.oz_language.specs.Kernels.{word_text, Stmts, Bodies, just}
use Rattle.oz_language.specs.Kernels as k
use Rattle.oz_language.specs.Refusals as refusals
use Rattle.oz_language.specs.Refusals.{variables_in, with_names, parameters_in}
use Rattle.oz_language.specs.Translation.{Made, made, Goal, statement, value, result_in, variable_of, name_or, next_after, names_of, behind_names, within, preceded, record_bound, and_made, or_made, selected, fresh_among, called, caught_in, last_variable, atom, patterned, parameter_names, parameters_of, behind_parameters, procedure_name, operation_of, behind_factor, behind_side, between, translated, translated_each, valued_last, filled, list_made, chain_made, references, alternatives, arms_made, clauses_made, handled}
use Rattle.oz_language.specs.declared.kernel.Operation.TheVariants as operation
use Rattle.scope_law.specs.Closed.{ClosedAll, ClosedEach, pattern_names}
use Rattle.scope_law.proofs.Basics.{here, there, each_append}
use Rattle.scope_law.proofs.Scopes.{within_self, within_more, codes_within, Makes, Codes, appended, in_scoped, part_closed, with_part_closed, with_parts_closed, equated_closed, cell_closed, function_closed, attempted_closed, two}
use Rattle.scope_law.proofs.Names.{Knows, known_within, known_more, declaring_closed}
use Rattle.scope_law.proofs.Patterns.{variable_in}
use Rattle.scope_law.proofs.Bound.{Bound, BoundEach, BoundLast, last_statement}
use Rattle.scope_law.proofs.Parts.{named, last_named, parts_named, bound_closed, codes_closed}
use Rattle.scope_law.proofs.Sides.{IsSide, side, Spans, spans_part, spans_first, spans_second, spans_between, factor_more, product_more}
use Rattle.scope_law.proofs.SideTerms.{relation_closed}
use Rattle.scope_law.proofs.Steps.{is_value, GoalIn, goal_within, makes_of, codes_of, skip_or, procedure_in, known_parameters, known_by_parameters, known_caught, factor_side, factor_behind, first_factor, second_factor}

-- all of a list, and what gets the value
result_each : (S : List Identifier) (goal : Goal) → GoalIn S goal → AllByRecursion (Contains S) (result_in goal)
result_each S statement h = tt
result_each S (value x) h = (h, tt)

called_closed : (S xs : List Identifier) → AllByRecursion (Contains S) xs → ClosedAll S (called xs)
called_closed S [] h = tt
called_closed S (x ∷ xs) h = ((h.0, All-from_recursion (Contains S) xs h.1), tt)

module _ (words : List (List ℕ)) where
  -- a phrase for its value
  abbrev valued : Phrase → Identifier → ℕ → Made
  valued e y n = translated words (value y) n e

  -- a record, by how its fields are made
  record_closed : (x : Identifier) (l : Literal) (es : Phrases) (n : ℕ) (names : List ℕ) (S : List Identifier) → Knows names S → Contains S x → BoundEach names true es
      → ((T : List Identifier) → Knows names T → AllByRecursion (Contains T) (names_of n es) → ClosedAll T (filled words n es (behind_names n es)).code)
      → ClosedAll S (within (names_of n es) (preceded (record_bound words x l es (names_of n es)) (filled words n es (behind_names n es)))).code
  record_closed x l es n names S r i h f =
      let xs = names_of n es in
      let T = fresh_among xs ++ S in
      let w = within_more (fresh_among xs) S in
      let each = parts_named names S true n es r h in
      in_scoped S (fresh_among xs) _ (bound_closed words T x l es xs (w.kept x i) each, f T (known_within w r) each)

  -- e.f, by how both are made
  selected_closed : (x : Identifier) (e f : Phrase) (n : ℕ) (names : List ℕ) (S : List Identifier) → Knows names S → Contains S x → Bound names true e → Bound names true f → Makes S (valued e) → Makes S (valued f)
      → ClosedAll S (selected n x (variable_of e) (variable_of f) (valued e) (valued f)).code
  selected_closed x e f n names S r i h j a b =
      with_parts_closed S n (variable_of e) (variable_of f) (valued e) (valued f) (λ y z. k.operate operation.Select (y ∷ z ∷ x ∷ [])) (named names S true e r h) (named names S true f r j) a b
      (λ T y z w l m. All-from_recursion (Contains T) (y ∷ z ∷ x ∷ []) (l, (m, (w.kept x i, tt))))

  mutual
    pub closed : (goal : Goal) (n : ℕ) (p : Phrase) (names : List ℕ) (S : List Identifier) → Knows names S → GoalIn S goal → Bound names (is_value goal) p → ClosedAll S (translated words goal n p).code
    closed (value x) n (var name at) names S r i h = ((i, r.word name h), tt)
    closed (value x) n (any at) names S r i h = (((there (Fresh n) x S i, here (Fresh n) S), tt), tt)
    closed (value x) n (int j at) names S r i h = (i, tt)
    closed (value x) n (string s at) names S r i h = codes_closed S x (word_text words s) n i
    closed (value x) n (literal l at) names S r i h = (i, tt)
    closed (value x) n (rec l at fs) names S r i h = record_closed x l fs n names S r i h (λ T q each. filled_closed n fs (behind_names n fs) names T q each h)
    closed (value x) n (keyed c at e) names S r i h = closed (value x) n e names S r i h
    closed (value x) n (list at es) names S r i h = list_closed x es n names S r i h
    closed (value x) n (paren at (more e nothing)) names S r i h = closed (value x) n e names S r i h.0
    closed (value x) n (binary operator.AndThen a b) names S r i h =
        with_part_closed S n (variable_of a) (valued a) (λ y j. and_made x y (translated words (value x) j b)) (named names S true a r h.0)
        (makes_of r (λ T w q y j m. closed (value y) m a names T q j h.0))
        (makes_of r (λ T w q y j m. ((j, closed (value x) m b names T q (w.kept x i) h.1, (w.kept x i, tt)), tt)))
    closed (value x) n (binary operator.OrElse a b) names S r i h =
        with_part_closed S n (variable_of a) (valued a) (λ y j. or_made x y (translated words (value x) j b)) (named names S true a r h.0)
        (makes_of r (λ T w q y j m. closed (value y) m a names T q j h.0))
        (makes_of r (λ T w q y j m. ((j, (w.kept x i, tt), closed (value x) m b names T q (w.kept x i) h.1), tt)))
    closed (value x) n (binary op a b) names S r i h =
        with_parts_closed S n (variable_of a) (variable_of b) (valued a) (valued b) (λ y z. k.operate (operation_of op) (y ∷ z ∷ x ∷ [])) (named names S true a r h.0) (named names S true b r h.1)
        (makes_of r (λ T w q y j m. closed (value y) m a names T q j h.0))
        (makes_of r (λ T w q y j m. closed (value y) m b names T q j h.1))
        (λ T y z w j l. All-from_recursion (Contains T) (y ∷ z ∷ x ∷ []) (j, (l, (w.kept x i, tt))))
    closed (value x) n (bars es) names S r i h = chain_closed x es n names S r i h
    closed (value x) n (hashes es) names S r i h = record_closed x (atom hash_word) es n names S r i h (λ T q each. filled_closed n es (behind_names n es) names T q each h)
    closed (value x) n (select e f) names S r i h =
        selected_closed x e f n names S r i h.0 h.1
        (makes_of r (λ T w q y j m. closed (value y) m e names T q j h.0))
        (makes_of r (λ T w q y j m. closed (value y) m f names T q j h.1))
    closed (value x) n (access at e) names S r i h =
        with_part_closed S n (variable_of e) (valued e) (λ y j. made (just (k.call (Word access_word) (y ∷ x ∷ []))) j) (named names S true e r h)
        (makes_of r (λ T w q y j m. closed (value y) m e names T q j h))
        (makes_of r (λ T w q y j m. ((q.access, two T y x j (w.kept x i)), tt)))
    closed goal n g.skip names S r i h = (tt, tt)
    closed goal n (g.fail at) names S r i h = (tt, tt)
    closed goal n (g.raise at e) names S r i h =
        with_part_closed S n (variable_of e) (valued e) (λ y j. made (just (k.raise y)) j) (named names S true e r h)
        (makes_of r (λ T w q y j m. closed (value y) m e names T q j h))
        (makes_of r (λ T w q y j m. (j, tt)))
    closed goal n (connected Equates a b) names S r i h =
        equated_closed S n (variable_of a) (variable_of b) (valued a) (valued b) (named names S true a r h.0) (named names S true b r h.1)
        (makes_of r (λ T w q y j m. closed (value y) m a names T q j h.0))
        (makes_of r (λ T w q y j m. closed (value y) m b names T q j h.1))
    closed goal n (connected Assigns a b) names S r i h =
        with_parts_closed S n (variable_of a) (variable_of b) (valued a) (valued b) (λ y z. k.call (Word assign_word) (y ∷ z ∷ [])) (named names S true a r h.0) (named names S true b r h.1)
        (makes_of r (λ T w q y j m. closed (value y) m a names T q j h.0))
        (makes_of r (λ T w q y j m. closed (value y) m b names T q j h.1))
        (λ T y z w j l. (w.kept (Word assign_word) r.assign, two T y z j l))
    closed goal n (connected Bounds a b) names S r i h =
        with_parts_closed S n (variable_of a) (variable_of b) (valued a) (valued b) (λ y z. k.operate operation.Bound (y ∷ z ∷ [])) (named names S true a r h.0) (named names S true b r h.1)
        (makes_of r (λ T w q y j m. closed (value y) m a names T q j h.0))
        (makes_of r (λ T w q y j m. closed (value y) m b names T q j h.1))
        (λ T y z w j l. two T y z j l)
    closed goal n (connected BoundsEach a b) names S r i h =
        with_parts_closed S n (variable_of a) (variable_of b) (valued a) (valued b) (λ y z. k.operate operation.BoundEach (y ∷ z ∷ [])) (named names S true a r h.0) (named names S true b r h.1)
        (makes_of r (λ T w q y j m. closed (value y) m a names T q j h.0))
        (makes_of r (λ T w q y j m. closed (value y) m b names T q j h.1))
        (λ T y z w j l. two T y z j l)
    closed goal n (relate c a b) names S r i h =
        let m = behind_side n a in
        let l = behind_side m b in
        let T = fresh_among (between n l) ++ S in
        let q = known_within (within_more (fresh_among (between n l)) S) r in
        let u = side a h.2 in
        let v = side b h.3 in
        let spans = spans_between S n l in
        in_scoped S (fresh_among (between n l)) _
        (appended T _ _
        (appended T _ _ (references_closed n a l names T q u h.0 (spans_first T n a b v spans)) (references_closed m b _ names T q v h.1 (spans_second T n a b u spans)))
        (relation_closed names T q c n a b u v h.0 h.1 spans))
    closed goal n (g.call at es) names S r i h =
        let xs = names_of n es in
        let T = fresh_among xs ++ S in
        let w = within_more (fresh_among xs) S in
        let each = parts_named names S true n es r h in
        in_scoped S (fresh_among xs) _
        (appended T _ _ (filled_closed n es (behind_names n es) names T (known_within w r) each h)
        (called_closed T (xs ++ result_in goal) (each_append (Contains T) xs (result_in goal) each (result_each T goal (goal_within goal w i)))))
    closed goal n (proc at h b) names S r i t =
        let ps = parameters_of h in
        ((procedure_in names S goal h r i t.0, closed statement (behind_parameters n ps) b (with_names (parameters_in h) names) ((parameter_names n ps ++ []) ++ S) (known_parameters names S n h [] r t.1) tt t.2), tt)
    closed goal n (fun at lazy h b) names S r i t =
        let ps = parameters_of h in
        let inner = with_names (parameters_in h) names in
        function_closed S (parameter_names n ps) (procedure_name goal h) lazy (valued b) (behind_parameters n ps) (procedure_in names S goal h r i t.0) r.by_need
        (makes_of (known_by_parameters names S n h r t.1) (λ T w q y j m. closed (value y) m b inner T q j t.2))
    closed goal n (g.local at ds b) names S r i h =
        let inner = refusals.declaring ds names in
        declaring_closed ds names S _ r (λ T w q. appended T _ _ (each_closed ds n inner T q h.0) (closed goal _ b inner T q (goal_within goal w i) h.1))
    closed goal n (g.thread at b) names S r i h = (closed goal n b names S r i h, tt)
    closed goal n (choice at bs) names S r i h = (alternatives_closed goal bs n names S r i h, tt)
    closed goal n (when at xs) names S r i h = arms_closed goal xs (λ j. made (just k.skip) j) n names S r i h (codes_of r (λ T w q j. (tt, tt)))
    closed goal n (choose at xs b) names S r i h =
        arms_closed goal xs (λ j. translated words goal j b) n names S r i h.0 (codes_of r (λ T w q j. closed goal j b names T q (goal_within goal w i) h.1))
    closed goal n (cases at e cs) names S r i h =
        with_part_closed S n (variable_of e) (valued e) (λ y j. clauses_made words goal y cs (λ m. made (just k.no_match) m) j) (named names S true e r h.0)
        (makes_of r (λ T w q y j m. closed (value y) m e names T q j h.0))
        (makes_of r (λ T w q y j m. clauses_closed goal y cs (λ l. made (just k.no_match) l) m names T q (goal_within goal w i) j h.1 (codes_of q (λ U v u l. (tt, tt)))))
    closed goal n (cases_or at e cs b) names S r i h =
        with_part_closed S n (variable_of e) (valued e) (λ y j. clauses_made words goal y cs (λ m. translated words goal m b) j) (named names S true e r h.0)
        (makes_of r (λ T w q y j m. closed (value y) m e names T q j h.0))
        (makes_of r (λ T w q y j m. clauses_closed goal y cs (λ l. translated words goal l b) m names T q (goal_within goal w i) j h.1
        (codes_of q (λ U v u l. closed goal l b names U u (goal_within goal v (goal_within goal w i)) h.2))))
    closed goal n (g.attempt b cs) names S r i h =
        attempted_closed S n (caught_in cs) (λ j. translated words statement j b) (λ j. handled words cs j) (λ y j. clauses_made words statement y cs (λ m. made (just (k.raise y)) m) j)
        (codes_of r (λ T w q j. closed statement j b names T q tt h.0))
        (λ y j e. handled_closed cs j y names S r e h.1)
        (makes_of r (λ T w q y j m. clauses_closed statement y cs (λ l. made (just (k.raise y)) l) m names T q tt j h.1 (codes_of q (λ U v u l. (v.kept y j, tt)))))
    closed statement n (paren at ss) names S r i h = each_closed ss n names S r h
    closed statement n (body ds ss) names S r i h =
        let inner = refusals.declaring ds names in
        declaring_closed ds names S _ r (λ T w q. appended T _ _ (each_closed ds n inner T q h.0) (skip_or T ss _ (each_closed ss _ inner T q (last_statement inner ss h.1))))
    closed (value x) n (body ds ss) names S r i h =
        let inner = refusals.declaring ds names in
        declaring_closed ds names S _ r (λ T w q. appended T _ _ (each_closed ds n inner T q h.0) (last_closed x ss _ inner T q (w.kept x i) h.1))
    closed goal n p names S r i h = tt

    -- ---- statements, and a value behind them

    each_closed : (ps : Phrases) (n : ℕ) (names : List ℕ) (S : List Identifier) → Knows names S → BoundEach names false ps → ClosedAll S (translated_each words n ps).code
    each_closed nothing n names S r h = tt
    each_closed (more p ps) n names S r h = appended S _ _ (closed statement n p names S r tt h.0) (each_closed ps _ names S r h.1)

    last_closed : (x : Identifier) (ps : Phrases) (n : ℕ) (names : List ℕ) (S : List Identifier) → Knows names S → Contains S x → BoundLast names true ps → ClosedAll S (valued_last words x ps n).code
    last_closed x nothing n names S r i h = tt
    last_closed x (more e nothing) n names S r i h = closed (value x) n e names S r i h
    last_closed x (more p (more e ps)) n names S r i h = appended S _ _ (closed statement n p names S r tt h.0) (last_closed x (more e ps) _ names S r i h.1)

    -- ---- records and lists

    filled_closed : (m : ℕ) (es : Phrases) (n : ℕ) (names : List ℕ) (S : List Identifier) → Knows names S → AllByRecursion (Contains S) (names_of m es) → BoundEach names true es → ClosedAll S (filled words m es n).code
    filled_closed m nothing n names S r i h = tt
    filled_closed m (more e es) n names S r i h =
        appended S _ _ (part_closed S (variable_of e) (name_or m (variable_of e)) (valued e) n i.0 (makes_of r (λ T w q y j l. closed (value y) l e names T q j h.0)))
        (filled_closed (next_after m (variable_of e)) es _ names S r i.1 h.1)

    list_closed : (x : Identifier) (es : Phrases) (n : ℕ) (names : List ℕ) (S : List Identifier) → Knows names S → Contains S x → BoundEach names true es → ClosedAll S (list_made words x es n).code
    list_closed x nothing n names S r i h = (i, tt)
    list_closed x (more e es) n names S r i h =
        cell_closed S n x (variable_of e) None (valued e) (λ z j. list_made words z es j) i (named names S true e r h.0) tt
        (makes_of r (λ T w q y j m. closed (value y) m e names T q j h.0))
        (makes_of r (λ T w q z j m. list_closed z es m names T q j h.1))

    chain_closed : (x : Identifier) (es : Phrases) (n : ℕ) (names : List ℕ) (S : List Identifier) → Knows names S → Contains S x → BoundEach names true es → ClosedAll S (chain_made words x es n).code
    chain_closed x nothing n names S r i h = tt
    chain_closed x (more e nothing) n names S r i h = closed (value x) n e names S r i h.0
    chain_closed x (more e (more f es)) n names S r i h =
        cell_closed S n x (variable_of e) (last_variable (more f es)) (valued e) (λ z j. chain_made words z (more f es) j) i (named names S true e r h.0) (last_named names S true (more f es) r h.1)
        (makes_of r (λ T w q y j m. closed (value y) m e names T q j h.0))
        (makes_of r (λ T w q z j m. chain_closed z (more f es) m names T q j h.1))

    -- ---- relations

    references_closed : (m : ℕ) (p : Phrase) (n : ℕ) (names : List ℕ) (S : List Identifier) → Knows names S → IsSide p → Bound names true p → Spans S m (behind_side m p) → ClosedAll S (references words m p n).code
    references_closed m (binary operator.Plus a b) n names S r s h v =
        appended S _ _ (references_closed m a n names S r s.0 h.0 (spans_first S m a b s.1 v)) (references_closed (behind_side m a) b _ names S r s.1 h.1 (spans_second S m a b s.0 v))
    references_closed m (binary operator.Minus a b) n names S r s h v =
        appended S _ _ (references_closed m a n names S r s.0 h.0 (spans_first S m a b s.1 v)) (references_closed (behind_side m a) b _ names S r s.1 h.1 (spans_second S m a b s.0 v))
    references_closed m (binary operator.Times a b) n names S r s h v =
        let x = first_factor a b s in
        let y = second_factor a b s in
        let l = behind_factor m a in
        let c = factor_behind m a x in
        let d = factor_behind l b y in
        let f = factor_more m a in
        let g = factor_more l b in
        let o = product_more m a b s in
        let e = behind_side m (binary operator.Times a b) in
        appended S _ _
        (references_closed m a n names S r (factor_side a x) h.0 (spans_part S m e m (behind_side m a) (omega arith) (omega arith) v))
        (references_closed l b _ names S r (factor_side b y) h.1 (spans_part S m e l (behind_side l b) (omega arith) (omega arith) v))
    references_closed m (select e f) n names S r s h v =
        selected_closed (Fresh m) e f n names S r (v.bound m (omega arith) (omega arith)) h.0 h.1
        (makes_of r (λ T w q y j l. closed (value y) l e names T q j h.0))
        (makes_of r (λ T w q y j l. closed (value y) l f names T q j h.1))
    references_closed m p n names S r s h v = tt

    -- ---- choices, arms and clauses

    alternatives_closed : (goal : Goal) (bs : Phrases) (n : ℕ) (names : List ℕ) (S : List Identifier) → Knows names S → GoalIn S goal → BoundEach names (is_value goal) bs → ClosedEach S (alternatives words goal n bs).bodies
    alternatives_closed goal nothing n names S r i h = tt
    alternatives_closed goal (more b bs) n names S r i h = (closed goal n b names S r i h.0, alternatives_closed goal bs _ names S r i h.1)

    arms_closed : (goal : Goal) (xs : Phrases) (last : ℕ → Made) (n : ℕ) (names : List ℕ) (S : List Identifier) → Knows names S → GoalIn S goal → BoundEach names (is_value goal) xs → Codes S last → ClosedAll S (arms_made words goal xs last n).code
    arms_closed goal nothing last n names S r i h c = c.code S (within_self S) n
    arms_closed goal (more (arm e b) xs) last n names S r i h c =
        with_part_closed S n (variable_of e) (valued e)
        (λ y j. let a = translated words goal j b in let rest = arms_made words goal xs last a.next in made (just (k.test y a.code rest.code)) rest.next)
        (named names S true e r h.0.0)
        (makes_of r (λ T w q y j m. closed (value y) m e names T q j h.0.0))
        (makes_of r (λ T w q y j m. ((j, closed goal m b names T q (goal_within goal w i) h.0.1, arms_closed goal xs last _ names T q (goal_within goal w i) h.1 (codes_within w c)), tt)))
    arms_closed goal (more p xs) last n names S r i h c = arms_closed goal xs last n names S r i h.1 c

    clauses_closed : (goal : Goal) (x : Identifier) (cs : Phrases) (last : ℕ → Made) (n : ℕ) (names : List ℕ) (S : List Identifier) → Knows names S → GoalIn S goal → Contains S x → BoundEach names (is_value goal) cs → Codes S last
        → ClosedAll S (clauses_made words goal x cs last n).code
    clauses_closed goal x nothing last n names S r i j h c = c.code S (within_self S) n
    clauses_closed goal x (more (clause p b) cs) last n names S r i j h c =
        let xs = pattern_names (patterned words p) in
        let inner = with_names (variables_in p) names in (
          (
            j,
            closed goal n b inner (xs ++ S) (known_more (variables_in p) names xs S (λ w e. variable_in words 0 p w h.0.0 e) r) (goal_within goal (within_more xs S) i) h.0.1,
            clauses_closed goal x cs last _ names S r i j h.1 c,
          ),
          tt,
        )
    clauses_closed goal x (more p cs) last n names S r i j h c = clauses_closed goal x cs last n names S r i j h.1 c

    handled_closed : (cs : Phrases) (n : ℕ) (y : Identifier) (names : List ℕ) (S : List Identifier) → Knows names S → caught_in cs ≡ Some y → BoundEach names false cs → ClosedAll (y ∷ S) (handled words cs n).code
    handled_closed (more (clause p b) nothing) n y names S r e h = closed statement n b (with_names (variables_in p) names) (y ∷ S) (known_caught names S p y r e) tt h.0.1
    handled_closed cs n y names S r e h = absurd (cc)
