-- Relations: their products become variables of the search, and all is posted.
use Rattle.std.proofs.Common.{◌≡◌, ◌≢◌, ◌⊎◌, ◌↔◌, inl, inr, ℕ, ℤ, zero, suc, ◌+◌, ◌-◌, ◌<◌, ◌≤◌, nat_lt, true, false, if◌then◌else◌, List, [], ◌∷◌, ◌++◌, length, map, Contains, AllPairs, slice_index_or, refl, sym, ◌∙◌, ap, subst, arith}
use Rattle.std.proofs.lemmas.Bool.Decides.{nat_tests}
use Rattle.std.proofs.lemmas.List.{append-nil, append_assoc, length-append, length-map, map-append, get_or_append_left}
use Rattle.std.proofs.lemmas.List.FromFn.{length-range_with_len}
use Rattle.std.proofs.lemmas.List.Elements.{Contains-append_cases}
use Rattle.std.specs.List.{range_with_len}
use Rattle.environments.specs.Environments.{Environment, binding_all, nowhere}
use Rattle.oz_base.specs.declared.names.Ident.{Ident}
use Rattle.oz_language.specs.declared.kernel.Identifier.{Identifier}
use Rattle.oz_language.specs.declared.kernel.Identifier.TheVariants.{Fresh}
use Rattle.oz_language.specs.declared.kernel.Sign.{Sign}
use Rattle.oz_language.specs.declared.kernel.Kernel.{Kernel}
use Rattle.oz_language.specs.Kernels.{Stmts, none, followed, just, ◌⨾◌}
use Rattle.oz_language.specs.Kernels as kernel
use Rattle.oz_language.specs.Translation.{fresh_names, scoped}
use Rattle.oz_semantics.specs.Store.{is_consistent}
use Rattle.oz_semantics.specs.Spaces.{goes_on}
use Rattle.oz_semantics.specs.declared.configuration.Frame.{Frame}
use Rattle.oz_semantics.specs.declared.configuration.Configuration.{Configuration}
use Rattle.fd_problems.specs.declared.problem.Term.{Term}
use Rattle.fd_problems.specs.declared.problem.Item.TheVariants.{Compares}
use Rattle.fd_stores.specs.Stores.{Store, Constraint, Runs, Fails}
use Rattle.fd_stores.specs.Stores as stores
use Rattle.fd_stores.proofs.Lists.{contains_none, contains_cases, contains_head, contains_tail, pairs_append}
use Rattle.fd_stores.proofs.RunLaws.{runs_law}
use Rattle.fd_trees.specs.Scripts.{product_count, AreTerms, item_constraints}
use Rattle.fd_views.specs.Views.{variable_at}
use Rattle.fd_form_law.specs.Shapes.{Differ}
use Rattle.fd_form_law.specs.Posts.{identifier, posted_terms, posted_products}
use Rattle.fd_form_law.specs.Numbered.{all_constraints}
use Rattle.fd_form_law.proofs.NumberLaws.{forwards_numbered, backwards_numbered}
use Rattle.fd_turns.specs.Nodes.{Top, node_space, own, failed_config}
use Rattle.fd_steps.specs.States.{State, with_room, with_variable, IsGood, IsLater}
use Rattle.fd_steps.proofs.MoreLaws.{joined_good}
use Rattle.fd_steps.proofs.DueTurns.{MovesTo, Nothing, later_itself, runs_then}
use Rattle.fd_execution.specs.Further.{IsFurther}
use Rattle.fd_execution.proofs.ScopeLaws.{AreAt, block}
use Rattle.fd_execution.proofs.UntoldLaws.{IsUntold, untold_new}
use Rattle.fd_execution.proofs.StatementLaws as single
use Rattle.fd_execution.proofs.PartLaws as parts
use Rattle.fd_execution.proofs.PostedLaws.{Reads, AreRead, ArePosts, IsPostedOn, posts_joined}
use Rattle.fd_execution.proofs.PostedLaws as posted
use Rattle.fd_execution.proofs.IndexLaws.{many_names, opened, opened_at, opened_word, place_is, index_of, terms_read, products_post, both_read, range_inside, range_apart, range_at}

-- ---- further variables

pairs_tail : (j : ℕ) (js : List ℕ) → AllPairs (λ x y. x ≢ y) (j ∷ js) → AllPairs (λ x y. x ≢ y) js
pairs_tail j js p a b d l m = p (suc a) (suc b) d (omega (arith, l)) (omega (arith, m))

pairs_first : (j : ℕ) (js : List ℕ) (i : ℕ) → AllPairs (λ x y. x ≢ y) (j ∷ js) → Contains js i → j ≢ i
pairs_first j js i p c e = p 0 (suc c.0) i (omega arith) (let l = c.1 in omega (arith, l)) (e ∙ sym c.2)

-- these variables become further variables of the search
pub join_all : (t : Top) (cs : List Constraint) (js : List ℕ) (st : State) → IsGood t cs st → ((j : ℕ) → Contains js j → IsUntold t st j) → AllPairs (λ x y. x ≢ y) js → length st.variables + length js ≤ length st.store
    → IsGood t cs (record st { variables = st.variables ++ map own js })
join_all t cs [] st h u p l = subst (λ xs. IsGood t cs (record st { variables = xs })) (sym (append-nil st.variables)) h
join_all t cs (j ∷ js) st h u p l =
    let first = u j (contains_head j js) in
    let next = with_variable j st in
    let good = joined_good t cs st h j first.free first.other first.inside (omega (arith, l)) in
    let untold : (i : ℕ) → Contains js i → IsUntold t next i = λ i c. (let w = u i (contains_tail j i js c) in record {
      inside = w.inside;
      free = w.free;
      other = λ d. elim (Contains-append_cases st.variables (own j ∷ []) (own i) d) [
        | inl k ↦ w.other k
        | inr k ↦ elim (contains_cases (own j) (own i) [] k) [ inl e ↦ pairs_first j js i p c (ap (λ (x : Ident). x.number) e) | inr n ↦ contains_none (own i) n ]
      ];
    }) in
    let long = length-append st.variables (own j ∷ []) in
    subst (λ xs. IsGood t cs (record st { variables = xs })) (append_assoc st.variables (own j ∷ []) (map own js)) (join_all t cs js next good untold (pairs_tail j js p) (omega (arith, l, long)))

module _ (k : Kernel) (t : Top) (cs : List Constraint) (top_fits : is_consistent t.tells ≡ true) (R : Configuration → Store → Type 0)
    (back : (c d : Configuration) (s m : Store) → goes_on k.statements c.layers node_space ≡ true → MovesTo k c d → Runs cs s m → R d m → R c s)
    (failing : (c : Configuration) (n : ℕ) (s : Store) → goes_on k.statements c.layers node_space ≡ true → MovesTo k c (failed_config t n) → Fails cs s → R c s) where
  abbrev Ready : State → List Frame → Type 0
  Ready st frames = single.Ready k t cs top_fits R back failing st frames

  -- a state further on, with so many variables more and these constraints
  abbrev pub GoesFurther : ℕ → List Constraint → State → List Frame → Type 0
  GoesFurther n ks st frames = (later : State) → IsGood t cs later → IsFurther t cs n ks st later → Ready later frames

  -- a scope of many fresh identifiers, which may be none
  pub scoped_ready : (st : State) (h : IsGood t cs st) (e : Environment) (rest : List Frame) (b n c : ℕ) (body : Stmts) → AreAt k.statements b (scoped (fresh_names n c) body)
      → ((made : State) → IsGood t cs made → IsLater t cs Nothing st made → IsLater t cs Nothing (with_room c st) made → AreAt k.statements b body → Ready made (block (opened n c st.next e) b body rest))
      → Ready st (block e b (scoped (fresh_names n c) body) rest)
  scoped_ready st h e rest b n zero body a g = g st h (later_itself t cs Nothing st) (record { keeps = λ u d. d; runs = none'; next = omega arith; variables = refl; posted = refl; free = λ i l m f. f }) a where
    none' : Runs cs st.store st.store
    none' = stores.none
  scoped_ready st h e rest b n (suc c) body a g =
      let names = fresh_names n (suc c) in
      let same : length names ≡ suc c = many_names n (suc c) in
      single.local_ready k t cs top_fits R back failing st h e rest b names body a
      (λ made good later room.
      subst (λ m. Ready made (block (binding_all names (map own (range_with_len st.next m)) e) b body rest)) (sym same)
      (g made good later (subst (λ m. IsLater t cs Nothing (with_room m st) made) same room) (single.body_at k t cs top_fits R back failing st h e rest b names body a)))

  -- ---- a relation, by which of its products is which variable

  module _ (st : State) (h : IsGood t cs st) (e : Environment) (rest : List Frame) (vs : List ℕ) (differ : Differ vs) (knows : parts.KnowsVariables k t cs top_fits R back failing vs st.variables e)
      (n lc rc q : ℕ) (long : length st.variables ≡ q) (fits : q + (lc + rc) ≤ length st.store) where
    abbrev c : ℕ
    c = lc + rc

    abbrev inner : Environment
    inner = opened n c st.next e

    module _ (js : List ℕ) (fresh : ℕ → ℕ) (many : length js ≡ c) (ranged : (j : ℕ) → Contains js j → (st.next ≤ j) × (j < st.next + c)) (once : AllPairs (λ x y. x ≢ y) js)
        (places : (j : ℕ) → j < c → variable_at (st.variables ++ map own js) (fresh (n + j)) ≡ own (st.next + j)) (below : (j : ℕ) → j < c → fresh (n + j) < q + c) where
      abbrev xs : List Ident
      xs = st.variables ++ map own js

      abbrev index : Identifier → ℕ
      index = index_of vs fresh

      xs_long : length xs ≡ q + c
      xs_long = (let a = length-append st.variables (map own js) in let b = length-map js own in omega (arith, a, b, long, many))

      word_read : (x : ℕ) → x < length vs → Reads inner index xs (identifier vs x)
      word_read x l =
          let p = place_is vs x differ l in
          let w = knows.enough in
          record {
            bound_is = opened_word n c st.next (slice_index_or vs x 0) e ∙ knows.each x l ∙ sym (get_or_append_left st.variables (map own js) nowhere x (omega (arith, l, w))) ∙ ap (variable_at xs) (sym p);
            inside = (let a = xs_long in omega (arith, p, a, l, w, long));
          }

      fresh_read : (j : ℕ) → j < c → Reads inner index xs (Fresh (n + j))
      fresh_read j l = record { bound_is = opened_at n c st.next j e l ∙ sym (places j l); inside = (let a = xs_long in let b = below j l in omega (arith, a, b)) }

      right_read : (j : ℕ) → j < rc → Reads inner index xs (Fresh (n + lc + j))
      right_read j l = (let g : n + (lc + j) ≡ n + lc + j = omega arith in subst (λ m. Reads inner index xs (Fresh m)) g (fresh_read (lc + j) (omega (arith, l))))

      pub related_ready : (left right : List Term) (last : Stmts) (b : ℕ) (ks : List Constraint) → product_count left ≡ lc → product_count right ≡ rc → AreTerms (length vs) left → AreTerms (length vs) right → ArePosts inner index xs last
          → ((x : Constraint) → Contains (all_constraints index ((posted_products vs n left ⨾ posted_products vs (n + lc) right) ⨾ last)) x → Contains cs x)
          → ((x : Constraint) → Contains ks x → Contains (all_constraints index ((posted_products vs n left ⨾ posted_products vs (n + lc) right) ⨾ last)) x)
          → AreAt k.statements b (scoped (fresh_names n c) ((posted_products vs n left ⨾ posted_products vs (n + lc) right) ⨾ last)) → GoesFurther c ks st rest
          → Ready st (block e b (scoped (fresh_names n c) ((posted_products vs n left ⨾ posted_products vs (n + lc) right) ⨾ last)) rest)
      related_ready left right last b ks ln rn lt rt posts among all a g =
          let code = (posted_products vs n left ⨾ posted_products vs (n + lc) right) ⨾ last in
          let first = products_post vs inner index xs word_read n left lt (λ j l. fresh_read j (omega (arith, l, ln))) in
          let second = products_post vs inner index xs word_read (n + lc) right rt (λ j l. right_read j (omega (arith, l, rn))) in
          let read = posts_joined inner index xs (posted_products vs n left ⨾ posted_products vs (n + lc) right) last (posts_joined inner index xs (posted_products vs n left) (posted_products vs (n + lc) right) first second) posts in
          scoped_ready st h e rest b n c code a (λ made good later room at.
          let same : made.variables ++ map own js ≡ xs = ap (λ ys. ys ++ map own js) later.variables in
          let stored = (runs_law cs st.store made.store h.over later.runs).1 in
          let joined = record made { variables = made.variables ++ map own js } in
          let untold : (j : ℕ) → Contains js j → IsUntold t made j = λ j d. (
          let r = ranged j d in
          let back' : st.next + (j - st.next) ≡ j = omega (arith, r.0) in
          subst (IsUntold t made) back' (untold_new t cs st made c (j - st.next) h room (omega (arith, r.0, r.1)))) in
          let joined_is = join_all t cs js made good untold once (let s = stored.long in let v = ap length later.variables in omega (arith, s, v, many, long, fits)) in
          posted.all_ready k t cs top_fits R back failing index inner b code rest at joined joined_is (subst (λ ys. ArePosts inner index ys code) (sym same) read) among
          (λ final ok l. g final ok (record {
            keeps = λ u d. l.keeps u (later.keeps u d);
            runs = runs_then cs later.runs l.runs;
            more = map own js;
            variables = l.variables ∙ same;
            count = length-map js own ∙ many;
            posted = λ x d. l.posted x (elim d [ inl y ↦ inl (subst (λ z. Contains z x) (sym later.posted) y) | inr y ↦ inr (all x y) ]);
          })))

    -- ---- the sides in their order

    abbrev in_order : ℕ → ℕ
    in_order m = q + (m - n)

    ordered_place : (j : ℕ) → j < c → variable_at (st.variables ++ map own (range_with_len st.next c)) (in_order (n + j)) ≡ own (st.next + j)
    ordered_place j l =
        let a : n + j - n ≡ j = omega arith in
        ap (λ m. variable_at (st.variables ++ map own (range_with_len st.next c)) (q + m)) a
        ∙ ap (λ ys. variable_at (st.variables ++ ys) (q + j)) (sym (append-nil (map own (range_with_len st.next c)))) ∙ range_at st.variables st.next c j q [] long l

    -- the terms as they are posted, over the variables of the search
    module _ (left right : List Term) (ln : product_count left ≡ lc) (rn : product_count right ≡ rc) (lt : AreTerms (length vs) left) (rt : AreTerms (length vs) right) (z : Sign) (a : ℤ) (b : ℕ) where
      abbrev forward_last : Stmts
      forward_last = just (kernel.post z a (posted_terms vs n left ++ posted_terms vs (n + lc) right))

      abbrev forward_code : Stmts
      forward_code = (posted_products vs n left ⨾ posted_products vs (n + lc) right) ⨾ forward_last

      forwards_are : all_constraints (index_of vs in_order) forward_code ≡ item_constraints q (Compares z a (left ++ right))
      forwards_are =
          (λ i. all_constraints (index_of vs in_order) ((posted_products vs n left ⨾ posted_products vs (n + sym ln i) right) ⨾ just (kernel.post z a (posted_terms vs n left ++ posted_terms vs (n + sym ln i) right))))
          ∙ forwards_numbered vs (index_of vs in_order) n q z a left right (λ x l. place_is vs x differ l) lt rt (λ j l. (let f : n + j - n ≡ j = omega arith in ap (λ m. q + m) f))
          (λ j l. (let f : n + product_count left + j - n ≡ product_count left + j = omega arith in let f' : q + (product_count left + j) ≡ q + product_count left + j = omega arith in ap (λ m. q + m) f ∙ f'))

      pub forwards_ready : ((x : Constraint) → Contains (item_constraints q (Compares z a (left ++ right))) x → Contains cs x) → AreAt k.statements b (scoped (fresh_names n c) forward_code)
          → GoesFurther c (item_constraints q (Compares z a (left ++ right))) st rest → Ready st (block e b (scoped (fresh_names n c) forward_code) rest)
      forwards_ready among at g =
          let js = range_with_len st.next c in
          let many = length-range_with_len st.next c in
          let below : (j : ℕ) → j < c → in_order (n + j) < q + c = λ j l. omega (arith, l) in
          let ranged = range_inside st.next c in
          let once = range_apart st.next c in
          let ys = xs js in_order many ranged once ordered_place below in
          let words = word_read js in_order many ranged once ordered_place below in
          let fresh = fresh_read js in_order many ranged once ordered_place below in
          let right' = right_read js in_order many ranged once ordered_place below in
          let posts = both_read vs inner (index_of vs in_order) ys words (posted_terms vs n left) (posted_terms vs (n + lc) right)
          (terms_read vs inner (index_of vs in_order) ys words n left lt (λ j l. fresh j (omega (arith, l, ln))))
          (terms_read vs inner (index_of vs in_order) ys words (n + lc) right rt (λ j l. right' j (omega (arith, l, rn)))) in
          related_ready js in_order many ranged once ordered_place below left right forward_last b (item_constraints q (Compares z a (left ++ right))) ln rn lt rt (posts, tt)
          (λ x d. among x (subst (λ ws. Contains ws x) forwards_are d)) (λ x d. subst (λ ws. Contains ws x) (sym forwards_are) d) at g

    -- ---- the sides exchanged

    abbrev exchanged : ℕ → ℕ
    exchanged m = if nat_lt (m - n) lc then q + rc + (m - n) else q + (m - n - lc)

    abbrev swapped : List ℕ
    swapped = range_with_len (st.next + lc) rc ++ range_with_len st.next lc

    is_less : (i j : ℕ) → i < j → nat_lt i j ≡ true
    is_less i j l = grind (arith, nat_tests)

    not_less : (i j : ℕ) → j ≤ i → nat_lt i j ≡ false
    not_less i j l = grind (arith, nat_tests)

    exchanged_left : (j : ℕ) → j < lc → exchanged (n + j) ≡ q + rc + j
    exchanged_left j l = (let a : n + j - n ≡ j = omega arith in ap (λ m. if nat_lt m lc then q + rc + m else q + (m - lc)) a ∙ ap (λ w. if w then q + rc + j else q + (j - lc)) (is_less j lc l))

    exchanged_right : (j : ℕ) → exchanged (n + (lc + j)) ≡ q + j
    exchanged_right j =
        let a : n + (lc + j) - n ≡ lc + j = omega arith in
        let b : lc + j - lc ≡ j = omega arith in
        ap (λ m. if nat_lt m lc then q + rc + m else q + (m - lc)) a ∙ ap (λ w. if w then q + rc + (lc + j) else q + (lc + j - lc)) (not_less (lc + j) lc (omega arith)) ∙ ap (λ m. q + m) b

    swapped_vars : st.variables ++ map own swapped ≡ (st.variables ++ map own (range_with_len (st.next + lc) rc)) ++ map own (range_with_len st.next lc)
    swapped_vars = ap (λ ys. st.variables ++ ys) (map-append own (range_with_len (st.next + lc) rc) (range_with_len st.next lc)) ∙ sym (append_assoc st.variables (map own (range_with_len (st.next + lc) rc)) (map own (range_with_len st.next lc)))

    left_place : (j : ℕ) → j < lc → variable_at (st.variables ++ map own swapped) (q + rc + j) ≡ own (st.next + j)
    left_place j l =
        let first = st.variables ++ map own (range_with_len (st.next + lc) rc) in
        let m : length first ≡ q + rc = (let x = length-append st.variables (map own (range_with_len (st.next + lc) rc)) in let y = length-map (range_with_len (st.next + lc) rc) own in let w = length-range_with_len (st.next + lc) rc in omega (arith, x, y, w, long)) in
        ap (λ ys. variable_at ys (q + rc + j)) (swapped_vars ∙ ap (λ ys. first ++ ys) (sym (append-nil (map own (range_with_len st.next lc))))) ∙ range_at first st.next lc j (q + rc) [] m l

    right_place : (j : ℕ) → j < rc → variable_at (st.variables ++ map own swapped) (q + j) ≡ own (st.next + (lc + j))
    right_place j l =
        let w : st.next + lc + j ≡ st.next + (lc + j) = omega arith in
        ap (λ ys. variable_at (st.variables ++ ys) (q + j)) (map-append own (range_with_len (st.next + lc) rc) (range_with_len st.next lc))
        ∙ range_at st.variables (st.next + lc) rc j q (map own (range_with_len st.next lc)) long l ∙ ap own w

    swapped_place : (j : ℕ) → j < c → variable_at (st.variables ++ map own swapped) (exchanged (n + j)) ≡ own (st.next + j)
    swapped_place j l = elim (less_or_not j lc) [
      | inl m ↦ ap (variable_at (st.variables ++ map own swapped)) (exchanged_left j m) ∙ left_place j m
      | inr m ↦ (let w : lc + (j - lc) ≡ j = omega (arith, m) in
          subst (λ i. variable_at (st.variables ++ map own swapped) (exchanged (n + i)) ≡ own (st.next + i)) w (ap (variable_at (st.variables ++ map own swapped)) (exchanged_right (j - lc)) ∙ right_place (j - lc) (omega (arith, l, m))))
    ] where
      less_or_not : (i j : ℕ) → (i < j) ⊎ (j ≤ i)
      less_or_not i j = grind arith

    swapped_below : (j : ℕ) → j < c → exchanged (n + j) < q + c
    swapped_below j l = elim (less_or_not j lc) [
      | inl m ↦ (let e' = exchanged_left j m in omega (arith, e', m))
      | inr m ↦ (let w : lc + (j - lc) ≡ j = omega (arith, m) in subst (λ i. exchanged (n + i) < q + c) w (let e' = exchanged_right (j - lc) in omega (arith, e', l, m)))
    ] where
      less_or_not : (i j : ℕ) → (i < j) ⊎ (j ≤ i)
      less_or_not i j = grind arith

    swapped_ranged : (j : ℕ) → Contains swapped j → (st.next ≤ j) × (j < st.next + c)
    swapped_ranged j d = elim (Contains-append_cases (range_with_len (st.next + lc) rc) (range_with_len st.next lc) j d) [
      | inl x ↦ (let r = range_inside (st.next + lc) rc j x in (omega (arith, r.0), omega (arith, r.1)))
      | inr x ↦ (let r = range_inside st.next lc j x in (r.0, omega (arith, r.1)))
    ]

    swapped_once : AllPairs (λ x y. x ≢ y) swapped
    swapped_once = pairs_append (λ x y. x ≢ y) (range_with_len (st.next + lc) rc) (range_with_len st.next lc) (range_apart (st.next + lc) rc) (range_apart st.next lc)
        (λ x y d f g. (let r = range_inside (st.next + lc) rc x d in let w = range_inside st.next lc y f in omega (arith, r.0, w.1, g)))

    swapped_many : length swapped ≡ c
    swapped_many = (let x = length-append (range_with_len (st.next + lc) rc) (range_with_len st.next lc) in let y = length-range_with_len (st.next + lc) rc in let w = length-range_with_len st.next lc in omega (arith, x, y, w))

    module _ (left right : List Term) (ln : product_count left ≡ lc) (rn : product_count right ≡ rc) (lt : AreTerms (length vs) left) (rt : AreTerms (length vs) right) (z : Sign) (a : ℤ) (b : ℕ) where
      abbrev backward_last : Stmts
      backward_last = just (kernel.post z a (posted_terms vs (n + lc) right ++ posted_terms vs n left))

      abbrev backward_code : Stmts
      backward_code = (posted_products vs n left ⨾ posted_products vs (n + lc) right) ⨾ backward_last

      backwards_are : (x : Constraint) → Contains (all_constraints (index_of vs exchanged) backward_code) x ↔ Contains (item_constraints q (Compares z a (right ++ left))) x
      backwards_are x =
          subst (λ m. Contains (all_constraints (index_of vs exchanged) ((posted_products vs n left ⨾ posted_products vs (n + m) right) ⨾ just (kernel.post z a (posted_terms vs (n + m) right ++ posted_terms vs n left)))) x
          ↔ Contains (item_constraints q (Compares z a (right ++ left))) x) ln
          (backwards_numbered vs (index_of vs exchanged) n q z a left right (λ y l. place_is vs y differ l) lt rt
          (λ j l. (let f : q + rc + j ≡ q + product_count right + j = omega (arith, rn) in exchanged_left j (omega (arith, l, ln)) ∙ f))
          (λ j l. (let f : n + product_count left + j ≡ n + (lc + j) = omega (arith, ln) in ap exchanged f ∙ exchanged_right j)) x)

      pub backwards_ready : ((x : Constraint) → Contains (item_constraints q (Compares z a (right ++ left))) x → Contains cs x) → AreAt k.statements b (scoped (fresh_names n c) backward_code)
          → GoesFurther c (item_constraints q (Compares z a (right ++ left))) st rest → Ready st (block e b (scoped (fresh_names n c) backward_code) rest)
      backwards_ready among at g =
          let ys = xs swapped exchanged swapped_many swapped_ranged swapped_once swapped_place swapped_below in
          let words = word_read swapped exchanged swapped_many swapped_ranged swapped_once swapped_place swapped_below in
          let fresh = fresh_read swapped exchanged swapped_many swapped_ranged swapped_once swapped_place swapped_below in
          let right' = right_read swapped exchanged swapped_many swapped_ranged swapped_once swapped_place swapped_below in
          let posts = both_read vs inner (index_of vs exchanged) ys words (posted_terms vs (n + lc) right) (posted_terms vs n left)
          (terms_read vs inner (index_of vs exchanged) ys words (n + lc) right rt (λ j l. right' j (omega (arith, l, rn))))
          (terms_read vs inner (index_of vs exchanged) ys words n left lt (λ j l. fresh j (omega (arith, l, ln)))) in
          related_ready swapped exchanged swapped_many swapped_ranged swapped_once swapped_place swapped_below left right backward_last b (item_constraints q (Compares z a (right ++ left))) ln rn lt rt (posts, tt)
          (λ x d. among x ((backwards_are x).0 d)) (λ x d. (backwards_are x).1 d) at g
