-- The last statement of a script, and all its statements.
use Rattle.std.proofs.Common.{◌≡◌, ◌≢◌, ◌⊎◌, inl, inr, ℕ, ◌+◌, ◌≤◌, true, None, List, [], ◌∷◌, ◌++◌, length, Contains, refl, sym, ◌∙◌, ap, subst, arith}
use Rattle.std.proofs.lemmas.List.{append-nil, append_assoc, length-append}
use Rattle.std.proofs.lemmas.List.Elements.{Contains-append_cases, Contains-append_left, Contains-append_right}
use Rattle.environments.specs.Environments.{Environment, bound}
use Rattle.oz_base.specs.declared.names.Ident.{Ident}
use Rattle.oz_base.specs.declared.distribution.Rule.{Rule}
use Rattle.oz_language.specs.declared.token.Literal.TheVariants.{Atom}
use Rattle.oz_language.specs.declared.kernel.Identifier.{Identifier}
use Rattle.oz_language.specs.declared.kernel.Identifier.TheVariants.{Word, Fresh}
use Rattle.oz_language.specs.declared.kernel.Constant.TheVariants as constant
use Rattle.oz_language.specs.declared.kernel.Kernel.{Kernel}
use Rattle.oz_language.specs.Kernels.{Stmt, Stmts, none, followed, just, ◌⨾◌, count}
use Rattle.oz_language.specs.Kernels as kernel
use Rattle.oz_semantics.specs.Names.{named}
use Rattle.oz_semantics.specs.Values.{atom}
use Rattle.oz_semantics.specs.Store.{View, value_of, is_consistent}
use Rattle.oz_semantics.specs.Inputs.{Known, both, and_further}
use Rattle.oz_semantics.specs.Vectors.{vector}
use Rattle.oz_semantics.specs.Distributors.{distribution_of}
use Rattle.oz_semantics.specs.Answers.{Acts, GivesVariable, given}
use Rattle.oz_semantics.specs.Builtins.{of_input, distributes, selects}
use Rattle.oz_semantics.specs.Statements.{value_called}
use Rattle.oz_semantics.specs.Exceptions.{unwound}
use Rattle.oz_semantics.specs.Runs.{fd_record, fd_number}
use Rattle.oz_semantics.specs.Spaces.{goes_on}
use Rattle.oz_semantics.specs.declared.value.Value.{Value}
use Rattle.oz_semantics.specs.declared.value.Value.TheVariants as value
use Rattle.oz_semantics.specs.declared.value.Builtin.TheVariants as builtin
use Rattle.oz_semantics.specs.declared.value.Tell.TheVariants.{Is}
use Rattle.oz_semantics.specs.declared.configuration.Frame.{Frame}
use Rattle.oz_semantics.specs.declared.configuration.Configuration.{Configuration}
use Rattle.view_laws.specs.Readies.{Keeps, seeing}
use Rattle.fd_problems.specs.declared.problem.Item.{Item}
use Rattle.fd_problems.specs.declared.problem.Distribution.{Distribution}
use Rattle.fd_stores.specs.Stores.{Store, Constraint, Runs, Fails}
use Rattle.fd_stores.proofs.RunLaws.{runs_law}
use Rattle.fd_stores.proofs.Lists.{contains_none}
use Rattle.fd_trees.specs.Scripts.{constraints_from, products_in, product_count, item_terms, item_constraints, IsItem}
use Rattle.fd_views.specs.Views.{variables_at, IsPlain, HasValue, rule_word}
use Rattle.fd_views.proofs.ValueLaws.{value_is}
use Rattle.fd_views.proofs.InputLaws.{list_vector, rule_known}
use Rattle.fd_form.specs.Parts.{fd_word, distinct_word, distribute_word, places}
use Rattle.fd_form_law.specs.Posts.{identifier}
use Rattle.fd_codes.specs.Codes.{ListCode, FdCode, DistributionCode, ScriptCode}
use Rattle.fd_codes.specs.Codes as shapes
use Rattle.fd_turns.specs.Nodes.{Top, node_space, own, failed_config}
use Rattle.fd_steps.specs.States.{State, view_of, IsGood, IsLater}
use Rattle.fd_steps.specs.Distributing as distributing
use Rattle.fd_steps.proofs.DueTurns.{MovesTo, Nothing, runs_then}
use Rattle.fd_execution.specs.Further.{IsFurther}
use Rattle.fd_execution.proofs.ScopeLaws.{AreAt, block, parts_at, block_joined, block_unmarked}
use Rattle.fd_execution.proofs.UntoldLaws.{IsUntold, untold_new, untold_later, value_stays, list_stays, first_bound, second_bound, two_other, first_of_three, second_of_three, third_bound, three_other, fresh_word, later_on}
use Rattle.fd_execution.proofs.StatementLaws as single
use Rattle.fd_execution.proofs.PartLaws as parts
use Rattle.fd_execution.proofs.ItemLaws.{IsScope, IsAt, range_below}
use Rattle.fd_execution.proofs.ItemLaws as item

module _ (k : Kernel) (t : Top) (cs : List Constraint) (top_fits : is_consistent t.tells ≡ true) (R : Configuration → Store → Type 0)
    (back : (c d : Configuration) (s m : Store) → goes_on k.statements c.layers node_space ≡ true → MovesTo k c d → Runs cs s m → R d m → R c s)
    (failing : (c : Configuration) (n : ℕ) (s : Store) → goes_on k.statements c.layers node_space ≡ true → MovesTo k c (failed_config t n) → Fails cs s → R c s) where
  abbrev Ready : State → List Frame → Type 0
  Ready st frames = single.Ready k t cs top_fits R back failing st frames

  abbrev At : ℕ → Stmts → Type 0
  At b code = AreAt k.statements b code

  abbrev Distributes : Distribution → State → Frame → List Frame → Type 0
  Distributes d st f rest = distributing.Distributes k.statements t cs d st f rest

  -- the call, by what its arguments are
  call_distributes : (d : Distribution) (st : State) (env : Environment) (b n m p r : ℕ) (y : Identifier) (v : Ident) (rest : List Frame) → At b (just (kernel.call (Fresh n) (Fresh m ∷ y ∷ []))) → bound env (Fresh n) ≡ own p → bound env (Fresh m) ≡ own r → bound env y ≡ v
      → HasValue (view_of t st) (own p) (value.Builtin builtin.Distribute) → HasValue (view_of t st) (own r) (atom (rule_word d.rule))
      → ((later : State) → IsGood t cs later → Keeps (view_of t st) (view_of t later) → later.variables ≡ st.variables → vector (view_of t later) v ≡ Known (variables_at later.variables d.over))
      → Distributes d st (single.frame env b (kernel.call (Fresh n) (Fresh m ∷ y ∷ []))) rest
  call_distributes d st env b n m p r y v rest a fn fm fy has ruled elements = record {
    answers = λ later good keeps same D e.
        let op = kernel.call (Fresh n) (Fresh m ∷ y ∷ []) in
        let view = view_of t later in
        let plain = (let s = good.stands in s.plain) in
        let rule = rule_known view later.variables plain (own r) d.rule (value_stays (view_of t st) view (own r) (atom (rule_word d.rule)) keeps ruled) in
        single.answers k t cs top_fits R back failing later env b op none rest a
        ∙ (λ i. given (fn i) (value_of view (fn i)) (value_called (seeing k.statements node_space view) (fm i ∷ fy i ∷ [])))
        ∙ ap (λ o. given (own p) o (value_called (seeing k.statements node_space view) (own r ∷ v ∷ []))) (value_is view later.variables (own p) (value.Builtin builtin.Distribute) plain (value_stays (view_of t st) view (own p) (value.Builtin builtin.Distribute) keeps has))
        ∙ (λ i. of_input (and_further (λ (j : Rule × List Ident). distribution_of view j.0 j.1) (both (rule i) (elements later good keeps same i))) (distributes view))
        ∙ ap (λ o. of_input o (distributes view)) e;
  }

  -- a state in which nothing was posted since
  unposted : (told : ℕ → Type 0) (a b : State) → IsLater t cs told a b → IsFurther t cs 0 [] a b
  unposted told a b h = record {
    keeps = h.keeps;
    runs = h.runs;
    more = [];
    variables = h.variables ∙ sym (append-nil a.variables);
    count = refl;
    posted = λ x d. elim d [ inl y ↦ subst (λ z. Contains z x) (sym h.posted) y | inr y ↦ absurd (contains_none x y) ];
  }

  -- once the distribution is on top, the state comes to what is shown
  abbrev ThenDistributes : ℕ → List Constraint → Distribution → State → List Frame → Type 0
  ThenDistributes n ks d st rest = (last : State) (f : Frame) → IsGood t cs last → IsFurther t cs n ks st last → Distributes d last f rest → Ready last (f ∷ rest)

  module _ (root : ℕ) (vs : List ℕ) (base : List Ident) (rv : Value) (e : Environment) (scope : IsScope root vs base e) (reads : (v : View) (xs : List Ident) → IsPlain v xs → HasValue v (own 0) rv → vector v (own 0) ≡ Known base)
      (fd_told : Contains t.tells (Is (named [] fd_number) fd_record)) (y2 : Ident) (top : y2.space ≡ []) (known : Contains t.tells (Is y2 (value.Builtin builtin.Distribute)))
      (finds : (z : Ident) → selects z fd_record (value.Constant (constant.Literal (Atom distribute_word))) ≡ Acts (GivesVariable z y2)) (rest : List Frame) where
    module _ (q : ℕ) (st : State) (h : IsGood t cs st) (at : IsAt t base rv q st) (b : ℕ) (r : Rule) (n m : ℕ) (code : Stmts) (apart : n ≢ m) (shape : FdCode (Fresh n) distribute_word code) where
      abbrev ruled : Stmt
      ruled = kernel.bind (Fresh m) (constant.Literal (Atom (rule_word r)))

      -- over all variables
      distributes_whole : At b (just (kernel.local (Fresh n ∷ Fresh m ∷ []) (code ⨾ followed ruled (just (kernel.call (Fresh n) (Fresh m ∷ Word root ∷ []))))))
          → ThenDistributes 0 [] (record { rule = r; over = places vs }) st rest → Ready st (block e b (just (kernel.local (Fresh n ∷ Fresh m ∷ []) (code ⨾ followed ruled (just (kernel.call (Fresh n) (Fresh m ∷ Word root ∷ [])))))) rest)
      distributes_whole a g =
          let op = kernel.call (Fresh n) (Fresh m ∷ Word root ∷ []) in
          let tail = followed ruled (just op) in
          let body = code ⨾ tail in
          let names = Fresh n ∷ Fresh m ∷ [] in
          let inner = single.scope k t cs top_fits R back failing st h e rest names in
          let inside = single.body_at k t cs top_fits R back failing st h e rest b names body a in
          let zero_more : st.next + 0 ≡ st.next = omega arith in
          let parts' = parts_at k.statements b code tail inside in
          let here = b + count code in
          single.local_ready k t cs top_fits R back failing st h e rest b names body a
          (λ made good later room.
          let un : IsUntold t made st.next = subst (IsUntold t made) zero_more (untold_new t cs st made 2 0 h room (omega arith)) in
          let um : IsUntold t made (st.next + 1) = untold_new t cs st made 2 1 h room (omega arith) in
          subst (Ready made) (sym (block_joined inner b code tail rest))
          (parts.fd_ready k t cs top_fits R back failing distribute_word y2 (value.Builtin builtin.Distribute) top known fd_told finds made good inner (block inner here tail rest) st.next un b (Fresh n) code shape parts'.0
          (first_bound n m st.next e) (two_other (Word fd_word) n m st.next e (fresh_word fd_word n) (fresh_word fd_word m) ∙ scope.fd_is)
          (λ st2 q1 l1 has.
          let um2 = untold_later t cs (λ j. j ≡ st.next) made st2 (st.next + 1) um l1 (λ z. omega (arith, z)) in
          parts.constant_ready k t cs top_fits R back failing st2 q1 inner rest (st.next + 1) um2 here (Fresh m) (constant.Literal (Atom (rule_word r))) (just op) parts'.1 (second_bound n m st.next e apart)
          (λ st3 q2 l2 rule.
          let on = later_on t cs Nothing (λ j. j ≡ st.next + 1) st st2 st3 (later_on t cs Nothing (λ j. j ≡ st.next) st made st2 later l1 (λ j z y. omega (arith, z, y))) l2 (λ j z y. omega (arith, z, y)) in
          let rooted = value_stays (view_of t st) (view_of t st3) (own 0) rv on.keeps at.rooted in
          g st3 (single.frame inner (here + 1) op) q2 (unposted Nothing st st3 on)
          (call_distributes (record { rule = r; over = places vs }) st3 inner (here + 1) n m st.next (st.next + 1) (Word root) (own 0) rest (parts.rest_at k t cs top_fits R back failing here ruled (just op) parts'.1)
          (first_bound n m st.next e) (second_bound n m st.next e apart) (two_other (Word root) n m st.next e (fresh_word root n) (fresh_word root m) ∙ scope.root_is)
          (value_stays (view_of t st2) (view_of t st3) (own st.next) (value.Builtin builtin.Distribute) l2.keeps has) rule
          (λ final ok keeps same.
          let plain = (let s = ok.stands in s.plain) in
          let firsts' : base ≡ variables_at final.variables (places vs) = sym (ap (λ ys. variables_at ys (places vs)) (same ∙ on.variables) ∙ item.firsts k t cs top_fits R back failing root vs base rv e scope reads q st at) in
          reads (view_of t final) final.variables plain (value_stays (view_of t st3) (view_of t final) (own 0) rv keeps rooted) ∙ ap Known firsts'))))))

      -- over a list of them
      distributes_listed : (make : Stmts) (l : ℕ) (ys : List ℕ) → n ≢ l → m ≢ l → ListCode vs (Fresh l) ys make
          → At b (just (kernel.local (Fresh n ∷ Fresh m ∷ Fresh l ∷ []) (code ⨾ followed ruled (make ⨾ just (kernel.call (Fresh n) (Fresh m ∷ Fresh l ∷ []))))))
          → ThenDistributes 0 [] (record { rule = r; over = ys }) st rest → Ready st (block e b (just (kernel.local (Fresh n ∷ Fresh m ∷ Fresh l ∷ []) (code ⨾ followed ruled (make ⨾ just (kernel.call (Fresh n) (Fresh m ∷ Fresh l ∷ [])))))) rest)
      distributes_listed make l ys d1 d2 lists a g =
          let op = kernel.call (Fresh n) (Fresh m ∷ Fresh l ∷ []) in
          let tail = followed ruled (make ⨾ just op) in
          let body = code ⨾ tail in
          let names = Fresh n ∷ Fresh m ∷ Fresh l ∷ [] in
          let inner = single.scope k t cs top_fits R back failing st h e rest names in
          let inside = single.body_at k t cs top_fits R back failing st h e rest b names body a in
          let zero_more : st.next + 0 ≡ st.next = omega arith in
          let two_more : st.next + 2 ≡ st.next + 1 + 1 = omega arith in
          let parts' = parts_at k.statements b code tail inside in
          let here = b + count code in
          let listed = parts.rest_at k t cs top_fits R back failing here ruled (make ⨾ just op) parts'.1 in
          let parts'' = parts_at k.statements (here + 1) make (just op) listed in
          let known' = item.knows k t cs top_fits R back failing root vs base rv e scope reads q st at in
          let knows'' : parts.KnowsVariables k t cs top_fits R back failing vs st.variables inner = record { enough = known'.enough; each = λ y z. three_other (identifier vs y) n m l st.next e (fresh_word _ n) (fresh_word _ m) (fresh_word _ l) ∙ known'.each y z } in
          single.local_ready k t cs top_fits R back failing st h e rest b names body a
          (λ made good later room.
          let un : IsUntold t made st.next = subst (IsUntold t made) zero_more (untold_new t cs st made 3 0 h room (omega arith)) in
          let um : IsUntold t made (st.next + 1) = untold_new t cs st made 3 1 h room (omega arith) in
          let ul : IsUntold t made (st.next + 1 + 1) = subst (IsUntold t made) two_more (untold_new t cs st made 3 2 h room (omega arith)) in
          subst (Ready made) (sym (block_joined inner b code tail rest))
          (parts.fd_ready k t cs top_fits R back failing distribute_word y2 (value.Builtin builtin.Distribute) top known fd_told finds made good inner (block inner here tail rest) st.next un b (Fresh n) code shape parts'.0
          (first_of_three n m l st.next e) (three_other (Word fd_word) n m l st.next e (fresh_word fd_word n) (fresh_word fd_word m) (fresh_word fd_word l) ∙ scope.fd_is)
          (λ st2 q1 l1 has.
          let um2 = untold_later t cs (λ j. j ≡ st.next) made st2 (st.next + 1) um l1 (λ z. omega (arith, z)) in
          let ul2 = untold_later t cs (λ j. j ≡ st.next) made st2 (st.next + 1 + 1) ul l1 (λ z. omega (arith, z)) in
          parts.constant_ready k t cs top_fits R back failing st2 q1 inner rest (st.next + 1) um2 here (Fresh m) (constant.Literal (Atom (rule_word r))) (make ⨾ just op) parts'.1 (second_of_three n m l st.next e apart)
          (λ st3 q2 l2 rule.
          let ul3 = untold_later t cs (λ j. j ≡ st.next + 1) st2 st3 (st.next + 1 + 1) ul2 l2 (λ z. omega (arith, z)) in
          subst (Ready st3) (sym (block_joined inner (here + 1) make (just op) rest))
          (parts.list_ready k t cs top_fits R back failing vs st.variables st3 q2 inner (block inner (here + 1 + count make) (just op) rest) (st.next + 1 + 1) ul3 (here + 1) (Fresh l) ys make lists parts''.0
          (third_bound n m l st.next e d1 d2) (l2.variables ∙ l1.variables ∙ later.variables) knows''
          (λ st4 q3 l3 list.
          let on = later_on t cs Nothing (λ j. j ≡ st.next + 1 + 1) st st3 st4 (later_on t cs Nothing (λ j. j ≡ st.next + 1) st st2 st3 (later_on t cs Nothing (λ j. j ≡ st.next) st made st2 later l1 (λ j z y. omega (arith, z, y))) l2 (λ j z y. omega (arith, z, y))) l3 (λ j z y. omega (arith, z, y)) in
          let keeps2 : Keeps (view_of t st2) (view_of t st4) = λ u c. l3.keeps u (l2.keeps u c) in
          g st4 (single.frame inner (here + 1 + count make) op) q3 (unposted Nothing st st4 on)
          (call_distributes (record { rule = r; over = ys }) st4 inner (here + 1 + count make) n m st.next (st.next + 1) (Fresh l) (own (st.next + 1 + 1)) rest parts''.1
          (first_of_three n m l st.next e) (second_of_three n m l st.next e apart) (third_bound n m l st.next e d1 d2)
          (value_stays (view_of t st2) (view_of t st4) (own st.next) (value.Builtin builtin.Distribute) keeps2 has) (value_stays (view_of t st3) (view_of t st4) (own (st.next + 1)) (atom (rule_word r)) l3.keeps rule)
          (λ final ok keeps same.
          let plain = (let s = ok.stands in s.plain) in
          list_vector (view_of t final) final.variables plain (own (st.next + 1 + 1)) (variables_at st.variables ys) (list_stays (view_of t st4) (view_of t final) (own (st.next + 1 + 1)) (variables_at st.variables ys) keeps list)
          ∙ ap (λ zs. Known (variables_at zs ys)) (sym (same ∙ on.variables))))))))))

    -- the last statement
    distribution_ready : (q : ℕ) (st : State) → IsGood t cs st → IsAt t base rv q st → (b : ℕ) (d : Distribution) (code : Stmts) → DistributionCode root vs d code → At b code → ThenDistributes 0 [] d st rest → Ready st (block e b code rest)
    distribution_ready q st h at b _ _ (shapes.distributes {r = r} {code = code} n m l p1 p2 p3 shape shapes.whole) a g = distributes_whole q st h at b r n m code p1 shape a g
    distribution_ready q st h at b _ _ (shapes.distributes {r = r} {xs = xs} {code = code} {make = make} n m l p1 p2 p3 shape (shapes.listed lists)) a g = distributes_listed q st h at b r n m code p1 shape make l xs p2 p3 lists a g

    -- ---- all statements

    module _ (y1 : Ident) (top1 : y1.space ≡ []) (known1 : Contains t.tells (Is y1 (value.Builtin builtin.Distinct)))
        (finds1 : (z : Ident) → selects z fd_record (value.Constant (constant.Literal (Atom distinct_word))) ≡ Acts (GivesVariable z y1)) (unmarked : (x : Ident) → unwound x rest ≡ None) where
      further_then : (n m : ℕ) (ks us all : List Constraint) (a b c : State) → ((x : Constraint) → Contains all x → Contains ks x ⊎ Contains us x) → IsFurther t cs n ks a b → IsFurther t cs m us b c → IsFurther t cs (n + m) all a c
      further_then n m ks us all a b c w h g = record {
        keeps = λ u d. g.keeps u (h.keeps u d);
        runs = runs_then cs h.runs g.runs;
        more = h.more ++ g.more;
        variables = g.variables ∙ ap (λ xs. xs ++ g.more) h.variables ∙ append_assoc a.variables h.more g.more;
        count = (let p = length-append h.more g.more in let x = h.count in let y = g.count in omega arith);
        posted = λ x d. elim d [
          | inl y ↦ g.posted x (inl (h.posted x (inl y)))
          | inr y ↦ elim (w x y) [ inl z ↦ g.posted x (inl (h.posted x (inr z))) | inr z ↦ g.posted x (inr z) ]
        ];
      }

      products_joined : (is js : List Item) → products_in (is ++ js) ≡ products_in is + products_in js
      products_joined [] js = sym (omega arith)
      products_joined (i ∷ is) js = (let p = products_joined is js in omega (arith, p))

      constraints_joined : (q : ℕ) (is js : List Item) → constraints_from q (is ++ js) ≡ constraints_from q is ++ constraints_from (q + products_in is) js
      constraints_joined q [] js = (let p : q ≡ q + 0 = omega arith in ap (λ n. constraints_from n js) p)
      constraints_joined q (i ∷ is) js =
          let c = product_count (item_terms i) in
          let p : q + c + products_in is ≡ q + (c + products_in is) = omega arith in
          ap (λ ks. item_constraints q i ++ ks) (constraints_joined (q + c) is js ∙ ap (λ n. constraints_from (q + c) is ++ constraints_from n js) p)
          ∙ sym (append_assoc (item_constraints q i) (constraints_from (q + c) is) (constraints_from (q + (c + products_in is)) js))

      -- the state is at the next statement
      at_next : (q n : ℕ) (ks : List Constraint) (a b : State) → IsAt t base rv q a → IsFurther t cs n ks a b → IsAt t base rv (q + n) b
      at_next q n ks a b at h = record {
        more = at.more ++ h.more;
        variables = h.variables ∙ ap (λ xs. xs ++ h.more) at.variables ∙ append_assoc base at.more h.more;
        many = ap length h.variables ∙ length-append a.variables h.more ∙ (let x = at.many in let y = h.count in omega arith);
        rooted = value_stays (view_of t a) (view_of t b) (own 0) rv h.keeps at.rooted;
      }

      pub script_ready : (q : ℕ) (st : State) → IsGood t cs st → IsAt t base rv q st → (b : ℕ) (is : List Item) (d : Distribution) (code : Stmts) → ScriptCode root vs is d code → At b code → q + products_in is ≤ length st.store
          → ((i : Item) → Contains is i → IsItem (length vs) i) → ((c : Constraint) → Contains (constraints_from q is) c → Contains cs c) → ThenDistributes (products_in is) (constraints_from q is) d st rest → Ready st (block e b code rest)
      script_ready q st h at b _ _ _ (shapes.last {d = d} {code = code} last) a fits items among g = distribution_ready q st h at b d code last a g
      script_ready q st h at b _ _ _ (shapes.next {is = is} {js = js} {d = d} {code = code} {rest = more} first others) a fits items among g =
          let parts' = parts_at k.statements b code more a in
          let many = products_joined is js in
          let all = constraints_joined q is js in
          subst (Ready st) (sym (block_joined e b code more rest))
          (item.item_ready k t cs top_fits R back failing root vs base rv e scope reads q st h at (block e (b + count code) more rest) (block_unmarked e (b + count code) more rest unmarked) b y1 top1 known1 fd_told finds1 is code first parts'.0
          (omega (arith, fits, many)) (λ i c. items i (Contains-append_left is js i c)) (λ c x. among c (subst (λ z. Contains z c) (sym all) (Contains-append_left (constraints_from q is) (constraints_from (q + products_in is) js) c x)))
          (λ later ok far.
          let stored = (runs_law cs st.store later.store h.over far.runs).1 in
          script_ready (q + products_in is) later ok (at_next q (products_in is) (constraints_from q is) st later at far) (b + count code) js d more others parts'.1 (let s = stored.long in omega (arith, fits, many, s))
          (λ i c. items i (Contains-append_right is js i c)) (λ c x. among c (subst (λ z. Contains z c) (sym all) (Contains-append_right (constraints_from q is) (constraints_from (q + products_in is) js) c x)))
          (λ last f good further dist. g last f good
          (subst (λ n. IsFurther t cs n (constraints_from q (is ++ js)) st last) (sym many)
          (further_then (products_in is) (products_in js) (constraints_from q is) (constraints_from (q + products_in is) js) (constraints_from q (is ++ js)) st later last
          (λ x d'. Contains-append_cases (constraints_from q is) (constraints_from (q + products_in is) js) x (subst (λ z. Contains z x) all d')) far further)) dist)))
