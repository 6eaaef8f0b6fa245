-- The statements of a script that are not the last.
use Rattle.std.proofs.Common.{◌≡◌, ◌≢◌, inl, inr, ℕ, ℤ, pos, zero, suc, ◌+◌, ◌<◌, ◌≤◌, ◌+ℤ◌, ◌-ℤ◌, ◌<ℤ◌, int_le, not, Bool, true, false, if◌then◌else◌, List, [], ◌∷◌, ◌++◌, length, map, Contains, All, Some, None, option_and_then, refl, sym, ◌∙◌, ap, subst, arith}
use Rattle.std.proofs.lemmas.Int.{ints}
use Rattle.std.proofs.lemmas.List.{append-nil, append_assoc, length-append, get_or_append_left}
use Rattle.std.proofs.Math.Seq.{get_or-append_seam}
use Rattle.std.proofs.lemmas.List.Elements.{All-head, All-tail, All-nil, All-cons, Contains-append_left, Contains-append_right}
use Rattle.std.specs.List.{range_with_len}
use Rattle.environments.specs.Environments.{Environment, bound, nowhere}
use Rattle.oz_base.specs.declared.names.Ident.{Ident}
use Rattle.oz_base.specs.declared.relation.Relation.TheVariants.{Le, Distinct}
use Rattle.oz_language.specs.declared.kernel.Identifier.{Identifier}
use Rattle.oz_language.specs.declared.kernel.Identifier.TheVariants.{Word, Fresh}
use Rattle.oz_language.specs.declared.token.Literal.TheVariants.{Atom}
use Rattle.oz_language.specs.declared.kernel.Constant.TheVariants as constant
use Rattle.oz_language.specs.declared.kernel.Operation.TheVariants as operation
use Rattle.oz_language.specs.declared.kernel.Kernel.{Kernel}
use Rattle.oz_language.specs.Kernels.{Stmt, Stmts, none, followed, just, ◌⨾◌, count}
use Rattle.oz_language.specs.Kernels as kernel
use Rattle.oz_domains.specs.Domains.{IntSet, between}
use Rattle.oz_domains.specs.Passes.{sweep}
use Rattle.fd_domain.proofs.IntervalLaws.{le_true, le_false, true_le}
use Rattle.oz_semantics.specs.Names.{named}
use Rattle.oz_semantics.specs.Store.{View, value_of, is_consistent}
use Rattle.oz_semantics.specs.Inputs.{Known, both}
use Rattle.oz_semantics.specs.Constraints.{bounds}
use Rattle.oz_semantics.specs.Vectors.{vector}
use Rattle.oz_semantics.specs.Answers.{Acts, GivesVariable, given}
use Rattle.oz_semantics.specs.Builtins.{of_input, confines, posts, selects}
use Rattle.oz_semantics.specs.Statements.{value_called}
use Rattle.oz_semantics.specs.Exceptions.{unwound}
use Rattle.oz_semantics.specs.Runs.{fd_record, fd_number}
use Rattle.oz_semantics.specs.Spaces.{goes_on}
use Rattle.oz_semantics.specs.declared.value.Value.{Value}
use Rattle.oz_semantics.specs.declared.value.Value.TheVariants as value
use Rattle.oz_semantics.specs.declared.value.Builtin.TheVariants as builtin
use Rattle.oz_semantics.specs.declared.value.Tell.TheVariants.{Is}
use Rattle.oz_semantics.specs.declared.configuration.Frame.{Frame}
use Rattle.oz_semantics.specs.declared.configuration.Configuration.{Configuration}
use Rattle.fd_problems.specs.declared.problem.Item.{Item}
use Rattle.fd_problems.specs.declared.problem.Item.TheVariants.{Within, Compares, Different}
use Rattle.fd_stores.specs.Stores.{Store, Constraint, Posted, Told, told, run, Runs, Fails}
use Rattle.fd_stores.specs.Stores as stores
use Rattle.fd_stores.proofs.Lists.{contains_none, contains_cases, contains_head, contains_tail, contains_map}
use Rattle.fd_trees.specs.Scripts.{product_count, item_constraints, constraints_from, products_in, IsItem}
use Rattle.fd_views.specs.Views.{variable_at, variables_at, IsPlain, HasValue}
use Rattle.fd_form.specs.Parts.{fd_word, distinct_word, places}
use Rattle.fd_form.specs.FdScripts.{all_within}
use Rattle.fd_form_law.specs.Shapes.{Differ}
use Rattle.fd_form_law.specs.Posts.{identifier}
use Rattle.fd_codes.specs.Codes.{AreBounds, BoundsCode, ListCode, FdCode, VectorCode, ItemCode}
use Rattle.fd_codes.specs.Codes as shapes
use Rattle.view_laws.specs.Readies.{seeing}
use Rattle.fd_views.proofs.ValueLaws.{value_is}
use Rattle.fd_views.proofs.InputLaws.{list_vector}
use Rattle.fd_turns.specs.Nodes.{Top, node_space, own, failed_config}
use Rattle.fd_steps.specs.States.{State, view_of, IsDone, IsGood, IsLater}
use Rattle.fd_steps.proofs.GoodLaws.{all_done}
use Rattle.fd_steps.proofs.DueTurns.{MovesTo, Nothing, runs_then}
use Rattle.fd_execution.specs.Further.{IsFurther}
use Rattle.fd_execution.proofs.ScopeLaws.{AreAt, block, parts_at, block_joined}
use Rattle.fd_execution.proofs.UntoldLaws.{IsUntold, untold_new, untold_later, value_stays, one_other, one_bound, first_bound, second_bound, two_other, fresh_word, later_on}
use Rattle.fd_form_law.proofs.PostLaws.{count_joined}
use Rattle.fd_execution.proofs.IndexLaws.{terms_left, terms_right}
use Rattle.fd_execution.proofs.StatementLaws as single
use Rattle.fd_execution.proofs.PartLaws as parts
use Rattle.fd_execution.proofs.PostedLaws.{IsPostedOn}
use Rattle.fd_execution.proofs.PostedLaws as posted
use Rattle.fd_execution.proofs.ConfineLaws as confine
use Rattle.fd_execution.proofs.CompareLaws as compare

-- what a script's outer environment has: the variables of the problem, which are the first of the search, the root and `FD`
pub record IsScope (root : ℕ) (vs : List ℕ) (base : List Ident) (e : Environment) : Type 0 where
  pub differ : Differ vs
  pub long : length base ≡ length vs
  pub words : (y : ℕ) → y < length vs → bound e (identifier vs y) ≡ variable_at base y
  pub root_is : bound e (Word root) ≡ own 0
  pub fd_is : bound e (Word fd_word) ≡ named [] fd_number

-- the state before a statement: there are so many variables of the search, and the root is the record of the first
pub record IsAt (t : Top) (base : List Ident) (rv : Value) (q : ℕ) (st : State) : Type 0 where
  pub more : List Ident
  pub variables : st.variables ≡ base ++ more
  pub many : length st.variables ≡ q
  pub rooted : HasValue (view_of t st) (own 0) rv

-- a variable that stands in front
pub in_front : (base more : List Ident) (x : ℕ) → x < length base → variable_at (base ++ more) x ≡ variable_at base x
in_front base more x l = get_or_append_left base more nowhere x l

pub all_in_front : (base more : List Ident) (is : List ℕ) → All (λ x. x < length base) is → variables_at (base ++ more) is ≡ variables_at base is
all_in_front base more [] a = refl
all_in_front base more (x ∷ is) a = (let p = in_front base more x (All-head (λ y. y < length base) x is a) in let q = all_in_front base more is (All-tail (λ y. y < length base) x is a) in λ i. p i ∷ q i)

-- all of a list, by its places
pub places_all : (before xs : List Ident) (n : ℕ) → length before ≡ n → variables_at (before ++ xs) (range_with_len n (length xs)) ≡ xs
places_all before [] n e = refl
places_all before (x ∷ xs) n e =
    let long = length-append before (x ∷ []) in
    let here : variable_at (before ++ x ∷ xs) n ≡ x = ap (variable_at (before ++ x ∷ xs)) (sym e) ∙ get_or-append_seam before x xs nowhere in
    let rest = ap (λ ys. variables_at ys (range_with_len (n + 1) (length xs))) (sym (append_assoc before (x ∷ []) xs)) ∙ places_all (before ++ x ∷ []) xs (n + 1) (omega (arith, long, e)) in
    λ i. here i ∷ rest i

pub range_below : (m a n : ℕ) → a + n ≤ m → All (λ x. x < m) (range_with_len a n)
range_below m a zero l = All-nil (λ x. x < m)
range_below m a (suc n) l = All-cons (λ x. x < m) a (range_with_len (a + 1) n) (omega (arith, l)) (range_below m (a + 1) n (omega (arith, l)))

pub base_is : (vs : List ℕ) (base : List Ident) → length base ≡ length vs → variables_at base (places vs) ≡ base
base_is vs base e = ap (λ n. variables_at base (range_with_len 0 n)) (sym e) ∙ places_all [] base 0 refl

-- ---- bounds in their order

-- a relation of a constant alone
constant_run : (c : ℤ) (m : Store) → run (Posted (Le (record { constant = c; coefficients = [] })) []) m ≡ (if not (int_le (c +ℤ pos 0) (pos 0)) then None else Some m)
unfolding told sweep
constant_run c m = by (not (int_le (c +ℤ pos 0) (pos 0))) where
  by : (b : Bool) → option_and_then (λ (ds : List IntSet). Some m) (if b then None else Some []) ≡ (if b then None else Some m)
  by true = refl
  by false = refl

pub order_holds : (m : Store) (low high : ℤ) → int_le low high ≡ true → run (Posted (Le (record { constant = low -ℤ high; coefficients = [] })) []) m ≡ Some m
order_holds m low high e = constant_run (low -ℤ high) m ∙ ap (λ b. if not b then None else Some m) (true_le (low -ℤ high +ℤ pos 0) (pos 0) (let l = le_true low high e in omega (arith, ints, l)))

pub order_fails : (cs : List Constraint) (s : Store) (low high : ℤ) → Contains cs (Posted (Le (record { constant = low -ℤ high; coefficients = [] })) []) → int_le low high ≡ false → Fails cs s
order_fails cs s low high c e = record {
  before = s;
  runs = stores.none;
  constraint = Posted (Le (record { constant = low -ℤ high; coefficients = [] })) [];
  among = c;
  fails = constant_run (low -ℤ high) s ∙ ap (λ b. if not b then None else Some s) (not_le (low -ℤ high +ℤ pos 0) (let l = le_false low high e in omega (arith, ints, l)));
} where
  not_le : (a : ℤ) → pos 0 <ℤ a → int_le a (pos 0) ≡ false
  not_le a l = by (int_le a (pos 0)) refl where
    by : (b : Bool) → int_le a (pos 0) ≡ b → b ≡ false
    by true f = (let g = le_true a (pos 0) f in absurd (omega (arith, ints, l, g)))
    by false f = refl

withins_none : (low high : ℤ) (xs : List ℕ) → products_in (map (λ x. Within x low high) xs) ≡ 0
withins_none low high [] = refl
withins_none low high (x ∷ xs) = (let e = withins_none low high xs in omega (arith, e))

withins_told : (n : ℕ) (low high : ℤ) (xs : List ℕ) → constraints_from n (map (λ x. Within x low high) xs) ≡ map (λ x. Told x (between low high)) xs
withins_told n low high [] = refl
withins_told n low high (x ∷ xs) = ap (λ z. Told x (between low high) ∷ z) (withins_told (n + 0) low high xs)

module _ (k : Kernel) (t : Top) (cs : List Constraint) (top_fits : is_consistent t.tells ≡ true) (R : Configuration → Store → Type 0)
    (back : (c d : Configuration) (s m : Store) → goes_on k.statements c.layers node_space ≡ true → MovesTo k c d → Runs cs s m → R d m → R c s)
    (failing : (c : Configuration) (n : ℕ) (s : Store) → goes_on k.statements c.layers node_space ≡ true → MovesTo k c (failed_config t n) → Fails cs s → R c s) where
  abbrev Ready : State → List Frame → Type 0
  Ready st frames = single.Ready k t cs top_fits R back failing st frames

  abbrev GoesFurther : ℕ → List Constraint → State → List Frame → Type 0
  GoesFurther n ks st frames = compare.GoesFurther k t cs top_fits R back failing n ks st frames

  abbrev At : ℕ → Stmts → Type 0
  At b code = AreAt k.statements b code

  -- later, and then posted
  further_of : (told : ℕ → Type 0) (ks : List Constraint) (a b c : State) → IsLater t cs told a b → IsPostedOn t cs ks b c → IsFurther t cs 0 ks a c
  further_of told ks a b c h g = record {
    keeps = λ u d. g.keeps u (h.keeps u d);
    runs = runs_then cs h.runs g.runs;
    more = [];
    variables = g.variables ∙ h.variables ∙ sym (append-nil a.variables);
    count = refl;
    posted = λ x d. g.posted x (elim d [ inl y ↦ inl (subst (λ z. Contains z x) (sym h.posted) y) | inr y ↦ inr y ]);
  }

  module _ (root : ℕ) (vs : List ℕ) (base : List Ident) (rv : Value) (e : Environment) (scope : IsScope root vs base e) (reads : (v : View) (xs : List Ident) → IsPlain v xs → HasValue v (own 0) rv → vector v (own 0) ≡ Known base) where
    pub knows : (q : ℕ) (st : State) → IsAt t base rv q st → parts.KnowsVariables k t cs top_fits R back failing vs st.variables e
    knows q st at = record {
      enough = (let a = ap length at.variables in let b = length-append base at.more in let c = scope.long in omega (arith, a, b, c));
      each = λ y l. scope.words y l ∙ sym (in_front base at.more y (let c = scope.long in omega (arith, l, c))) ∙ ap (λ xs. variable_at xs y) (sym at.variables);
    }

    -- the first variables
    pub firsts : (q : ℕ) (st : State) → IsAt t base rv q st → variables_at st.variables (places vs) ≡ base
    firsts q st at =
        ap (λ xs. variables_at xs (places vs)) at.variables ∙ all_in_front base at.more (places vs) (range_below (length base) 0 (length vs) (let c = scope.long in omega (arith, c))) ∙ base_is vs base scope.long

    module _ (q : ℕ) (st : State) (h : IsGood t cs st) (at : IsAt t base rv q st) (rest : List Frame) (unmarked : (x : Ident) → unwound x rest ≡ None) (b : ℕ) where
      -- ---- bounds

      module _ (low high : ℤ) (w : AreBounds low high) (n : ℕ) (code : Stmts) (shape : BoundsCode (Fresh n) low high code) (op : Stmt) (a : At b (just (kernel.local (Fresh n ∷ []) (code ⨾ just op)))) where
        abbrev body : Stmts
        body = code ⨾ just op

        abbrev inner : Environment
        inner = single.scope k t cs top_fits R back failing st h e rest (Fresh n ∷ [])

        abbrev op_at : ℕ
        op_at = b + count code

        -- the description is made, and then the statement itself goes on
        described_ready : ((described : State) → IsGood t cs described → IsLater t cs Nothing st described → bounds (view_of t described) (own st.next) ≡ Known (low, high) → Ready described (single.frame inner op_at op ∷ rest))
            → Ready st (block e b (just (kernel.local (Fresh n ∷ []) body)) rest)
        described_ready g =
            let inside = single.body_at k t cs top_fits R back failing st h e rest b (Fresh n ∷ []) body a in
            let zero_more : st.next + 0 ≡ st.next = omega arith in
            single.local_ready k t cs top_fits R back failing st h e rest b (Fresh n ∷ []) body a
            (λ made good later room.
            let un : IsUntold t made st.next = subst (IsUntold t made) zero_more (untold_new t cs st made 1 0 h room (omega arith)) in
            subst (Ready made) (sym (block_joined inner b code (just op) rest))
            (parts.bounds_ready k t cs top_fits R back failing made good inner (block inner op_at (just op) rest) st.next un b (Fresh n) low high code shape (parts_at k.statements b code (just op) inside).0 (one_bound n st.next e)
            (λ described q1 l1 known. g described q1 (later_on t cs Nothing (λ j. j ≡ st.next) st made described later l1 (λ j z y. omega (arith, z, y))) known)))

        op_there : At op_at (just op)
        op_there = (parts_at k.statements b code (just op) (single.body_at k t cs top_fits R back failing st h e rest b (Fresh n ∷ []) body a)).1

      -- X::D
      pub within_ready : (low high : ℤ) (x n : ℕ) (code : Stmts) → x < length vs → AreBounds low high → BoundsCode (Fresh n) low high code → Contains cs (Told x (between low high))
          → At b (just (kernel.local (Fresh n ∷ []) (code ⨾ just (kernel.operate operation.Bound (identifier vs x ∷ Fresh n ∷ [])))))
          → GoesFurther 0 (Told x (between low high) ∷ []) st rest → Ready st (block e b (just (kernel.local (Fresh n ∷ []) (code ⨾ just (kernel.operate operation.Bound (identifier vs x ∷ Fresh n ∷ []))))) rest)
      within_ready low high x n code l w shape among a g =
          let op = kernel.operate operation.Bound (identifier vs x ∷ Fresh n ∷ []) in
          let inner' = inner low high w n code shape op a in
          let known' = knows q st at in
          described_ready low high w n code shape op a (λ described good later known.
          let here : bound inner' (identifier vs x) ≡ variable_at described.variables x = one_other (identifier vs x) n st.next e (fresh_word _ n) ∙ known'.each x l ∙ ap (λ ys. variable_at ys x) (sym later.variables) in
          let below : x < length described.variables = (let v = ap length later.variables in let m = known'.enough in omega (arith, v, m, l)) in
          let stored = (let s = good.stands in s.fits) in
          let answer = single.answers k t cs top_fits R back failing described inner' (op_at low high w n code shape op a) op none rest (op_there low high w n code shape op a)
          ∙ (λ i. of_input (bounds (view_of t described) (one_bound n st.next e i)) (confines (view_of t described) (here i ∷ []))) ∙ ap (λ o. of_input o (confines (view_of t described) (variable_at described.variables x ∷ []))) known in
          confine.confines_ready k t cs top_fits R back failing described good (single.frame inner' (op_at low high w n code shape op a) op) rest (x ∷ []) low high w (All-cons (λ y. y < length described.variables) x [] below (All-nil (λ y. y < length described.variables)))
          (λ y c. elim (contains_cases x y [] c) [ inl z ↦ subst (λ i. Contains cs (Told i (between low high))) z among | inr z ↦ absurd (contains_none y z) ]) unmarked answer
          (λ f. confine.exchanged_fails cs described.store x low high among (omega (arith, below, stored)) f)
          (λ f final ok on. g final ok (further_of Nothing (Told x (between low high) ∷ []) st described final later on)))

      -- R:::D
      pub within_all_ready : (low high : ℤ) (n : ℕ) (code : Stmts) → AreBounds low high → BoundsCode (Fresh n) low high code → ((c : Constraint) → Contains (constraints_from q (all_within (places vs) (low, high))) c → Contains cs c)
          → At b (just (kernel.local (Fresh n ∷ []) (code ⨾ just (kernel.operate operation.BoundEach (Word root ∷ Fresh n ∷ [])))))
          → GoesFurther 0 (constraints_from q (all_within (places vs) (low, high))) st rest → Ready st (block e b (just (kernel.local (Fresh n ∷ []) (code ⨾ just (kernel.operate operation.BoundEach (Word root ∷ Fresh n ∷ []))))) rest)
      within_all_ready low high n code w shape among a g =
          let op = kernel.operate operation.BoundEach (Word root ∷ Fresh n ∷ []) in
          let inner' = inner low high w n code shape op a in
          let known' = knows q st at in
          let order = Posted (Le (record { constant = low -ℤ high; coefficients = [] })) [] in
          let told_all = map (λ x. Told x (between low high)) (places vs) in
          let all : constraints_from q (all_within (places vs) (low, high)) ≡ order ∷ told_all = ap (λ z. order ∷ z) (withins_told (q + 0) low high (places vs)) in
          described_ready low high w n code shape op a (λ described good later known.
          let here : bound inner' (Word root) ≡ own 0 = one_other (Word root) n st.next e (fresh_word root n) ∙ scope.root_is in
          let rooted = value_stays (view_of t st) (view_of t described) (own 0) rv later.keeps at.rooted in
          let plain = (let s = good.stands in s.plain) in
          let firsts' : base ≡ variables_at described.variables (places vs) = sym (ap (λ ys. variables_at ys (places vs)) later.variables ∙ firsts q st at) in
          let elements : vector (view_of t described) (own 0) ≡ Known (variables_at described.variables (places vs)) = reads (view_of t described) described.variables plain rooted ∙ ap Known firsts' in
          let below = range_below (length described.variables) 0 (length vs) (let v = ap length later.variables in let m = known'.enough in omega (arith, v, m)) in
          let answer = single.answers k t cs top_fits R back failing described inner' (op_at low high w n code shape op a) op none rest (op_there low high w n code shape op a)
          ∙ (λ i. of_input (both (vector (view_of t described) (here i)) (bounds (view_of t described) (one_bound n st.next e i))) (λ (p : List Ident × (ℤ × ℤ)). confines (view_of t described) p.0 p.1))
          ∙ (λ i. of_input (both (elements i) (known i)) (λ (p : List Ident × (ℤ × ℤ)). confines (view_of t described) p.0 p.1)) in
          confine.confines_ready k t cs top_fits R back failing described good (single.frame inner' (op_at low high w n code shape op a) op) rest (places vs) low high w below
          (λ y c. among (Told y (between low high)) (subst (λ z. Contains z (Told y (between low high))) (sym all) (contains_tail order (Told y (between low high)) told_all (contains_map (λ x. Told x (between low high)) (places vs) y c)))) unmarked answer
          (λ f. order_fails cs described.store low high (among order (subst (λ z. Contains z order) (sym all) (contains_head order told_all))) f)
          (λ f final ok on.
          let done = all_done t cs final ok (order ∷ []) (λ c d. elim (contains_cases order c [] d) [ inl z ↦ subst (IsDone final.variables final.store final.propagators) z (inl (λ m. order_holds m low high f)) | inr z ↦ absurd (contains_none c z) ]) in
          let far = further_of Nothing told_all st described final later on in
          g (record final { posted = final.posted ++ order ∷ [] }) done (record {
            keeps = far.keeps;
            runs = far.runs;
            more = far.more;
            variables = far.variables;
            count = far.count;
            posted = λ c d. elim d [
              | inl y ↦ Contains-append_left final.posted (order ∷ []) c (far.posted c (inl y))
              | inr y ↦ elim (contains_cases order c told_all (subst (λ z. Contains z c) all y)) [
                | inl z ↦ subst (Contains (final.posted ++ order ∷ [])) z (Contains-append_right final.posted (order ∷ []) order (contains_head order []))
                | inr z ↦ Contains-append_left final.posted (order ∷ []) c (far.posted c (inr z))
              ]
            ];
          })))

      -- ---- {FD.distinct W}

      module _ (y1 : Ident) (top : y1.space ≡ []) (known : Contains t.tells (Is y1 (value.Builtin builtin.Distinct))) (fd_told : Contains t.tells (Is (named [] fd_number) fd_record))
          (finds : (z : Ident) → selects z fd_record (value.Constant (constant.Literal (Atom distinct_word))) ≡ Acts (GivesVariable z y1)) (n : ℕ) where
        -- the call itself
        distinct_called : (st2 : State) → IsGood t cs st2 → (env : Environment) (b2 : ℕ) (y : Identifier) (p : ℕ) (v : Ident) (is : List ℕ) → At b2 (just (kernel.call (Fresh n) (y ∷ []))) → bound env (Fresh n) ≡ own p → bound env y ≡ v
            → HasValue (view_of t st2) (own p) (value.Builtin builtin.Distinct) → vector (view_of t st2) v ≡ Known (variables_at st2.variables is) → Contains cs (Posted Distinct is) → All (λ x. x < length st2.variables) is
            → ((final : State) → IsGood t cs final → IsPostedOn t cs (Posted Distinct is ∷ []) st2 final → Ready final rest) → Ready st2 (single.frame env b2 (kernel.call (Fresh n) (y ∷ [])) ∷ rest)
        distinct_called st2 good env b2 y p v is a2 fn fy has elements among inside g =
            let op = kernel.call (Fresh n) (y ∷ []) in
            let plain = (let s = good.stands in s.plain) in
            let answer = single.answers k t cs top_fits R back failing st2 env b2 op none rest a2
            ∙ (λ i. given (fn i) (value_of (view_of t st2) (fn i)) (value_called (seeing k.statements node_space (view_of t st2)) (fy i ∷ [])))
            ∙ ap (λ o. given (own p) o (value_called (seeing k.statements node_space (view_of t st2)) (v ∷ []))) (value_is (view_of t st2) st2.variables (own p) (value.Builtin builtin.Distinct) plain has)
            ∙ ap (λ o. of_input o (posts (view_of t st2) Distinct)) elements in
            posted.post_ready k t cs top_fits R back failing st2 good Distinct is among inside (single.frame env b2 op) rest answer g

        different_whole : (code : Stmts) → FdCode (Fresh n) distinct_word code → Contains cs (Posted Distinct (places vs))
            → At b (just (kernel.local (Fresh n ∷ []) (code ⨾ just (kernel.call (Fresh n) (Word root ∷ []))))) → GoesFurther 0 (Posted Distinct (places vs) ∷ []) st rest
            → Ready st (block e b (just (kernel.local (Fresh n ∷ []) (code ⨾ just (kernel.call (Fresh n) (Word root ∷ []))))) rest)
        different_whole code shape among a g =
            let op = kernel.call (Fresh n) (Word root ∷ []) in
            let body = code ⨾ just op in
            let inner = single.scope k t cs top_fits R back failing st h e rest (Fresh n ∷ []) in
            let inside = single.body_at k t cs top_fits R back failing st h e rest b (Fresh n ∷ []) body a in
            let zero_more : st.next + 0 ≡ st.next = omega arith in
            let parts' = parts_at k.statements b code (just op) inside in
            single.local_ready k t cs top_fits R back failing st h e rest b (Fresh n ∷ []) body a
            (λ made good later room.
            let un : IsUntold t made st.next = subst (IsUntold t made) zero_more (untold_new t cs st made 1 0 h room (omega arith)) in
            subst (Ready made) (sym (block_joined inner b code (just op) rest))
            (parts.fd_ready k t cs top_fits R back failing distinct_word y1 (value.Builtin builtin.Distinct) top known fd_told finds made good inner (block inner (b + count code) (just op) rest) st.next un b (Fresh n) code shape parts'.0
            (one_bound n st.next e) (one_other (Word fd_word) n st.next e (fresh_word fd_word n) ∙ scope.fd_is)
            (λ st2 q1 l1 has.
            let on = later_on t cs Nothing (λ j. j ≡ st.next) st made st2 later l1 (λ j z y. omega (arith, z, y)) in
            let plain = (let s = q1.stands in s.plain) in
            let rooted = value_stays (view_of t st) (view_of t st2) (own 0) rv on.keeps at.rooted in
            let firsts' : base ≡ variables_at st2.variables (places vs) = sym (ap (λ ys. variables_at ys (places vs)) on.variables ∙ firsts q st at) in
            let below = range_below (length st2.variables) 0 (length vs) (let v = ap length on.variables in let m = (let w = knows q st at in w.enough) in omega (arith, v, m)) in
            distinct_called st2 q1 inner (b + count code) (Word root) st.next (own 0) (places vs) parts'.1 (one_bound n st.next e) (one_other (Word root) n st.next e (fresh_word root n) ∙ scope.root_is) has
            (reads (view_of t st2) st2.variables plain rooted ∙ ap Known firsts') among below
            (λ final ok posted'. g final ok (further_of Nothing (Posted Distinct (places vs) ∷ []) st st2 final on posted')))))

        different_listed : (code make : Stmts) (m : ℕ) (ys : List ℕ) → n ≢ m → FdCode (Fresh n) distinct_word code → ListCode vs (Fresh m) ys make → All (λ x. x < length vs) ys → Contains cs (Posted Distinct ys)
            → At b (just (kernel.local (Fresh n ∷ Fresh m ∷ []) (code ⨾ (make ⨾ just (kernel.call (Fresh n) (Fresh m ∷ [])))))) → GoesFurther 0 (Posted Distinct ys ∷ []) st rest
            → Ready st (block e b (just (kernel.local (Fresh n ∷ Fresh m ∷ []) (code ⨾ (make ⨾ just (kernel.call (Fresh n) (Fresh m ∷ [])))))) rest)
        different_listed code make m ys d shape lists all among a g =
            let op = kernel.call (Fresh n) (Fresh m ∷ []) in
            let body = code ⨾ (make ⨾ just op) in
            let inner = single.scope k t cs top_fits R back failing st h e rest (Fresh n ∷ Fresh m ∷ []) in
            let inside = single.body_at k t cs top_fits R back failing st h e rest b (Fresh n ∷ Fresh m ∷ []) body a in
            let zero_more : st.next + 0 ≡ st.next = omega arith in
            let parts' = parts_at k.statements b code (make ⨾ just op) inside in
            let parts'' = parts_at k.statements (b + count code) make (just op) parts'.1 in
            let known' = knows q st at in
            let knows'' : parts.KnowsVariables k t cs top_fits R back failing vs st.variables inner = record { enough = known'.enough; each = λ y l. two_other (identifier vs y) n m st.next e (fresh_word _ n) (fresh_word _ m) ∙ known'.each y l } in
            single.local_ready k t cs top_fits R back failing st h e rest b (Fresh n ∷ Fresh m ∷ []) body a
            (λ made good later room.
            let un : IsUntold t made st.next = subst (IsUntold t made) zero_more (untold_new t cs st made 2 0 h room (omega arith)) in
            let um : IsUntold t made (st.next + 1) = untold_new t cs st made 2 1 h room (omega arith) in
            subst (Ready made) (sym (block_joined inner b code (make ⨾ just op) rest))
            (parts.fd_ready k t cs top_fits R back failing distinct_word y1 (value.Builtin builtin.Distinct) top known fd_told finds made good inner (block inner (b + count code) (make ⨾ just op) rest) st.next un b (Fresh n) code shape parts'.0
            (first_bound n m st.next e) (two_other (Word fd_word) n m st.next e (fresh_word fd_word n) (fresh_word fd_word m) ∙ scope.fd_is)
            (λ st2 q1 l1 has.
            let um2 = untold_later t cs (λ j. j ≡ st.next) made st2 (st.next + 1) um l1 (λ z. omega (arith, z)) in
            subst (Ready st2) (sym (block_joined inner (b + count code) make (just op) rest))
            (parts.list_ready k t cs top_fits R back failing vs st.variables st2 q1 inner (block inner (b + count code + count make) (just op) rest) (st.next + 1) um2 (b + count code) (Fresh m) ys make lists parts''.0
            (second_bound n m st.next e d) (l1.variables ∙ later.variables) knows''
            (λ st3 q2 l2 list.
            let on = later_on t cs Nothing (λ j. j ≡ st.next + 1) st st2 st3 (later_on t cs Nothing (λ j. j ≡ st.next) st made st2 later l1 (λ j z y. omega (arith, z, y))) l2 (λ j z y. omega (arith, z, y)) in
            let plain = (let s = q2.stands in s.plain) in
            let has3 = value_stays (view_of t st2) (view_of t st3) (own st.next) (value.Builtin builtin.Distinct) l2.keeps has in
            let below : All (λ x. x < length st3.variables) ys = λ j z l. (let v = ap length on.variables in let w = known'.enough in let u = all j z l in omega (arith, v, w, u)) in
            distinct_called st3 q2 inner (b + count code + count make) (Fresh m) st.next (own (st.next + 1)) ys parts''.1 (first_bound n m st.next e) (second_bound n m st.next e d) has3
            (list_vector (view_of t st3) st3.variables plain (own (st.next + 1)) (variables_at st.variables ys) list ∙ ap (λ zs. Known (variables_at zs ys)) (sym on.variables)) among below
            (λ final ok posted'. g final ok (further_of Nothing (Posted Distinct ys ∷ []) st st3 final on posted')))))))

      -- ---- any item

      module _ (y1 : Ident) (top : y1.space ≡ []) (known : Contains t.tells (Is y1 (value.Builtin builtin.Distinct))) (fd_told : Contains t.tells (Is (named [] fd_number) fd_record))
          (finds : (z : Ident) → selects z fd_record (value.Constant (constant.Literal (Atom distinct_word))) ≡ Acts (GivesVariable z y1)) where
        further_as : (n m : ℕ) (ks us : List Constraint) → n ≡ m → ks ≡ us → GoesFurther n ks st rest → GoesFurther m us st rest
        further_as n m ks us p q g = subst (λ i. GoesFurther i us st rest) p (subst (λ z. GoesFurther n z st rest) q g)

        one_item : (i : Item) → constraints_from q (i ∷ []) ≡ item_constraints q i
        one_item i = append-nil (item_constraints q i)

        pub item_ready : (is : List Item) (code : Stmts) → ItemCode root vs is code → At b code → q + products_in is ≤ length st.store → ((i : Item) → Contains is i → IsItem (length vs) i)
            → ((c : Constraint) → Contains (constraints_from q is) c → Contains cs c) → GoesFurther (products_in is) (constraints_from q is) st rest → Ready st (block e b code rest)
        item_ready _ _ (shapes.within {low = low} {high = high} {x = x} {code = code} n l w shape) a fits items among g =
            within_ready low high x n code l w shape (among (Told x (between low high)) (contains_head (Told x (between low high)) [])) a g
        item_ready _ _ (shapes.within_all {low = low} {high = high} {code = code} n w shape) a fits items among g =
            let none_within = withins_none low high (places vs) in
            let none_made : products_in (all_within (places vs) (low, high)) ≡ 0 = omega (arith, none_within) in
            within_all_ready low high n code w shape among a (further_as (products_in (all_within (places vs) (low, high))) 0 (constraints_from q (all_within (places vs) (low, high))) (constraints_from q (all_within (places vs) (low, high))) none_made refl g)
        item_ready _ _ (shapes.forwards {z = z} {k = c} n left right) a fits items among g =
            let item = Compares z c (left ++ right) in
            let terms = (items item (contains_head item [])).0 in
            let many = count_joined left right in
            compare.forwards_ready k t cs top_fits R back failing st h e rest vs scope.differ (knows q st at) n (product_count left) (product_count right) q at.many (omega (arith, fits, many))
            left right refl refl (terms_left (length vs) left right terms) (terms_right (length vs) left right terms) z c b (λ x d. among x (subst (λ y. Contains y x) (sym (one_item item)) d)) a
            (further_as (product_count (left ++ right) + 0) (product_count left + product_count right) (constraints_from q (item ∷ [])) (item_constraints q item) (omega (arith, many)) (one_item item) g)
        item_ready _ _ (shapes.backwards {z = z} {k = c} n left right) a fits items among g =
            let item = Compares z c (right ++ left) in
            let terms = (items item (contains_head item [])).0 in
            let many = count_joined right left in
            compare.backwards_ready k t cs top_fits R back failing st h e rest vs scope.differ (knows q st at) n (product_count left) (product_count right) q at.many (omega (arith, fits, many))
            left right refl refl (terms_right (length vs) right left terms) (terms_left (length vs) right left terms) z c b (λ x d. among x (subst (λ y. Contains y x) (sym (one_item item)) d)) a
            (further_as (product_count (right ++ left) + 0) (product_count left + product_count right) (constraints_from q (item ∷ [])) (item_constraints q item) (omega (arith, many)) (one_item item) g)
        item_ready _ _ (shapes.different {code = code} n m d shape shapes.whole) a fits items among g =
            different_whole y1 top known fd_told finds n code shape (among (Posted Distinct (places vs)) (contains_head (Posted Distinct (places vs)) [])) a g
        item_ready _ _ (shapes.different {xs = xs} {code = code} {make = make} n m d shape (shapes.listed lists)) a fits items among g =
            different_listed y1 top known fd_told finds n code make m xs d shape lists (items (Different xs) (contains_head (Different xs) [])) (among (Posted Distinct xs) (contains_head (Posted Distinct xs) [])) a g
