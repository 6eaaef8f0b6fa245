-- The parts of statements: bounds, lists and procedures of `FD`.
use Rattle.std.proofs.Common.{◌≡◌, ◌≢◌, inl, inr, ℕ, ℤ, pos, suc, ◌+◌, ◌<◌, ◌≤◌, true, List, [], ◌∷◌, length, map, Contains, sym, ◌∙◌, ap, subst, arith}
use Rattle.std.proofs.lemmas.List.Elements.{Contains-append_left}
use Rattle.std.specs.List.{range_with_len}
use Rattle.environments.specs.Environments.{Environment, bound, binding_all}
use Rattle.oz_base.specs.declared.names.Ident.{Ident}
use Rattle.oz_language.specs.Wording.{hash_word}
use Rattle.oz_language.specs.declared.token.Literal.TheVariants.{Atom}
use Rattle.oz_language.specs.declared.kernel.Identifier.{Identifier}
use Rattle.oz_language.specs.declared.kernel.Identifier.TheVariants.{Word, Fresh}
use Rattle.oz_language.specs.declared.kernel.Constant.{Constant}
use Rattle.oz_language.specs.declared.kernel.Constant.TheVariants as constant
use Rattle.oz_language.specs.declared.kernel.Operation.TheVariants as operation
use Rattle.oz_language.specs.declared.kernel.Kernel.{Kernel}
use Rattle.oz_language.specs.Kernels.{Stmt, Stmts, none, followed, just}
use Rattle.oz_language.specs.Kernels as kernel
use Rattle.oz_language.specs.Translation.{nil_constant, cell_bound}
use Rattle.oz_semantics.specs.Names.{named}
use Rattle.oz_semantics.specs.Values.{integer}
use Rattle.oz_semantics.specs.Store.{itself, is_consistent, value_of}
use Rattle.oz_semantics.specs.Inputs.{Known}
use Rattle.oz_semantics.specs.Constraints.{bounds}
use Rattle.oz_semantics.specs.Answers.{Acts, GivesValue, GivesVariable, given}
use Rattle.oz_semantics.specs.Builtins.{selects}
use Rattle.oz_semantics.specs.Effects.{stream_value}
use Rattle.oz_semantics.specs.Runs.{fd_record, fd_number}
use Rattle.oz_semantics.specs.Spaces.{goes_on}
use Rattle.oz_semantics.specs.declared.value.Value.{Value}
use Rattle.oz_semantics.specs.declared.value.Value.TheVariants as value
use Rattle.oz_semantics.specs.declared.value.Tell.TheVariants.{Is}
use Rattle.oz_semantics.specs.declared.configuration.Frame.{Frame}
use Rattle.oz_semantics.specs.declared.configuration.Configuration.{Configuration}
use Rattle.view_laws.specs.Readies.{Keeps}
use Rattle.kernel_form.proofs.Standing.{split_statement}
use Rattle.fd_stores.specs.Stores.{Store, Constraint, Runs, Fails}
use Rattle.fd_stores.proofs.Lists.{contains_none, contains_cases}
use Rattle.fd_views.specs.Views.{variable_at, variables_at, HasValue, hash_value, IsList, ends, cell}
use Rattle.fd_views.proofs.ValueLaws.{value_is}
use Rattle.fd_views.proofs.StandLaws.{variable_in}
use Rattle.fd_views.proofs.InputLaws.{one_bound, two_bounds}
use Rattle.fd_form.specs.Parts.{fd_word}
use Rattle.fd_form_law.specs.Posts.{identifier}
use Rattle.fd_codes.specs.Codes.{BoundsCode, one, two, ListCode, FdCode, selects as selecting}
use Rattle.fd_codes.specs.Codes as shapes
use Rattle.fd_turns.specs.Nodes.{Top, node_space, own, failed_config}
use Rattle.fd_steps.specs.States.{State, with_room, view_of, IsBelow, IsGood, IsLater}
use Rattle.fd_steps.proofs.DueTurns.{MovesTo, Nothing, later_wider}
use Rattle.fd_execution.proofs.ScopeLaws.{AreAt, block}
use Rattle.fd_execution.proofs.UntoldLaws.{value_stays, IsUntold, untold_later, untold_new, later_on, one_other, one_bound as one_name, first_bound, second_bound, two_other, fresh_word}
use Rattle.fd_execution.proofs.StatementLaws as single

module _ (k : Kernel) (t : Top) (cs : List Constraint) (top_fits : is_consistent t.tells ≡ true) (R : Configuration → Store → Type 0)
    (back : (c d : Configuration) (s m : Store) → goes_on k.statements c.layers node_space ≡ true → MovesTo k c d → Runs cs s m → R d m → R c s)
    (failing : (c : Configuration) (n : ℕ) (s : Store) → goes_on k.statements c.layers node_space ≡ true → MovesTo k c (failed_config t n) → Fails cs s → R c s) where
  abbrev Ready : State → List Frame → Type 0
  Ready st frames = single.Ready k t cs top_fits R back failing st frames

  abbrev Continues : (ℕ → Type 0) → (State → Type 0) → State → List Frame → Type 0
  Continues told Fact st frames = single.Continues k t cs top_fits R back failing told Fact st frames

  abbrev At : ℕ → Stmts → Type 0
  At b code = AreAt k.statements b code

  -- what comes behind the first statement
  pub rest_at : (b : ℕ) (s : Stmt) (ss : Stmts) → At b (followed s ss) → At (b + suc (kernel.inside s)) ss
  rest_at b s ss a = (split_statement k.statements s ss b a).2

  -- ---- a constant

  module _ (st : State) (h : IsGood t cs st) (e : Environment) (rest : List Frame) (i : ℕ) (u : IsUntold t st i) where
    abbrev HasIt : Value → State → Type 0
    HasIt v later = HasValue (view_of t later) (own i) v

    pub constant_ready : (b : ℕ) (x : Identifier) (c : Constant) (ss : Stmts) → At b (followed (kernel.bind x c) ss) → bound e x ≡ own i
        → Continues (λ j. j ≡ i) (HasIt (value.Constant c)) st (block e (b + 1) ss rest) → Ready st (block e b (followed (kernel.bind x c) ss) rest)
    constant_ready b x c ss a f g =
        single.value_ready k t cs top_fits R back failing st h e (block e (b + 1) ss rest) i (value.Constant c) u.inside u.free u.other (λ y d. absurd (contains_none y d)) (single.frame e b (kernel.bind x c))
        (single.answers k t cs top_fits R back failing st e b (kernel.bind x c) ss (block e (b + 1) ss rest) a ∙ ap (λ y. Acts (GivesValue y (value.Constant c))) f) g

  -- ---- bounds

  abbrev IsDescribed : ℕ → ℤ → ℤ → State → Type 0
  IsDescribed i low high later = bounds (view_of t later) (own i) ≡ Known (low, high)

  -- L#H, with the identifiers n and m of its ends
  module _ (st : State) (h : IsGood t cs st) (e : Environment) (rest : List Frame) (i : ℕ) (u : IsUntold t st i) (b : ℕ) (x : Identifier) (low high : ℤ) (n m : ℕ) (d : n ≢ m) (p : x ≢ Fresh n) (q : x ≢ Fresh m) (f : bound e x ≡ own i)
      (g : Continues (λ j. j ≡ i) (IsDescribed i low high) st rest) where
    abbrev inner : Environment
    inner = single.scope k t cs top_fits R back failing st h e rest (Fresh n ∷ Fresh m ∷ [])

    abbrev ends_code : Stmts
    ends_code = followed (kernel.bind (Fresh n) (constant.Int low)) (just (kernel.bind (Fresh m) (constant.Int high)))

    abbrev pair : Stmt
    pair = kernel.bind_record x (Atom hash_word) (constant.Int (pos 1) ∷ constant.Int (pos 2) ∷ []) (Fresh n ∷ Fresh m ∷ [])

    abbrev low_at : ℕ
    low_at = st.next

    abbrev high_at : ℕ
    high_at = st.next + 1

    apart : low_at ≡ high_at → ⊥
    apart e' = omega (arith, e')

    below_pair : (later : State) → IsLater t cs Nothing (with_room 2 st) later → (y : Ident) → Contains (own low_at ∷ own high_at ∷ []) y → IsBelow later.next y
    below_pair later l y c = elim (contains_cases (own low_at) y (own high_at ∷ []) c) [
      | inl z ↦ inr (low_at, (let w = l.next in omega (arith, w)), sym z)
      | inr r ↦ elim (contains_cases (own high_at) y [] r) [ inl z ↦ inr (high_at, (let w = l.next in omega (arith, w)), sym z) | inr z ↦ absurd (contains_none y z) ]
    ]

    pair_answer : (later : State) (more : List Frame) → At b (followed pair ends_code) → single.Answers k t cs top_fits R back failing later (single.frame inner b pair ∷ more) (Acts (GivesValue (own i) (hash_value (own low_at) (own high_at))))
    pair_answer later more a =
        single.answers k t cs top_fits R back failing later inner b pair ends_code more a
        ∙ (λ j. Acts (GivesValue ((two_other x n m st.next e p q ∙ f) j) (hash_value (first_bound n m st.next e j) (second_bound n m st.next e d j))))

    pub pair_ready : At b (followed pair ends_code) → (made : State) → IsGood t cs made → IsLater t cs Nothing st made → IsLater t cs Nothing (with_room 2 st) made → Ready made (block inner b (followed pair ends_code) rest)
    pair_ready a made good later room =
        let ui = untold_later t cs Nothing st made i u later (λ z. z) in
        let zero_more : st.next + 0 ≡ st.next = omega arith in
        let un : IsUntold t made low_at = subst (IsUntold t made) zero_more (untold_new t cs st made 2 0 h room (omega arith)) in
        let um : IsUntold t made high_at = untold_new t cs st made 2 1 h room (omega arith) in
        let old = u.inside in
        single.value_ready k t cs top_fits R back failing made good inner (block inner (b + 1) ends_code rest) i (hash_value (own low_at) (own high_at)) ui.inside ui.free ui.other (below_pair made room) (single.frame inner b pair)
        (pair_answer made (block inner (b + 1) ends_code rest) a)
        (λ paired q1 l1 v1. constant_ready paired q1 inner rest low_at (untold_later t cs (λ j. j ≡ i) made paired low_at un l1 (λ z. omega (arith, z, old))) (b + 1) (Fresh n) (constant.Int low) (just (kernel.bind (Fresh m) (constant.Int high)))
        (rest_at b pair ends_code a) (first_bound n m st.next e)
        (λ lower q2 l2 v2. constant_ready lower q2 inner rest high_at (untold_later t cs (λ j. j ≡ low_at) paired lower high_at (untold_later t cs (λ j. j ≡ i) made paired high_at um l1 (λ z. omega (arith, z, old))) l2 (λ z. omega (arith, z))) (b + 1 + 1) (Fresh m) (constant.Int high) none
        (rest_at (b + 1) (kernel.bind (Fresh n) (constant.Int low)) (just (kernel.bind (Fresh m) (constant.Int high))) (rest_at b pair ends_code a)) (second_bound n m st.next e d)
        (λ upper q3 l3 v3.
        let keeps2 = l3.keeps in
        let keeps1 : Keeps (view_of t paired) (view_of t upper) = λ z c. l3.keeps z (l2.keeps z c) in
        g upper q3
        (later_on t cs (λ j. j ≡ i) (λ j. j ≡ high_at) st lower upper (later_on t cs (λ j. j ≡ i) (λ j. j ≡ low_at) st paired lower (later_on t cs (λ j. j ≡ i) (λ j. j ≡ i) st made paired (later_wider t cs Nothing (λ j. j ≡ i) st made (λ j z. absurd z) later) l1 (λ j z y. y)) l2 (λ j z y. absurd (omega (arith, z, y)))) l3 (λ j z y. absurd (omega (arith, z, y))))
        (let s = q3.stands in two_bounds (view_of t upper) upper.variables s.plain (own i) (own low_at) (own high_at) low high (value_stays (view_of t paired) (view_of t upper) (own i) (hash_value (own low_at) (own high_at)) keeps1 v1)
        (value_stays (view_of t lower) (view_of t upper) (own low_at) (integer low) keeps2 v2) v3))))

  pub bounds_ready : (st : State) (h : IsGood t cs st) (e : Environment) (rest : List Frame) (i : ℕ) (u : IsUntold t st i) (b : ℕ) (x : Identifier) (low high : ℤ) (code : Stmts) → BoundsCode x low high code → At b code → bound e x ≡ own i
      → Continues (λ j. j ≡ i) (IsDescribed i low high) st rest → Ready st (block e b code rest)
  bounds_ready st h e rest i u b x _ _ _ (one {i = c}) a f g =
      constant_ready st h e rest i u b x (constant.Int c) none a f (λ later q l v. g later q l (let s = q.stands in one_bound (view_of t later) later.variables s.plain (own i) c v))
  bounds_ready st h e rest i u b x _ _ _ (two {low = low} {high = high} n m d p q) a f g =
      let body = followed (pair st h e rest i u b x low high n m d p q f g) (ends_code st h e rest i u b x low high n m d p q f g) in
      single.local_ready k t cs top_fits R back failing st h e rest b (Fresh n ∷ Fresh m ∷ []) body a
      (λ later good l room. pair_ready st h e rest i u b x low high n m d p q f g (single.body_at k t cs top_fits R back failing st h e rest b (Fresh n ∷ Fresh m ∷ []) body a) later good l room)

  -- ---- lists

  -- the environment has the variables of the problem, which are the first of these
  pub record KnowsVariables (vs : List ℕ) (xs : List Ident) (e : Environment) : Type 0 where
    pub enough : length vs ≤ length xs
    pub each : (y : ℕ) → y < length vs → bound e (identifier vs y) ≡ variable_at xs y

  pub knows_inside : (vs : List ℕ) (xs : List Ident) (e : Environment) (n i : ℕ) → KnowsVariables vs xs e → KnowsVariables vs xs (binding_all (Fresh n ∷ []) (map own (range_with_len i 1)) e)
  knows_inside vs xs e n i h = record { enough = h.enough; each = λ y l. one_other (identifier vs y) n i e (fresh_word _ n) ∙ h.each y l }

  abbrev IsListed : ℕ → List Ident → State → Type 0
  IsListed i ys later = IsList (view_of t later) (own i) ys

  pub list_ready : (vs : List ℕ) (xs : List Ident) (st : State) (h : IsGood t cs st) (e : Environment) (rest : List Frame) (i : ℕ) (u : IsUntold t st i) (b : ℕ) (x : Identifier) (ys : List ℕ) (code : Stmts) → ListCode vs x ys code → At b code → bound e x ≡ own i
      → st.variables ≡ xs → KnowsVariables vs xs e → Continues (λ j. j ≡ i) (IsListed i (variables_at xs ys)) st rest → Ready st (block e b code rest)
  list_ready vs xs st h e rest i u b x _ _ shapes.ends a f same knows g = constant_ready st h e rest i u b x nil_constant none a f (λ later q l v. g later q l (ends v))
  list_ready vs xs st h e rest i u b x _ _ (shapes.cell {y = y} {ys = ys} {code = code} n l p more) a f same knows g =
      let head = cell_bound x (identifier vs y) (Fresh n) in
      let body = followed head code in
      let inner = single.scope k t cs top_fits R back failing st h e rest (Fresh n ∷ []) in
      let v = stream_value (variable_at xs y) (own st.next) in
      let inside = single.body_at k t cs top_fits R back failing st h e rest b (Fresh n ∷ []) body a in
      let knows' = knows_inside vs xs e n st.next knows in
      let old = u.inside in
      let zero_more : st.next + 0 ≡ st.next = omega arith in
      single.local_ready k t cs top_fits R back failing st h e rest b (Fresh n ∷ []) body a
      (λ made good later room.
      let ui = untold_later t cs Nothing st made i u later (λ z. z) in
      let un : IsUntold t made st.next = subst (IsUntold t made) zero_more (untold_new t cs st made 1 0 h room (omega arith)) in
      let among : Contains st.variables (variable_at xs y) = subst (λ zs. Contains zs (variable_at xs y)) (sym same) (variable_in xs y (let w = knows.enough in omega (arith, l, w))) in
      let below : (z : Ident) → Contains (variable_at xs y ∷ own st.next ∷ []) z → IsBelow made.next z = λ z c. elim (contains_cases (variable_at xs y) z (own st.next ∷ []) c) [
        | inl w ↦ (let k' = h.given (variable_at xs y) among in inr (k'.0, (let r = later.next in omega (arith, r, k'.1)), sym w ∙ k'.2))
        | inr w ↦ elim (contains_cases (own st.next) z [] w) [ inl w' ↦ inr (st.next, un.inside, sym w') | inr w' ↦ absurd (contains_none z w') ]
      ] in
      single.value_ready k t cs top_fits R back failing made good inner (block inner (b + 1) code rest) i v ui.inside ui.free ui.other below (single.frame inner b head)
      (single.answers k t cs top_fits R back failing made inner b head code (block inner (b + 1) code rest) inside
      ∙ (λ j. Acts (GivesValue ((one_other x n st.next e p ∙ f) j) (stream_value (knows'.each y l j) (one_name n st.next e j)))))
      (λ paired q1 l1 v1. list_ready vs xs paired q1 inner rest st.next (untold_later t cs (λ j. j ≡ i) made paired st.next un l1 (λ z. omega (arith, z, old))) (b + 1) (Fresh n) ys code more (rest_at b head code inside)
      (one_name n st.next e) (l1.variables ∙ later.variables ∙ same) knows'
      (λ last q2 l2 list. g last q2
      (later_on t cs (λ j. j ≡ i) (λ j. j ≡ st.next) st paired last (later_on t cs (λ j. j ≡ i) (λ j. j ≡ i) st made paired (later_wider t cs Nothing (λ j. j ≡ i) st made (λ j z. absurd z) later) l1 (λ j z w. w)) l2 (λ j z w. absurd (omega (arith, z, w))))
      (cell (value_stays (view_of t paired) (view_of t last) (own i) v l2.keeps v1) list))))

  -- ---- procedures of FD

  module _ (word : ℕ) (y : Ident) (v : Value) (top : y.space ≡ []) (known : Contains t.tells (Is y v)) (fd_told : Contains t.tells (Is (named [] fd_number) fd_record))
      (finds : (z : Ident) → selects z fd_record (value.Constant (constant.Literal (Atom word))) ≡ Acts (GivesVariable z y)) where
    select_answer : (st : State) (h : IsGood t cs st) (z f : Ident) → HasValue (view_of t st) f (value.Constant (constant.Literal (Atom word)))
        → given (named [] fd_number) (value_of (view_of t st) (named [] fd_number)) (λ w. given f (value_of (view_of t st) f) (selects z w)) ≡ Acts (GivesVariable z y)
    select_answer st h z f w =
        let s = h.stands in
        let record_is = value_is (view_of t st) st.variables (named [] fd_number) fd_record s.plain (record { variable = named [] fd_number; equal = itself; told = Contains-append_left t.tells st.tells (Is (named [] fd_number) fd_record) fd_told }) in
        let feature_is = value_is (view_of t st) st.variables f (value.Constant (constant.Literal (Atom word))) s.plain w in
        ap (λ o. given (named [] fd_number) o (λ w'. given f (value_of (view_of t st) f) (selects z w'))) record_is
        ∙ ap (λ o. given f o (selects z fd_record)) feature_is ∙ finds z

    pub fd_ready : (st : State) (h : IsGood t cs st) (e : Environment) (rest : List Frame) (i : ℕ) (u : IsUntold t st i) (b : ℕ) (x : Identifier) (code : Stmts) → FdCode x word code → At b code → bound e x ≡ own i → bound e (Word fd_word) ≡ named [] fd_number
        → Continues (λ j. j ≡ i) (λ later. HasValue (view_of t later) (own i) v) st rest → Ready st (block e b code rest)
    fd_ready st h e rest i u b x _ (selecting n p) a f fd g =
        let feature = kernel.bind (Fresh n) (constant.Literal (Atom word)) in
        let select = kernel.operate operation.Select (Word fd_word ∷ Fresh n ∷ x ∷ []) in
        let body = followed feature (just select) in
        let inner = single.scope k t cs top_fits R back failing st h e rest (Fresh n ∷ []) in
        let inside = single.body_at k t cs top_fits R back failing st h e rest b (Fresh n ∷ []) body a in
        let old = u.inside in
        let zero_more : st.next + 0 ≡ st.next = omega arith in
        single.local_ready k t cs top_fits R back failing st h e rest b (Fresh n ∷ []) body a
        (λ made good later room.
        let ui = untold_later t cs Nothing st made i u later (λ z. z) in
        let un : IsUntold t made st.next = subst (IsUntold t made) zero_more (untold_new t cs st made 1 0 h room (omega arith)) in
        constant_ready made good inner rest st.next un b (Fresh n) (constant.Literal (Atom word)) (just select) inside (one_name n st.next e)
        (λ featured q1 l1 v1.
        let uf = untold_later t cs (λ j. j ≡ st.next) made featured i ui l1 (λ z. omega (arith, z, old)) in
        single.equation_ready k t cs top_fits R back failing featured q1 inner rest i y v uf.inside uf.free uf.other top known (single.frame inner (b + 1) select)
        (single.answers k t cs top_fits R back failing featured inner (b + 1) select none rest (rest_at b feature (just select) inside)
        ∙ (λ j. given ((one_other (Word fd_word) n st.next e (fresh_word fd_word n) ∙ fd) j) (value_of (view_of t featured) ((one_other (Word fd_word) n st.next e (fresh_word fd_word n) ∙ fd) j))
        (λ w. given (one_name n st.next e j) (value_of (view_of t featured) (one_name n st.next e j)) (selects ((one_other x n st.next e p ∙ f) j) w)))
        ∙ select_answer featured q1 (own i) (own st.next) v1)
        (λ last q2 l2 v2. g last q2
        (later_on t cs (λ j. j ≡ i) (λ j. j ≡ i) st featured last (later_on t cs (λ j. j ≡ i) (λ j. j ≡ st.next) st made featured (later_wider t cs Nothing (λ j. j ≡ i) st made (λ j z. absurd z) later) l1 (λ j z w. absurd (omega (arith, z, w)))) l2 (λ j z w. w))
        v2)))
