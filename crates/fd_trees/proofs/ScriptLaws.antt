-- The leaves of a script are its assignments.
use Rattle.std.proofs.Common.{◌≡◌, ℕ, suc, ◌+◌, ◌-◌, ◌<◌, ◌≤◌, ◌⊎◌, inl, inr, ℤ, pos, true, List, [], ◌∷◌, ◌++◌, length, map, take, Contains, All, refl, sym, ◌∙◌, ap, subst, arith, Option, Some, None, IsSomeAnd, ◌↔◌}
use Rattle.std.proofs.lemmas.Int.{ints}
use Rattle.std.proofs.lemmas.List.{length-append, length-take-le, length-replicate, get_or-replicate, get_or-take, get_or_append_left, get_or-append-add, take_at}
use Rattle.std.proofs.lemmas.List.Elements.{All-nil, All-cons, All-weaker, Contains-append_left, Contains-append_right, Contains-append_cases, All-head, All-tail, All-contains}
use Rattle.std.specs.FinSet as set
use Rattle.oz_base.specs.declared.interval.TheConstants.{LEAST_VALUE, GREATEST_VALUE}
use Rattle.oz_base.specs.declared.relation.Relation.TheVariants.{Times, Distinct}
use Rattle.oz_language.specs.declared.kernel.Sign.{Sign}
use Rattle.oz_language.specs.declared.kernel.Sign.TheVariants.{Zero, NotZero, Negative, NotPositive}
use Rattle.oz_domains.specs.Domains.{IntSet, Has, between, least, greatest, IsDomain, is_single}
use Rattle.oz_domains.specs.Positions.{domain, value, all_single, IsIn}
use Rattle.oz_domains.specs.Relations.{Fits, IsSum}
use Rattle.fd_domain.proofs.SetLaws.{has-least, has-greatest, and_left, and_right}
use Rattle.fd_problems.specs.declared.problem.Problem.{Problem}
use Rattle.fd_problems.specs.declared.problem.Distribution.{Distribution}
use Rattle.fd_problems.specs.declared.problem.Item.{Item}
use Rattle.fd_problems.specs.declared.problem.Item.TheVariants.{Compares, Different, Within}
use Rattle.fd_problems.specs.declared.problem.Term.{Term}
use Rattle.fd_problems.specs.declared.problem.Term.TheVariants.{Multiple, Product}
use Rattle.fd_problems.specs.Problems.{IsAnswer, Meets, values_at}
use Rattle.fd_stores.specs.Stores.{Store, Constraint, Posted, Told, IsOver, Solves, settled, total}
use Rattle.fd_stores.specs.Laws.{AreOver}
use Rattle.fd_stores.proofs.Lists.{contains_none, contains_head, contains_tail, contains_cases, contains_map, contains_mapped}
use Rattle.fd_stores.proofs.Sets.{single_value}
use Rattle.fd_stores.proofs.StoreLaws.{values_of_least}
use Rattle.fd_stores.proofs.RunLaws.{solves_parts}
use Rattle.fd_stores.proofs.SettleLaws.{settled_law}
use Rattle.fd_trees.specs.Trees.{leaves, IsSolved, IsAssignment, Follows, distributed, product, Tree, IsTree, tree, answer, answers}
use Rattle.fd_trees.specs.Laws.{IsSearch, IsEnd, AreLeaves}
use Rattle.fd_trees.specs.Scripts.{IsProblem, ScriptLaw, term_variables, products, product_count, linear, relation, item_constraints, item_terms, constraints_from, products_in, constraints, start, AreTerms, IsItem, AreAnswers, SearchLaw, tuple_at, tuples}
use Rattle.fd_trees.proofs.TreeLaws.{leaves_law}
use Rattle.fd_trees.proofs.AnswerLaws.{answers_law, solved_end}
use Rattle.fd_trees.proofs.ExtensionLaws.{between_has, has_between, items_met, met_items, Agree, values_same, holds_same, product_values, length_products, all_extended, IsValue, all_values}
use Rattle.fd_trees.proofs.EndLaws.{ends_law}
use Rattle.fd_trees.proofs.OrderLaws.{order_law}

-- ---- the whole range

abbrev whole : IntSet
whole = between LEAST_VALUE GREATEST_VALUE

whole_domain : IsDomain whole
whole_domain =
    let here = between_has LEAST_VALUE GREATEST_VALUE (pos 0) (omega (arith, ints)) (omega (arith, ints)) in
    let some = has-least whole (pos 0) here in
    record { some = some; low = (has_between LEAST_VALUE GREATEST_VALUE (least whole) some).0; high = (has_between LEAST_VALUE GREATEST_VALUE (greatest whole) (has-greatest whole (pos 0) here)).1 }

-- ---- the constraints are over the variables

module _ (n b : ℕ) (l : n ≤ b) where
  variables_over : (m : ℕ) (ms : List Term) → AreTerms n ms → m + product_count ms ≤ b → All (λ x. x < b) (term_variables m ms)
  variables_over m [] w h = All-nil (λ x. x < b)
  variables_over m (Multiple a x ∷ ms) w h = All-cons (λ x. x < b) x (term_variables m ms) (let k = w.0 in omega arith) (variables_over m ms w.1 h)
  variables_over m (Product a x y ∷ ms) w h = All-cons (λ x. x < b) m (term_variables (suc m) ms) (omega arith) (variables_over (suc m) ms w.1 (omega arith))

  times_over : (x y m : ℕ) → x < n → y < n → m < b → IsOver b (Posted Times (x ∷ y ∷ m ∷ []))
  times_over x y m hx hy hm = (refl, All-cons (λ x. x < b) x (y ∷ m ∷ []) (omega arith) (All-cons (λ x. x < b) y (m ∷ []) (omega arith) (All-cons (λ x. x < b) m [] hm (All-nil (λ x. x < b)))))

  products_over : (m : ℕ) (ms : List Term) → AreTerms n ms → m + product_count ms ≤ b → (c : Constraint) → Contains (products m ms) c → IsOver b c
  products_over m [] w h c i = absurd (contains_none c i)
  products_over m (Multiple a x ∷ ms) w h c i = products_over m ms w.1 h c i
  products_over m (Product a x y ∷ ms) w h c i = elim (contains_cases (Posted Times (x ∷ y ∷ m ∷ [])) c (products (suc m) ms) i) [
    | inl e ↦ subst (IsOver b) e (times_over x y m w.0.0 w.0.1 (omega arith))
    | inr k ↦ products_over (suc m) ms w.1 (omega arith) c k
  ]

  length_variables : (m : ℕ) (ms : List Term) → length (term_variables m ms) ≡ length ms
  length_variables m [] = refl
  length_variables m (Multiple a x ∷ ms) = (let e = length_variables m ms in omega arith)
  length_variables m (Product a x y ∷ ms) = (let e = length_variables (suc m) ms in omega arith)

  relation_fits : (c : Sign) (k : ℤ) (ms : List Term) (j : ℕ) → IsSum (linear k ms) j → Fits (relation c (linear k ms)) j
  relation_fits Zero k ms j h = h
  relation_fits NotZero k ms j h = h
  relation_fits Negative k ms j h = h
  relation_fits NotPositive k ms j h = h

  one_over : (x c : Constraint) → IsOver b x → Contains (x ∷ []) c → IsOver b c
  one_over x c h i = elim (contains_cases x c [] i) [ inl e ↦ subst (IsOver b) e h | inr k ↦ absurd (contains_none c k) ]

  item_over : (m : ℕ) (i : Item) → IsItem n i → m + product_count (item_terms i) ≤ b → (c : Constraint) → Contains (item_constraints m i) c → IsOver b c
  item_over m (Within x low high) w h c i = one_over (Told x (between low high)) c (omega arith) i
  item_over m (Compares d k ms) w h c i = elim (Contains-append_cases (products m ms) (Posted (relation d (linear k ms)) (term_variables m ms) ∷ []) c i) [
    | inl j ↦ products_over m ms w.0 h c j
    | inr j ↦ one_over (Posted (relation d (linear k ms)) (term_variables m ms)) c
        (relation_fits d k ms (length (term_variables m ms)) (subst (IsSum (linear k ms)) (sym (length_variables m ms)) w.1), variables_over m ms w.0 h) j
  ]
  item_over m (Different xs) w h c i = one_over (Posted Distinct xs) c (tt, All-weaker (λ x. x < n) (λ x. x < b) (λ x k. omega (arith, k)) xs w) i

  items_over : (m : ℕ) (is : List Item) → ((i : Item) → Contains is i → IsItem n i) → m + products_in is ≤ b → (c : Constraint) → Contains (constraints_from m is) c → IsOver b c
  items_over m [] w h c i = absurd (contains_none c i)
  items_over m (x ∷ is) w h c i = elim (Contains-append_cases (item_constraints m x) (constraints_from (m + product_count (item_terms x)) is) c i) [
    | inl j ↦ item_over m x (w x (contains_head x is)) (omega arith) c j
    | inr j ↦ items_over (m + product_count (item_terms x)) is (λ y k. w y (contains_tail x y is k)) (omega arith) c j
  ]

-- ---- the products follow

same_or_above : (m z : ℕ) → m ≤ z → (m ≡ z) ⊎ (suc m ≤ z)
same_or_above m z l = grind arith

below_or_not : (z m : ℕ) → (z < m) ⊎ (m ≤ z)
below_or_not z m = grind arith

module _ (cs : List Constraint) (d : Distribution) (s : Store) (n : ℕ) (f : (x : ℕ) → x < n → Follows cs d s x) where
  terms_follow : (m : ℕ) (ms : List Term) → AreTerms n ms → ((c : Constraint) → Contains (products m ms) c → Contains cs c) → (z : ℕ) → m ≤ z → z < m + product_count ms → Follows cs d s z
  terms_follow m [] w h z l k = absurd (omega (arith, l, k))
  terms_follow m (Multiple a x ∷ ms) w h z l k = terms_follow m ms w.1 h z l k
  terms_follow m (Product a x y ∷ ms) w h z l k = elim (same_or_above m z l) [
    | inl e ↦ subst (Follows cs d s) e (product (h (Posted Times (x ∷ y ∷ m ∷ [])) (contains_head (Posted Times (x ∷ y ∷ m ∷ [])) (products (suc m) ms))) (f x w.0.0) (f y w.0.1))
    | inr g ↦ terms_follow (suc m) ms w.1 (λ c i. h c (contains_tail (Posted Times (x ∷ y ∷ m ∷ [])) c (products (suc m) ms) i)) z g (omega arith)
  ]

  item_follows : (m : ℕ) (i : Item) → IsItem n i → ((c : Constraint) → Contains (item_constraints m i) c → Contains cs c) → (z : ℕ) → m ≤ z → z < m + product_count (item_terms i) → Follows cs d s z
  item_follows m (Within x low high) w h z l k = absurd (omega (arith, l, k))
  item_follows m (Compares c j ms) w h z l k = terms_follow m ms w.0 (λ c' i. h c' (Contains-append_left (products m ms) (Posted (relation c (linear j ms)) (term_variables m ms) ∷ []) c' i)) z l k
  item_follows m (Different xs) w h z l k = absurd (omega (arith, l, k))

  items_follow : (m : ℕ) (is : List Item) → ((i : Item) → Contains is i → IsItem n i) → ((c : Constraint) → Contains (constraints_from m is) c → Contains cs c) → (z : ℕ) → m ≤ z → z < m + products_in is → Follows cs d s z
  items_follow m [] w h z l k = absurd (omega (arith, l, k))
  items_follow m (x ∷ is) w h z l k =
      let next = m + product_count (item_terms x) in
      elim (below_or_not z next) [
        | inl g ↦ item_follows m x (w x (contains_head x is)) (λ c i. h c (Contains-append_left (item_constraints m x) (constraints_from next is) c i)) z l g
        | inr g ↦ items_follow next is (λ y i. w y (contains_tail x y is i)) (λ c i. h c (Contains-append_right (item_constraints m x) (constraints_from next is) c i)) z g (omega arith)
      ]

-- ---- the search of a problem

module _ (p : Problem) (h : IsProblem p) where
  abbrev pub size : ℕ
  size = p.count + products_in p.items

  pub long : length (start p) ≡ size
  long = length-replicate size whole

  at_start : (i : ℕ) → i < size → domain (start p) i ≡ whole
  at_start i l = get_or-replicate size i whole set.empty l

  pub over : AreOver (constraints p) (start p)
  over = record {
    domains = λ i l. subst IsDomain (sym (at_start i (let e = long in omega (arith, l)))) whole_domain;
    over = λ c k. subst (λ z. IsOver z c) (sym long) (items_over p.count size (omega arith) p.count p.items h.items (omega arith) c k);
  }

  pub search : IsSearch (constraints p) p.distribution (start p)
  search = record { over = over; within = All-weaker (λ x. x < p.count) (λ x. x < length (start p)) (λ x l. (let e = long in omega (arith, l))) p.distribution.over h.over }

  pub follows : (x : ℕ) → x < length (start p) → Follows (constraints p) p.distribution (start p) x
  follows x l =
      let first = λ (y : ℕ) (k : y < p.count). distributed (h.covers y k) in
      elim (below_or_not x p.count) [
        | inl k ↦ first x k
        | inr k ↦ items_follow (constraints p) p.distribution (start p) p.count first p.count p.items h.items (λ c i. i) x k (let e = long in omega (arith, l))
      ]

  -- ---- solutions and tuples that meet the problem

  pub solves_meets : (v : List ℤ) → Solves (constraints p) (start p) v → Meets p (take p.count v)
  solves_meets v k =
      let inside = k.inside in
      let lv : length v ≡ size = inside.long ∙ long in
      let values : (i : ℕ) → i < size → IsValue (value v i) = λ i l. has_between LEAST_VALUE GREATEST_VALUE (value v i) (subst (λ z. Has z (value v i)) (at_start i l) (inside.each i (let e = long in omega (arith, l)))) in
      let lt : length (take p.count v) ≡ p.count = length-take-le p.count v (omega arith) in
      let agree : Agree p.count (take p.count v) v = λ x l. get_or-take p.count v x (pos 0) l in
      record {
        long = lt;
        values = λ i l. (let m : i < p.count = omega (arith, l) in subst IsValue (sym (agree i m)) (values i (omega (arith, m))));
        each = λ i c. holds_same p.count (take p.count v) v agree i (h.items i c) ∙ met_items p.count size v p.items (λ j l. (values j l).1) (omega arith) k.met i c;
      }

  pub meets_solves : (t : List ℤ) → Meets p t → Solves (constraints p) (start p) (t ++ product_values t p.items)
  meets_solves t m =
      let more = product_values t p.items in
      let v = t ++ more in
      let lt = m.long in
      let lm = length_products t p.items in
      let lv : length v ≡ size = (let e = length-append t more in omega arith) in
      let agree : Agree p.count t v = λ x l. sym (get_or_append_left t more (pos 0) x (omega (arith, l))) in
      let there : (k : ℕ) → k < products_in p.items → value v (p.count + k) ≡ value more k = λ k l. ap (λ n. value v (n + k)) (sym lt) ∙ get_or-append-add t more k (pos 0) in
      let extended = all_extended p.count t v agree p.count p.items h.items there in
      let small = all_values p.count t (λ i l. m.values i (omega (arith, l))) p.items h.items m.each in
      let values : (i : ℕ) → i < size → IsValue (value v i) = λ i l. elim (below_or_not i p.count) [
        | inl k ↦ subst IsValue (agree i k) (m.values i (omega (arith, k)))
        | inr k ↦ (let j : p.count + (i - p.count) ≡ i = omega (arith, k) in subst (λ n. IsValue (value v n)) j (subst IsValue (sym (there (i - p.count) (omega (arith, k, l)))) (small (i - p.count) (pos 0) (omega (arith, k, l)))))
      ] in
      record {
        inside = record { long = lv ∙ sym long; each = λ i l. (let g : i < size = (let e = long in omega (arith, l)) in subst (λ z. Has z (value v i)) (sym (at_start i g)) (between_has LEAST_VALUE GREATEST_VALUE (value v i) (values i g).0 (values i g).1)) };
        met = items_met p.count v p.items extended (λ i c. sym (holds_same p.count t v agree i (h.items i c)) ∙ m.each i c);
      }

  answer_of : (u : List ℤ) → IsAssignment (constraints p) p.distribution (start p) u → IsAnswer p u
  answer_of u a =
      let v = a.0 in
      (take p.count v, solves_meets v a.1, values_same p.count (take p.count v) v (λ x l. get_or-take p.count v x (pos 0) l) p.distribution.over h.over ∙ a.2)

  assignment_of : (u : List ℤ) → IsAnswer p u → IsAssignment (constraints p) p.distribution (start p) u
  assignment_of u a =
      let t = a.0 in
      let m = a.1 in
      let more = product_values t p.items in
      (t ++ more, meets_solves t m, sym (values_same p.count t (t ++ more) (λ x l. sym (get_or_append_left t more (pos 0) x (let e = m.long in omega (arith, l)))) p.distribution.over h.over) ∙ a.2)

-- the tuple of a store whose domains are single
one_tuple : (m : Store) (t : List ℤ) → all_single m ≡ true → IsIn m t → map least m ≡ t
one_tuple [] [] h i = refl
one_tuple [] (x ∷ t) h i = absurd (let l = i.long in omega arith)
one_tuple (d ∷ m) [] h i = absurd (let l = i.long in omega arith)
one_tuple (d ∷ m) (x ∷ t) h i =
    let e = single_value d x (and_left _ _ h) (i.each 0 (omega arith)) in
    let f = one_tuple m t (and_right (is_single d) _ h) (record { long = (let l = i.long in omega arith); each = λ j l. i.each (suc j) (omega (arith, l)) }) in
    λ j. sym e j ∷ f j

mapped : {A B C : Type 0} (f : A → C) (g : B → C) (h : A → B) (xs : List A) → All (λ x. f x ≡ g (h x)) xs → map f xs ≡ map g (map h xs)
mapped f g h [] a = refl
mapped f g h (x ∷ xs) a = (let e = All-head (λ y. f y ≡ g (h y)) x xs a in let r = mapped f g h xs (All-tail (λ y. f y ≡ g (h y)) x xs a) in λ j. e j ∷ r j)

module _ (p : Problem) (h : IsProblem p) (t : Tree) (l : AreLeaves (constraints p) p.distribution (start p) t) where
  end_at : (m : Store) → Contains (leaves t) m → IsEnd (constraints p) p.distribution (start p) m
  end_at m c = All-contains (IsEnd (constraints p) p.distribution (start p)) (leaves t) m l.ends c

  tuple_meets : (m : Store) → Contains (leaves t) m → Meets p (tuple_at p m)
  tuple_meets m c =
      let e = end_at m c in
      solves_meets p h (map least m) (solves_parts (constraints p) (start p) m (map least m) e.parts (solved_end (constraints p) p.distribution (start p) m (over p h) e (follows p h)).2)

  tuple_found : (v : List ℤ) → Meets p v → Contains (tuples p t) v
  tuple_found v k =
      let more = product_values v p.items in
      let f = (l.found (v ++ more)).0 (meets_solves p h v k) in
      let m = f.0 in
      let e = end_at m f.1 in
      let s = f.2 in
      let single = (solved_end (constraints p) p.distribution (start p) m (over p h) e (follows p h)).0 in
      let same : tuple_at p m ≡ v = ap (take p.count) (one_tuple m (v ++ more) single s.inside) ∙ take_at v more p.count k.long in
      subst (Contains (tuples p t)) same (contains_map (tuple_at p) (leaves t) m f.1)

  tuple_of : (v : List ℤ) → Contains (tuples p t) v → Meets p v
  tuple_of v c = (let a = contains_mapped (tuple_at p) (leaves t) v c in subst (Meets p) a.2 (tuple_meets a.0 a.1))

  -- an answer is the tuple in the order of the distributed variables
  answer_reads : (m : Store) → IsEnd (constraints p) p.distribution (start p) m → answer p.distribution m ≡ values_at (tuple_at p m) p.distribution.over
  answer_reads m e =
      let q = e.parts in
      let lm : length m ≡ size p h = q.long ∙ long p h in
      sym (values_of_least m p.distribution.over (All-weaker (λ x. x < p.count) (λ x. x < length m) (λ x k. omega (arith, k)) p.distribution.over h.over))
      ∙ sym (values_same p.count (tuple_at p m) (map least m) (λ x k. get_or-take p.count (map least m) x (pos 0) k) p.distribution.over h.over)

pub script_law : ScriptLaw
script_law p t h i =
    let s = search p h in
    let l = leaves_law (constraints p) p.distribution (start p) t s i in
    let a = answers_law (constraints p) p.distribution (start p) t s (follows p h) i in
    let answered : (u : List ℤ) → Contains (answers p.distribution t) u ↔ IsAnswer p u = λ u. ((λ c. answer_of p h u ((a.1 u).0 c)), λ k. (a.1 u).1 (assignment_of p h u k)) in
    record {
      solved = All-weaker (λ m. (all_single m ≡ true) × IsSolved (constraints p) m × Solves (constraints p) m (map least m)) (IsSolved (constraints p)) (λ m k. k.1) (leaves t) a.0;
      each = λ v. (tuple_of p h t l v, tuple_found p h t l v);
      reads = mapped (answer p.distribution) (λ v. values_at v p.distribution.over) (tuple_at p) (leaves t) (All-weaker (IsEnd (constraints p) p.distribution (start p)) (λ m. answer p.distribution m ≡ values_at (tuple_at p m) p.distribution.over) (answer_reads p h t l) (leaves t) l.ends);
      answered = answered;
      once = l.once;
      ordered = l.ordered;
      listed = λ e us k w. order_law (answers p.distribution t) us (l.ordered e) k (λ u. (λ c. (w u).1 ((answered u).0 c), λ c. (answered u).1 ((w u).0 c)));
    }

some_weaker : {A : Type 0} (o : Option A) (P Q : A → Type 0) → IsSomeAnd o P → ((x : A) → P x → Q x) → IsSomeAnd o Q
some_weaker None P Q h k = h
some_weaker (Some x) P Q h k = k x h

pub search_law : SearchLaw
search_law p h =
    let e = ends_law (constraints p) p.distribution (settled (constraints p)) (start p) (search p h) (settled_law (constraints p)) in
    some_weaker (tree (settled (constraints p)) p.distribution (total (start p) + 1) (start p)) (IsTree (constraints p) p.distribution (start p)) (AreAnswers p) (e.enough (total (start p) + 1) (omega arith)) (λ t i. script_law p t h i)
