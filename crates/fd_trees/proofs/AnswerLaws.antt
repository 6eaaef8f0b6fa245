-- Leaves that are solutions.
use Rattle.std.proofs.Common.{◌≡◌, ℕ, suc, ◌<◌, inl, inr, ℤ, pos, ◌*ℤ◌, ◌≤ℤ◌, Bool, true, false, cond, not, ◌&&◌, List, [], ◌∷◌, length, map, get_or, Contains, All, Some, None, IfSome, int_le, refl, sym, ◌∙◌, ap, subst, arith}
use Rattle.std.proofs.lemmas.List.{get_or-map}
use Rattle.std.proofs.lemmas.List.Elements.{All-head, All-tail, All-contains, All-weaker}
use Rattle.std.proofs.lemmas.Int.{ints}
use Rattle.std.specs.FinSet as set
use Rattle.oz_base.specs.declared.relation.Relation.{Relation}
use Rattle.oz_base.specs.declared.relation.Relation.TheVariants.{Times}
use Rattle.oz_domains.specs.Domains.{IntSet, Has, least, greatest, is_single}
use Rattle.oz_domains.specs.Positions.{domain, value, IsIn, AreParts, AreDomains, all_single}
use Rattle.oz_domains.specs.Relations.{allowed}
use Rattle.oz_domains.specs.Passes.{pass, decided, most_product, least_product, product_pass, factors_pass, times_pass}
use Rattle.fd_domain.proofs.SetLaws.{and_left, and_right, and_both, single_is}
use Rattle.fd_domain.proofs.IntervalLaws.{le_true}
use Rattle.propagators.proofs.PassLaws.{factors_pass-parts}
use Rattle.fd_problems.specs.declared.problem.Distribution.{Distribution}
use Rattle.fd_problems.specs.Problems.{values_at}
use Rattle.fd_stores.specs.Stores.{Store, Constraint, Posted, Told, domains_at, meets, IsOver, Solves, told, run}
use Rattle.fd_stores.specs.Laws.{AreOver}
use Rattle.fd_stores.proofs.Sets.{single_value, single_part, is_single_of}
use Rattle.fd_stores.proofs.Lists.{at_some, then_if, if_both, weaker, contains_none, contains_cases, contains_map, contains_mapped}
use Rattle.fd_stores.proofs.StoreLaws.{Kept, keep_kept, kept_part, kept_passes, ToldTo, told_to, told_fits, tuple_in, values_of_least, run_decides}
use Rattle.fd_stores.proofs.RunLaws.{solves_parts}
use Rattle.fd_stores.proofs.NoteLaws.{told_has}
use Rattle.fd_trees.specs.Trees.{Tree, leaves, is_decided, IsSolved, answer, answers, IsAssignment, Follows, distributed, determined, constant, product}
use Rattle.fd_trees.specs.Laws.{IsSearch, IsEnd, AreLeaves, SolvedLaw, AnswersLaw}
use Rattle.fd_trees.proofs.TreeLaws.{leaves_law}

-- ---- constraints at rest

-- at rest the least values meet each constraint that is decided
met_at : (c : Constraint) (m : Store) → IsOver (length m) c → AreDomains m → run c m ≡ Some m → is_decided m c ≡ true → meets c (map least m) ≡ true
met_at (Posted r xs) m o d e h = by (meets (Posted r xs) (map least m)) refl where
  by : (b : Bool) → meets (Posted r xs) (map least m) ≡ b → b ≡ true
  by true f = refl
  by false f = (let n = (run_decides (Posted r xs) m o d h).1 f in cc)
met_at (Told x v) m o d e h =
    let k = d x o in
    ap (set.contains v) (get_or-map least m x set.empty (pos 0) o) ∙ told_has x v m m o e (least (domain m x)) k.some

pub solved_leaf : (cs : List Constraint) (d : Distribution) (s m : Store) → IsEnd cs d s m → IsSolved cs m → Solves cs m (map least m)
solved_leaf cs d s m e h = (let o = e.over in record { inside = tuple_in m o.domains; met = λ c k. met_at c m (o.over c k) o.domains (e.rest c k) (h c k) })

pub solved_law : SolvedLaw
solved_law cs d s t h i = (let l = leaves_law cs d s t h i in All-weaker (IsEnd cs d s) (λ m. IsSolved cs m → Solves cs m (map least m)) (λ m e. solved_leaf cs d s m e) (leaves t) l.ends)

-- ---- products

module _ (low high : ℤ) where
  abbrev Between : IntSet → Type 0
  Between d = (q : ℤ) → Has d q → (low ≤ℤ q) × (q ≤ℤ high)

  between_decided : (r : Relation) (ds : List IntSet) → Between (domain ds 2) → IfSome (decided r ds) (λ new. Between (domain new 2))
  between_decided r ds h = by (all_single ds && not (allowed r (map least ds))) where
    by : (b : Bool) → IfSome (cond b None (Some ds)) (λ new. Between (domain new 2))
    by true = tt
    by false = h

product_between : (ds : List IntSet) → length ds ≡ 3 → IfSome (product_pass ds) (λ new. (length new ≡ 3) × Between (least (domain ds 0) *ℤ least (domain ds 1)) (greatest (domain ds 0) *ℤ greatest (domain ds 1)) (domain new 2))
product_between ds l =
    let high = greatest (domain ds 0) *ℤ greatest (domain ds 1) in
    let low = least (domain ds 0) *ℤ least (domain ds 1) in
    then_if (most_product ds) least_product (Kept 2 (λ v. int_le v high) ds) (λ new. (length new ≡ 3) × Between low high (domain new 2)) (keep_kept 2 (λ v. int_le v high) ds (omega arith)) (λ es e k.
    let a = k.others 0 (λ z. omega (arith, z)) in
    let b = k.others 1 (λ z. omega (arith, z)) in
    let m : length es ≡ 3 = k.long ∙ l in
    let there : least (domain es 0) *ℤ least (domain es 1) ≡ low = λ i. least (a i) *ℤ least (b i) in
    let test = λ (v : ℤ). int_le (least (domain es 0) *ℤ least (domain es 1)) v in
    weaker (least_product es) (Kept 2 test es) (λ new. (length new ≡ 3) × Between low high (domain new 2)) (keep_kept 2 test es (omega arith))
    (λ fs j. (
      j.long ∙ m,
      λ q h. (
        subst (λ z. z ≤ℤ q) there (le_true _ _ (kept_passes 2 test es fs (omega arith) j q h)),
        le_true _ _ (kept_passes 2 (λ v. int_le v high) ds es (omega arith) k q (kept_part 2 test es fs (omega arith) j 2 q h)),
      ),
    )))

times_between : (ds : List IntSet) → length ds ≡ 3 → IfSome (times_pass ds) (λ new. Between (least (domain ds 0) *ℤ least (domain ds 1)) (greatest (domain ds 0) *ℤ greatest (domain ds 1)) (domain new 2))
times_between ds l =
    let high = greatest (domain ds 0) *ℤ greatest (domain ds 1) in
    let low = least (domain ds 0) *ℤ least (domain ds 1) in
    then_if (product_pass ds) factors_pass (λ new. (length new ≡ 3) × Between low high (domain new 2)) (λ new. Between low high (domain new 2)) (product_between ds l)
    (λ es e k. weaker (factors_pass es) (λ new. AreParts new es) (λ new. Between low high (domain new 2)) (factors_pass-parts es k.0) (λ new p q h. k.1 q (p.each 2 q h)))

-- at rest the product of determined factors is determined
product_single : (x y z : ℕ) (m : Store) → IsOver (length m) (Posted Times (x ∷ y ∷ z ∷ [])) → AreDomains m → run (Posted Times (x ∷ y ∷ z ∷ [])) m ≡ Some m → is_single (domain m x) ≡ true → is_single (domain m y) ≡ true → is_single (domain m z) ≡ true
product_single x y z m o d e hx hy =
    let xs = x ∷ y ∷ z ∷ [] in
    let ds = domains_at m xs in
    let high = greatest (domain m x) *ℤ greatest (domain m y) in
    let low = least (domain m x) *ℤ least (domain m y) in
    let same : low ≡ high = λ i. single_is (domain m x) hx i *ℤ single_is (domain m y) hy i in
    let passed : IfSome (pass Times ds) (λ new. Between low high (domain new 2))
    = then_if (times_pass ds) (decided Times) (λ new. Between low high (domain new 2)) (λ new. Between low high (domain new 2)) (times_between ds refl) (λ es f h. between_decided low high Times es h) in
    let ran : IfSome (run (Posted Times xs) m) (λ e. Between low high (domain e z))
    = then_if (pass Times ds) (λ new. told xs new m) (λ new. AreParts new ds × Between low high (domain new 2)) (λ e. Between low high (domain e z))
    (if_both (pass Times ds) (λ new. AreParts new ds) (λ new. Between low high (domain new 2)) (told_fits Times xs m o.0) passed)
    (λ new f h. weaker (told xs new m) (ToldTo xs new m) (λ e. Between low high (domain e z)) (told_to xs new m o.1 d) (λ e g q k. (let p = h.0 in let l = p.long in h.1 q (g.within 2 (omega arith) (omega (arith, l)) q k)))) in
    let between = at_some (run (Posted Times xs) m) m (λ e. Between low high (domain e z)) ran e in
    let some = d z (o.1 2 0 (omega arith)) in
    is_single_of (domain m z) (least (domain m z)) low some.some (λ w k. (let b = between w k in let b0 = b.0 in let b1 = b.1 in omega (arith, ints)))

-- ---- variables that follow

single_at : (m : Store) (xs : List ℕ) (x : ℕ) → all_single (domains_at m xs) ≡ true → Contains xs x → is_single (domain m x) ≡ true
single_at m [] x h c = absurd (contains_none x c)
single_at m (y ∷ xs) x h c = elim (contains_cases y x xs c) [
  | inl e ↦ subst (λ w. is_single (domain m w) ≡ true) e (and_left _ _ h)
  | inr k ↦ single_at m xs x (and_right (is_single (domain m y)) _ h) k
]

all_positions : (m : Store) (xs : List ℕ) → ((i : ℕ) → i < length xs → is_single (domain m (get_or xs i 0)) ≡ true) → all_single (domains_at m xs) ≡ true
all_positions m [] h = refl
all_positions m (x ∷ xs) h = and_both _ _ (h 0 (omega arith)) (all_positions m xs (λ i l. h (suc i) (omega (arith, l))))

all_domains : (m : Store) → ((i : ℕ) → i < length m → is_single (domain m i) ≡ true) → all_single m ≡ true
all_domains [] h = refl
all_domains (c ∷ m) h = and_both _ _ (h 0 (omega arith)) (all_domains m (λ i l. h (suc i) (omega (arith, l))))

module _ (cs : List Constraint) (d : Distribution) (s m : Store) (o : AreOver cs s) (e : IsEnd cs d s m) where
  long : length m ≡ length s
  long = (let p = e.parts in p.long)

  domains : AreDomains m
  domains = (let k = e.over in k.domains)

  pub follows_single : (x : ℕ) → x < length s → Follows cs d s x → is_single (domain m x) ≡ true
  follows_single x l (distributed c) = single_at m d.over x e.determined c
  follows_single x l (determined h) =
      let k = domains x (let a = long in omega arith) in
      let p = e.parts in
      ap is_single (single_part (domain s x) (domain m x) (least (domain m x)) h k.some (p.each x)) ∙ h
  follows_single x l (constant v c h) =
      let k = domains x (let a = long in omega arith) in
      let p = told_has x v m m (let a = long in omega arith) (e.rest (Told x v) c) in
      is_single_of (domain m x) (least (domain m x)) (least v) k.some (λ w g. single_value v w h (p w g))
  follows_single z l (product {x = x} {y = y} c fx fy) =
      let over = o.over (Posted Times (x ∷ y ∷ z ∷ [])) c in
      let there = e.over in
      product_single x y z m (there.over (Posted Times (x ∷ y ∷ z ∷ [])) c) domains (e.rest (Posted Times (x ∷ y ∷ z ∷ [])) c)
      (follows_single x (over.1 0 0 (omega arith)) fx) (follows_single y (over.1 1 0 (omega arith)) fy)

  module _ (f : (x : ℕ) → x < length s → Follows cs d s x) where
    single : (x : ℕ) → x < length m → is_single (domain m x) ≡ true
    single x l = (let k : x < length s = (let a = long in omega arith) in follows_single x k (f x k))

    decided_at : (c : Constraint) → IsOver (length m) c → is_decided m c ≡ true
    decided_at (Posted r xs) g = all_positions m xs (λ i l. single (get_or xs i 0) (g.1 i 0 l))
    decided_at (Told x v) g = refl

    pub solved_end : (all_single m ≡ true) × IsSolved cs m × Solves cs m (map least m)
    solved_end =
        let there = e.over in
        let h : IsSolved cs m = λ c k. decided_at c (there.over c k) in
        (all_domains m single, h, solved_leaf cs d s m e h)

-- ---- answers

tuple_at : (m : Store) (t : List ℤ) (xs : List ℕ) → All (λ x. x < length m) xs → all_single (domains_at m xs) ≡ true → IsIn m t → map least (domains_at m xs) ≡ values_at t xs
tuple_at m t [] a h i = refl
tuple_at m t (x ∷ xs) a h i =
    let e = single_value (domain m x) (value t x) (and_left _ _ h) (i.each x (All-head (λ y. y < length m) x xs a)) in
    let f = tuple_at m t xs (All-tail (λ y. y < length m) x xs a) (and_right (is_single (domain m x)) _ h) i in
    λ j. sym e j ∷ f j

module _ (cs : List Constraint) (d : Distribution) (s : Store) (t : Tree) (h : IsSearch cs d s) (l : AreLeaves cs d s t) where
  -- each assignment is an answer
  assignment_found : (u : List ℤ) → IsAssignment cs d s u → Contains (answers d t) u
  assignment_found u a =
      let k = (l.found a.0).0 a.1 in
      let m = k.0 in
      let e = All-contains (IsEnd cs d s) (leaves t) m l.ends k.1 in
      let p = e.parts in
      let q = k.2 in
      let within : All (λ x. x < length m) d.over = (let w = h.within in subst (λ n. All (λ x. x < n) d.over) (sym p.long) w) in
      subst (Contains (answers d t)) (tuple_at m a.0 d.over within e.determined q.inside ∙ a.2) (contains_map (answer d) (leaves t) m k.1)

  module _ (f : (x : ℕ) → x < length s → Follows cs d s x) where
    answer_is : (u : List ℤ) → Contains (answers d t) u → IsAssignment cs d s u
    answer_is u c =
        let a = contains_mapped (answer d) (leaves t) u c in
        let m = a.0 in
        let e = All-contains (IsEnd cs d s) (leaves t) m l.ends a.1 in
        let p = e.parts in
        let w = h.within in
        (map least m, solves_parts cs s m (map least m) p (solved_end cs d s m h.over e f).2, values_of_least m d.over (subst (λ n. All (λ x. x < n) d.over) (sym p.long) w) ∙ a.2)

pub answers_law : AnswersLaw
answers_law cs d s t h f i =
    let l = leaves_law cs d s t h i in (
      All-weaker (IsEnd cs d s) (λ m. (all_single m ≡ true) × IsSolved cs m × Solves cs m (map least m)) (λ m e. solved_end cs d s m h.over e f) (leaves t) l.ends,
      λ u. (answer_is cs d s t h l f u, assignment_found cs d s t h l u),
    )
