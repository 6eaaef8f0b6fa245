-- What one run does to a store.
use Rattle.std.proofs.Common.{◌≡◌, ℕ, zero, suc, ◌<◌, ◌≤◌, ◌⊎◌, inl, inr, ℤ, pos, Bool, true, false, cond, List, [], ◌∷◌, length, set as put, map, get_or, All, Option, None, Some, IfSome, IsSomeAnd, option_and_then, refl, sym, ◌∙◌, ap, subst, arith, nat_eq, get_or-set_same, get_or-set_other, Contains, MatchOption}
use Rattle.std.proofs.lemmas.List.{length-set, length-map, get_or-map}
use Rattle.std.proofs.lemmas.List.Elements.{All-head, All-tail}
use Rattle.std.proofs.lemmas.Bool.{cases_eq}
use Rattle.std.proofs.lemmas.Bool.Decides.{nat_tests}
use Rattle.std.proofs.lemmas.Int.{ints}
use Rattle.std.specs.FinSet as set
use Rattle.oz_base.specs.declared.relation.Relation.{Relation}
use Rattle.oz_base.specs.declared.relation.Relation.TheVariants.{Le, Lt, Eq, Ne, Times, Distinct}
use Rattle.oz_domains.specs.Domains.{IntSet, Has, least, is_single, IsDomain}
use Rattle.oz_domains.specs.Positions.{domain, value, IsIn, AreParts, AreDomains, all_single}
use Rattle.oz_domains.specs.Relations.{allowed, Fits}
use Rattle.oz_domains.specs.Passes.{keep, pass}
use Rattle.fd_domain.proofs.SetLaws.{has-empty, least-below, retain_has, has_retain-has, has_retain-passes, and_left, and_right}
use Rattle.propagators.proofs.StepLaws.{has_not_empty, keep-in, parts_refl, parts_trans, then-in}
use Rattle.propagators.proofs.PassLaws.{AreNatural, HasPlaces, pass-in, pass-parts, pass-decides}
use Rattle.fd_problems.specs.Problems.{values_at}
use Rattle.fd_stores.specs.Stores.{Store, Constraint, Posted, Told, variables, domains_at, meets, IsOver, Remains, told, run}
use Rattle.fd_stores.specs.Laws.{TellsTo, TellsLaw, KeepsLaw, ShrinksLaw, DecidesLaw}
use Rattle.fd_stores.proofs.Sets.{IsPart, has_some, some_member, domain_part, single_value, single_part}
use Rattle.fd_stores.proofs.Lists.{then_if, weaker, contains_head, contains_tail}

-- ---- one variable keeps what passes a test

pub record Kept (i : ℕ) (test : ℤ → Bool) (s m : Store) : Type 0 where
  pub long : length m ≡ length s
  pub here : domain m i ≡ set.retain (domain s i) test
  pub others : (j : ℕ) → (j ≡ i → ⊥) → domain m j ≡ domain s j
  pub some : (q : ℤ) × Has (domain m i) q

zero_test : (n : ℕ) → nat_eq n 0 ≡ false → n ≡ 0 → ⊥
zero_test n e z = grind (arith, nat_tests)

module _ (i : ℕ) (test : ℤ → Bool) (s : Store) (l : i < length s) (kept : IntSet) (e : kept ≡ set.retain (domain s i) test) where
  put_kept : (set.len kept ≡ 0 → ⊥) → Kept i test s (put s i kept)
  put_kept n =
      let same = get_or-set_same s i kept set.empty l in
      let some = some_member kept n in
      record { long = length-set s i kept; here = same ∙ e; others = λ j k. get_or-set_other s i j kept set.empty k; some = (some.0, subst (λ z. Has z some.0) (sym same) some.1) }

  kept_if : (b : Bool) → nat_eq (set.len kept) 0 ≡ b → IfSome (cond b None (Some (put s i kept))) (Kept i test s)
  kept_if true f = tt
  kept_if false f = put_kept (zero_test (set.len kept) f)

pub keep_kept : (i : ℕ) (test : ℤ → Bool) (s : Store) → i < length s → IfSome (keep i test s) (Kept i test s)
unfolding keep
keep_kept i test s l = (let kept = set.retain (domain s i) test in kept_if i test s l kept refl (nat_eq (set.len kept) 0) refl)

keep_some_if : (i : ℕ) (kept : IntSet) (s : Store) (P : Store → Type 0) (b : Bool) → (b ≡ true → ⊥) → P (put s i kept) → IsSomeAnd (cond b None (Some (put s i kept))) P
keep_some_if i kept s P true n p = absurd (n refl)
keep_some_if i kept s P false n p = p

-- where a value passes, something is kept
pub keep_some : (i : ℕ) (test : ℤ → Bool) (s : Store) (q : ℤ) → i < length s → Has (domain s i) q → test q ≡ true → IsSomeAnd (keep i test s) (Kept i test s)
unfolding keep
keep_some i test s q l h e =
    let kept = set.retain (domain s i) test in
    let here = retain_has (domain s i) test q h e in
    keep_some_if i kept s (Kept i test s) (nat_eq (set.len kept) 0) (has_not_empty kept q here) (put_kept i test s l kept refl (has_some kept q here))

-- a tuple whose value passes is kept
pub kept_in : (i : ℕ) (test : ℤ → Bool) (s m : Store) (t : List ℤ) → Kept i test s m → IsIn s t → test (value t i) ≡ true → IsIn m t
kept_in i test s m t k h e = record {
  long = h.long ∙ sym k.long;
  each = λ j g. (let old = h.each j (let a = k.long in omega (arith, g)) in elim (cases_eq j i) [
    | inl f ↦ subst (λ z. Has (domain m z) (value t z)) (sym f) (subst (λ z. Has z (value t i)) (sym k.here) (retain_has (domain s i) test (value t i) (subst (λ z. Has (domain s z) (value t z)) f old) e))
    | inr n ↦ subst (λ z. Has z (value t j)) (sym (k.others j n)) old
  ]);
}

module _ (i : ℕ) (test : ℤ → Bool) (s m : Store) (l : i < length s) (k : Kept i test s m) where
  pub kept_part : (j : ℕ) → IsPart (domain m j) (domain s j)
  kept_part j q h = elim (cases_eq j i) [
    | inl e ↦ subst (λ z. Has (domain s z) q) (sym e) (has_retain-has (domain s i) test q (subst (λ z. Has z q) k.here (subst (λ z. Has (domain m z) q) e h)))
    | inr n ↦ subst (λ z. Has z q) (k.others j n) h
  ]

  pub kept_passes : (q : ℤ) → Has (domain m i) q → test q ≡ true
  kept_passes q h = has_retain-passes (domain s i) test q (subst (λ z. Has z q) k.here h)

  pub kept_parts : AreParts m s
  kept_parts = record { long = k.long; each = kept_part }

  pub kept_domains : AreDomains s → AreDomains m
  kept_domains d j g = elim (cases_eq j i) [
    | inl e ↦ subst (λ z. IsDomain (domain m z)) (sym e) (domain_part (domain s i) (domain m i) k.some.0 (d i l) k.some.1 (kept_part i))
    | inr n ↦ subst IsDomain (sym (k.others j n)) (d j (let a = k.long in omega (arith, g)))
  ]

-- ---- domains and values of positions

pub domain_of_position : (s : Store) (xs : List ℕ) (i : ℕ) → i < length xs → domain (domains_at s xs) i ≡ domain s (get_or xs i 0)
domain_of_position s xs i l = get_or-map (domain s) xs i 0 set.empty l

-- a tuple of the store gives a tuple of the positions
pub positions_in : (s : Store) (t : List ℤ) (xs : List ℕ) → All (λ x. x < length s) xs → IsIn s t → IsIn (domains_at s xs) (values_at t xs)
positions_in s t xs a h = record {
  long = length-map xs (value t) ∙ sym (length-map xs (domain s));
  each = λ i l.
      let m : i < length xs = (let e = length-map xs (domain s) in omega (arith, l)) in
      subst (λ z. Has z (value (values_at t xs) i)) (sym (domain_of_position s xs i m))
      (subst (Has (domain s (get_or xs i 0))) (sym (get_or-map (value t) xs i 0 (pos 0) m)) (h.each (get_or xs i 0) (a i 0 m)));
}

pub positions_domains : (s : Store) (xs : List ℕ) → All (λ x. x < length s) xs → AreDomains s → AreDomains (domains_at s xs)
positions_domains s xs a d i l =
    let m : i < length xs = (let e = length-map xs (domain s) in omega (arith, l)) in
    subst IsDomain (sym (domain_of_position s xs i m)) (d (get_or xs i 0) (a i 0 m))

-- ---- what is told to the variables of the positions

pub told-in : (xs : List ℕ) (ds : List IntSet) (s : Store) (t : List ℤ) → All (λ x. x < length t) xs → IsIn ds (values_at t xs) → IsIn s t → IsSomeAnd (told xs ds s) (λ m. IsIn m t)
unfolding told
told-in [] ds s t a p h = h
told-in (x ∷ xs) [] s t a p h = h
told-in (x ∷ xs) (d ∷ ds) s t a p h =
    let l : x < length s = (let e = h.long in let f = All-head (λ y. y < length t) x xs a in omega (arith, f)) in
    then-in t (keep x (set.contains d) s) (told xs ds) (keep-in x (set.contains d) s t l h (p.each 0 (omega arith)))
    (λ m k. told-in xs ds m t (All-tail (λ y. y < length t) x xs a) (record { long = (let e = p.long in omega arith); each = λ i g. p.each (suc i) (omega (arith, g)) }) k)

-- the store after it
pub record ToldTo (xs : List ℕ) (ds : List IntSet) (s m : Store) : Type 0 where
  pub parts : AreParts m s
  pub domains : AreDomains m
  pub within : (i : ℕ) → i < length xs → i < length ds → IsPart (domain m (get_or xs i 0)) (domain ds i)

module _ (x : ℕ) (xs : List ℕ) (d : IntSet) (ds : List IntSet) (s k m : Store) (l : x < length s) (h : Kept x (set.contains d) s k) (g : ToldTo xs ds k m) where
  told_within : (i : ℕ) → i < length (x ∷ xs) → i < length (d ∷ ds) → IsPart (domain m (get_or (x ∷ xs) i 0)) (domain (d ∷ ds) i)
  told_within zero a b q f = kept_passes x (set.contains d) s k l h q (let p = g.parts in p.each x q f)
  told_within (suc i) a b q f = g.within i (omega (arith, a)) (omega (arith, b)) q f

  told_after : ToldTo (x ∷ xs) (d ∷ ds) s m
  told_after = record { parts = parts_trans s k m (kept_parts x (set.contains d) s k l h) g.parts; domains = g.domains; within = told_within }

pub told_to : (xs : List ℕ) (ds : List IntSet) (s : Store) → All (λ x. x < length s) xs → AreDomains s → IfSome (told xs ds s) (ToldTo xs ds s)
unfolding told
told_to [] ds s a d = record { parts = parts_refl s; domains = d; within = λ i l. absurd (omega (arith, l)) }
told_to (x ∷ xs) [] s a d = record { parts = parts_refl s; domains = d; within = λ i l k. absurd (omega (arith, k)) }
told_to (x ∷ xs) (e ∷ ds) s a d =
    let l : x < length s = All-head (λ y. y < length s) x xs a in
    then_if (keep x (set.contains e) s) (told xs ds) (Kept x (set.contains e) s) (ToldTo (x ∷ xs) (e ∷ ds) s) (keep_kept x (set.contains e) s l)
    (λ k f h. weaker (told xs ds k) (ToldTo xs ds k) (ToldTo (x ∷ xs) (e ∷ ds) s)
    (told_to xs ds k (subst (λ n. All (λ y. y < n) xs) (sym h.long) (All-tail (λ y. y < length s) x xs a)) (kept_domains x (set.contains e) s k l h d))
    (λ m g. told_after x xs e ds s k m l h g))

-- ---- a run

pub places : (r : Relation) (n : ℕ) → Fits r n → HasPlaces r n
places (Le l) n f = f.long
places (Lt l) n f = f.long
places (Eq l) n f = f.long
places (Ne l) n f = f.long
places Times n f = f
places Distinct n f = tt

natural : (ds : List IntSet) → AreDomains ds → AreNatural ds
natural ds d i q h = elim (nat_cases i (length ds)) [
  | inl l ↦ (let k = d i l in let low = k.low in let b = least-below (domain ds i) q h in omega (arith, ints))
  | inr g ↦ absurd (has-empty q (subst (λ z. Has z q) (past ds i g) h))
] where
  nat_cases : (i n : ℕ) → (i < n) ⊎ (n ≤ i)
  nat_cases i n = grind arith

  past : (ds : List IntSet) (i : ℕ) → length ds ≤ i → domain ds i ≡ set.empty
  past [] i g = refl
  past (d ∷ ds) zero g = absurd (omega (arith, g))
  past (d ∷ ds) (suc i) g = past ds i (omega (arith, g))

some_then : (t : List ℤ) (o : Option (List IntSet)) (step : List IntSet → Option Store) (P : List IntSet → Type 0) → IsSomeAnd o P → ((ds : List IntSet) → P ds → IsSomeAnd (step ds) (λ m. IsIn m t)) → IsSomeAnd (option_and_then step o) (λ m. IsIn m t)
some_then t None step P h k = h
some_then t (Some ds) step P h k = k ds h

-- no tuple is lost that meets the constraint
pub run_keeps : KeepsLaw
run_keeps (Posted r xs) s t o d h e =
    let inside = positions_in s t xs o.1 h in
    let fits : HasPlaces r (length (domains_at s xs)) = subst (HasPlaces r) (sym (length-map xs (domain s))) (places r (length xs) o.0) in
    some_then t (pass r (domains_at s xs)) (λ ds. told xs ds s) (λ ds. IsIn ds (values_at t xs)) (pass-in r (domains_at s xs) (values_at t xs) fits (natural (domains_at s xs) (positions_domains s xs o.1 d)) e inside)
    (λ ds k. told-in xs ds s t (subst (λ n. All (λ y. y < n) xs) (sym h.long) o.1) k h)
run_keeps (Told x v) s t o d h e = keep-in x (set.contains v) s t o h e

pub told_fits : (r : Relation) (xs : List ℕ) (s : Store) → Fits r (length xs) → IfSome (pass r (domains_at s xs)) (λ new. AreParts new (domains_at s xs))
told_fits r xs s f = pass-parts r (domains_at s xs) (subst (HasPlaces r) (sym (length-map xs (domain s))) (places r (length xs) f))

pub run_shrinks : ShrinksLaw
run_shrinks (Posted r xs) s o d =
    then_if (pass r (domains_at s xs)) (λ ds. told xs ds s) (λ new. AreParts new (domains_at s xs)) (λ m. AreParts m s × AreDomains m) (told_fits r xs s o.0)
    (λ ds e p. weaker (told xs ds s) (ToldTo xs ds s) (λ m. AreParts m s × AreDomains m) (told_to xs ds s o.1 d) (λ m g. (g.parts, g.domains)))
run_shrinks (Told x v) s o d = weaker (keep x (set.contains v) s) (Kept x (set.contains v) s) (λ m. AreParts m s × AreDomains m) (keep_kept x (set.contains v) s o)
    (λ m k. (kept_parts x (set.contains v) s m o k, kept_domains x (set.contains v) s m o k d))

-- ---- determined variables

pub tuple_in : (s : Store) → AreDomains s → IsIn s (map least s)
tuple_in s d = record {
  long = length-map s least;
  each = λ i l. subst (Has (domain s i)) (sym (get_or-map least s i set.empty (pos 0) l)) (let k = d i l in k.some);
}

pub values_of_least : (s : Store) (xs : List ℕ) → All (λ x. x < length s) xs → values_at (map least s) xs ≡ map least (domains_at s xs)
values_of_least s [] a = refl
values_of_least s (x ∷ xs) a =
    let e = get_or-map least s x set.empty (pos 0) (All-head (λ y. y < length s) x xs a) in
    let f = values_of_least s xs (All-tail (λ y. y < length s) x xs a) in
    λ i. e i ∷ f i

-- what lies between a store and what is told to it, where the positions are determined
same_positions : (s m : Store) (xs : List ℕ) (ds : List IntSet) → length ds ≡ length xs → AreDomains m → length m ≡ length s → All (λ x. x < length s) xs → all_single (domains_at s xs) ≡ true
    → ((i : ℕ) → i < length xs → IsPart (domain m (get_or xs i 0)) (domain ds i)) → ((i : ℕ) → IsPart (domain ds i) (domain (domains_at s xs) i)) → ds ≡ domains_at s xs
same_positions s m [] [] l d e a h w p = refl
same_positions s m [] (c ∷ ds) l d e a h w p = absurd (omega (arith, l))
same_positions s m (x ∷ xs) [] l d e a h w p = absurd (omega (arith, l))
same_positions s m (x ∷ xs) (c ∷ ds) l d e a h w p =
    let some = d x (let k = All-head (λ y. y < length s) x xs a in omega (arith, k)) in
    let first = single_part (domain s x) c (least (domain m x)) (and_left _ _ h) (w 0 (omega arith) (least (domain m x)) some.some) (p 0) in
    let others = same_positions s m xs ds (omega (arith, l)) d e (All-tail (λ y. y < length s) x xs a) (and_right (is_single (domain s x)) _ h) (λ i k. w (suc i) (omega (arith, k))) (λ i. p (suc i)) in
    λ i. first i ∷ others i

true_false : (b : Bool) → b ≡ true → b ≡ false → ⊥
true_false true e h = cc
true_false false e h = cc

module _ (r : Relation) (xs : List ℕ) (s : Store) (o : IsOver (length s) (Posted r xs)) (d : AreDomains s) (h : all_single (domains_at s xs) ≡ true) (f : allowed r (values_at (map least s) xs) ≡ false) where
  no_told : (ds : List IntSet) → AreParts ds (domains_at s xs) → (all_single ds ≡ true → allowed r (map least ds) ≡ true) → IfSome (told xs ds s) (λ m. ⊥)
  no_told ds p q = weaker (told xs ds s) (ToldTo xs ds s) (λ m. ⊥) (told_to xs ds s o.1 d) (λ m g.
      let long : length ds ≡ length xs = p.long ∙ length-map xs (domain s) in
      let parts = g.parts in
      let same = same_positions s m xs ds long g.domains parts.long o.1 h (λ i k. g.within i k (omega (arith, k))) p.each in
      let here : allowed r (values_at (map least s) xs) ≡ true = ap (allowed r) (values_of_least s xs o.1 ∙ ap (map least) (sym same)) ∙ q (ap all_single same ∙ h) in
      true_false _ here f)

  no_run : IfSome (run (Posted r xs) s) (λ m. ⊥)
  no_run = both (pass r (domains_at s xs)) (told_fits r xs s o.0) (pass-decides r (domains_at s xs)) where
    both : (n : Option (List IntSet)) → IfSome n (λ new. AreParts new (domains_at s xs)) → IfSome n (λ new. all_single new ≡ true → allowed r (map least new) ≡ true) → IfSome (option_and_then (λ ds. told xs ds s) n) (λ m. ⊥)
    both None p q = tt
    both (Some ds) p q = no_told ds p q

none_of : (o : Option Store) → IfSome o (λ m. ⊥) → o ≡ None
none_of None h = refl
none_of (Some m) h = absurd h

not_some : (o : Option Store) (P : Store → Type 0) → IsSomeAnd o P → o ≡ None → ⊥
not_some None P h e = h
not_some (Some m) P h e = cc

module _ (x : ℕ) (v : IntSet) (s : Store) (l : x < length s) (h : is_single (domain s x) ≡ true) (f : set.contains v (value (map least s) x) ≡ false) where
  no_kept : IfSome (keep x (set.contains v) s) (λ m. ⊥)
  no_kept = weaker (keep x (set.contains v) s) (Kept x (set.contains v) s) (λ m. ⊥) (keep_kept x (set.contains v) s l) (λ m k.
      let some = k.some in
      let e = single_value (domain s x) some.0 h (kept_part x (set.contains v) s m l k x some.0 some.1) in
      true_false _ (ap (set.contains v) (get_or-map least s x set.empty (pos 0) l ∙ sym e) ∙ kept_passes x (set.contains v) s m l k some.0 some.1) f)

pub run_decides : DecidesLaw
run_decides c s o d h = (fails (meets c (map least s)) refl, λ f. none_of (run c s) (refuses c o h f)) where
  fails : (b : Bool) → meets c (map least s) ≡ b → run c s ≡ None → b ≡ false
  fails true e n = absurd (not_some (run c s) (λ m. IsIn m (map least s)) (run_keeps c s (map least s) o d (tuple_in s d) e) n)
  fails false e n = refl

  refuses : (c : Constraint) → IsOver (length s) c → all_single (domains_at s (variables c)) ≡ true → meets c (map least s) ≡ false → IfSome (run c s) (λ m. ⊥)
  refuses (Posted r xs) o h f = no_run r xs s o d h f
  refuses (Told x v) o h f = no_kept x v s o (and_left (is_single (domain s x)) true h) f

-- ---- all that is told

abbrev Nothing : List ℕ → List IntSet → Store → Type 0
Nothing xs ds s = (x : ℕ) × Contains xs x × ((q : ℤ) → Remains xs ds s x q → ⊥)

-- the values that pass are those of the variable after the first position
module _ (y : ℕ) (xs : List ℕ) (d : IntSet) (ds : List IntSet) (s k : Store) (l : y < length s) (h : Kept y (set.contains d) s k) where
  left_before : (x : ℕ) (q : ℤ) → Remains xs ds k x q → Remains (y ∷ xs) (d ∷ ds) s x q
  left_before x q f = (kept_part y (set.contains d) s k l h x q f.0, each) where
    each : (i : ℕ) → i < length (y ∷ xs) → get_or (y ∷ xs) i 0 ≡ x → Has (domain (d ∷ ds) i) q
    each zero a e = kept_passes y (set.contains d) s k l h q (subst (λ z. Has (domain k z) q) (sym e) f.0)
    each (suc i) a e = f.1 i (omega (arith, a)) e

  left_after : (x : ℕ) (q : ℤ) → Remains (y ∷ xs) (d ∷ ds) s x q → Remains xs ds k x q
  left_after x q f = (here, λ i a e. f.1 (suc i) (omega (arith, a)) e) where
    here : Has (domain k x) q
    here = elim (cases_eq x y) [
      | inl e ↦ subst (λ z. Has (domain k z) q) (sym e) (subst (λ z. Has z q) (sym h.here) (retain_has (domain s y) (set.contains d) q (subst (λ z. Has (domain s z) q) e f.0) (f.1 0 (omega arith) (sym e))))
      | inr n ↦ subst (λ z. Has z q) (sym (h.others x n)) f.0
    ]

  told_match : (o : Option Store) → MatchOption o (Nothing xs ds k) (TellsTo xs ds k) → MatchOption o (Nothing (y ∷ xs) (d ∷ ds) s) (TellsTo (y ∷ xs) (d ∷ ds) s)
  told_match None f = (f.0, contains_tail y f.0 xs f.1, λ q g. f.2 q (left_after f.0 q g))
  told_match (Some m) f = record {
    long = f.long ∙ h.long;
    remain = λ x q. (λ g. left_before x q ((f.remain x q).0 g), λ g. (f.remain x q).1 (left_after x q g));
  }

first_told : (y : ℕ) (xs : List ℕ) (d : IntSet) (ds : List IntSet) (s : Store) → y < length s → (o : Option Store) → keep y (set.contains d) s ≡ o → IfSome o (Kept y (set.contains d) s)
    → ((k : Store) → Kept y (set.contains d) s k → MatchOption (told xs ds k) (Nothing xs ds k) (TellsTo xs ds k))
    → MatchOption (option_and_then (told xs ds) o) (Nothing (y ∷ xs) (d ∷ ds) s) (TellsTo (y ∷ xs) (d ∷ ds) s)
first_told y xs d ds s l None e h again = (y, contains_head y xs, λ q g. not_some (keep y (set.contains d) s) (Kept y (set.contains d) s) (keep_some y (set.contains d) s q l g.0 (g.1 0 (omega arith) refl)) e)
first_told y xs d ds s l (Some k) e h again = told_match y xs d ds s k l h (told xs ds k) (again k h)

pub tells_law : TellsLaw
unfolding told
tells_law [] ds s a l = record { long = refl; remain = λ x q. (λ h. (h, λ i k. absurd (omega (arith, k))), λ h. h.0) }
tells_law (y ∷ xs) [] s a l = absurd (omega (arith, l))
tells_law (y ∷ xs) (d ∷ ds) s a l =
    let k = All-head (λ x. x < length s) y xs a in
    first_told y xs d ds s k (keep y (set.contains d) s) refl (keep_kept y (set.contains d) s k)
    (λ m h. tells_law xs ds m (subst (λ n. All (λ x. x < n) xs) (sym h.long) (All-tail (λ x. x < length s) y xs a)) (omega (arith, l)))
