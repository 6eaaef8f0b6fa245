-- A view that is consistent is consistent with each part that a distributor offers.
use Rattle.std.proofs.Common.{◌≡◌, ◌⊎◌, inl, inr, ℕ, ℤ, zero, suc, pos, negsuc, ◌+ℤ◌, ◌≤ℤ◌, ◌<ℤ◌, nat_lt, ◌==◌, Bool, true, false, not, if◌then◌else◌, List, [], ◌∷◌, ◌++◌, map, filter, filter_map, refl, sym, ap, subst, ◌∙◌, Contains, Option, Some, None, is_some, option_map, unwrap_or, slice_get, int_lt, arith}
use Rattle.std.specs.List.{list_any}
use Rattle.std.specs.FinSet as set
use Rattle.std.specs.Int.{int_div_euclid}
use Rattle.std.specs.Ordering.{int_eq}
use Rattle.std.proofs.lemmas.Bool.{false≢true}
use Rattle.std.proofs.lemmas.Bool.Decides.{Decides-int_eq}
use Rattle.std.proofs.lemmas.Int.{ints}
use Rattle.std.proofs.lemmas.List.{append-nil}
use Rattle.oz_base.specs.Lists.{first}
use Rattle.oz_base.specs.declared.names.Ident.{Ident}
use Rattle.oz_base.specs.declared.interval.Interval.{Interval}
use Rattle.oz_base.specs.declared.distribution.Rule.{Rule}
use Rattle.oz_base.specs.declared.distribution.Rule.TheVariants.{Naive, FirstFail, Split as Halve}
use Rattle.oz_base.specs.declared.distribution.Split.{Split}
use Rattle.oz_domains.specs.Domains.{IntSet, Has, among, with_below, runs, with_value, ascending, intervals_of, least, greatest, is_single, single}
use Rattle.oz_domains.specs.Positions.{domain}
use Rattle.oz_domains.specs.Splits.{first_place, smaller_place, smallest_place, place_of, test_of, passes, first_part, second_part, split_of}
use Rattle.oz_semantics.specs.Values.{integer_in}
use Rattle.oz_semantics.specs.Store.{View, Same, told, itself, reversed, joined, field, IsConsistent, same, told_value, told_domain, domain_by, domain_of, is_consistent}
use Rattle.oz_semantics.specs.Propagation.{domain_in}
use Rattle.oz_semantics.specs.Inputs.{Input, Known, Unknown, OtherKind, both, and_further}
use Rattle.oz_semantics.specs.Vectors.{vector}
use Rattle.oz_semantics.specs.Distributors.{rule_input, Distribution, Finished, Splits, is_foreign, is_bare, undetermined, parts_of, splits_at, splits, widens_or, distribution_of, distribution}
use Rattle.oz_semantics.specs.Configurations.{layer_of, view}
use Rattle.oz_semantics.specs.Sights.{Sight, Offer, Bodies, Number, Parts, Readiness, Steps, Waits, WaitsForState, Offers, offer_of}
use Rattle.oz_semantics.specs.Statements.{stack_answer}
use Rattle.oz_semantics.specs.Readiness.{answer_ready}
use Rattle.oz_semantics.specs.Edits.{chosen_tells, thread_offer}
use Rattle.oz_semantics.specs.Spaces.{sight}
use Rattle.oz_semantics.specs.Answers.{Answer}
use Rattle.oz_semantics.specs.declared.configuration.Frame.{Frame}
use Rattle.oz_semantics.specs.declared.configuration.Thread.{Thread}
use Rattle.oz_semantics.specs.declared.value.Value.{Value}
use Rattle.oz_semantics.specs.declared.value.Tell.{Tell}
use Rattle.oz_semantics.specs.declared.value.Tell.TheVariants.{Equal, Is, Within}
use Rattle.fd_domain.proofs.SetLaws.{retain_has, has-item, has-least, has-greatest, greatest-above, with_run-cases, with_run-new, has-empty, int_cases, not_single}
use Rattle.fd_domain.proofs.IntervalLaws.{le_true, true_le}
use Rattle.oz_laws.proofs.SameLaws.{In, In-from_contains, tests_same, and-left, and-right}
use Rattle.oz_laws.proofs.DomainLaws.{given_in, among-is, common-has, has-common}
use Rattle.oz_laws.proofs.StoreLaws.{told_sets, set_told, told_set_by, tests_consistent}
use Rattle.view_laws.specs.Sights.{CommittedConsistent}
use Rattle.view_laws.proofs.Members.{decide, not_both, and_both, or_cases, or_left, or_right, has-cases}
use Rattle.view_laws.proofs.ListLaws.{in_filter}
use Rattle.view_laws.proofs.ViewLaws.{told_some}
use Rattle.view_laws.proofs.KnownLaws.{head_in, in_all}
use Rattle.view_laws.proofs.AnswerLaws.{offers_parts, stack_holds_by}

-- The intervals of a set have each of its integers

abbrev AreOrdered : List Interval → Type 0
AreOrdered [] = Unit {0}
AreOrdered (i ∷ is) = (i.low ≤ℤ i.high) × AreOrdered is

next_low : (v w : ℤ) → int_eq (v +ℤ pos 1) w ≡ true → v +ℤ pos 1 ≡ w
next_low v w e = (Decides-int_eq (v +ℤ pos 1) w).0 e

below_ordered : (v : ℤ) (is : List Interval) → AreOrdered is → AreOrdered (with_below v is)
below_ordered v [] h = (omega (arith, ints), tt)
below_ordered v (i ∷ is) h = by (int_eq (v +ℤ pos 1) i.low) refl
  where
    by : (b : Bool) → int_eq (v +ℤ pos 1) i.low ≡ b → AreOrdered (if b then record i { low = v } ∷ is else record { low = v; high = v } ∷ i ∷ is)
    by true e = let q = next_low v i.low e in let l = h.0 in (omega (arith, ints, q, l), h.1)
    by false e = (omega (arith, ints), h)

among_first : (v : ℤ) (is : List Interval) → AreOrdered is → among (with_below v is) v ≡ true
among_first v [] h = or_left _ _ (and_both _ _ (true_le v v (omega (arith, ints))) (true_le v v (omega (arith, ints))))
among_first v (i ∷ is) h = by (int_eq (v +ℤ pos 1) i.low) refl
  where
    by : (b : Bool) → int_eq (v +ℤ pos 1) i.low ≡ b → among (if b then record i { low = v } ∷ is else record { low = v; high = v } ∷ i ∷ is) v ≡ true
    by true e =
        let q = next_low v i.low e in
        let l = h.0 in
        or_left _ _ (and_both _ _ (true_le v v (omega (arith, ints))) (true_le v i.high (omega (arith, ints, q, l))))
    by false e = or_left _ _ (and_both _ _ (true_le v v (omega (arith, ints))) (true_le v v (omega (arith, ints))))

among_later : (v n : ℤ) (is : List Interval) → among is n ≡ true → among (with_below v is) n ≡ true
among_later v n [] e = absurd (false≢true e)
among_later v n (i ∷ is) e = by (int_eq (v +ℤ pos 1) i.low) refl
  where
    by : (b : Bool) → int_eq (v +ℤ pos 1) i.low ≡ b → among (if b then record i { low = v } ∷ is else record { low = v; high = v } ∷ i ∷ is) n ≡ true
    by true q = elim (or_cases _ (among is n) e) [
      | inl k ↦ (let low = le_true i.low n (and-left _ _ k) in
          let next = next_low v i.low q in
          or_left _ (among is n) (and_both _ _ (true_le v n (omega (arith, ints, low, next))) (and-right _ _ k)))
      | inr k ↦ or_right _ (among is n) k
    ]
    by false q = or_right _ (among (i ∷ is) n) e

runs_ordered : (vs : List ℤ) → AreOrdered (runs vs)
runs_ordered [] = tt
runs_ordered (v ∷ vs) = below_ordered v (runs vs) (runs_ordered vs)

runs_among : (vs : List ℤ) (n : ℤ) → In n vs → among (runs vs) n ≡ true
runs_among [] n h = elim h [ ]
runs_among (v ∷ vs) n (inl e) = subst (λ m. among (runs (v ∷ vs)) m ≡ true) e (among_first v (runs vs) (runs_ordered vs))
runs_among (v ∷ vs) n (inr h) = among_later v n (runs vs) (runs_among vs n h)

placed_in : (v n : ℤ) (ws : List ℤ) → In n (v ∷ ws) → In n (with_value v ws)
placed_in v n [] h = h
placed_in v n (w ∷ ws) h = by (int_lt v w) (int_eq v w) refl h (placed_in v n ws)
  where
    by : (b e : Bool) → int_eq v w ≡ e → In n (v ∷ w ∷ ws) → (In n (v ∷ ws) → In n (with_value v ws))
        → In n (if b then v ∷ w ∷ ws else (if e then w ∷ ws else w ∷ with_value v ws))
    by true e q k rest = k
    by false true q (inl is) rest = inl (sym ((Decides-int_eq v w).0 q) ∙ is)
    by false true q (inr k) rest = k
    by false false q (inl is) rest = inr (rest (inl is))
    by false false q (inr (inl is)) rest = inl is
    by false false q (inr (inr k)) rest = inr (rest (inr k))

ascending_in : (vs : List ℤ) (n : ℤ) → In n vs → In n (ascending vs)
ascending_in [] n h = h
ascending_in (v ∷ vs) n (inl e) = placed_in v n (ascending vs) (inl e)
ascending_in (v ∷ vs) n (inr h) = placed_in v n (ascending vs) (inr (ascending_in vs n h))

set_among : (s : IntSet) (n : ℤ) → Has s n → among (intervals_of s) n ≡ true
unfolding intervals_of
set_among s n h = runs_among (ascending (set.items s)) n (ascending_in (set.items s) n (In-from_contains (set.items s) n (has-item s n h)))

-- The place that is split has more than one integer

same_place : (m n : ℕ) → ◌≡◌ {A = Option ℕ} (Some m) (Some n) → m ≡ n
same_place m n e = let k : m ≡ n = cc in k

abbrev IsFree : List IntSet → ℕ → Type 0
IsFree ds i = is_single (domain ds i) ≡ false

later_free : (o : Option ℕ) (d : IntSet) (ds : List IntSet) (i : ℕ) → ((j : ℕ) → o ≡ Some j → IsFree ds j) → option_map suc o ≡ Some i → IsFree (d ∷ ds) i
later_free None d ds i h e = cc
later_free (Some j) d ds i h e = subst (IsFree (d ∷ ds)) (same_place (suc j) i e) (h j refl)

first_free : (ds : List IntSet) (i : ℕ) → first_place ds ≡ Some i → IsFree ds i
first_free [] i e = cc
first_free (d ∷ ds) i e = by (is_single d) refl e (first_free ds)
  where
    by : (b : Bool) → is_single d ≡ b → (if b then option_map suc (first_place ds) else Some 0) ≡ Some i → ((j : ℕ) → first_place ds ≡ Some j → IsFree ds j) → IsFree (d ∷ ds) i
    by true q k rest = later_free (first_place ds) d ds i rest k
    by false q k rest = subst (IsFree (d ∷ ds)) (same_place 0 i k) q

smaller_free : (d : IntSet) (ds : List IntSet) (o : Option ℕ) → is_single d ≡ false → ((j : ℕ) → o ≡ Some j → IsFree ds j) → IsFree (d ∷ ds) (smaller_place d ds o)
smaller_free d ds None q h = q
smaller_free d ds (Some j) q h = by (nat_lt (set.len (domain ds j)) (set.len d)) (h j refl)
  where
    by : (b : Bool) → IsFree ds j → IsFree (d ∷ ds) (if b then suc j else 0)
    by true k = k
    by false k = q

smallest_free : (ds : List IntSet) (i : ℕ) → smallest_place ds ≡ Some i → IsFree ds i
smallest_free [] i e = cc
smallest_free (d ∷ ds) i e = by (is_single d) refl e (smallest_free ds)
  where
    by : (b : Bool) → is_single d ≡ b → (if b then option_map suc (smallest_place ds) else Some (smaller_place d ds (smallest_place ds))) ≡ Some i
        → ((j : ℕ) → smallest_place ds ≡ Some j → IsFree ds j) → IsFree (d ∷ ds) i
    by true q k rest = later_free (smallest_place ds) d ds i rest k
    by false q k rest = subst (IsFree (d ∷ ds)) (same_place (smaller_place d ds (smallest_place ds)) i k) (smaller_free d ds (smallest_place ds) q rest)

place_free : (r : Rule) (ds : List IntSet) (i : ℕ) → place_of r ds ≡ Some i → IsFree ds i
place_free Naive ds i e = first_free ds i e
place_free FirstFail ds i e = smallest_free ds i e
place_free Halve ds i e = smallest_free ds i e

abbrev split_at : Rule → List IntSet → ℕ → Split
split_at r ds i = record { var = i; test = test_of r (domain ds i) }

split_free : (r : Rule) (ds : List IntSet) (s : Split) → split_of r ds ≡ Some s → (s.test ≡ test_of r (domain ds s.var)) × IsFree ds s.var
split_free r ds s e = by (place_of r ds) refl e
  where
    by : (o : Option ℕ) → place_of r ds ≡ o → option_map (split_at r ds) o ≡ Some s → (s.test ≡ test_of r (domain ds s.var)) × IsFree ds s.var
    by None q k = cc
    by (Some i) q k =
        let same : split_at r ds i ≡ s = cc in
        subst (λ (t : Split). (t.test ≡ test_of r (domain ds t.var)) × IsFree ds t.var) same (refl, place_free r ds i q)

-- Each part has an integer of the domain

half_above : (a b : ℤ) → a ≤ℤ b → a ≤ℤ int_div_euclid (a +ℤ b) (pos 2)
half_above a b h = by (a +ℤ b) refl
  where
    by : (s : ℤ) → a +ℤ b ≡ s → a ≤ℤ int_div_euclid s (pos 2)
    by (pos n) e = omega (arith, ints, h)
    by (negsuc n) e = omega (arith, ints, h)

half_below : (a b : ℤ) → a <ℤ b → int_div_euclid (a +ℤ b) (pos 2) <ℤ b
half_below a b h = by (a +ℤ b) refl
  where
    by : (s : ℤ) → a +ℤ b ≡ s → int_div_euclid s (pos 2) <ℤ b
    by (pos n) e = omega (arith, ints, h)
    by (negsuc n) e = omega (arith, ints, h)

ends_apart : (d : IntSet) (m : ℤ) → Has d m → is_single d ≡ false → least d <ℤ greatest d
ends_apart d m h e = elim (int_cases (least d) (greatest d)) [
  | inl q ↦ absurd (not_single d e q)
  | inr q ↦ elim q [ inl l ↦ l | inr g ↦ (let above = greatest-above d (least d) (has-least d m h) in absurd (omega (arith, ints, above, g))) ]
]

refused : (b : Bool) → (b ≡ true → ⊥) → not b ≡ true
refused true n = absurd (n refl)
refused false n = refl

least_passes : (r : Rule) (d : IntSet) → least d <ℤ greatest d → passes (test_of r d) (least d) ≡ true
least_passes Naive d l = (Decides-int_eq (least d) (least d)).1 refl
least_passes FirstFail d l = (Decides-int_eq (least d) (least d)).1 refl
least_passes Halve d l = true_le (least d) (int_div_euclid (least d +ℤ greatest d) (pos 2)) (half_above (least d) (greatest d) (omega (arith, ints, l)))

greatest_fails : (r : Rule) (d : IntSet) → least d <ℤ greatest d → passes (test_of r d) (greatest d) ≡ true → ⊥
greatest_fails Naive d l e = let q = (Decides-int_eq (greatest d) (least d)).0 e in omega (arith, ints, q, l)
greatest_fails FirstFail d l e = let q = (Decides-int_eq (greatest d) (least d)).0 e in omega (arith, ints, q, l)
greatest_fails Halve d l e =
    let low = le_true (greatest d) (int_div_euclid (least d +ℤ greatest d) (pos 2)) e in
    let high = half_below (least d) (greatest d) l in
    omega (arith, ints, low, high)

-- What a distributor offers

record IsSplit (v : View) (one other : Tell) : Type 0 where
  rule : Rule
  elements : List Ident
  at : Split
  x : Ident
  chosen : split_of rule (map (domain_in v) elements) ≡ Some at
  place : slice_get elements at.var ≡ Some x
  all : filter (is_bare v) elements ≡ []
  first : Within x (intervals_of (first_part at.test (domain (map (domain_in v) elements) at.var))) ≡ one
  second : Within x (intervals_of (second_part at.test (domain (map (domain_in v) elements) at.var))) ≡ other

module _ (v : View) (one other : Tell) (ws : List Ident) where
  by_place : (r : Rule) (xs : List Ident) (s : Split) (o : Option Ident) → split_of r (map (domain_in v) xs) ≡ Some s → filter (is_bare v) xs ≡ [] → slice_get xs s.var ≡ o
      → unwrap_or (option_map (parts_of (undetermined v xs) s.test (domain (map (domain_in v) xs) s.var)) o) Finished ≡ Splits one other ws → IsSplit v one other
  by_place r xs s None c a p e = cc
  by_place r xs s (Some x) c a p e = record { rule = r; elements = xs; at = s; x = x; chosen = c; place = p; all = a; first = cc; second = cc }

  by_split : (r : Rule) (xs : List Ident) (o : Option Split) → split_of r (map (domain_in v) xs) ≡ o → filter (is_bare v) xs ≡ [] → splits_at v xs (map (domain_in v) xs) o ≡ Splits one other ws → IsSplit v one other
  by_split r xs None c a e = cc
  by_split r xs (Some s) c a e = by_place r xs s (slice_get xs s.var) c a refl e

  by_bare : (r : Rule) (xs : List Ident) (bare : List Ident) → filter (is_bare v) xs ≡ bare → widens_or bare (splits v r xs) ≡ Splits one other ws → IsSplit v one other
  by_bare r xs [] a e = by_split r xs (split_of r (map (domain_in v) xs)) refl a e
  by_bare r xs (y ∷ ys) a e = cc

  by_foreign : (r : Rule) (xs : List Ident) (b : Bool) → ◌≡◌ {A = Input Distribution} (if b then OtherKind else Known (widens_or (filter (is_bare v) xs) (splits v r xs))) (Known (Splits one other ws)) → IsSplit v one other
  by_foreign r xs true e = cc
  by_foreign r xs false e = by_bare r xs (filter (is_bare v) xs) refl (let k : widens_or (filter (is_bare v) xs) (splits v r xs) ≡ Splits one other ws = cc in k)

  by_input : (i : Input (Rule × List Ident)) → and_further (λ (i : Rule × List Ident). distribution_of v i.0 i.1) i ≡ Known (Splits one other ws) → IsSplit v one other
  by_input (Known i) e = by_foreign i.0 i.1 (list_any (is_foreign v) i.1) e
  by_input (Unknown x) e = cc
  by_input OtherKind e = cc

  split_is : (rule vector_of : Ident) → distribution v rule vector_of ≡ Known (Splits one other ws) → IsSplit v one other
  split_is rule vector_of e = by_input (both (rule_input v rule) (vector v vector_of)) e

-- One more domain

module _ (ts : List Tell) (x : Ident) (is : List Interval) where
  abbrev more : List Tell
  more = ts ++ Within x is ∷ []

  old_or_new : (t : Tell) → Contains more t → Contains ts t ⊎ (Within x is ≡ t)
  old_or_new t c = elim (has-cases t ts (Within x is ∷ []) c) [
    | inl k ↦ inl k
    | inr k ↦ elim (In-from_contains (Within x is ∷ []) t k) [ inl q ↦ inr q | inr h ↦ elim h [ ] ]
  ]

  old_equal : (a b : Ident) → Contains more (Equal a b) → Contains ts (Equal a b)
  old_equal a b c = elim (old_or_new (Equal a b) c) [ inl k ↦ k | inr q ↦ absurd (cc) ]

  old_is : (a : Ident) (v : Value) → Contains more (Is a v) → Contains ts (Is a v)
  old_is a v c = elim (old_or_new (Is a v) c) [ inl k ↦ k | inr q ↦ absurd (cc) ]

  same_without : {a b : Ident} → Same more a b → Same ts a b
  same_without (told {x = a} {y = b} c) = told (old_equal a b c)
  same_without itself = itself
  same_without (reversed s) = reversed (same_without s)
  same_without (joined s t) = joined (same_without s) (same_without t)
  same_without (field {x = a} {y = b} {v = v} {w = w} i s c d l p q) = field i (same_without s) (old_is a v c) (old_is b w d) l p q

  one_more : (n : ℤ) (d : IntSet) → IsConsistent ts → told_value ts x ≡ None → told_domain ts x ≡ Some d → Has d n → among is n ≡ true → IsConsistent more
  one_more n d sound free held h inside = record {
    agree = λ a b v w s c e. sound.agree a b v w (same_without s) (old_is a v c) (old_is b w e);
    inhabited = λ y js c. elim (decide (same ts x y)) [
      | inl k ↦ (
        n,
        λ z ks s e. elim (old_or_new (Within z ks) e) [
          | inl o ↦ of_class z ks (joined ((tests_same ts x y).0 k) (same_without s)) o
          | inr q ↦ (let same_ks : is ≡ ks = cc in subst (λ (us : List Interval). among us n ≡ true) same_ks inside)
        ],
      )
      | inr k ↦ elim (old_or_new (Within y js) c) [
        | inl o ↦ (let m = sound.inhabited y js o in (
          m.0,
          λ z ks s e. elim (old_or_new (Within z ks) e) [
            | inl p ↦ m.1 z ks (same_without s) p
            | inr q ↦ absurd (apart y k (subst (Same ts y) (let same_z : x ≡ z = cc in sym same_z) (same_without s)))
          ],
        ))
        | inr q ↦ absurd (apart y k (subst (Same ts y) (let same_y : x ≡ y = cc in sym same_y) itself))
      ]
    ];
    inside = λ a b v js s c e. elim (old_or_new (Within b js) e) [
      | inl o ↦ sound.inside a b v js (same_without s) (old_is a v c) o
      | inr q ↦ absurd (not_both _ (told_some ts x a v (subst (λ z. Same ts z a) (let same_b : x ≡ b = cc in sym same_b) (reversed (same_without s))) (old_is a v c)) (ap is_some free))
    ];
  }
    where
      of_class : (z : Ident) (ks : List Interval) → Same ts x z → Contains ts (Within z ks) → among ks n ≡ true
      of_class z ks s c = among-is ks n ∙ common-has (told_sets ts x) d n held h _ (set_told ts x z ks (reversed s) c)

      apart : (y : Ident) → same ts x y ≡ false → Same ts y x → ⊥
      apart y k s = not_both _ ((tests_same ts x y).1 (reversed s)) k

-- A domain with more than one integer was told

single_single : (n : ℤ) → is_single (single n) ≡ true
single_single n = elim (decide (is_single (single n))) [
  | inl k ↦ k
  | inr k ↦ absurd (not_single (single n) k (only (least (single n)) (has-least (single n) n has) ∙ sym (only (greatest (single n)) (has-greatest (single n) n has))))
]
  where
    has : Has (single n) n
    has = with_run-new n 1 set.empty n (omega (arith, ints)) (omega (arith, ints))

    only : (m : ℤ) → Has (single n) m → m ≡ n
    only m h = elim (with_run-cases n 1 set.empty m h) [ inl c ↦ omega (arith, ints, c.0, c.1) | inr c ↦ absurd (has-empty m c) ]

free_domain : (ts : List Tell) (x : Ident) (d : IntSet) → domain_of ts x ≡ Some d → is_single d ≡ false → (told_value ts x ≡ None) × (told_domain ts x ≡ Some d)
free_domain ts x d e many = by (told_value ts x) refl e
  where
    no_integer : (o : Option ℤ) → option_map single o ≡ Some d → ⊥
    no_integer None q = cc
    no_integer (Some n) q = let same_set : single n ≡ d = cc in not_both _ (subst (λ s. is_single s ≡ true) same_set (single_single n)) many

    by : (o : Option Value) → told_value ts x ≡ o → domain_by o (told_domain ts x) ≡ Some d → (told_value ts x ≡ None) × (told_domain ts x ≡ Some d)
    by None k q = (k, q)
    by (Some w) k q = absurd (no_integer (integer_in w) q)

domain_has : (ts : List Tell) (x : Ident) (d : IntSet) → IsConsistent ts → told_domain ts x ≡ Some d → (n : ℤ) × Has d n
domain_has ts x d sound held =
    let t = head_in (told_sets ts x) d held in
    let b = told_set_by ts x t.0 t.1 in
    let n = sound.inhabited b.variable b.intervals b.tells in
    (n.0, has-common (told_sets ts x) d n.0 held (in_all ts x n.0 (λ y js s c. n.1 y js (joined b.equal (reversed s)) c)))

-- an element with its domain
at_place : (v : View) (xs : List Ident) (i : ℕ) (x : Ident) → slice_get xs i ≡ Some x → (domain (map (domain_in v) xs) i ≡ domain_in v x) × In x xs
at_place v [] i x e = cc
at_place v (y ∷ ys) zero x e = let same_x : y ≡ x = cc in (ap (domain_in v) same_x, inl same_x)
at_place v (y ∷ ys) (suc i) x e = let r = at_place v ys i x e in (r.0, inr r.1)

has_domain : (v : View) (xs : List Ident) (x : Ident) → filter (is_bare v) xs ≡ [] → In x xs → domain_of v x ≡ Some (domain_in v x)
has_domain v xs x all h = by (domain_of v x) refl
  where
    by : (o : Option IntSet) → domain_of v x ≡ o → o ≡ Some (unwrap_or o set.empty)
    by None q = elim (subst (In x) all (in_filter (is_bare v) xs x h (ap (λ o. not (is_some o)) q))) [ ]
    by (Some d) q = refl

-- Each part is consistent

part_fits : (ts : List Tell) (x : Ident) (is : List Interval) (d : IntSet) (m : ℤ) → IsConsistent ts → domain_of ts x ≡ Some d → is_single d ≡ false → Has d m → among is m ≡ true
    → is_consistent (ts ++ Within x is ∷ []) ≡ true
part_fits ts x is d m sound e many h inside =
    let f = free_domain ts x d e many in
    (tests_consistent (ts ++ Within x is ∷ [])).1 (one_more ts x is m d sound f.0 f.1 h inside)

abbrev BothFit : View → Tell → Tell → Type 0
BothFit v one other = (is_consistent (v ++ one ∷ []) ≡ true) × (is_consistent (v ++ other ∷ []) ≡ true)

both_fit : (v : View) (one other : Tell) → is_consistent v ≡ true → IsSplit v one other → BothFit v one other
both_fit v one other e s =
    let sound = (tests_consistent v).0 e in
    let ds : List IntSet = map (domain_in v) s.elements in
    let d : IntSet = domain ds s.at.var in
    let c = split_free s.rule ds s.at s.chosen in
    let p = at_place v s.elements s.at.var s.x s.place in
    let held : domain_of v s.x ≡ Some d = has_domain v s.elements s.x s.all p.1 ∙ ap (λ (z : IntSet). Some z) (sym p.0) in
    let m = domain_has v s.x d sound (free_domain v s.x d held c.1).1 in
    let apart = ends_apart d m.0 m.1 c.1 in
    let low : Has d (least d) = has-least d m.0 m.1 in
    let high : Has d (greatest d) = has-greatest d m.0 m.1 in
    let first_has : Has (first_part s.at.test d) (least d) = retain_has d (passes s.at.test) (least d) low (ap (λ t. passes t (least d)) c.0 ∙ least_passes s.rule d apart) in
    let second_has : Has (second_part s.at.test d) (greatest d) =
    retain_has d (λ y. not (passes s.at.test y)) (greatest d) high (ap (λ t. not (passes t (greatest d))) c.0 ∙ refused (passes (test_of s.rule d) (greatest d)) (greatest_fails s.rule d apart)) in (
      subst (λ t. is_consistent (v ++ t ∷ []) ≡ true) s.first
          (part_fits v s.x (intervals_of (first_part s.at.test d)) d (least d) sound held c.1 low (set_among (first_part s.at.test d) (least d) first_has)),
      subst (λ t. is_consistent (v ++ t ∷ []) ≡ true) s.second
          (part_fits v s.x (intervals_of (second_part s.at.test d)) d (greatest d) sound held c.1 high (set_among (second_part s.at.test d) (greatest d) second_has)),
    )

abbrev OffersFit : View → Answer → Type 0
OffersFit v a = (one other : Tell) (ws : List Ident) → answer_ready a ≡ Offers (Parts one other) ws → BothFit v one other

no_parts : (v : View) (r : Readiness) → offers_parts r ≡ false → (one other : Tell) (ws : List Ident) → r ≡ Offers (Parts one other) ws → BothFit v one other
no_parts v r none one other ws q = absurd (false≢true (sym none ∙ ap offers_parts q))

stack_fits : (s : Sight) → is_consistent s.view ≡ true → (frames : List Frame) → OffersFit s.view (stack_answer s frames)
stack_fits s e frames =
    stack_holds_by s (OffersFit s.view) (λ act. no_parts s.view Steps refl) (λ procedure x. no_parts s.view Steps refl) (λ kind. no_parts s.view Steps refl) (λ x. no_parts s.view Steps refl)
    (λ ts. no_parts s.view Steps refl) (λ ready none. no_parts s.view ready none)
    (λ rule v one other xs k a b ws q.
    let r = both_fit s.view one other e (split_is s.view one other xs rule v k) in
    let same_one : one ≡ a = cc in
    let same_other : other ≡ b = cc in
    (subst (λ t. is_consistent (s.view ++ t ∷ []) ≡ true) same_one r.0, subst (λ t. is_consistent (s.view ++ t ∷ []) ≡ true) same_other r.1))
    (λ op child x y given below. no_parts s.view (WaitsForState child) refl) frames

-- What is told with a choice

offered_by : (r : Readiness) (one other : Tell) → offer_of r ≡ Some (Parts one other) → (ws : List Ident) × (r ≡ Offers (Parts one other) ws)
offered_by Steps one other e = cc
offered_by (Waits xs) one other e = cc
offered_by (WaitsForState space) one other e = cc
offered_by (Offers offer xs) one other e = let same_offer : offer ≡ Parts one other = cc in (xs, ap (λ o. Offers o xs) same_offer)

first_in : (os : List Offer) (o : Offer) → first os ≡ Some o → In o os
first_in [] o e = cc
first_in (p ∷ ps) o e = let same_offer : p ≡ o = cc in inl same_offer

chosen_fits : (v : View) (i : ℕ) (o : Option Offer) → is_consistent v ≡ true → ((one other : Tell) → o ≡ Some (Parts one other) → BothFit v one other) → is_consistent (v ++ chosen_tells i o) ≡ true
chosen_fits v i None e h = ap is_consistent (append-nil v) ∙ e
chosen_fits v i (Some (Bodies bodies)) e h = ap is_consistent (append-nil v) ∙ e
chosen_fits v i (Some (Number n x)) e h = ap is_consistent (append-nil v) ∙ e
chosen_fits v i (Some (Parts one other)) e h = by (i == 1) (h one other refl)
  where
    by : (b : Bool) → BothFit v one other → is_consistent (v ++ (if b then one else other) ∷ []) ≡ true
    by true f = f.0
    by false f = f.1

pub committed_consistent : CommittedConsistent
committed_consistent statements layers space i e =
    let s : Sight = sight statements layers space in
    let threads : List Thread = (layer_of layers space).threads in
    chosen_fits (view layers space) i (first (filter_map (thread_offer s) threads)) e
    (λ one other q.
    let t = given_in (thread_offer s) threads (Parts one other) (first_in (filter_map (thread_offer s) threads) (Parts one other) q) in
    let r = offered_by (answer_ready (stack_answer s t.0.frames)) one other t.2 in
    stack_fits s e t.0.frames one other r.0 r.1)
