-- What a distributor does where more is told, while no class moves whose elements have no value or no domain.
use Rattle.std.proofs.Common.{◌≡◌, inl, inr, ℕ, ℤ, zero, suc, ◌<◌, nat_lt, ◌||◌, Bool, true, false, not, cond, if◌then◌else◌, List, [], ◌∷◌, ◌++◌, length, map, filter, flat_map, refl, sym, ap, ap₂, subst, ◌∙◌, Contains, Option, Some, None, is_some, option_map, option_and_then, unwrap_or, slice_get, arith}
use Rattle.std.specs.List.{list_any}
use Rattle.std.specs.FinSet as set
use Rattle.std.proofs.lemmas.Bool.{false≢true}
use Rattle.std.proofs.lemmas.Bool.Decides.{Decides-int_eq}
use Rattle.std.proofs.lemmas.Int.{ints}
use Rattle.oz_base.specs.Lists.{given_or, holds_of}
use Rattle.oz_base.specs.declared.names.Ident.{Ident}
use Rattle.oz_base.specs.declared.interval.Interval.{Interval}
use Rattle.oz_base.specs.declared.distribution.Rule.{Rule}
use Rattle.oz_base.specs.declared.distribution.Rule.TheVariants.{Naive, FirstFail, Split as Halve}
use Rattle.oz_base.specs.declared.distribution.Split.{Split}
use Rattle.oz_domains.specs.Domains.{IntSet, Has, least, greatest, is_single, only, single, whole, is_within, intervals_of}
use Rattle.oz_domains.specs.Positions.{domain}
use Rattle.oz_domains.specs.Splits.{first_place, smaller_place, smallest_place, place_of, test_of, split_of, first_part, second_part}
use Rattle.oz_semantics.specs.Values.{is_like, atom, integer, integer_in}
use Rattle.oz_language.specs.Wording.{naive_word, ff_word, split_word}
use Rattle.oz_semantics.specs.Store.{Same, itself, reversed, joined, IsConsistent, same, told_value, told_domain, value_of, domain_by, domain_of, is_determined, is_news, news, named_by}
use Rattle.oz_semantics.specs.Propagation.{domain_in}
use Rattle.oz_semantics.specs.Constraints.{confined}
use Rattle.oz_semantics.specs.Inputs.{Input, Known, Unknown, OtherKind, both, and_further, known_if}
use Rattle.oz_semantics.specs.Vectors.{vector}
use Rattle.oz_semantics.specs.Distributors.{rule_in, rule_input, Distribution, Finished, is_foreign, is_bare, undetermined, parts_of, splits_at, splits, widens_or, distribution_of, distribution}
use Rattle.oz_semantics.specs.Sights.{Parts, Steps}
use Rattle.oz_semantics.specs.Answers.{Answer}
use Rattle.oz_semantics.specs.Builtins.{of_input, interval_news, distributes}
use Rattle.oz_semantics.specs.Readiness.{answer_ready}
use Rattle.oz_semantics.specs.declared.value.Value.{Value}
use Rattle.oz_semantics.specs.declared.value.Tell.{Tell}
use Rattle.oz_semantics.specs.declared.value.Tell.TheVariants.{Within}
use Rattle.fd_domain.proofs.SetLaws.{same_members, least-below, greatest-above, with_run-cases, with_run-new, has-empty}
use Rattle.oz_laws.proofs.SameLaws.{In, contains-from_In}
use Rattle.oz_laws.proofs.AlikeLaws.{alike-integer}
use Rattle.oz_laws.proofs.DomainLaws.{has-common}
use Rattle.oz_laws.proofs.StoreLaws.{domain_row, told_sets}
use Rattle.view_laws.specs.Readies.{Keeps, IsUnmoved, SameClasses, SameReadiness, watched}
use Rattle.view_laws.proofs.Members.{not_both, or_left, or_right, or_cases}
use Rattle.view_laws.proofs.ListLaws.{filter_in, in_filter, map_in}
use Rattle.view_laws.proofs.ViewLaws.{same_by_meaning, determined_same, none_is}
use Rattle.view_laws.proofs.KnownLaws.{known_value, known_fits, in_all, among_value, single_value}
use Rattle.view_laws.proofs.SpacelessLaws.{or_false, left_false, right_false}
use Rattle.view_laws.proofs.MatchLaws.{AreSame, value_later}
use Rattle.view_laws.proofs.InputLaws.{like_same, InputStays, Both, Equals, read_stays, option_stays, both_stay}
use Rattle.view_laws.proofs.VectorLaws.{vector_stays}

-- Places

first_single : (ds : List IntSet) → first_place ds ≡ None → (d : IntSet) → In d ds → is_single d ≡ true
first_single [] e d h = elim h [ ]
first_single (c ∷ ds) e d h = by (is_single c) refl e h (first_single ds)
  where
    none_suc : (o : Option ℕ) → option_map suc o ≡ None → o ≡ None
    none_suc None q = refl
    none_suc (Some n) q = cc

    by : (b : Bool) → is_single c ≡ b → (if b then option_map suc (first_place ds) else Some 0) ≡ None → In d (c ∷ ds) → (first_place ds ≡ None → (x : IntSet) → In x ds → is_single x ≡ true) → is_single d ≡ true
    by true q k (inl i) rest = ap is_single (sym i) ∙ q
    by true q k (inr i) rest = rest (none_suc (first_place ds) k) d i
    by false q k i rest = cc

smallest_single : (ds : List IntSet) → smallest_place ds ≡ None → (d : IntSet) → In d ds → is_single d ≡ true
smallest_single [] e d h = elim h [ ]
smallest_single (c ∷ ds) e d h = by (is_single c) refl e h (smallest_single ds)
  where
    none_suc : (o : Option ℕ) → option_map suc o ≡ None → o ≡ None
    none_suc None q = refl
    none_suc (Some n) q = cc

    by : (b : Bool) → is_single c ≡ b → (if b then option_map suc (smallest_place ds) else Some (smaller_place c ds (smallest_place ds))) ≡ None → In d (c ∷ ds)
        → (smallest_place ds ≡ None → (x : IntSet) → In x ds → is_single x ≡ true) → is_single d ≡ true
    by true q k (inl i) rest = ap is_single (sym i) ∙ q
    by true q k (inr i) rest = rest (none_suc (smallest_place ds) k) d i
    by false q k i rest = cc

-- where no place is to be split, each domain has one value
place_none : (r : Rule) (ds : List IntSet) → place_of r ds ≡ None → (d : IntSet) → In d ds → is_single d ≡ true
place_none Naive ds e = first_single ds e
place_none FirstFail ds e = smallest_single ds e
place_none Halve ds e = smallest_single ds e

some_number : (m n : ℕ) → ◌≡◌ {A = Option ℕ} (Some m) (Some n) → m ≡ n
some_number m n e = let k : m ≡ n = cc in k

suc_inside : (o : Option ℕ) (n i : ℕ) → ((j : ℕ) → o ≡ Some j → j < n) → option_map suc o ≡ Some i → i < suc n
suc_inside None n i h e = cc
suc_inside (Some j) n i h e = let k = some_number (suc j) i e in let l = h j refl in omega (arith, k, l)

first_inside : (ds : List IntSet) (i : ℕ) → first_place ds ≡ Some i → i < length ds
first_inside [] i e = cc
first_inside (c ∷ ds) i e = by (is_single c) e (first_inside ds)
  where
    by : (b : Bool) → (if b then option_map suc (first_place ds) else Some 0) ≡ Some i → ((j : ℕ) → first_place ds ≡ Some j → j < length ds) → i < suc (length ds)
    by true q rest = suc_inside (first_place ds) (length ds) i rest q
    by false q rest = let k = some_number 0 i q in omega (arith, k)

smaller_inside : (c : IntSet) (ds : List IntSet) (o : Option ℕ) → ((j : ℕ) → o ≡ Some j → j < length ds) → smaller_place c ds o < suc (length ds)
smaller_inside c ds None h = omega arith
smaller_inside c ds (Some j) h = by (nat_lt (set.len (domain ds j)) (set.len c)) (h j refl)
  where
    by : (b : Bool) → j < length ds → (if b then suc j else 0) < suc (length ds)
    by true l = omega (arith, l)
    by false l = omega arith

smallest_inside : (ds : List IntSet) (i : ℕ) → smallest_place ds ≡ Some i → i < length ds
smallest_inside [] i e = cc
smallest_inside (c ∷ ds) i e = by (is_single c) e (smallest_inside ds)
  where
    by : (b : Bool) → (if b then option_map suc (smallest_place ds) else Some (smaller_place c ds (smallest_place ds))) ≡ Some i
        → ((j : ℕ) → smallest_place ds ≡ Some j → j < length ds) → i < suc (length ds)
    by true q rest = suc_inside (smallest_place ds) (length ds) i rest q
    by false q rest = let k = some_number _ i q in subst (λ n. n < suc (length ds)) k (smaller_inside c ds (smallest_place ds) rest)

place_inside : (r : Rule) (ds : List IntSet) (i : ℕ) → place_of r ds ≡ Some i → i < length ds
place_inside Naive ds i e = first_inside ds i e
place_inside FirstFail ds i e = smallest_inside ds i e
place_inside Halve ds i e = smallest_inside ds i e

-- Elements

single_members : (s : IntSet) (n : ℤ) → Has s n → is_single s ≡ true → s ≡ single n
single_members s n h one =
    let ends : least s ≡ greatest s = (Decides-int_eq (least s) (greatest s)).0 one in
    let low = least-below s n h in
    let high = greatest-above s n h in
    let within : Has (single n) n = with_run-new n 1 set.empty n (omega (arith, ints)) (omega (arith, ints)) in
    same_members s (single n)
    (λ m k.
    let a = least-below s m k in
    let b = greatest-above s m k in
    let same : n ≡ m = omega (arith, ints, ends, low, high, a, b) in
    subst (Has (single n)) same within)
    (λ m k. elim (with_run-cases n 1 set.empty m k) [
      | inl c ↦ (let same : n ≡ m = omega (arith, ints, c.0, c.1) in subst (Has s) same h)
      | inr c ↦ absurd (has-empty m c)
    ])

some_value : (w v : Value) → ◌≡◌ {A = Option Value} (Some w) (Some v) → w ≡ v
some_value w v e = let k : w ≡ v = cc in k

-- a determined integer has the domain of that one
single_domain : (ts : List Tell) → IsConsistent ts → (x : Ident) (v : Value) (n : ℤ) → value_of ts x ≡ Some v → integer_in v ≡ Some n → domain_of ts x ≡ Some (single n)
single_domain ts sound x v n e i = by (told_value ts x) refl e
  where
    has : (s : IntSet) → told_domain ts x ≡ Some s → Has s n
    has s k =
        let f = known_fits ts sound x v (known_value ts x v e) in
        has-common (told_sets ts x) s n k (in_all ts x n (λ y js p c. among_value js v n i (f.domains y js p c)))

    by_domain : (o : Option IntSet) → told_value ts x ≡ None → told_domain ts x ≡ o → option_map integer (option_and_then only o) ≡ Some v → domain_of ts x ≡ Some (single n)
    by_domain None k q p = cc
    by_domain (Some s) k q p =
        ap (λ o. domain_by o (told_domain ts x)) k ∙ q ∙ ap (λ (t : IntSet). Some t) (single_members s n (has s q) (single_value s v p).0)

    by : (o : Option Value) → told_value ts x ≡ o → given_or o (option_map integer (option_and_then only (told_domain ts x))) ≡ Some v → domain_of ts x ≡ Some (single n)
    by None k q = by_domain (told_domain ts x) k refl q
    by (Some w) k q =
        ap (λ o. domain_by o (told_domain ts x)) k
        ∙ ap (option_map single) (ap integer_in (some_value w v q) ∙ i)

-- a domain with one value determines a variable
determined_single : (ts : List Tell) (x : Ident) (s : IntSet) → domain_of ts x ≡ Some s → is_single s ≡ true → is_determined ts x ≡ true
determined_single ts x s e one = by (told_value ts x) e
  where
    by : (o : Option Value) → domain_by o (told_domain ts x) ≡ Some s → is_some (given_or o (option_map integer (option_and_then only (told_domain ts x)))) ≡ true
    by None k = ap (λ d. is_some (option_map integer (option_and_then only d))) k ∙ ap (λ (b : Bool). is_some (option_map integer (if b then Some (least s) else None))) one
    by (Some v) k = refl

-- News

-- a variable without a domain is told one
bare_news : (view : List Tell) (x : Ident) (xs : List Ident) (i : Interval) → is_bare view x ≡ true → In x (flat_map named_by (news view (confined (x ∷ xs) i)))
bare_news view x xs i e =
    let none : domain_of view x ≡ None = bare_none (domain_of view x) e in
    let told : is_news view (Within x (i ∷ [])) ≡ true = ap (λ o. not (holds_of (is_within (i ∷ [])) o)) none in
    subst (λ (b : Bool). In x (flat_map named_by (if b then Within x (i ∷ []) ∷ news (view ++ Within x (i ∷ []) ∷ []) (confined xs i) else news view (confined xs i)))) (sym told) (inl refl)
  where
    bare_none : (o : Option IntSet) → not (is_some o) ≡ true → o ≡ None
    bare_none None k = refl
    bare_none (Some s) k = absurd (false≢true k)

-- Lists

same_place_of : (ts : List Tell) (xs ys : List Ident) (x : Ident) → AreSame ts xs ys → In x xs → (y : Ident) × In y ys × Same ts x y
same_place_of ts [] [] x h k = elim k [ ]
same_place_of ts (a ∷ xs) (b ∷ ys) x h (inl k) = (b, inl refl, subst (λ z. Same ts z b) k h.0)
same_place_of ts (a ∷ xs) (b ∷ ys) x h (inr k) = let r = same_place_of ts xs ys x h.1 k in (r.0, inr r.1, r.2)
same_place_of ts [] (b ∷ ys) x h k = elim h [ ]
same_place_of ts (a ∷ xs) [] x h k = elim h [ ]

some_in : (xs : List Ident) (x : Ident) → In x xs → (z : Ident) × (zs : List Ident) × (xs ≡ z ∷ zs)
some_in [] x h = elim h [ ]
some_in (z ∷ zs) x h = (z, zs, refl)

none_in : (test : Ident → Bool) (xs : List Ident) (x : Ident) → In x xs → test x ≡ true → filter test xs ≡ [] → ⊥
none_in test xs x h e none = elim (subst (In x) none (in_filter test xs x h e)) [ ]

length_map : (f : Ident → IntSet) (xs : List Ident) → length (map f xs) ≡ length xs
length_map f [] = refl
length_map f (x ∷ xs) = ap suc (length_map f xs)

no_place : (xs : List Ident) (i : ℕ) → i < length xs → slice_get xs i ≡ None → ⊥
no_place [] i l e = omega (arith, l)
no_place (x ∷ xs) zero l e = cc
no_place (x ∷ xs) (suc i) l e = no_place xs i (omega (arith, l)) e

abbrev split_at : Rule → List IntSet → ℕ → Split
split_at r ds i = record { var = i; test = test_of r (domain ds i) }

split_none : (r : Rule) (ds : List IntSet) → split_of r ds ≡ None → (d : IntSet) → In d ds → is_single d ≡ true
split_none r ds e = place_none r ds (unmapped (place_of r ds) e)
  where
    unmapped : (o : Option ℕ) → option_map (split_at r ds) o ≡ None → o ≡ None
    unmapped None q = refl
    unmapped (Some i) q = cc

split_inside : (r : Rule) (xs : List Ident) (ds : List IntSet) (s : Split) → length ds ≡ length xs → split_of r ds ≡ Some s → slice_get xs s.var ≡ None → ⊥
split_inside r xs ds s l e none = by (place_of r ds) refl e
  where
    by : (o : Option ℕ) → place_of r ds ≡ o → option_map (split_at r ds) o ≡ Some s → ⊥
    by None q k = cc
    by (Some i) q k =
        let place : i ≡ s.var = some_number i s.var (ap (option_map (λ (t : Split). t.var)) k) in
        let inside = place_inside r ds i q in
        no_place xs s.var (omega (arith, inside, l, place)) none

-- Where more is told

module _ (before after : List Tell) (keeps : Keeps before after) (sound : IsConsistent after) (was_sound : IsConsistent before) where
  -- the rule
  rule_same : (v w : Value) → is_like v w ≡ true → rule_in v ≡ rule_in w
  rule_same v w e =
      by _ _ _ _ _ _ (like_same (atom naive_word) v w e) (like_same (atom ff_word) v w e) (like_same (atom split_word) v w e)
    where
      by : (a b c d f g : Bool) → a ≡ b → c ≡ d → f ≡ g
          → ◌≡◌ {A = Option Rule} (if a then Some Naive else (if c then Some FirstFail else (if f then Some Halve else None))) (if b then Some Naive else (if d then Some FirstFail else (if g then Some Halve else None)))
      by a b c d f g p q r =
          ap (λ (z : Bool). if z then Some Naive else (if c then Some FirstFail else (if f then Some Halve else None))) p
          ∙ ap (λ (z : Bool). if b then Some Naive else (if z then Some FirstFail else (if f then Some Halve else None))) q
          ∙ ap (λ (z : Bool). if b then Some Naive else (if d then Some FirstFail else (if z then Some Halve else None))) r

  rule_stays : (x y : Ident) → Same after x y → InputStays before after keeps sound Equals (rule_input before x) (rule_input after y)
  rule_stays x y s =
      read_stays before after keeps sound Equals (λ v. known_if (rule_in v)) (λ v. known_if (rule_in v)) x y s
      (λ v w f. option_stays before after keeps sound (rule_in v) (rule_in w) (rule_same v w f.like))

  -- what is foreign stays so
  foreign_later : (x y : Ident) → Same after x y → is_foreign before x ≡ true → is_foreign after y ≡ true
  foreign_later x y s e = by (value_of before x) refl e
    where
      by : (o : Option Value) → value_of before x ≡ o → holds_of (λ v. not (is_some (integer_in v))) o ≡ true → is_foreign after y ≡ true
      by None q k = absurd (false≢true k)
      by (Some v) q k =
          let w = value_later before after keeps sound x y v q s in
          ap (holds_of (λ u. not (is_some (integer_in u)))) w.1 ∙ ap (λ o. not (is_some o)) (sym (alike-integer v w.0 w.2.like)) ∙ k

  any_foreign : (xs ys : List Ident) → AreSame after xs ys → list_any (is_foreign before) xs ≡ true → list_any (is_foreign after) ys ≡ true
  any_foreign [] [] h e = absurd (false≢true e)
  any_foreign (x ∷ xs) (y ∷ ys) h e = elim (or_cases _ _ e) [ inl k ↦ or_left _ _ (foreign_later x y h.0 k) | inr k ↦ or_right _ _ (any_foreign xs ys h.1 k) ]
  any_foreign [] (y ∷ ys) h e = elim h [ ]
  any_foreign (x ∷ xs) [] h e = elim h [ ]

  -- an element that is an integer or has a domain, and has not moved where it has no value
  record Steady (x y : Ident) : Type 0 where
    domains : domain_of after y ≡ domain_of before x
    determined : is_determined after y ≡ is_determined before x
    foreign : is_foreign after y ≡ false

  not_foreign : (ts : List Tell) (x : Ident) → is_determined ts x ≡ false → is_foreign ts x ≡ false
  not_foreign ts x e = ap (holds_of (λ v. not (is_some (integer_in v)))) (none_is (value_of ts x) e)

  steady_free : (x y : Ident) → Same after x y → is_determined before x ≡ false → IsUnmoved before after x → Steady x y
  steady_free x y s free u =
      let later = determined_same after y x (reversed s) ∙ u.free in
      record { domains = domain_row after y x (reversed s) ∙ u.kept; determined = later ∙ sym free; foreign = not_foreign after y later }

  steady_value : (x y : Ident) (v : Value) (n : ℤ) → Same after x y → value_of before x ≡ Some v → integer_in v ≡ Some n → Steady x y
  steady_value x y v n s e i =
      let w = value_later before after keeps sound x y v e s in
      let j : integer_in w.0 ≡ Some n = sym (alike-integer v w.0 w.2.like) ∙ i in
      record {
        domains = single_domain after sound y w.0 n w.1 j ∙ sym (single_domain before was_sound x v n e i);
        determined = ap is_some w.1 ∙ sym (ap is_some e);
        foreign = ap (holds_of (λ u. not (is_some (integer_in u)))) w.1 ∙ ap (λ o. not (is_some o)) j;
      }

  steady : (x y : Ident) → Same after x y → is_foreign before x ≡ false → (is_determined before x ≡ false → IsUnmoved before after x) → Steady x y
  steady x y s native h = by (value_of before x) refl native
    where
      by_integer : (v : Value) (o : Option ℤ) → value_of before x ≡ Some v → integer_in v ≡ o → not (is_some o) ≡ false → Steady x y
      by_integer v None q i k = absurd (false≢true (sym k))
      by_integer v (Some n) q i k = steady_value x y v n s q i

      by : (o : Option Value) → value_of before x ≡ o → holds_of (λ v. not (is_some (integer_in v))) o ≡ false → Steady x y
      by None q k = steady_free x y s (ap is_some q) (h (ap is_some q))
      by (Some v) q k = by_integer v (integer_in v) q refl k

  -- all elements are so
  data AllSteady : List Ident → List Ident → Type 0 where
    no_more : AllSteady [] []
    one_more : {x y : Ident} {xs ys : List Ident} → Same after x y → Steady x y → AllSteady xs ys → AllSteady (x ∷ xs) (y ∷ ys)

  all_steady : (xs ys : List Ident) → AreSame after xs ys → list_any (is_foreign before) xs ≡ false → ((x : Ident) → In x xs → is_determined before x ≡ false → IsUnmoved before after x) → AllSteady xs ys
  all_steady [] [] h e u = no_more
  all_steady (x ∷ xs) (y ∷ ys) h e u =
      one_more h.0 (steady x y h.0 (left_false _ _ e) (u x (inl refl))) (all_steady xs ys h.1 (right_false (is_foreign before x) _ e) (λ z k. u z (inr k)))
  all_steady [] (y ∷ ys) h e u = elim h [ ]
  all_steady (x ∷ xs) [] h e u = elim h [ ]

  steady_domains : {xs ys : List Ident} → AllSteady xs ys → map (domain_in after) ys ≡ map (domain_in before) xs
  steady_domains no_more = refl
  steady_domains (one_more s t h) = ap₂ (λ (d : IntSet) (ds : List IntSet). d ∷ ds) (ap (λ o. unwrap_or o set.empty) t.domains) (steady_domains h)

  steady_foreign : {xs ys : List Ident} → AllSteady xs ys → list_any (is_foreign after) ys ≡ false
  steady_foreign no_more = refl
  steady_foreign (one_more s t h) = or_false _ _ t.foreign (steady_foreign h)

  steady_bare : {xs ys : List Ident} → AllSteady xs ys → filter (is_bare before) xs ≡ [] → filter (is_bare after) ys ≡ []
  steady_bare no_more e = refl
  steady_bare (one_more {x = x} {y = y} {xs = xs} {ys = ys} s t h) e = by (is_bare before x) (ap (λ o. not (is_some o)) t.domains) e (steady_bare h)
    where
      by : (b : Bool) → is_bare after y ≡ b → cond b (x ∷ filter (is_bare before) xs) (filter (is_bare before) xs) ≡ [] → (filter (is_bare before) xs ≡ [] → filter (is_bare after) ys ≡ [])
          → cond (is_bare after y) (y ∷ filter (is_bare after) ys) (filter (is_bare after) ys) ≡ []
      by true q k rest = cc
      by false q k rest = ap (λ (b : Bool). cond b (y ∷ filter (is_bare after) ys) (filter (is_bare after) ys)) q ∙ rest k

  steady_at : {xs ys : List Ident} → AllSteady xs ys → (i : ℕ) (x : Ident) → slice_get xs i ≡ Some x → (y : Ident) × (slice_get ys i ≡ Some y) × Same after x y
  steady_at no_more i x e = cc
  steady_at (one_more {x = u} {y = y} s t h) zero x e = (y, refl, subst (λ z. Same after z y) (let k : u ≡ x = cc in k) s)
  steady_at (one_more s t h) (suc i) x e = steady_at h i x e

  steady_waits : {xs ys : List Ident} → AllSteady xs ys → SameClasses after (undetermined before xs) (undetermined after ys)
  steady_waits no_more z = refl
  steady_waits (one_more {x = x} {y = y} {xs = xs} {ys = ys} s t h) z = by (is_determined before x) t.determined (steady_waits h z)
    where
      by : (b : Bool) → is_determined after y ≡ b → list_any (same after z) (undetermined before xs) ≡ list_any (same after z) (undetermined after ys)
          → list_any (same after z) (cond (not b) (x ∷ undetermined before xs) (undetermined before xs)) ≡ list_any (same after z) (cond (not (is_determined after y)) (y ∷ undetermined after ys) (undetermined after ys))
      by true q rest = rest ∙ ap (λ (b : Bool). list_any (same after z) (cond (not b) (y ∷ undetermined after ys) (undetermined after ys))) (sym q)
      by false q rest =
          ap₂ (λ b c. b || c) (same_by_meaning after after z x z y (λ p. joined p s) (λ p. joined p (reversed s))) rest
          ∙ ap (λ (b : Bool). list_any (same after z) (cond (not b) (y ∷ undetermined after ys) (undetermined after ys))) (sym q)

  -- The answer

  -- what the answer before watches has not moved
  abbrev pub Untouched : Answer → Type 0
  Untouched a = (x : Ident) → Contains (watched a) x → IsUnmoved before after x

  abbrev pub LeadsTo : Answer → Answer → Type 0
  LeadsTo a b = Untouched a → SameReadiness after (answer_ready a) (answer_ready b)

  -- elements that are all determined, or a place that is split
  splits_lead : (rule : Rule) (xs ys : List Ident) → AreSame after xs ys → list_any (is_foreign before) xs ≡ false → filter (is_bare before) xs ≡ []
      → LeadsTo (distributes before (splits before rule xs)) (of_input (distribution_of after rule ys) (distributes after))
  splits_lead rule xs ys h native none = by (split_of rule (map (domain_in before) xs)) refl
    where
      after_answer : AllSteady xs ys → of_input (distribution_of after rule ys) (distributes after) ≡ distributes after (splits_at after ys (map (domain_in before) xs) (split_of rule (map (domain_in before) xs)))
      after_answer all =
          ap (λ (b : Bool). of_input (if b then OtherKind else Known (widens_or (filter (is_bare after) ys) (splits after rule ys))) (distributes after)) (steady_foreign all)
          ∙ ap (λ zs. distributes after (widens_or zs (splits after rule ys))) (steady_bare all none)
          ∙ ap (λ ds. distributes after (splits_at after ys ds (split_of rule ds))) (steady_domains all)

      finished : (o : Option Split) → split_of rule (map (domain_in before) xs) ≡ o → o ≡ None → LeadsTo (distributes before Finished) (of_input (distribution_of after rule ys) (distributes after))
      finished o q e = λ u.
          let all = all_steady xs ys h native (λ x k free. absurd (not_both _ (all_determined (split_none rule (map (domain_in before) xs) (q ∙ e)) x k) free)) in
          ap answer_ready (after_answer all ∙ ap (λ s. distributes after (splits_at after ys (map (domain_in before) xs) s)) (q ∙ e))
        where
          all_determined : ((d : IntSet) → In d (map (domain_in before) xs) → is_single d ≡ true) → (x : Ident) → In x xs → is_determined before x ≡ true
          all_determined g x k =
              let d = has_domain x k in
              determined_single before x d.0 d.1 (subst (λ s. is_single s ≡ true) (ap (λ o. unwrap_or o set.empty) d.1) (g (domain_in before x) (map_in (domain_in before) xs x k)))
            where
              has_domain : (x : Ident) → In x xs → (s : IntSet) × (domain_of before x ≡ Some s)
              has_domain x k = some_set (domain_of before x) refl
                where
                  some_set : (o : Option IntSet) → domain_of before x ≡ o → (s : IntSet) × (domain_of before x ≡ Some s)
                  some_set None q = absurd (none_in (is_bare before) xs x k (ap (λ o. not (is_some o)) q) none)
                  some_set (Some s) q = (s, q)

      by : (o : Option Split) → split_of rule (map (domain_in before) xs) ≡ o → LeadsTo (distributes before (splits_at before xs (map (domain_in before) xs) o)) (of_input (distribution_of after rule ys) (distributes after))
      by None q = finished None q refl
      by (Some s) q = at_place s q (slice_get xs s.var) refl
        where
          at_place : (s : Split) → split_of rule (map (domain_in before) xs) ≡ Some s → (o : Option Ident) → slice_get xs s.var ≡ o
              → LeadsTo (distributes before (unwrap_or (option_map (parts_of (undetermined before xs) s.test (domain (map (domain_in before) xs) s.var)) o) Finished)) (of_input (distribution_of after rule ys) (distributes after))
          at_place s q None e = absurd (split_inside rule xs (map (domain_in before) xs) s (length_map (domain_in before) xs) q e)
          at_place s q (Some x) e = λ u.
              let all = all_steady xs ys h native (λ z k free. u z (contains-from_In (undetermined before xs) z (in_filter (λ y. not (is_determined before y)) xs z k (ap not free)))) in
              let y = steady_at all s.var x e in
              let d = domain (map (domain_in before) xs) s.var in
              let to : of_input (distribution_of after rule ys) (distributes after) ≡ distributes after (parts_of (undetermined after ys) s.test d y.0) =
              after_answer all
              ∙ ap (λ o. distributes after (splits_at after ys (map (domain_in before) xs) o)) q
              ∙ ap (λ o. distributes after (unwrap_or (option_map (parts_of (undetermined after ys) s.test d) o) Finished)) y.1 in
              (Parts (Within y.0 (intervals_of (first_part s.test d))) (Within y.0 (intervals_of (second_part s.test d))), undetermined after ys, ap answer_ready to, ((y.2, refl), (y.2, refl)), steady_waits all)

  -- elements without a domain
  widens_lead : (rule : Rule) (xs ys : List Ident) (b : Ident) (bs : List Ident) → AreSame after xs ys → filter (is_bare before) xs ≡ b ∷ bs → (d : Distribution)
      → LeadsTo (distributes before (widens_or (b ∷ bs) d)) (of_input (distribution_of after rule ys) (distributes after))
  widens_lead rule xs ys b bs h e d = λ u. by (list_any (is_foreign after) ys) (still_bare (u b (contains-from_In (flat_map named_by (interval_news before (b ∷ bs) whole)) b (bare_news before b bs whole bare.1))))
    where
      bare : In b xs × (is_bare before b ≡ true)
      bare = filter_in (is_bare before) xs b (subst (In b) (sym e) (inl refl))

      still_bare : IsUnmoved before after b → (z : Ident) × (zs : List Ident) × (filter (is_bare after) ys ≡ z ∷ zs)
      still_bare m =
          let y = same_place_of after xs ys b h bare.0 in
          some_in (filter (is_bare after) ys) y.0 (in_filter (is_bare after) ys y.0 y.1 (ap (λ o. not (is_some o)) (domain_row after y.0 b (reversed y.2) ∙ m.kept) ∙ bare.1))

      by : (c : Bool) → (z : Ident) × (zs : List Ident) × (filter (is_bare after) ys ≡ z ∷ zs)
          → answer_ready (of_input (if c then OtherKind else Known (widens_or (filter (is_bare after) ys) (splits after rule ys))) (distributes after)) ≡ Steps
      by true r = refl
      by false r = ap (λ zs. answer_ready (distributes after (widens_or zs (splits after rule ys)))) r.2

  distribution_leads : (rule : Rule) (xs ys : List Ident) → AreSame after xs ys
      → LeadsTo (of_input (distribution_of before rule xs) (distributes before)) (of_input (distribution_of after rule ys) (distributes after))
  distribution_leads rule xs ys h = by (list_any (is_foreign before) xs) refl
    where
      by_bare : list_any (is_foreign before) xs ≡ false → (bs : List Ident) → filter (is_bare before) xs ≡ bs
          → LeadsTo (distributes before (widens_or bs (splits before rule xs))) (of_input (distribution_of after rule ys) (distributes after))
      by_bare native [] e = splits_lead rule xs ys h native e
      by_bare native (b ∷ bs) e = widens_lead rule xs ys b bs h e (splits before rule xs)

      by : (b : Bool) → list_any (is_foreign before) xs ≡ b
          → LeadsTo (of_input (if b then OtherKind else Known (widens_or (filter (is_bare before) xs) (splits before rule xs))) (distributes before)) (of_input (distribution_of after rule ys) (distributes after))
      by true e = λ u. ap (λ (b : Bool). answer_ready (of_input (if b then OtherKind else Known (widens_or (filter (is_bare after) ys) (splits after rule ys))) (distributes after))) (any_foreign xs ys h e)
      by false e = by_bare e (filter (is_bare before) xs) refl

  input_leads : (i j : Input (Rule × List Ident)) → InputStays before after keeps sound (Both Equals (AreSame after)) i j
      → LeadsTo (of_input (and_further (λ (p : Rule × List Ident). distribution_of before p.0 p.1) i) (distributes before))
      (of_input (and_further (λ (p : Rule × List Ident). distribution_of after p.0 p.1) j) (distributes after))
  input_leads (Known p) j h =
      subst (λ z. LeadsTo (of_input (distribution_of before p.0 p.1) (distributes before)) (of_input (and_further (λ (q : Rule × List Ident). distribution_of after q.0 q.1) z) (distributes after))) (sym h.1)
      (subst (λ r. LeadsTo (of_input (distribution_of before p.0 p.1) (distributes before)) (of_input (distribution_of after r h.0.1) (distributes after))) h.2.0 (distribution_leads p.0 p.1 h.0.1 h.2.1))
  input_leads (Unknown x) j h = λ u.
      let r = h (u x (contains-from_In (x ∷ []) x (inl refl))).free in
      (r.0 ∷ [], ap (λ z. answer_ready (of_input (and_further (λ (q : Rule × List Ident). distribution_of after q.0 q.1) z) (distributes after))) r.1, one_class r.0 x r.2)
    where
      one_class : (y x : Ident) → Same after x y → SameClasses after (x ∷ []) (y ∷ [])
      one_class y x s z = ap (λ b. b || false) (same_by_meaning after after z x z y (λ t. joined t s) (λ t. joined t (reversed s)))
  input_leads OtherKind j h = λ u. ap (λ z. answer_ready (of_input (and_further (λ (q : Rule × List Ident). distribution_of after q.0 q.1) z) (distributes after))) h

  pub distribute_leads : (r v : Ident) → LeadsTo (of_input (distribution before r v) (distributes before)) (of_input (distribution after r v) (distributes after))
  distribute_leads r v =
      input_leads (both (rule_input before r) (vector before v)) (both (rule_input after r) (vector after v))
      (both_stay before after keeps sound Equals (AreSame after) (rule_input before r) (rule_input after r) (vector before v) (vector after v) (rule_stays r r itself) (vector_stays before after keeps sound v v itself))
