-- The place that a distributor splits, among all elements and among those that are not determined.
use Rattle.std.proofs.Common.{◌≡◌, ℕ, zero, suc, nat_lt, ℤ, Bool, true, false, not, ◌||◌, if◌then◌else◌, List, [], ◌∷◌, map, filter, Option, Some, None, is_some, option_map, unwrap_or, slice_get, refl, sym, ap, subst, ◌∙◌, inl, inr, arith}
use Rattle.std.proofs.lemmas.Int.{ints}
use Rattle.std.specs.List.{list_any}
use Rattle.std.specs.Option.{option_and_then}
use Rattle.std.specs.FinSet as set
use Rattle.std.specs.Ordering.{int_eq}
use Rattle.oz_base.specs.Lists.{holds_of, given_or}
use Rattle.oz_base.specs.declared.names.Ident.{Ident}
use Rattle.oz_base.specs.declared.distribution.Rule.{Rule}
use Rattle.oz_base.specs.declared.distribution.Rule.TheVariants.{Naive, FirstFail, Split as Halve}
use Rattle.oz_base.specs.declared.distribution.Split.{Split}
use Rattle.oz_domains.specs.Domains.{IntSet, Has, is_single, single, only, least, greatest}
use Rattle.oz_domains.specs.Positions.{domain}
use Rattle.oz_domains.specs.Splits.{first_place, smaller_place, smallest_place, place_of, test_of, split_of}
use Rattle.fd_domain.proofs.SetLaws.{with_run-cases, with_run-new, has-empty, least_is, greatest_is, ties}
use Rattle.oz_semantics.specs.Values.{integer, integer_in}
use Rattle.oz_semantics.specs.Store.{View, told_value, told_domain, domain_by, is_determined}
use Rattle.oz_semantics.specs.Propagation.{domain_in}
use Rattle.oz_semantics.specs.Distributors.{Distribution, Finished, is_foreign, is_bare, undetermined, parts_of, splits_at, splits}
use Rattle.oz_semantics.specs.declared.value.Value.{Value}

-- The set of one integer

single_has : (n : ℤ) → Has (single n) n
single_has n = with_run-new n 1 set.empty n (omega (arith, ints)) (omega (arith, ints))

single_only : (n q : ℤ) → Has (single n) q → q ≡ n
single_only n q h = elim (with_run-cases n 1 set.empty q h) [
  | inl k ↦ omega (arith, ints, k.0, k.1)
  | inr k ↦ absurd (has-empty q k)
]

single_single : (n : ℤ) → is_single (single n) ≡ true
single_single n =
    let low : n ≡ least (single n) = least_is (single n) n (single_has n) (λ q h. (let e = single_only n q h in omega (arith, ints, e))) in
    let high : n ≡ greatest (single n) = greatest_is (single n) n (single_has n) (λ q h. (let e = single_only n q h in omega (arith, ints, e))) in
    ap (λ m. int_eq m (greatest (single n))) (sym low) ∙ ap (int_eq n) (sym high) ∙ ties n

-- An element is determined exactly where its domain has one integer

-- neither determined to no integer nor without a domain
pub record IsInDomain (view : View) (x : Ident) : Type 0 where
  pub integer : is_foreign view x ≡ false
  pub domain : is_bare view x ≡ false

determined_by : (v : Option Value) (d : Option IntSet) → holds_of (λ w. not (is_some (integer_in w))) (given_or v (option_map integer (option_and_then only d))) ≡ false → not (is_some (domain_by v d)) ≡ false
    → is_some (given_or v (option_map integer (option_and_then only d))) ≡ is_single (unwrap_or (domain_by v d) set.empty)
determined_by (Some v) d f b = by (integer_in v) f
  where
    by : (o : Option ℤ) → not (is_some o) ≡ false → true ≡ is_single (unwrap_or (option_map single o) set.empty)
    by (Some n) e = sym (single_single n)
    by None e = cc
determined_by None None f b = cc
determined_by None (Some d) f b = by (is_single d)
  where
    by : (c : Bool) → is_some (option_map integer (if c then Some (least d) else None)) ≡ c
    by true = refl
    by false = refl

pub determined_is : (view : View) (x : Ident) → IsInDomain view x → is_determined view x ≡ is_single (domain_in view x)
determined_is view x i = determined_by (told_value view x) (told_domain view x) i.integer i.domain

abbrev pub AllInDomain : View → List Ident → Type 0
AllInDomain view [] = Unit {0}
AllInDomain view (x ∷ xs) = IsInDomain view x × AllInDomain view xs

pub all_in_domain : (view : View) (xs : List Ident) → list_any (is_foreign view) xs ≡ false → filter (is_bare view) xs ≡ [] → AllInDomain view xs
all_in_domain view [] e f = tt
all_in_domain view (x ∷ xs) e f = by (is_foreign view x) (is_bare view x) refl refl e f (all_in_domain view xs)
  where
    by : (b c : Bool) → is_foreign view x ≡ b → is_bare view x ≡ c → (b || list_any (is_foreign view) xs) ≡ false → (if c then x ∷ filter (is_bare view) xs else filter (is_bare view) xs) ≡ []
        → (list_any (is_foreign view) xs ≡ false → filter (is_bare view) xs ≡ [] → AllInDomain view xs) → IsInDomain view x × AllInDomain view xs
    by true c p q e f rest = cc
    by false true p q e f rest = cc
    by false false p q e f rest = (record { integer = p; domain = q }, rest e f)

-- One place in two lists

abbrev pub domains : View → List Ident → List IntSet
domains view xs = map (domain_in view) xs

-- the same element stands at both, or there is none
abbrev OnePlace : List Ident → List Ident → Option ℕ → Option ℕ → Type 0
OnePlace xs ys None None = Unit {0}
OnePlace xs ys (Some i) (Some j) = slice_get xs i ≡ slice_get ys j
OnePlace xs ys None (Some j) = ⊥
OnePlace xs ys (Some i) None = ⊥

later : (x : Ident) (xs ys : List Ident) (o p : Option ℕ) → OnePlace xs ys o p → OnePlace (x ∷ xs) ys (option_map suc o) p
later x xs ys None None h = tt
later x xs ys (Some i) (Some j) h = h
later x xs ys None (Some j) h = absurd h
later x xs ys (Some i) None h = absurd h

first_one : (view : View) (xs : List Ident) → AllInDomain view xs → OnePlace xs (undetermined view xs) (first_place (domains view xs)) (first_place (domains view (undetermined view xs)))
first_one view [] a = tt
first_one view (x ∷ xs) a = by (is_single (domain_in view x)) refl (determined_is view x a.0) (first_one view xs a.1)
  where
    by : (b : Bool) → is_single (domain_in view x) ≡ b → is_determined view x ≡ is_single (domain_in view x)
        → OnePlace xs (undetermined view xs) (first_place (domains view xs)) (first_place (domains view (undetermined view xs)))
        → OnePlace (x ∷ xs) (undetermined view (x ∷ xs)) (first_place (domains view (x ∷ xs))) (first_place (domains view (undetermined view (x ∷ xs))))
    by true e d r =
        subst (λ ys. OnePlace (x ∷ xs) ys (first_place (domains view (x ∷ xs))) (first_place (domains view ys)))
        (sym (ap (λ c. if not c then x ∷ undetermined view xs else undetermined view xs) (d ∙ e)))
        (subst (λ c. OnePlace (x ∷ xs) (undetermined view xs) (if c then option_map suc (first_place (domains view xs)) else Some 0) (first_place (domains view (undetermined view xs)))) (sym e)
        (later x xs (undetermined view xs) (first_place (domains view xs)) (first_place (domains view (undetermined view xs))) r))
    by false e d r =
        subst (λ ys. OnePlace (x ∷ xs) ys (first_place (domains view (x ∷ xs))) (first_place (domains view ys)))
        (sym (ap (λ c. if not c then x ∷ undetermined view xs else undetermined view xs) (d ∙ e)))
        (subst (λ c. OnePlace (x ∷ xs) (x ∷ undetermined view xs) (if c then option_map suc (first_place (domains view xs)) else Some 0) (if c then option_map suc (first_place (domains view (undetermined view xs))) else Some 0)) (sym e)
        refl)

domain_at : (view : View) (xs : List Ident) (i : ℕ) → domain (domains view xs) i ≡ unwrap_or (option_map (domain_in view) (slice_get xs i)) set.empty
domain_at view [] i = refl
domain_at view (x ∷ xs) zero = refl
domain_at view (x ∷ xs) (suc i) = domain_at view xs i

one_domain : (view : View) (xs ys : List Ident) (i j : ℕ) → slice_get xs i ≡ slice_get ys j → domain (domains view xs) i ≡ domain (domains view ys) j
one_domain view xs ys i j e = domain_at view xs i ∙ ap (λ o. unwrap_or (option_map (domain_in view) o) set.empty) e ∙ sym (domain_at view ys j)

smaller_one : (view : View) (x : Ident) (d : IntSet) (xs ys : List Ident) (o p : Option ℕ) → OnePlace xs ys o p
    → slice_get (x ∷ xs) (smaller_place d (domains view xs) o) ≡ slice_get (x ∷ ys) (smaller_place d (domains view ys) p)
smaller_one view x d xs ys None None h = refl
smaller_one view x d xs ys (Some i) (Some j) h =
    by (nat_lt (set.len (domain (domains view xs) i)) (set.len d))
    ∙ ap (λ s. slice_get (x ∷ ys) (if nat_lt (set.len s) (set.len d) then suc j else 0)) (one_domain view xs ys i j h)
  where
    by : (b : Bool) → slice_get (x ∷ xs) (if b then suc i else 0) ≡ slice_get (x ∷ ys) (if b then suc j else 0)
    by true = h
    by false = refl
smaller_one view x d xs ys None (Some j) h = absurd h
smaller_one view x d xs ys (Some i) None h = absurd h

smallest_one : (view : View) (xs : List Ident) → AllInDomain view xs → OnePlace xs (undetermined view xs) (smallest_place (domains view xs)) (smallest_place (domains view (undetermined view xs)))
smallest_one view [] a = tt
smallest_one view (x ∷ xs) a = by (is_single (domain_in view x)) refl (determined_is view x a.0) (smallest_one view xs a.1)
  where
    by : (b : Bool) → is_single (domain_in view x) ≡ b → is_determined view x ≡ is_single (domain_in view x)
        → OnePlace xs (undetermined view xs) (smallest_place (domains view xs)) (smallest_place (domains view (undetermined view xs)))
        → OnePlace (x ∷ xs) (undetermined view (x ∷ xs)) (smallest_place (domains view (x ∷ xs))) (smallest_place (domains view (undetermined view (x ∷ xs))))
    by true e d r =
        subst (λ ys. OnePlace (x ∷ xs) ys (smallest_place (domains view (x ∷ xs))) (smallest_place (domains view ys)))
        (sym (ap (λ c. if not c then x ∷ undetermined view xs else undetermined view xs) (d ∙ e)))
        (subst
        (λ c. OnePlace (x ∷ xs) (undetermined view xs)
        (if c then option_map suc (smallest_place (domains view xs)) else Some (smaller_place (domain_in view x) (domains view xs) (smallest_place (domains view xs))))
        (smallest_place (domains view (undetermined view xs))))
        (sym e)
        (later x xs (undetermined view xs) (smallest_place (domains view xs)) (smallest_place (domains view (undetermined view xs))) r))
    by false e d r =
        subst (λ ys. OnePlace (x ∷ xs) ys (smallest_place (domains view (x ∷ xs))) (smallest_place (domains view ys)))
        (sym (ap (λ c. if not c then x ∷ undetermined view xs else undetermined view xs) (d ∙ e)))
        (subst
        (λ c. OnePlace (x ∷ xs) (x ∷ undetermined view xs)
        (if c then option_map suc (smallest_place (domains view xs)) else Some (smaller_place (domain_in view x) (domains view xs) (smallest_place (domains view xs))))
        (if c then option_map suc (smallest_place (domains view (undetermined view xs))) else Some (smaller_place (domain_in view x) (domains view (undetermined view xs)) (smallest_place (domains view (undetermined view xs))))))
        (sym e)
        (smaller_one view x (domain_in view x) xs (undetermined view xs) (smallest_place (domains view xs)) (smallest_place (domains view (undetermined view xs))) r))

place_one : (view : View) (rule : Rule) (xs : List Ident) → AllInDomain view xs → OnePlace xs (undetermined view xs) (place_of rule (domains view xs)) (place_of rule (domains view (undetermined view xs)))
place_one view Naive xs a = first_one view xs a
place_one view FirstFail xs a = smallest_one view xs a
place_one view Halve xs a = smallest_one view xs a

-- What is split

-- by the place among these elements alone
abbrev pub split_among : View → List Ident → Option Split → Distribution
split_among view ys None = Finished
split_among view ys (Some s) = unwrap_or (option_map (parts_of ys s.test (domain (domains view ys) s.var)) (slice_get ys s.var)) Finished

abbrev pub split_at : Rule → List IntSet → Option ℕ → Option Split
split_at rule ds o = option_map (λ i. record { var = i; test = test_of rule (domain ds i) }) o

one_split : (view : View) (rule : Rule) (xs : List Ident) (o p : Option ℕ) → OnePlace xs (undetermined view xs) o p
    → splits_at view xs (domains view xs) (split_at rule (domains view xs) o) ≡ split_among view (undetermined view xs) (split_at rule (domains view (undetermined view xs)) p)
one_split view rule xs None None h = refl
one_split view rule xs (Some i) (Some j) h =
    ap (λ s. unwrap_or (option_map (parts_of (undetermined view xs) (test_of rule s) s) (slice_get xs i)) Finished) (one_domain view xs (undetermined view xs) i j h)
    ∙ ap (λ o. unwrap_or (option_map (parts_of (undetermined view xs) (test_of rule (domain (domains view (undetermined view xs)) j)) (domain (domains view (undetermined view xs)) j)) o) Finished) h
one_split view rule xs None (Some j) h = absurd h
one_split view rule xs (Some i) None h = absurd h

pub splits_are : (view : View) (rule : Rule) (xs : List Ident) → AllInDomain view xs → splits view rule xs ≡ split_among view (undetermined view xs) (split_of rule (domains view (undetermined view xs)))
splits_are view rule xs a = one_split view rule xs (place_of rule (domains view xs)) (place_of rule (domains view (undetermined view xs))) (place_one view rule xs a)

pub none_split : (view : View) (rule : Rule) (xs waits : List Ident) (ds : List IntSet) → AllInDomain view xs → waits ≡ undetermined view xs → ds ≡ map (domain_in view) waits → None ≡ split_of rule ds → splits view rule xs ≡ Finished
none_split view rule xs waits ds a w d e =
    splits_are view rule xs a
    ∙ ap (λ ys. split_among view ys (split_of rule (domains view ys))) (sym w)
    ∙ ap (λ l. split_among view waits (split_of rule l)) (sym d)
    ∙ ap (split_among view waits) (sym e)

pub some_split : (view : View) (rule : Rule) (xs waits : List Ident) (ds : List IntSet) (s : Split) (x : Ident) → AllInDomain view xs → waits ≡ undetermined view xs → ds ≡ map (domain_in view) waits → Some s ≡ split_of rule ds
    → slice_get waits s.var ≡ Some x → splits view rule xs ≡ parts_of waits s.test (domain ds s.var) x
some_split view rule xs waits ds s x a w d e at =
    splits_are view rule xs a
    ∙ ap (λ ys. split_among view ys (split_of rule (domains view ys))) (sym w)
    ∙ ap (λ l. split_among view waits (split_of rule l)) (sym d)
    ∙ ap (split_among view waits) (sym e)
    ∙ ap (λ l. unwrap_or (option_map (parts_of waits s.test (domain l s.var)) (slice_get waits s.var)) Finished) (sym d)
    ∙ ap (λ o. unwrap_or (option_map (parts_of waits s.test (domain ds s.var)) o) Finished) at
