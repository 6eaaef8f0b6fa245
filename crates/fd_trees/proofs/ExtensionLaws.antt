-- A tuple of a problem's variables, and the tuple with the values of the products behind it.
use Rattle.std.proofs.Common.{◌≡◌, ℕ, suc, ◌+◌, ◌<◌, ◌≤◌, ◌⊎◌, inl, inr, ℤ, pos, negsuc, ◌+ℤ◌, ◌*ℤ◌, ◌≤ℤ◌, ◌<ℤ◌, int_le, true, ◌&&◌, List, [], ◌∷◌, ◌++◌, length, Contains, All, refl, sym, ◌∙◌, ap, subst, arith}
use Rattle.std.proofs.lemmas.Int.{ints}
use Rattle.std.proofs.lemmas.List.{length-append, get_or_append_left, get_or-append-add}
use Rattle.std.proofs.lemmas.List.Elements.{All-nil, All-cons, All-append, All-head, All-tail, Contains-append_left, Contains-append_right, Contains-append_cases}
use Rattle.std.specs.List.{list_all}
use Rattle.std.specs.FinSet as set
use Rattle.oz_base.specs.declared.interval.TheConstants.{LEAST_VALUE, GREATEST_VALUE}
use Rattle.oz_base.specs.declared.relation.Relation.TheVariants.{Times, Distinct}
use Rattle.oz_language.specs.declared.kernel.Sign.{Sign}
use Rattle.oz_language.specs.declared.kernel.Sign.TheVariants.{Zero, NotZero, Negative, NotPositive}
use Rattle.oz_domains.specs.Domains.{Has, between, count}
use Rattle.oz_domains.specs.Positions.{value}
use Rattle.oz_domains.specs.Relations.{dot, are_distinct, allowed}
use Rattle.fd_domain.proofs.SetLaws.{with_run-cases, with_run-new, count-is, count-none, has-empty, and_left, and_right, and_both}
use Rattle.fd_domain.proofs.IntervalLaws.{le_true, true_le}
use Rattle.fd_problems.specs.declared.problem.Item.{Item}
use Rattle.fd_problems.specs.declared.problem.Item.TheVariants.{Compares, Different, Within}
use Rattle.fd_problems.specs.declared.problem.Term.{Term}
use Rattle.fd_problems.specs.declared.problem.Term.TheVariants.{Multiple, Product}
use Rattle.fd_problems.specs.Problems.{compares, holds, product_fits, terms_sum, values_at}
use Rattle.fd_stores.specs.Stores.{Constraint, Posted, Told, meets}
use Rattle.fd_stores.proofs.Sets.{int_same, same_int}
use Rattle.fd_stores.proofs.Lists.{contains_none, contains_head, contains_tail, contains_cases}
use Rattle.fd_trees.specs.Scripts.{term_variables, coefficients, products, product_count, linear, relation, item_constraints, item_terms, constraints_from, products_in, AreTerms, IsItem}

-- ---- ranges

order_cases : (a b : ℤ) → (a ≤ℤ b) ⊎ (b <ℤ a)
order_cases a b = grind (arith, ints)

pub between_has : (low high q : ℤ) → low ≤ℤ q → q ≤ℤ high → Has (between low high) q
between_has low high q l h = (let e = count-is low high (omega (arith, ints)) in with_run-new low (count low high) set.empty q l (omega (arith, ints)))

pub has_between : (low high q : ℤ) → Has (between low high) q → (low ≤ℤ q) × (q ≤ℤ high)
has_between low high q h = elim (with_run-cases low (count low high) set.empty q h) [
  | inl k ↦ elim (order_cases low high) [
    | inl l ↦ (let e = count-is low high l in let a = k.0 in let b = k.1 in (a, omega (arith, ints)))
    | inr g ↦ (let e = count-none low high g in let a = k.0 in let b : q <ℤ (low +ℤ pos 0) = subst (λ n. q <ℤ (low +ℤ pos n)) e k.1 in absurd (omega (arith, ints)))
  ]
  | inr g ↦ absurd (has-empty q g)
]

-- ---- tuples that have the products

abbrev pub AllMet : List Constraint → List ℤ → Type 0
AllMet cs v = (c : Constraint) → Contains cs c → meets c v ≡ true

pub met_both : (cs ds : List Constraint) (v : List ℤ) → AllMet cs v → AllMet ds v → AllMet (cs ++ ds) v
met_both cs ds v h k c i = elim (Contains-append_cases cs ds c i) [ inl j ↦ h c j | inr j ↦ k c j ]

pub met_left : (cs ds : List Constraint) (v : List ℤ) → AllMet (cs ++ ds) v → AllMet cs v
met_left cs ds v h c i = h c (Contains-append_left cs ds c i)

pub met_right : (cs ds : List Constraint) (v : List ℤ) → AllMet (cs ++ ds) v → AllMet ds v
met_right cs ds v h c i = h c (Contains-append_right cs ds c i)

met_one : (c : Constraint) (v : List ℤ) → meets c v ≡ true → AllMet (c ∷ []) v
met_one c v h x i = elim (contains_cases c x [] i) [ inl e ↦ subst (λ z. meets z v ≡ true) e h | inr k ↦ absurd (contains_none x k) ]

-- from number n on stand the products of the terms
abbrev pub IsExtended : ℕ → List ℤ → List Term → Type 0
IsExtended n v [] = Unit {0}
IsExtended n v (Multiple a x ∷ ms) = IsExtended n v ms
IsExtended n v (Product a x y ∷ ms) = (value v x *ℤ value v y ≡ value v n) × IsExtended (suc n) v ms

products_met : (n : ℕ) (v : List ℤ) (ms : List Term) → IsExtended n v ms → AllMet (products n ms) v
products_met n v [] h c i = absurd (contains_none c i)
products_met n v (Multiple a x ∷ ms) h c i = products_met n v ms h c i
products_met n v (Product a x y ∷ ms) h c i = elim (contains_cases (Posted Times (x ∷ y ∷ n ∷ [])) c (products (suc n) ms) i) [
  | inl e ↦ subst (λ z. meets z v ≡ true) e (same_int (value v x *ℤ value v y) (value v n) h.0)
  | inr k ↦ products_met (suc n) v ms h.1 c k
]

met_products : (n : ℕ) (v : List ℤ) (ms : List Term) → AllMet (products n ms) v → IsExtended n v ms
met_products n v [] h = tt
met_products n v (Multiple a x ∷ ms) h = met_products n v ms h
met_products n v (Product a x y ∷ ms) h = (
  int_same (value v x *ℤ value v y) (value v n) (h (Posted Times (x ∷ y ∷ n ∷ [])) (contains_head (Posted Times (x ∷ y ∷ n ∷ [])) (products (suc n) ms))),
  met_products (suc n) v ms (λ c i. h c (contains_tail (Posted Times (x ∷ y ∷ n ∷ [])) c (products (suc n) ms) i)),
)

-- the sum of the terms is that of the posted variables
sum_is : (n : ℕ) (v : List ℤ) (ms : List Term) → IsExtended n v ms → dot (coefficients ms) (values_at v (term_variables n ms)) ≡ terms_sum v ms
sum_is n v [] h = refl
sum_is n v (Multiple a x ∷ ms) h = ap (λ z. a *ℤ value v x +ℤ z) (sum_is n v ms h)
sum_is n v (Product a x y ∷ ms) h = (let e = sum_is (suc n) v ms h.1 in let f = sym h.0 in λ i. a *ℤ f i +ℤ e i)

allowed_is : (c : Sign) (k : ℤ) (n : ℕ) (v : List ℤ) (ms : List Term) → IsExtended n v ms → allowed (relation c (linear k ms)) (values_at v (term_variables n ms)) ≡ compares c (k +ℤ terms_sum v ms)
allowed_is Zero k n v ms h = ap (λ z. compares Zero (k +ℤ z)) (sum_is n v ms h)
allowed_is NotZero k n v ms h = ap (λ z. compares NotZero (k +ℤ z)) (sum_is n v ms h)
allowed_is Negative k n v ms h = ap (λ z. compares Negative (k +ℤ z)) (sum_is n v ms h)
allowed_is NotPositive k n v ms h = ap (λ z. compares NotPositive (k +ℤ z)) (sum_is n v ms h)

-- ---- one item

pub item_met : (n : ℕ) (v : List ℤ) (i : Item) → IsExtended n v (item_terms i) → holds v i ≡ true → AllMet (item_constraints n i) v
item_met n v (Within x low high) e h = met_one _ v (between_has low high (value v x) (le_true _ _ (and_left _ _ h)) (le_true _ _ (and_right (int_le low (value v x)) _ h)))
item_met n v (Compares c k ms) e h = met_both (products n ms) _ v (products_met n v ms e) (met_one _ v (allowed_is c k n v ms e ∙ and_left _ _ h))
item_met n v (Different xs) e h = met_one _ v h

pub met_extended : (n : ℕ) (v : List ℤ) (i : Item) → AllMet (item_constraints n i) v → IsExtended n v (item_terms i)
met_extended n v (Within x low high) h = tt
met_extended n v (Compares c k ms) h = met_products n v ms (met_left (products n ms) _ v h)
met_extended n v (Different xs) h = tt

-- the values of the products are domain values
abbrev pub AreSmall : List ℤ → ℕ → Type 0
AreSmall v b = (i : ℕ) → i < b → value v i ≤ℤ GREATEST_VALUE

fits_from : (n b : ℕ) (v : List ℤ) (ms : List Term) → AreSmall v b → n + product_count ms ≤ b → IsExtended n v ms → list_all (product_fits v) ms ≡ true
fits_from n b v [] s l h = refl
fits_from n b v (Multiple a x ∷ ms) s l h = fits_from n b v ms s l h
fits_from n b v (Product a x y ∷ ms) s l h = and_both _ _ (true_le _ _ (subst (λ z. z ≤ℤ GREATEST_VALUE) (sym h.0) (s n (omega arith)))) (fits_from (suc n) b v ms s (omega arith) h.1)

pub met_item : (n b : ℕ) (v : List ℤ) (i : Item) → AreSmall v b → n + product_count (item_terms i) ≤ b → AllMet (item_constraints n i) v → holds v i ≡ true
met_item n b v (Within x low high) s l h = (let k = has_between low high (value v x) (h (Told x (between low high)) (contains_head (Told x (between low high)) [])) in and_both _ _ (true_le _ _ k.0) (true_le _ _ k.1))
met_item n b v (Compares c k ms) s l h =
    let e = met_products n v ms (met_left (products n ms) _ v h) in
    let posted = Posted (relation c (linear k ms)) (term_variables n ms) in
    and_both _ _ (sym (allowed_is c k n v ms e) ∙ met_right (products n ms) (posted ∷ []) v h posted (contains_head posted [])) (fits_from n b v ms s l e)
met_item n b v (Different xs) s l h = h (Posted Distinct xs) (contains_head (Posted Distinct xs) [])

-- ---- all items

abbrev pub AllExtended : ℕ → List ℤ → List Item → Type 0
AllExtended n v [] = Unit {0}
AllExtended n v (i ∷ is) = IsExtended n v (item_terms i) × AllExtended (n + product_count (item_terms i)) v is

abbrev pub AllHold : List ℤ → List Item → Type 0
AllHold v is = (i : Item) → Contains is i → holds v i ≡ true

pub items_met : (n : ℕ) (v : List ℤ) (is : List Item) → AllExtended n v is → AllHold v is → AllMet (constraints_from n is) v
items_met n v [] e h = λ c i. absurd (contains_none c i)
items_met n v (x ∷ is) e h =
    met_both (item_constraints n x) (constraints_from (n + product_count (item_terms x)) is) v
    (item_met n v x e.0 (h x (contains_head x is)))
    (items_met (n + product_count (item_terms x)) v is e.1 (λ y i. h y (contains_tail x y is i)))

pub met_items : (n b : ℕ) (v : List ℤ) (is : List Item) → AreSmall v b → n + products_in is ≤ b → AllMet (constraints_from n is) v → AllHold v is
met_items n b v [] s l h = λ y i. absurd (contains_none y i)
met_items n b v (x ∷ is) s l h = λ y i. elim (contains_cases x y is i) [
  | inl e ↦ subst (λ z. holds v z ≡ true) e (met_item n b v x s (omega arith) (met_left (item_constraints n x) _ v h))
  | inr k ↦ met_items (n + product_count (item_terms x)) b v is s (omega arith) (met_right (item_constraints n x) _ v h) y k
]

-- ---- tuples with the same values of a problem's variables

abbrev pub Agree : ℕ → List ℤ → List ℤ → Type 0
Agree n t v = (x : ℕ) → x < n → value t x ≡ value v x

module _ (n : ℕ) (t v : List ℤ) (a : Agree n t v) where
  sum_same : (ms : List Term) → AreTerms n ms → terms_sum t ms ≡ terms_sum v ms
  sum_same [] h = refl
  sum_same (Multiple c x ∷ ms) h = (let e = a x h.0 in let f = sum_same ms h.1 in λ i. c *ℤ e i +ℤ f i)
  sum_same (Product c x y ∷ ms) h = (let e = a x h.0.0 in let g = a y h.0.1 in let f = sum_same ms h.1 in λ i. c *ℤ (e i *ℤ g i) +ℤ f i)

  fits_same : (ms : List Term) → AreTerms n ms → list_all (product_fits t) ms ≡ list_all (product_fits v) ms
  fits_same [] h = refl
  fits_same (Multiple c x ∷ ms) h = fits_same ms h.1
  fits_same (Product c x y ∷ ms) h = (let e = a x h.0.0 in let g = a y h.0.1 in let f = fits_same ms h.1 in λ i. int_le (e i *ℤ g i) GREATEST_VALUE && f i)

  pub values_same : (xs : List ℕ) → All (λ x. x < n) xs → values_at t xs ≡ values_at v xs
  values_same [] h = refl
  values_same (x ∷ xs) h = (let e = a x (All-head (λ y. y < n) x xs h) in let f = values_same xs (All-tail (λ y. y < n) x xs h) in λ i. e i ∷ f i)

  pub holds_same : (i : Item) → IsItem n i → holds t i ≡ holds v i
  holds_same (Within x low high) h = ap (λ z. int_le low z && int_le z high) (a x h)
  holds_same (Compares c k ms) h = (let e = sum_same ms h.0 in let f = fits_same ms h.0 in λ i. compares c (k +ℤ e i) && f i)
  holds_same (Different xs) h = ap are_distinct (values_same xs h)

-- ---- the values of the products

abbrev pub term_products : List ℤ → List Term → List ℤ
term_products t [] = []
term_products t (Multiple a x ∷ ms) = term_products t ms
term_products t (Product a x y ∷ ms) = (value t x *ℤ value t y) ∷ term_products t ms

abbrev pub product_values : List ℤ → List Item → List ℤ
product_values t [] = []
product_values t (i ∷ is) = term_products t (item_terms i) ++ product_values t is

length_terms : (t : List ℤ) (ms : List Term) → length (term_products t ms) ≡ product_count ms
length_terms t [] = refl
length_terms t (Multiple a x ∷ ms) = length_terms t ms
length_terms t (Product a x y ∷ ms) = (let e = length_terms t ms in omega arith)

pub length_products : (t : List ℤ) (is : List Item) → length (product_values t is) ≡ products_in is
length_products t [] = refl
length_products t (i ∷ is) = (let e = length_terms t (item_terms i) in let f = length_products t is in let g = length-append (term_products t (item_terms i)) (product_values t is) in omega arith)

module _ (n : ℕ) (t v : List ℤ) (a : Agree n t v) where
  -- where the products stand from number m on
  extended_at : (m : ℕ) (ms : List Term) → AreTerms n ms → ((k : ℕ) → k < product_count ms → value v (m + k) ≡ value (term_products t ms) k) → IsExtended m v ms
  extended_at m [] w h = tt
  extended_at m (Multiple c x ∷ ms) w h = extended_at m ms w.1 h
  extended_at m (Product c x y ∷ ms) w h = (
    (let e = a x w.0.0 in let f = a y w.0.1 in let z : m + 0 ≡ m = omega arith in (λ i. sym e i *ℤ sym f i) ∙ sym (h 0 (omega arith)) ∙ ap (value v) z),
    extended_at (suc m) ms w.1 (λ k l. (let z : suc m + k ≡ m + suc k = omega arith in ap (value v) z ∙ h (suc k) (omega (arith, l)))),
  )

  pub all_extended : (m : ℕ) (is : List Item) → ((i : Item) → Contains is i → IsItem n i) → ((k : ℕ) → k < products_in is → value v (m + k) ≡ value (product_values t is) k) → AllExtended m v is
  all_extended m [] w h = tt
  all_extended m (x ∷ is) w h =
      let here = term_products t (item_terms x) in
      let e = length_terms t (item_terms x) in (
        extended_at m (item_terms x) (terms_of x (w x (contains_head x is))) (λ k l. h k (omega (arith, l)) ∙ get_or_append_left here (product_values t is) (pos 0) k (omega (arith, l))),
        all_extended (m + product_count (item_terms x)) is (λ y i. w y (contains_tail x y is i)) (λ k l. (
            let z : m + product_count (item_terms x) + k ≡ m + (length here + k) = omega arith in
            ap (value v) z ∙ h (length here + k) (omega (arith, l)) ∙ get_or-append-add here (product_values t is) k (pos 0))),
      ) where
        terms_of : (i : Item) → IsItem n i → AreTerms n (item_terms i)
        terms_of (Within x low high) h = tt
        terms_of (Compares c k ms) h = h.0
        terms_of (Different xs) h = tt

-- a domain value
abbrev pub IsValue : ℤ → Type 0
IsValue q = (LEAST_VALUE ≤ℤ q) × (q ≤ℤ GREATEST_VALUE)

natural_product : (x y : ℤ) → pos 0 ≤ℤ x → pos 0 ≤ℤ y → pos 0 ≤ℤ (x *ℤ y)
natural_product (pos x) (pos y) a b = omega (arith, ints)
natural_product (pos x) (negsuc y) a b = absurd (omega (arith, ints))
natural_product (negsuc x) y a b = absurd (omega (arith, ints))

module _ (n : ℕ) (t : List ℤ) (v : (i : ℕ) → i < n → IsValue (value t i)) where
  term_values : (ms : List Term) → AreTerms n ms → list_all (product_fits t) ms ≡ true → All IsValue (term_products t ms)
  term_values [] w h = All-nil IsValue
  term_values (Multiple c x ∷ ms) w h = term_values ms w.1 h
  term_values (Product c x y ∷ ms) w h =
      All-cons IsValue (value t x *ℤ value t y) (term_products t ms)
      (natural_product (value t x) (value t y) (v x w.0.0).0 (v y w.0.1).0, le_true _ _ (and_left _ _ h))
      (term_values ms w.1 (and_right (product_fits t (Product c x y)) _ h))

  item_values : (i : Item) → IsItem n i → holds t i ≡ true → All IsValue (term_products t (item_terms i))
  item_values (Within x low high) w h = All-nil IsValue
  item_values (Compares c k ms) w h = term_values ms w.0 (and_right (compares c (k +ℤ terms_sum t ms)) _ h)
  item_values (Different xs) w h = All-nil IsValue

  pub all_values : (is : List Item) → ((i : Item) → Contains is i → IsItem n i) → AllHold t is → All IsValue (product_values t is)
  all_values [] w h = All-nil IsValue
  all_values (x ∷ is) w h =
      All-append IsValue (term_products t (item_terms x)) (product_values t is)
      (item_values x (w x (contains_head x is)) (h x (contains_head x is)))
      (all_values is (λ y i. w y (contains_tail x y is i)) (λ y i. h y (contains_tail x y is i)))
