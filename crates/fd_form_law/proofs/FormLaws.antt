-- The problem of a script is one that the laws of search speak of.
use Rattle.std.proofs.Common.{◌≡◌, ℕ, zero, suc, ◌+◌, ◌*◌, ◌<◌, ◌≤◌, inl, inr, ℤ, pos, negsuc, ◌+ℤ◌, ◌-ℤ◌, int_le, nat_le, nat_eq, ◌==◌, ◌&&◌, ◌||◌, Bool, true, false, not, if◌then◌else◌, List, [], ◌∷◌, ◌++◌, length, map, position, Contains, All, Option, Some, None, option_map, option_and_then, refl, sym, ◌∙◌, ap, subst, arith}
use Rattle.std.proofs.lemmas.Int.{ints}
use Rattle.std.proofs.lemmas.Bool.Decides.{nat_tests}
use Rattle.std.proofs.lemmas.List.{length-append}
use Rattle.std.proofs.lemmas.List.Elements.{All-nil, All-cons, All-head, All-tail, Contains-append_cases}
use Rattle.std.proofs.lemmas.List.Quantifiers.{position-Some}
use Rattle.std.specs.List.{list_all, range_with_len}
use Rattle.oz_base.specs.declared.relation.TheConstants.{LARGEST_COEFFICIENT, LARGEST_CONSTANT}
use Rattle.oz_language.specs.declared.token.Operator.TheVariants as operator
use Rattle.oz_language.specs.declared.token.Comparison.{Comparison}
use Rattle.oz_language.specs.declared.token.Comparison.TheVariants as comparison
use Rattle.oz_language.specs.declared.kernel.Sign.{Sign}
use Rattle.oz_language.specs.declared.kernel.Sign.TheVariants.{Zero, NotZero, Negative, NotPositive}
use Rattle.oz_language.specs.Grammar.{Phrase, Phrases, nothing, more, var, int, list, paren, binary, hashes, connected, relate, call, is_side, is_side_term, is_small, is_small_int, is_reference, terms_in, stmt, stmts, term}
use Rattle.oz_language.specs.declared.token.Connective.TheVariants as connective
use Rattle.oz_language.specs.SimpleTexts.{form_of, is_bars}
use Rattle.oz_language.specs.declared.token.Literal.{Literal}
use Rattle.oz_language.specs.declared.kernel.Constant.{Constant}
use Rattle.oz_base.specs.declared.distribution.Rule.{Rule}
use Rattle.std.proofs.lemmas.List.FromFn.{length-range_with_len, get_or-range_with_len}
use Rattle.oz_domains.specs.Positions.{value}
use Rattle.oz_domains.specs.Relations.{IsSize}
use Rattle.oz_domains.specs.Domains.{is_domain_value}
use Rattle.fd_problems.specs.declared.problem.Term.{Term}
use Rattle.fd_problems.specs.declared.problem.Term.TheVariants.{Multiple, Product}
use Rattle.fd_problems.specs.declared.problem.Item.{Item}
use Rattle.fd_problems.specs.declared.problem.Item.TheVariants.{Within, Compares, Different}
use Rattle.fd_problems.specs.declared.problem.Distribution.{Distribution}
use Rattle.oz_language.specs.Refusals.{contains}
use Rattle.fd_form.specs.FdScripts as form
use Rattle.fd_form.specs.Parts as parts
use Rattle.fd_form.specs.Sums as sums
use Rattle.fd_form.specs.declared.script.FdScript.{FdScript}
use Rattle.fd_form.specs.declared.sums.Sum.{Sum}
use Rattle.fd_form.specs.Sums.{sum, added, multiple, term_of, side_of, difference, compared, relation_of}
use Rattle.oz_language.specs.Translation.{signed}
use Rattle.fd_form.specs.Parts.{both, each, only_if, place_of, places, vector_of, name_of, distinct_word, distribute_word, script_word, fd_word}
use Rattle.fd_form.specs.FdScripts.{fd_form}
use Rattle.fd_domain.proofs.SetLaws.{and_left, and_right}
use Rattle.fd_domain.proofs.IntervalLaws.{le_true}
use Rattle.fd_trees.specs.Scripts.{AreTerms, IsItem, IsProblem, coefficient, coefficients}
use Rattle.fd_stores.proofs.Lists.{contains_none, contains_head, contains_tail, contains_cases}

-- ---- what is read

pub map_some : {A B : Type 0} (f : A → B) (o : Option A) (y : B) → option_map f o ≡ Some y → (x : A) × (o ≡ Some x) × (f x ≡ y)
map_some f None y e = absurd (cc)
map_some f (Some x) y e = (x, refl, (let g : Some (f x) ≡ Some y = e in cc))

pub then_some : {A B : Type 0} (f : A → Option B) (o : Option A) (y : B) → option_and_then f o ≡ Some y → (x : A) × (o ≡ Some x) × (f x ≡ Some y)
then_some f None y e = absurd (cc)
then_some f (Some x) y e = (x, refl, e)

pub both_some : {A B : Type 0} (a : Option A) (b : Option B) (p : A × B) → both a b ≡ Some p → (a ≡ Some p.0) × (b ≡ Some p.1)
both_some None b p e = absurd (cc)
both_some (Some x) None p e = absurd (cc)
both_some (Some x) (Some y) p e = (let g : Some (x, y) ≡ Some p = e in let h : (x, y) ≡ p = cc in (ap (λ z. Some z.0) h, ap (λ z. Some z.1) h))

pub only_some : {A : Type 0} (b : Bool) (a x : A) → only_if b a ≡ Some x → (b ≡ true) × (a ≡ x)
only_some true a x e = (refl, cc)
only_some false a x e = absurd (cc)

pub if_some : {A : Type 0} (b : Bool) (o : Option A) (x : A) → (if b then o else None) ≡ Some x → (b ≡ true) × (o ≡ Some x)
if_some true o x e = (refl, e)
if_some false o x e = absurd (cc)

-- ---- sizes

size_sum : (m n : ℕ) (x y : ℤ) → IsSize m x → IsSize n y → IsSize (m + n) (x +ℤ y)
size_sum m n x y h k = (let a = h.low in let b = h.high in let c = k.low in let d = k.high in record { low = omega (arith, ints); high = omega (arith, ints) })

size_signed : (s : Bool) (n : ℕ) (x : ℤ) → IsSize n x → IsSize n (signed s x)
size_signed true n x h = (let a = h.low in let b = h.high in record { low = omega (arith, ints); high = omega (arith, ints) })
size_signed false n x h = h

size_more : (m n : ℕ) (x : ℤ) → m ≤ n → IsSize m x → IsSize n x
size_more m n x l h = (let a = h.low in let b = h.high in record { low = omega (arith, ints, l); high = omega (arith, ints, l) })

le_nat : (m n : ℕ) → nat_le m n ≡ true → m ≤ n
le_nat m n h = grind (arith, nat_tests, h)

small_size : (i : ℤ) → is_small i ≡ true → IsSize LARGEST_COEFFICIENT i
small_size (pos n) h = (let l = le_nat n 2147483648 h in record { low = omega (arith, ints); high = omega (arith, ints) })
small_size (negsuc n) h = (let l = le_nat (suc n) 2147483648 h in record { low = omega (arith, ints); high = omega (arith, ints) })

-- ---- places

place_below : (vs : List ℕ) (p : Phrase) (x : ℕ) → place_of vs p ≡ Some x → x < length vs
place_below vs p x e =
    let r = then_some (λ name. position (nat_eq name) vs) (name_of p) x e in
    (position-Some (nat_eq r.0) vs x 0 r.2).0

run_below : (b a n : ℕ) → a + n ≤ b → All (λ x. x < b) (range_with_len a n)
run_below b a zero l = All-nil (λ x. x < b)
run_below b a (suc n) l = All-cons (λ x. x < b) a (range_with_len (a + 1) n) (omega arith) (run_below b (a + 1) n (omega arith))

places_below : (vs : List ℕ) → All (λ x. x < length vs) (places vs)
places_below vs = run_below (length vs) 0 (length vs) (omega arith)

each_below : (vs : List ℕ) (ps : Phrases) (xs : List ℕ) → each (place_of vs) ps ≡ Some xs → All (λ x. x < length vs) xs
each_below vs nothing xs e = (let g : Some [] ≡ Some xs = e in let h : [] ≡ xs = cc in subst (All (λ x. x < length vs)) h (All-nil (λ x. x < length vs)))
each_below vs (more p ps) xs e =
    let r = map_some (λ (a : ℕ × List ℕ). a.0 ∷ a.1) (both (place_of vs p) (each (place_of vs) ps)) xs e in
    let b = both_some (place_of vs p) (each (place_of vs) ps) r.0 r.1 in
    subst (All (λ x. x < length vs)) r.2 (All-cons (λ x. x < length vs) r.0.0 r.0.1 (place_below vs p r.0.0 b.0) (each_below vs ps r.0.1 b.1))

vector_below : (root : ℕ) (vs : List ℕ) (p : Phrase) (xs : List ℕ) → vector_of root vs p ≡ Some xs → All (λ x. x < length vs) xs
vector_below root vs (var name at) xs e = subst (All (λ x. x < length vs)) (only_some (nat_eq root name) (places vs) xs e).1 (places_below vs)
vector_below root vs (list at es) xs e = each_below vs es xs e
vector_below root vs (paren at (more p nothing)) xs e = vector_below root vs p xs e
vector_below root vs p xs e = absurd (cc)

-- ---- terms and sums

abbrev AreSized : List Term → Type 0
AreSized [] = Unit {0}
AreSized (m ∷ ms) = IsSize LARGEST_COEFFICIENT (coefficient m) × AreSized ms

-- a sum over n variables that at most so many terms make
record IsSumOf (n t : ℕ) (k : Sum) : Type 0 where
  terms : AreTerms n k.terms
  sized : AreSized k.terms
  few : length k.terms ≤ t
  constant : IsSize (2147483648 * t) k.constant

terms_joined : (n : ℕ) (ms ns : List Term) → AreTerms n ms → AreTerms n ns → AreTerms n (ms ++ ns)
terms_joined n [] ns h k = k
terms_joined n (m ∷ ms) ns h k = (h.0, terms_joined n ms ns h.1 k)

sized_joined : (ms ns : List Term) → AreSized ms → AreSized ns → AreSized (ms ++ ns)
sized_joined [] ns h k = k
sized_joined (m ∷ ms) ns h k = (h.0, sized_joined ms ns h.1 k)

added_sum : (n t u : ℕ) (k j : Sum) → IsSumOf n t k → IsSumOf n u j → IsSumOf n (t + u) (added (k, j))
added_sum n t u k j h g = record {
  terms = terms_joined n k.terms j.terms h.terms g.terms;
  sized = sized_joined k.terms j.terms h.sized g.sized;
  few = (let a = h.few in let b = g.few in let c = length-append k.terms j.terms in omega arith);
  constant = size_more (2147483648 * t + 2147483648 * u) (2147483648 * (t + u)) (k.constant +ℤ j.constant) (omega arith) (size_sum (2147483648 * t) (2147483648 * u) k.constant j.constant h.constant g.constant);
}

one_size : IsSize LARGEST_COEFFICIENT (pos 1)
one_size = small_size (pos 1) refl

zero_size : IsSize LARGEST_COEFFICIENT (pos 0)
zero_size = small_size (pos 0) refl

first_small : (p q r : Bool) → ((p && q) || (false && r)) ≡ true → p ≡ true
first_small true q r h = refl
first_small false q r h = absurd (cc)

second_small : (p q r : Bool) → ((p && false) || (q && (r || false))) ≡ true → r ≡ true
second_small p q true h = refl
second_small true true false h = absurd (cc)
second_small true false false h = absurd (cc)
second_small false true false h = absurd (cc)
second_small false false false h = absurd (cc)

or_false : (p : Bool) → (p || false) ≡ true → p ≡ true
or_false true h = refl
or_false false h = absurd (cc)

module _ (vs : List ℕ) where
  abbrev n : ℕ
  n = length vs

  number_sum : (i : ℤ) → is_small i ≡ true → (k : Sum) → sum i [] ≡ k → IsSumOf n 1 k
  number_sum i h k e = subst (IsSumOf n 1) e (record { terms = tt; sized = tt; few = omega arith; constant = small_size i h })

  variable_sum : (s : Bool) (i : ℤ) (p : Phrase) (k : Sum) → IsSize LARGEST_COEFFICIENT i → multiple s i (place_of vs p) ≡ Some k → IsSumOf n 1 k
  variable_sum s i p k h e =
      let r = map_some (λ y. sum (pos 0) (Multiple (signed s i) y ∷ [])) (place_of vs p) k e in
      subst (IsSumOf n 1) r.2 (record { terms = (place_below vs p r.0 r.1, tt); sized = (size_signed s LARGEST_COEFFICIENT i h, tt); few = omega arith; constant = zero_size })

  product_sum : (s : Bool) (a b : Phrase) (k : Sum) → option_map (λ (p : ℕ × ℕ). sum (pos 0) (Product (signed s (pos 1)) p.0 p.1 ∷ [])) (both (place_of vs a) (place_of vs b)) ≡ Some k → IsSumOf n 1 k
  product_sum s a b k e =
      let r = map_some (λ (p : ℕ × ℕ). sum (pos 0) (Product (signed s (pos 1)) p.0 p.1 ∷ [])) (both (place_of vs a) (place_of vs b)) k e in
      let o = both_some (place_of vs a) (place_of vs b) r.0 r.1 in
      subst (IsSumOf n 1) r.2 (record { terms = ((place_below vs a r.0.0 o.0, place_below vs b r.0.1 o.1), tt); sized = (size_signed s LARGEST_COEFFICIENT (pos 1) one_size, tt); few = omega arith; constant = zero_size })

  signed_sum : (s : Bool) (i : ℤ) (k : Sum) → is_small i ≡ true → Some (sum (signed s i) []) ≡ Some k → IsSumOf n 1 k
  signed_sum s i k h e = (let f : sum (signed s i) [] ≡ k = cc in subst (IsSumOf n 1) f (record { terms = tt; sized = tt; few = omega arith; constant = size_signed s LARGEST_COEFFICIENT i (small_size i h) }))

  term_sum : (s : Bool) (p : Phrase) (k : Sum) → is_side_term p ≡ true → term_of vs s p ≡ Some k → IsSumOf n 1 k
  term_sum s (int i at) k h e = signed_sum s i k (or_false (is_small i) h) e
  term_sum s (binary operator.Times (int i at) b) k h e = variable_sum s i b k (small_size i (first_small (is_small i) (is_reference b) (is_small_int b || is_reference b) h)) e
  term_sum s (binary operator.Times a (int i at)) k h e = variable_sum s i a k (small_size i (second_small (is_small_int a) (is_reference a) (is_small i) h)) e
  term_sum s (binary operator.Times a b) k h e = product_sum s a b k e
  term_sum s p k h e = variable_sum s (pos 1) p k one_size e

  joined_sum : (s t : Bool) (a b : Phrase) (k : Sum) (m : ℕ) → ((j : Sum) → side_of vs s a ≡ Some j → IsSumOf n m j) → is_side_term b ≡ true → option_map added (both (side_of vs s a) (term_of vs t b)) ≡ Some k → IsSumOf n (suc m) k
  joined_sum s t a b k m h g e =
      let r = map_some added (both (side_of vs s a) (term_of vs t b)) k e in
      let o = both_some (side_of vs s a) (term_of vs t b) r.0 r.1 in
      let more : m + 1 ≡ suc m = omega arith in
      subst (IsSumOf n (suc m)) r.2 (subst (λ z. IsSumOf n z (added r.0)) more (added_sum n m 1 r.0.0 r.0.1 (h r.0.0 o.0) (term_sum t b r.0.1 g o.1)))

  side_sum : (s : Bool) (p : Phrase) (k : Sum) → is_side p ≡ true → side_of vs s p ≡ Some k → IsSumOf n (terms_in p) k
  side_sum s (binary operator.Plus a b) k h e = joined_sum s s a b k (terms_in a) (λ j f. side_sum s a j (and_left _ _ h) f) (and_right (is_side a) _ h) e
  side_sum s (binary operator.Minus a b) k h e = joined_sum s (not s) a b k (terms_in a) (λ j f. side_sum s a j (and_left _ _ h) f) (and_right (is_side a) _ h) e
  side_sum s p k h e = term_sum s p k h e

  difference_sum : (a b : Phrase) (k : Sum) → is_side a ≡ true → is_side b ≡ true → difference vs a b ≡ Some k → IsSumOf n (terms_in a + terms_in b) k
  difference_sum a b k h g e =
      let r = map_some added (both (side_of vs false a) (side_of vs true b)) k e in
      let o = both_some (side_of vs false a) (side_of vs true b) r.0 r.1 in
      subst (IsSumOf n (terms_in a + terms_in b)) r.2 (added_sum n (terms_in a) (terms_in b) r.0.0 r.0.1 (side_sum false a r.0.0 h o.0) (side_sum true b r.0.1 g o.1))

  -- ---- items

  abbrev AllItems : List Item → Type 0
  AllItems is = (i : Item) → Contains is i → IsItem n i

  no_items : AllItems []
  no_items i c = absurd (contains_none i c)

  and_items : (x : Item) (is : List Item) → IsItem n x → AllItems is → AllItems (x ∷ is)
  and_items x is h k i c = elim (contains_cases x i is c) [ inl e ↦ subst (IsItem n) e h | inr j ↦ k i j ]

  join_items : (is js : List Item) → AllItems is → AllItems js → AllItems (is ++ js)
  join_items is js h k i c = elim (Contains-append_cases is js i c) [ inl j ↦ h i j | inr j ↦ k i j ]

  long_coefficients : (ms : List Term) → length (coefficients ms) ≡ length ms
  long_coefficients [] = refl
  long_coefficients (m ∷ ms) = (let e = long_coefficients ms in omega arith)

  sized_at : (ms : List Term) → AreSized ms → (i : ℕ) → i < length ms → IsSize LARGEST_COEFFICIENT (value (coefficients ms) i)
  sized_at [] h i l = absurd (omega (arith, l))
  sized_at (m ∷ ms) h zero l = h.0
  sized_at (m ∷ ms) h (suc i) l = sized_at ms h.1 i (omega (arith, l))

  sum_item : (r : Sign) (t : ℕ) (k : Sum) → t ≤ 64 → IsSumOf n t k → IsItem n (Compares r k.constant k.terms)
  sum_item r t k l h = (
    h.terms,
    record {
      long = long_coefficients k.terms;
      few = (let f = h.few in omega (arith, l));
      constant = size_more (2147483648 * t) LARGEST_CONSTANT k.constant (omega (arith, l)) h.constant;
      each = sized_at k.terms h.sized;
    },
  )

  compared_items : (r : Sign) (o : Option Sum) (t : ℕ) (is : List Item) → t ≤ 64 → ((k : Sum) → o ≡ Some k → IsSumOf n t k) → sums.compared r o ≡ Some is → AllItems is
  compared_items r o t is l h e =
      let m = map_some (λ (k : Sum). Compares r k.constant k.terms ∷ []) o is e in
      subst AllItems m.2 (and_items (Compares r m.0.constant m.0.terms) [] (sum_item r t m.0 l (h m.0 m.1)) no_items)

  module _ (a b : Phrase) (h : is_side a ≡ true) (g : is_side b ≡ true) (l : terms_in a + terms_in b ≤ 64) where
    forwards : (r : Sign) (is : List Item) → sums.compared r (difference vs a b) ≡ Some is → AllItems is
    forwards r is e = compared_items r (difference vs a b) (terms_in a + terms_in b) is l (λ k f. difference_sum a b k h g f) e

    backwards : (r : Sign) (is : List Item) → sums.compared r (difference vs b a) ≡ Some is → AllItems is
    backwards r is e = compared_items r (difference vs b a) (terms_in b + terms_in a) is (omega (arith, l)) (λ k f. difference_sum b a k g h f) e

    relation_items : (r : Comparison) (is : List Item) → relation_of vs r a b ≡ Some is → AllItems is
    relation_items comparison.Equal is e = forwards Zero is e
    relation_items comparison.Unequal is e = forwards NotZero is e
    relation_items comparison.Below is e = forwards Negative is e
    relation_items comparison.NotAbove is e = forwards NotPositive is e
    relation_items comparison.Above is e = backwards Negative is e
    relation_items comparison.NotBelow is e = backwards NotPositive is e

  -- ---- bounds

  abbrev AreValues : ℤ × ℤ → Type 0
  AreValues b = (is_domain_value b.0 ≡ true) × (is_domain_value b.1 ≡ true)

  bound_value : (p : Phrase) (v : ℤ) → parts.bound_of p ≡ Some v → is_domain_value v ≡ true
  bound_value p v e =
      let r = then_some (λ i. only_if (is_domain_value i) i) (parts.integer_of p) v e in
      let o = only_some (is_domain_value r.0) r.0 v r.2 in
      subst (λ z. is_domain_value z ≡ true) o.1 o.0

  bounds_values : (p : Phrase) (b : ℤ × ℤ) → parts.bounds_of p ≡ Some b → AreValues b
  bounds_values (int i at) b e = (let o = only_some (is_domain_value i) (i, i) b e in subst AreValues o.1 (o.0, o.0))
  bounds_values (hashes (more p (more q nothing))) b e = (let o = both_some (parts.bound_of p) (parts.bound_of q) b e in (bound_value p b.0 o.0, bound_value q b.1 o.1))
  bounds_values (paren at (more p nothing)) b e = bounds_values p b e
  bounds_values p b e = absurd (cc)

  ordered_item : (b : ℤ × ℤ) → AreValues b → IsItem n (Compares NotPositive (b.0 -ℤ b.1) [])
  ordered_item b h =
      let lows = le_true (pos 0) b.0 (and_left _ _ h.0) in
      let lowe = le_true b.0 (pos 134217726) (and_right (int_le (pos 0) b.0) _ h.0) in
      let highs = le_true (pos 0) b.1 (and_left _ _ h.1) in
      let highe = le_true b.1 (pos 134217726) (and_right (int_le (pos 0) b.1) _ h.1) in
      (tt, record { long = refl; few = omega arith; constant = record { low = omega (arith, ints); high = omega (arith, ints) }; each = λ i l. absurd (omega (arith, l)) })

  within_items : (xs : List ℕ) (low high : ℤ) → All (λ x. x < n) xs → AllItems (map (λ x. Within x low high) xs)
  within_items [] low high h = no_items
  within_items (x ∷ xs) low high h = and_items (Within x low high) (map (λ y. Within y low high) xs) (All-head (λ y. y < n) x xs h) (within_items xs low high (All-tail (λ y. y < n) x xs h))

  -- ---- statements

  statement_items : (root : ℕ) (p : Phrase) (is : List Item) → stmt p ≡ true → form.items_of root vs p ≡ Some is → AllItems is
  statement_items root (connected connective.Bounds x d) is h e =
      let r = map_some (λ (p : ℕ × (ℤ × ℤ)). Within p.0 p.1.0 p.1.1 ∷ []) (both (place_of vs x) (parts.bounds_of d)) is e in
      let o = both_some (place_of vs x) (parts.bounds_of d) r.0 r.1 in
      subst AllItems r.2 (and_items (Within r.0.0 r.0.1.0 r.0.1.1) [] (place_below vs x r.0.0 o.0) no_items)
  statement_items root (connected connective.BoundsEach x d) is h e =
      let i = if_some (parts.is_named root x) (option_map (form.all_within (places vs)) (parts.bounds_of d)) is e in
      let r = map_some (form.all_within (places vs)) (parts.bounds_of d) is i.1 in
      subst AllItems r.2 (and_items (Compares NotPositive (r.0.0 -ℤ r.0.1) []) (map (λ x. Within x r.0.0 r.0.1) (places vs)) (ordered_item r.0 (bounds_values d r.0 r.1)) (within_items (places vs) r.0.0 r.0.1 (places_below vs)))
  statement_items root (relate c a b) is h e =
      let g = and_right (term false 0 a && term false 0 b) _ h in
      let sides = and_left (is_side a && is_side b) _ g in
      relation_items a b (and_left _ _ sides) (and_right (is_side a) _ sides) (le_nat (terms_in a + terms_in b) 64 (and_right (is_side a && is_side b) _ g)) c is e
  statement_items root (call at (more f (more w nothing))) is h e =
      let i = if_some (form.is_of_fd distinct_word f) (option_map (λ xs. Different xs ∷ []) (vector_of root vs w)) is e in
      let r = map_some (λ xs. Different xs ∷ []) (vector_of root vs w) is i.1 in
      subst AllItems r.2 (and_items (Different r.0) [] (vector_below root vs w r.0 r.1) no_items)
  statement_items root p is h e = absurd (cc)

  -- ---- the distribution

  -- each variable is distributed
  record IsWhole (d : Distribution) : Type 0 where
    over : All (λ x. x < n) d.over
    covers : (x : ℕ) → x < n → Contains d.over x

  passes_at : (p : ℕ → Bool) (xs : List ℕ) → list_all p xs ≡ true → (x : ℕ) → Contains xs x → p x ≡ true
  passes_at p [] h x c = absurd (contains_none x c)
  passes_at p (y ∷ xs) h x c = elim (contains_cases y x xs c) [ inl e ↦ subst (λ z. p z ≡ true) e (and_left _ _ h) | inr j ↦ passes_at p xs (and_right (p y) _ h) x j ]

  contained_by : (xs : List ℕ) (x y : ℕ) (b : Bool) → nat_eq x y ≡ b → (contains xs x ≡ true → Contains xs x) → (nat_eq x y || contains xs x) ≡ true → Contains (y ∷ xs) x
  contained_by xs x y true e k h = (let f : y ≡ x = grind (arith, nat_tests, e) in subst (Contains (y ∷ xs)) f (contains_head y xs))
  contained_by xs x y false e k h = contains_tail y x xs (k (ap (λ b. b || contains xs x) (sym e) ∙ h))

  pub contained : (xs : List ℕ) (x : ℕ) → contains xs x ≡ true → Contains xs x
  contained [] x h = absurd (cc)
  contained (y ∷ xs) x h = contained_by xs x y (nat_eq x y) refl (contained xs x) h

  at_place : (x : ℕ) → x < n → Contains (places vs) x
  at_place x l = let same : 0 + x ≡ x = omega arith in (x, (let e = length-range_with_len 0 n in omega (arith, l)), get_or-range_with_len 0 n x x l ∙ same)

  order_whole : (root : ℕ) (u : Phrase) (r : Rule) (xs : List ℕ) → form.order_of root vs u ≡ Some xs → IsWhole (record { rule = r; over = xs })
  order_whole root u r xs e =
      let t = then_some (λ ys. only_if ((length ys == length vs) && list_all (contains ys) (places vs)) ys) (vector_of root vs u) xs e in
      let o = only_some ((length t.0 == length vs) && list_all (contains t.0) (places vs)) t.0 xs t.2 in
      let all = and_right (length t.0 == length vs) _ o.0 in
      record {
        over = subst (All (λ x. x < n)) o.1 (vector_below root vs u t.0 t.1);
        covers = λ x l. subst (λ z. Contains z x) o.1 (contained t.0 x (passes_at (contains t.0) (places vs) all x (at_place x l)));
      }

  distribution_whole : (root : ℕ) (p : Phrase) (d : Distribution) → form.distribution_of root vs p ≡ Some d → IsWhole d
  distribution_whole root (call at (more f (more r (more u nothing)))) d e =
      let rule = option_and_then form.rule_named (parts.atom_of r) in
      let i = if_some (form.is_of_fd distribute_word f) (option_map (λ (p : Rule × List ℕ). record { rule = p.0; over = p.1 }) (both rule (form.order_of root vs u))) d e in
      let m = map_some (λ (p : Rule × List ℕ). record { rule = p.0; over = p.1 }) (both rule (form.order_of root vs u)) d i.1 in
      let o = both_some rule (form.order_of root vs u) m.0 m.1 in
      subst IsWhole m.2 (order_whole root u m.0.0 m.0.1 o.1)
  distribution_whole root p d e = absurd (cc)

  stated_items : (root : ℕ) (ss : Phrases) (p : List Item × Distribution) → stmts ss ≡ true → form.stated root vs ss ≡ Some p → AllItems p.0 × IsWhole p.1
  stated_items root nothing p h e = absurd (cc)
  stated_items root (more s nothing) p h e =
      let m = map_some (λ (d : Distribution). ([], d)) (form.distribution_of root vs s) p e in
      subst (λ z. AllItems z.0 × IsWhole z.1) m.2 (no_items, distribution_whole root s m.0 m.1)
  stated_items root (more s (more t ss)) p h e =
      let m = map_some (λ (q : List Item × (List Item × Distribution)). (q.0 ++ q.1.0, q.1.1)) (both (form.items_of root vs s) (form.stated root vs (more t ss))) p e in
      let o = both_some (form.items_of root vs s) (form.stated root vs (more t ss)) m.0 m.1 in
      let rest = stated_items root (more t ss) m.0.1 (and_right (stmt s) _ h) o.1 in
      subst (λ z. AllItems z.0 × IsWhole z.1) m.2 (join_items m.0.0 m.0.1.0 (statement_items root s m.0.0 (and_left _ _ h) o.0) rest.0, rest.1)

-- ---- scripts

abbrev Fields : Type 0
Fields = List ℕ × (Literal × List (Constant × ℕ))

pub record_problem : (words : List (List ℕ)) (root : ℕ) (ss : Phrases) (p : Fields) (s : FdScript) → stmts ss ≡ true → form.with_record words root ss p ≡ Some s → IsProblem s.problem
record_problem words root ss p s h e =
    let l = p.1.0 in
    let fs = map (λ (f : Constant × ℕ). f.0) p.1.1 in
    let vs = map (λ (f : Constant × ℕ). f.1) p.1.1 in
    let test = form.are_apart (root ∷ script_word ∷ fd_word ∷ []) p.0 && form.are_fields p.0 vs && not (is_bars (form_of words l fs)) in
    let i = if_some test (option_map (form.script_of l fs vs) (form.stated root vs ss)) s e in
    let m = map_some (form.script_of l fs vs) (form.stated root vs ss) s i.1 in
    let w = stated_items vs root ss m.0 h m.1 in
    subst (λ (z : FdScript). IsProblem z.problem) m.2 (record { items = w.0; over = w.1.over; covers = w.1.covers })
