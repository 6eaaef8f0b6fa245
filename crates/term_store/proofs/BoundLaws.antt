-- What is left to classes of the domains that are told.
use Rattle.std.proofs.Common.{ℕ, ℤ, ◌≡◌, ◌∙◌, ◌||◌, inl, Bool, true, false, if◌then◌else◌, List, [], ◌∷◌, ◌++◌, fold, Option, Some, None, refl, sym, ap, ap₂, subst}
use Rattle.std.specs.Prelude.{Contains}
use Rattle.std.specs.List.{filter_map, cons_option}
use Rattle.std.specs.FinSet as set
use Rattle.oz_base.specs.IdentLaws.{ident_eq-itself}
use Rattle.oz_base.specs.Names.{ident_eq}
use Rattle.oz_base.specs.declared.interval.Interval.{Interval}
use Rattle.oz_base.specs.declared.names.Ident.{Ident}
use Rattle.oz_domains.specs.Domains.{IntSet, Has, union, among}
use Rattle.fd_domain.proofs.SetLaws.{same_members}
use Rattle.oz_laws.proofs.DomainLaws.{meet-has, has-meet, in_given, given_in, common-has, has-common, common-some, among-is}
use Rattle.oz_laws.proofs.SameLaws.{In, In-from_contains, contains-from_In}
use Rattle.oz_semantics.specs.Store.{common, set_given}
use Rattle.oz_semantics.specs.declared.value.Value.{Value}
use Rattle.oz_semantics.specs.declared.value.Tell.{Tell}
use Rattle.oz_semantics.specs.declared.value.Tell.TheVariants.{Equal, Is, Within}
use Rattle.term_store.specs.Bounds.{meets, left_by, AreDomain, Suits, Bounded}
use Rattle.term_store.specs.Classes.{instead}
use Rattle.term_store.specs.Places.{value_at}
use Rattle.term_store.proofs.ClassLaws.{one, two, decided, not_one, instead_is, instead_other}

-- What domains have in common

both_assoc : (s t u : IntSet) → set.intersection (set.intersection s t) u ≡ set.intersection s (set.intersection t u)
both_assoc s t u =
    same_members (set.intersection (set.intersection s t) u) (set.intersection s (set.intersection t u))
    (λ n h. let a = meet-has (set.intersection s t) u n h in let b = meet-has s t n a.0 in has-meet s (set.intersection t u) n b.0 (has-meet t u n b.1 a.1))
    (λ n h. let a = meet-has s (set.intersection t u) n h in let b = meet-has t u n a.1 in has-meet (set.intersection s t) u n (has-meet s t n a.0 b.0) b.1)

both_comm : (s t : IntSet) → set.intersection s t ≡ set.intersection t s
both_comm s t =
    same_members (set.intersection s t) (set.intersection t s)
    (λ n h. let a = meet-has s t n h in has-meet t s n a.1 a.0)
    (λ n h. let a = meet-has t s n h in has-meet s t n a.1 a.0)

both_self : (s : IntSet) → set.intersection s s ≡ s
both_self s = same_members (set.intersection s s) s (λ n h. (meet-has s s n h).0) (λ n h. has-meet s s n h h)

meets_assoc : (a b c : Option IntSet) → meets (meets a b) c ≡ meets a (meets b c)
meets_assoc None b c = refl
meets_assoc (Some s) None c = refl
meets_assoc (Some s) (Some t) None = refl
meets_assoc (Some s) (Some t) (Some u) = ap (λ (z : IntSet). Some z) (both_assoc s t u)

pub meets_none : (a : Option IntSet) → meets a None ≡ a
meets_none None = refl
meets_none (Some s) = refl

pub meets_comm : (a b : Option IntSet) → meets a b ≡ meets b a
meets_comm None None = refl
meets_comm None (Some t) = refl
meets_comm (Some s) None = refl
meets_comm (Some s) (Some t) = ap (λ (z : IntSet). Some z) (both_comm s t)

swap : (a b c d : Option IntSet) → meets (meets a b) (meets c d) ≡ meets (meets a c) (meets b d)
swap a b c d =
    meets_assoc a b (meets c d)
    ∙ ap (meets a) (sym (meets_assoc b c d) ∙ ap (λ z. meets z d) (meets_comm b c) ∙ meets_assoc c b d)
    ∙ sym (meets_assoc a c (meets b d))

-- What is left by lists of tells

fold_both : (s t : IntSet) (us : List IntSet) → fold set.intersection (set.intersection s t) us ≡ set.intersection s (fold set.intersection t us)
fold_both s t [] = refl
fold_both s t (u ∷ us) = ap (λ z. fold set.intersection z us) (both_assoc s t u) ∙ fold_both s (set.intersection t u) us

common_cons : (s : IntSet) (ss : List IntSet) → common (s ∷ ss) ≡ meets (Some s) (common ss)
common_cons s [] = refl
common_cons s (u ∷ us) = ap (λ (z : IntSet). Some z) (fold_both s u us)

left_cons : (test : Ident → Bool) (t : Tell) (ts : List Tell) → left_by test (t ∷ ts) ≡ meets (set_given test t) (left_by test ts)
left_cons test t ts = by (set_given test t)
  where
    by : (o : Option IntSet) → common (cons_option o (filter_map (set_given test) ts)) ≡ meets o (left_by test ts)
    by None = refl
    by (Some s) = common_cons s (filter_map (set_given test) ts)

-- one tell more
pub left_push : (test : Ident → Bool) (ts : List Tell) (t : Tell) → left_by test (ts ++ t ∷ []) ≡ meets (left_by test ts) (set_given test t)
left_push test [] t = left_cons test t [] ∙ meets_none (set_given test t)
left_push test (u ∷ ts) t =
    left_cons test u (ts ++ t ∷ [])
    ∙ ap (meets (set_given test u)) (left_push test ts t)
    ∙ sym (meets_assoc (set_given test u) (left_by test ts) (set_given test t))
    ∙ ap (λ d. meets d (set_given test t)) (sym (left_cons test u ts))

-- more tells
pub left_append : (test : Ident → Bool) (ts us : List Tell) → left_by test (ts ++ us) ≡ meets (left_by test ts) (left_by test us)
left_append test [] us = refl
left_append test (t ∷ ts) us =
    left_cons test t (ts ++ us)
    ∙ ap (meets (set_given test t)) (left_append test ts us)
    ∙ sym (meets_assoc (set_given test t) (left_by test ts) (left_by test us))
    ∙ ap (λ d. meets d (left_by test us)) (sym (left_cons test t ts))

abbrev pub either : (Ident → Bool) → (Ident → Bool) → Ident → Bool
either p q y = p y || q y

given_either : (p q : Ident → Bool) (t : Tell) → set_given (either p q) t ≡ meets (set_given p t) (set_given q t)
given_either p q (Equal x y) = refl
given_either p q (Is x v) = refl
given_either p q (Within x is) = by (p x) (q x)
  where
    by : (a b : Bool) → (if a || b then Some (union is) else None) ≡ meets (if a then Some (union is) else None) (if b then Some (union is) else None)
    by true true = ap (λ (z : IntSet). Some z) (sym (both_self (union is)))
    by true false = refl
    by false true = refl
    by false false = refl

-- variables of one class or another
pub left_either : (p q : Ident → Bool) (ts : List Tell) → left_by (either p q) ts ≡ meets (left_by p ts) (left_by q ts)
left_either p q [] = refl
left_either p q (t ∷ ts) =
    left_cons (either p q) t ts
    ∙ ap₂ meets (given_either p q t) (left_either p q ts)
    ∙ swap (set_given p t) (set_given q t) (left_by p ts) (left_by q ts)
    ∙ ap₂ meets (sym (left_cons p t ts)) (sym (left_cons q t ts))

-- by tests that agree
pub left_same : (p q : Ident → Bool) (ts : List Tell) → ((y : Ident) → p y ≡ q y) → left_by p ts ≡ left_by q ts
left_same p q ts h = let e : p ≡ q = λ i y. h y i in ap (λ test. left_by test ts) e

-- Integers that are left

module _ (test : Ident → Bool) (ts : List Tell) where
  given_here : (y : Ident) (is : List Interval) → Contains ts (Within y is) → test y ≡ true → In (union is) (filter_map (set_given test) ts)
  given_here y is c t = in_given (set_given test) ts (Within y is) (union is) (In-from_contains ts (Within y is) c) (ap (λ (b : Bool). if b then Some (union is) else None) t)

  pub told_left : (y : Ident) (is : List Interval) → Contains ts (Within y is) → test y ≡ true → (s : IntSet) × (left_by test ts ≡ Some s)
  told_left y is c t = common-some (filter_map (set_given test) ts) (union is) (given_here y is c t)

  pub left_among : (y : Ident) (is : List Interval) (s : IntSet) (n : ℤ) → left_by test ts ≡ Some s → Contains ts (Within y is) → test y ≡ true → Has s n → among is n ≡ true
  left_among y is s n e c t h = among-is is n ∙ common-has (filter_map (set_given test) ts) s n e h (union is) (given_here y is c t)

  -- a domain that was told of a variable which passes the test
  pub record Told (s : IntSet) : Type 0 where
    pub variable : Ident
    pub intervals : List Interval
    pub told : Contains ts (Within variable intervals)
    pub passes : test variable ≡ true
    pub is_set : union intervals ≡ s

  told_of : (s : IntSet) → In s (filter_map (set_given test) ts) → Told s
  told_of s i = let g = given_in (set_given test) ts s i in by g.0 (contains-from_In ts g.0 g.1) g.2
    where
      by : (t : Tell) → Contains ts t → set_given test t ≡ Some s → Told s
      by (Equal a b) c q = cc
      by (Is a v) c q = cc
      by (Within y is) c q = by_test (test y) refl q
        where
          by_test : (b : Bool) → test y ≡ b → (if b then Some (union is) else None) ≡ Some s → Told s
          by_test true k p = let same : union is ≡ s = cc in record { variable = y; intervals = is; told = c; passes = k; is_set = same }
          by_test false k p = cc

  pub among_left : (s : IntSet) (n : ℤ) → left_by test ts ≡ Some s → ((y : Ident) (is : List Interval) → Contains ts (Within y is) → test y ≡ true → among is n ≡ true) → Has s n
  among_left s n e h =
      has-common (filter_map (set_given test) ts) s n e
      (λ u i. let g = told_of u i in subst (λ z. Has z n) g.is_set (sym (among-is g.intervals n) ∙ h g.variable g.intervals g.told g.passes))

  pub some_left : (s : IntSet) → left_by test ts ≡ Some s → (u : IntSet) × Told u
  some_left s e = by (filter_map (set_given test) ts) refl e
    where
      by : (ss : List IntSet) → filter_map (set_given test) ts ≡ ss → common ss ≡ Some s → (u : IntSet) × Told u
      by [] k q = cc
      by (u ∷ us) k q = (u, told_of u (subst (In u) (sym k) (inl refl)))

-- The same classes, places and domains by other functions

pub bounded_by : (ts : List Tell) (g g' : Ident → Ident) (f f' : Ident → Option ℕ) (d d' : Ident → Option IntSet)
    → ((x : Ident) → g' x ≡ g x) → ((x : Ident) → f' x ≡ f x) → ((x : Ident) → d' x ≡ d x) → Bounded ts g f d → Bounded ts g' f' d'
bounded_by ts g g' f f' d d' eg ef ed b =
    let roots : g ≡ g' = λ i x. sym (eg x) i in
    let places : f ≡ f' = λ i x. sym (ef x) i in
    let domains : d ≡ d' = λ i x. sym (ed x) i in
    subst (λ h. Bounded ts h f' d') roots (subst (λ k. Bounded ts g k d') places (subst (λ k. Bounded ts g f k) domains b))

-- Nothing is told

pub bounded_none : (g : Ident → Ident) (f : Ident → Option ℕ) (d : Ident → Option IntSet) → ((x : Ident) → d x ≡ None) → Bounded [] g f d
bounded_none g f d none = record {
  left = λ r e. none r;
  domains = λ r e s k. absurd (is_none s (sym k ∙ none r));
  suits = λ r e p v s ep ev k. absurd (is_none s (sym k ∙ none r));
}
  where
    is_none : (s : IntSet) → Some s ≡ None → ⊥
    is_none s q = cc

-- One tell more

module _ (ts : List Tell) (g : Ident → Ident) (f : Ident → Option ℕ) (d : Ident → Option IntSet) (b : Bounded ts g f d) (t : Tell)
    (before : (r : Ident) (p : ℕ) (v : Value) → g r ≡ r → f r ≡ Some p → value_at (ts ++ t ∷ []) p ≡ Some v → value_at ts p ≡ Some v) where
  abbrev test : Ident → Ident → Bool
  test r y = ident_eq (g y) r

  -- which gives the class no domain
  left_more : (r : Ident) → g r ≡ r → set_given (test r) t ≡ None → d r ≡ left_by (test r) (ts ++ t ∷ [])
  left_more r e none = b.left r e ∙ sym (left_push (test r) ts t ∙ ap (meets (left_by (test r) ts)) none ∙ meets_none (left_by (test r) ts))

  suits_more : (r : Ident) → g r ≡ r → Suits (ts ++ t ∷ []) (f r) (d r)
  suits_more r e p v s ep ev es = b.suits r e p v s ep (before r p v e ep ev) es

  pub bounded_more : ((p : Ident → Bool) → set_given p t ≡ None) → Bounded (ts ++ t ∷ []) g f d
  bounded_more none = record { left = λ r e. left_more r e (none (test r)); domains = b.domains; suits = suits_more }

  -- which is the first value of a class
  pub bounded_first : ((p : Ident → Bool) → set_given p t ≡ None) → (f' : Ident → Option ℕ) (q : Ident) → Suits (ts ++ t ∷ []) (f' q) (d q) → ((z : Ident) → (z ≡ q → ⊥) → f' z ≡ f z) → Bounded (ts ++ t ∷ []) g f' d
  bounded_first none f' q suit others = record {
    left = λ r e. left_more r e (none (test r));
    domains = b.domains;
    suits = λ r e. elim (decided r q) [
      | one k ↦ subst (λ z. Suits (ts ++ t ∷ []) (f' z) (d z)) (sym k) suit
      | two ne ↦ subst (λ o. Suits (ts ++ t ∷ []) o (d r)) (sym (others r ne)) (suits_more r e)
    ];
  }

-- which is a domain of the class of x
module _ (ts : List Tell) (g : Ident → Ident) (f : Ident → Option ℕ) (d d' : Ident → Option IntSet) (b : Bounded ts g f d) (x : Ident) (is : List Interval)
    (before : (r : Ident) (p : ℕ) (v : Value) → g r ≡ r → f r ≡ Some p → value_at (ts ++ Within x is ∷ []) p ≡ Some v → value_at ts p ≡ Some v)
    (root : g (g x) ≡ g x) (here : d' (g x) ≡ meets (d (g x)) (Some (union is))) (others : (z : Ident) → (z ≡ g x → ⊥) → d' z ≡ d z)
    (domain : AreDomain (d' (g x))) (suit : Suits ts (f (g x)) (d' (g x))) where
  abbrev after : List Tell
  after = ts ++ Within x is ∷ []

  set_here : set_given (λ y. ident_eq (g y) (g x)) (Within x is) ≡ Some (union is)
  set_here = ap (λ (c : Bool). if c then Some (union is) else None) (ident_eq-itself (g x))

  left_here : d' (g x) ≡ left_by (λ y. ident_eq (g y) (g x)) after
  left_here =
      here
      ∙ ap₂ meets (b.left (g x) root) (sym set_here)
      ∙ sym (left_push (λ y. ident_eq (g y) (g x)) ts (Within x is))

  set_there : (r : Ident) → (r ≡ g x → ⊥) → set_given (λ y. ident_eq (g y) r) (Within x is) ≡ None
  set_there r ne = ap (λ (c : Bool). if c then Some (union is) else None) (not_one (g x) r (λ k. ne (sym k)))

  pub bounded_within : Bounded after g f d'
  bounded_within = record {
    left = λ r e. elim (decided r (g x)) [
      | one k ↦ subst (λ z. d' z ≡ left_by (λ y. ident_eq (g y) z) after) (sym k) left_here
      | two ne ↦ others r ne ∙ left_more ts g f d b (Within x is) before r e (set_there r ne)
    ];
    domains = λ r e. elim (decided r (g x)) [
      | one k ↦ subst (λ z. AreDomain (d' z)) (sym k) domain
      | two ne ↦ subst AreDomain (sym (others r ne)) (b.domains r e)
    ];
    suits = λ r e p v s ep ev es. elim (decided r (g x)) [
      | one k ↦ suit p v s (ap f (sym k) ∙ ep) (before r p v e ep ev) (ap d' (sym k) ∙ es)
      | two ne ↦ b.suits r e p v s ep (before r p v e ep ev) (sym (others r ne) ∙ es)
    ];
  }

-- Two classes are joined

module _ (ts : List Tell) (g : Ident → Ident) (f f' : Ident → Option ℕ) (d d' : Ident → Option IntSet) (u o : Ident) (under : g u ≡ u) (over : g o ≡ o)
    (b : Bounded ts g f d) (here : d' o ≡ meets (d u) (d o)) (domain : AreDomain (d' o)) (suit : Suits ts (f' o) (d' o))
    (other_firsts : (z : Ident) → (z ≡ u → ⊥) → (z ≡ o → ⊥) → f' z ≡ f z) (other_domains : (z : Ident) → (z ≡ u → ⊥) → (z ≡ o → ⊥) → d' z ≡ d z) where
  abbrev joint : Ident → Ident
  joint z = instead u o (g z)

  test_here : (y : Ident) → ident_eq (joint y) o ≡ either (λ z. ident_eq (g z) u) (λ z. ident_eq (g z) o) y
  test_here y = elim (decided (g y) u) [
    | one e ↦ ap (λ z. ident_eq z o) (ap (instead u o) e ∙ instead_is u o)
        ∙ ident_eq-itself o
        ∙ sym (ap (λ (c : Bool). c || ident_eq (g y) o) (ap (λ z. ident_eq z u) e ∙ ident_eq-itself u))
    | two ne ↦ ap (λ z. ident_eq z o) (instead_other u o (g y) ne) ∙ sym (ap (λ (c : Bool). c || ident_eq (g y) o) (not_one (g y) u ne))
  ]

  test_there : (r : Ident) → (r ≡ u → ⊥) → (r ≡ o → ⊥) → (y : Ident) → ident_eq (joint y) r ≡ ident_eq (g y) r
  test_there r nu nv y = elim (decided (g y) u) [
    | one e ↦ ap (λ z. ident_eq z r) (ap (instead u o) e ∙ instead_is u o)
        ∙ not_one o r (λ k. nv (sym k))
        ∙ sym (ap (λ z. ident_eq z r) e ∙ not_one u r (λ k. nu (sym k)))
    | two ne ↦ ap (λ z. ident_eq z r) (instead_other u o (g y) ne)
  ]

  joint_left : d' o ≡ left_by (λ y. ident_eq (joint y) o) ts
  joint_left =
      here
      ∙ ap₂ meets (b.left u under) (b.left o over)
      ∙ sym (left_either (λ z. ident_eq (g z) u) (λ z. ident_eq (g z) o) ts)
      ∙ left_same (either (λ z. ident_eq (g z) u) (λ z. ident_eq (g z) o)) (λ y. ident_eq (joint y) o) ts (λ y. sym (test_here y))

  pub record WasRoot (r : Ident) : Type 0 where
    pub root : g r ≡ r
    pub not_under : r ≡ u → ⊥

  root_was : (r : Ident) → joint r ≡ r → (r ≡ o → ⊥) → WasRoot r
  root_was r e nv = elim (decided (g r) u) [
    | one k ↦ absurd (nv (sym e ∙ ap (instead u o) k ∙ instead_is u o))
    | two nu ↦ (let was : g r ≡ r = sym (instead_other u o (g r) nu) ∙ e in record { root = was; not_under = λ k. nu (was ∙ k) })
  ]

  pub bounded_join : Bounded ts joint f' d'
  bounded_join = record {
    left = λ r e. elim (decided r o) [
      | one k ↦ subst (λ z. d' z ≡ left_by (λ y. ident_eq (joint y) z) ts) (sym k) joint_left
      | two nv ↦ (let w = root_was r e nv in
          other_domains r w.not_under nv ∙ b.left r w.root ∙ left_same (λ y. ident_eq (g y) r) (λ y. ident_eq (joint y) r) ts (λ y. sym (test_there r w.not_under nv y)))
    ];
    domains = λ r e. elim (decided r o) [
      | one k ↦ subst (λ z. AreDomain (d' z)) (sym k) domain
      | two nv ↦ (let w = root_was r e nv in subst AreDomain (sym (other_domains r w.not_under nv)) (b.domains r w.root))
    ];
    suits = λ r e p v s ep ev es. elim (decided r o) [
      | one k ↦ suit p v s (ap f' (sym k) ∙ ep) ev (ap d' (sym k) ∙ es)
      | two nv ↦ (let w = root_was r e nv in b.suits r w.root p v s (sym (other_firsts r w.not_under nv) ∙ ep) ev (sym (other_domains r w.not_under nv) ∙ es))
    ];
  }
