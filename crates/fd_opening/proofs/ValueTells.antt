-- Tells of values, each of a variable of its own.
use Rattle.std.proofs.Common.{◌≡◌, ◌⊎◌, inl, inr, ℕ, zero, suc, ◌+◌, ◌<◌, ◌≤◌, true, List, [], ◌∷◌, ◌++◌, length, flat_map, Contains, Option, Some, slice_get, refl, sym, ◌∙◌, ap, subst, arith}
use Rattle.std.proofs.lemmas.List.Elements.{Contains-append_cases}
use Rattle.oz_base.specs.declared.names.Ident.{Ident}
use Rattle.oz_base.specs.declared.interval.Interval.{Interval}
use Rattle.oz_semantics.specs.Names.{named}
use Rattle.oz_semantics.specs.Values.{is_like, fields_of}
use Rattle.oz_semantics.specs.Store.{Same, told, itself, reversed, joined, field, is_consistent, named_by}
use Rattle.oz_semantics.specs.declared.value.Value.{Value}
use Rattle.oz_semantics.specs.declared.value.Tell.{Tell}
use Rattle.oz_semantics.specs.declared.value.Tell.TheVariants.{Equal, Is, Within}
use Rattle.oz_laws.proofs.StoreLaws.{tests_consistent}
use Rattle.oz_laws.proofs.AlikeLaws.{alike-refl}
use Rattle.fd_stores.proofs.Lists.{contains_none, contains_cases, contains_head, contains_tail}
use Rattle.fd_views.specs.Views.{IsPlain}

-- all are of values, of one for each variable
pub record AreValues (ts : List Tell) : Type 0 where
  pub each : (u : Tell) → Contains ts u → (x : Ident) × (v : Value) × (u ≡ Is x v)
  pub one : (x : Ident) (v w : Value) → Contains ts (Is x v) → Contains ts (Is x w) → v ≡ w

same_variable : (x y : Ident) (v w : Value) → Is x v ≡ Is y w → x ≡ y
same_variable x y v w e = cc

same_value : (x y : Ident) (v w : Value) → Is x v ≡ Is y w → v ≡ w
same_value x y v w e = cc

not_equation : (x y z : Ident) (v : Value) → Equal x y ≡ Is z v → ⊥
not_equation x y z v e = cc

not_domain : (x z : Ident) (is : List Interval) (v : Value) → Within x is ≡ Is z v → ⊥
not_domain x z is v e = cc

-- ---- what such tells come to

module _ (ts : List Tell) (h : AreValues ts) where
  no_equation : (x y : Ident) → Contains ts (Equal x y) → ⊥
  no_equation x y c = (let r = h.each (Equal x y) c in not_equation x y r.0 r.1 r.2)

  no_domain : (x : Ident) (is : List Interval) → Contains ts (Within x is) → ⊥
  no_domain x is c = (let r = h.each (Within x is) c in not_domain x r.0 is r.1 r.2)

  same_field : (x y a b : Ident) (v w : Value) (i : ℕ) → x ≡ y → Contains ts (Is x v) → Contains ts (Is y w) → slice_get (fields_of v) i ≡ Some a → slice_get (fields_of w) i ≡ Some b → a ≡ b
  same_field x y a b v w i e c d p q =
      let same : v ≡ w = h.one x v w c (subst (λ z. Contains ts (Is z w)) (sym e) d) in
      let both : ◌≡◌ {A = Option Ident} (Some a) (Some b) = sym p ∙ ap (λ u. slice_get (fields_of u) i) same ∙ q in
      cc

  -- each variable is equal to itself alone
  pub only_itself : {x y : Ident} → Same ts x y → x ≡ y
  only_itself (told {x = x} {y = y} c) = absurd (no_equation x y c)
  only_itself itself = refl
  only_itself (reversed s) = sym (only_itself s)
  only_itself (joined s t) = only_itself s ∙ only_itself t
  only_itself (field {x = x} {y = y} {a = a} {b = b} {v = v} {w = w} i s c d l p q) = same_field x y a b v w i (only_itself s) c d p q

  one_class : (x y : Ident) (v w : Value) → Same ts x y → Contains ts (Is x v) → Contains ts (Is y w) → v ≡ w
  one_class x y v w s c d = h.one x v w c (subst (λ z. Contains ts (Is z w)) (sym (only_itself s)) d)

  pub values_plain : IsPlain ts []
  values_plain = record {
    free = λ x c. absurd (contains_none x c);
    only = λ x is c. absurd (no_domain x is c);
    one = one_class;
  }

  pub values_fit : is_consistent ts ≡ true
  values_fit = (tests_consistent ts).1 (record {
    agree = λ x y v w s c d. subst (λ u. is_like v u ≡ true) (one_class x y v w s c d) (alike-refl v);
    inhabited = λ x is c. absurd (no_domain x is c);
    inside = λ x y v is s c d. absurd (no_domain y is d);
  })

-- ---- one more

pub values_none : AreValues []
values_none = record { each = λ u c. absurd (contains_none u c); one = λ x v w c d. absurd (contains_none (Is x v) c) }

module _ (ts : List Tell) (h : AreValues ts) (x : Ident) (v : Value) (new : (w : Value) → Contains ts (Is x w) → ⊥) where
  in_front : (y : Ident) (w : Value) → Contains (Is x v ∷ ts) (Is y w) → ((x ≡ y) × (v ≡ w)) ⊎ Contains ts (Is y w)
  in_front y w c = elim (contains_cases (Is x v) (Is y w) ts c) [ inl e ↦ inl (same_variable x y v w e, same_value x y v w e) | inr k ↦ inr k ]

  same_or_old : (y : Ident) (u w : Value) → ((x ≡ y) × (v ≡ u)) ⊎ Contains ts (Is y u) → ((x ≡ y) × (v ≡ w)) ⊎ Contains ts (Is y w) → u ≡ w
  same_or_old y u w (inl e) (inl f) = sym e.1 ∙ f.1
  same_or_old y u w (inl e) (inr d) = absurd (new w (subst (λ z. Contains ts (Is z w)) (sym e.0) d))
  same_or_old y u w (inr c) (inl f) = absurd (new u (subst (λ z. Contains ts (Is z u)) (sym f.0) c))
  same_or_old y u w (inr c) (inr d) = h.one y u w c d

  pub values_front : AreValues (Is x v ∷ ts)
  values_front = record {
    each = λ u c. elim (contains_cases (Is x v) u ts c) [ inl e ↦ (x, v, sym e) | inr k ↦ h.each u k ];
    one = λ y u w c d. same_or_old y u w (in_front y u c) (in_front y w d);
  }

  at_the_end : (y : Ident) (w : Value) → Contains (ts ++ Is x v ∷ []) (Is y w) → ((x ≡ y) × (v ≡ w)) ⊎ Contains ts (Is y w)
  at_the_end y w c = elim (Contains-append_cases ts (Is x v ∷ []) (Is y w) c) [
    | inl k ↦ inr k
    | inr k ↦ elim (contains_cases (Is x v) (Is y w) [] k) [ inl e ↦ inl (same_variable x y v w e, same_value x y v w e) | inr n ↦ absurd (contains_none (Is y w) n) ]
  ]

  pub values_behind : AreValues (ts ++ Is x v ∷ [])
  values_behind = record {
    each = λ u c. elim (Contains-append_cases ts (Is x v ∷ []) u c) [
      | inl k ↦ h.each u k
      | inr k ↦ elim (contains_cases (Is x v) u [] k) [ inl e ↦ (x, v, sym e) | inr n ↦ absurd (contains_none u n) ]
    ];
    one = λ y u w c d. same_or_old y u w (at_the_end y u c) (at_the_end y w d);
  }

-- ---- values of the variables of the top from number n on

abbrev pub valued : ℕ → List Value → List Tell
valued n [] = []
valued n (v ∷ vs) = Is (named [] n) v ∷ valued (n + 1) vs

-- their numbers
pub numbered_from : (n : ℕ) (vs : List Value) (x : Ident) (w : Value) → Contains (valued n vs) (Is x w) → n ≤ x.number
numbered_from n [] x w c = absurd (contains_none (Is x w) c)
numbered_from n (v ∷ vs) x w c = elim (contains_cases (Is (named [] n) v) (Is x w) (valued (n + 1) vs) c) [
  | inl e ↦ (let f = ap (λ (y : Ident). y.number) (same_variable (named [] n) x v w e) in omega (arith, f))
  | inr k ↦ (let l = numbered_from (n + 1) vs x w k in omega (arith, l))
]

pub valued_values : (n : ℕ) (vs : List Value) → AreValues (valued n vs)
valued_values n [] = values_none
valued_values n (v ∷ vs) = values_front (valued (n + 1) vs) (valued_values (n + 1) vs) (named [] n) v (λ w c. (let l = numbered_from (n + 1) vs (named [] n) w c in absurd (omega (arith, l))))

-- each has its value
pub valued_at : (n : ℕ) (vs : List Value) (i : ℕ) → i < length vs → (v : Value) × Contains (valued n vs) (Is (named [] (n + i)) v)
valued_at n [] i l = absurd (omega (arith, l))
valued_at n (v ∷ vs) zero l = (let e : n ≡ n + 0 = omega arith in (v, subst (λ m. Contains (valued n (v ∷ vs)) (Is (named [] m) v)) e (contains_head (Is (named [] n) v) (valued (n + 1) vs))))
valued_at n (v ∷ vs) (suc i) l =
    let r = valued_at (n + 1) vs i (omega (arith, l)) in
    let e : n + 1 + i ≡ n + suc i = omega arith in
    (r.0, contains_tail (Is (named [] n) v) (Is (named [] (n + suc i)) r.0) (valued (n + 1) vs) (subst (λ m. Contains (valued (n + 1) vs) (Is (named [] m) r.0)) e r.1))

pub valued_joined : (n : ℕ) (vs : List Value) (w : Value) → valued n (vs ++ w ∷ []) ≡ valued n vs ++ Is (named [] (n + length vs)) w ∷ []
valued_joined n [] w = (let e : n ≡ n + 0 = omega arith in ap (λ m. Is (named [] m) w ∷ []) e)
valued_joined n (v ∷ vs) w =
    let e : n + 1 + length vs ≡ n + length (v ∷ vs) = omega arith in
    ap (λ ts. Is (named [] n) v ∷ ts) (valued_joined (n + 1) vs w ∙ ap (λ m. valued (n + 1) vs ++ Is (named [] m) w ∷ []) e)

-- ---- which variables they name

-- the fields of values are variables of the top
abbrev pub FieldsTop : Value → Type 0
FieldsTop v = (y : Ident) → Contains (fields_of v) y → y.space ≡ []

abbrev pub AllFieldsTop : List Value → Type 0
AllFieldsTop [] = Unit {0}
AllFieldsTop (v ∷ vs) = FieldsTop v × AllFieldsTop vs

pub value_names : (x : Ident) (v : Value) (ts : List Tell) → x.space ≡ [] → FieldsTop v → ((y : Ident) → Contains (flat_map named_by ts) y → y.space ≡ [])
    → (y : Ident) → Contains (flat_map named_by (Is x v ∷ ts)) y → y.space ≡ []
value_names x v ts top fields rest y c = elim (Contains-append_cases (x ∷ fields_of v) (flat_map named_by ts) y c) [
  | inl k ↦ elim (contains_cases x y (fields_of v) k) [ inl e ↦ ap (λ (z : Ident). z.space) (sym e) ∙ top | inr f ↦ fields y f ]
  | inr k ↦ rest y k
]

pub valued_names : (n : ℕ) (vs : List Value) → AllFieldsTop vs → (y : Ident) → Contains (flat_map named_by (valued n vs)) y → y.space ≡ []
valued_names n [] a y c = absurd (contains_none y c)
valued_names n (v ∷ vs) a y c = value_names (named [] n) v (valued (n + 1) vs) refl a.0 (valued_names (n + 1) vs a.1) y c
