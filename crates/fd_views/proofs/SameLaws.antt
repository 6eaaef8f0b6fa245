-- Which variables are equal once more is told.
use Rattle.std.proofs.Common.{◌≡◌, ◌⊎◌, inl, inr, ℕ, Bool, true, false, if◌then◌else◌, List, [], ◌∷◌, ◌++◌, Contains, Some, slice_get, flat_map, refl, sym, ◌∙◌, ap, subst}
use Rattle.std.proofs.lemmas.List.Elements.{Contains-append_cases, Contains-append_left, Contains-append_right}
use Rattle.oz_base.specs.Names.{ident_eq}
use Rattle.oz_base.specs.declared.names.Ident.{Ident}
use Rattle.oz_semantics.specs.Values.{is_like, fields_of}
use Rattle.oz_semantics.specs.Store.{Same, told, itself, reversed, joined, field, named_by}
use Rattle.oz_semantics.specs.declared.value.Value.{Value}
use Rattle.oz_semantics.specs.declared.value.Tell.{Tell}
use Rattle.oz_semantics.specs.declared.value.Tell.TheVariants.{Equal, Is}
use Rattle.oz_laws.proofs.SameLaws.{ident_eq-true, ident_eq-refl, In-from_contains, contains-from_In, In-flat}
use Rattle.view_laws.specs.Readies.{Keeps}
use Rattle.view_laws.proofs.Members.{not_both}
use Rattle.view_laws.proofs.ViewLaws.{same_kept, same_named}
use Rattle.fd_stores.proofs.Lists.{contains_none, contains_cases, contains_head}
use Rattle.fd_views.specs.Views.{IsFree, OnlyDomains}

-- ---- tells in front, and at the end

pub keeps_more : (ts more : List Tell) → Keeps ts (ts ++ more)
keeps_more ts more t c = Contains-append_left ts more t c

pub at_end : (ts : List Tell) (t : Tell) → Contains (ts ++ t ∷ []) t
at_end ts t = Contains-append_right ts (t ∷ []) t (contains_head t [])

-- a tell is one of those before, or the last
pub old_or_last : (ts : List Tell) (t u : Tell) → Contains (ts ++ t ∷ []) u → Contains ts u ⊎ (t ≡ u)
old_or_last ts t u c = elim (Contains-append_cases ts (t ∷ []) u c) [
  | inl k ↦ inl k
  | inr k ↦ elim (contains_cases t u [] k) [ inl e ↦ inr e | inr n ↦ absurd (contains_none u n) ]
]

pub same_more : (ts more : List Tell) {x y : Ident} → Same ts x y → Same (ts ++ more) x y
same_more ts more s = same_kept ts (ts ++ more) (keeps_more ts more) s

pub one_got : (a b : Ident) → Some a ≡ Some b → a ≡ b
one_got a b e = cc

-- the same field of the same value
same_field : (ts : List Tell) (v w : Value) (i : ℕ) (a b : Ident) → v ≡ w → slice_get (fields_of v) i ≡ Some a → slice_get (fields_of w) i ≡ Some b → Same ts a b
same_field ts v w i a b e p q = subst (Same ts a) (one_got a b (sym p ∙ ap (λ z. slice_get (fields_of z) i) e ∙ q)) itself

-- ---- domains make nothing equal

module _ (ts more : List Tell) (h : OnlyDomains more) where
  pub equal_before : (x y : Ident) → Contains (ts ++ more) (Equal x y) → Contains ts (Equal x y)
  equal_before x y c = elim (Contains-append_cases ts more (Equal x y) c) [ inl k ↦ k | inr k ↦ absurd (h (Equal x y) k) ]

  pub is_before : (x : Ident) (v : Value) → Contains (ts ++ more) (Is x v) → Contains ts (Is x v)
  is_before x v c = elim (Contains-append_cases ts more (Is x v) c) [ inl k ↦ k | inr k ↦ absurd (h (Is x v) k) ]

  pub domains_same : {x y : Ident} → Same (ts ++ more) x y → Same ts x y
  domains_same (told {x = x} {y = y} c) = told (equal_before x y c)
  domains_same itself = itself
  domains_same (reversed s) = reversed (domains_same s)
  domains_same (joined s t) = joined (domains_same s) (domains_same t)
  domains_same (field {x = x} {y = y} {v = v} {w = w} i s c d l a b) = field i (domains_same s) (is_before x v c) (is_before y w d) l a b

-- ---- nor does the first value of a free variable

module _ (ts : List Tell) (x : Ident) (v : Value) (h : IsFree ts x) where
  abbrev valued : List Tell
  valued = ts ++ Is x v ∷ []

  -- a tell of a value is one of those before, or that of x
  old_value : (y : Ident) (w : Value) → Contains valued (Is y w) → Contains ts (Is y w) ⊎ ((x ≡ y) × (v ≡ w))
  old_value y w c = elim (old_or_last ts (Is x v) (Is y w) c) [
    | inl k ↦ inl k
    | inr e ↦ inr (is_subject x y v w e)
  ] where
    is_subject : (x y : Ident) (v w : Value) → Is x v ≡ Is y w → (x ≡ y) × (v ≡ w)
    is_subject x y v w e = (cc, cc)

  old_equal : (y z : Ident) → Contains valued (Equal y z) → Contains ts (Equal y z)
  old_equal y z c = elim (old_or_last ts (Is x v) (Equal y z) c) [ inl k ↦ k | inr e ↦ absurd (cc) ]

  no_other : (y : Ident) (w : Value) → Same ts x y → Contains ts (Is y w) → ⊥
  no_other y w s c = h.untold w (subst (λ z. Contains ts (Is z w)) (sym (h.apart y s)) c)

  by_values : (y z a b : Ident) (u w : Value) (i : ℕ) → Same ts y z → is_like u w ≡ true → slice_get (fields_of u) i ≡ Some a → slice_get (fields_of w) i ≡ Some b
      → Contains ts (Is y u) ⊎ ((x ≡ y) × (v ≡ u)) → Contains ts (Is z w) ⊎ ((x ≡ z) × (v ≡ w)) → Same ts a b
  by_values y z a b u w i s l p q (inl c) (inl d) = field i s c d l p q
  by_values y z a b u w i s l p q (inl c) (inr d) = absurd (no_other y u (subst (λ k. Same ts k y) (sym d.0) (reversed s)) c)
  by_values y z a b u w i s l p q (inr c) (inl d) = absurd (no_other z w (subst (λ k. Same ts k z) (sym c.0) s) d)
  by_values y z a b u w i s l p q (inr c) (inr d) = same_field ts u w i a b (sym c.1 ∙ d.1) p q

  pub value_same : {y z : Ident} → Same valued y z → Same ts y z
  value_same (told {x = y} {y = z} c) = told (old_equal y z c)
  value_same itself = itself
  value_same (reversed s) = reversed (value_same s)
  value_same (joined s t) = joined (value_same s) (value_same t)
  value_same (field {x = y} {y = z} {a = a} {b = b} {v = u} {w = w} i s c d l p q) = by_values y z a b u w i (value_same s) l p q (old_value y u c) (old_value z w d)

-- ---- an equation of a free variable makes nothing else equal

module _ (ts : List Tell) (x y : Ident) (h : IsFree ts x) where
  abbrev equated : List Tell
  equated = ts ++ Equal x y ∷ []

  abbrev chosen : Bool → Ident → Ident
  chosen b z = if b then y else z

  -- y stands for x
  abbrev pub stand : Ident → Ident
  stand z = chosen (ident_eq z x) z

  pub stand_other : (z : Ident) → (z ≡ x → ⊥) → stand z ≡ z
  stand_other z n = by (ident_eq z x) refl where
    by : (b : Bool) → ident_eq z x ≡ b → chosen b z ≡ z
    by true e = absurd (n (ident_eq-true z x e))
    by false e = refl

  pub stand_x : stand x ≡ y
  stand_x = ap (λ b. chosen b x) (ident_eq-refl x)

  stand_y : stand y ≡ y
  stand_y = by (ident_eq y x) where
    by : (b : Bool) → chosen b y ≡ y
    by true = refl
    by false = refl

  lifted : (a b : Ident) → Same ts a b → Same ts (stand a) (stand b)
  lifted a b s = by (ident_eq a x) (ident_eq b x) refl refl where
    by : (p q : Bool) → ident_eq a x ≡ p → ident_eq b x ≡ q → Same ts (chosen p a) (chosen q b)
    by true true e f = itself
    by false false e f = s
    by true false e f = (
        let a_is : a ≡ x = ident_eq-true a x e in
        let same : x ≡ b = h.apart b (subst (λ z. Same ts z b) a_is s) in
        absurd (not_both (ident_eq b x) (ap (λ z. ident_eq z x) (sym same) ∙ ident_eq-refl x) f))
    by false true e f = (
        let b_is : b ≡ x = ident_eq-true b x f in
        let same : x ≡ a = h.apart a (subst (λ z. Same ts z a) b_is (reversed s)) in
        absurd (not_both (ident_eq a x) (ap (λ z. ident_eq z x) (sym same) ∙ ident_eq-refl x) e))

  pub old_is : (z : Ident) (v : Value) → Contains equated (Is z v) → Contains ts (Is z v)
  old_is z v c = elim (old_or_last ts (Equal x y) (Is z v) c) [ inl k ↦ k | inr e ↦ absurd (cc) ]

  valued_stands : (z : Ident) (v : Value) → Contains ts (Is z v) → stand z ≡ z
  valued_stands z v c = stand_other z (λ e. h.untold v (subst (λ k. Contains ts (Is k v)) e c))

  by_equation : (a b : Ident) → Contains ts (Equal a b) ⊎ (Equal x y ≡ Equal a b) → Same ts (stand a) (stand b)
  by_equation a b (inl c) = lifted a b (told c)
  by_equation a b (inr e) = (
      let first : x ≡ a = cc in
      let second : y ≡ b = cc in
      let here : Same ts (stand x) (stand y) = subst (λ z. Same ts z (stand y)) (sym stand_x) (subst (Same ts y) (sym stand_y) itself) in
      subst (λ z. Same ts (stand z) (stand b)) first (subst (λ z. Same ts (stand x) (stand z)) second here))

  pub equation_same : {a b : Ident} → Same equated a b → Same ts (stand a) (stand b)
  equation_same (told {x = a} {y = b} c) = by_equation a b (old_or_last ts (Equal x y) (Equal a b) c)
  equation_same itself = itself
  equation_same (reversed s) = reversed (equation_same s)
  equation_same (joined s t) = joined (equation_same s) (equation_same t)
  equation_same (field {x = p} {y = q} {a = a} {b = b} {v = v} {w = w} i s c d l f g) =
      let c' = old_is p v c in
      let d' = old_is q w d in
      let s' = subst (λ z. Same ts z q) (valued_stands p v c') (subst (Same ts (stand p)) (valued_stands q w d') (equation_same s)) in
      lifted a b (field i s' c' d' l f g)

-- ---- what no tell names

pub unnamed_free : (ts : List Tell) (x : Ident) → (Contains (flat_map named_by ts) x → ⊥) → IsFree ts x
unnamed_free ts x n = record {
  apart = λ y s. elim (same_named ts s) [ inl e ↦ e | inr k ↦ absurd (n (contains-from_In (flat_map named_by ts) x k.0)) ];
  untold = λ v c. n (contains-from_In (flat_map named_by ts) x (In-flat named_by (Is x v) x ts (In-from_contains ts (Is x v) c) (inl refl)));
}
