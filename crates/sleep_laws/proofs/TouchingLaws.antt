-- What a single tell touches.
use Rattle.std.proofs.Common.{◌≡◌, ◌⊎◌, inl, inr, ℕ, true, List, [], ◌∷◌, ◌++◌, refl, sym, ap, subst, ◌∙◌, Contains, Option, Some, None, is_some, slice_get}
use Rattle.std.proofs.lemmas.Bool.{false≢true}
use Rattle.oz_base.specs.declared.names.Ident.{Ident}
use Rattle.oz_semantics.specs.Values.{is_like, fields_of}
use Rattle.oz_semantics.specs.Store.{Same, told, itself, reversed, joined, field, told_value}
use Rattle.oz_semantics.specs.declared.value.Value.{Value}
use Rattle.oz_semantics.specs.declared.value.Tell.{Tell}
use Rattle.oz_semantics.specs.declared.value.Tell.TheVariants.{Equal, Is, Within}
use Rattle.oz_laws.proofs.SameLaws.{In-from_contains, contains-from_In}
use Rattle.oz_laws.specs.Touched.{Meets}
use Rattle.view_laws.proofs.Members.{has-cases}
use Rattle.view_laws.proofs.ViewLaws.{told_some}
use Rattle.sleep_laws.specs.Touching.{ValueTouches, EquationTouches}

only_one : {A : Type 0} (x y : A) → Contains (x ∷ []) y → x ≡ y
only_one x y c = elim (In-from_contains (x ∷ []) y c) [ inl e ↦ e | inr i ↦ elim i [ ] ]

-- what has a value is not of a class to which none was told
value_apart : (view : List Tell) (x y : Ident) (v : Value) → told_value view x ≡ None → Contains view (Is y v) → Same view x y → ⊥
value_apart view x y v e c s = false≢true (sym (ap is_some e) ∙ told_some view x y v s c)

-- A value

same_item : {A : Type 0} (o : Option A) (a b : A) → o ≡ Some a → o ≡ Some b → a ≡ b
same_item o a b e f = cc

module _ (view : List Tell) (x : Ident) (v : Value) (free : told_value view x ≡ None) where
  abbrev valued : List Tell
  valued = view ++ Is x v ∷ []

  equal_before : (a b : Ident) → Contains valued (Equal a b) → Contains view (Equal a b)
  equal_before a b c = elim (has-cases (Equal a b) view (Is x v ∷ []) c) [
    | inl h ↦ h
    | inr h ↦ absurd (let clash : Is x v ≡ Equal a b = only_one (Is x v) (Equal a b) h in cc)
  ]

  is_own : (a : Ident) (w : Value) → Contains (Is x v ∷ []) (Is a w) → (x ≡ a) × (v ≡ w)
  is_own a w h = let e : Is x v ≡ Is a w = only_one (Is x v) (Is a w) h in (variable x a v w e, value x a v w e)
    where
      variable : (p q : Ident) (s t : Value) → Is p s ≡ Is q t → p ≡ q
      variable p q s t e = cc

      value : (p q : Ident) (s t : Value) → Is p s ≡ Is q t → s ≡ t
      value p q s t e = cc

  fields_before : (p q a b : Ident) (u w : Value) (i : ℕ) → Same view p q → Contains valued (Is p u) → Contains valued (Is q w) → is_like u w ≡ true
      → slice_get (fields_of u) i ≡ Some a → slice_get (fields_of w) i ≡ Some b → Same view a b
  fields_before p q a b u w i s c d l f g = elim (has-cases (Is p u) view (Is x v ∷ []) c) [
    | inl h ↦ elim (has-cases (Is q w) view (Is x v ∷ []) d) [
      | inl k ↦ field i s h k l f g
      | inr k ↦ absurd (value_apart view x p u free h (subst (λ z. Same view z p) (sym (is_own q w k).0) (reversed s)))
    ]
    | inr h ↦ elim (has-cases (Is q w) view (Is x v ∷ []) d) [
      | inl k ↦ absurd (value_apart view x q w free k (subst (λ z. Same view z q) (sym (is_own p u h).0) s))
      | inr k ↦ (let e : u ≡ w = sym (is_own p u h).1 ∙ (is_own q w k).1 in
          let is : a ≡ b = same_item (slice_get (fields_of w) i) a b (sym (ap (λ (z : Value). slice_get (fields_of z) i) e) ∙ f) g in
          subst (Same view a) is itself)
    ]
  ]

  same_before : {a b : Ident} → Same valued a b → Same view a b
  same_before {a} {b} (told c) = told (equal_before a b c)
  same_before itself = itself
  same_before (reversed s) = reversed (same_before s)
  same_before (joined s t) = joined (same_before s) (same_before t)
  same_before (field {x = p} {y = q} {a = a} {b = b} {v = u} {w = w} i s c d l f g) = fields_before p q a b u w i (same_before s) c d l f g

pub value_touches : ValueTouches
value_touches view x v free = record {
  joins = λ a b s. inl (same_before view x v free s);
  binds = λ a w c. inr (x, contains-from_In (x ∷ []) x (inl refl), subst (λ z. Same view z x) (is_own view x v free a w c).0 itself);
  narrows = λ a is c. absurd (let clash : Is x v ≡ Within a is = only_one (Is x v) (Within a is) c in cc);
}

-- An equation

module _ (view : List Tell) (x y : Ident) (free : (told_value view x ≡ None) ⊎ (told_value view y ≡ None)) where
  abbrev equated : List Tell
  equated = view ++ Equal x y ∷ []

  abbrev both : List Ident
  both = x ∷ y ∷ []

  abbrev Joined : Ident → Ident → Type 0
  Joined a b = Same view a b ⊎ (Meets view both a × Meets view both b)

  left_meets : Meets view both x
  left_meets = (x, contains-from_In both x (inl refl), itself)

  right_meets : Meets view both y
  right_meets = (y, contains-from_In both y (inr (inl refl)), itself)

  meets_along : (a b : Ident) → Same view a b → Meets view both b → Meets view both a
  meets_along a b s m = (m.0, m.1, joined s m.2)

  value_before : (a : Ident) (w : Value) → Contains equated (Is a w) → Contains view (Is a w)
  value_before a w c = elim (has-cases (Is a w) view (Equal x y ∷ []) c) [
    | inl h ↦ h
    | inr h ↦ absurd (let clash : Equal x y ≡ Is a w = only_one (Equal x y) (Is a w) h in cc)
  ]

  told_joined : (a b : Ident) → Contains equated (Equal a b) → Joined a b
  told_joined a b c = elim (has-cases (Equal a b) view (Equal x y ∷ []) c) [
    | inl h ↦ inl (told h)
    | inr h ↦ (let e : Equal x y ≡ Equal a b = only_one (Equal x y) (Equal a b) h in
        inr (subst (Meets view both) (one x y a b e) left_meets, subst (Meets view both) (two x y a b e) right_meets))
  ]
    where
      one : (p q r s : Ident) → Equal p q ≡ Equal r s → p ≡ r
      one p q r s e = cc

      two : (p q r s : Ident) → Equal p q ≡ Equal r s → q ≡ s
      two p q r s e = cc

  reversed_joined : (a b : Ident) → Joined a b → Joined b a
  reversed_joined a b (inl s) = inl (reversed s)
  reversed_joined a b (inr m) = inr (m.1, m.0)

  both_joined : (a b c : Ident) → Joined a b → Joined b c → Joined a c
  both_joined a b c (inl s) (inl t) = inl (joined s t)
  both_joined a b c (inl s) (inr m) = inr (meets_along a b s m.0, m.1)
  both_joined a b c (inr m) (inl t) = inr (m.0, meets_along c b (reversed t) m.1)
  both_joined a b c (inr m) (inr n) = inr (m.0, n.1)

  -- of the two, only that to which a value was told is equal to a variable to which one was
  one_of : (z : Ident) → Meets view both z → Same view z x ⊎ Same view z y
  one_of z m = elim (In-from_contains both m.0 m.1) [
    | inl e ↦ inl (subst (Same view z) (sym e) m.2)
    | inr i ↦ elim i [ inl e ↦ inr (subst (Same view z) (sym e) m.2) | inr j ↦ elim j [ ] ]
  ]

  valued_same : (p q : Ident) (u w : Value) → Contains view (Is p u) → Contains view (Is q w) → Meets view both p → Meets view both q → Same view p q
  valued_same p q u w c d m n = by (one_of p m) (one_of q n) free
    where
      by : Same view p x ⊎ Same view p y → Same view q x ⊎ Same view q y → (told_value view x ≡ None) ⊎ (told_value view y ≡ None) → Same view p q
      by (inl s) (inl t) f = joined s (reversed t)
      by (inr s) (inr t) f = joined s (reversed t)
      by (inl s) (inr t) (inl f) = absurd (value_apart view x p u f c (reversed s))
      by (inl s) (inr t) (inr f) = absurd (value_apart view y q w f d (reversed t))
      by (inr s) (inl t) (inl f) = absurd (value_apart view x q w f d (reversed t))
      by (inr s) (inl t) (inr f) = absurd (value_apart view y p u f c (reversed s))

  fields_joined : (p q a b : Ident) (u w : Value) (i : ℕ) → Joined p q → Contains view (Is p u) → Contains view (Is q w) → is_like u w ≡ true
      → slice_get (fields_of u) i ≡ Some a → slice_get (fields_of w) i ≡ Some b → Joined a b
  fields_joined p q a b u w i (inl s) c d l f g = inl (field i s c d l f g)
  fields_joined p q a b u w i (inr m) c d l f g = inl (field i (valued_same p q u w c d m.0 m.1) c d l f g)

  all_joined : {a b : Ident} → Same equated a b → Joined a b
  all_joined {a} {b} (told c) = told_joined a b c
  all_joined itself = inl itself
  all_joined {a} {b} (reversed s) = reversed_joined b a (all_joined s)
  all_joined (joined {x = a} {y = b} {z = c} s t) = both_joined a b c (all_joined s) (all_joined t)
  all_joined (field {x = p} {y = q} {a = a} {b = b} {v = u} {w = w} i s c d l f g) =
      fields_joined p q a b u w i (all_joined s) (value_before p u c) (value_before q w d) l f g

pub equation_touches : EquationTouches
equation_touches view x y free = record {
  joins = λ a b s. elim (all_joined view x y free s) [ inl k ↦ inl k | inr m ↦ inr m.0 ];
  binds = λ a w c. absurd (let clash : Equal x y ≡ Is a w = only_one (Equal x y) (Is a w) c in cc);
  narrows = λ a is c. absurd (let clash : Equal x y ≡ Within a is = only_one (Equal x y) (Within a is) c in cc);
}
