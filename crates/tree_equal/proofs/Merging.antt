-- Two classes that are made one, where no field of them is: one of them was told no value, or values without fields.
use Rattle.std.proofs.Common.{◌≡◌, ◌⊎◌, inl, inr, ℕ, true, false, List, [], ◌∷◌, Contains, slice_get, Some, refl, sym, ap, subst, ◌∙◌}
use Rattle.oz_base.specs.Lists.{holds_of}
use Rattle.oz_base.specs.declared.interval.Interval.{Interval}
use Rattle.oz_base.specs.declared.names.Ident.{Ident}
use Rattle.oz_laws.proofs.SameLaws.{In-from_contains, tests_same}
use Rattle.oz_laws.proofs.StoreLaws.{tests_consistent}
use Rattle.oz_semantics.specs.Entailment.{equated}
use Rattle.oz_semantics.specs.Store.{Same, told, itself, reversed, joined, field, same, IsConsistent, is_consistent}
use Rattle.oz_semantics.specs.Values.{is_like, fields_of}
use Rattle.oz_semantics.specs.declared.value.Value.{Value}
use Rattle.oz_semantics.specs.declared.value.Tell.{Tell}
use Rattle.oz_semantics.specs.declared.value.Tell.TheVariants.{Equal, Is, Within}
use Rattle.view_laws.proofs.KnownLaws.{FitsAll, all_fit, class_fits}
use Rattle.view_laws.proofs.Members.{decide, not_both, has-cases}

none_at : (xs : List Ident) (i : ℕ) (a : Ident) → xs ≡ [] → slice_get xs i ≡ Some a → ⊥
none_at [] i a e k = cc
none_at (x ∷ xs) i a e k = cc

-- equal before, or of the two classes
pub data Merged (ts : List Tell) (x y a b : Ident) : Type 0 where
  before : Same ts a b → Merged ts x y a b
  over : Same ts a x → Same ts b y → Merged ts x y a b
  under : Same ts a y → Same ts b x → Merged ts x y a b

module _ (ts : List Tell) (x y : Ident) where
  merged_reversed : (a b : Ident) → Merged ts x y a b → Merged ts x y b a
  merged_reversed a b (before s) = before (reversed s)
  merged_reversed a b (over p q) = under q p
  merged_reversed a b (under p q) = over q p

  merged_joined : (a b c : Ident) → Merged ts x y a b → Merged ts x y b c → Merged ts x y a c
  merged_joined a b c (before s) (before t) = before (joined s t)
  merged_joined a b c (before s) (over p q) = over (joined s p) q
  merged_joined a b c (before s) (under p q) = under (joined s p) q
  merged_joined a b c (over p q) (before t) = over p (joined (reversed t) q)
  merged_joined a b c (over p q) (over r s) = before (joined p (joined (reversed r) (joined q (reversed s))))
  merged_joined a b c (over p q) (under r s) = before (joined p (reversed s))
  merged_joined a b c (under p q) (before t) = under p (joined (reversed t) q)
  merged_joined a b c (under p q) (over r s) = before (joined p (reversed s))
  merged_joined a b c (under p q) (under r s) = before (joined p (joined (reversed r) (joined q (reversed s))))

  told_before : (z : Ident) (v : Value) → Contains (equated ts x y) (Is z v) → Contains ts (Is z v)
  told_before z v c = elim (has-cases (Is z v) ts (Equal x y ∷ []) c) [
    | inl k ↦ k
    | inr k ↦ elim (In-from_contains (Equal x y ∷ []) (Is z v) k) [ inl e ↦ cc | inr e ↦ elim e [ ] ]
  ]

  bound_before : (z : Ident) (is : List Interval) → Contains (equated ts x y) (Within z is) → Contains ts (Within z is)
  bound_before z is c = elim (has-cases (Within z is) ts (Equal x y ∷ []) c) [
    | inl k ↦ k
    | inr k ↦ elim (In-from_contains (Equal x y ∷ []) (Within z is) k) [ inl e ↦ cc | inr e ↦ elim e [ ] ]
  ]

  -- An equation of one class changes nothing

  module _ (s : Same ts x y) where
    told_back : (a b : Ident) → Contains (equated ts x y) (Equal a b) → Same ts a b
    told_back a b c = elim (has-cases (Equal a b) ts (Equal x y ∷ []) c) [
      | inl k ↦ told k
      | inr k ↦ elim (In-from_contains (Equal x y ∷ []) (Equal a b) k) [
        | inl e ↦ (let l : x ≡ a = cc in
            let r : y ≡ b = cc in
            subst (λ z. Same ts z b) l (subst (λ z. Same ts x z) r s))
        | inr e ↦ elim e [ ]
      ]
    ]

    pub back : {a b : Ident} → Same (equated ts x y) a b → Same ts a b
    back (told {x = a} {y = b} c) = told_back a b c
    back itself = itself
    back (reversed t) = reversed (back t)
    back (joined t u) = joined (back t) (back u)
    back (field {x = p} {y = q} {v = v} {w = w} i t c d l ea eb) = field i (back t) (told_before p v c) (told_before q w d) l ea eb

    still_fits : IsConsistent ts → (a : Ident) → (v : Value) × FitsAll (equated ts x y) a v
    still_fits sound a =
        let f = class_fits ts sound a in (
          f.0,
          record { values = λ b w t c. f.1.values b w (back t) (told_before b w c); domains = λ b js t c. f.1.domains b js (back t) (bound_before b js c) },
        )

    pub consistent_still : IsConsistent ts → is_consistent (equated ts x y) ≡ true
    consistent_still sound = (tests_consistent (equated ts x y)).1 (all_fit (equated ts x y) (still_fits sound))

  -- An equation of two classes

  told_merged : (a b : Ident) → Contains (equated ts x y) (Equal a b) → Merged ts x y a b
  told_merged a b c = elim (has-cases (Equal a b) ts (Equal x y ∷ []) c) [
    | inl k ↦ before (told k)
    | inr k ↦ elim (In-from_contains (Equal x y ∷ []) (Equal a b) k) [
      | inl e ↦ (let l : x ≡ a = cc in
          let r : y ≡ b = cc in
          subst (λ z. Merged ts x y z b) l (subst (λ z. Merged ts x y x z) r (over itself itself)))
      | inr e ↦ elim e [ ]
    ]
  ]

  -- what is told of the one class has no fields, where something is told of the other
  module _ (bare : (p q : Ident) (v w : Value) → Same ts p x → Same ts q y → Contains ts (Is p v) → Contains ts (Is q w) → fields_of v ≡ []) where
    -- what the equation makes equal
    pub merged : {a b : Ident} → Same (equated ts x y) a b → Merged ts x y a b
    merged (told {x = a} {y = b} c) = told_merged a b c
    merged itself = before itself
    merged (reversed {x = a} {y = b} s) = merged_reversed a b (merged s)
    merged (joined {x = a} {y = b} {z = c} s t) = merged_joined a b c (merged s) (merged t)
    merged (field {x = p} {y = q} {a = a} {b = b} {v = v} {w = w} i s c d l ea eb) = by (merged s)
      where
        by : Merged ts x y p q → Merged ts x y a b
        by (before t) = before (field i t (told_before p v c) (told_before q w d) l ea eb)
        by (over m n) = absurd (none_at (fields_of v) i a (bare p q v w m n (told_before p v c) (told_before q w d)) ea)
        by (under m n) = absurd (none_at (fields_of w) i b (bare q p w v n m (told_before q w d) (told_before p v c)) eb)

    -- a value that fits both classes fits the one
    module _ (sound : IsConsistent ts) (v : Value) (left : FitsAll ts x v) (right : FitsAll ts y v) where
      of_two : (a : Ident) → Same ts a x ⊎ Same ts a y → (b : Ident) → Merged ts x y b a → Same ts b x ⊎ Same ts b y
      of_two a (inl s) b (before t) = inl (joined t s)
      of_two a (inr s) b (before t) = inr (joined t s)
      of_two a s b (over p q) = inl p
      of_two a s b (under p q) = inr p

      fits_two : (a : Ident) → Same ts a x ⊎ Same ts a y → FitsAll (equated ts x y) a v
      fits_two a s = record {
        values = λ b w t c. elim (of_two a s b (merged t)) [ inl k ↦ left.values b w k (told_before b w c) | inr k ↦ right.values b w k (told_before b w c) ];
        domains = λ b js t c. elim (of_two a s b (merged t)) [ inl k ↦ left.domains b js k (bound_before b js c) | inr k ↦ right.domains b js k (bound_before b js c) ];
      }

      alone : (a : Ident) → (Same ts a x → ⊥) → (Same ts a y → ⊥) → (b : Ident) → Merged ts x y b a → Same ts b a
      alone a m n b (before t) = t
      alone a m n b (over p q) = absurd (n q)
      alone a m n b (under p q) = absurd (m q)

      fits_alone : (a : Ident) → (Same ts a x → ⊥) → (Same ts a y → ⊥) → (u : Value) × FitsAll (equated ts x y) a u
      fits_alone a m n =
          let f = class_fits ts sound a in (
            f.0,
            record {
              values = λ b w t c. f.1.values b w (alone a m n b (merged t)) (told_before b w c);
              domains = λ b js t c. f.1.domains b js (alone a m n b (merged t)) (bound_before b js c);
            },
          )

      fits_any : (a : Ident) → (u : Value) × FitsAll (equated ts x y) a u
      fits_any a = elim (decide (same ts a x)) [
        | inl k ↦ (v, fits_two a (inl ((tests_same ts a x).0 k)))
        | inr m ↦ elim (decide (same ts a y)) [
          | inl k ↦ (v, fits_two a (inr ((tests_same ts a y).0 k)))
          | inr n ↦ fits_alone a (λ s. not_both _ ((tests_same ts a x).1 s) m) (λ s. not_both _ ((tests_same ts a y).1 s) n)
        ]
      ]

      pub consistent_merged : is_consistent (equated ts x y) ≡ true
      consistent_merged = (tests_consistent (equated ts x y)).1 (all_fit (equated ts x y) fits_any)
