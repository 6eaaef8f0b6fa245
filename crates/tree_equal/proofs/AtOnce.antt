-- What is decided of an equation without its being told.
use Rattle.std.proofs.Common.{◌≡◌, ◌⊎◌, inl, inr, Bool, true, false, not, ◌||◌, List, [], ◌∷◌, Contains, Option, Some, None, is_some, length, filter, refl, sym, ap, subst, ◌∙◌, arith}
use Rattle.std.proofs.lemmas.Bool.{false≢true}
use Rattle.oz_base.specs.declared.names.Ident.{Ident}
use Rattle.oz_domains.specs.Domains.{IntSet, union}
use Rattle.oz_laws.proofs.AlikeLaws.{alike-sym}
use Rattle.oz_laws.proofs.DomainLaws.{common-some}
use Rattle.oz_laws.proofs.SameLaws.{In, In-from_contains, contains-from_In, and-right, eq-true, tests_same}
use Rattle.oz_laws.proofs.StoreLaws.{tests_consistent, told_sets, set_told}
use Rattle.oz_semantics.specs.Entailment as entailment
use Rattle.oz_semantics.specs.Entailment.{equated, equality}
use Rattle.oz_semantics.specs.Store.{Same, told, itself, reversed, joined, same, told_value, told_domain, value_of, is_determined, IsConsistent, is_consistent}
use Rattle.oz_semantics.specs.Values.{is_like, fields_of}
use Rattle.oz_semantics.specs.declared.value.Value.{Value}
use Rattle.oz_semantics.specs.declared.value.Value.TheVariants as value
use Rattle.oz_semantics.specs.declared.value.Tell.{Tell}
use Rattle.oz_semantics.specs.declared.value.Tell.TheVariants.{Equal, Is}
use Rattle.view_laws.proofs.KnownLaws.{Known, FitsAll, fits_like, known_value, known_later, known_alike, known_fits, class_fits}
use Rattle.view_laws.proofs.ListLaws.{filter_in, in_filter}
use Rattle.view_laws.proofs.Members.{decide, not_both, or_cases, has-left, has-right}
use Rattle.view_laws.proofs.ViewLaws.{determined_same, told_some, free_told}
use Rattle.tree_equal.specs.Answers.{IsEquality, unless, decided_as, Decides, is_bare}
use Rattle.tree_equal.proofs.Affecting.{Affects, Covers, covered, contradicted}
use Rattle.tree_equal.proofs.Merging.{back, consistent_still, Merged, before, over, under, merged, consistent_merged}

-- values that are alike have as many fields
like_length : (v w : Value) → is_like v w ≡ true → length (fields_of v) ≡ length (fields_of w)
like_length (value.Constant a) (value.Constant b) e = refl
like_length (value.Record a) (value.Record b) e = eq-true (length a.fields) (length b.fields) (and-right _ _ (and-right _ _ e))
like_length (value.Procedure a) (value.Procedure b) e = refl
like_length (value.Builtin a) (value.Builtin b) e = refl
like_length (value.Name a) (value.Name b) e = refl
like_length (value.Cell a) (value.Cell b) e = refl
like_length (value.Port a) (value.Port b) e = refl
like_length (value.Space a) (value.Space b) e = refl
like_length v w e = absurd (false≢true e)

none_like : (v w : Value) → is_like v w ≡ true → fields_of v ≡ [] → fields_of w ≡ []
none_like v w e n = by (fields_of w) (sym (like_length v w e) ∙ ap length n)
  where
    by : (xs : List Ident) → length xs ≡ 0 → xs ≡ []
    by [] k = refl
    by (x ∷ xs) k = absurd (omega (arith, k))

none_in : (x : Ident) {A : Type 0} → Contains [] x → A
none_in x h = absurd (omega (arith, h.1))

not_is : (b : Bool) → not b ≡ true → b ≡ false
not_is true e = absurd (false≢true e)
not_is false e = refl

module _ (ts : List Tell) (x y : Ident) (consistent : is_consistent ts ≡ true) where
  sound : IsConsistent ts
  sound = (tests_consistent ts).0 consistent

  equation : Same (equated ts x y) x y
  equation = told (has-right (Equal x y) ts (Equal x y ∷ []) (0, omega arith, refl))

  -- One class already

  pub one_class : same ts x y ≡ true → equality ts x y ≡ entailment.Entailed
  one_class e =
      let s : Same ts x y = (tests_same ts x y).0 e in
      covered ts x y [] (record {
        sound = λ z c. none_in z c;
        complete = λ z a. absurd (not_both _ ((tests_same ts z a.other).1 (back ts x y s a.joins)) a.apart);
      }) (consistent_still ts x y s sound)

  -- Values without fields

  differ : (v w : Value) → value_of ts x ≡ Some v → value_of ts y ≡ Some w → is_like v w ≡ false → equality ts x y ≡ entailment.Contradicted
  differ v w ev ew unlike = contradicted ts x y (elim (decide (is_consistent (equated ts x y))) [
    | inr e ↦ e
    | inl e ↦ (let later : (z : Ident) (u : Value) → value_of ts z ≡ Some u → Known (equated ts x y) z u =
        λ z u k. known_later ts (equated ts x y) (λ t c. has-left t ts (Equal x y ∷ []) c) z u (known_value ts z u k) in
        absurd (not_both _ (known_alike (equated ts x y) ((tests_consistent (equated ts x y)).0 e) x y v w equation (later x v ev) (later y w ew)) unlike))
  ])

  alike : (v w : Value) → value_of ts x ≡ Some v → value_of ts y ≡ Some w → is_like v w ≡ true → fields_of v ≡ [] → equality ts x y ≡ entailment.Entailed
  alike v w ev ew like none = covered ts x y [] (record { sound = λ z c. none_in z c; complete = λ z a. absurd (never z a) })
      (consistent_merged ts x y bare sound v left (fits_like ts y w v (alike-sym v w like) (known_fits ts sound y w (known_value ts y w ew))))
    where
      left : FitsAll ts x v
      left = known_fits ts sound x v (known_value ts x v ev)

      bare : (p q : Ident) (u s : Value) → Same ts p x → Same ts q y → Contains ts (Is p u) → Contains ts (Is q s) → fields_of u ≡ []
      bare p q u s m n c d = none_like v u (left.values p u m c) none

      is_known : (z a : Ident) (u : Value) → value_of ts a ≡ Some u → Same ts z a → is_determined ts z ≡ true
      is_known z a u e s = determined_same ts z a s ∙ ap is_some e

      by : (z o : Ident) → is_determined ts z ≡ false → same ts z o ≡ false → Merged ts x y z o → ⊥
      by z o free apart (before s) = not_both _ ((tests_same ts z o).1 s) apart
      by z o free apart (over p q) = not_both _ (is_known z x v ev p) free
      by z o free apart (under p q) = not_both _ (is_known z y w ew p) free

      never : (z : Ident) → Affects ts x y z → ⊥
      never z a = by z a.other a.free a.apart (merged ts x y bare a.joins)

  pub at_once : (o q : Option Value) (answer : Bool) → value_of ts x ≡ o → value_of ts y ≡ q → Decides o q (Some answer) → equality ts x y ≡ decided_as answer
  at_once (Some v) (Some w) true ev ew d = alike v w ev ew d.0 d.1
  at_once (Some v) (Some w) false ev ew d = differ v w ev ew d
  at_once None q answer ev ew d = elim d [ ]
  at_once (Some v) None answer ev ew d = elim d [ ]

  -- A class with neither a value nor a domain

  pub record Bare (z : Ident) : Type 0 where
    pub free : is_determined ts z ≡ false
    pub untold : told_value ts z ≡ None
    pub unbound : told_domain ts z ≡ None

  bare_is : (z : Ident) → is_bare (value_of ts z) (told_domain ts z) ≡ true → Bare z
  bare_is z e = by (value_of ts z) (told_domain ts z) refl refl e
    where
      by : (o : Option Value) (d : Option IntSet) → value_of ts z ≡ o → told_domain ts z ≡ d → is_bare o d ≡ true → Bare z
      by None None eo ed k = let free : is_determined ts z ≡ false = ap is_some eo in record { free = free; untold = free_told ts z free; unbound = ed }
      by None (Some s) eo ed k = absurd (false≢true k)
      by (Some v) d eo ed k = absurd (false≢true k)

  none_told : (z p : Ident) (v : Value) → Bare z → Same ts p z → Contains ts (Is p v) → ⊥
  none_told z p v b s c = false≢true (sym (ap is_some b.untold) ∙ told_some ts z p v (reversed s) c)

  fits_bare : (z : Ident) (v : Value) → Bare z → FitsAll ts z v
  fits_bare z v b = record {
    values = λ p w s c. absurd (none_told z p w b s c);
    domains = λ p js s c. absurd (false≢true (ap is_some (sym b.unbound ∙ (common-some (told_sets ts z) (union js) (set_told ts z p js s c)).1)));
  }

  module _ (apart : same ts x y ≡ false) (either : Bare x ⊎ Bare y) where
    abbrev waits : List Ident
    waits = filter (λ z. not (is_determined ts z)) (x ∷ y ∷ [])

    bare_told : (p q : Ident) (v w : Value) → Same ts p x → Same ts q y → Contains ts (Is p v) → Contains ts (Is q w) → fields_of v ≡ []
    bare_told p q v w m n c d = elim either [ inl b ↦ absurd (none_told x p v b m c) | inr b ↦ absurd (none_told y q w b n d) ]

    both_consistent : is_consistent (equated ts x y) ≡ true
    both_consistent = elim either [
      | inl b ↦ (let f = class_fits ts sound y in consistent_merged ts x y bare_told sound f.0 (fits_bare x f.0 b) f.1)
      | inr b ↦ (let f = class_fits ts sound x in consistent_merged ts x y bare_told sound f.0 f.1 (fits_bare y f.0 b))
    ]

    flipped : same ts y x ≡ false
    flipped = elim (decide (same ts y x)) [ inr e ↦ e | inl e ↦ absurd (not_both _ ((tests_same ts x y).1 (reversed ((tests_same ts y x).0 e))) apart) ]

    left_affected : is_determined ts x ≡ false → Affects ts x y x
    left_affected e = record { free = e; other = y; joins = equation; apart = apart }

    right_affected : is_determined ts y ≡ false → Affects ts x y y
    right_affected e = record { free = e; other = x; joins = reversed equation; apart = flipped }

    waits_affected : (z : Ident) → In z waits → Affects ts x y z
    waits_affected z h = let f = filter_in (λ z. not (is_determined ts z)) (x ∷ y ∷ []) z h in by f.0 (not_is _ f.1)
      where
        by : In z (x ∷ y ∷ []) → is_determined ts z ≡ false → Affects ts x y z
        by (inl e) k = subst (Affects ts x y) e (left_affected (ap (is_determined ts) e ∙ k))
        by (inr (inl e)) k = subst (Affects ts x y) e (right_affected (ap (is_determined ts) e ∙ k))
        by (inr (inr e)) k = elim e [ ]

    in_waits : (z a : Ident) → In a (x ∷ y ∷ []) → is_determined ts z ≡ false → Same ts z a → (c : Ident) × Contains waits c × Same ts z c
    in_waits z a i e s = (a, contains-from_In waits a (in_filter (λ z. not (is_determined ts z)) (x ∷ y ∷ []) a i (ap not (sym (determined_same ts z a s) ∙ e))), s)

    affected_waits : (z o : Ident) → is_determined ts z ≡ false → same ts z o ≡ false → Merged ts x y z o → (c : Ident) × Contains waits c × Same ts z c
    affected_waits z o e n (before s) = absurd (not_both _ ((tests_same ts z o).1 s) n)
    affected_waits z o e n (over p q) = in_waits z x (inl refl) e p
    affected_waits z o e n (under p q) = in_waits z y (inr (inl refl)) e p

    pub bare_waits : IsEquality ts (equality ts x y) (unless waits)
    bare_waits = covered ts x y waits (record {
      sound = λ z c. waits_affected z (In-from_contains waits z c);
      complete = λ z a. affected_waits z a.other a.free a.apart (merged ts x y bare_told a.joins);
    }) both_consistent

  either_bare : (a b : Bool) → is_bare (value_of ts x) (told_domain ts x) ≡ a → is_bare (value_of ts y) (told_domain ts y) ≡ b → (a || b) ≡ true → Bare x ⊎ Bare y
  either_bare true b ea eb e = inl (bare_is x ea)
  either_bare false true ea eb e = inr (bare_is y eb)
  either_bare false false ea eb e = absurd (false≢true e)

  pub where_bare : same ts x y ≡ false → (is_bare (value_of ts x) (told_domain ts x) || is_bare (value_of ts y) (told_domain ts y)) ≡ true
      → IsEquality ts (equality ts x y) (unless (filter (λ z. not (is_determined ts z)) (x ∷ y ∷ [])))
  where_bare apart e = bare_waits apart (either_bare _ _ refl refl e)
