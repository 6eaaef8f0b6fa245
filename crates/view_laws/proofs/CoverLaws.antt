-- A list that has all that is named anew is touched; and what touches nothing else leaves all others alike.
use Rattle.std.proofs.Common.{◌≡◌, ◌⊎◌, inl, inr, ℕ, true, List, [], ◌++◌, refl, sym, subst, Contains, Some, slice_get, flat_map}
use Rattle.oz_base.specs.declared.names.Ident.{Ident}
use Rattle.oz_base.specs.declared.interval.Interval.{Interval}
use Rattle.oz_semantics.specs.Values.{is_like, fields_of}
use Rattle.oz_semantics.specs.Store.{Same, told, itself, reversed, joined, field, named_by}
use Rattle.oz_semantics.specs.Spaces.{alike_on}
use Rattle.oz_semantics.specs.declared.value.Value.{Value}
use Rattle.oz_semantics.specs.declared.value.Tell.{Tell}
use Rattle.oz_semantics.specs.declared.value.Tell.TheVariants.{Equal, Is, Within}
use Rattle.oz_laws.proofs.SameLaws.{In-from_contains, contains-from_In, In-flat}
use Rattle.oz_laws.specs.Touched.{Meets, Touches}
use Rattle.view_laws.specs.Touched.{NamesWithin, IsPart, UntouchedAlike}
use Rattle.view_laws.proofs.Members.{has-cases}
use Rattle.view_laws.proofs.ViewLaws.{same_named, got_in}
use Rattle.view_laws.proofs.TouchedLaws.{touched_decide}

-- where two variables that the list meets have values that are alike, it meets their fields, or these were equal before
record Covers (before more : List Tell) (touched : List Ident) : Type 0 where
  equations : (x y : Ident) → Contains more (Equal x y) → Meets before touched x × Meets before touched y
  values : (x : Ident) (v : Value) → Contains more (Is x v) → Meets before touched x
  domains : (x : Ident) (is : List Interval) → Contains more (Within x is) → Meets before touched x
  fields :
      (x y a b : Ident) (v w : Value) (i : ℕ) → Meets before touched x → Meets before touched y → Same (before ++ more) x y → Contains (before ++ more) (Is x v)
      → Contains (before ++ more) (Is y w) → is_like v w ≡ true → slice_get (fields_of v) i ≡ Some a → slice_get (fields_of w) i ≡ Some b
      → Same before a b ⊎ (Meets before touched a × Meets before touched b)

-- A variable that is equal to one that the list meets
meets_joined : (before : List Tell) (touched : List Ident) (x y : Ident) → Same before x y → Meets before touched y → Meets before touched x
meets_joined before touched x y s m = (m.0, m.1, joined s m.2)

abbrev Close : List Tell → List Ident → Ident → Ident → Type 0
Close before touched x y = Same before x y ⊎ (Meets before touched x × Meets before touched y)

close_reversed : (before : List Tell) (touched : List Ident) (x y : Ident) → Close before touched x y → Close before touched y x
close_reversed before touched x y (inl s) = inl (reversed s)
close_reversed before touched x y (inr m) = inr (m.1, m.0)

close_joined : (before : List Tell) (touched : List Ident) (x y z : Ident) → Close before touched x y → Close before touched y z → Close before touched x z
close_joined before touched x y z (inl s) (inl t) = inl (joined s t)
close_joined before touched x y z (inl s) (inr m) = inr (meets_joined before touched x y s m.0, m.1)
close_joined before touched x y z (inr m) (inl t) = inr (m.0, meets_joined before touched z y (reversed t) m.1)
close_joined before touched x y z (inr m) (inr n) = inr (m.0, n.1)

close_first : (before : List Tell) (touched : List Ident) (x y : Ident) → Close before touched x y → Same before x y ⊎ Meets before touched x
close_first before touched x y (inl s) = inl s
close_first before touched x y (inr m) = inr m.0

-- By the values

module _ (before more : List Tell) (touched : List Ident) (h : Covers before more touched) where
  told_close : (x y : Ident) → Contains before (Equal x y) ⊎ Contains more (Equal x y) → Close before touched x y
  told_close x y (inl c) = inl (told c)
  told_close x y (inr c) = inr (h.equations x y c)

  field_close :
      (x y a b : Ident) (v w : Value) (i : ℕ) → Same (before ++ more) x y → Close before touched x y → Contains (before ++ more) (Is x v) → Contains (before ++ more) (Is y w)
      → Contains before (Is x v) ⊎ Contains more (Is x v) → Contains before (Is y w) ⊎ Contains more (Is y w)
      → is_like v w ≡ true → slice_get (fields_of v) i ≡ Some a → slice_get (fields_of w) i ≡ Some b → Close before touched a b
  field_close x y a b v w i s (inr m) c d e f l p q = h.fields x y a b v w i m.0 m.1 s c d l p q
  field_close x y a b v w i s (inl k) c d (inl e) (inl f) l p q = inl (field i k e f l p q)
  field_close x y a b v w i s (inl k) c d (inr e) f l p q =
      let m = h.values x v e in h.fields x y a b v w i m (meets_joined before touched y x (reversed k) m) s c d l p q
  field_close x y a b v w i s (inl k) c d (inl e) (inr f) l p q =
      let m = h.values y w f in h.fields x y a b v w i (meets_joined before touched x y k m) m s c d l p q

  all_close : {x y : Ident} → Same (before ++ more) x y → Close before touched x y
  all_close (told {x = x} {y = y} c) = told_close x y (has-cases (Equal x y) before more c)
  all_close itself = inl itself
  all_close (reversed {x = x} {y = y} s) = close_reversed before touched x y (all_close s)
  all_close (joined {x = x} {y = y} {z = z} s t) = close_joined before touched x y z (all_close s) (all_close t)
  all_close (field {x = x} {y = y} {a = a} {b = b} {v = v} {w = w} i s c d l p q) =
      field_close x y a b v w i s (all_close s) c d (has-cases (Is x v) before more c) (has-cases (Is y w) before more d) l p q

covering_touches : (before more : List Tell) (touched : List Ident) → Covers before more touched → Touches before more touched
covering_touches before more touched h = record {
  joins = λ x y s. close_first before touched x y (all_close before more touched h s);
  binds = λ x v c. inr (h.values x v c);
  narrows = λ x is c. inr (h.domains x is c);
}

-- Nothing of a list is touched

named_of_equal : (more : List Tell) (x y : Ident) → Contains more (Equal x y) → Contains (flat_map named_by more) x × Contains (flat_map named_by more) y
named_of_equal more x y c =
    let h = In-from_contains more (Equal x y) c in (
      contains-from_In (flat_map named_by more) x (In-flat named_by (Equal x y) x more h (inl refl)),
      contains-from_In (flat_map named_by more) y (In-flat named_by (Equal x y) y more h (inr (inl refl))),
    )

named_of_is : (more : List Tell) (x : Ident) (v : Value) → Contains more (Is x v) → Contains (flat_map named_by more) x
named_of_is more x v c = contains-from_In (flat_map named_by more) x (In-flat named_by (Is x v) x more (In-from_contains more (Is x v) c) (inl refl))

named_of_within : (more : List Tell) (x : Ident) (is : List Interval) → Contains more (Within x is) → Contains (flat_map named_by more) x
named_of_within more x is c = contains-from_In (flat_map named_by more) x (In-flat named_by (Within x is) x more (In-from_contains more (Within x is) c) (inl refl))

named_field : (more : List Tell) (x : Ident) (v : Value) (i : ℕ) (a : Ident) → Contains more (Is x v) → slice_get (fields_of v) i ≡ Some a → Contains (flat_map named_by more) a
named_field more x v i a c e =
    contains-from_In (flat_map named_by more) a (In-flat named_by (Is x v) a more (In-from_contains more (Is x v) c) (inr (got_in (fields_of v) i a e)))

module _ (before more : List Tell) (xs : List Ident) (within : NamesWithin before xs) (apart : (x : Ident) → Contains (flat_map named_by more) x → Contains xs x → ⊥) where
  abbrev new : List Ident
  new = flat_map named_by more

  meets_itself : (x : Ident) → Contains new x → Meets before new x
  meets_itself x c = (x, c, itself)

  -- what is named anew is equal to nothing else that was told before
  new_alone : (x : Ident) → Meets before new x → Contains new x
  new_alone x m = elim (same_named before m.2) [
    | inl e ↦ subst (Contains new) (sym e) m.1
    | inr k ↦ absurd (apart m.0 m.1 (within m.0 (contains-from_In (flat_map named_by before) m.0 k.1)))
  ]

  new_told : (x : Ident) (v : Value) → Contains new x → Contains before (Is x v) ⊎ Contains more (Is x v) → Contains more (Is x v)
  new_told x v c (inl d) = absurd (apart x c (within x (named_of_is before x v d)))
  new_told x v c (inr d) = d

  new_covers : Covers before more new
  new_covers = record {
    equations = λ x y c. let n = named_of_equal more x y c in (meets_itself x n.0, meets_itself y n.1);
    values = λ x v c. meets_itself x (named_of_is more x v c);
    domains = λ x is c. meets_itself x (named_of_within more x is c);
    fields = λ x y a b v w i m n s c d l p q.
        inr (
          meets_itself a (named_field more x v i a (new_told x v (new_alone x m) (has-cases (Is x v) before more c)) p),
          meets_itself b (named_field more y w i b (new_told y w (new_alone y n) (has-cases (Is y w) before more d)) q),
        );
  }

  none_part : IsPart new xs []
  none_part = record {
    only = λ y c. elim (In-from_contains [] y c) [ ];
    all = λ t c d. absurd (apart t c d);
  }

  pub untouched : alike_on xs (before ++ more) before ≡ true
  untouched = touched_decide before more new xs [] (covering_touches before more new new_covers) within none_part

pub untouched_alike : UntouchedAlike
untouched_alike before more xs within apart = untouched before more xs within apart
