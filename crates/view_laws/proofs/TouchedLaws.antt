-- What the touched variables decide.
use Rattle.std.proofs.Common.{◌≡◌, inl, inr, Bool, true, false, if◌then◌else◌, List, ◌++◌, refl, sym, ap, ap₂, subst, ◌∙◌, Contains, Option, Some, None, is_some, option_map, option_and_then, ◌⊎◌, [], ◌∷◌}
use Rattle.std.specs.List.{list_all, list_any}
use Rattle.std.proofs.lemmas.Bool.{false≢true}
use Rattle.oz_base.specs.Lists.{given_or, first_given, iff}
use Rattle.oz_base.specs.declared.names.Ident.{Ident}
use Rattle.oz_base.specs.declared.interval.Interval.{Interval}
use Rattle.std.proofs.lemmas.Cmp.{int_eq_equiv}
use Rattle.oz_domains.specs.Domains.{IntSet, intervals_of, intervals_eq, only}
use Rattle.oz_semantics.specs.Values.{integer}
use Rattle.oz_semantics.specs.Store.{Same, reversed, joined, same, value_given, told_value, told_domain, value_of, domain_by, domain_of, is_news}
use Rattle.oz_semantics.specs.Spaces.{values_eq, domains_eq, alike_on}
use Rattle.oz_semantics.specs.declared.value.Value.{Value}
use Rattle.oz_semantics.specs.declared.value.Tell.{Tell}
use Rattle.oz_semantics.specs.declared.value.Tell.TheVariants.{Equal, Is, Within}
use Rattle.oz_laws.proofs.SameLaws.{In, contains-from_In, and-left, and-right, tests_same}
use Rattle.oz_laws.proofs.AlikeLaws.{alike-refl}
use Rattle.oz_laws.proofs.StoreLaws.{told_row, domain_row}
use Rattle.oz_laws.specs.Touched.{Meets, Touches}
use Rattle.view_laws.specs.Touched.{NamesWithin, IsPart, alike_at, TouchedDecide}
use Rattle.view_laws.proofs.Members.{bool_eq, decide, and_both, not_both, has-left, has-cases, each, by_each, some_of, by_some}
use Rattle.view_laws.proofs.ViewLaws.{same_kept, same_by_meaning, same_home, first_same, first_append, first_none, value_same, given_test}
use Rattle.view_laws.proofs.BoundLaws.{bounded_domain}

-- Being alike, by its meaning

pub record AreAlike (xs : List Ident) (one other : List Tell) : Type 0 where
  pub values : (x : Ident) → Contains xs x → values_eq (value_of one x) (value_of other x) ≡ true
  pub domains : (x : Ident) → Contains xs x → domains_eq (domain_of one x) (domain_of other x) ≡ true
  pub equal : (x y : Ident) → Contains xs x → Contains xs y → same one x y ≡ same other x y

iff_equal : (a b : Bool) → iff a b ≡ true → a ≡ b
iff_equal true true e = refl
iff_equal true false e = sym e
iff_equal false true e = e
iff_equal false false e = refl

equal_iff : (a b : Bool) → a ≡ b → iff a b ≡ true
equal_iff true true e = refl
equal_iff true false e = sym e
equal_iff false true e = e
equal_iff false false e = refl

abbrev same_at : List Ident → List Tell → List Tell → Ident → Bool
same_at xs one other x = list_all (λ y. iff (same one x y) (same other x y)) xs

pub alike_meaning : (xs : List Ident) (one other : List Tell) → alike_on xs one other ≡ true → AreAlike xs one other
alike_meaning xs one other e = record {
  values = λ x h. and-left _ _ (each (alike_at one other) xs (and-left _ _ e) x h);
  domains = λ x h. and-right _ _ (each (alike_at one other) xs (and-left _ _ e) x h);
  equal = λ x y h k. iff_equal _ _ (each (λ z. iff (same one x z) (same other x z)) xs (each (same_at xs one other) xs (and-right _ _ e) x h) y k);
}

pub meaning_alike : (xs : List Ident) (one other : List Tell) → AreAlike xs one other → alike_on xs one other ≡ true
meaning_alike xs one other a =
    and_both _ _ (by_each (alike_at one other) xs (λ x h. and_both _ _ (a.values x h) (a.domains x h)))
    (by_each (same_at xs one other) xs (λ x h. by_each (λ z. iff (same one x z) (same other x z)) xs (λ y k. equal_iff _ _ (a.equal x y h k))))

values_same : (o p : Option Value) → o ≡ p → values_eq o p ≡ true
values_same o p e = subst (λ q. values_eq o q ≡ true) e (itself_alike o)
  where
    itself_alike : (o : Option Value) → values_eq o o ≡ true
    itself_alike None = refl
    itself_alike (Some v) = alike-refl v

intervals_themselves : (is : List Interval) → intervals_eq is is ≡ true
intervals_themselves [] = refl
intervals_themselves (i ∷ is) = and_both _ _ (and_both _ _ (int_eq_equiv.refl i.low) (int_eq_equiv.refl i.high)) (intervals_themselves is)

domains_same : (o p : Option IntSet) → o ≡ p → domains_eq o p ≡ true
domains_same o p e = subst (λ q. domains_eq o q ≡ true) e (itself_alike o)
  where
    itself_alike : (o : Option IntSet) → domains_eq o o ≡ true
    itself_alike None = refl
    itself_alike (Some s) = intervals_themselves (intervals_of s)

-- the value of a class, by what it was told
abbrev value_by : Option Value → Option IntSet → Option Value
value_by o d = given_or o (option_map integer (option_and_then only d))

-- One list of what is touched

module _ (before more : List Tell) (touched : List Ident) (h : Touches before more touched) where
  abbrev after : List Tell
  after = before ++ more

  pub kept : {x y : Ident} → Same before x y → Same after x y
  kept s = same_kept before after (λ t c. has-left t before more c) s

  -- whether the class of a variable is touched
  pub meets : Ident → Bool
  meets x = list_any (same before x) touched

  pub meets_some : (x : Ident) → meets x ≡ true → Meets before touched x
  unfolding meets
  meets_some x e = let r = some_of (same before x) touched e in (r.0, r.1, (tests_same before x r.0).0 r.2)

  pub some_meets : (x : Ident) → Meets before touched x → meets x ≡ true
  unfolding meets
  some_meets x m = by_some (same before x) touched m.0 m.1 ((tests_same before x m.0).1 m.2)

  -- a class that is not touched is as it was
  pub untouched_same : (x : Ident) → meets x ≡ false → (y : Ident) → same after y x ≡ same before y x
  untouched_same x e y = same_by_meaning after before y x y x (λ s. elim (h.joins x y (reversed s)) [
    | inl k ↦ reversed k
    | inr m ↦ absurd (not_both _ (some_meets x m) e)
  ]) kept

  none_given : (x : Ident) → meets x ≡ false → told_value before x ≡ None → (t : Tell) → In t more → value_given (λ y. same after y x) t ≡ None
  none_given x e none (Equal a b) c = refl
  none_given x e none (Within a is) c = refl
  none_given x e none (Is y v) c = elim (decide (same after y x)) [
    | inl k ↦ (let s : Same before y x = (tests_same before y x).0 (sym (untouched_same x e y) ∙ k) in
        elim (h.binds y v (contains-from_In more (Is y v) c)) [
          | inl d ↦ absurd (false≢true (sym (ap is_some (told_row before y x s ∙ none)) ∙ d))
          | inr m ↦ absurd (not_both _ (some_meets x (m.0, m.1, joined (reversed s) m.2)) e)
        ])
    | inr k ↦ ap (λ (b : Bool). if b then Some v else None) k
  ]

  pub untouched_told : (x : Ident) → meets x ≡ false → told_value after x ≡ told_value before x
  untouched_told x e =
      first_append (value_given (λ y. same after y x)) before more
      ∙ ap (λ o. given_or o (first_given (value_given (λ y. same after y x)) more))
      (first_same (value_given (λ y. same after y x)) (value_given (λ y. same before y x)) (given_test (λ y. same after y x) (λ y. same before y x) (untouched_same x e)) before)
      ∙ rest (told_value before x) refl
    where
      rest : (o : Option Value) → told_value before x ≡ o → given_or o (first_given (value_given (λ y. same after y x)) more) ≡ o
      rest None none = first_none (value_given (λ y. same after y x)) more (none_given x e none)
      rest (Some v) some = refl

  -- a domain that is told of such a class is no news to it
  old_bounds : (x : Ident) → meets x ≡ false → (y : Ident) (js : List Interval) → Same before y x → Contains after (Within y js) → Contains before (Within y js) ⊎ (is_news before (Within y js) ≡ false)
  old_bounds x e y js s c = elim (has-cases (Within y js) before more c) [
    | inl k ↦ inl k
    | inr k ↦ elim (h.narrows y js k) [
      | inl n ↦ inr n
      | inr m ↦ absurd (not_both _ (some_meets x (m.0, m.1, joined (reversed s) m.2)) e)
    ]
  ]

  untouched_bound : (x : Ident) → meets x ≡ false → told_value before x ≡ None → told_domain after x ≡ told_domain before x
  untouched_bound x e none =
      bounded_domain before after x (λ t c. has-left t before more c) (λ y s. (tests_same before y x).0 (sym (untouched_same x e y) ∙ (tests_same after y x).1 s)) none (old_bounds x e)

  by_told : (x : Ident) → meets x ≡ false → (o : Option Value) → told_value before x ≡ o → {B : Type 0} → (f : Option Value → Option IntSet → B)
      → ((v : Value) (d e : Option IntSet) → f (Some v) d ≡ f (Some v) e) → f o (told_domain after x) ≡ f o (told_domain before x)
  by_told x e None none f g = ap (f None) (untouched_bound x e none)
  by_told x e (Some v) some f g = g v (told_domain after x) (told_domain before x)

  pub untouched_value : (x : Ident) → meets x ≡ false → value_of after x ≡ value_of before x
  untouched_value x e =
      ap (λ o. value_by o (told_domain after x)) (untouched_told x e) ∙ by_told x e (told_value before x) refl value_by (λ v c d. refl)

  pub untouched_domain : (x : Ident) → meets x ≡ false → domain_of after x ≡ domain_of before x
  untouched_domain x e =
      ap (λ o. domain_by o (told_domain after x)) (untouched_told x e) ∙ by_told x e (told_value before x) refl domain_by (λ v c d. refl)

  module _ (xs ys : List Ident) (within : NamesWithin before xs) (part : IsPart touched xs ys) where
    -- an ancestors' variable whose class is touched is equal to one of them that is
    pub part_met : (x : Ident) → Contains xs x → Meets before touched x → (t : Ident) × Contains ys t × Same before x t
    part_met x c m = (m.0, part.all m.0 m.1 (same_home before xs within m.2 c), m.2)

    same_back : AreAlike ys after before → (x y : Ident) → Contains xs x → Contains xs y → Same after x y → Same before x y
    same_back a x y c d s = elim (h.joins x y s) [
      | inl k ↦ k
      | inr m ↦ elim (h.joins y x (reversed s)) [
        | inl k ↦ reversed k
        | inr n ↦ (let t = part_met x c m in
            let u = part_met y d n in
            let both : Same after t.0 u.0 = joined (reversed (kept t.2)) (joined s (kept u.2)) in
            let was : Same before t.0 u.0 = (tests_same before t.0 u.0).0 (sym (a.equal t.0 u.0 t.1 u.1) ∙ (tests_same after t.0 u.0).1 both) in
            joined t.2 (joined was (reversed u.2)))
      ]
    ]

    values_back : AreAlike ys after before → (x : Ident) → Contains xs x → values_eq (value_of after x) (value_of before x) ≡ true
    values_back a x c = elim (decide (meets x)) [
      | inl e ↦ (let t = part_met x c (meets_some x e) in
          ap₂ values_eq (value_same after x t.0 (kept t.2)) (value_same before x t.0 t.2) ∙ a.values t.0 t.1)
      | inr e ↦ values_same _ _ (untouched_value x e)
    ]

    domains_back : AreAlike ys after before → (x : Ident) → Contains xs x → domains_eq (domain_of after x) (domain_of before x) ≡ true
    domains_back a x c = elim (decide (meets x)) [
      | inl e ↦ (let t = part_met x c (meets_some x e) in
          ap₂ domains_eq (domain_row after x t.0 (kept t.2)) (domain_row before x t.0 t.2) ∙ a.domains t.0 t.1)
      | inr e ↦ domains_same _ _ (untouched_domain x e)
    ]

    pub alike_back : AreAlike ys after before → AreAlike xs after before
    alike_back a = record {
      values = values_back a;
      domains = domains_back a;
      equal = λ x y c d. same_by_meaning after before x y x y (same_back a x y c d) kept;
    }

    pub alike_part : AreAlike xs after before → AreAlike ys after before
    alike_part a = record { values = λ x c. a.values x (part.only x c); domains = λ x c. a.domains x (part.only x c); equal = λ x y c d. a.equal x y (part.only x c) (part.only y d) }

pub touched_decide : TouchedDecide
touched_decide before more touched xs ys h within part =
    bool_eq _ _ (λ e. meaning_alike ys (before ++ more) before (alike_part before more touched h xs ys within part (alike_meaning xs (before ++ more) before e)))
    (λ e. meaning_alike xs (before ++ more) before (alike_back before more touched h xs ys within part (alike_meaning ys (before ++ more) before e)))
