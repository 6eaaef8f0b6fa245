-- What is told in two parts touches what each touches.
use Rattle.std.proofs.Common.{◌≡◌, ◌⊎◌, inl, inr, true, false, not, List, [], ◌++◌, sym, ap, subst, ◌∙◌, Contains, is_some}
use Rattle.std.proofs.lemmas.List.{append-nil, append_assoc}
use Rattle.oz_base.specs.Lists.{holds_of}
use Rattle.oz_base.specs.declared.names.Ident.{Ident}
use Rattle.oz_base.specs.declared.interval.Interval.{Interval}
use Rattle.oz_domains.specs.Domains.{is_within}
use Rattle.oz_semantics.specs.Store.{Same, reversed, joined, told_value, is_news}
use Rattle.oz_semantics.specs.declared.value.Value.{Value}
use Rattle.oz_semantics.specs.declared.value.Tell.{Tell}
use Rattle.oz_semantics.specs.declared.value.Tell.TheVariants.{Is, Within}
use Rattle.oz_laws.proofs.SameLaws.{In-from_contains}
use Rattle.oz_laws.specs.Touched.{Meets, Touches}
use Rattle.view_laws.specs.Touched.{TouchesNothing, TouchesTwice}
use Rattle.oz_laws.proofs.StoreLaws.{told_row}
use Rattle.view_laws.proofs.Members.{decide, has-left, has-right, has-cases}
use Rattle.view_laws.proofs.ViewLaws.{told_some, some_is, given_told}
use Rattle.view_laws.proofs.TouchedLaws.{meets, meets_some, untouched_domain}

pub touches_nothing : TouchesNothing
touches_nothing before = record {
  joins = λ x y s. inl (subst (λ ts. Same ts x y) (append-nil before) s);
  binds = λ x v c. elim (In-from_contains [] (Is x v) c) [ ];
  narrows = λ x is c. elim (In-from_contains [] (Within x is) c) [ ];
}

module _ (before more further : List Tell) (touched others : List Ident) (h : Touches before more touched) (k : Touches (before ++ more) further others) where
  meets_left : (x : Ident) → Meets before touched x → Meets before (touched ++ others) x
  meets_left x m = (m.0, has-left m.0 touched others m.1, m.2)

  -- what meets the later list over both parts meets both lists before
  meets_later : (x : Ident) → Meets (before ++ more) others x → Meets before (touched ++ others) x
  meets_later x m = elim (h.joins x m.0 m.2) [
    | inl s ↦ (m.0, has-right m.0 touched others m.1, s)
    | inr n ↦ meets_left x n
  ]

  both_join : (x y : Ident) → Same (before ++ more ++ further) x y → Same before x y ⊎ Meets before (touched ++ others) x
  both_join x y s = elim (k.joins x y s) [
    | inl t ↦ elim (h.joins x y t) [ inl u ↦ inl u | inr m ↦ inr (meets_left x m) ]
    | inr m ↦ inr (meets_later x m)
  ]

  -- a value that the first part gave
  first_bound : (x y : Ident) (w : Value) → Same (before ++ more) y x → Contains before (Is y w) ⊎ Contains more (Is y w) → (is_some (told_value before x) ≡ true) ⊎ Meets before touched x
  first_bound x y w s c = elim (h.joins x y (reversed s)) [
    | inl t ↦ elim c [
      | inl d ↦ inl (told_some before x y w t d)
      | inr d ↦ elim (h.binds y w d) [
        | inl e ↦ inl (ap is_some (told_row before x y t) ∙ e)
        | inr m ↦ inr (m.0, m.1, joined t m.2)
      ]
    ]
    | inr m ↦ inr m
  ]

  both_bind : (x : Ident) (v : Value) → Contains more (Is x v) ⊎ Contains further (Is x v) → (is_some (told_value before x) ≡ true) ⊎ Meets before (touched ++ others) x
  both_bind x v (inl c) = elim (h.binds x v c) [ inl e ↦ inl e | inr m ↦ inr (meets_left x m) ]
  both_bind x v (inr c) = elim (k.binds x v c) [
    | inl e ↦ (let w = some_is (told_value (before ++ more) x) e in
        let g = given_told (before ++ more) x w.0 w.1 in
        elim (first_bound x g.variable w.0 g.equal (has-cases (Is g.variable w.0) before more g.told)) [ inl f ↦ inl f | inr m ↦ inr (meets_left x m) ])
    | inr m ↦ inr (meets_later x m)
  ]

  both_narrow : (x : Ident) (is : List Interval) → Contains more (Within x is) ⊎ Contains further (Within x is) → (is_news before (Within x is) ≡ false) ⊎ Meets before (touched ++ others) x
  both_narrow x is (inl c) = elim (h.narrows x is c) [ inl e ↦ inl e | inr m ↦ inr (meets_left x m) ]
  both_narrow x is (inr c) = elim (k.narrows x is c) [
    | inl e ↦ elim (decide (meets before more touched h x)) [
      | inl m ↦ inr (meets_left x (meets_some before more touched h x m))
      | inr apart ↦ inl (ap (λ o. not (holds_of (is_within is) o)) (sym (untouched_domain before more touched h x apart)) ∙ e)
    ]
    | inr m ↦ inr (meets_later x m)
  ]

  pub both_touch : Touches before (more ++ further) (touched ++ others)
  both_touch = record {
    joins = λ x y s. both_join x y (subst (λ ts. Same ts x y) (sym (append_assoc before more further)) s);
    binds = λ x v c. both_bind x v (has-cases (Is x v) more further c);
    narrows = λ x is c. both_narrow x is (has-cases (Within x is) more further c);
  }

pub touches_twice : TouchesTwice
touches_twice before more further touched others h k = both_touch before more further touched others h k
