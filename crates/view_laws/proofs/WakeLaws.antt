-- That what was not touched has not moved.
use Rattle.std.proofs.Common.{◌≡◌, ◌⊎◌, inl, inr, false, List, ◌++◌, sym, ap, ap₂, ◌∙◌, Contains, None, is_some, option_map, option_and_then}
use Rattle.std.proofs.lemmas.Bool.{false≢true}
use Rattle.oz_base.specs.Lists.{given_or}
use Rattle.oz_base.specs.declared.names.Ident.{Ident}
use Rattle.oz_semantics.specs.Store.{Same, reversed, joined, told_value, told_domain, domain_by, is_determined, is_news}
use Rattle.oz_base.specs.declared.interval.Interval.{Interval}
use Rattle.oz_domains.specs.Domains.{only}
use Rattle.oz_semantics.specs.Values.{integer}
use Rattle.oz_semantics.specs.declared.value.Value.{Value}
use Rattle.oz_semantics.specs.declared.value.Tell.{Tell}
use Rattle.oz_semantics.specs.declared.value.Tell.TheVariants.{Is, Within}
use Rattle.oz_laws.specs.Touched.{Meets, Touches}
use Rattle.view_laws.specs.Sights.{SeesBesides}
use Rattle.view_laws.specs.Readies.{IsUnmoved, UntouchedUnmoved}
use Rattle.view_laws.proofs.Members.{decide, not_both, has-left, has-right}
use Rattle.oz_laws.proofs.StoreLaws.{told_row}
use Rattle.view_laws.proofs.ViewLaws.{same_kept, has_value, some_is, none_is, free_told, given_told}
use Rattle.view_laws.proofs.BoundLaws.{bounded_domain}

module _ (before more after : List Tell) (touched : List Ident) (x : Ident) (sees : SeesBesides before after more) (h : Touches before more touched) (apart : Meets before touched x → ⊥)
    (free : is_determined before x ≡ false) where
  both_tell : (t : Tell) → Contains after t → Contains (before ++ more) t
  both_tell t c = elim (sees.only t c) [ inl k ↦ has-left t before more k | inr k ↦ has-right t before more k ]

  alone : (y : Ident) → Same after x y → Same before x y
  alone y s = elim (h.joins x y (same_kept after (before ++ more) both_tell s)) [ inl k ↦ k | inr m ↦ absurd (apart m) ]

  was_alone : (y : Ident) → Same after y x → Same before y x
  was_alone y s = reversed (alone y (reversed s))

  untold : told_value before x ≡ None
  untold = free_told before x free

  not_given : (y : Ident) (v : Value) → Same before x y → Contains before (Is y v) ⊎ Contains more (Is y v) → ⊥
  not_given y v s (inl c) = not_both _ (has_value before x y v s c) free
  not_given y v s (inr c) = elim (h.binds y v c) [
    | inl d ↦ false≢true (sym (ap is_some (sym (told_row before x y s) ∙ untold)) ∙ d)
    | inr m ↦ apart (m.0, m.1, joined s m.2)
  ]

  still_untold : told_value after x ≡ None
  still_untold = elim (decide (is_some (told_value after x))) [
    | inl e ↦ (let v = some_is (told_value after x) e in
        let g = given_told after x v.0 v.1 in
        absurd (not_given g.variable v.0 (alone g.variable (reversed g.equal)) (sees.only (Is g.variable v.0) g.told)))
    | inr e ↦ none_is (told_value after x) e
  ]

  old_bounds : (y : Ident) (js : List Interval) → Same before y x → Contains after (Within y js) → Contains before (Within y js) ⊎ (is_news before (Within y js) ≡ false)
  old_bounds y js s c = elim (sees.only (Within y js) c) [
    | inl k ↦ inl k
    | inr k ↦ elim (h.narrows y js k) [ inl n ↦ inr n | inr m ↦ absurd (apart (m.0, m.1, joined (reversed s) m.2)) ]
  ]

  same_bound : told_domain after x ≡ told_domain before x
  same_bound = bounded_domain before after x sees.kept was_alone untold old_bounds

  is_free : is_determined after x ≡ false
  is_free = ap₂ (λ o d. is_some (given_or o (option_map integer (option_and_then only d)))) (still_untold ∙ sym untold) same_bound ∙ free

  pub unmoved : IsUnmoved before after x
  unmoved = record { free = is_free; alone = alone; kept = ap₂ domain_by (still_untold ∙ sym untold) same_bound }

pub untouched_unmoved : UntouchedUnmoved
untouched_unmoved before more after touched x sees h apart free = unmoved before more after touched x sees h apart free
