-- Where more is told, and no domain of a class is news to it, the class keeps its domain.
use Rattle.std.proofs.Common.{◌≡◌, ◌⊎◌, inl, inr, not, Bool, true, false, List, [], ◌∷◌, refl, sym, ap, subst, ◌∙◌, Contains, Option, Some, None, ℤ}
use Rattle.std.proofs.lemmas.Bool.{false≢true}
use Rattle.oz_base.specs.Lists.{holds_of}
use Rattle.oz_base.specs.declared.names.Ident.{Ident}
use Rattle.oz_base.specs.declared.interval.Interval.{Interval}
use Rattle.oz_domains.specs.Domains.{IntSet, Has, union, is_within}
use Rattle.oz_semantics.specs.Store.{Same, reversed, common, told_value, told_domain, domain_by, domain_of, is_news}
use Rattle.oz_semantics.specs.declared.value.Tell.{Tell}
use Rattle.oz_semantics.specs.declared.value.Tell.TheVariants.{Within}
use Rattle.fd_domain.proofs.SetLaws.{same_members}
use Rattle.oz_laws.proofs.SameLaws.{In}
use Rattle.oz_laws.proofs.DomainLaws.{AllHave, common-has, has-common, among-is, within-among}
use Rattle.oz_laws.proofs.StoreLaws.{domain_row, told_sets, set_told, told_set_by}
use Rattle.view_laws.specs.Readies.{Keeps}
use Rattle.view_laws.proofs.ViewLaws.{same_kept}
use Rattle.view_laws.proofs.KnownLaws.{head_in}

some_members : (ss : List IntSet) (s : IntSet) → In s ss → (t : IntSet) × (common ss ≡ Some t)
some_members [] s h = elim h [ ]
some_members (u ∷ us) s h = (_, refl)

-- lists of sets with the same integers in common
common_same : (ss bs : List IntSet) → ((t : IntSet) → In t ss → In t bs) → ((n : ℤ) → AllHave ss n → AllHave bs n) → ((t : IntSet) → In t bs → (u : IntSet) × In u ss) → common bs ≡ common ss
common_same [] [] sub all some = refl
common_same [] (b ∷ bs) sub all some = let u = some b (inl refl) in elim u.1 [ ]
common_same (a ∷ ss) bs sub all some =
    let t = some_members bs a (sub a (inl refl)) in
    let s = some_members (a ∷ ss) a (inl refl) in
    let same : t.0 ≡ s.0 = same_members t.0 s.0
    (λ n h. has-common (a ∷ ss) s.0 n s.1 (λ u k. common-has bs t.0 n t.1 h u (sub u k)))
    (λ n h. has-common bs t.0 n t.1 (all n (common-has (a ∷ ss) s.0 n s.1 h))) in
    t.1 ∙ ap (λ (u : IntSet). Some u) same ∙ sym s.1

-- what is not news to a class is a set that has all its integers
old_news : (is : List Interval) (o : Option IntSet) → not (holds_of (is_within is) o) ≡ false → (s : IntSet) × (o ≡ Some s) × (is_within is s ≡ true)
old_news is None e = absurd (false≢true (sym e))
old_news is (Some s) e = (s, refl, not_false (is_within is s) e)
  where
    not_false : (b : Bool) → not b ≡ false → b ≡ true
    not_false true e = refl
    not_false false e = sym e

module _ (before after : List Tell) (x : Ident) (keeps : Keeps before after) (alone : (y : Ident) → Same after y x → Same before y x) (untold : told_value before x ≡ None)
    (bounded : (y : Ident) (js : List Interval) → Same before y x → Contains after (Within y js) → Contains before (Within y js) ⊎ (is_news before (Within y js) ≡ false)) where
  -- what the class was told already holds an integer of its domain
  old_domain : (y : Ident) (js : List Interval) → Same before y x → is_news before (Within y js) ≡ false → (s : IntSet) × (told_domain before x ≡ Some s) × (is_within js s ≡ true)
  old_domain y js s e =
      let o = old_news js (domain_of before y) e in
      (o.0, sym (ap (λ v. domain_by v (told_domain before x)) untold) ∙ domain_row before x y (reversed s) ∙ o.1, o.2)

  kept_sets : (t : IntSet) → In t (told_sets before x) → In t (told_sets after x)
  kept_sets t h =
      let b = told_set_by before x t h in
      subst (λ s. In s (told_sets after x)) b.is_set (set_told after x b.variable b.intervals (same_kept before after keeps b.equal) (keeps (Within b.variable b.intervals) b.tells))

  later_set : (y : Ident) (js : List Interval) → Same before y x → Contains before (Within y js) ⊎ (is_news before (Within y js) ≡ false) → (n : ℤ) → AllHave (told_sets before x) n → Has (union js) n
  later_set y js s (inl c) n h = h (union js) (set_told before x y js s c)
  later_set y js s (inr e) n h =
      let o = old_domain y js s e in
      sym (among-is js n) ∙ within-among js o.0 o.2 n (has-common (told_sets before x) o.0 n o.1 h)

  later_sets : (n : ℤ) → AllHave (told_sets before x) n → AllHave (told_sets after x) n
  later_sets n h t k =
      let b = told_set_by after x t k in
      let s = alone b.variable b.equal in
      subst (λ z. Has z n) b.is_set (later_set b.variable b.intervals s (bounded b.variable b.intervals s b.tells) n h)

  was_some : (y : Ident) (js : List Interval) → Same before y x → Contains before (Within y js) ⊎ (is_news before (Within y js) ≡ false) → (u : IntSet) × In u (told_sets before x)
  was_some y js s (inl c) = (union js, set_told before x y js s c)
  was_some y js s (inr e) = let o = old_domain y js s e in head_in (told_sets before x) o.0 o.1

  were_some : (t : IntSet) → In t (told_sets after x) → (u : IntSet) × In u (told_sets before x)
  were_some t k =
      let b = told_set_by after x t k in
      let s = alone b.variable b.equal in
      was_some b.variable b.intervals s (bounded b.variable b.intervals s b.tells)

  pub bounded_domain : told_domain after x ≡ told_domain before x
  bounded_domain = common_same (told_sets before x) (told_sets after x) kept_sets later_sets were_some
