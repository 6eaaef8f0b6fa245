-- An equation of two variables, one of which has neither a value nor a domain.
use Rattle.std.proofs.Common.{◌≡◌, ◌⊎◌, inl, inr, Bool, true, false, not, if◌then◌else◌, List, [], ◌∷◌, ◌++◌, refl, sym, ap, ap₂, subst, ◌∙◌, Contains, Option, Some, None, is_some}
use Rattle.std.specs.List.{filter_map, cons_option}
use Rattle.std.proofs.lemmas.Bool.{false≢true}
use Rattle.std.proofs.lemmas.List.{append-nil}
use Rattle.std.proofs.lemmas.List.Elements.{Contains-push_cases, filter_map-append}
use Rattle.oz_base.specs.Lists.{given_or, first_given}
use Rattle.oz_base.specs.declared.interval.Interval.{Interval}
use Rattle.oz_base.specs.declared.names.Ident.{Ident}
use Rattle.oz_domains.specs.Domains.{IntSet, union}
use Rattle.oz_semantics.specs.Store.{View, Same, told, itself, reversed, joined, field, same, value_given, told_value, set_given, common, told_domain, domain_by, domain_of}
use Rattle.oz_semantics.specs.declared.configuration.Propagator.{Propagator}
use Rattle.oz_semantics.specs.declared.value.Value.{Value}
use Rattle.oz_semantics.specs.declared.value.Tell.{Tell}
use Rattle.oz_semantics.specs.declared.value.Tell.TheVariants.{Equal, Is, Within}
use Rattle.oz_laws.proofs.SameLaws.{In, contains-from_In, tests_same, and-left, and-right}
use Rattle.oz_laws.proofs.OpeningLaws.{same_left}
use Rattle.oz_laws.proofs.DomainLaws.{common-some}
use Rattle.oz_laws.proofs.StoreLaws.{domain_row, told_sets, set_told}
use Rattle.view_laws.proofs.Members.{decide}
use Rattle.view_laws.proofs.ViewLaws.{same_by_meaning, first_append, told_some}
use Rattle.watching.specs.Watching.{Tracks, Stays, is_free, joins_free, Foresees}
use Rattle.watching.specs.declared.watched.Watched.{Watched}
use Rattle.watching.specs.declared.watch.Foresight.TheVariants.{Settled}
use Rattle.watching.proofs.CandidateLaws.{due_alike}
use Rattle.watching.proofs.JoiningLaws.{same_later}
use Rattle.watching.proofs.KeyLaws.{keys_told}

pub first_alike : {A B : Type 0} (f g : A → Option B) (xs : List A) → ((x : A) → In x xs → f x ≡ g x) → first_given f xs ≡ first_given g xs
first_alike f g [] h = refl
first_alike f g (x ∷ xs) h = ap₂ given_or (h x (inl refl)) (first_alike f g xs (λ y k. h y (inr k)))

pub all_alike : {A B : Type 0} (f g : A → Option B) (xs : List A) → ((x : A) → In x xs → f x ≡ g x) → filter_map f xs ≡ filter_map g xs
all_alike f g [] h = refl
all_alike f g (x ∷ xs) h = ap₂ cons_option (h x (inl refl)) (all_alike f g xs (λ y k. h y (inr k)))

not_some : {A : Type 0} (o : Option A) → not (is_some o) ≡ true → o ≡ None
not_some None e = refl
not_some (Some y) e = absurd (false≢true e)

some_none : {A : Type 0} (o : Option A) → is_some o ≡ true → o ≡ None → ⊥
some_none o d e = false≢true (sym (ap is_some e) ∙ d)

-- it equates these two
abbrev Equates : Tell → Ident → Ident → Type 0
Equates t f o = (t ≡ Equal f o) ⊎ (t ≡ Equal o f)

module _ (old : View) (t : Tell) (f o : Ident) (equates : Equates t f o) (no_value : told_value old f ≡ None) (no_domain : told_domain old f ≡ None) where
  abbrev new : View
  new = old ++ t ∷ []

  -- the other in the place of one of the free class
  instead : Ident → Ident
  instead a = if same old a f then o else a

  of_free : (a : Ident) → same old a f ≡ true → instead a ≡ o
  unfolding instead
  of_free a e = ap (λ (b : Bool). if b then o else a) e

  of_other : (a : Ident) → same old a f ≡ false → instead a ≡ a
  unfolding instead
  of_other a e = ap (λ (b : Bool). if b then o else a) e

  o_itself : instead o ≡ o
  o_itself = elim (decide (same old o f)) [ inl e ↦ of_free o e | inr e ↦ of_other o e ]

  f_other : instead f ≡ o
  f_other = of_free f ((tests_same old f f).1 itself)

  both_instead : (a b : Ident) → Same old a b → Same old (instead a) (instead b)
  both_instead a b s = elim (decide (same old a f)) [
    | inl e ↦ subst (λ z. Same old z (instead b)) (sym (of_free a e)) (subst (Same old o) (sym (of_free b (sym (same_left old a b f s) ∙ e))) itself)
    | inr e ↦ subst (λ z. Same old z (instead b)) (sym (of_other a e)) (subst (Same old a) (sym (of_other b (sym (same_left old a b f s) ∙ e))) s)
  ]

  equal_instead : (a b : Ident) → t ≡ Equal a b → Same old (instead a) (instead b)
  equal_instead a b e = elim equates [
    | inl k ↦ (let left : f ≡ a = one f o a b (sym k ∙ e) in
        let right : o ≡ b = two f o a b (sym k ∙ e) in
        subst (λ z. Same old (instead z) (instead b)) left (subst (λ z. Same old (instead f) (instead z)) right (subst (λ z. Same old z (instead o)) (sym (f_other ∙ sym o_itself)) itself)))
    | inr k ↦ (let left : o ≡ a = one o f a b (sym k ∙ e) in
        let right : f ≡ b = two o f a b (sym k ∙ e) in
        subst (λ z. Same old (instead z) (instead b)) left (subst (λ z. Same old (instead o) (instead z)) right (subst (λ z. Same old z (instead f)) (sym (o_itself ∙ sym f_other)) itself)))
  ]
    where
      one : (a b x y : Ident) → Equal a b ≡ Equal x y → a ≡ x
      one a b x y e = cc

      two : (a b x y : Ident) → Equal a b ≡ Equal x y → b ≡ y
      two a b x y e = cc

  not_value : (x : Ident) (v : Value) → t ≡ Is x v → ⊥
  not_value x v e = elim equates [
    | inl k ↦ (let clash : Equal f o ≡ Is x v = sym k ∙ e in cc)
    | inr k ↦ (let clash : Equal o f ≡ Is x v = sym k ∙ e in cc)
  ]

  not_domain : (x : Ident) (is : List Interval) → t ≡ Within x is → ⊥
  not_domain x is e = elim equates [
    | inl k ↦ (let clash : Equal f o ≡ Within x is = sym k ∙ e in cc)
    | inr k ↦ (let clash : Equal o f ≡ Within x is = sym k ∙ e in cc)
  ]

  value_before : (x : Ident) (v : Value) → Contains new (Is x v) → Contains old (Is x v)
  value_before x v c = elim (Contains-push_cases old t (Is x v) c) [ inl h ↦ h | inr e ↦ absurd (not_value x v e) ]

  -- what has a value is not of the free class
  value_apart : (x : Ident) (v : Value) → Contains old (Is x v) → same old x f ≡ false
  value_apart x v c = elim (decide (same old x f)) [
    | inl e ↦ absurd (some_none (told_value old f) (told_some old f x v (reversed ((tests_same old x f).0 e)) c) no_value)
    | inr e ↦ e
  ]

  bound_apart : (x : Ident) (is : List Interval) → Contains old (Within x is) → same old x f ≡ false
  bound_apart x is c = elim (decide (same old x f)) [
    | inl e ↦ absurd (some_none (told_domain old f) (ap is_some (common-some (told_sets old f) (union is) (set_told old f x is ((tests_same old x f).0 e) c)).1) no_domain)
    | inr e ↦ e
  ]

  apart_back : (a b : Ident) → same old a f ≡ false → same old b f ≡ false → Same old (instead a) (instead b) → Same old a b
  apart_back a b e g s = subst (λ z. Same old z b) (of_other a e) (subst (Same old (instead a)) (of_other b g) s)

  back : {a b : Ident} → Same new a b → Same old (instead a) (instead b)
  back {a} {b} (told c) = elim (Contains-push_cases old t (Equal a b) c) [ inl h ↦ both_instead a b (told h) | inr e ↦ equal_instead a b e ]
  back itself = itself
  back (reversed s) = reversed (back s)
  back (joined s u) = joined (back s) (back u)
  back (field {x} {y} {a} {b} {v} {w} i s c d l p q) =
      let cx = value_before x v c in
      let cy = value_before y w d in
      both_instead a b (field i (apart_back x y (value_apart x v cx) (value_apart y w cy) (back s)) cx cy l p q)

  -- variables of other classes are equal where they were
  same_other : (a b : Ident) → same old a f ≡ false → same old b f ≡ false → Same new a b → Same old a b
  same_other a b e g s = apart_back a b e g (back s)

  test_other : (a b : Ident) → same old a f ≡ false → same old b f ≡ false → same new a b ≡ same old a b
  test_other a b e g = same_by_meaning new old a b a b (same_other a b e g) (same_later old (t ∷ []))

  module _ (z : Ident) (apart : same old z f ≡ false) where
    value_alike : (u : Tell) → Contains old u → value_given (λ y. same new y z) u ≡ value_given (λ y. same old y z) u
    value_alike (Equal a b) c = refl
    value_alike (Within y is) c = refl
    value_alike (Is y v) c = ap (λ (b : Bool). if b then Some v else None) (test_other y z (value_apart y v c) apart)

    set_alike : (u : Tell) → Contains old u → set_given (λ y. same new y z) u ≡ set_given (λ y. same old y z) u
    set_alike (Equal a b) c = refl
    set_alike (Is y v) c = refl
    set_alike (Within y is) c = ap (λ (b : Bool). if b then Some (union is) else None) (test_other y z (bound_apart y is c) apart)

    gives_none : (u : Tell) → Equates u f o → value_given (λ y. same new y z) u ≡ None
    gives_none (Equal a b) e = refl
    gives_none (Is y v) e = elim e [ inl k ↦ absurd (let clash : Is y v ≡ Equal f o = k in cc) | inr k ↦ absurd (let clash : Is y v ≡ Equal o f = k in cc) ]
    gives_none (Within y is) e = refl

    sets_none : (u : Tell) → Equates u f o → set_given (λ y. same new y z) u ≡ None
    sets_none (Equal a b) e = refl
    sets_none (Is y v) e = refl
    sets_none (Within y is) e = elim e [ inl k ↦ absurd (let clash : Within y is ≡ Equal f o = k in cc) | inr k ↦ absurd (let clash : Within y is ≡ Equal o f = k in cc) ]

    given_left : (p q : Option Value) → q ≡ None → given_or p (given_or q None) ≡ p
    given_left None q e = ap (λ r. given_or r None) e
    given_left (Some v) q e = refl

    told_alike : told_value new z ≡ told_value old z
    told_alike =
        first_append (value_given (λ y. same new y z)) old (t ∷ [])
        ∙ given_left (first_given (value_given (λ y. same new y z)) old) (value_given (λ y. same new y z) t) (gives_none t equates)
        ∙ first_alike (value_given (λ y. same new y z)) (value_given (λ y. same old y z)) old (λ u k. value_alike u (contains-from_In old u k))

    domain_alike : told_domain new z ≡ told_domain old z
    domain_alike = ap common (
        filter_map-append (set_given (λ y. same new y z)) old (t ∷ [])
        ∙ ap (λ (s : Option IntSet). filter_map (set_given (λ y. same new y z)) old ++ cons_option s []) (sets_none t equates)
        ∙ append-nil (filter_map (set_given (λ y. same new y z)) old)
        ∙ all_alike (set_given (λ y. same new y z)) (set_given (λ y. same old y z)) old (λ u k. set_alike u (contains-from_In old u k)))

    -- and keep their domains
    pub other_domain : domain_of new z ≡ domain_of old z
    other_domain = ap₂ domain_by told_alike domain_alike

  free_domain : domain_of old f ≡ None
  free_domain = ap₂ domain_by no_value no_domain

  -- what has a domain is of another class
  pub domain_apart : (z : Ident) → is_some (domain_of old z) ≡ true → same old z f ≡ false
  domain_apart z d = elim (decide (same old z f)) [
    | inl e ↦ absurd (some_none (domain_of old z) d (domain_row old z f ((tests_same old z f).0 e) ∙ free_domain))
    | inr e ↦ e
  ]

  pub free_stays : (ps : List Propagator) (w : Watched) → Tracks old ps w → Stays old (t ∷ []) ps w
  free_stays ps w k = (
    k,
    λ sound. record {
      due = λ i p at d. k.due i p at
          (sym (due_alike old new p (λ x m. (let c = k.keys.covers i p x at m in
          other_domain x (domain_apart x (ap is_some (domain_row old x c.key c.equal) ∙ k.keys.domains c.key c.list c.stands))))) ∙ d);
      ascends = k.ascends;
      keys = keys_told old (t ∷ []) ps w.keys sound k.keys;
      apart = λ a b is js ha hb s. k.apart a b is js ha hb (same_other a b (domain_apart a (k.keys.domains a is ha)) (domain_apart b (k.keys.domains b js hb)) s);
    },
  )

one_free : (old : View) (x : Ident) → is_free old x ≡ true → (told_value old x ≡ None) × (told_domain old x ≡ None)
one_free old x e = (not_some (told_value old x) (and-left _ _ e), not_some (told_domain old x) (and-right (not (is_some (told_value old x))) _ e))

-- one such equation makes nothing due
pub free_joined : (old tells : View) (ps : List Propagator) (w : Watched) → joins_free old tells ≡ true → Tracks old ps w → Foresees old tells ps w Settled
free_joined old [] ps w e t = absurd (false≢true e)
free_joined old (u ∷ v ∷ us) ps w e t = absurd (false≢true e)
free_joined old (Is x v ∷ []) ps w e t = absurd (false≢true e)
free_joined old (Within x is ∷ []) ps w e t = absurd (false≢true e)
free_joined old (Equal x y ∷ []) ps w e t = by (is_free old x) refl e
  where
    by : (b : Bool) → is_free old x ≡ b → (if b then true else is_free old y) ≡ true → Stays old (Equal x y ∷ []) ps w
    by true k q = let n = one_free old x k in free_stays old (Equal x y) x y (inl refl) n.0 n.1 ps w t
    by false k q = let n = one_free old y q in free_stays old (Equal x y) y x (inr refl) n.0 n.1 ps w t
