-- A stable sort of fields by their features puts them in the order of arities.
use Rattle.std.proofs.Common.{◌≡◌, ◌∙◌, ℕ, zero, suc, ◌<◌, ◌≤◌, ℤ, pos, Bool, true, false, true≢false, cond, not, ◌&&◌, List, [], ◌∷◌, length, get_or, filter, nat_cmp, is_lt, refl, sym, ap, subst, inl, inr, suc-le-suc, zero-le}
use Rattle.std.proofs.lemmas.Bool.{cond-true, cond-false, cases_Bool, and_parts, not-true}
use Rattle.std.proofs.lemmas.List.Sorted.{ranks_by, sorted_far}
use Rattle.std.specs.Cmp.{IsStrictWeakOrder, IsTotalOrder, nat_cmp_total, int_cmp_total, on_total, then_total}
use Rattle.std.specs.Cmp.Lexicographic.{slice_cmp, nat_list_cmp_total}
use Rattle.std.specs.Ordering.{int_cmp, on, then_cmp, ordering_then}
use Rattle.std.specs.declared.cmp.Ordering.{Ordering}
use Rattle.std.specs.declared.cmp.Ordering.TheVariants.{Less, Equal, Greater}
use Rattle.std.specs.List.Sorted.{ties, IsSortedBy, IsStableBy}
use Rattle.oz_language.specs.Arities.{feature_lt, placed_field, in_arity_order}
use Rattle.oz_language.specs.Constants.{literal_rank}
use Rattle.oz_language.specs.Kernels.{word_text}
use Rattle.oz_language.specs.declared.token.Literal.TheVariants as literal
use Rattle.oz_language.specs.declared.kernel.Constant.{Constant}
use Rattle.oz_language.specs.declared.kernel.Constant.TheVariants as constant

-- Features by their kinds, and those of a kind by their values

abbrev kind : Constant → ℕ
kind (constant.Int i) = 0
kind (constant.Literal l) = suc (literal_rank l)

abbrev integer : Constant → ℤ
integer (constant.Int i) = i
integer (constant.Literal l) = pos 0

abbrev text : List (List ℕ) → Constant → List ℕ
text words (constant.Literal (literal.Atom a)) = word_text words a
text words c = []

abbrev feature_cmp : List (List ℕ) → Constant → Constant → Ordering
feature_cmp words = then_cmp (on kind nat_cmp) (then_cmp (on integer int_cmp) (on (text words) (slice_cmp nat_cmp)))

feature_cmp_total : (words : List (List ℕ)) → IsTotalOrder (feature_cmp words)
feature_cmp_total words = then_total (on_total kind nat_cmp_total) (then_total (on_total integer int_cmp_total) (on_total (text words) nat_list_cmp_total))

then_equal : (r : Ordering) → is_lt r ≡ is_lt (ordering_then r Equal)
then_equal Less = refl
then_equal Equal = refl
then_equal Greater = refl

as_compared : (words : List (List ℕ)) (x y : Constant) → feature_lt words x y ≡ is_lt (feature_cmp words x y)
as_compared words (constant.Int i) (constant.Int j) = then_equal (int_cmp i j)
as_compared words (constant.Int i) (constant.Literal (literal.Atom b)) = refl
as_compared words (constant.Int i) (constant.Literal literal.False) = refl
as_compared words (constant.Int i) (constant.Literal literal.True) = refl
as_compared words (constant.Int i) (constant.Literal literal.Unit) = refl
as_compared words (constant.Literal (literal.Atom a)) (constant.Int j) = refl
as_compared words (constant.Literal literal.False) (constant.Int j) = refl
as_compared words (constant.Literal literal.True) (constant.Int j) = refl
as_compared words (constant.Literal literal.Unit) (constant.Int j) = refl
as_compared words (constant.Literal (literal.Atom a)) (constant.Literal (literal.Atom b)) = refl
as_compared words (constant.Literal (literal.Atom a)) (constant.Literal literal.False) = refl
as_compared words (constant.Literal (literal.Atom a)) (constant.Literal literal.True) = refl
as_compared words (constant.Literal (literal.Atom a)) (constant.Literal literal.Unit) = refl
as_compared words (constant.Literal literal.False) (constant.Literal (literal.Atom b)) = refl
as_compared words (constant.Literal literal.False) (constant.Literal literal.False) = refl
as_compared words (constant.Literal literal.False) (constant.Literal literal.True) = refl
as_compared words (constant.Literal literal.False) (constant.Literal literal.Unit) = refl
as_compared words (constant.Literal literal.True) (constant.Literal (literal.Atom b)) = refl
as_compared words (constant.Literal literal.True) (constant.Literal literal.False) = refl
as_compared words (constant.Literal literal.True) (constant.Literal literal.True) = refl
as_compared words (constant.Literal literal.True) (constant.Literal literal.Unit) = refl
as_compared words (constant.Literal literal.Unit) (constant.Literal (literal.Atom b)) = refl
as_compared words (constant.Literal literal.Unit) (constant.Literal literal.False) = refl
as_compared words (constant.Literal literal.Unit) (constant.Literal literal.True) = refl
as_compared words (constant.Literal literal.Unit) (constant.Literal literal.Unit) = refl

abbrev pub field_lt : {A : Type 0} → List (List ℕ) → Constant × A → Constant × A → Bool
field_lt words f g = feature_lt words f.0 g.0

pub field_order : {A : Type 0} (words : List (List ℕ)) → IsStrictWeakOrder (field_lt {A = A} words)
field_order {A} words =
    let o = ranks_by (feature_cmp_total words) (λ (f : Constant × A). f.0) in
    record {
      one_way = λ x y h. as_compared words y.0 x.0 ∙ o.one_way x y (sym (as_compared words x.0 y.0) ∙ h);
      chain = λ x y z a b. as_compared words x.0 z.0 ∙ o.chain x y z (sym (as_compared words x.0 y.0) ∙ a) (sym (as_compared words y.0 z.0) ∙ b);
    }

-- Two lists in order whose ties stand alike

kept : {X : Type 0} (p : X → Bool) (y : X) (ys : List X) → p y ≡ true → filter p (y ∷ ys) ≡ y ∷ filter p ys
kept p y ys h = cond-true _ _ _ h

dropped : {X : Type 0} (p : X → Bool) (y : X) (ys : List X) → p y ≡ false → filter p (y ∷ ys) ≡ filter p ys
dropped p y ys h = cond-false _ _ _ h

module _ {X : Type 0} {lt : X → X → Bool} (o : IsStrictWeakOrder lt) where
  itself : (x : X) → lt x x ≡ false
  itself x = elim (cases_Bool (lt x x)) [ inl below ↦ o.one_way x x below | inr level ↦ level ]

  ties_parts : (x y : X) → ties lt x y ≡ true → (lt x y ≡ false) × (lt y x ≡ false)
  ties_parts x y h =
      let parts = and_parts (not (lt x y)) (not (lt y x)) h in
      (not-true (lt x y) parts.0, not-true (lt y x) parts.1)

  ties_from : (x y : X) → lt x y ≡ false → lt y x ≡ false → ties lt x y ≡ true
  ties_from x y e f = λ i. not (e i) && not (f i)

  abbrev NoneBelow : X → List X → Type 0
  NoneBelow x [] = Unit {0}
  NoneBelow x (y ∷ ys) = (lt y x ≡ false) × NoneBelow x ys

  abbrev Rises : List X → Type 0
  Rises [] = Unit {0}
  Rises (y ∷ ys) = NoneBelow y ys × Rises ys

  none_below_lower : (x y : X) (zs : List X) → lt y x ≡ false → NoneBelow y zs → NoneBelow x zs
  none_below_lower x y [] h none = tt
  none_below_lower x y (z ∷ zs) h none = (o.chain z y x none.0 h, none_below_lower x y zs h none.1)

  none_below_at : (x : X) (ys : List X) → ((j : ℕ) → j < length ys → lt (get_or ys j x) x ≡ false) → NoneBelow x ys
  none_below_at x [] h = tt
  none_below_at x (y ∷ ys) h = (h zero (suc-le-suc zero-le), none_below_at x ys (λ j less. h (suc j) (suc-le-suc less)))

  rises_far : (ys : List X) → ((i j : ℕ) (d : X) → i ≤ j → j < length ys → lt (get_or ys j d) (get_or ys i d) ≡ false) → Rises ys
  rises_far [] h = tt
  rises_far (y ∷ ys) h = (
    none_below_at y ys (λ j less. h zero (suc j) y zero-le (suc-le-suc less)),
    rises_far ys (λ i j d le less. h (suc i) (suc j) d (suc-le-suc le) (suc-le-suc less)),
  )

  none_below_found : (x z : X) (ys : List X) (w : X) (ws : List X) → NoneBelow z ys → filter (ties lt x) ys ≡ w ∷ ws → lt x z ≡ false
  none_below_found x z [] w ws none e = cc
  none_below_found x z (y ∷ ys) w ws none e =
      elim (cases_Bool (ties lt x y)) [
        | inl with ↦ o.chain x y z (ties_parts x y with).0 none.0
        | inr without ↦ none_below_found x z ys w ws none.1 (sym (dropped (ties lt x) y ys without) ∙ e)
      ]

  same_from_ties : (ys zs : List X) → Rises ys → Rises zs → ((x : X) → filter (ties lt x) ys ≡ filter (ties lt x) zs) → ys ≡ zs
  same_from_ties [] [] left right same = refl
  same_from_ties [] (z ∷ zs) left right same =
      let clash = same z ∙ kept (ties lt z) z zs (ties_from z z (itself z) (itself z)) in cc
  same_from_ties (y ∷ ys) [] left right same =
      let clash = sym (same y) ∙ kept (ties lt y) y ys (ties_from y y (itself y) (itself y)) in cc
  same_from_ties (y ∷ ys) (z ∷ zs) left right same =
      let at_y = kept (ties lt y) y ys (ties_from y y (itself y) (itself y)) in
      let at_z = kept (ties lt z) z zs (ties_from z z (itself z) (itself z)) in
      let up = none_below_found y z (z ∷ zs) y _ (itself z, right.0) (sym (same y) ∙ at_y) in
      let down = none_below_found z y (y ∷ ys) z _ (itself y, left.0) (same z ∙ at_z) in
      let heads = sym at_y ∙ same y ∙ kept (ties lt y) z zs (ties_from y z up down) in
      let head : y ≡ z = cc in
      let tails : (x : X) → filter (ties lt x) ys ≡ filter (ties lt x) zs =
      λ x. elim (cases_Bool (ties lt x y)) [
        | inl with ↦
            let both = sym (kept (ties lt x) y ys with) ∙ same x ∙ kept (ties lt x) z zs (ap (ties lt x) (sym head) ∙ with) in cc
        | inr without ↦
            sym (dropped (ties lt x) y ys without) ∙ same x ∙ dropped (ties lt x) z zs (ap (ties lt x) (sym head) ∙ without)
      ] in
      ap (λ w. w ∷ ys) head ∙ ap (λ l. z ∷ l) (same_from_ties ys zs left.1 right.1 tails)

-- Fields that are put among others in order

abbrev Field : Type 0 → Type 0
Field A = Constant × A

module _ {A : Type 0} (words : List (List ℕ)) where
  placed_behind : (f g : Field A) (gs : List (Field A)) → field_lt words g f ≡ true → placed_field words f (g ∷ gs) ≡ g ∷ placed_field words f gs
  placed_behind f g gs h = cond-true _ _ _ h

  placed_before : (f g : Field A) (gs : List (Field A)) → field_lt words g f ≡ false → placed_field words f (g ∷ gs) ≡ f ∷ g ∷ gs
  placed_before f g gs h = cond-false _ _ _ h

  none_below_placed : (e f : Field A) (gs : List (Field A)) → field_lt words f e ≡ false → NoneBelow (field_order words) e gs → NoneBelow (field_order words) e (placed_field words f gs)
  none_below_placed e f [] h none = (h, tt)
  none_below_placed e f (g ∷ gs) h none =
      elim (cases_Bool (field_lt words g f)) [
        | inl past ↦ subst (NoneBelow (field_order words) e) (sym (placed_behind f g gs past)) (none.0, none_below_placed e f gs h none.1)
        | inr stays ↦ subst (NoneBelow (field_order words) e) (sym (placed_before f g gs stays)) (h, none)
      ]

  rises_placed : (f : Field A) (gs : List (Field A)) → Rises (field_order words) gs → Rises (field_order words) (placed_field words f gs)
  rises_placed f [] rises = (tt, tt)
  rises_placed f (g ∷ gs) rises =
      elim (cases_Bool (field_lt words g f)) [
        | inl past ↦
            subst (Rises (field_order words)) (sym (placed_behind f g gs past))
            (none_below_placed g f gs ((field_order words).one_way g f past) rises.0, rises_placed f gs rises.1)
        | inr stays ↦
            subst (Rises (field_order words)) (sym (placed_before f g gs stays))
            ((stays, none_below_lower (field_order words) f g gs stays rises.0), rises)
      ]

  rises_ordered : (fs : List (Field A)) → Rises (field_order words) (in_arity_order words fs)
  rises_ordered [] = tt
  rises_ordered (f ∷ fs) = rises_placed f (in_arity_order words fs) (rises_ordered fs)

  -- a field and one that comes before it do not both tie with a third
  not_both : (x f g : Field A) → field_lt words g f ≡ true → ties (field_lt words) x g ≡ true → ties (field_lt words) x f ≡ true → true ≡ false
  not_both x f g past at_g at_f =
      sym past ∙ (field_order words).chain g x f (ties_parts (field_order words) x g at_g).1 (ties_parts (field_order words) x f at_f).0

  ties_placed : (x f : Field A) (gs : List (Field A)) → filter (ties (field_lt words) x) (placed_field words f gs) ≡ filter (ties (field_lt words) x) (f ∷ gs)
  ties_placed x f [] = refl
  ties_placed x f (g ∷ gs) =
      let p = ties (field_lt words) x in
      elim (cases_Bool (field_lt words g f)) [
        | inr stays ↦ ap (filter p) (placed_before f g gs stays)
        | inl past ↦
            ap (filter p) (placed_behind f g gs past)
            ∙ elim (cases_Bool (p g)) [
              | inr without ↦
                  dropped p g (placed_field words f gs) without ∙ ties_placed x f gs
                  ∙ ap (λ l. cond (p f) (f ∷ l) l) (sym (dropped p g gs without))
              | inl with ↦
                  elim (cases_Bool (p f)) [
                    | inl both ↦ absurd (true≢false (not_both x f g past with both))
                    | inr only ↦
                        kept p g (placed_field words f gs) with ∙ ap (λ l. g ∷ l) (ties_placed x f gs ∙ dropped p f gs only)
                        ∙ sym (dropped p f (g ∷ gs) only ∙ kept p g gs with)
                  ]
            ]
      ]

  ties_ordered : (x : Field A) (fs : List (Field A)) → filter (ties (field_lt words) x) (in_arity_order words fs) ≡ filter (ties (field_lt words) x) fs
  ties_ordered x [] = refl
  ties_ordered x (f ∷ fs) =
      ties_placed x f (in_arity_order words fs) ∙ ap (λ l. cond (ties (field_lt words) x f) (f ∷ l) l) (ties_ordered x fs)

  pub sorted_stably : (fs gs : List (Field A)) → IsSortedBy (field_lt words) gs → IsStableBy (field_lt words) fs gs → gs ≡ in_arity_order words fs
  sorted_stably fs gs sorted stable =
      same_from_ties (field_order words) gs (in_arity_order words fs) (rises_far (field_order words) gs (sorted_far (field_lt words) (field_order words) gs sorted))
      (rises_ordered fs) (λ x. stable x ∙ sym (ties_ordered x fs))
