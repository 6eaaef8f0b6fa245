-- How few comparisons are enough, and whether a wait is for variables that others have too.
use Rattle.std.proofs.Common.{◌≡◌, ◌⊎◌, inl, inr, Bool, true, false, not, ◌&&◌, ◌||◌, cond, List, [], ◌∷◌, ◌++◌, refl, sym, ap, subst, ◌∙◌, Contains, Some}
use Rattle.std.specs.List.{list_all, list_any, find}
use Rattle.oz_base.specs.Lists.{holds_of}
use Rattle.oz_base.specs.Names.{ident_eq}
use Rattle.oz_base.specs.declared.names.Ident.{Ident}
use Rattle.oz_semantics.specs.Store.{Same, itself, reversed, joined, same, is_determined}
use Rattle.oz_semantics.specs.Settling.{is_among}
use Rattle.oz_semantics.specs.Spaces.{alike_on}
use Rattle.oz_semantics.specs.declared.value.Tell.{Tell}
use Rattle.oz_laws.proofs.SameLaws.{In, In-from_contains, contains-from_In, and-left, and-right, tests_same, ident_eq-true, ident_eq-refl}
use Rattle.oz_laws.specs.Touched.{Touches}
use Rattle.view_laws.specs.Touched.{NamesWithin, IsPart, alike_at, equal_to_first, FirstsDecide, TouchedHold}
use Rattle.view_laws.proofs.Members.{bool_eq, and_both, not_both, or_left, or_right, or_cases, each, by_each, some_of, by_some}
use Rattle.view_laws.proofs.ViewLaws.{same_home, same_by_meaning}
use Rattle.view_laws.proofs.TouchedLaws.{AreAlike, alike_meaning, meaning_alike, part_met, kept}

-- The first that passes

found_first : {A : Type 0} (p : A → Bool) (xs : List A) (x : A) → In x xs → p x ≡ true → (r : A) × (find p xs ≡ Some r) × In r xs × (p r ≡ true)
found_first p [] x h e = elim h [ ]
found_first {A = A} p (y ∷ ys) x h e = by (p y) refl (λ k. found_first p ys x (in_rest k h) e)
  where
    in_rest : p y ≡ false → In x (y ∷ ys) → In x ys
    in_rest k (inl q) = absurd (not_both _ (ap p q ∙ e) k)
    in_rest k (inr q) = q

    by : (b : Bool) → p y ≡ b → (p y ≡ false → (r : A) × (find p ys ≡ Some r) × In r ys × (p r ≡ true)) → (r : A) × (find p (y ∷ ys) ≡ Some r) × In r (y ∷ ys) × (p r ≡ true)
    by true k rest = (y, ap (λ (b : Bool). cond b (Some y) (find p ys)) k, inl refl, k)
    by false k rest = let r = rest k in (r.0, ap (λ (b : Bool). cond b (Some y) (find p ys)) k ∙ r.1, inr r.2, r.3)

-- One comparison for each

module _ (one other : List Tell) (ys : List Ident) (finer : (x y : Ident) → Same other x y → Same one x y) where
  abbrev by_first : Ident → Bool
  by_first y = alike_at one other y && equal_to_first ys one other y

  first_of_class : (y : Ident) → Contains ys y → (r : Ident) × (find (same one y) ys ≡ Some r) × In r ys × (same one y r ≡ true)
  first_of_class y c = found_first (same one y) ys y (In-from_contains ys y c) ((tests_same one y y).1 itself)

  to_first : AreAlike ys one other → (y : Ident) → Contains ys y → equal_to_first ys one other y ≡ true
  to_first a y c =
      let r = first_of_class y c in
      ap (holds_of (same other y)) r.1 ∙ sym (a.equal y r.0 c (contains-from_In ys r.0 r.2)) ∙ r.3

  -- variables of one class have one first
  one_first : (y z : Ident) → Same one y z → find (same one y) ys ≡ find (same one z) ys
  one_first y z s = ap (λ (test : Ident → Bool). find test ys) (λ i x. same_by_meaning one one y x z x (λ t. joined (reversed s) t) (λ t. joined s t) i)

  from_first : list_all by_first ys ≡ true → (y z : Ident) → Contains ys y → Contains ys z → Same one y z → Same other y z
  from_first e y z c d s =
      let r = first_of_class y c in
      let f : same other y r.0 ≡ true = sym (ap (holds_of (same other y)) r.1) ∙ and-right _ _ (each by_first ys e y c) in
      let g : same other z r.0 ≡ true = sym (ap (holds_of (same other z)) (sym (one_first y z s) ∙ r.1)) ∙ and-right _ _ (each by_first ys e z d) in
      joined ((tests_same other y r.0).0 f) (reversed ((tests_same other z r.0).0 g))

  pub firsts : alike_on ys one other ≡ list_all by_first ys
  firsts =
      bool_eq _ _
      (λ e. let a = alike_meaning ys one other e in by_each by_first ys (λ y c. and_both _ _ (and_both _ _ (a.values y c) (a.domains y c)) (to_first a y c)))
      (λ e. meaning_alike ys one other (record {
        values = λ y c. and-left _ _ (and-left _ _ (each by_first ys e y c));
        domains = λ y c. and-right _ _ (and-left _ _ (each by_first ys e y c));
        equal = λ y z c d. same_by_meaning one other y z y z (from_first e y z c d) (finer y z);
      }))

pub firsts_decide : FirstsDecide
firsts_decide one other ys finer = firsts one other ys finer

-- Waits

among : (xs : List Ident) (x : Ident) → Contains xs x → is_among xs x ≡ true
among xs x c = by_some (ident_eq x) xs x c (ident_eq-refl x)

among_in : (xs : List Ident) (x : Ident) → is_among xs x ≡ true → Contains xs x
among_in xs x e = let r = some_of (ident_eq x) xs e in subst (Contains xs) (sym (ident_eq-true x r.0 r.2)) r.1

module _ (before more : List Tell) (touched xs ys : List Ident) (h : Touches before more touched) (within : NamesWithin before xs) (part : IsPart touched xs ys) (x : Ident) where
  abbrev seen : Ident → Bool
  seen = same (before ++ more) x

  narrowed : list_any seen xs ≡ true → (is_among xs x || list_any seen ys) ≡ true
  narrowed e =
      let z = some_of seen xs e in
      let s : Same (before ++ more) x z.0 = (tests_same (before ++ more) x z.0).0 z.2 in
      elim (h.joins z.0 x (reversed s)) [
        | inl k ↦ or_left _ _ (among xs x (same_home before xs within k z.1))
        | inr m ↦ (let t = part_met before more touched h xs ys within part z.0 z.1 m in
            or_right (is_among xs x) _ (by_some seen ys t.0 t.1 ((tests_same (before ++ more) x t.0).1 (joined s (kept before more touched h t.2)))))
      ]

  widened : (is_among xs x ≡ true) ⊎ (list_any seen ys ≡ true) → list_any seen xs ≡ true
  widened (inl e) = by_some seen xs x (among_in xs x e) ((tests_same (before ++ more) x x).1 itself)
  widened (inr e) = let y = some_of seen ys e in by_some seen xs y.0 (part.only y.0 y.1) y.2

  pub held : list_any seen xs ≡ (is_among xs x || list_any seen ys)
  held = bool_eq _ _ narrowed (λ e. widened (or_cases _ _ e))

pub touched_hold : TouchedHold
touched_hold before more touched xs ys h within part x = ap (λ b. not (is_determined (before ++ more) x) && b) (held before more touched xs ys h within part x)
