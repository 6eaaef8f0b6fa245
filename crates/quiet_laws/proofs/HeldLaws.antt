-- By which ancestors' variables a space goes after a step above it that gives some out: those are unknown below.
use Rattle.std.proofs.Common.{◌≡◌, ◌⊎◌, inl, inr, ℕ, suc, zero, ◌+◌, ◌<◌, ◌≤◌, nat_lt, Bool, true, false, if◌then◌else◌, List, [], ◌∷◌, ◌++◌, map, flat_map, refl, sym, ap, ap₂, subst, ◌∙◌, arith, Contains, Option, Some, None}
use Rattle.std.specs.List.{list_any, range_with_len}
use Rattle.std.proofs.lemmas.Bool.{false≢true}
use Rattle.std.proofs.lemmas.Bool.Decides.{nat_tests}
use Rattle.oz_base.specs.Names.{ident_eq}
use Rattle.oz_base.specs.declared.names.Ident.{Ident}
use Rattle.oz_language.specs.declared.kernel.Statement.{Statement}
use Rattle.oz_semantics.specs.Names.{is_below, is_properly_below, parent_of, named}
use Rattle.oz_semantics.specs.Store.{View, Same, itself, same, common, told_value, told_domain, value_of, domain_by, domain_of, named_by}
use Rattle.oz_semantics.specs.Configurations.{is_of, layer_at, view, in_layer, variables_of, ancestor_variables}
use Rattle.oz_semantics.specs.Sights.{States}
use Rattle.oz_semantics.specs.Spaces.{waited_in, undecided_in, values_eq, domains_eq, alike_on}
use Rattle.oz_semantics.specs.declared.value.Value.{Value}
use Rattle.oz_semantics.specs.declared.value.Tell.{Tell}
use Rattle.oz_semantics.specs.declared.value.Tell.TheVariants.{Is, Within}
use Rattle.oz_semantics.specs.declared.configuration.Layer.{Layer}
use Rattle.oz_laws.proofs.SameLaws.{In, In-from_contains, contains-from_In, In-flat, In-flat_back, ident_eq-true, ident_eq-refl, tests_same}
use Rattle.oz_laws.proofs.StoreLaws.{told_sets, told_set_by}
use Rattle.view_laws.proofs.Members.{In-cases, bool_eq, decide, some_of, by_some}
use Rattle.view_laws.proofs.ListLaws.{map_in, in_map, in_edit, edit_in, edited_in, found_in}
use Rattle.view_laws.proofs.NameLaws.{below_trans, properly_trans}
use Rattle.view_laws.proofs.ViewLaws.{same_named, given_told}
use Rattle.view_laws.proofs.TouchedLaws.{AreAlike, alike_meaning, meaning_alike}
use Rattle.quiet_laws.specs.Unknown.{IsUnknown, AreUnknown}
use Rattle.quiet_laws.proofs.StateLaws.{Rests, parent_over}

nothing_in : {A : Type 0} (xs : List A) → ((x : A) → In x xs → ⊥) → xs ≡ []
nothing_in [] h = refl
nothing_in (x ∷ xs) h = absurd (h x (inl refl))

-- A variable that no tell names is equal to itself alone, and has no value and no domain

module _ (ts : List Tell) (x : Ident) (unnamed : Contains (flat_map named_by ts) x → ⊥) where
  itself_alone : (y : Ident) → Same ts x y → x ≡ y
  itself_alone y s = elim (same_named ts s) [ inl e ↦ e | inr k ↦ absurd (unnamed (contains-from_In (flat_map named_by ts) x k.0)) ]

  alone_itself : (y : Ident) → Same ts y x → y ≡ x
  alone_itself y s = elim (same_named ts s) [ inl e ↦ e | inr k ↦ absurd (unnamed (contains-from_In (flat_map named_by ts) x k.1)) ]

  equal_ones : (y z : Ident) → y ≡ z → same ts y z ≡ true
  equal_ones y z e = (tests_same ts y z).1 (subst (Same ts y) e itself)

  pub lone_left : (y : Ident) → same ts x y ≡ ident_eq x y
  lone_left y =
      bool_eq (same ts x y) (ident_eq x y) (λ e. subst (λ z. ident_eq x z ≡ true) (itself_alone y ((tests_same ts x y).0 e)) (ident_eq-refl x))
      (λ e. equal_ones x y (ident_eq-true x y e))

  pub lone_right : (y : Ident) → same ts y x ≡ ident_eq y x
  lone_right y =
      bool_eq (same ts y x) (ident_eq y x) (λ e. subst (λ z. ident_eq y z ≡ true) (alone_itself y ((tests_same ts y x).0 e)) (ident_eq-refl y))
      (λ e. equal_ones y x (ident_eq-true y x e))

  unnamed_tell : (t : Tell) → Contains ts t → In x (named_by t) → ⊥
  unnamed_tell t c h = unnamed (contains-from_In (flat_map named_by ts) x (In-flat named_by t x ts (In-from_contains ts t c) h))

  untold : told_value ts x ≡ None
  untold = by (told_value ts x) refl
    where
      by : (o : Option Value) → told_value ts x ≡ o → o ≡ None
      by None e = refl
      by (Some v) e =
          let g = given_told ts x v e in
          absurd (unnamed_tell (Is g.variable v) g.told (inl (alone_itself g.variable g.equal)))

  unbound : told_domain ts x ≡ None
  unbound =
      ap common (nothing_in (told_sets ts x) (λ s h.
      let g = told_set_by ts x s h in
      unnamed_tell (Within g.variable g.intervals) g.tells (inl (alone_itself g.variable g.equal))))

  pub valueless : value_of ts x ≡ None
  valueless = rw (untold, unbound) refl

  pub domainless : domain_of ts x ≡ None
  domainless = ap₂ domain_by untold unbound

-- Variables of layers

range_in : (a n j : ℕ) → a ≤ j → j < a + n → In j (range_with_len a n)
range_in a zero j l h = absurd (omega arith)
range_in a (suc n) j l h = elim (decide (nat_lt a j)) [
  | inl e ↦ inr (range_in (a + 1) n j (grind (arith, nat_tests, e)) (omega arith))
  | inr e ↦ inl (grind (arith, nat_tests, e))
]

in_range : (a n j : ℕ) → In j (range_with_len a n) → (a ≤ j) × (j < a + n)
in_range a zero j h = elim h [ ]
in_range a (suc n) j (inl e) = (omega arith, omega arith)
in_range a (suc n) j (inr h) = let r = in_range (a + 1) n j h in (omega (arith, r.0), omega (arith, r.1))

-- a layer that gave out so many variables more
pub record GivesMore (before after : Layer) (xs : List Ident) : Type 0 where
  pub kept : (x : Ident) → In x (variables_of before) → In x (variables_of after)
  pub only : (x : Ident) → In x (variables_of after) → In x (variables_of before) ⊎ In x xs

pub gives_more : (before after : Layer) (n : ℕ) → after.space ≡ before.space → after.next.variable ≡ before.next.variable + n
    → GivesMore before after (map (named before.space) (range_with_len before.next.variable n))
gives_more before after n e f =
    let same_ones : variables_of after ≡ map (named before.space) (range_with_len 0 (before.next.variable + n)) =
    ap (λ (s : List ℕ). map (named s) (range_with_len 0 after.next.variable)) e ∙ ap (λ (k : ℕ). map (named before.space) (range_with_len 0 k)) f in
    record {
      kept = λ x h.
          let r = in_map (named before.space) (range_with_len 0 before.next.variable) x h in
          let k = in_range 0 before.next.variable r.0 r.1 in
          subst (In x) (sym same_ones) (subst (λ y. In y (map (named before.space) (range_with_len 0 (before.next.variable + n)))) r.2
          (map_in (named before.space) (range_with_len 0 (before.next.variable + n)) r.0 (range_in 0 (before.next.variable + n) r.0 (omega arith) (omega (arith, k.1)))));
      only = λ x h.
          let r = in_map (named before.space) (range_with_len 0 (before.next.variable + n)) x (subst (In x) same_ones h) in
          let k = in_range 0 (before.next.variable + n) r.0 r.1 in
          elim (decide (nat_lt r.0 before.next.variable)) [
            | inl e ↦ inl (subst (λ y. In y (variables_of before)) r.2 (map_in (named before.space) (range_with_len 0 before.next.variable) r.0 (range_in 0 before.next.variable r.0 (omega arith) (grind (arith, nat_tests, e)))))
            | inr e ↦ (let least : before.next.variable ≤ r.0 = grind (arith, nat_tests, e) in
                let most : r.0 < before.next.variable + n = omega (arith, k.1) in
                inr (subst (λ y. In y (map (named before.space) (range_with_len before.next.variable n))) r.2
                (map_in (named before.space) (range_with_len before.next.variable n) r.0 (range_in before.next.variable n r.0 least most))))
          ];
    }

-- Those of the ancestors

chosen_in : (b : Bool) (x : Ident) (xs : List Ident) → b ≡ true → In x xs → In x (if b then xs else [])
chosen_in true x xs e h = h
chosen_in false x xs e h = absurd (false≢true e)

in_chosen : (b : Bool) (x : Ident) (xs : List Ident) → In x (if b then xs else []) → (b ≡ true) × In x xs
in_chosen true x xs h = (refl, h)
in_chosen false x xs h = elim h [ ]

module _ (statements : List Statement) (space : List ℕ) (old : List Layer) (before after : Layer) (xs : List Ident) (at : layer_at old space ≡ Some before) (own : before.space ≡ space) (same_space : after.space ≡ before.space)
    (gives : GivesMore before after xs) (unknown : AreUnknown statements old space xs) where
  abbrev new : List Layer
  new = in_layer space (λ l. after) old

  abbrev of_ancestor : List ℕ → Layer → List Ident
  of_ancestor u l = if is_properly_below l.space u then variables_of l else []

  ancestors_kept : (u : List ℕ) (x : Ident) → In x (ancestor_variables old u) → In x (ancestor_variables new u)
  ancestors_kept u x h =
      let l = In-flat_back (of_ancestor u) x old h in
      elim (edit_in (is_of space) (λ m. after) old l.0 l.1) [
        | inl k ↦ In-flat (of_ancestor u) l.0 x new k l.2
        | inr e ↦ (let same : l.0 ≡ before = cc in
            let c = in_chosen (is_properly_below l.0.space u) x (variables_of l.0) l.2 in
            In-flat (of_ancestor u) after x new (edited_in (is_of space) (λ m. after) old l.0 e)
            (chosen_in (is_properly_below after.space u) x (variables_of after) (ap (λ s. is_properly_below s u) (same_space ∙ ap (λ (m : Layer). m.space) (sym same)) ∙ c.0)
            (gives.kept x (subst (λ (m : Layer). In x (variables_of m)) same c.1))))
      ]

  ancestors_only : (u : List ℕ) (x : Ident) → In x (ancestor_variables new u) → In x (ancestor_variables old u) ⊎ (In x xs × (is_properly_below space u ≡ true))
  ancestors_only u x h =
      let l = In-flat_back (of_ancestor u) x new h in
      elim (in_edit (is_of space) (λ m. after) old l.0 l.1) [
        | inl k ↦ inl (In-flat (of_ancestor u) l.0 x old k l.2)
        | inr r ↦ (let same : r.0 ≡ before = (let there : layer_at old space ≡ Some r.0 = r.1 in cc) in
            let here = subst (λ (m : Layer). In x (of_ancestor u m)) r.2 l.2 in
            let c = in_chosen (is_properly_below after.space u) x (variables_of after) here in
            elim (gives.only x c.1) [
              | inl g ↦ inl (In-flat (of_ancestor u) before x old (subst (λ (m : Layer). In m old) same (found_in (is_of space) (λ (m : Layer). m) old r.0 r.1).0)
                  (chosen_in (is_properly_below before.space u) x (variables_of before) (ap (λ s. is_properly_below s u) (sym same_space) ∙ c.0) g))
              | inr g ↦ inr (g, ap (λ s. is_properly_below s u) (sym (same_space ∙ own)) ∙ c.0)
            ])
      ]

  -- what the parent of a space sees, the space sees
  seen_below : (u : List ℕ) (t : Tell) → In t (view old (parent_of u)) → In t (view old u)
  seen_below u t h =
      let l = In-flat_back (λ (m : Layer). if is_below m.space (parent_of u) then m.tells else []) t old h in
      let c = chosen (is_below l.0.space (parent_of u)) l.0.tells l.2 in
      In-flat (λ (m : Layer). if is_below m.space u then m.tells else []) l.0 t old l.1
      (choose (is_below l.0.space u) l.0.tells (below_trans l.0.space (parent_of u) u c.0 (parent_over u)) c.1)
    where
      chosen : (b : Bool) (ts : List Tell) → In t (if b then ts else []) → (b ≡ true) × In t ts
      chosen true ts i = (refl, i)
      chosen false ts i = elim i [ ]

      choose : (b : Bool) (ts : List Tell) → b ≡ true → In t ts → In t (if b then ts else [])
      choose true ts e i = i
      choose false ts e i = absurd (false≢true e)

  named_below : (u : List ℕ) (x : Ident) → Contains (flat_map named_by (view old (parent_of u))) x → Contains (flat_map named_by (view old u)) x
  named_below u x h =
      let t = In-flat_back named_by x (view old (parent_of u)) (In-from_contains (flat_map named_by (view old (parent_of u))) x h) in
      contains-from_In (flat_map named_by (view old u)) x (In-flat named_by t.0 x (view old u) (seen_below u t.0 t.1) t.2)

  module _ (l : Layer) (there : In l old) where
    abbrev mine : List Ident
    mine = ancestor_variables old l.space

    abbrev later : List Ident
    later = ancestor_variables new l.space

    abbrev v : View
    v = view old l.space

    abbrev p : View
    p = view old (parent_of l.space)

    -- a variable that is new to the layer
    unknown_here : (x : Ident) → In x xs → is_properly_below space l.space ≡ true → IsUnknown statements old l x
    unknown_here x h below = unknown l x (contains-from_In old l there) below (contains-from_In xs x h)

    held_same : (m : Layer) (states : States) (x : Ident) → In m old → is_below l.space m.space ≡ true → In x (waited_in statements old states m ++ undecided_in (view old m.space) m)
        → list_any (same (view old m.space) x) later ≡ list_any (same (view old m.space) x) mine
    held_same m states x i under waits = bool_eq (list_any (same (view old m.space) x) later) (list_any (same (view old m.space) x) mine) fewer more
      where
        fewer : list_any (same (view old m.space) x) later ≡ true → list_any (same (view old m.space) x) mine ≡ true
        fewer e =
            let y = some_of (same (view old m.space) x) later e in
            elim (ancestors_only l.space y.0 (In-from_contains later y.0 y.1)) [
              | inl k ↦ by_some (same (view old m.space) x) mine y.0 (contains-from_In mine y.0 k) y.2
              | inr g ↦ (let u = unknown m y.0 (contains-from_In old m i) (properly_trans space l.space m.space g.1 under) (contains-from_In xs y.0 g.0) in
                  let one : x ≡ y.0 = ident_eq-true x y.0 (sym (lone_right (view old m.space) y.0 u.unnamed x) ∙ y.2) in
                  elim (In-cases x (waited_in statements old states m) (undecided_in (view old m.space) m) waits) [
                    | inl w ↦ absurd (u.unwaited states (subst (Contains (waited_in statements old states m)) one (contains-from_In (waited_in statements old states m) x w)))
                    | inr w ↦ absurd (u.unposted (subst (Contains (undecided_in (view old m.space) m)) one (contains-from_In (undecided_in (view old m.space) m) x w)))
                  ])
            ]

        more : list_any (same (view old m.space) x) mine ≡ true → list_any (same (view old m.space) x) later ≡ true
        more e =
            let y = some_of (same (view old m.space) x) mine e in
            by_some (same (view old m.space) x) later y.0 (contains-from_In later y.0 (ancestors_kept l.space y.0 (In-from_contains mine y.0 y.1))) y.2

    abbrev Free : Ident → Type 0
    Free x = (Contains (flat_map named_by v) x → ⊥) × (Contains (flat_map named_by p) x → ⊥)

    old_or_free : (x : Ident) → Contains later x → Contains mine x ⊎ Free x
    old_or_free x h = elim (ancestors_only l.space x (In-from_contains later x h)) [
      | inl k ↦ inl (contains-from_In mine x k)
      | inr g ↦ (let u = unknown_here x g.0 g.1 in inr (u.unnamed, λ c. u.unnamed (named_below l.space x c)))
    ]

    free_values : (x : Ident) → Free x → values_eq (value_of v x) (value_of p x) ≡ true
    free_values x f = rw (valueless v x f.0, valueless p x f.1) refl

    free_domains : (x : Ident) → Free x → domains_eq (domain_of v x) (domain_of p x) ≡ true
    free_domains x f = rw (domainless v x f.0, domainless p x f.1) refl

    free_left : (x y : Ident) → Free x → same v x y ≡ same p x y
    free_left x y f = lone_left v x f.0 y ∙ sym (lone_left p x f.1 y)

    free_right : (x y : Ident) → Free y → same v x y ≡ same p x y
    free_right x y f = lone_right v y f.0 x ∙ sym (lone_right p y f.1 x)

    alike_later : AreAlike mine v p → AreAlike later v p
    alike_later a = record {
      values = λ x h. elim (old_or_free x h) [ inl k ↦ a.values x k | inr f ↦ free_values x f ];
      domains = λ x h. elim (old_or_free x h) [ inl k ↦ a.domains x k | inr f ↦ free_domains x f ];
      equal = λ x y h k. elim (old_or_free x h) [
        | inl m ↦ elim (old_or_free y k) [ inl n ↦ a.equal x y m n | inr f ↦ free_right x y f ]
        | inr f ↦ free_left x y f
      ];
    }

    alike_before : AreAlike later v p → AreAlike mine v p
    alike_before a =
        let keep : (x : Ident) → Contains mine x → Contains later x = λ x h. contains-from_In later x (ancestors_kept l.space x (In-from_contains mine x h)) in
        record { values = λ x h. a.values x (keep x h); domains = λ x h. a.domains x (keep x h); equal = λ x y h k. a.equal x y (keep x h) (keep y k) }

    alike_same : alike_on later v p ≡ alike_on mine v p
    alike_same =
        bool_eq (alike_on later v p) (alike_on mine v p) (λ e. meaning_alike mine v p (alike_before (alike_meaning later v p e)))
        (λ e. meaning_alike later v p (alike_later (alike_meaning mine v p e)))

    -- where it sees the same, and its parent
    pub layer_rests : view new l.space ≡ view old l.space → view new (parent_of l.space) ≡ view old (parent_of l.space) → Rests statements space old new l
    layer_rests seen above = record { seen = seen; above = above; held = held_same; alike = alike_same }
