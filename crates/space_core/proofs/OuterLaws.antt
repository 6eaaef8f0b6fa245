-- The variables of the spaces above a space, and what the variables that are named decide.
use Rattle.std.proofs.Common.{◌≡◌, inl, inr, ℕ, ◌<◌, ◌≤◌, ◌+◌, zero, suc, nat_lt, Bool, true, false, not, ◌&&◌, ◌||◌, if◌then◌else◌, List, [], ◌++◌, filter, flat_map, refl, sym, ap, ap₂, subst, arith, Contains, Option, Some, None, ◌∷◌, option_map, option_and_then}
use Rattle.std.specs.List.{list_any, range_with_len}
use Rattle.std.proofs.lemmas.Bool.Decides.{nat_tests}
use Rattle.oz_base.specs.Lists.{given_or}
use Rattle.oz_base.specs.declared.names.Ident.{Ident}
use Rattle.oz_domains.specs.Domains.{IntSet, only}
use Rattle.oz_semantics.specs.Names.{is_below, is_properly_below, is_top, parent_of, named}
use Rattle.oz_semantics.specs.Values.{integer}
use Rattle.oz_semantics.specs.Store.{Same, itself, same, told_value, common, value_of, domain_by, domain_of, is_determined, named_by}
use Rattle.oz_semantics.specs.Configurations.{view, variables_of, ancestor_variables}
use Rattle.oz_semantics.specs.Settling.{is_among}
use Rattle.oz_semantics.specs.Spaces.{values_eq, domains_eq, alike_on, is_held}
use Rattle.oz_semantics.specs.declared.value.Value.{Value}
use Rattle.oz_semantics.specs.declared.value.Tell.{Tell}
use Rattle.oz_semantics.specs.declared.value.Tell.TheVariants.{Is, Within}
use Rattle.oz_semantics.specs.declared.configuration.Layer.{Layer}
use Rattle.oz_laws.proofs.SameLaws.{In, In-from_contains, contains-from_In, In-flat, In-flat_back, and-left, and-right, tests_same}
use Rattle.oz_laws.proofs.StoreLaws.{told_sets, told_value_by, told_set_by}
use Rattle.view_laws.specs.Touched.{NamesWithin, IsPart}
use Rattle.view_laws.proofs.Members.{In-left, bool_eq, decide, not_both, and_both, or_left, or_right, or_cases, each, some_of, by_some}
use Rattle.view_laws.proofs.NameLaws.{equal_names, names_equal, properly_by, below_trans, not_above_parent}
use Rattle.view_laws.proofs.ListLaws.{in_among, among_in, in_filter, map_in, in_map}
use Rattle.view_laws.proofs.SightLaws.{parent_above}
use Rattle.view_laws.proofs.ViewLaws.{same_named}
use Rattle.view_laws.proofs.TouchedLaws.{AreAlike, alike_meaning, meaning_alike}
use Rattle.space_core.specs.Shown.{shown, shown_all, gave_out, is_home, is_outer, IsSound}
use Rattle.space_core.specs.declared.level.Level.{Level}
use Rattle.space_core.proofs.MemberLaws.{filter_member}

-- Numbers of a range

range_in : (a n j : ℕ) → a ≤ j → j < a + n → In j (range_with_len a n)
range_in a zero j l h = absurd (omega arith)
range_in a (suc n) j l h = elim (decide (nat_lt a j)) [
  | inl e ↦ inr (range_in (a + 1) n j (grind (arith, nat_tests, e)) (omega arith))
  | inr e ↦ inl (let k : j ≤ a = grind (arith, nat_tests, e) in omega arith)
]

in_range : (a n j : ℕ) → In j (range_with_len a n) → j < a + n
in_range a zero j h = elim h [ ]
in_range a (suc n) j (inl e) = omega arith
in_range a (suc n) j (inr h) = let r = in_range (a + 1) n j h in omega (arith, r)

-- The variables that a layer gave out

less_true : (a b : ℕ) → a < b → nat_lt a b ≡ true
less_true a b l = grind (arith, nat_tests, l)

true_less : (a b : ℕ) → nat_lt a b ≡ true → a < b
true_less a b e = grind (arith, nat_tests, e)

gave_in : (x : Ident) (l : Layer) → gave_out x l ≡ true → In x (variables_of l)
gave_in x l e =
    let n : x.number < l.next.variable = true_less x.number l.next.variable (and-left _ _ e) in
    let s : l.space ≡ x.space = equal_names l.space x.space (and-right (nat_lt x.number l.next.variable) _ e) in
    subst (λ (y : Ident). In y (variables_of l)) (ap (λ (t : List ℕ). named t x.number) s) (map_in (named l.space) (range_with_len 0 l.next.variable) x.number (range_in 0 l.next.variable x.number (omega arith) (omega arith)))

in_gave : (x : Ident) (l : Layer) → In x (variables_of l) → gave_out x l ≡ true
in_gave x l h =
    let r = in_map (named l.space) (range_with_len 0 l.next.variable) x h in
    let n = in_range 0 l.next.variable r.0 r.1 in
    subst (λ (y : Ident). gave_out y l ≡ true) r.2 (and_both _ _ (less_true r.0 l.next.variable (omega (arith, n))) (names_equal l.space))

-- those of spaces above
module _ (layers : List Layer) (space : List ℕ) where
  abbrev given_by : Layer → List Ident
  given_by l = if is_properly_below l.space space then variables_of l else []

  given_here : (x : Ident) (l : Layer) (b : Bool) → is_properly_below l.space space ≡ b → In x (if b then variables_of l else []) → (is_properly_below l.space space ≡ true) × In x (variables_of l)
  given_here x l true e h = (e, h)
  given_here x l false e h = elim h [ ]

  pub outer_in : (x : Ident) → is_outer layers space x ≡ true → Contains (ancestor_variables layers space) x
  outer_in x e =
      let r = some_of (λ (l : Layer). gave_out x l && is_properly_below l.space space) layers e in
      contains-from_In (ancestor_variables layers space) x
      (In-flat given_by r.0 x layers (In-from_contains layers r.0 r.1)
      (subst (λ (b : Bool). In x (if b then variables_of r.0 else [])) (sym (and-right (gave_out x r.0) _ r.2)) (gave_in x r.0 (and-left _ _ r.2))))

  pub in_outer : (x : Ident) → Contains (ancestor_variables layers space) x → is_outer layers space x ≡ true
  in_outer x c =
      let r = In-flat_back given_by x layers (In-from_contains (ancestor_variables layers space) x c) in
      let g = given_here x r.0 (is_properly_below r.0.space space) refl r.2 in
      by_some (λ (l : Layer). gave_out x l && is_properly_below l.space space) layers r.0 (contains-from_In layers r.0 r.1) (and_both _ _ (in_gave x r.0 g.1) g.0)

  pub outer_part : (vs : List Ident) → IsPart vs (ancestor_variables layers space) (filter (is_outer layers space) vs)
  outer_part vs = record {
    only = λ y c. outer_in y (filter_member (is_outer layers space) vs y c).1;
    all = λ t c k. contains-from_In (filter (is_outer layers space) vs) t (in_filter (is_outer layers space) vs t (In-from_contains vs t c) (in_outer t k));
  }

  pub among_outer : (x : Ident) → is_among (ancestor_variables layers space) x ≡ is_outer layers space x
  among_outer x = bool_eq _ _
      (λ e. in_outer x (contains-from_In (ancestor_variables layers space) x (among_in (ancestor_variables layers space) x e)))
      (λ e. in_among (ancestor_variables layers space) x (In-from_contains (ancestor_variables layers space) x (outer_in x e)))

-- What the parent of a space sees names variables of spaces above

-- whether each space that a space is below is traced, itself too
abbrev pub Traced : List Level → List ℕ → Type 0
Traced levels space = (l : Level) → Contains levels l → is_below l.space space ≡ true → l.traced ≡ true

told_here : (l : Layer) (s : List ℕ) (t : Tell) (b : Bool) → is_below l.space s ≡ b → In t (if b then l.tells else []) → (is_below l.space s ≡ true) × In t l.tells
told_here l s t true e h = (e, h)
told_here l s t false e h = elim h [ ]

module _ (levels : List Level) (s : IsSound levels) (space : List ℕ) (inner : is_top space ≡ false) (traced : Traced levels space) where
  -- what is above the parent is properly above
  above_properly : (t : List ℕ) → is_below t (parent_of space) ≡ true → is_properly_below t space ≡ true
  above_properly t b = properly_by t space (parent_above space inner t b) (λ q. not_both _ (subst (λ (u : List ℕ). is_below u (parent_of space) ≡ true) q b) (not_above_parent space inner))

  named_outer : (l : Level) → Contains levels l → is_below l.space (parent_of space) ≡ true → (t : Tell) → In t (shown l).tells → (x : Ident) → In x (named_by t) → is_outer (shown_all levels) space x ≡ true
  named_outer l c b t i x n =
      let f = s.fits l c in
      let home : is_home (shown_all levels) l.space x ≡ true =
      each (is_home (shown_all levels) l.space) (flat_map named_by (shown l).tells) (f.home (traced l c (parent_above space inner l.space b))) x
      (contains-from_In (flat_map named_by (shown l).tells) x (In-flat named_by t x (shown l).tells i n)) in
      let r = some_of (λ (k : Layer). gave_out x k && is_below k.space l.space) (shown_all levels) home in
      by_some (λ (k : Layer). gave_out x k && is_properly_below k.space space) (shown_all levels) r.0 r.1
      (and_both _ _ (and-left _ _ r.2) (above_properly r.0.space (below_trans r.0.space l.space (parent_of space) (and-right (gave_out x r.0) _ r.2) b)))

  pub names_within : NamesWithin (view (shown_all levels) (parent_of space)) (ancestor_variables (shown_all levels) space)
  names_within x c =
      let n = In-flat_back named_by x (view (shown_all levels) (parent_of space)) (In-from_contains (flat_map named_by (view (shown_all levels) (parent_of space))) x c) in
      let v = In-flat_back (λ (k : Layer). if is_below k.space (parent_of space) then k.tells else []) n.0 (shown_all levels) n.1 in
      let g = told_here v.0 (parent_of space) n.0 (is_below v.0.space (parent_of space)) refl v.2 in
      let r = in_map shown levels v.0 v.1 in
      outer_in (shown_all levels) space x
      (named_outer r.0 (contains-from_In levels r.0 r.1) (subst (λ (k : Layer). is_below k.space (parent_of space) ≡ true) (sym r.2) g.0) n.0
      (subst (λ (k : Layer). In n.0 k.tells) (sym r.2) g.1) x n.2)

-- What the variables that are named decide

abbrev pub mentioned : List Tell → List Ident
mentioned ts = flat_map named_by ts

-- a variable that is not named is equal to itself alone, and has no value and no domain
module _ (ts : List Tell) (x : Ident) (n : In x (mentioned ts) → ⊥) where
  named_not : (y : Ident) (t : Tell) → Contains ts t → In y (named_by t) → Same ts y x → ⊥
  named_not y t c i s = elim (same_named ts s) [
    | inl q ↦ n (subst (λ (z : Ident). In z (mentioned ts)) q (In-flat named_by t y ts (In-from_contains ts t c) i))
    | inr k ↦ n k.1
  ]

  untold : told_value ts x ≡ None
  untold = by (told_value ts x) refl
    where
      by : (o : Option Value) → told_value ts x ≡ o → o ≡ None
      by None e = refl
      by (Some v) e = let g = told_value_by ts x v e in absurd (named_not g.variable (Is g.variable v) g.tells (inl refl) g.equal)

  no_set : told_sets ts x ≡ []
  no_set = by (told_sets ts x) refl
    where
      by : (ss : List IntSet) → told_sets ts x ≡ ss → ss ≡ []
      by [] e = refl
      by (s ∷ ss) e =
          let g = told_set_by ts x s (subst (In s) (sym e) (inl refl)) in
          absurd (named_not g.variable (Within g.variable g.intervals) g.tells (inl refl) g.equal)

  no_value : value_of ts x ≡ None
  no_value = ap₂ (λ (v : Option Value) (ss : List IntSet). given_or v (option_map integer (option_and_then only (common ss)))) untold no_set

  no_domain : domain_of ts x ≡ None
  no_domain = ap₂ (λ (v : Option Value) (ss : List IntSet). domain_by v (common ss)) untold no_set

module _ (one other : List Tell) (within : (x : Ident) → In x (mentioned other) → In x (mentioned one)) (xs ys : List Ident) (part : IsPart (mentioned one) xs ys) where
  unnamed_same : (ts : List Tell) (x y : Ident) → ((In x (mentioned ts) × In y (mentioned ts)) → ⊥) → Same ts x y → x ≡ y
  unnamed_same ts x y n s = elim (same_named ts s) [ inl e ↦ e | inr k ↦ absurd (n k) ]

  both_same : (x y : Ident) → ((In x (mentioned one) × In y (mentioned one)) → ⊥) → same one x y ≡ same other x y
  both_same x y n = bool_eq _ _
      (λ e. (tests_same other x y).1 (subst (Same other x) (unnamed_same one x y n ((tests_same one x y).0 e)) itself))
      (λ e. (tests_same one x y).1 (subst (Same one x) (unnamed_same other x y (λ k. n (within x k.0, within y k.1)) ((tests_same other x y).0 e)) itself))

  alike_all : AreAlike ys one other → AreAlike xs one other
  alike_all a = record {
    values = λ x c. elim (decide (is_among (mentioned one) x)) [
      | inl e ↦ a.values x (part.all x (contains-from_In (mentioned one) x (among_in (mentioned one) x e)) c)
      | inr e ↦ (let n : In x (mentioned one) → ⊥ = λ k. not_both _ (in_among (mentioned one) x k) e in
          ap₂ values_eq (no_value one x n) (no_value other x (λ k. n (within x k))))
    ];
    domains = λ x c. elim (decide (is_among (mentioned one) x)) [
      | inl e ↦ a.domains x (part.all x (contains-from_In (mentioned one) x (among_in (mentioned one) x e)) c)
      | inr e ↦ (let n : In x (mentioned one) → ⊥ = λ k. not_both _ (in_among (mentioned one) x k) e in
          ap₂ domains_eq (no_domain one x n) (no_domain other x (λ k. n (within x k))))
    ];
    equal = λ x y c d. elim (decide (is_among (mentioned one) x && is_among (mentioned one) y)) [
      | inl e ↦ a.equal x y (part.all x (contains-from_In (mentioned one) x (among_in (mentioned one) x (and-left _ _ e))) c)
          (part.all y (contains-from_In (mentioned one) y (among_in (mentioned one) y (and-right (is_among (mentioned one) x) _ e))) d)
      | inr e ↦ both_same x y (λ k. not_both _ (and_both _ _ (in_among (mentioned one) x k.0) (in_among (mentioned one) y k.1)) e)
    ];
  }

  alike_part : AreAlike xs one other → AreAlike ys one other
  alike_part a = record { values = λ x c. a.values x (part.only x c); domains = λ x c. a.domains x (part.only x c); equal = λ x y c d. a.equal x y (part.only x c) (part.only y d) }

  pub named_decide : alike_on xs one other ≡ alike_on ys one other
  named_decide = bool_eq _ _
      (λ e. meaning_alike ys one other (alike_part (alike_meaning xs one other e)))
      (λ e. meaning_alike xs one other (alike_all (alike_meaning ys one other e)))

pub named_hold : (ts : List Tell) (xs ys : List Ident) → IsPart (mentioned ts) xs ys → (x : Ident) → is_held ts xs x ≡ (not (is_determined ts x) && (is_among xs x || list_any (same ts x) ys))
named_hold ts xs ys part x = ap (λ (b : Bool). not (is_determined ts x) && b) (bool_eq _ _ there back)
  where
    there : list_any (same ts x) xs ≡ true → (is_among xs x || list_any (same ts x) ys) ≡ true
    there e =
        let r = some_of (same ts x) xs e in
        elim (same_named ts ((tests_same ts x r.0).0 r.2)) [
          | inl q ↦ or_left _ _ (in_among xs x (In-from_contains xs x (subst (Contains xs) (sym q) r.1)))
          | inr k ↦ or_right (is_among xs x) _ (by_some (same ts x) ys r.0 (part.all r.0 (contains-from_In (mentioned ts) r.0 k.1) r.1) r.2)
        ]

    back : (is_among xs x || list_any (same ts x) ys) ≡ true → list_any (same ts x) xs ≡ true
    back e = elim (or_cases (is_among xs x) (list_any (same ts x) ys) e) [
      | inl a ↦ by_some (same ts x) xs x (contains-from_In xs x (among_in xs x a)) ((tests_same ts x x).1 itself)
      | inr a ↦ (let r = some_of (same ts x) ys a in by_some (same ts x) xs r.0 (part.only r.0 r.1) r.2)
    ]

-- what is part of a list is named by it
pub more_named : (before more : List Tell) (x : Ident) → In x (mentioned before) → In x (mentioned (before ++ more))
more_named before more x h =
    let r = In-flat_back named_by x before h in
    In-flat named_by r.0 x (before ++ more) (In-left r.0 before more r.1) r.2
