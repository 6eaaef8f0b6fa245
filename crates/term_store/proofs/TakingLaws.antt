-- What the joining of a pair leaves: the closing goes on, or the tells are inconsistent.
use Rattle.std.proofs.Common.{ℕ, ◌≡◌, ◌∙◌, ◌+◌, ◌≤◌, ◌⊎◌, inl, inr, Bool, true, false, List, [], ◌∷◌, ◌++◌, map, min, length, slice_get, Option, Some, None, is_some, refl, sym, ap, ap₂, subst, arith, length-append, append_assoc}
use Rattle.std.specs.Prelude.{Contains}
use Rattle.std.specs.List.{flat_map, zip}
use Rattle.std.proofs.lemmas.Bool.{false≢true}
use Rattle.std.proofs.lemmas.List.Elements.{Contains-append_left, Contains-append_right, Contains-append_cases, Contains-push}
use Rattle.fd_domain.proofs.SetLaws.{or_cases}
use Rattle.oz_base.specs.IdentLaws.{ident_eq-equal}
use Rattle.oz_base.specs.Names.{ident_eq}
use Rattle.oz_base.specs.declared.names.Ident.{Ident}
use Rattle.oz_laws.proofs.AlikeLaws.{alike-sym}
use Rattle.oz_laws.proofs.SameLaws.{In-from_contains}
use Rattle.oz_semantics.specs.Store.{Same, reversed, joined, field, named_by, is_consistent}
use Rattle.oz_semantics.specs.Values.{fields_of}
use Rattle.oz_semantics.specs.declared.value.Value.{Value}
use Rattle.oz_semantics.specs.declared.value.Tell.{Tell}
use Rattle.oz_semantics.specs.declared.value.Tell.TheVariants.{Is}
use Rattle.term_store.specs.Bounds.{meets, left_by, AreDomain, Suits, Keeps, Bounded}
use Rattle.term_store.specs.Classes.{Table, root_in, first_in, domain_in, kept_in, instead, is_nothing, IsLower, Unites, UnitesFree, UnitesWith}
use Rattle.term_store.specs.Closing.{Joins, Closing, Going, Tied, width, weight, width_of, GoesOn}
use Rattle.term_store.specs.Places.{value_told, value_at}
use Rattle.term_store.specs.Taking.{Differing, Agreeing, FirstsMeet, Takes, free, differ, kept}
use Rattle.term_store.specs.declared.cell.Kept.{Kept}
use Rattle.term_store.specs.declared.closing.FirstOfTwo.TheVariants.{Differ, First}
use Rattle.term_store.proofs.BoundLaws.{meets_comm, either, left_either, bounded_join}
use Rattle.term_store.proofs.ClassLaws.{nothing_is}
use Rattle.term_store.proofs.ClosingLaws.{head_in, tail_in, some_is, like_length, in_place, in_zip, zip_agrees, clash, closing_skip}
use Rattle.term_store.proofs.ConsistencyLaws.{clash_empty, clash_value}
use Rattle.term_store.proofs.JoiningLaws.{Turn, Fit, free as fit_free, alike as fit_alike, joins}
use Rattle.term_store.proofs.TrailLaws.{tied_join}
use Rattle.term_store.proofs.WeighingLaws.{valued_in, length_zip, weighs_no_more, weighs_less}

min_cases : (p q : ℕ) → ((min p q ≡ p) × (p ≤ q)) ⊎ ((min p q ≡ q) × (q ≤ p))
min_cases p q = grind arith

pub noted_two : (now was next last : List Ident) (a b : Ident) → was ≡ now → next ≡ was ++ a ∷ [] → last ≡ next ++ b ∷ [] → last ≡ now ++ a ∷ b ∷ []
noted_two now was next last a b e f k = k ∙ ap (λ xs. xs ++ b ∷ []) (f ∙ ap (λ xs. xs ++ a ∷ []) e) ∙ append_assoc now (a ∷ []) (b ∷ [])

-- The first value of two classes

not_differ : {A : Type 0} (first : Option ℕ) → Differ ≡ First first → A
not_differ first e = absurd (cc)

firsts_one : (a b : Option ℕ) → First a ≡ First b → a ≡ b
firsts_one a b e = cc

not_some : {A : Type 0} (p : ℕ) → Some p ≡ None → A
not_some p e = absurd (cc)

-- is that of one of them
first_is : (ts : List Tell) (fa fb first : Option ℕ) (ps ps' : List (Ident × Ident)) → FirstsMeet ts fa fb ps ps' (First first) → (n : ℕ) → first ≡ Some n → (fa ≡ Some n) ⊎ (fb ≡ Some n)
first_is ts None fb first ps ps' m n e = inr (sym (firsts_one first fb m.0) ∙ e)
first_is ts (Some p) None first ps ps' m n e = inl (sym (firsts_one first (Some p) m.0) ∙ e)
first_is ts (Some p) (Some q) first ps ps' m n e =
    let is : min p q ≡ n = some_is (min p q) n (sym m.0 ∙ e) in
    elim (min_cases p q) [
      | inl k ↦ inl (ap (λ (i : ℕ). Some i) (sym k.0 ∙ is))
      | inr k ↦ inr (ap (λ (i : ℕ). Some i) (sym k.0 ∙ is))
    ]

module _ (ts : List Tell) (t t' : Table) (ps ps' : List (Ident × Ident)) (now now' : List Ident) (l r : Ident) (going : Going ts t (ps ++ (l, r) ∷ [])) where
  abbrev c : Closing ts (root_in t) (first_in t) (ps ++ (l, r) ∷ [])
  c = going.values

  abbrev g : Ident → Ident
  g = root_in t

  abbrev variables : List Ident
  variables = flat_map named_by ts

  met : Same ts (g l) (g r)
  met = joined (reversed (c.sound l)) (joined (c.due l r (Contains-push ps (l, r))) (c.sound r))

  -- the two are of one class
  pub skipped : root_in t l ≡ root_in t r → GoesOn ts t t ps ps now now
  skipped e = record { going = record { values = closing_skip ts g (first_in t) ps l r c e; bounds = going.bounds }; lighter = omega arith; follows = λ before k. k }

  module _ (a b : Ident) (ea : a ≡ root_in t l) (eb : b ≡ root_in t r) (apart : a ≡ b → ⊥) where
    a_root : g a ≡ a
    a_root = ap g ea ∙ c.idem l ∙ sym ea

    b_root : g b ≡ b
    b_root = ap g eb ∙ c.idem r ∙ sym eb

    same_ab : Same ts a b
    same_ab = subst (λ z. Same ts z b) (sym ea) (subst (λ z. Same ts (g l) z) (sym eb) met)

    ab : Turn (root_in t) l r a b
    ab = record { under = a_root; over = b_root; apart = apart; pair = inl (sym ea, sym eb) }

    ba : Turn (root_in t) l r b a
    ba = record { under = b_root; over = a_root; apart = λ e. apart (sym e); pair = inr (sym ea, sym eb) }

    -- a value that was told of a class
    pub record Valued (x : Ident) (p : ℕ) (v : Value) : Type 0 where
      pub variable : Ident
      pub place : Contains ts (Is variable v)
      pub told : slice_get ts p ≡ Some (Is variable v)
      pub class : Same ts variable x

    valued : (x : Ident) (p : ℕ) (v : Value) → g x ≡ x → first_in t x ≡ Some p → value_at ts p ≡ Some v → Valued x p v
    valued x p v root e ev =
        let k = c.firsts x p root e in
        let is : k.value ≡ v = value_one k.value v (ap value_told (sym k.told) ∙ ev) in
        let told : slice_get ts p ≡ Some (Is k.variable v) = k.told ∙ ap (λ z. Some (Is k.variable z)) is in
        record { variable = k.variable; place = in_place ts (Is k.variable v) p told; told = told; class = subst (Same ts k.variable) k.class (c.sound k.variable) }
      where
        value_one : (v w : Value) → Some v ≡ Some w → v ≡ w
        value_one v w e = cc

    -- Values that differ

    differing : (p q : ℕ) → first_in t a ≡ Some p → first_in t b ≡ Some q → Differing ts p q → is_consistent ts ≡ false
    differing p q ep eq d =
        let ka = valued a p d.left a_root ep d.at_left in
        let kb = valued b q d.right b_root eq d.at_right in
        clash ts p q ka.variable kb.variable d.left d.right ka.told kb.told (joined ka.class (joined same_ab (reversed kb.class))) d.unlike

    differ_by : (fa fb : Option ℕ) → first_in t a ≡ fa → first_in t b ≡ fb → FirstsMeet ts fa fb ps ps' Differ → is_consistent ts ≡ false
    differ_by None fb ea eb m = not_differ fb m.0
    differ_by (Some p) None ea eb m = not_differ (Some p) m.0
    differ_by (Some p) (Some q) ea eb m = differing p q ea eb m

    -- Domains and values with nothing in common

    abbrev test : Ident → Bool
    test = either (λ y. ident_eq (g y) a) (λ y. ident_eq (g y) b)

    of_both : (y : Ident) → test y ≡ true → Same ts y a
    of_both y e = elim (or_cases (ident_eq (g y) a) (ident_eq (g y) b) e) [
      | inl k ↦ subst (Same ts y) (ident_eq-equal (g y) a k) (c.sound y)
      | inr k ↦ joined (subst (Same ts y) (ident_eq-equal (g y) b k) (c.sound y)) (reversed same_ab)
    ]

    left_to_both : meets (domain_in t a) (domain_in t b) ≡ left_by test ts
    left_to_both = ap₂ meets (going.bounds.left a a_root) (going.bounds.left b b_root) ∙ sym (left_either (λ y. ident_eq (g y) a) (λ y. ident_eq (g y) b) ts)

    value_of_both : (p : ℕ) (v : Value) → (first_in t a ≡ Some p) ⊎ (first_in t b ≡ Some p) → value_at ts p ≡ Some v → Valued a p v
    value_of_both p v (inl e) ev = valued a p v a_root e ev
    value_of_both p v (inr e) ev = let k = valued b p v b_root e ev in record { variable = k.variable; place = k.place; told = k.told; class = joined k.class (reversed same_ab) }

    keeps_none : (first : Option ℕ) → FirstsMeet ts (first_in t a) (first_in t b) ps ps' (First first) → Keeps ts first (domain_in t a) (domain_in t b) None → is_consistent ts ≡ false
    keeps_none first m (inl e) = clash_empty ts test a of_both (sym left_to_both ∙ e)
    keeps_none first m (inr k) =
        let v = value_of_both k.place k.value (first_is ts (first_in t a) (first_in t b) first ps ps' m k.place k.found) k.told in
        clash_value ts test a of_both v.variable k.value k.integers (sym left_to_both ∙ k.left) v.place v.class k.missing

    pub taken_false : Takes ts t t' a b ps ps' false → is_consistent ts ≡ false
    taken_false (free e n k) = absurd (false≢true e)
    taken_false (differ e m) = differ_by (first_in t a) (first_in t b) refl refl m
    taken_false (kept first m k) = keeps_none first m k

    -- They are joined

    module _ (noted : now' ≡ now ++ a ∷ b ∷ []) where
      module _ (u o : Ident) (turn : Turn (root_in t) l r u o) (ends : ((u ≡ a) × (o ≡ b)) ⊎ ((u ≡ b) × (o ≡ a))) (content : Kept) (n : Unites t t' u o content) (fit : Fit ts (first_in t) (first_in t') ps' u o)
          (left : content.domain ≡ meets (domain_in t u) (domain_in t o)) (domain : AreDomain content.domain) (suit : Suits ts content.first content.domain) where
        roots : (λ z. instead u o (g z)) ≡ root_in t'
        roots = λ i z. sym (n.roots z) i

        other_firsts : (z : Ident) → (z ≡ u → ⊥) → (z ≡ o → ⊥) → first_in t' z ≡ first_in t z
        other_firsts z nu nv = ap (λ (k : Kept). k.first) (n.others z nu nv)

        other_domains : (z : Ident) → (z ≡ u → ⊥) → (z ≡ o → ⊥) → domain_in t' z ≡ domain_in t z
        other_domains z nu nv = ap (λ (k : Kept). k.domain) (n.others z nu nv)

        domain_here : content.domain ≡ domain_in t' o
        domain_here = ap (λ (k : Kept). k.domain) (sym n.here)

        bounds : Bounded ts (λ z. instead u o (g z)) (first_in t') (domain_in t')
        bounds = bounded_join ts g (first_in t) (first_in t') (domain_in t) (domain_in t') u o turn.under turn.over going.bounds (sym domain_here ∙ left) (subst AreDomain domain_here domain)
            (subst (λ (k : Kept). Suits ts k.first k.domain) (sym n.here) suit) other_firsts other_domains

        tied : (before : List Tell) → Tied before now (root_in t) → Tied before now' (λ z. instead u o (g z))
        tied before k = subst (λ xs. Tied before xs (λ z. instead u o (g z))) (sym noted) (elim ends [
          | inl e ↦ tied_join before now g k u o a b turn.under turn.over (a_root ∙ sym e.0, b_root ∙ sym e.1) (a ∷ b ∷ []) (head_in a (b ∷ [])) (tail_in a b (b ∷ []) (head_in b []))
          | inr e ↦ tied_join before now g k u o b a turn.under turn.over (b_root ∙ sym e.0, a_root ∙ sym e.1) (a ∷ b ∷ []) (tail_in a b (b ∷ []) (head_in b [])) (head_in a (b ∷ []))
        ])

        went : ((h : Ident → Ident) → Joins h ps' → Joins h ps) → ((z w : Ident) → Contains ps' (z, w) → Contains ps (z, w) ⊎ Same ts z w)
            → weight ts (λ z. instead u o (g z)) (first_in t') variables + length ps' ≤ weight ts g (first_in t) variables + length ps → GoesOn ts t t' ps ps' now now'
        went old new light = record {
          going = record {
            values = subst (λ h. Closing ts h (first_in t') ps') roots (joins ts g (first_in t) (first_in t') ps ps' l r u o c turn old new fit other_firsts);
            bounds = subst (λ h. Bounded ts h (first_in t') (domain_in t')) roots bounds;
          };
          lighter = subst (λ h. weight ts h (first_in t') variables + length ps' ≤ weight ts g (first_in t) variables + length ps) roots light;
          follows = λ before k. subst (Tied before now') roots (tied before k);
        }

        -- one has no value
        pub went_free : first_in t' o ≡ first_in t o → ps' ≡ ps → GoesOn ts t t' ps ps' now now'
        went_free same_first e = went (λ h. subst (Joins h) e) (λ z w d. inl (subst (λ qs. Contains qs (z, w)) e d))
            (omega (arith, weighs_no_more ts g (first_in t) (first_in t') u o turn.under turn.over turn.apart (ap (λ p. width ts (λ _. p) o) same_first) other_firsts variables, ap length e))

        -- both have values
        pub went_alike : (v w : Value) (p : ℕ) → first_in t u ≡ Some p → width ts (first_in t') o ≡ width ts (first_in t) o → length (zip (fields_of v) (fields_of w)) ≡ width ts (first_in t) u
            → ps' ≡ ps ++ zip (fields_of v) (fields_of w) → ((x y : Ident) → Contains (zip (fields_of v) (fields_of w)) (x, y) → Same ts x y) → GoesOn ts t t' ps ps' now now'
        went_alike v w p at wide long e due =
            let zs = zip (fields_of v) (fields_of w) in
            went (λ h j x y d. j x y (subst (λ qs. Contains qs (x, y)) (sym e) (Contains-append_left ps zs (x, y) d)))
            (λ x y d. elim (Contains-append_cases ps zs (x, y) (subst (λ qs. Contains qs (x, y)) e d)) [ inl k ↦ inl k | inr k ↦ inr (due x y k) ])
            (omega (
              arith,
              weighs_less ts g (first_in t) (first_in t') u o turn.under turn.over turn.apart wide other_firsts variables (In-from_contains variables u (valued_in ts g (first_in t) (ps ++ (l, r) ∷ []) u p c turn.under at)),
              ap length e,
              length-append ps zs,
              long,
            ))

      -- nothing is kept of one
      free_under : (u o : Ident) → Turn (root_in t) l r u o → ((u ≡ a) × (o ≡ b)) ⊎ ((u ≡ b) × (o ≡ a)) → g o ≡ o → is_nothing (kept_in t u) ≡ true → Unites t t' u o (kept_in t o) → ps' ≡ ps → GoesOn ts t t' ps ps' now now'
      free_under u o turn ends root none n e =
          let empty = nothing_is (kept_in t u) none in
          let no_first : first_in t u ≡ None = ap (λ (k : Kept). k.first) empty in
          let no_domain : domain_in t u ≡ None = ap (λ (k : Kept). k.domain) empty in
          let same_first : first_in t' o ≡ first_in t o = ap (λ (k : Kept). k.first) n.here in
          went_free u o turn ends (kept_in t o) n (fit_free no_first same_first) (ap (λ d. meets d (domain_in t o)) (sym no_domain)) (going.bounds.domains o root) (going.bounds.suits o root) same_first e

      taken_free : UnitesFree t t' a b → ps' ≡ ps → GoesOn ts t t' ps ps' now now'
      taken_free (inl n) e = free_under a b ab (inl (refl, refl)) b_root n.0 n.1 e
      taken_free (inr n) e = free_under b a ba (inr (refl, refl)) a_root n.0 n.1 e

      module _ (first : Option ℕ) (content : Kept) (keeps : Keeps ts first (domain_in t a) (domain_in t b) (Some content)) where
        first_kept : content.first ≡ first
        first_kept = ap (λ (k : Kept). k.first) keeps.0

        domain_kept : content.domain ≡ meets (domain_in t a) (domain_in t b)
        domain_kept = ap (λ (k : Kept). k.domain) keeps.0

        domain_turned : content.domain ≡ meets (domain_in t b) (domain_in t a)
        domain_turned = domain_kept ∙ meets_comm (domain_in t a) (domain_in t b)

        is_domain : AreDomain content.domain
        is_domain = subst AreDomain (sym domain_kept) keeps.1

        suited : Suits ts content.first content.domain
        suited = subst (λ (k : Kept). Suits ts k.first k.domain) (sym keeps.0) keeps.2

        -- one of the two has a value, or none
        one_under : Unites t t' a b content → first_in t a ≡ None → first ≡ first_in t b → ps' ≡ ps → GoesOn ts t t' ps ps' now now'
        one_under n none same e =
            let here = ap (λ (k : Kept). k.first) n.here ∙ first_kept ∙ same in
            went_free a b ab (inl (refl, refl)) content n (fit_free none here) domain_kept is_domain suited here e

        other_under : Unites t t' b a content → first_in t b ≡ None → first ≡ first_in t a → ps' ≡ ps → GoesOn ts t t' ps ps' now now'
        other_under n none same e =
            let here = ap (λ (k : Kept). k.first) n.here ∙ first_kept ∙ same in
            went_free b a ba (inr (refl, refl)) content n (fit_free none here) domain_turned is_domain suited here e

        module _ (p q : ℕ) (ep : first_in t a ≡ Some p) (eq : first_in t b ≡ Some q) (is_first : first ≡ Some (min p q)) (k : Agreeing ts p q ps ps') where
          abbrev v : Value
          v = k.left

          abbrev w : Value
          w = k.right

          fields_due : (x y : Ident) → Contains (zip (fields_of k.left) (fields_of k.right)) (x, y) → Same ts x y
          fields_due x y d =
              let z = in_zip (fields_of v) (fields_of w) x y d in
              let ka = valued a p v a_root ep k.at_left in
              let kb = valued b q w b_root eq k.at_right in
              field {v = v} {w = w} z.place (joined ka.class (joined same_ab (reversed kb.class))) ka.place kb.place k.like z.left z.right

          fields_one : (h : Ident → Ident) → Joins h ps' → map h (fields_of k.left) ≡ map h (fields_of k.right)
          fields_one h j = zip_agrees h (fields_of v) (fields_of w) (like_length v w k.like)
              (λ x y d. j x y (subst (λ qs. Contains qs (x, y)) (sym k.more) (Contains-append_right ps (zip (fields_of v) (fields_of w)) (x, y) d)))

          long : length (zip (fields_of k.left) (fields_of k.right)) ≡ length (fields_of k.right)
          long = length_zip (fields_of v) (fields_of w) (like_length v w k.like)

          width_at : (f : Ident → Option ℕ) (x : Ident) (n : ℕ) (z : Value) → f x ≡ Some n → value_at ts n ≡ Some z → width ts f x ≡ length (fields_of z)
          width_at f x n z en ez = ap (λ o. width ts (λ _. o) x) en ∙ ap width_of ez

          -- the value at the earlier of two places is as wide
          min_wide : (x : Ident) → first_in t' x ≡ Some (min p q) → width ts (first_in t') x ≡ length (fields_of k.right)
          min_wide x e = elim (min_cases p q) [
            | inl m ↦ width_at (first_in t') x (min p q) v e (ap (value_at ts) m.0 ∙ k.at_left) ∙ like_length v w k.like
            | inr m ↦ width_at (first_in t') x (min p q) w e (ap (value_at ts) m.0 ∙ k.at_right)
          ]

          first_here : (x : Ident) → kept_in t' x ≡ content → first_in t' x ≡ Some (min p q)
          first_here x e = ap (λ (z : Kept). z.first) e ∙ first_kept ∙ is_first

          both_one : Unites t t' a b content → GoesOn ts t t' ps ps' now now'
          both_one n =
              let here = first_here b n.here in
              went_alike a b ab (inl (refl, refl)) content n
              (fit_alike q p (min p q) eq ep here (record { left = w; right = v; at_left = k.at_right; at_right = k.at_left; like = alike-sym v w k.like; fields = λ h j. sym (fields_one h j); earliest = elim (min_cases p q) [ inl m ↦ inr m | inr m ↦ inl m ] }))
              domain_kept is_domain suited
              v w p ep (min_wide b here ∙ sym (width_at (first_in t) b q w eq k.at_right)) (long ∙ sym (like_length v w k.like) ∙ sym (width_at (first_in t) a p v ep k.at_left)) k.more fields_due

          both_other : Unites t t' b a content → GoesOn ts t t' ps ps' now now'
          both_other n =
              let here = first_here a n.here in
              went_alike b a ba (inr (refl, refl)) content n
              (fit_alike p q (min p q) ep eq here (record { left = v; right = w; at_left = k.at_left; at_right = k.at_right; like = k.like; fields = fields_one; earliest = min_cases p q }))
              domain_turned is_domain suited
              v w q eq (min_wide a here ∙ sym (like_length v w k.like) ∙ sym (width_at (first_in t) a p v ep k.at_left)) (long ∙ sym (width_at (first_in t) b q w eq k.at_right)) k.more fields_due

        -- one that has no value is put below one that has one
        lower_none : (x y : Ident) → first_in t y ≡ None → IsLower t x y → first_in t x ≡ None
        lower_none x y e (inl k) = k
        lower_none x y e (inr k) = absurd (false≢true (sym (ap is_some e) ∙ k))

        kept_by : (fa fb : Option ℕ) → first_in t a ≡ fa → first_in t b ≡ fb → FirstsMeet ts fa fb ps ps' (First first) → UnitesWith t t' a b content → GoesOn ts t t' ps ps' now now'
        kept_by None fb ea eb m (inl n) = one_under n.1 ea (firsts_one first fb m.0 ∙ sym eb) m.1
        kept_by None fb ea eb m (inr n) =
            let none = lower_none b a ea n.0 in
            other_under n.1 none (firsts_one first fb m.0 ∙ sym eb ∙ none ∙ sym ea) m.1
        kept_by (Some p) None ea eb m (inl n) = not_some p (sym ea ∙ lower_none a b eb n.0)
        kept_by (Some p) None ea eb m (inr n) = other_under n.1 eb (firsts_one first (Some p) m.0 ∙ sym ea) m.1
        kept_by (Some p) (Some q) ea eb m (inl n) = both_one p q ea eb m.0 m.1 n.1
        kept_by (Some p) (Some q) ea eb m (inr n) = both_other p q ea eb m.0 m.1 n.1

      pub taken_true : Takes ts t t' a b ps ps' true → GoesOn ts t t' ps ps' now now'
      taken_true (free _ n k) = taken_free n k
      taken_true (differ e m) = absurd (false≢true (sym e))
      taken_true (kept first m k) = kept_by first k.0 k.1 (first_in t a) (first_in t b) refl refl m k.2
