-- What is left to do grows less with each pair.
use Rattle.std.proofs.Common.{ℕ, ◌≡◌, ◌∙◌, ◌+◌, ◌≤◌, inl, inr, Bool, true, false, cond, List, [], ◌∷◌, length, Option, Some, refl, sym, ap, subst, arith}
use Rattle.std.specs.Prelude.{Contains}
use Rattle.std.specs.List.{flat_map, zip}
use Rattle.std.proofs.lemmas.Bool.{false≢true}
use Rattle.oz_base.specs.IdentLaws.{ident_eq-equal, ident_eq-itself}
use Rattle.oz_base.specs.Names.{ident_eq}
use Rattle.oz_base.specs.declared.names.Ident.{Ident}
use Rattle.oz_laws.proofs.SameLaws.{In}
use Rattle.oz_semantics.specs.Store.{Same, named_by}
use Rattle.oz_semantics.specs.declared.value.Value.{Value}
use Rattle.oz_semantics.specs.declared.value.Tell.{Tell}
use Rattle.oz_semantics.specs.declared.value.Tell.TheVariants.{Is}
use Rattle.term_store.specs.Classes.{instead}
use Rattle.term_store.specs.Closing.{Closing, width, weight}
use Rattle.term_store.proofs.ClassLaws.{one, two, decided, instead_is, instead_other}
use Rattle.term_store.proofs.ClosingLaws.{in_place}
use Rattle.term_store.proofs.NamingLaws.{Named, one as itself_named, both, named, named_in}

-- a variable that stands for a class with a value is named by the tells
pub valued_in : (ts : List Tell) (g : Ident → Ident) (f : Ident → Option ℕ) (ps : List (Ident × Ident)) (u : Ident) (p : ℕ) → Closing ts g f ps → g u ≡ u → f u ≡ Some p → Contains (flat_map named_by ts) u
valued_in ts g f ps u p c root e =
    let t = c.firsts u p root e in
    by t.variable (in_place ts (Is t.variable t.value) p t.told) (named ts (subst (Same ts t.variable) t.class (c.sound t.variable)))
  where
    by : {v : Value} (y : Ident) → Contains ts (Is y v) → Named ts y u → Contains (flat_map named_by ts) u
    by {v} y d (itself_named k) = subst (Contains (flat_map named_by ts)) k (named_in ts (Is y v) y d (inl refl))
    by y d (both m n) = n

one_le : (p q : Bool) (m n : ℕ) → (q ≡ true → (p ≡ true) × (n ≡ m)) → cond q n 0 ≤ cond p m 0
one_le true true m n h = omega (arith, (h refl).1)
one_le true false m n h = omega arith
one_le false true m n h = absurd (false≢true (h refl).0)
one_le false false m n h = omega arith

pub length_zip : (xs ys : List Ident) → length xs ≡ length ys → length (zip xs ys) ≡ length ys
length_zip [] [] e = refl
length_zip [] (y ∷ ys) e = absurd (omega arith)
length_zip (x ∷ xs) [] e = absurd (omega arith)
length_zip (x ∷ xs) (y ∷ ys) e = omega (arith, length_zip xs ys (omega arith))

module _ (ts : List Tell) (g : Ident → Ident) (f f' : Ident → Option ℕ) (u o : Ident) (under : g u ≡ u) (over : g o ≡ o) (apart : u ≡ o → ⊥)
    (wide : width ts f' o ≡ width ts f o) (others : (z : Ident) → (z ≡ u → ⊥) → (z ≡ o → ⊥) → f' z ≡ f z) where
  abbrev after : Ident → Ident
  after z = instead u o (g z)

  was_root : (z : Ident) → ident_eq (after z) z ≡ true → ident_eq (g z) z ≡ true
  was_root z e = elim (decided (g z) u) [
    | one k ↦ (let z_is : o ≡ z = sym (ap (instead u o) k ∙ instead_is u o) ∙ ident_eq-equal (after z) z e in absurd (apart (sym k ∙ ap g (sym z_is) ∙ over)))
    | two ne ↦ subst (λ a. ident_eq a z ≡ true) (instead_other u o (g z) ne) e
  ]

  not_under : (z : Ident) → ident_eq (after z) z ≡ true → z ≡ u → ⊥
  not_under z e k =
      let is : after z ≡ o = ap after k ∙ ap (instead u o) under ∙ instead_is u o in
      apart (sym k ∙ sym (ident_eq-equal (after z) z e) ∙ is)

  as_wide : (z : Ident) → ident_eq (after z) z ≡ true → width ts f' z ≡ width ts f z
  as_wide z e = elim (decided z o) [
    | one k ↦ ap (width ts f') k ∙ wide ∙ ap (width ts f) (sym k)
    | two ne ↦ ap (λ p. width ts (λ _. p) z) (others z (not_under z e) ne)
  ]

  under_is : ident_eq (g u) u ≡ true
  under_is = ap (λ a. ident_eq a u) under ∙ ident_eq-itself u

  under_not : ident_eq (after u) u ≡ false
  under_not = by (ident_eq (after u) u) refl
    where
      by : (b : Bool) → ident_eq (after u) u ≡ b → b ≡ false
      by true e = absurd (not_under u e refl)
      by false e = refl

  weigh_cons : (h : Ident → Ident) (k : Ident → Option ℕ) (z : Ident) (zs : List Ident) → weight ts h k (z ∷ zs) ≡ cond (ident_eq (h z) z) (width ts k z) 0 + weight ts h k zs
  weigh_cons h k z zs = refl

  one_less : (z : Ident) → cond (ident_eq (after z) z) (width ts f' z) 0 ≤ cond (ident_eq (g z) z) (width ts f z) 0
  one_less z = one_le (ident_eq (g z) z) (ident_eq (after z) z) (width ts f z) (width ts f' z) (λ e. (was_root z e, as_wide z e))

  pub weighs_no_more : (zs : List Ident) → weight ts after f' zs ≤ weight ts g f zs
  weighs_no_more [] = omega arith
  weighs_no_more (z ∷ zs) = omega (arith, weigh_cons g f z zs, weigh_cons after f' z zs, one_less z, weighs_no_more zs)

  pub weighs_less : (zs : List Ident) → In u zs → weight ts after f' zs + width ts f u ≤ weight ts g f zs
  weighs_less [] i = elim i [ ]
  weighs_less (z ∷ zs) (inl e) =
      let before : cond (ident_eq (g z) z) (width ts f z) 0 ≡ width ts f u = ap (λ a. cond (ident_eq (g a) a) (width ts f a) 0) e ∙ ap (λ b. cond b (width ts f u) 0) under_is in
      let now : cond (ident_eq (after z) z) (width ts f' z) 0 ≡ 0 = ap (λ a. cond (ident_eq (after a) a) (width ts f' a) 0) e ∙ ap (λ b. cond b (width ts f' u) 0) under_not in
      omega (arith, weigh_cons g f z zs, weigh_cons after f' z zs, before, now, weighs_no_more zs)
  weighs_less (z ∷ zs) (inr i) = omega (arith, weigh_cons g f z zs, weigh_cons after f' z zs, one_less z, weighs_less zs i)
