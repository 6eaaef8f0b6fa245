-- Tells that make no two variables equal.
use Rattle.std.proofs.Common.{◌≡◌, ◌⊎◌, inl, inr, ℕ, Bool, true, false, if◌then◌else◌, List, [], ◌∷◌, ◌++◌, refl, sym, subst, Contains, Some, is_some, slice_get, flat_map}
use Rattle.std.proofs.lemmas.Bool.{false≢true}
use Rattle.oz_base.specs.Lists.{is_empty}
use Rattle.oz_base.specs.declared.names.Ident.{Ident}
use Rattle.oz_base.specs.declared.interval.Interval.{Interval}
use Rattle.oz_semantics.specs.Values.{fields_of}
use Rattle.oz_semantics.specs.Store.{Same, told, itself, reversed, joined, field, told_value, is_news}
use Rattle.oz_semantics.specs.declared.value.Value.{Value}
use Rattle.oz_semantics.specs.declared.value.Tell.{Tell}
use Rattle.oz_semantics.specs.declared.value.Tell.TheVariants.{Equal, Is, Within}
use Rattle.oz_laws.proofs.SameLaws.{In, In-from_contains, contains-from_In, In-flat}
use Rattle.oz_laws.specs.Touched.{Meets, Touches}
use Rattle.view_laws.proofs.Members.{has-cases, has-left}
use Rattle.view_laws.proofs.ViewLaws.{same_kept}
use Rattle.watching.specs.Watching.{joins_nothing, touched_by}

pub same_later : (ts us : List Tell) {x y : Ident} → Same ts x y → Same (ts ++ us) x y
same_later ts us s = same_kept ts (ts ++ us) (λ t c. has-left t ts us c) s

none_at : {A : Type 0} (xs : List A) (i : ℕ) (a : A) → is_empty xs ≡ true → slice_get xs i ≡ Some a → ⊥
none_at [] i a e f = cc
none_at (x ∷ xs) i a e f = absurd (false≢true e)

module _ (ts us : List Tell) (none : (t : Tell) → Contains us t → joins_nothing t ≡ true) where
  equal_before : (x y : Ident) → Contains (ts ++ us) (Equal x y) → Contains ts (Equal x y)
  equal_before x y c = elim (has-cases (Equal x y) ts us c) [ inl h ↦ h | inr h ↦ absurd (false≢true (none (Equal x y) h)) ]

  value_before : (x : Ident) (v : Value) (i : ℕ) (a : Ident) → slice_get (fields_of v) i ≡ Some a → Contains (ts ++ us) (Is x v) → Contains ts (Is x v)
  value_before x v i a e c = elim (has-cases (Is x v) ts us c) [ inl h ↦ h | inr h ↦ absurd (none_at (fields_of v) i a (none (Is x v) h) e) ]

  pub same_before : {x y : Ident} → Same (ts ++ us) x y → Same ts x y
  same_before {x} {y} (told c) = told (equal_before x y c)
  same_before itself = itself
  same_before (reversed s) = reversed (same_before s)
  same_before (joined s t) = joined (same_before s) (same_before t)
  same_before (field {x} {y} {a} {b} {v} {w} i s c d l e f) = field i (same_before s) (value_before x v i a e c) (value_before y w i b f d) l e f

  bound : (x : Ident) (v : Value) → Contains us (Is x v) → (b : Bool) → is_some (told_value ts x) ≡ b → (b ≡ true) ⊎ Meets ts (flat_map (touched_by ts) us) x
  bound x v c true e = inl refl
  bound x v c false e =
      let here : In x (touched_by ts (Is x v)) = subst (λ b. In x (if b then [] else x ∷ [])) (sym e) (inl refl) in
      inr (x, contains-from_In (flat_map (touched_by ts) us) x (In-flat (touched_by ts) (Is x v) x us (In-from_contains us (Is x v) c) here), itself)

  narrowed : (x : Ident) (is : List Interval) → Contains us (Within x is) → (b : Bool) → is_news ts (Within x is) ≡ b → (b ≡ false) ⊎ Meets ts (flat_map (touched_by ts) us) x
  narrowed x is c false e = inl refl
  narrowed x is c true e =
      let here : In x (touched_by ts (Within x is)) = subst (λ b. In x (if b then x ∷ [] else [])) (sym e) (inl refl) in
      inr (x, contains-from_In (flat_map (touched_by ts) us) x (In-flat (touched_by ts) (Within x is) x us (In-from_contains us (Within x is) c) here), itself)

  -- they touch what they give a value or a domain that is news
  pub touches : Touches ts us (flat_map (touched_by ts) us)
  touches = record {
    joins = λ x y s. inl (same_before s);
    binds = λ x v c. bound x v c (is_some (told_value ts x)) refl;
    narrows = λ x is c. narrowed x is c (is_news ts (Within x is)) refl;
  }
