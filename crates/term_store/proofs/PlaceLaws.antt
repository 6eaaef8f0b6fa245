-- The place of the first value that was told of a variable's class.
use Rattle.std.proofs.Common.{◌≡◌, ◌∙◌, ℕ, ◌<◌, suc, Bool, true, false, true≢false, if◌then◌else◌, List, [], ◌∷◌, length, Option, Some, None, is_some, position, slice_get, refl, sym, ap, subst, arith}
use Rattle.std.specs.Option.{option_and_then, option_map}
use Rattle.std.proofs.Math.ListN.{get_or}
use Rattle.std.proofs.lemmas.Grind.{common_steps}
use Rattle.std.proofs.lemmas.List.Quantifiers.{position-Some}
use Rattle.std.proofs.lemmas.List.Sums.{position_or_len_is}
use Rattle.std.proofs.lemmas.Option.{slice_get-get_or, slice_get_within, get_or_from_slice_get}
use Rattle.oz_base.specs.Lists.{first_given, given_or}
use Rattle.oz_base.specs.declared.names.Ident.{Ident}
use Rattle.oz_laws.proofs.StoreLaws.{given_row}
use Rattle.oz_semantics.specs.Store.{reversed, joined, same, value_given, told_value, TestsSame}
use Rattle.oz_semantics.specs.declared.value.Value.{Value}
use Rattle.oz_semantics.specs.declared.value.Tell.{Tell}
use Rattle.oz_semantics.specs.declared.value.Tell.TheVariants.{Equal, Is, Within}
use Rattle.term_store.specs.Places.{value_told, gives_value, value_place, PlacesTellApart, PlacesTellValues}

-- The first place that passes a test

module _ {A : Type 0} (p : A → Bool) where
  pub place_found : (xs : List A) (i : ℕ) (x : A) → slice_get xs i ≡ Some x → p x ≡ true → ((k : ℕ) (y : A) → k < i → slice_get xs k ≡ Some y → p y ≡ false) → position p xs ≡ Some i
  place_found xs i x at passes before =
      let within : i < length xs = slice_get_within xs i x at in
      let is = position_or_len_is p xs i x (omega (arith, within))
      (λ k l. before k (get_or xs k x) l (slice_get-get_or xs k x (omega (arith, l, within))))
      (λ _. ap p (get_or_from_slice_get xs i x x at) ∙ passes) in
      grind (arith, is, within)

  pub place_absent : (xs : List A) → ((k : ℕ) (y : A) → slice_get xs k ≡ Some y → p y ≡ false) → position p xs ≡ None
  place_absent [] never = refl
  place_absent (x ∷ xs) never = by (position p (x ∷ xs)) refl
    where
      by : (o : Option ℕ) → position p (x ∷ xs) ≡ o → o ≡ None
      by None e = refl
      by (Some i) e =
          let found = position-Some p (x ∷ xs) i x e in
          absurd (true≢false (sym found.1 ∙ never i (get_or (x ∷ xs) i x) (slice_get-get_or (x ∷ xs) i x found.0)))

  pub place_here : (x : A) (xs : List A) → p x ≡ true → position p (x ∷ xs) ≡ Some 0
  place_here x xs e = rw e (grind arith)

  pub place_later : (x : A) (xs : List A) → p x ≡ false → position p (x ∷ xs) ≡ option_map (λ n. suc n) (position p xs)
  place_later x xs e = rw e (grind (arith, common_steps))

-- The value that is told at the place

module _ (f : Tell → Option Value) (read : (t : Tell) (v : Value) → f t ≡ Some v → value_told (Some t) ≡ Some v) where
  at_later : (t : Tell) (ts : List Tell) (o : Option ℕ) → option_and_then (λ p. value_told (slice_get (t ∷ ts) p)) (option_map (λ n. suc n) o) ≡ option_and_then (λ p. value_told (slice_get ts p)) o
  at_later t ts None = refl
  at_later t ts (Some n) = refl

  given_at : (ts : List Tell) → first_given f ts ≡ option_and_then (λ p. value_told (slice_get ts p)) (position (λ t. is_some (f t)) ts)
  given_at [] = refl
  given_at (t ∷ ts) = by (f t) refl (given_at ts)
    where
      by : (o : Option Value) → f t ≡ o → first_given f ts ≡ option_and_then (λ p. value_told (slice_get ts p)) (position (λ t. is_some (f t)) ts)
          → given_or o (first_given f ts) ≡ option_and_then (λ p. value_told (slice_get (t ∷ ts) p)) (position (λ t. is_some (f t)) (t ∷ ts))
      by (Some v) e rest = sym (ap (option_and_then (λ p. value_told (slice_get (t ∷ ts) p))) (place_here (λ t. is_some (f t)) t ts (ap is_some e)) ∙ read t v e)
      by None e rest =
          rest
          ∙ sym (at_later t ts (position (λ t. is_some (f t)) ts))
          ∙ sym (ap (option_and_then (λ p. value_told (slice_get (t ∷ ts) p))) (place_later (λ t. is_some (f t)) t ts (ap is_some e)))

read_given : (ts : List Tell) (x : Ident) (t : Tell) (v : Value) → value_given (λ y. same ts y x) t ≡ Some v → value_told (Some t) ≡ Some v
read_given ts x (Equal a b) v e = cc
read_given ts x (Within a is) v e = cc
read_given ts x (Is y w) v e = by (same ts y x) e
  where
    by : (b : Bool) → (if b then Some w else None) ≡ Some v → Some w ≡ Some v
    by true k = k
    by false k = cc

pub places_tell_values : PlacesTellValues
places_tell_values ts x = given_at (value_given (λ y. same ts y x)) (read_given ts x) ts

-- the value by what is known of the place
pub value_at_place : (ts : List Tell) (x : Ident) (o : Option ℕ) → o ≡ value_place ts x → option_and_then (λ p. value_told (slice_get ts p)) o ≡ told_value ts x
value_at_place ts x o e = ap (option_and_then (λ p. value_told (slice_get ts p))) e ∙ sym (places_tell_values ts x)

-- Places and classes

same_given : (ts : List Tell) (x y : Ident) (v : Value) → is_some (value_given (λ z. same ts z x) (Is y v)) ≡ true → same ts y x ≡ true
same_given ts x y v e = by (same ts y x) refl e
  where
    by : (b : Bool) → same ts y x ≡ b → is_some (if b then Some v else None) ≡ true → b ≡ true
    by true q k = refl
    by false q k = k

both_given : TestsSame → (ts : List Tell) (x y : Ident) (t : Tell) → gives_value ts x t ≡ true → gives_value ts y t ≡ true → same ts x y ≡ true
both_given law ts x y (Equal a b) e f = cc
both_given law ts x y (Within a is) e f = cc
both_given law ts x y (Is z v) e f = (law ts x y).1 (joined (reversed ((law ts z x).0 (same_given ts x z v e))) ((law ts z y).0 (same_given ts y z v f)))

one_place : (o : Option ℕ) (p q : ℕ) → o ≡ Some p → o ≡ Some q → p ≡ q
one_place None p q e f = cc
one_place (Some n) p q e f = cc

pub places_tell_apart : TestsSame → PlacesTellApart
places_tell_apart law ts x y p q e f = (
  λ s. one_place (value_place ts y) p q (sym (ap (λ (test : Tell → Bool). position test ts) (λ i t. is_some (given_row ts x y ((law ts x y).0 s) t i))) ∙ e) f,
  λ same_place.
      let d = Equal x x in
      let at_x = position-Some (gives_value ts x) ts p d e in
      let at_y = position-Some (gives_value ts y) ts q d f in
      both_given law ts x y (get_or ts p d) at_x.1 (subst (λ i. gives_value ts y (get_or ts i d) ≡ true) (sym same_place) at_y.1),
)
