-- Among classes with values one is found by the place of its value.
use Rattle.std.proofs.Common.{◌≡◌, ◌∙◌, ℕ, suc, nat_eq, Bool, true, false, List, [], ◌∷◌, Option, Some, None, length, slice_get, position, refl, sym, ap, arith}
use Rattle.std.specs.List.{position_or_len}
use Rattle.std.specs.Option.{IsSome, option_and_then}
use Rattle.std.proofs.lemmas.Bool.Decides.{nat_tests}
use Rattle.oz_base.specs.declared.names.Ident.{Ident}
use Rattle.oz_semantics.specs.Store.{same, told_value, value_of}
use Rattle.oz_laws.proofs.StoreLaws.{record_told}
use Rattle.oz_semantics.specs.declared.value.Record.{Record}
use Rattle.oz_semantics.specs.declared.value.Value.{Value}
use Rattle.oz_semantics.specs.declared.value.Value.TheVariants as value
use Rattle.oz_semantics.specs.declared.value.Tell.{Tell}
use Rattle.term_store.specs.Places.{value_place, value_told, PlacesTellApart, PlacesTellValues}
use Rattle.term_text.specs.Placing.{ArePlaced}

same_place : PlacesTellApart → (view : List Tell) (x y : Ident) (p q : ℕ) → value_place view x ≡ Some p → value_place view y ≡ Some q → nat_eq p q ≡ same view x y
same_place law view x y p q e k = by (nat_eq p q) refl (same view x y) refl
  where
    by : (b : Bool) → nat_eq p q ≡ b → (c : Bool) → same view x y ≡ c → b ≡ c
    by true s c t = sym ((law view x y p q e k).1 (grind (arith, nat_tests, s))) ∙ t
    by false s true t =
        let i : p ≡ q = (law view x y p q e k).0 t in
        absurd (grind (arith, nat_tests, s, i))
    by false s false t = refl

first_placed : PlacesTellApart → (view : List Tell) (x : Ident) (p : ℕ) → value_place view x ≡ Some p → (xs : List Ident) (places : List ℕ) → ArePlaced view xs places
    → (position_or_len (nat_eq p) places ≡ position_or_len (same view x) xs) × (length places ≡ length xs)
first_placed law view x p e [] [] h = (refl, refl)
first_placed law view x p e [] (q ∷ places) h = absurd (cc)
first_placed law view x p e (y ∷ ys) [] h = absurd (cc)
first_placed law view x p e (y ∷ ys) (q ∷ places) h =
    let k : value_place view y ≡ Some q = cc in
    let rest : ArePlaced view ys places = cc in
    let on = first_placed law view x p e ys places rest in
    (rw (same_place law view x y p q e k, on.0) refl, ap suc on.1)

pub position_placed : PlacesTellApart → (view : List Tell) (x : Ident) (p : ℕ) (xs : List Ident) (places : List ℕ) → value_place view x ≡ Some p → ArePlaced view xs places → position (nat_eq p) places ≡ position (same view x) xs
position_placed law view x p xs places e h =
    let f = first_placed law view x p e xs places h in
    rw (f.0, f.1) refl

-- a class with a record has a place
value_placed : PlacesTellValues → (view : List Tell) (x : Ident) (v : Value) (o : Option ℕ) → told_value view x ≡ Some v → o ≡ value_place view x → IsSome o
value_placed law view x v None e k =
    let none : told_value view x ≡ None = law view x ∙ ap (option_and_then (λ p. value_told (slice_get view p))) (sym k) in
    absurd (cc)
value_placed law view x v (Some p) e k = refl

pub record_placed : PlacesTellValues → (view : List Tell) (x : Ident) (r : Record) (o : Option ℕ) → value_of view x ≡ Some (value.Record r) → o ≡ value_place view x → IsSome o
record_placed law view x r o e k = value_placed law view x (value.Record r) o (record_told view x r e) k

-- the innermost record is closed
pub rest_placed : (view : List Tell) (x : Ident) (xs : List Ident) (places rest : List ℕ) → ArePlaced view (x ∷ xs) places → ((p : ℕ) (ps : List ℕ) → places ≡ p ∷ ps → rest ≡ ps) → ArePlaced view xs rest
rest_placed view x xs [] rest h closed = absurd (cc)
rest_placed view x xs (p ∷ ps) rest h closed =
    let e : rest ≡ ps = closed p ps refl in
    rw e (cc)
