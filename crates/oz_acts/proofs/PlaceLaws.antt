-- The place of a space in the list of layers.
use Rattle.std.proofs.Common.{◌≡◌, ℕ, suc, ◌<◌, Bool, true, false, cond, List, [], ◌∷◌, length, Option, Some, None, refl, sym, ap, subst, ◌∙◌, arith}
use Rattle.std.specs.Prelude.{position, slice_get, is_some, unwrap_or}
use Rattle.std.specs.Option.{option_map}
use Rattle.std.specs.List.{find}
use Rattle.std.proofs.lemmas.Grind.{common_steps}
use Rattle.oz_base.specs.ListLaws.{list_eq-decides}
use Rattle.oz_semantics.specs.Configurations.{is_of, layer_at, new_layer, layer_of, view}
use Rattle.oz_semantics.specs.Store.{View}
use Rattle.oz_semantics.specs.declared.configuration.Layer.{Layer}
use Rattle.space_core.specs.Levels.{OfLayer}

-- the first item that passes stands at this place
record IsFirst {A : Type 0} (test : A → Bool) (xs : List A) (place : ℕ) (x : A) : Type 0 where
  within : place < length xs
  item : slice_get xs place ≡ Some x
  found : find test xs ≡ Some x
  passes : test x ≡ true

abbrev Found : {A : Type 0} → (A → Bool) → List A → Option ℕ → Type 0
Found test xs None = find test xs ≡ None
Found {A} test xs (Some place) = (x : A) × IsFirst test xs place x

position_here : {A : Type 0} (test : A → Bool) (x : A) (xs : List A) → test x ≡ true → position test (x ∷ xs) ≡ Some 0
position_here test x xs e = rw e (grind arith)

position_later : {A : Type 0} (test : A → Bool) (x : A) (xs : List A) → test x ≡ false → position test (x ∷ xs) ≡ option_map (λ n. suc n) (position test xs)
position_later test x xs e = rw e (grind (arith, common_steps))

later : {A : Type 0} (test : A → Bool) (x : A) (xs : List A) (at : Option ℕ) → test x ≡ false → Found test xs at → Found test (x ∷ xs) (option_map (λ n. suc n) at)
later test x xs None e h = rw e h
later test x xs (Some n) e h = (h.0, record { within = let w = h.1.within in omega arith; item = h.1.item; found = rw e h.1.found; passes = h.1.passes })

at_head : {A : Type 0} (test : A → Bool) (x : A) (xs : List A) (b : Bool) → test x ≡ b → Found test xs (position test xs) → Found test (x ∷ xs) (position test (x ∷ xs))
at_head test x xs true e h =
    subst (Found test (x ∷ xs)) (sym (position_here test x xs e)) (x, record { within = omega arith; item = refl; found = rw e refl; passes = e })
at_head test x xs false e h = subst (Found test (x ∷ xs)) (sym (position_later test x xs e)) (later test x xs (position test xs) e h)

found_by_position : {A : Type 0} (test : A → Bool) (xs : List A) → Found test xs (position test xs)
found_by_position test [] = refl
found_by_position test (x ∷ xs) = at_head test x xs (test x) refl (found_by_position test xs)

-- the space is there, and stands at this place
pub record IsPlaced (layers : List Layer) (space : List ℕ) (place : ℕ) (l : Layer) : Type 0 where
  pub within : place < length layers
  pub item : slice_get layers place ≡ Some l
  pub found : layer_at layers space ≡ Some l
  pub name : l.space ≡ space

abbrev pub IsPlace : List Layer → List ℕ → Option ℕ → Type 0
IsPlace layers space None = layer_at layers space ≡ None
IsPlace layers space (Some place) = (l : Layer) × IsPlaced layers space place l

name_from_test : (space : List ℕ) (l : Layer) → is_of space l ≡ true → l.space ≡ space
name_from_test space l e = (list_eq-decides l.space space).0 e

from_found : (layers : List Layer) (space : List ℕ) (at : Option ℕ) → Found (is_of space) layers at → IsPlace layers space at
from_found layers space None h = h
from_found layers space (Some place) h =
    (h.0, record { within = h.1.within; item = h.1.item; found = h.1.found; name = name_from_test space h.0 h.1.passes })

-- what `place` finds
pub place_found : (layers : List Layer) (space : List ℕ) (at : Option ℕ) → at ≡ position (is_of space) layers → IsPlace layers space at
place_found layers space at e = subst (IsPlace layers space) (sym e) (from_found layers space (position (is_of space) layers) (found_by_position (is_of space) layers))

pub place_none : (layers : List Layer) (space : List ℕ) → None ≡ position (is_of space) layers → layer_at layers space ≡ None
place_none layers space e = place_found layers space None e

pub place_some : (layers : List Layer) (space : List ℕ) (place : ℕ) → Some place ≡ position (is_of space) layers → (l : Layer) × IsPlaced layers space place l
place_some layers space place e = place_found layers space (Some place) e

pub place_within : (layers : List Layer) (space : List ℕ) (place : ℕ) → Some place ≡ position (is_of space) layers → place < length layers
place_within layers space place e = (place_some layers space place e).1.within

-- the layer at the place is the space's
pub place_layer : (layers : List Layer) (space : List ℕ) (place : ℕ) → Some place ≡ position (is_of space) layers → slice_get layers place ≡ layer_at layers space
place_layer layers space place e = (place_some layers space place e).1.item ∙ sym (place_some layers space place e).1.found

-- and so the space is there
pub place_there : (layers : List Layer) (space : List ℕ) (place : ℕ) → Some place ≡ position (is_of space) layers → is_some (layer_at layers space) ≡ true
place_there layers space place e = ap is_some (place_some layers space place e).1.found

pub place_seen : (layers : List Layer) (space : List ℕ) (at : Option ℕ) → at ≡ position (is_of space) layers → is_some at ≡ true → is_some (layer_at layers space) ≡ true
place_seen layers space None e h = absurd (cc)
place_seen layers space (Some place) e h = place_there layers space place e

-- what is seen at the place is what the space sees
pub place_view : (layers : List Layer) (space : List ℕ) (place : ℕ) (seen : View) → Some place ≡ position (is_of space) layers → OfLayer layers place (λ l. seen ≡ view layers l.space) → seen ≡ view layers space
place_view layers space place seen e h = let there = place_some layers space place e in h there.0 there.1.item ∙ ap (view layers) there.1.name

-- a layer that is found has the name that was sought
pub found_name : (layers : List Layer) (space : List ℕ) (l : Layer) → layer_at layers space ≡ Some l → l.space ≡ space
found_name [] space l e = absurd (cc)
found_name (k ∷ ks) space l e = by (is_of space k) refl e (found_name ks space l)
  where
    by : (b : Bool) → is_of space k ≡ b → cond b (Some k) (layer_at ks space) ≡ Some l → (layer_at ks space ≡ Some l → l.space ≡ space) → l.space ≡ space
    by true t f rest = let same : k ≡ l = cc in subst (λ (m : Layer). m.space ≡ space) same (name_from_test space k t)
    by false t f rest = rest f

-- the layer of a space has its name, there or not
pub layer_of_name : (layers : List Layer) (space : List ℕ) → (layer_of layers space).space ≡ space
layer_of_name layers space = by (layer_at layers space) refl
  where
    by : (o : Option Layer) → layer_at layers space ≡ o → (unwrap_or o (new_layer space)).space ≡ space
    by None e = refl
    by (Some l) e = found_name layers space l e

-- it stands at the place
pub place_own : (layers : List Layer) (space : List ℕ) (place : ℕ) → Some place ≡ position (is_of space) layers → slice_get layers place ≡ Some (layer_of layers space)
place_own layers space place e =
    let there = place_some layers space place e in
    there.1.item ∙ ap (λ (o : Option Layer). Some (unwrap_or o (new_layer space))) (sym there.1.found)

-- and where the space is not there, its layer is a new one
pub place_new : (layers : List Layer) (space : List ℕ) → None ≡ position (is_of space) layers → layer_of layers space ≡ new_layer space
place_new layers space e = ap (λ (o : Option Layer). unwrap_or o (new_layer space)) (place_none layers space e)
