-- By-need computations of a space that begin, at the place of the space.
use Rattle.std.proofs.Common.{◌≡◌, inl, inr, ℕ, zero, suc, ◌+◌, ◌<◌, nat_eq, Bool, true, false, if◌then◌else◌, List, [], ◌∷◌, ◌++◌, length, take, get_or, slice_set, slice_index_or, refl, sym, ap, ap₂, subst, ◌∙◌, arith, Option, Some, None, Result, Ok, Err}
use Rattle.std.specs.Prelude.{OnOk, OnErr, position}
use Rattle.std.specs.List.{fold}
use Rattle.std.proofs.lemmas.List.{get_or-map, map-set, length-map, take_more, append-nil}
use Rattle.oz_semantics.specs.Configurations.{is_of, layer_at, spawning, applying}
use Rattle.oz_semantics.specs.Triggers.{beginning}
use Rattle.oz_semantics.specs.declared.configuration.Frame.{Frame}
use Rattle.oz_semantics.specs.declared.configuration.Trigger.{Trigger}
use Rattle.oz_semantics.specs.declared.configuration.Layer.{Layer}
use Rattle.oz_laws.proofs.SameLaws.{eq-true}
use Rattle.view_laws.proofs.Members.{decide}
use Rattle.space_core.specs.Firing.{marked, unmarked, firing, at_place}
use Rattle.space_core.specs.Places.{IsFirst}
use Rattle.space_core.specs.Shown.{shown, shown_all, IsSound, IsQuiet, IsChanged}
use Rattle.space_core.specs.declared.level.Level.{Level}
use Rattle.space_core.proofs.CatchLaws.{quiet_twice}
use Rattle.space_core.proofs.Firsts.{Found, found_by_position}
use Rattle.space_core.proofs.SoundLaws.{quiet_edit}
use Rattle.space_core.proofs.TellLaws.{other_name, layer_found}

-- Marks

pub marked_none : (marks : List Bool) → ◌≡◌ {A = List Trigger} (marked marks []) []
marked_none [] = refl
marked_none (mark ∷ marks) = refl

pub unmarked_none : (marks : List Bool) → ◌≡◌ {A = List Trigger} (unmarked marks []) []
unmarked_none [] = refl
unmarked_none (mark ∷ marks) = refl

-- one more that is looked at
marked_suc : (n : ℕ) (marks : List Bool) (ts : List Trigger) (t : Trigger) → n < length ts → t ≡ get_or ts n t
    → marked marks (take (suc n) ts) ≡ marked marks (take n ts) ++ (if get_or marks n false then t ∷ [] else [])
marked_suc n marks [] t within e = absurd (omega (arith, within))
marked_suc zero [] (x ∷ xs) t within e = refl
marked_suc zero (true ∷ marks) (x ∷ xs) t within e = ap (λ ys. x ∷ ys) (marked_none marks) ∙ ap (λ (y : Trigger). y ∷ []) (sym e)
marked_suc zero (false ∷ marks) (x ∷ xs) t within e = marked_none marks
marked_suc (suc n) [] (x ∷ xs) t within e = refl
marked_suc (suc n) (true ∷ marks) (x ∷ xs) t within e = ap (λ ys. x ∷ ys) (marked_suc n marks xs t (omega (arith, within)) e)
marked_suc (suc n) (false ∷ marks) (x ∷ xs) t within e = marked_suc n marks xs t (omega (arith, within)) e

unmarked_suc : (n : ℕ) (marks : List Bool) (ts : List Trigger) (t : Trigger) → n < length ts → t ≡ get_or ts n t
    → unmarked marks (take (suc n) ts) ≡ unmarked marks (take n ts) ++ (if get_or marks n false then [] else t ∷ [])
unmarked_suc n marks [] t within e = absurd (omega (arith, within))
unmarked_suc zero [] (x ∷ xs) t within e = ap (λ (y : Trigger). y ∷ []) (sym e)
unmarked_suc zero (true ∷ marks) (x ∷ xs) t within e = unmarked_none marks
unmarked_suc zero (false ∷ marks) (x ∷ xs) t within e = ap (λ ys. x ∷ ys) (unmarked_none marks) ∙ ap (λ (y : Trigger). y ∷ []) (sym e)
unmarked_suc (suc n) [] (x ∷ xs) t within e = ap (λ ys. x ∷ ys) (unmarked_suc n [] xs t (omega (arith, within)) e)
unmarked_suc (suc n) (true ∷ marks) (x ∷ xs) t within e = unmarked_suc n marks xs t (omega (arith, within)) e
unmarked_suc (suc n) (false ∷ marks) (x ∷ xs) t within e = ap (λ ys. x ∷ ys) (unmarked_suc n marks xs t (omega (arith, within)) e)

-- an item stands at each place within a list
item_in : (ts : List Trigger) (n : ℕ) → n < length ts → (t : Trigger) × (t ≡ get_or ts n t)
item_in [] n h = absurd (omega (arith, h))
item_in (x ∷ xs) zero h = (x, refl)
item_in (x ∷ xs) (suc n) h = item_in xs n (omega (arith, h))

marked_more : (marks : List Bool) (ts : List Trigger) (n : ℕ) (t : Trigger) → n < length ts → t ≡ get_or ts n t → (b : Bool) → b ≡ get_or marks n false
    → marked marks (take (n + 1) ts) ≡ marked marks (take n ts) ++ (if b then t ∷ [] else [])
marked_more marks ts n t within e b k =
    let more : n + 1 ≡ suc n = omega arith in
    ap (λ i. marked marks (take i ts)) more ∙ marked_suc n marks ts t within e ∙ ap (λ c. marked marks (take n ts) ++ (if c then t ∷ [] else [])) (sym k)

unmarked_more : (marks : List Bool) (ts : List Trigger) (n : ℕ) (t : Trigger) → n < length ts → t ≡ get_or ts n t → (b : Bool) → b ≡ get_or marks n false
    → unmarked marks (take (n + 1) ts) ≡ unmarked marks (take n ts) ++ (if b then [] else t ∷ [])
unmarked_more marks ts n t within e b k =
    let more : n + 1 ≡ suc n = omega arith in
    ap (λ i. unmarked marks (take i ts)) more ∙ unmarked_suc n marks ts t within e ∙ ap (λ c. unmarked marks (take n ts) ++ (if c then [] else t ∷ [])) (sym k)

-- one that is marked, and one that is not
pub marked_joins : (marks : List Bool) (ts : List Trigger) (n : ℕ) (t : Trigger) → n < length ts → t ≡ get_or ts n t → (old new : List Trigger) (y : Trigger) → old ≡ marked marks (take n ts)
    → new ≡ old ++ y ∷ [] → y ≡ t → true ≡ get_or marks n false → new ≡ marked marks (take (n + 1) ts)
marked_joins marks ts n t within e old new y o a same k =
    a ∙ ap₂ (λ (xs : List Trigger) (x : Trigger). xs ++ x ∷ []) o same ∙ sym (marked_more marks ts n t within e true k)

pub marked_passes : (marks : List Bool) (ts : List Trigger) (n : ℕ) → n < length ts → (old : List Trigger) → old ≡ marked marks (take n ts) → false ≡ get_or marks n false → old ≡ marked marks (take (n + 1) ts)
marked_passes marks ts n within old o k =
    let item = item_in ts n within in o ∙ sym (append-nil (marked marks (take n ts))) ∙ sym (marked_more marks ts n item.0 within item.1 false k)

pub unmarked_joins : (marks : List Bool) (ts : List Trigger) (n : ℕ) (t : Trigger) → n < length ts → t ≡ get_or ts n t → (old new : List Trigger) (y : Trigger) → old ≡ unmarked marks (take n ts)
    → new ≡ old ++ y ∷ [] → y ≡ t → false ≡ get_or marks n false → new ≡ unmarked marks (take (n + 1) ts)
unmarked_joins marks ts n t within e old new y o a same k =
    a ∙ ap₂ (λ (xs : List Trigger) (x : Trigger). xs ++ x ∷ []) o same ∙ sym (unmarked_more marks ts n t within e false k)

pub unmarked_passes : (marks : List Bool) (ts : List Trigger) (n : ℕ) → n < length ts → (old : List Trigger) → old ≡ unmarked marks (take n ts) → true ≡ get_or marks n false → old ≡ unmarked marks (take (n + 1) ts)
unmarked_passes marks ts n within old o k =
    let item = item_in ts n within in o ∙ sym (append-nil (unmarked marks (take n ts))) ∙ sym (unmarked_more marks ts n item.0 within item.1 true k)

-- Threads that begin

pub begun_as : {A E : Type 0} (r : Result A E) (fs : List Frame) (t : Trigger) (l m : Level) → fs ≡ applying t.procedure t.variable ∷ [] → OnOk r (IsQuiet (spawning fs) l m)
    → OnOk r (IsQuiet (λ k. beginning k t) l m)
begun_as r fs t l m e q = subst (λ (gs : List Frame). OnOk r (IsQuiet (spawning gs) l m)) e q

fold_end : (ts : List Trigger) (t : Trigger) (l : Layer) → fold beginning l (ts ++ t ∷ []) ≡ beginning (fold beginning l ts) t
fold_end [] t l = refl
fold_end (x ∷ xs) t l = fold_end xs t (beginning l x)

pub began_more : (ts : List Trigger) (n : ℕ) (t : Trigger) (k l m : Level) → n < length ts → t ≡ get_or ts n t → IsQuiet (λ j. fold beginning j (take n ts)) k l → IsQuiet (λ j. beginning j t) l m
    → IsQuiet (λ j. fold beginning j (take (n + 1) ts)) k m
began_more ts n t k l m within e p q =
    subst (λ (f : Layer → Layer). IsQuiet f k m)
    (λ i j. sym (ap (fold beginning j) (take_more ts n t within ∙ ap (λ (y : Trigger). take n ts ++ y ∷ []) (sym e)) ∙ fold_end (take n ts) t j) i)
    (quiet_twice (λ j. fold beginning j (take n ts)) (λ j. beginning j t) k l m p q)

-- nothing is changed
pub nothing_yet : (l : Level) → IsQuiet (λ k. k) l l
nothing_yet l = record { becomes = refl; space = refl; store = refl; told_from = refl; touched = refl; traced = refl; knows = refl; bare = refl; variables = omega arith; children = omega arith }

-- other triggers are left
pub left_quietly : (l : Level) (left : List Trigger) → IsQuiet (λ k. record k { triggers = left }) l (record l { triggers = left })
left_quietly l left = record { becomes = refl; space = refl; store = refl; told_from = refl; touched = refl; traced = refl; knows = refl; bare = refl; variables = omega arith; children = omega arith }

pub fired_quietly : (marks : List Bool) (l m : Level) (begun left : List Trigger) → begun ≡ marked marks l.triggers → left ≡ unmarked marks l.triggers
    → IsQuiet (λ k. fold beginning k begun) (record l { triggers = left }) m → IsQuiet (firing marks) l m
fired_quietly marks l m begun left b e q = record {
  becomes = q.becomes ∙ ap (λ (ts : List Trigger). fold beginning (record (shown l) { triggers = ts }) begun) e
      ∙ ap (λ (ts : List Trigger). fold beginning (record (shown l) { triggers = unmarked marks l.triggers }) ts) b;
  space = q.space;
  store = q.store;
  told_from = q.told_from;
  touched = q.touched;
  traced = q.traced;
  knows = q.knows;
  bare = q.bare;
  variables = q.variables;
  children = q.children;
}

pub changed_quietly : (l m : Level) (left : List Trigger) → IsChanged (record l { triggers = left }) m → IsChanged l m
changed_quietly l m left h =
    (λ k. h.0 (record k { triggers = left }), quiet_twice (λ k. record k { triggers = left }) h.0 l (record l { triggers = left }) m (left_quietly l left) h.1)

pub changed_so_far : (change : Layer → Layer) (k l m : Level) → IsQuiet change k l → m ≡ l → IsChanged k m
changed_so_far change k l m q e = (change, subst (IsQuiet change k) (sym e) q)

pub changed_err : {A E : Type 0} (r : Result A E) (k m : Level) → IsChanged k m → OnErr r (IsChanged k m)
changed_err (Ok a) k m q = tt
changed_err (Err b) k m q = q

pub nothing_changed : (l m : Level) → m ≡ l → IsChanged l m
nothing_changed l m e = ((λ k. k), subst (IsQuiet (λ k. k) l) (sym e) (nothing_yet l))

-- by what a call answers
pub fired_result : {A E : Type 0} (marks : List Bool) (l m : Level) (begun left : List Trigger) → begun ≡ marked marks l.triggers → left ≡ unmarked marks l.triggers → (r : Result A E)
    → OnOk r (IsQuiet (λ k. fold beginning k begun) (record l { triggers = left }) m) → OnOk r (IsQuiet (firing marks) l m)
fired_result marks l m begun left b e (Ok a) q = fired_quietly marks l m begun left b e q
fired_result marks l m begun left b e (Err a) q = q

pub changed_result : {A E : Type 0} (l m : Level) (left : List Trigger) (r : Result A E) → OnErr r (IsChanged (record l { triggers = left }) m) → OnErr r (IsChanged l m)
changed_result l m left (Ok a) q = q
changed_result l m left (Err a) q = changed_quietly l m left q

-- The place of a space

pub set_at : {A : Type 0} (xs : List A) (place : ℕ) (x : A) (change : A → A) → place < length xs → x ≡ get_or xs place x → slice_set xs place (change x) ≡ at_place place change xs
set_at [] place x change within e = absurd (omega (arith, within))
set_at {A = A} (y ∷ ys) zero x change within e = ap (λ (z : A). change z ∷ ys) e
set_at (y ∷ ys) (suc n) x change within e = ap (λ zs. y ∷ zs) (set_at ys n x change (omega (arith, within)) e)

module _ (levels : List Level) (s : IsSound levels) (place : ℕ) (within : place < length levels) (l : Level) (e : l ≡ slice_index_or levels place l) where
  abbrev layers : List Layer
  layers = shown_all levels

  pub shown_within : place < length layers
  shown_within = omega (arith, within, length-map levels shown)

  pub shown_item : get_or layers place (shown l) ≡ shown l
  shown_item = get_or-map shown levels place l (shown l) within ∙ ap shown (sym e)

  at_own_place : (o : Option ℕ) → Found (is_of l.space) layers o → layer_at layers l.space ≡ Some (shown l) → IsFirst (is_of l.space) layers place (shown l)
  at_own_place None h found = let none = h.none in absurd (cc)
  at_own_place (Some p) h found =
      let here = h.1.found in
      let same : h.0 ≡ shown l = cc in
      elim (decide (nat_eq p place)) [
        | inl q ↦ subst (λ n. IsFirst (is_of l.space) layers n (shown l)) (eq-true p place q) (subst (IsFirst (is_of l.space) layers p) same h.1)
        | inr q ↦ absurd (other_name layers p place h.0 (shown l) s.tree.ordered h.1.within shown_within h.1.item shown_item (λ k. absurd (grind (arith, q, k))) (ap (λ (k : Layer). k.space) same))
      ]

  pub own_place : IsFirst (is_of l.space) layers place (shown l)
  own_place = at_own_place (position (is_of l.space) layers) (found_by_position (is_of l.space) layers) (layer_found levels s l (place, within, sym e))

  pub edit_sound : (m : Level) (change : Layer → Layer) → IsQuiet change l m → IsSound (slice_set levels place m)
  edit_sound m change q = (quiet_edit levels l.space place (shown l) own_place l m e change q s).sound

  pub edit_shows : (m : Level) (change : Layer → Layer) → IsQuiet change l m → shown_all (slice_set levels place m) ≡ at_place place change layers
  edit_shows m change q = map-set shown levels place m ∙ ap (slice_set layers place) q.becomes ∙ set_at layers place (shown l) change shown_within (sym shown_item)

module _ (levels : List Level) (value : List Layer) (viewed : shown_all levels ≡ value) (s : IsSound levels) (place : ℕ) (within : place < length value) (l m : Level) (e : l ≡ slice_index_or levels place l)
    (change : Layer → Layer) where
  pub inside : place < length levels
  inside = omega (arith, within, length-map levels shown, ap length viewed)

  pub placed_sound : {A E : Type 0} (r : Result A E) → OnOk r (IsQuiet change l m) → OnErr r (IsChanged l m) → IsSound (slice_set levels place m)
  placed_sound (Ok a) q f = edit_sound levels s place inside l e m change q
  placed_sound (Err b) q f = edit_sound levels s place inside l e m f.0 f.1

  pub placed_shows : {A E : Type 0} (r : Result A E) → OnOk r (IsQuiet change l m) → OnOk r (shown_all (slice_set levels place m) ≡ at_place place change value)
  placed_shows (Ok a) q = edit_shows levels s place inside l e m change q ∙ ap (at_place place change) viewed
  placed_shows (Err b) q = q
