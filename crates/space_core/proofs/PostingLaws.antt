-- Propagators of a space that is kept.
use Rattle.std.proofs.Common.{◌≡◌, ℕ, zero, suc, ◌<◌, ◌≤◌, arith, length, Bool, List, [], ◌∷◌, slice_set, slice_index_or, refl, sym, ap, subst, ◌∙◌, Some, slice_get, Ok}
use Rattle.std.specs.Prelude.{position}
use Rattle.std.proofs.lemmas.Option.{slice_get-get_or}
use Rattle.oz_base.specs.Lists.{edit_first}
use Rattle.oz_base.specs.declared.interval.Interval.{Interval}
use Rattle.oz_semantics.specs.Store.{View}
use Rattle.oz_semantics.specs.Configurations.{in_layer}
use Rattle.oz_semantics.specs.Propagation.{is_due, noting}
use Rattle.oz_semantics.specs.declared.configuration.LastRun.TheVariants.{Saw}
use Rattle.oz_semantics.specs.declared.configuration.Propagator.{Propagator}
use Rattle.oz_semantics.specs.declared.configuration.Layer.{Layer}
use Rattle.space_core.specs.Firing.{at_place}
use Rattle.space_core.specs.Places.{IsFirst}
use Rattle.space_core.specs.Propagators.{noting_at}
use Rattle.space_core.specs.Shown.{shown, shown_all, IsSound, IsQuiet}
use Rattle.space_core.specs.declared.level.Level.{Level}
use Rattle.space_core.proofs.Firsts.{found_at}
use Rattle.space_core.proofs.FiringLaws.{set_at, shown_within, shown_item, own_place, inside, placed_sound, placed_shows}

-- behind the last item nothing changes
pub at_none : {A : Type 0} (xs : List A) (n : ℕ) (change : A → A) → length xs ≤ n → at_place n change xs ≡ xs
at_none [] n change h = refl
at_none (x ∷ xs) zero change h = absurd (omega (arith, h))
at_none (x ∷ xs) (suc n) change h = ap (λ ys. x ∷ ys) (at_none xs n change (omega (arith, h)))

-- at an index that was compared with the length
pub noted_there : {A : Type 0} (xs : List A) (n len : ℕ) → len ≡ length xs → n < len → (x : A) → x ≡ slice_index_or xs n x → (change : A → A) → slice_set xs n (change x) ≡ at_place n change xs
noted_there xs n len e h x at change = set_at xs n x change (omega (arith, h, e)) at

pub noted_nowhere : {A : Type 0} (xs : List A) (n len : ℕ) → len ≡ length xs → len ≤ n → (change : A → A) → xs ≡ at_place n change xs
noted_nowhere xs n len e h change = sym (at_none xs n change (omega (arith, h, e)))

-- where the first item that passes is changed
pub first_at : {A : Type 0} (test : A → Bool) (change : A → A) (xs : List A) (n : ℕ) → position test xs ≡ Some n → at_place n change xs ≡ edit_first test change xs
first_at {A = A} test change xs n e =
    let f : (x : A) × IsFirst test xs n x = found_at test xs (Some n) (sym e) in
    sym (set_at xs n f.0 change f.1.within (sym f.1.item)) ∙ sym (f.1.edited change)

-- the propagator at a place is the first that is due
pub noting_is : (view : View) (n : ℕ) (ds : List (List Interval)) (l : Layer) → position (is_due view) l.propagators ≡ Some n → noting_at n ds l ≡ noting view ds l
noting_is view n ds l e = ap (λ (ps : List Propagator). record l { propagators = ps }) (first_at (is_due view) (λ (p : Propagator). record p { last = Saw ds }) l.propagators n e)

module _ (levels : List Level) (value : List Layer) (viewed : shown_all levels ≡ value) (s : IsSound levels) (place : ℕ) (within : place < length value) (l m : Level) (e : l ≡ slice_index_or levels place l)
    (index : ℕ) (seen : List (List Interval)) (q : IsQuiet (noting_at index seen) l m) where
  pub noted_sound : IsSound (slice_set levels place m)
  noted_sound = placed_sound levels value viewed s place within l m e (noting_at index seen) {A = ℕ} {E = ℕ} (Ok 0) q tt

  pub noted_shows : shown_all (slice_set levels place m) ≡ at_place place (noting_at index seen) value
  noted_shows = placed_shows levels value viewed s place within l m e (noting_at index seen) {A = ℕ} {E = ℕ} (Ok 0) q

  abbrev within_levels : place < length levels
  within_levels = inside levels value viewed s place within l m e (noting_at index seen)

  stands : slice_get (shown_all levels) place ≡ Some (shown l)
  stands =
      slice_get-get_or (shown_all levels) place (shown l) (shown_within levels s place within_levels l e)
      ∙ ap (λ (x : Layer). Some x) (shown_item levels s place within_levels l e)

  pub noted_first : (view : View) (x : Layer) → slice_get value place ≡ Some x → position (is_due view) x.propagators ≡ Some index
      → at_place place (noting_at index seen) value ≡ in_layer x.space (noting view seen) value
  noted_first view x at first =
      let named : Some (shown l) ≡ Some x = sym stands ∙ ap (λ (ls : List Layer). slice_get ls place) viewed ∙ at in
      let same : shown l ≡ x = cc in
      let due : position (is_due view) (shown l).propagators ≡ Some index = subst (λ (k : Layer). position (is_due view) k.propagators ≡ Some index) (sym same) first in
      subst (λ (ls : List Layer). at_place place (noting_at index seen) ls ≡ in_layer x.space (noting view seen) ls) viewed
      (subst (λ (k : Layer). at_place place (noting_at index seen) (shown_all levels) ≡ in_layer k.space (noting view seen) (shown_all levels)) same
      (sym (set_at (shown_all levels) place (shown l) (noting_at index seen) (shown_within levels s place within_levels l e) (sym (shown_item levels s place within_levels l e)))
      ∙ ap (slice_set (shown_all levels) place) (noting_is view index seen (shown l) due)
      ∙ sym ((own_place levels s place within_levels l e).edited (noting view seen))))
