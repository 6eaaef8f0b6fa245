-- A space that is told something consistent with what it sees: only spaces below it may fail.
use Rattle.std.proofs.Common.{◌≡◌, inl, inr, ℕ, Bool, true, false, not, ◌&&◌, List, ◌++◌, refl, sym, ap, ◌∙◌, Some, is_some, filter}
use Rattle.oz_semantics.specs.Names.{is_below, is_properly_below}
use Rattle.oz_semantics.specs.Store.{View, is_consistent}
use Rattle.oz_semantics.specs.Configurations.{is_of, layer_at, view, in_layer, telling}
use Rattle.oz_semantics.specs.Settling.{may_fail, is_inconsistent, inconsistent_spaces}
use Rattle.oz_semantics.specs.declared.value.Tell.{Tell}
use Rattle.oz_semantics.specs.declared.configuration.Layer.{Layer}
use Rattle.oz_laws.proofs.SameLaws.{In, In-from_contains, contains-from_In}
use Rattle.oz_laws.proofs.StoreLaws.{tests_consistent}
use Rattle.view_laws.specs.Readies.{Keeps}
use Rattle.view_laws.specs.Steps.{IsSound}
use Rattle.view_laws.proofs.Members.{decide, not_both, has-left, has-right}
use Rattle.view_laws.proofs.ListLaws.{filter_in, in_map, in_edit}
use Rattle.view_laws.proofs.NameLaws.{below_itself, properly_by}
use Rattle.view_laws.proofs.EqualLaws.{consistent_less}
use Rattle.view_laws.proofs.SightLaws.{space_of, change_unseen, tell_seen}
use Rattle.settle_laws.specs.Settles.{TellBelow}

-- what tells less is consistent too
pub consistent_part : (before after : List Tell) → Keeps before after → is_consistent after ≡ true → is_consistent before ≡ true
consistent_part before after keeps e =
    (tests_consistent before).1 (consistent_less before after keeps ((tests_consistent after).0 e))

module _ (space : List ℕ) (ts : List Tell) (old : List Layer) (l : Layer) (sound : IsSound old) (at : layer_at old space ≡ Some l) (fits : is_consistent (view old space ++ ts) ≡ true) where
  abbrev new : List Layer
  new = in_layer space (telling ts) old

  -- the space itself
  own_consistent : is_consistent (view new space) ≡ true
  own_consistent =
      let seen = tell_seen (telling ts) old space space ts (λ m e. refl) (λ m e. refl) (ap is_some at) (below_itself space) in
      consistent_part (view new space) (view old space ++ ts)
      (λ t c. elim (seen.only t c) [ inl k ↦ has-left t (view old space) ts k | inr k ↦ has-right t (view old space) ts k ]) fits

  -- a layer that tells whether it is inconsistent by its status and its space
  consistent_there : (m : Layer) → m.space ≡ space → is_inconsistent new m ≡ false
  consistent_there m e = ap (λ (p : List ℕ). may_fail m.status && not (is_consistent (view new p))) e ∙ ap (λ (b : Bool). may_fail m.status && not b) own_consistent ∙ none (may_fail m.status)
    where
      none : (b : Bool) → (b && false) ≡ false
      none true = refl
      none false = refl

  sound_apart : (m : Layer) → In m new → is_below space m.space ≡ false → is_inconsistent new m ≡ false
  sound_apart m h apart =
      ap (λ (v : View). may_fail m.status && not (is_consistent v)) (change_unseen (telling ts) old space m.space (λ n e. refl) apart)
      ∙ elim (in_edit (is_of space) (telling ts) old m h) [
        | inl k ↦ sound m (contains-from_In old m k)
        | inr r ↦ (let same : m.space ≡ space = ap (λ (n : Layer). n.space) r.2 ∙ space_of old space r.0 r.1 in absurd (not_both _ (ap (is_below space) same ∙ below_itself space) apart))
      ]

  told_below : (t : List ℕ) → In t (inconsistent_spaces new) → is_properly_below space t ≡ true
  told_below t h =
      let m = in_map (λ (n : Layer). n.space) (filter (is_inconsistent new) new) t h in
      let f = filter_in (is_inconsistent new) new m.0 m.1 in
      elim (decide (is_below space t)) [
        | inl e ↦ properly_by space t e (λ k. not_both _ f.1 (consistent_there m.0 (m.2 ∙ sym k)))
        | inr e ↦ absurd (not_both _ f.1 (sound_apart m.0 f.0 (ap (is_below space) m.2 ∙ e)))
      ]

pub tell_below : TellBelow
tell_below space ts old l sound at fits t c = told_below space ts old l sound at fits t (In-from_contains (inconsistent_spaces (in_layer space (telling ts) old)) t c)
