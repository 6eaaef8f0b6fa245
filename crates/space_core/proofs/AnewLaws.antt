-- Where the stores of the spaces below one are made anew, those that see what is inconsistent have failed.
use Rattle.std.proofs.Common.{◌≡◌, inl, inr, ℕ, true, false, not, List, refl, sym, ap, subst, ◌∙◌, Contains, filter}
use Rattle.oz_semantics.specs.Names.{is_properly_below}
use Rattle.oz_semantics.specs.Store.{is_consistent}
use Rattle.oz_semantics.specs.Configurations.{view}
use Rattle.oz_semantics.specs.Settling.{may_fail, is_inconsistent, inconsistent_spaces}
use Rattle.oz_semantics.specs.declared.configuration.Layer.{Layer}
use Rattle.oz_laws.proofs.SameLaws.{In-from_contains, contains-from_In, and-right}
use Rattle.settle_laws.specs.Settles.{Settles}
use Rattle.std.proofs.lemmas.Bool.{false≢true}
use Rattle.view_laws.proofs.Members.{decide}
use Rattle.view_laws.proofs.ListLaws.{filter_in, in_map}
use Rattle.space_core.specs.Anew.{IsLoose, IsAnew}
use Rattle.space_core.specs.Fates.{IsStale}
use Rattle.space_core.specs.Shown.{shown, shown_all, Fits, IsSound}
use Rattle.space_core.specs.declared.level.Level.{Level}
use Rattle.space_core.proofs.FateLaws.{fates_show, fates_sound}

module _ (space : List ℕ) (levels : List Level) (loose : IsLoose space levels) where
  abbrev layers : List Layer
  layers = shown_all levels

  -- what fits is consistent
  fitting_consistent : (l : Level) → Fits layers l → is_inconsistent layers (shown l) ≡ true → ⊥
  fitting_consistent l f e =
      let sees : is_consistent (view layers l.space) ≡ true = f.consistent in
      false≢true (sym (ap not sees) ∙ and-right (may_fail l.status) _ e)

  pub all_below : (t : List ℕ) → Contains (inconsistent_spaces layers) t → is_properly_below space t ≡ true
  all_below t c =
      let m = in_map (λ (k : Layer). k.space) (filter (is_inconsistent layers) layers) t (In-from_contains (inconsistent_spaces layers) t c) in
      let f = filter_in (is_inconsistent layers) layers m.0 m.1 in
      let r = in_map shown levels m.0 f.0 in
      elim (decide (is_properly_below space t)) [
        | inl e ↦ e
        | inr e ↦ absurd (fitting_consistent r.0
            (loose.fits r.0 (contains-from_In levels r.0 r.1) (subst (λ (s : List ℕ). is_properly_below space s ≡ false) (sym (ap (λ (k : Layer). k.space) r.2 ∙ m.2)) e))
            (subst (λ (k : Layer). is_inconsistent layers k ≡ true) (sym r.2) f.1))
      ]

  stale : IsStale space levels
  stale = record {
    tree = loose.tree;
    below = all_below;
    seen = λ l c a. (loose.fits l c a).seen;
    consistent = λ l c a. (loose.fits l c a).consistent;
    home = loose.home;
    known = loose.known;
    bare = loose.bare;
  }

  module _ (news : List Level) (anew : IsAnew space levels news) where
    pub anew_settles : Settles space layers (shown_all news)
    anew_settles = record {
      below = all_below;
      left = ap shown_all anew.left ∙ fates_show space layers loose.tree all_below levels refl anew.fates anew.are.as_many (anew.are.right stale) loose.fits;
    }

    pub anew_sound : IsSound news
    anew_sound = subst IsSound (sym anew.left) (fates_sound space layers loose.tree all_below levels refl anew.fates anew.are.as_many (anew.are.right stale) loose.fits)
