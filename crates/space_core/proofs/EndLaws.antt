-- What is kept of the spaces fits their layers where a space ends.
use Rattle.std.proofs.Common.{◌≡◌, inl, inr, ℕ, Bool, true, false, not, List, [], ◌∷◌, ◌++◌, filter, length, slice_set, slice_index_or, refl, sym, ap, subst, ◌∙◌, arith, Contains}
use Rattle.std.proofs.lemmas.Bool.{false≢true}
use Rattle.std.proofs.lemmas.List.{append-nil}
use Rattle.oz_semantics.specs.Names.{is_below, is_properly_below, is_top, parent_of, named}
use Rattle.oz_semantics.specs.Store.{is_consistent}
use Rattle.oz_semantics.specs.Configurations.{is_of, view, raised_by, failed}
use Rattle.oz_semantics.specs.declared.configuration.Layer.{Layer}
use Rattle.oz_laws.proofs.SameLaws.{In-from_contains, contains-from_In}
use Rattle.term_store.proofs.ClosingLaws.{consistent_prefix}
use Rattle.view_laws.specs.Trees.{IsTree}
use Rattle.view_laws.proofs.Members.{decide, not_both, some_of}
use Rattle.view_laws.proofs.NameLaws.{below_itself, properly_trans}
use Rattle.view_laws.proofs.ListLaws.{in_filter}
use Rattle.view_laws.proofs.SightLaws.{quiet_unseen, raise_unseen, parent_above, space_of, not_false}
use Rattle.view_laws.proofs.TreeLaws.{tree_left}
use Rattle.space_core.specs.Ending.{fallen}
use Rattle.space_core.specs.Places.{IsFirst}
use Rattle.space_core.specs.Shown.{shown, shown_all, seen_above, Fits, IsSound}
use Rattle.space_core.specs.Telling.{has_below}
use Rattle.space_core.specs.declared.level.Level.{Level}
use Rattle.space_core.proofs.MemberLaws.{filter_member, map_filter}
use Rattle.space_core.proofs.TraceLaws.{traces_nothing}
use Rattle.space_core.proofs.SoundLaws.{Edited, fits_after, above_same, homes_kept, read_shown, place_member}
use Rattle.space_core.proofs.TellLaws.{view_is, layer_found, edit_above}

-- whether a space is left where those below this one are gone
abbrev pub is_left : List ℕ → Layer → Bool
is_left space k = not (is_properly_below space k.space)

not_true : (b : Bool) → not b ≡ true → b ≡ false
not_true true e = absurd (false≢true e)
not_true false e = refl

module _ (levels : List Level) (space : List ℕ) (s : IsSound levels) where
  abbrev layers : List Layer
  layers = shown_all levels

  abbrev left : List Level
  left = filter (λ (l : Level). is_left space (shown l)) levels

  abbrev left_layers : List Layer
  left_layers = filter (is_left space) layers

  pub left_shown : shown_all left ≡ left_layers
  left_shown = map_filter shown (is_left space) levels

  pub left_view : (other : List ℕ) → is_properly_below space other ≡ false → view left_layers other ≡ view layers other
  left_view other apart =
      let x = named [] 0 in
      sym (quiet_unseen (raised_by x) left_layers space other (λ l e. refl) (λ l e. refl)) ∙ raise_unseen layers space other x apart

  parent_left : (other : List ℕ) → is_properly_below space other ≡ false → is_top other ≡ false → is_properly_below space (parent_of other) ≡ false
  parent_left other apart inner = elim (decide (is_properly_below space (parent_of other))) [
    | inl b ↦ absurd (not_both _ (properly_trans space (parent_of other) other b (parent_above other inner (parent_of other) (below_itself (parent_of other)))) apart)
    | inr b ↦ b
  ]

  pub left_above : (other : List ℕ) → is_properly_below space other ≡ false → seen_above left_layers other ≡ seen_above layers other
  left_above other apart = above_same layers left_layers other (λ t. left_view (parent_of other) (parent_left other apart t))

  fits_left : (n : Level) → Contains levels n → is_properly_below space n.space ≡ false → Fits left_layers n
  fits_left n c apart =
      fits_after layers left_layers n (left_view n.space apart) (left_above n.space apart)
      (homes_kept layers left_layers n.space (λ k d b. (k, contains-from_In left_layers k (in_filter (is_left space) layers k (In-from_contains layers k d) (kept k b)), refl, omega arith)))
      (s.fits n c)
    where
      kept : (k : Layer) → is_below k.space n.space ≡ true → is_left space k ≡ true
      kept k b = elim (decide (is_properly_below space k.space)) [ inl p ↦ absurd (not_both _ (properly_trans space k.space n.space p b) apart) | inr p ↦ ap not p ]

  pub left_sound : IsSound left
  left_sound = record {
    tree = subst IsTree (sym left_shown) (tree_left space layers s.tree);
    fits = λ n c.
        let r = filter_member (λ (l : Level). is_left space (shown l)) levels n c in
        subst (λ (ls : List Layer). Fits ls n) (sym left_shown) (fits_left n r.0 (not_true _ r.1));
  }

  pub none_left : has_below (shown_all left) space ≡ false
  none_left = elim (decide (has_below (shown_all left) space)) [
    | inl e ↦ (let r = some_of (λ (k : Layer). is_properly_below space k.space) (shown_all left) e in
        let m = filter_member (is_left space) layers r.0 (subst (λ (ls : List Layer). Contains ls r.0) left_shown r.1) in
        absurd (not_both _ r.2 (not_true _ m.1)))
    | inr e ↦ e
  ]

-- A space that fails, of which none is below

-- the top has none above it
above_top : (ls : List Layer) (space : List ℕ) → is_top space ≡ true → seen_above ls space ≡ []
above_top ls [] e = refl
above_top ls (n ∷ s) e = absurd (false≢true e)

module _ (levels : List Level) (space : List ℕ) (place : ℕ) (x : Layer) (h : IsFirst (is_of space) (shown_all levels) place x) (l : Level) (e : l ≡ slice_index_or levels place l) (s : IsSound levels)
    (none : has_below (shown_all levels) space ≡ false) where
  abbrev now : List Layer
  now = shown_all levels

  name : l.space ≡ space
  name = ap (λ (k : Layer). k.space) (read_shown levels space place x h l e) ∙ space_of now space x h.found

  above_consistent : is_consistent (seen_above now space) ≡ true
  above_consistent =
      let c = place_member levels space place x h l e in
      consistent_prefix (seen_above now space) (shown l).tells
      (subst (λ (p : List ℕ). is_consistent (seen_above now p ++ (shown l).tells) ≡ true) name
      (ap is_consistent (sym (view_is now l.space (shown l) s.tree (layer_found levels s l c))) ∙ (s.fits l c).consistent))

  at_top : (fallen l).bare ≡ false → [] ≡ seen_above now space
  at_top b = sym (above_top now space (ap is_top (sym name) ∙ not_false (is_top l.space) b))

  pub fail_edit : Edited levels (slice_set levels place (fallen l)) space failed
  fail_edit = edit_above levels space place x h l (fallen l) e failed refl refl refl s none (record {
    store = λ b. at_top b ∙ sym (append-nil (seen_above now space));
    from = λ b. ap length (at_top b);
    bare = λ b. record { inner = not_true (is_top l.space) b; store = refl; touched = refl };
    consistent = ap is_consistent (append-nil (seen_above now space)) ∙ above_consistent;
    home = λ t. refl;
    touches = λ t n. traces_nothing space (seen_above now space);
    known = λ k. refl;
  })
