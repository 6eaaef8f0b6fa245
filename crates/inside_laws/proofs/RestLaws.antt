-- What follows a step leaves the layers as they are that are not below a space, and of the space's own what its fate is.
use Rattle.std.proofs.Common.{◌≡◌, inl, inr, ℕ, zero, suc, Bool, true, false, not, ◌&&◌, ◌||◌, cond, if◌then◌else◌, List, [], ◌∷◌, refl, sym, ap, ap₂, subst, ◌∙◌, filter, map, fold, length}
use Rattle.std.specs.List.{list_any, sum_by}
use Rattle.oz_base.specs.Lists.{list_eq, holds_of}
use Rattle.oz_language.specs.declared.kernel.Statement.{Statement}
use Rattle.oz_semantics.specs.Names.{is_below, is_top}
use Rattle.oz_semantics.specs.Store.{is_consistent}
use Rattle.oz_semantics.specs.Configurations.{is_of, view, failed}
use Rattle.oz_semantics.specs.Triggers.{is_needed_in, beginning, fired, has_needed, fired_for, triggered}
use Rattle.oz_semantics.specs.Settling.{may_fail, is_inconsistent, inconsistent_spaces, failing, without_inconsistent, top_is_inconsistent}
use Rattle.oz_semantics.specs.declared.configuration.Trigger.{Trigger}
use Rattle.oz_semantics.specs.declared.configuration.Layer.{Layer}
use Rattle.oz_laws.proofs.SameLaws.{In, In-from_contains, contains-from_In, and-left, and-right}
use Rattle.view_laws.specs.Needs.{NoneNeeded}
use Rattle.view_laws.proofs.Members.{decide, not_both, some_of}
use Rattle.view_laws.proofs.ListLaws.{filter_in, in_filter, filter_all, filter_none, map_in, in_map}
use Rattle.view_laws.proofs.NameLaws.{equal_names, names_equal, properly_by}
use Rattle.edit_laws.proofs.NameLaws.{not_above_top, top_is}
use Rattle.need_laws.specs.Needs.{Fires}
use Rattle.need_laws.proofs.FireLaws.{fires_none, fires_both, fires_fired}
use Rattle.need_laws.proofs.RoundLaws.{none_in}
use Rattle.settle_laws.proofs.SoundLaws.{nothing_sound}
use Rattle.inside_laws.specs.Outside.{stands_outside, outside}
use Rattle.inside_laws.proofs.OwnLaws.{map_out, filter_map, view_outside, Keeps, own_name, own_at, own_end, inner_end}
use Rattle.inside_laws.proofs.LeftLaws.{was_left, left_at, needed_alike}

-- Lists

-- a space is named by one of those that pass where one of its own passes
any_named : (p : Layer → Bool) (t : List ℕ) (ls : List Layer) → list_any (λ (s : List ℕ). list_eq s t) (map (λ (l : Layer). l.space) (filter p ls)) ≡ list_any p (filter (is_of t) ls)
any_named p t [] = refl
any_named p t (l ∷ ls) = by (p l) (is_of t l) refl refl (any_named p t ls)
  where
    name : Layer → List ℕ
    name m = m.space

    one : List ℕ → Bool
    one s = list_eq s t

    by : (b c : Bool) → p l ≡ b → is_of t l ≡ c → list_any one (map name (filter p ls)) ≡ list_any p (filter (is_of t) ls)
        → list_any one (map name (cond b (l ∷ filter p ls) (filter p ls))) ≡ list_any p (cond c (l ∷ filter (is_of t) ls) (filter (is_of t) ls))
    by true true e f rest = ap (λ (b : Bool). b || list_any one (map name (filter p ls))) f ∙ sym (ap (λ (b : Bool). b || list_any p (filter (is_of t) ls)) e)
    by true false e f rest = ap (λ (b : Bool). b || list_any one (map name (filter p ls))) f ∙ rest
    by false true e f rest = rest ∙ sym (ap (λ (b : Bool). b || list_any p (filter (is_of t) ls)) e)
    by false false e f rest = rest

-- Triggers of a layer of which none is needed

fired_same : (statements : List Statement) (layers : List Layer) (l : Layer) → has_needed statements layers l ≡ false → fired statements layers l ≡ l
fired_same statements layers l e =
    ap₂ (λ (rest needed : List Trigger). fold beginning (record l { triggers = rest }) needed)
    (filter_all (λ (u : Trigger). not (is_needed_in statements layers l u)) l.triggers (λ u h. ap not (none_in (is_needed_in statements layers l) l.triggers e u h)))
    (filter_none (is_needed_in statements layers l) l.triggers (none_in (is_needed_in statements layers l) l.triggers e))

-- The fate of a space

-- it sees what is inconsistent, and may fail
abbrev pub fate : List Layer → List ℕ → Layer → Bool
fate layers t l = may_fail l.status && not (is_consistent (view layers t))

abbrev pub fated : Bool → Layer → Layer
fated true l = failed l
fated false l = l

-- layers in which no space sees what is inconsistent, no trigger is needed, and the space is there and was not merged
pub record IsResting (statements : List Statement) (t : List ℕ) (before : List Layer) : Type 0 where
  pub sound : inconsistent_spaces before ≡ []
  pub content : NoneNeeded statements before
  pub left : left_at before t ≡ true

module _ (statements : List Statement) (t : List ℕ) (before : List Layer) (rests : IsResting statements t before) where
  -- Spaces that see what is inconsistent are below it

  outer_before : (layers : List Layer) → outside t layers ≡ outside t before → (m : Layer) → In m layers → is_below t m.space ≡ false → In m before
  outer_before layers same m i apart =
      (filter_in (stands_outside t) before m (subst (λ ls. In m ls) same (in_filter (stands_outside t) layers m i (ap not apart)))).0

  outer_sound : (layers : List Layer) → outside t layers ≡ outside t before → (m : Layer) → In m layers → is_below t m.space ≡ false → is_inconsistent layers m ≡ false
  outer_sound layers same m i apart =
      ap (λ v. may_fail m.status && not (is_consistent v)) (view_outside t m.space apart layers before same)
      ∙ nothing_sound before rests.sound m (contains-from_In before m (outer_before layers same m i apart))

  inner_fails : (layers : List Layer) → outside t layers ≡ outside t before → (s : List ℕ) → In s (inconsistent_spaces layers) → is_below t s ≡ true
  inner_fails layers same s h =
      let m = in_map (λ (l : Layer). l.space) (filter (is_inconsistent layers) layers) s h in
      let f = filter_in (is_inconsistent layers) layers m.0 m.1 in
      subst (λ u. is_below t u ≡ true) m.2 (elim (decide (is_below t m.0.space)) [
        | inl k ↦ k
        | inr k ↦ absurd (not_both _ f.1 (outer_sound layers same m.0 f.0 k))
      ])

  pub top_sound : is_top t ≡ false → (layers : List Layer) → outside t layers ≡ outside t before → top_is_inconsistent layers ≡ false
  top_sound inner layers same = elim (decide (top_is_inconsistent layers)) [
    | inr k ↦ k
    | inl k ↦ (let m = some_of (λ (l : Layer). is_top l.space && is_inconsistent layers l) layers k in
        let there : In m.0.space (inconsistent_spaces layers) =
        map_in (λ (l : Layer). l.space) (filter (is_inconsistent layers) layers) m.0 (in_filter (is_inconsistent layers) layers m.0 (In-from_contains layers m.0 m.1) (and-right _ _ m.2)) in
        let below : is_below t [] ≡ true = subst (λ s. is_below t s ≡ true) (top_is m.0.space (and-left _ _ m.2)) (inner_fails layers same m.0.space there) in
        absurd (not_both _ (ap is_top (not_above_top t below)) inner))
  ]

  -- They fail in turn

  all_fail : (ss : List (List ℕ)) → ((s : List ℕ) → In s ss → is_below t s ≡ true) → (layers : List Layer) (l : Layer) → Keeps t before layers l
      → Keeps t before (fold failing layers ss) (fated (list_any (λ (s : List ℕ). list_eq s t) ss) l)
  all_fail [] h layers l keeps = keeps
  all_fail (s ∷ ss) h layers l keeps = by (list_eq s t) refl (all_fail ss (λ u i. h u (inr i)))
    where
      more : Bool
      more = list_any (λ (u : List ℕ). list_eq u t) ss

      once : (b : Bool) → Keeps t before (fold failing layers (s ∷ ss)) (fated b (failed l)) → Keeps t before (fold failing layers (s ∷ ss)) (failed l)
      once true k = k
      once false k = k

      itself : list_eq s t ≡ true → Keeps t before (failing layers s) (failed l)
      itself e = subst (λ u. Keeps t before (failing layers u) (failed l)) (sym (equal_names s t e)) (own_end t failed before layers l (λ m. refl) keeps)

      apart : list_eq s t ≡ false → t ≡ s → ⊥
      apart e q = not_both _ (subst (λ u. list_eq u t ≡ true) q (names_equal t)) e

      by : (b : Bool) → list_eq s t ≡ b → ((ls : List Layer) (m : Layer) → Keeps t before ls m → Keeps t before (fold failing ls ss) (fated more m))
          → Keeps t before (fold failing layers (s ∷ ss)) (fated (b || more) l)
      by true e rest = once more (rest (failing layers s) (failed l) (itself e))
      by false e rest = rest (failing layers s) l (inner_end t s before layers l (properly_by t s (h s (inl refl)) (apart e)) keeps)

  own_fate : (layers : List Layer) (l : Layer) → Keeps t before layers l → list_any (λ (s : List ℕ). list_eq s t) (inconsistent_spaces layers) ≡ fate layers t l
  own_fate layers l keeps =
      any_named (is_inconsistent layers) t layers ∙ ap (list_any (is_inconsistent layers)) keeps.own ∙ alone (is_inconsistent layers l)
      ∙ ap (λ s. may_fail l.status && not (is_consistent (view layers s))) (own_name t before layers l keeps)
    where
      alone : (b : Bool) → (b || false) ≡ b
      alone true = refl
      alone false = refl

  failed_keeps : (layers : List Layer) (l : Layer) → Keeps t before layers l → Keeps t before (without_inconsistent layers) (fated (fate layers t l) l)
  failed_keeps layers l keeps =
      subst (λ b. Keeps t before (without_inconsistent layers) (fated b l)) (own_fate layers l keeps) (all_fail (inconsistent_spaces layers) (inner_fails layers keeps.stays) layers l keeps)

  -- Triggers that are needed are below it

  outer_stays : (layers : List Layer) (l : Layer) → Keeps t before layers l → was_left l.status ≡ true → (m : Layer) → In m layers → stands_outside t m ≡ true → fired statements layers m ≡ m
  outer_stays layers l keeps left m i e =
      let apart : is_below t m.space ≡ false = not_true _ e in
      let there : left_at layers t ≡ true = ap (holds_of (λ (n : Layer). was_left n.status)) (own_at t before layers l keeps) ∙ left in
      fired_same statements layers m
      (needed_alike statements t before layers keeps.stays rests.left there m apart ∙ none_in (has_needed statements before) before rests.content m (outer_before layers keeps.stays m i apart))
    where
      not_true : (b : Bool) → not b ≡ true → b ≡ false
      not_true true k = sym k
      not_true false k = refl

  round_keeps : (layers : List Layer) (l : Layer) → Keeps t before layers l → was_left l.status ≡ true → Keeps t before (map (fired statements layers) layers) (fired statements layers l)
  round_keeps layers l keeps left = record {
    stays =
        map_out (stands_outside t) (fired statements layers) (λ m. ap (λ s. not (is_below t s)) (fires_fired statements layers m).space) layers (outer_stays layers l keeps left) ∙ keeps.stays;
    own =
        filter_map (is_of t) (fired statements layers) (λ m. ap (λ s. list_eq s t) (fires_fired statements layers m).space) layers ∙ ap (map (fired statements layers)) keeps.own;
  }

  rounds_keep : (n : ℕ) (layers : List Layer) (l : Layer) → Keeps t before layers l → was_left l.status ≡ true → (m : Layer) × Keeps t before (fired_for statements n layers) m × Fires l m
  unfolding fired_for
  rounds_keep zero layers l keeps left = (l, keeps, fires_none l)
  rounds_keep (suc n) layers l keeps left =
      by (list_any (has_needed statements layers) layers) (rounds_keep n next first (round_keeps layers l keeps left) (ap was_left (fires_fired statements layers l).status ∙ left))
    where
      next : List Layer
      next = map (fired statements layers) layers

      first : Layer
      first = fired statements layers l

      by : (b : Bool) → ((m : Layer) × Keeps t before (fired_for statements n next) m × Fires first m)
          → (m : Layer) × Keeps t before (if b then fired_for statements n next else layers) m × Fires l m
      by true rest = (rest.0, rest.1, fires_both l first rest.0 (fires_fired statements layers l) rest.2)
      by false rest = (l, keeps, fires_none l)

  pub left_fated : (b : Bool) (l : Layer) → was_left l.status ≡ true → was_left (fated b l).status ≡ true
  left_fated true l e = refl
  left_fated false l e = e

  -- So all that follows a step where the top is consistent
  pub parts_keep : (layers : List Layer) (l : Layer) → Keeps t before layers l → was_left l.status ≡ true
      → (m : Layer) × Keeps t before (triggered statements (without_inconsistent layers)) m × Fires (fated (fate layers t l) l) m
  parts_keep layers l keeps left =
      rounds_keep (sum_by (λ (m : Layer). length m.triggers) (without_inconsistent layers)) (without_inconsistent layers) (fated (fate layers t l) l) (failed_keeps layers l keeps)
      (left_fated (fate layers t l) l left)
