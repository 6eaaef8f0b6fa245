-- What follows a step: where no layer changed that is not below a space, none of these changes.
use Rattle.std.proofs.Common.{◌≡◌, inl, inr, ℕ, zero, suc, Bool, true, false, not, ◌&&◌, ◌||◌, if◌then◌else◌, List, [], ◌∷◌, filter, map, length, refl, sym, ap, ap₂, subst, ◌∙◌, fold, is_some}
use Rattle.std.specs.List.{list_any, sum_by}
use Rattle.std.proofs.lemmas.Bool.{false≢true}
use Rattle.oz_base.specs.Lists.{list_eq}
use Rattle.oz_base.specs.declared.names.Ident.{Ident}
use Rattle.oz_language.specs.declared.kernel.Statement.{Statement}
use Rattle.oz_semantics.specs.Names.{is_below, is_top, is_child_of}
use Rattle.oz_semantics.specs.Store.{View, same, domain_of, is_determined, is_consistent}
use Rattle.oz_semantics.specs.Configurations.{is_open, view, failed}
use Rattle.oz_semantics.specs.Sights.{state_in}
use Rattle.oz_semantics.specs.Spaces.{states_of, waited_in}
use Rattle.oz_semantics.specs.Triggers.{is_needed, is_needed_in, beginning, fired, has_needed, fired_for, triggered}
use Rattle.oz_semantics.specs.Settling.{may_fail, is_inconsistent, inconsistent_spaces, failing, without_inconsistent, top_is_inconsistent}
use Rattle.oz_semantics.specs.declared.configuration.Trigger.{Trigger}
use Rattle.oz_semantics.specs.declared.configuration.Layer.{Layer}
use Rattle.oz_laws.proofs.SameLaws.{In, In-from_contains, contains-from_In, and-left, and-right}
use Rattle.view_laws.specs.Needs.{NoneNeeded}
use Rattle.view_laws.specs.Steps.{IsSound}
use Rattle.view_laws.proofs.Members.{decide, not_both, and_both, or_cases, or_left, or_right, some_of, by_some}
use Rattle.view_laws.proofs.NameLaws.{equal_names}
use Rattle.view_laws.proofs.QueueLaws.{not_false}
use Rattle.view_laws.proofs.ListLaws.{filter_in, filter_all, filter_none, in_map}
use Rattle.need_laws.proofs.FireLaws.{fires_fired}
use Rattle.need_laws.proofs.RoundLaws.{none_in}
use Rattle.alone_laws.proofs.Lists.{map_out, fold_keeps}
use Rattle.alone_laws.proofs.OutsideLaws.{is_outside, Stay, child_outside, end_stays, view_stays, layer_stays, among_before}
use Rattle.alone_laws.proofs.WaitLaws.{Fades, layer_waits_less, live_at, found_at, is_unmerged}
use Rattle.oz_base.specs.Lists.{holds_of}

-- Triggers

pub fired_space : (statements : List Statement) (layers : List Layer) (l : Layer) → (fired statements layers l).space ≡ l.space
fired_space statements layers l = (fires_fired statements layers l).space

pub fired_same : (statements : List Statement) (layers : List Layer) (l : Layer) → has_needed statements layers l ≡ false → fired statements layers l ≡ l
fired_same statements layers l e =
    ap₂ (λ (rest needed : List Trigger). fold beginning (record l { triggers = rest }) needed)
    (filter_all (λ t. not (is_needed_in statements layers l t)) l.triggers (λ t h. ap not (none_in (is_needed_in statements layers l) l.triggers e t h)))
    (filter_none (is_needed_in statements layers l) l.triggers (none_in (is_needed_in statements layers l) l.triggers e))

pub top_not_below : (t u : List ℕ) → is_top t ≡ false → is_below t u ≡ true → is_top u ≡ false
top_not_below [] u e f = absurd (false≢true (sym e))
top_not_below (n ∷ t) [] e f = absurd (false≢true f)
top_not_below (n ∷ t) (m ∷ u) e f = refl

module _ (statements : List Statement) (t : List ℕ) (before : List Layer) (sound : IsSound before) (quiet : NoneNeeded statements before) (there : live_at before t ≡ true) where
  -- the children of spaces that are not below it
  children_fade : (layers : List Layer) → Stay t before layers → (u : List ℕ) → is_below t u ≡ false → (c : List ℕ) → is_child_of u c ≡ true
      → Fades (state_in (states_of statements before) c) (state_in (states_of statements layers) c)
  children_fade layers n u e c k = elim (decide (list_eq t c)) [
    | inl g ↦ inr (found_at statements before before c ∙ subst (λ v. live_at before v ≡ true) (equal_names t c g) there)
    | inr g ↦ inl
        (found_at statements layers layers c ∙ ap (holds_of (λ (l : Layer). is_unmerged l.status)) (layer_stays t c before layers (child_outside t u c k e g) n)
        ∙ sym (found_at statements before before c))
  ]

  -- a trigger that is needed was needed before
  needed_before : (layers : List Layer) → Stay t before layers → (l : Layer) → is_below t l.space ≡ false → (u : Trigger) → is_needed_in statements layers l u ≡ true
      → is_needed_in statements before l u ≡ true
  needed_before layers n l k u e =
      let v : View = view before l.space in
      let seen : view layers l.space ≡ v = view_stays t l.space before layers k n in
      let later : List Ident = waited_in statements layers (states_of statements layers) l in
      let known : List Ident = waited_in statements before (states_of statements before) l in
      let f : (is_determined v u.variable || is_some (domain_of v u.variable) || list_any (same v u.variable) later) ≡ true =
      ap (λ w. is_needed w later u) (sym seen) ∙ and-right (is_open l.status) _ e in
      let known_one : Bool = is_determined v u.variable || is_some (domain_of v u.variable) in
      and_both (is_open l.status) _ (and-left _ _ e)
      (elim (or_cases known_one (list_any (same v u.variable) later) f) [
        | inl g ↦ or_left known_one (list_any (same v u.variable) known) g
        | inr g ↦ or_right known_one (list_any (same v u.variable) known)
            (layer_waits_less statements before layers (states_of statements before) (states_of statements layers) l.space seen (children_fade layers n l.space k) (same v u.variable) l refl g)
      ])

  pub unneeded_outside : (layers : List Layer) → Stay t before layers → (l : Layer) → In l layers → is_below t l.space ≡ false → has_needed statements layers l ≡ false
  unneeded_outside layers n l i k = elim (decide (has_needed statements layers l)) [
    | inl e ↦ (let u = some_of (is_needed_in statements layers l) l.triggers e in
        absurd (not_both _ (by_some (is_needed_in statements before l) l.triggers u.0 u.1 (needed_before layers n l k u.0 u.2))
        (none_in (has_needed statements before) before quiet l (among_before t before layers l n i k))))
    | inr e ↦ e
  ]

  pub round_stays : (layers : List Layer) → Stay t before layers → Stay t before (map (fired statements layers) layers)
  round_stays layers n =
      map_out (is_outside t) (fired statements layers) (λ l. ap (λ u. not (is_below t u)) (fired_space statements layers l)) layers
      (λ l i k. fired_same statements layers l (unneeded_outside layers n l i (not_false _ k))) ∙ n

  pub rounds_stay : (m : ℕ) (layers : List Layer) → Stay t before layers → Stay t before (fired_for statements m layers)
  unfolding fired_for
  rounds_stay zero layers n = n
  rounds_stay (suc m) layers n = by (list_any (has_needed statements layers) layers) (rounds_stay m (map (fired statements layers) layers) (round_stays layers n))
    where
      by : (b : Bool) → Stay t before (fired_for statements m (map (fired statements layers) layers)) → Stay t before (if b then fired_for statements m (map (fired statements layers) layers) else layers)
      by true rest = rest
      by false rest = n

  pub triggered_stays : (layers : List Layer) → Stay t before layers → Stay t before (triggered statements layers)
  triggered_stays layers n = rounds_stay (sum_by (λ (l : Layer). length l.triggers) layers) layers n

  -- Inconsistent spaces

  pub sound_outside : (layers : List Layer) → Stay t before layers → (l : Layer) → In l layers → is_below t l.space ≡ false → is_inconsistent layers l ≡ false
  sound_outside layers n l i k =
      ap (λ v. may_fail l.status && not (is_consistent v)) (view_stays t l.space before layers k n) ∙ sound l (contains-from_In before l (among_before t before layers l n i k))

  pub failing_inside : (layers : List Layer) → Stay t before layers → (u : List ℕ) → In u (inconsistent_spaces layers) → is_below t u ≡ true
  failing_inside layers n u h =
      let l = in_map (λ (m : Layer). m.space) (filter (is_inconsistent layers) layers) u h in
      let f = filter_in (is_inconsistent layers) layers l.0 l.1 in
      elim (decide (is_below t l.0.space)) [
        | inl k ↦ subst (λ v. is_below t v ≡ true) l.2 k
        | inr k ↦ absurd (not_both _ f.1 (sound_outside layers n l.0 f.0 k))
      ]

  pub failures_stay : (layers : List Layer) → Stay t before layers → Stay t before (without_inconsistent layers)
  failures_stay layers n =
      fold_keeps (Stay t before) failing (inconsistent_spaces layers) (λ ls u i m. end_stays t u failed ls (failing_inside layers n u i) (λ l. refl) ∙ m) layers n

  pub top_sound : is_top t ≡ false → (layers : List Layer) → Stay t before layers → top_is_inconsistent layers ≡ false
  top_sound child layers n = elim (decide (top_is_inconsistent layers)) [
    | inl e ↦ (let l = some_of (λ (m : Layer). is_top m.space && is_inconsistent layers m) layers e in
        elim (decide (is_below t l.0.space)) [
          | inl k ↦ absurd (not_both _ (and-left _ _ l.2) (top_not_below t l.0.space child k))
          | inr k ↦ absurd (not_both _ (and-right (is_top l.0.space) _ l.2) (sound_outside layers n l.0 (In-from_contains layers l.0 l.1) k))
        ])
    | inr e ↦ e
  ]
