-- That inconsistent spaces fail and by-need computations begin alike where a space is alone.
use Rattle.std.proofs.Common.{◌≡◌, inl, inr, ℕ, zero, suc, Bool, true, false, not, ◌&&◌, ◌||◌, if◌then◌else◌, List, [], ◌∷◌, filter, map, fold, length, refl, sym, ap, ap₂, subst, ◌∙◌, Option}
use Rattle.std.specs.List.{list_any, sum_by}
use Rattle.oz_base.specs.declared.names.Ident.{Ident}
use Rattle.oz_language.specs.declared.kernel.Statement.{Statement}
use Rattle.oz_semantics.specs.Names.{is_below, is_properly_below, is_top}
use Rattle.oz_semantics.specs.Store.{View, is_consistent}
use Rattle.oz_semantics.specs.Configurations.{in_layer, ending, failed, is_open}
use Rattle.oz_semantics.specs.Triggers.{is_needed, is_needed_in, beginning, fired, has_needed, fired_for, triggered}
use Rattle.oz_semantics.specs.Settling.{Turned, may_fail, is_inconsistent, inconsistent_spaces, failing, without_inconsistent, top_failed, runnable, queue_after, requeued, settled}
use Rattle.oz_semantics.specs.declared.configuration.Layer.{Layer}
use Rattle.oz_semantics.specs.declared.configuration.Trigger.{Trigger}
use Rattle.oz_semantics.specs.declared.configuration.Configuration.{Configuration}
use Rattle.oz_semantics.specs.declared.outcome.Stepped.TheVariants.{Moved}
use Rattle.oz_laws.proofs.SameLaws.{In}
use Rattle.view_laws.specs.Needs.{NoneNeeded}
use Rattle.view_laws.specs.Steps.{IsSound}
use Rattle.view_laws.proofs.Members.{decide, not_both}
use Rattle.view_laws.proofs.NameLaws.{below_trans}
use Rattle.view_laws.proofs.SpacelessLaws.{or_false, right_false}
use Rattle.need_laws.proofs.RoundLaws.{none_left}
use Rattle.alone_laws.specs.Alone.{is_kept, quieted, alone_layers, is_own, alone}
use Rattle.alone_laws.proofs.OutsideLaws.{Stay}
use Rattle.alone_laws.proofs.WaitLaws.{live_at}
use Rattle.alone_laws.proofs.RestLaws.{fired_space, fired_same, top_not_below, unneeded_outside, round_stays, rounds_stay, sound_outside, failing_inside, failures_stay, top_sound}
use Rattle.alone_laws.proofs.AloneLaws.{own_first, kept_first, not_kept_first, alone_changed, alone_filtered, kept_view, own_view, quieted_is, quieted_space}
use Rattle.alone_laws.proofs.AloneStates.{waited_same}
use Rattle.alone_laws.proofs.AloneParts.{own_mover, own_queue, runnable_alone, quiet_layer}

-- Rounds of triggers

pub steady : (statements : List Statement) (m : ℕ) (layers : List Layer) → NoneNeeded statements layers → fired_for statements m layers ≡ layers
unfolding fired_for
steady statements zero layers e = refl
steady statements (suc m) layers e = rw e refl

-- however many rounds it took to come to where none is needed, the same is left
pub rounds_meet : (statements : List Statement) (n m : ℕ) (layers : List Layer) → NoneNeeded statements (fired_for statements n layers) → NoneNeeded statements (fired_for statements m layers)
    → fired_for statements n layers ≡ fired_for statements m layers
unfolding fired_for
rounds_meet statements zero m layers h k = sym (steady statements m layers h)
rounds_meet statements (suc n) zero layers h k = steady statements (suc n) layers k
rounds_meet statements (suc n) (suc m) layers h k = by (list_any (has_needed statements layers) layers) h k (rounds_meet statements n m (map (fired statements layers) layers))
  where
    more : ℕ → List Layer
    more i = fired_for statements i (map (fired statements layers) layers)

    by : (b : Bool) → NoneNeeded statements (if b then more n else layers) → NoneNeeded statements (if b then more m else layers)
        → (NoneNeeded statements (more n) → NoneNeeded statements (more m) → more n ≡ more m) → (if b then more n else layers) ≡ (if b then more m else layers)
    by true h k rest = rest h k
    by false h k rest = refl

and_none : (a b : Bool) → b ≡ false → (a && b) ≡ false
and_none true b e = e
and_none false b e = refl

module _ (statements : List Statement) (s t : List ℕ) (inner : is_below s t ≡ true) where
  -- what is not below the one space is not below the other
  not_inside : (l : Layer) → is_below s l.space ≡ false → is_below t l.space ≡ false
  not_inside l e = elim (decide (is_below t l.space)) [
    | inl k ↦ absurd (not_both _ (below_trans s t l.space inner k) e)
    | inr k ↦ k
  ]

  not_own : (l : Layer) → is_kept s l ≡ false → is_below s l.space ≡ false
  not_own l e = right_false (is_below l.space s) _ e

  -- what is so of the layers that are not below it
  abbrev Outer : (Layer → Bool) → List Layer → Type 0
  Outer p ls = (l : Layer) → In l ls → is_below t l.space ≡ false → p l ≡ false

  outer_rest : (p : Layer → Bool) (l : Layer) (ls : List Layer) → Outer p (l ∷ ls) → Outer p ls
  outer_rest p l ls h m i k = h m (inr i) k

  outer_first : (p : Layer → Bool) (l : Layer) (ls : List Layer) → Outer p (l ∷ ls) → is_below s l.space ≡ false → p l ≡ false
  outer_first p l ls h k = h l (inl refl) (not_inside l k)

  -- Inconsistent spaces

  module _ (layers : List Layer) where
    kept_inconsistent : (l : Layer) → is_kept s l ≡ true → is_inconsistent (alone_layers s layers) (quieted s l) ≡ is_inconsistent layers l
    kept_inconsistent l e =
        quieted_is s (is_inconsistent (alone_layers s layers)) (λ m. refl) l ∙ ap (λ v. may_fail l.status && not (is_consistent v)) (kept_view s l.space e layers)

    inconsistent_same : (ls : List Layer) → Outer (is_inconsistent layers) ls
        → map (λ (l : Layer). l.space) (filter (is_inconsistent (alone_layers s layers)) (alone_layers s ls)) ≡ map (λ (l : Layer). l.space) (filter (is_inconsistent layers) ls)
    inconsistent_same [] h = refl
    inconsistent_same (l ∷ ls) h = by (is_kept s l) (is_inconsistent layers l) refl refl (inconsistent_same ls (outer_rest (is_inconsistent layers) l ls h))
      where
        by : (b c : Bool) → is_kept s l ≡ b → is_inconsistent layers l ≡ c
            → map (λ (m : Layer). m.space) (filter (is_inconsistent (alone_layers s layers)) (alone_layers s ls)) ≡ map (λ (m : Layer). m.space) (filter (is_inconsistent layers) ls)
            → map (λ (m : Layer). m.space) (filter (is_inconsistent (alone_layers s layers)) (alone_layers s (l ∷ ls))) ≡ map (λ (m : Layer). m.space) (filter (is_inconsistent layers) (l ∷ ls))
        by true true i j rest = rw (i, j) (rw (kept_inconsistent l i ∙ j) (ap₂ (λ u us. u ∷ us) (quieted_space s l) rest))
        by true false i j rest = rw (i, j) (rw (kept_inconsistent l i ∙ j) rest)
        by false true i j rest = absurd (not_both _ j (outer_first (is_inconsistent layers) l ls h (not_own l i)))
        by false false i j rest = rw (i, j) rest

    no_top : is_top s ≡ false → (ls : List Layer) → Outer (is_inconsistent layers) ls → list_any (λ (l : Layer). is_top l.space && is_inconsistent (alone_layers s layers) l) (alone_layers s ls) ≡ false
    no_top child [] h = refl
    no_top child (l ∷ ls) h = by (is_kept s l) (is_below s l.space) refl refl (no_top child ls (outer_rest (is_inconsistent layers) l ls h))
      where
        test : Layer → Bool
        test m = is_top m.space && is_inconsistent (alone_layers s layers) m

        by : (b c : Bool) → is_kept s l ≡ b → is_below s l.space ≡ c → list_any test (alone_layers s ls) ≡ false → list_any test (alone_layers s (l ∷ ls)) ≡ false
        by true true i j rest =
            ap (list_any test) (kept_first s l ls i) ∙ or_false (test (quieted s l)) _ (ap (λ b. b && is_inconsistent (alone_layers s layers) (quieted s l)) (ap is_top (quieted_space s l) ∙ top_not_below s l.space child j)) rest
        by true false i j rest =
            ap (list_any test) (kept_first s l ls i)
            ∙ or_false (test (quieted s l)) _ (and_none (is_top (quieted s l).space) _ (kept_inconsistent l i ∙ outer_first (is_inconsistent layers) l ls h j)) rest
        by false c i j rest = ap (list_any test) (not_kept_first s l ls i) ∙ rest

    -- Triggers

    own_needed : (l : Layer) → is_below s l.space ≡ true → (u : Trigger) → is_needed_in statements (alone_layers s layers) l u ≡ is_needed_in statements layers l u
    own_needed l e u = ap₂ (λ (v : View) (xs : List Ident). is_open l.status && is_needed v xs u) (own_view s l.space e layers) (waited_same statements s layers l e)

    own_fired : (l : Layer) → is_below s l.space ≡ true → fired statements (alone_layers s layers) l ≡ fired statements layers l
    own_fired l e =
        ap (λ (needed : Trigger → Bool). fold beginning (record l { triggers = filter (λ u. not (needed u)) l.triggers }) (filter needed l.triggers)) (λ i u. own_needed l e u i)

    own_has_needed : (l : Layer) → is_below s l.space ≡ true → has_needed statements (alone_layers s layers) l ≡ has_needed statements layers l
    own_has_needed l e = ap (λ (needed : Trigger → Bool). list_any needed l.triggers) (λ i u. own_needed l e u i)

    quiet_fired : (l : Layer) → is_kept s l ≡ true → is_below s l.space ≡ false → fired statements (alone_layers s layers) (quieted s l) ≡ quieted s l
    quiet_fired l e f = subst (λ m. fired statements (alone_layers s layers) m ≡ m) (sym (quiet_layer s l e f)) refl

    quiet_needed : (l : Layer) → is_kept s l ≡ true → is_below s l.space ≡ false → has_needed statements (alone_layers s layers) (quieted s l) ≡ false
    quiet_needed l e f = subst (λ m. has_needed statements (alone_layers s layers) m ≡ false) (sym (quiet_layer s l e f)) refl

    fired_kept : (l : Layer) → is_kept s (fired statements layers l) ≡ is_kept s l
    fired_kept l = ap (λ u. is_below u s || is_below s u) (fired_space statements layers l)

    round_alone : (ls : List Layer) → Outer (has_needed statements layers) ls → alone_layers s (map (fired statements layers) ls) ≡ map (fired statements (alone_layers s layers)) (alone_layers s ls)
    round_alone [] h = refl
    round_alone (l ∷ ls) h = by (is_below s l.space) (is_kept s l) refl refl (round_alone ls (outer_rest (has_needed statements layers) l ls h))
      where
        change : Layer → Layer
        change = fired statements layers

        other : Layer → Layer
        other = fired statements (alone_layers s layers)

        same : is_below s l.space ≡ false → change l ≡ l
        same k = fired_same statements layers l (outer_first (has_needed statements layers) l ls h k)

        by : (b c : Bool) → is_below s l.space ≡ b → is_kept s l ≡ c → alone_layers s (map change ls) ≡ map other (alone_layers s ls) → alone_layers s (map change (l ∷ ls)) ≡ map other (alone_layers s (l ∷ ls))
        by true c i j rest =
            own_first s (change l) (map change ls) (ap (is_below s) (fired_space statements layers l) ∙ i) ∙ ap₂ (λ m ms. m ∷ ms) (sym (own_fired l i)) rest ∙ ap (map other) (sym (own_first s l ls i))
        by false true i j rest =
            ap (λ m. alone_layers s (m ∷ map change ls)) (same i) ∙ kept_first s l (map change ls) j ∙ ap₂ (λ m ms. m ∷ ms) (sym (quiet_fired l j i)) rest ∙ ap (map other) (sym (kept_first s l ls j))
        by false false i j rest = not_kept_first s (change l) (map change ls) (fired_kept l ∙ j) ∙ rest ∙ ap (map other) (sym (not_kept_first s l ls j))

    any_needed_alone : (ls : List Layer) → Outer (has_needed statements layers) ls → list_any (has_needed statements (alone_layers s layers)) (alone_layers s ls) ≡ list_any (has_needed statements layers) ls
    any_needed_alone [] h = refl
    any_needed_alone (l ∷ ls) h = by (is_below s l.space) (is_kept s l) refl refl (any_needed_alone ls (outer_rest (has_needed statements layers) l ls h))
      where
        test : Layer → Bool
        test = has_needed statements (alone_layers s layers)

        none : is_below s l.space ≡ false → has_needed statements layers l ≡ false
        none k = outer_first (has_needed statements layers) l ls h k

        by : (b c : Bool) → is_below s l.space ≡ b → is_kept s l ≡ c → list_any test (alone_layers s ls) ≡ list_any (has_needed statements layers) ls
            → list_any test (alone_layers s (l ∷ ls)) ≡ list_any (has_needed statements layers) (l ∷ ls)
        by true c i j rest = ap (list_any test) (own_first s l ls i) ∙ ap₂ (λ a b. a || b) (own_has_needed l i) rest
        by false true i j rest = ap (list_any test) (kept_first s l ls j) ∙ ap₂ (λ a b. a || b) (quiet_needed l j i ∙ sym (none i)) rest
        by false false i j rest = ap (list_any test) (not_kept_first s l ls j) ∙ rest ∙ sym (ap (λ b. b || list_any (has_needed statements layers) ls) (none i))

  pub end_alone : (u : List ℕ) (how : Layer → Layer) (ls : List Layer) → is_below s u ≡ true → ((l : Layer) → (how l).space ≡ l.space) → alone_layers s (ending u how ls) ≡ ending u how (alone_layers s ls)
  end_alone u how ls e h =
      alone_changed s u how how e h (λ l k. refl) (filter (λ (l : Layer). not (is_properly_below u l.space)) ls)
      ∙ ap (in_layer u how) (alone_filtered s (λ (l : Layer). not (is_properly_below u l.space)) (quieted_is s (λ (l : Layer). not (is_properly_below u l.space)) (λ l. refl)) ls)

  failing_alone : (us : List (List ℕ)) → ((u : List ℕ) → In u us → is_below t u ≡ true) → (ls : List Layer) → alone_layers s (fold failing ls us) ≡ fold failing (alone_layers s ls) us
  failing_alone [] h ls = refl
  failing_alone (u ∷ us) h ls =
      failing_alone us (λ v i. h v (inr i)) (failing ls u) ∙ ap (λ ms. fold failing ms us) (end_alone u failed ls (below_trans s t u inner (h u (inl refl))) (λ l. refl))

  module _ (before : List Layer) (sound : IsSound before) (quiet : NoneNeeded statements before) (there : live_at before t ≡ true) where
    without_alone : (layers : List Layer) → Stay t before layers → alone_layers s (without_inconsistent layers) ≡ without_inconsistent (alone_layers s layers)
    without_alone layers n =
        failing_alone (inconsistent_spaces layers) (failing_inside statements t before sound quiet there layers n) layers
        ∙ ap (fold failing (alone_layers s layers)) (sym (inconsistent_same layers layers (sound_outside statements t before sound quiet there layers n)))

    rounds_alone : (m : ℕ) (layers : List Layer) → Stay t before layers → alone_layers s (fired_for statements m layers) ≡ fired_for statements m (alone_layers s layers)
    unfolding fired_for
    rounds_alone zero layers n = refl
    rounds_alone (suc m) layers n =
        by (list_any (has_needed statements layers) layers) refl (rounds_alone m (map (fired statements layers) layers) (round_stays statements t before sound quiet there layers n))
      where
        none : Outer (has_needed statements layers) layers
        none = unneeded_outside statements t before sound quiet there layers n

        part : List Layer
        part = alone_layers s layers

        by : (b : Bool) → list_any (has_needed statements layers) layers ≡ b
            → alone_layers s (fired_for statements m (map (fired statements layers) layers)) ≡ fired_for statements m (alone_layers s (map (fired statements layers) layers))
            → alone_layers s (if b then fired_for statements m (map (fired statements layers) layers) else layers) ≡ fired_for statements (suc m) part
        by true e rest =
            rest ∙ ap (fired_for statements m) (round_alone layers layers none)
            ∙ sym (ap (λ (b : Bool). if b then fired_for statements m (map (fired statements part) part) else part) (any_needed_alone layers layers none ∙ e))
        by false e rest = sym (ap (λ (b : Bool). if b then fired_for statements m (map (fired statements part) part) else part) (any_needed_alone layers layers none ∙ e))

    -- as many rounds as triggers are enough, of these and of those that are left
    abbrev trigger_count : List Layer → ℕ
    trigger_count layers = sum_by (λ (l : Layer). length l.triggers) layers

    triggered_alone : (layers : List Layer) → Stay t before layers → alone_layers s (triggered statements layers) ≡ triggered statements (alone_layers s layers)
    triggered_alone layers n =
        let part : List Layer = alone_layers s layers in
        let m : ℕ = trigger_count layers in
        let last : List Layer = fired_for statements m layers in
        let alike : alone_layers s last ≡ fired_for statements m part = rounds_alone m layers n in
        let none : NoneNeeded statements (alone_layers s last) =
        any_needed_alone last last (unneeded_outside statements t before sound quiet there last (rounds_stay statements t before sound quiet there m layers n)) ∙ none_left statements layers in
        alike ∙ rounds_meet statements m (trigger_count part) part (subst (NoneNeeded statements) alike none) (none_left statements part)

    pub settled_alone : is_top s ≡ false → (mover : Option Ident) (cost : ℕ) (c : Configuration) → Stay t before c.layers
        → ◌≡◌ {A = Turned} (settled statements (own_mover s mover) cost (alone s c)) ((settled statements mover cost c).0, alone s (settled statements mover cost c).1)
    settled_alone child mover cost c n =
        let after : List Layer = triggered statements (without_inconsistent c.layers) in
        let part : List Layer = triggered statements (without_inconsistent (alone_layers s c.layers)) in
        let layers_are : part ≡ alone_layers s after =
        sym (triggered_alone (without_inconsistent c.layers) (failures_stay statements t before sound quiet there c.layers n) ∙ ap (triggered statements) (without_alone c.layers n)) in
        let queue_is : queue_after (runnable statements part) (own_mover s mover) (filter (is_own s) c.queue) ≡ filter (is_own s) (queue_after (runnable statements after) mover c.queue) =
        ap (λ ids. queue_after ids (own_mover s mover) (filter (is_own s) c.queue)) (ap (runnable statements) layers_are ∙ runnable_alone s statements after) ∙ sym (own_queue s (runnable statements after) mover c.queue) in
        let whole : ◌≡◌ {A = Turned} (settled statements mover cost c) (Moved cost, requeued statements mover c after) =
        ap (λ (b : Bool). if b then top_failed cost c else (Moved cost, requeued statements mover c after)) (top_sound statements t before sound quiet there (top_not_below s t child inner) c.layers n) in
        let one : ◌≡◌ {A = Turned} (settled statements (own_mover s mover) cost (alone s c)) (Moved cost, requeued statements (own_mover s mover) (alone s c) part) =
        ap (λ (b : Bool). if b then top_failed cost (alone s c) else (Moved cost, requeued statements (own_mover s mover) (alone s c) part))
        (no_top c.layers child c.layers (sound_outside statements t before sound quiet there c.layers n)) in
        one ∙ ap₂ (λ (ls : List Layer) (ids : List Ident). (Moved cost, record c { layers = ls; queue = ids })) layers_are queue_is ∙ ap (λ (w : Turned). (w.0, alone s w.1)) (sym whole)
