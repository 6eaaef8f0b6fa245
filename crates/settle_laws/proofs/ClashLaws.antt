-- A space that is told what clashes with what it sees fails; and what a space is told after spaces below it have failed.
use Rattle.std.proofs.Common.{◌≡◌, ◌⊎◌, inl, inr, ℕ, Bool, true, false, not, ◌&&◌, if◌then◌else◌, List, [], ◌∷◌, ◌++◌, refl, sym, ap, subst, ◌∙◌, Some, filter, fold}
use Rattle.std.proofs.lemmas.List.Sums.{fold-append}
use Rattle.std.proofs.lemmas.Bool.{false≢true}
use Rattle.oz_base.specs.Lists.{list_eq}
use Rattle.oz_semantics.specs.Names.{is_below, is_properly_below}
use Rattle.oz_semantics.specs.Store.{View, is_consistent}
use Rattle.oz_semantics.specs.Configurations.{is_of, layer_at, view, in_layer, telling, failed, ending}
use Rattle.oz_semantics.specs.Settling.{may_fail, is_inconsistent, inconsistent_spaces, failing, without_inconsistent}
use Rattle.oz_semantics.specs.declared.value.Tell.{Tell}
use Rattle.oz_semantics.specs.declared.configuration.Status.{Status}
use Rattle.oz_semantics.specs.declared.configuration.Status.TheVariants.{Open}
use Rattle.oz_semantics.specs.declared.configuration.Layer.{Layer}
use Rattle.oz_laws.proofs.SameLaws.{In, In-from_contains, contains-from_In, In-flat, In-flat_back, and-left, and-right}
use Rattle.view_laws.proofs.Members.{decide, not_both, In-left, In-right, In-cases, and_both}
use Rattle.view_laws.proofs.ListLaws.{filter_in, in_filter, map_in, in_map, in_edit, edit_in, edited_in}
use Rattle.view_laws.proofs.NameLaws.{below_itself, below_trans, equal_names, properly}
use Rattle.view_laws.proofs.SightLaws.{space_of, change_unseen, failure_unseen}
use Rattle.settle_laws.specs.Clashes.{ClashFails, TellsAfter}
use Rattle.settle_laws.proofs.ListEdits.{edit_twice, filter_edit}
use Rattle.settle_laws.proofs.SettleLaws.{failing_kept}
use Rattle.settle_laws.proofs.TellLaws.{consistent_part}
use Rattle.settle_laws.proofs.OrderLaws.{AreWithin, left, same_fail}

-- The spaces that see what is inconsistent

pub inconsistent_in : (layers : List Layer) (t : List ℕ) → In t (inconsistent_spaces layers) → (m : Layer) × In m layers × (is_inconsistent layers m ≡ true) × (m.space ≡ t)
inconsistent_in layers t h =
    let m = in_map (λ (l : Layer). l.space) (filter (is_inconsistent layers) layers) t h in
    let f = filter_in (is_inconsistent layers) layers m.0 m.1 in
    (m.0, f.0, f.1, m.2)

pub in_inconsistent : (layers : List Layer) (m : Layer) → In m layers → is_inconsistent layers m ≡ true → In m.space (inconsistent_spaces layers)
in_inconsistent layers m h e = map_in (λ (l : Layer). l.space) (filter (is_inconsistent layers) layers) m (in_filter (is_inconsistent layers) layers m h e)

same_sight : (before after : List Layer) (m : Layer) → view after m.space ≡ view before m.space → is_inconsistent after m ≡ is_inconsistent before m
same_sight before after m e = ap (λ (v : View). may_fail m.status && not (is_consistent v)) e

-- what tells more is inconsistent too
more_inconsistent : (s : Status) (v w : View) → ((x : Tell) → In x v → In x w) → (may_fail s && not (is_consistent v)) ≡ true → (may_fail s && not (is_consistent w)) ≡ true
more_inconsistent s v w more e = and_both _ _ (and-left _ _ e) (by (is_consistent w) refl)
  where
    by : (b : Bool) → is_consistent w ≡ b → not b ≡ true
    by true k = absurd (false≢true (ap not (sym (consistent_part v w (λ x c. contains-from_In w x (more x (In-from_contains v x c))) k)) ∙ and-right (may_fail s) _ e))
    by false k = refl

-- A space is told more

module _ (space : List ℕ) (ts : List Tell) (old : List Layer) where
  abbrev new : List Layer
  new = in_layer space (telling ts) old

  tells_more : (other : List ℕ) (x : Tell) (m : Layer) → In x (if is_below m.space other then m.tells else []) → In x (if is_below m.space other then m.tells ++ ts else [])
  tells_more other x m = by (is_below m.space other)
    where
      by : (b : Bool) → In x (if b then m.tells else []) → In x (if b then m.tells ++ ts else [])
      by true h = In-left x m.tells ts h
      by false h = h

  sees_more : (other : List ℕ) (x : Tell) → In x (view old other) → In x (view new other)
  sees_more other x h =
      let tells : Layer → List Tell = λ l. if is_below l.space other then l.tells else [] in
      let m = In-flat_back tells x old h in
      elim (edit_in (is_of space) (telling ts) old m.0 m.1) [
        | inl k ↦ In-flat tells m.0 x new k m.2
        | inr e ↦ In-flat tells (telling ts m.0) x new (edited_in (is_of space) (telling ts) old m.0 e) (tells_more other x m.0 m.2)
      ]

  -- what its own layer was told, it sees
  sees_told : (l : Layer) → layer_at old space ≡ Some l → (x : Tell) → In x ts → In x (view new space)
  sees_told l at x h =
      let own : is_below l.space space ≡ true = ap (λ s. is_below s space) (space_of old space l at) ∙ below_itself space in
      In-flat (λ (m : Layer). if is_below m.space space then m.tells else []) (telling ts l) x new (edited_in (is_of space) (telling ts) old l at)
      (subst (λ (b : Bool). In x (if b then l.tells ++ ts else [])) (sym own) (In-right x l.tells ts h))

  -- the layers of the other spaces are the same
  other_in : (m : Layer) → (m.space ≡ space → ⊥) → In m old → In m new
  other_in m n h = elim (edit_in (is_of space) (telling ts) old m h) [ inl k ↦ k | inr e ↦ absurd (n (space_of old space m e)) ]

  in_other : (m : Layer) → (m.space ≡ space → ⊥) → In m new → In m old
  in_other m n h = elim (in_edit (is_of space) (telling ts) old m h) [ inl k ↦ k | inr r ↦ absurd (n (ap (λ (l : Layer). l.space) r.2 ∙ space_of old space r.0 r.1)) ]

  apart : (t : List ℕ) → is_below space t ≡ false → t ≡ space → ⊥
  apart t e q = not_both _ (ap (is_below space) q ∙ below_itself space) e

  -- none but this one and those below see what is inconsistent
  told_within : inconsistent_spaces old ≡ [] → AreWithin (space ∷ []) (inconsistent_spaces new)
  told_within none t h = elim (decide (is_below space t)) [
    | inl e ↦ (space, inl refl, e)
    | inr e ↦ (let m = inconsistent_in new t h in
        let away : is_below space m.0.space ≡ false = ap (is_below space) m.3 ∙ e in
        let bad : is_inconsistent old m.0 ≡ true = sym (same_sight old new m.0 (change_unseen (telling ts) old space m.0.space (λ l k. refl) away)) ∙ m.2 in
        elim (subst (λ ss. In m.0.space ss) none (in_inconsistent old m.0 (in_other m.0 (apart m.0.space away) m.1) bad)) [ ])
  ]

  -- it sees what is inconsistent itself where what it is told clashes
  clashes : (l : Layer) → layer_at old space ≡ Some l → l.status ≡ Open → is_consistent (view old space ++ ts) ≡ false → In space (inconsistent_spaces new)
  clashes l at opened clash =
      let own = space_of old space l at in
      let bad : (may_fail Open && not (is_consistent (view new space))) ≡ true =
      more_inconsistent Open (view old space ++ ts) (view new space)
      (λ x h. elim (In-cases x (view old space) ts h) [ inl k ↦ sees_more space x k | inr k ↦ sees_told l at x k ]) (ap not clash) in
      subst (λ s. In s (inconsistent_spaces new)) own
      (in_inconsistent new (telling ts l) (edited_in (is_of space) (telling ts) old l at)
      (ap (λ (s : Status). may_fail s && not (is_consistent (view new l.space))) opened ∙ (ap (λ s. not (is_consistent (view new s))) own ∙ bad)))

  -- what it was told is gone where it fails
  ends_alike : failing new space ≡ ending space failed old
  ends_alike =
      ap (in_layer space failed) (filter_edit (left space) (is_of space) (telling ts) (λ l. refl) (λ l e. own_left l e) old) ∙ edit_twice (is_of space) failed (telling ts) (λ l. refl) (filter (left space) old)
    where
      own_left : (l : Layer) → is_of space l ≡ true → left space l ≡ true
      own_left l e = elim (decide (is_properly_below space l.space)) [
        | inl k ↦ absurd ((properly space l.space k).1 (sym (equal_names l.space space e)))
        | inr k ↦ ap not k
      ]

pub clash_fails : ClashFails
clash_fails space ts layers l at opened none clash =
    same_fail (inconsistent_spaces (in_layer space (telling ts) layers)) (space ∷ []) (told_within space ts layers none)
    (λ t h. elim h [ inl e ↦ (space, clashes space ts layers l at opened clash, subst (λ s. is_below space s ≡ true) e (below_itself space)) | inr k ↦ elim k [ ] ]) (in_layer space (telling ts) layers)
    ∙ ends_alike space ts layers

-- Some spaces that are below inconsistent ones fail first

one_in : (t : List ℕ) (layers : List Layer) (m : Layer) → is_below t m.space ≡ false → In m (failing layers t) → In m layers
one_in t layers m apart h = elim (in_edit (is_of t) failed (filter (left t) layers) m h) [
  | inl k ↦ (filter_in (left t) layers m k).0
  | inr r ↦ (let same : m.space ≡ t = ap (λ (l : Layer). l.space) r.2 ∙ space_of (filter (left t) layers) t r.0 r.1 in
      absurd (not_both _ (ap (is_below t) same ∙ below_itself t) apart))
]

in_one : (t : List ℕ) (layers : List Layer) (m : Layer) → is_below t m.space ≡ false → In m layers → In m (failing layers t)
in_one t layers m apart h = elim (edit_in (is_of t) failed (filter (left t) layers) m (in_filter (left t) layers m h (ap (λ b. not (b && not (list_eq t m.space))) apart))) [
  | inl k ↦ k
  | inr e ↦ absurd (not_both _ (ap (is_below t) (space_of (filter (left t) layers) t m e) ∙ below_itself t) apart)
]

-- what none of them is above stays as it is
module _ (s : List ℕ) where
  abbrev Above : List (List ℕ) → Type 0
  Above ts = (t : List ℕ) × In t ts × (is_below t s ≡ true)

  abbrev NoneAbove : List (List ℕ) → Type 0
  NoneAbove ts = (t : List ℕ) → In t ts → is_below t s ≡ false

  find_above : (ts : List (List ℕ)) → Above ts ⊎ NoneAbove ts
  find_above [] = inr (λ t h. elim h [ ])
  find_above (t ∷ ts) = by (decide (is_below t s)) (find_above ts)
    where
      by : (is_below t s ≡ true) ⊎ (is_below t s ≡ false) → Above ts ⊎ NoneAbove ts → Above (t ∷ ts) ⊎ NoneAbove (t ∷ ts)
      by (inl e) rest = inl (t, inl refl, e)
      by (inr e) (inl a) = inl (a.0, inr a.1, a.2)
      by (inr e) (inr n) = inr (λ r h. elim h [ inl q ↦ subst (λ u. is_below u s ≡ false) q e | inr k ↦ n r k ])

  view_stays : (ts : List (List ℕ)) → NoneAbove ts → (layers : List Layer) → view (fold failing layers ts) s ≡ view layers s
  view_stays [] n layers = refl
  view_stays (t ∷ ts) n layers = view_stays ts (λ r h. n r (inr h)) (failing layers t) ∙ failure_unseen layers t s (n t (inl refl))

stays_in : (m : Layer) (ts : List (List ℕ)) → NoneAbove m.space ts → (layers : List Layer) → In m layers → In m (fold failing layers ts)
stays_in m [] n layers h = h
stays_in m (t ∷ ts) n layers h = stays_in m ts (λ r k. n r (inr k)) (failing layers t) (in_one t layers m (n t (inl refl)) h)

was_in : (m : Layer) (ts : List (List ℕ)) → NoneAbove m.space ts → (layers : List Layer) → In m (fold failing layers ts) → In m layers
was_in m [] n layers h = h
was_in m (t ∷ ts) n layers h = one_in t layers m (n t (inl refl)) (was_in m ts (λ r k. n r (inr k)) (failing layers t) h)

-- so they may fail first
module _ (ts : List (List ℕ)) (layers : List Layer) (within : AreWithin (inconsistent_spaces layers) ts) where
  abbrev later : List Layer
  later = fold failing layers ts

  later_within : AreWithin (inconsistent_spaces layers) (ts ++ inconsistent_spaces later)
  later_within s h = elim (In-cases s ts (inconsistent_spaces later) h) [
    | inl k ↦ within s k
    | inr k ↦ elim (find_above s ts) [
      | inl a ↦ (let u = within a.0 a.1 in (u.0, u.1, below_trans u.0 a.0 s u.2 a.2))
      | inr n ↦ (let m = inconsistent_in later s k in
          let free : NoneAbove m.0.space ts = subst (λ r. NoneAbove r ts) (sym m.3) n in
          let bad : is_inconsistent layers m.0 ≡ true = sym (same_sight layers later m.0 (view_stays m.0.space ts free layers)) ∙ m.2 in
          (m.0.space, in_inconsistent layers m.0 (was_in m.0 ts free layers m.1) bad, ap (is_below m.0.space) (sym m.3) ∙ below_itself m.0.space))
    ]
  ]

  within_later : AreWithin (ts ++ inconsistent_spaces later) (inconsistent_spaces layers)
  within_later s h = elim (find_above s ts) [
    | inl a ↦ (a.0, In-left a.0 ts (inconsistent_spaces later) a.1, a.2)
    | inr n ↦ (let m = inconsistent_in layers s h in
        let free : NoneAbove m.0.space ts = subst (λ r. NoneAbove r ts) (sym m.3) n in
        let bad : is_inconsistent later m.0 ≡ true = same_sight layers later m.0 (view_stays m.0.space ts free layers) ∙ m.2 in
        (m.0.space, In-right m.0.space ts (inconsistent_spaces later) (in_inconsistent later m.0 (stays_in m.0 ts free layers m.1) bad), ap (is_below m.0.space) (sym m.3) ∙ below_itself m.0.space))
  ]

  pub fails_first : without_inconsistent later ≡ without_inconsistent layers
  fails_first =
      sym (fold-append failing layers ts (inconsistent_spaces later)) ∙ same_fail (ts ++ inconsistent_spaces later) (inconsistent_spaces layers) later_within within_later layers

-- What a space is told after

fold_told : (space : List ℕ) (ts : List Tell) (ss : List (List ℕ)) → ((s : List ℕ) → In s ss → is_properly_below space s ≡ true) → (layers : List Layer)
    → fold failing (in_layer space (telling ts) layers) ss ≡ in_layer space (telling ts) (fold failing layers ss)
fold_told space ts [] h layers = refl
fold_told space ts (s ∷ ss) h layers =
    ap (λ ls. fold failing ls ss) (failing_kept space s (h s (inl refl)) (telling ts) (λ l. refl) layers) ∙ fold_told space ts ss (λ r k. h r (inr k)) (failing layers s)

module _ (space : List ℕ) (ts : List Tell) (before : List Layer) (below : (t : List ℕ) → In t (inconsistent_spaces before) → is_properly_below space t ≡ true) where
  abbrev told : List Layer
  told = in_layer space (telling ts) before

  still_inconsistent : AreWithin (inconsistent_spaces told) (inconsistent_spaces before)
  still_inconsistent t h =
      let m = inconsistent_in before t h in
      let other : m.0.space ≡ space → ⊥ = λ e. (properly space t (below t h)).1 (sym e ∙ m.3) in
      let bad : is_inconsistent told m.0 ≡ true = more_inconsistent m.0.status (view before m.0.space) (view told m.0.space) (sees_more space ts before m.0.space) m.2 in
      (m.0.space, in_inconsistent told m.0 (other_in space ts before m.0 other m.1) bad, ap (is_below m.0.space) (sym m.3) ∙ below_itself m.0.space)

  told_after : without_inconsistent (in_layer space (telling ts) (without_inconsistent before)) ≡ without_inconsistent told
  told_after = ap without_inconsistent (sym (fold_told space ts (inconsistent_spaces before) below before)) ∙ fails_first (inconsistent_spaces before) told still_inconsistent

pub tells_after : TellsAfter
tells_after space ts before after settles =
    ap (λ ls. without_inconsistent (in_layer space (telling ts) ls)) settles.left
    ∙ told_after space ts before (λ t h. settles.below t (contains-from_In (inconsistent_spaces before) t h))
