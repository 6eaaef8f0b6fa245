-- What is left where spaces that see what is inconsistent fail.
use Rattle.std.proofs.Common.{◌≡◌, inl, inr, ℕ, Bool, true, false, not, ◌&&◌, if◌then◌else◌, List, [], ◌∷◌, refl, sym, ap, ap₂, subst, ◌∙◌, Contains, Option, filter, map, fold, unwrap_or}
use Rattle.std.proofs.lemmas.Bool.{false≢true}
use Rattle.oz_base.specs.Lists.{list_eq}
use Rattle.oz_semantics.specs.Names.{is_below, is_properly_below, is_top, named}
use Rattle.oz_semantics.specs.Store.{View, is_consistent}
use Rattle.oz_semantics.specs.Configurations.{is_of, layer_at, layer_of, new_layer, frames_in, thread_at, view, in_layer, failed, ending}
use Rattle.oz_semantics.specs.Changes.{changed_all}
use Rattle.oz_semantics.specs.Triggers.{triggered}
use Rattle.oz_semantics.specs.Settling.{may_fail, is_inconsistent, inconsistent_spaces, failing, without_inconsistent, top_is_inconsistent, top_failed, requeued}
use Rattle.oz_semantics.specs.declared.configuration.Status.{Status}
use Rattle.oz_semantics.specs.declared.configuration.Layer.{Layer}
use Rattle.oz_semantics.specs.declared.configuration.Configuration.{Configuration}
use Rattle.oz_semantics.specs.declared.outcome.Stepped.TheVariants.{Moved}
use Rattle.oz_laws.proofs.SameLaws.{In, In-from_contains, contains-from_In, and-left, and-right}
use Rattle.view_laws.proofs.Members.{decide, some_of}
use Rattle.view_laws.proofs.ListLaws.{in_filter, map_in}
use Rattle.view_laws.proofs.NameLaws.{below_anti, equal_names, properly, properly_trans}
use Rattle.view_laws.proofs.SightLaws.{failure_unseen}
use Rattle.view_laws.proofs.ChangeLaws.{edit_of, changed_by}
use Rattle.settle_laws.specs.Settles.{Settles, IsQuiet, NothingFails, QuietFails, QuietSettles, ChangesSettle, KeepsOwn, KeepsView, EndsSame, Settled, TellSettles, TopKept}
use Rattle.settle_laws.proofs.ListEdits.{edits_apart, filter_edit, filter_dropped, filter_inside, find_edit, find_filter, names_edit}
use Rattle.settle_laws.proofs.EditLaws.{quiet_view, edit_quiet}

pub nothing_fails : NothingFails
nothing_fails space layers e = record {
  below = λ t c. elim (In-from_contains [] t (subst (λ ts. Contains ts t) e c)) [ ];
  left = sym (ap (fold failing layers) e);
}

-- A quiet change

module _ (change : Layer → Layer) (layers : List Layer) (space : List ℕ) (quiet : IsQuiet change) where
  abbrev changed_layers : List Layer
  changed_layers = in_layer space change layers

  same_test : (l : Layer) → is_inconsistent changed_layers l ≡ is_inconsistent layers l
  same_test l = ap (λ (v : View). may_fail l.status && not (is_consistent v)) (quiet_view change layers space l.space quiet)

  kept_test : (l : Layer) → is_inconsistent layers (change l) ≡ is_inconsistent layers l
  kept_test l = ap₂ (λ (s : Status) (p : List ℕ). may_fail s && not (is_consistent (view layers p))) (quiet.status l) (quiet.space l)

  pub quiet_inconsistent : inconsistent_spaces changed_layers ≡ inconsistent_spaces layers
  quiet_inconsistent =
      ap (λ (p : Layer → Bool). map (λ (l : Layer). l.space) (filter p changed_layers)) (λ i l. same_test l i)
      ∙ names_edit (λ (l : Layer). l.space) (is_inconsistent layers) (is_of space) change kept_test quiet.space layers

pub quiet_fails : QuietFails
quiet_fails change layers space quiet = quiet_inconsistent change layers space quiet

-- A space that fails below another

module _ (space t : List ℕ) (lower : is_properly_below space t ≡ true) where
  pub not_above : is_below t space ≡ false
  not_above = elim (decide (is_below t space)) [
    | inl e ↦ (let p = properly space t lower in absurd (p.1 (below_anti space t p.0 e)))
    | inr e ↦ e
  ]

  abbrev left : Layer → Bool
  left l = not (is_properly_below t l.space)

  own_left : (l : Layer) → is_of space l ≡ true → left l ≡ true
  own_left l e = ap (λ (p : List ℕ). not (is_below t p && not (list_eq t p))) (equal_names l.space space e) ∙ ap (λ (b : Bool). not (b && not (list_eq t space))) not_above

  two_layers : (l : Layer) → is_of t l ≡ true → is_of space l ≡ false
  two_layers l e = elim (decide (is_of space l)) [
    | inl k ↦ absurd ((properly space t lower).1 (sym (equal_names l.space space k) ∙ equal_names l.space t e))
    | inr k ↦ k
  ]

  -- whatever is done to the space, if it keeps its name
  pub failing_kept : (change : Layer → Layer) → ((l : Layer) → (change l).space ≡ l.space) → (layers : List Layer) → failing (in_layer space change layers) t ≡ in_layer space change (failing layers t)
  failing_kept change keeps layers =
      ap (in_layer t failed) (filter_edit left (is_of space) change (λ l. ap (λ p. not (is_properly_below t p)) (keeps l)) own_left layers)
      ∙ edits_apart (is_of t) (is_of space) failed change (λ l. ap (λ p. list_eq p t) (keeps l)) (λ l. refl) two_layers (filter left layers)

  pub failing_quiet : (change : Layer → Layer) → IsQuiet change → (layers : List Layer) → failing (in_layer space change layers) t ≡ in_layer space change (failing layers t)
  failing_quiet change quiet layers = failing_kept change quiet.space layers

  pub failing_own : (layers : List Layer) → layer_at (failing layers t) space ≡ layer_at layers space
  failing_own layers = find_edit (is_of space) (is_of t) failed (λ l. refl) two_layers (filter left layers) ∙ find_filter (is_of space) left own_left layers

  pub failing_view : (layers : List Layer) → view (failing layers t) space ≡ view layers space
  failing_view layers = failure_unseen layers t space not_above

  abbrev kept : Layer → Bool
  kept l = not (is_properly_below space l.space)

  lower_gone : (l : Layer) → is_of t l ≡ true → kept l ≡ false
  lower_gone l e = ap (λ p. not (is_properly_below space p)) (equal_names l.space t e) ∙ ap not lower

  gone_both : (l : Layer) → left l ≡ false → kept l ≡ false
  gone_both l e = ap not (properly_trans space t l.space lower (and-left _ _ (not_false _ e)))
    where
      not_false : (b : Bool) → not b ≡ false → b ≡ true
      not_false true k = refl
      not_false false k = sym k

  pub failing_end : (how : Layer → Layer) (layers : List Layer) → ending space how (failing layers t) ≡ ending space how layers
  failing_end how layers =
      ap (in_layer space how) (filter_dropped kept (is_of t) failed (λ l. refl) lower_gone (filter left layers) ∙ filter_inside kept left gone_both layers)

-- Spaces that fail in turn

fold_quiet : (change : Layer → Layer) (space : List ℕ) → IsQuiet change → (ts : List (List ℕ)) → ((t : List ℕ) → In t ts → is_properly_below space t ≡ true) → (layers : List Layer)
    → fold failing (in_layer space change layers) ts ≡ in_layer space change (fold failing layers ts)
fold_quiet change space quiet [] h layers = refl
fold_quiet change space quiet (t ∷ ts) h layers =
    ap (λ ls. fold failing ls ts) (failing_quiet space t (h t (inl refl)) change quiet layers) ∙ fold_quiet change space quiet ts (λ s k. h s (inr k)) (failing layers t)

fold_same : {A : Type 0} (read : List Layer → A) (space : List ℕ) → ((t : List ℕ) (layers : List Layer) → is_properly_below space t ≡ true → read (failing layers t) ≡ read layers) → (ts : List (List ℕ))
    → ((t : List ℕ) → In t ts → is_properly_below space t ≡ true) → (layers : List Layer) → read (fold failing layers ts) ≡ read layers
fold_same read space same [] h layers = refl
fold_same read space same (t ∷ ts) h layers = fold_same read space same ts (λ s k. h s (inr k)) (failing layers t) ∙ same t layers (h t (inl refl))

module _ (space : List ℕ) (before after : List Layer) (settles : Settles space before after) where
  all_below : (t : List ℕ) → In t (inconsistent_spaces before) → is_properly_below space t ≡ true
  all_below t h = settles.below t (contains-from_In (inconsistent_spaces before) t h)

  -- what no failure below the space changes is the same
  pub settled_same : {A : Type 0} (read : List Layer → A) → ((t : List ℕ) (layers : List Layer) → is_properly_below space t ≡ true → read (failing layers t) ≡ read layers) → read after ≡ read before
  settled_same read same = ap read settles.left ∙ fold_same read space same (inconsistent_spaces before) all_below before

  settled_quiet : (change : Layer → Layer) → IsQuiet change → Settles space (in_layer space change before) (in_layer space change after)
  settled_quiet change quiet = record {
    below = λ t c. settles.below t (subst (λ ts. Contains ts t) (quiet_inconsistent change before space quiet) c);
    left =
        ap (in_layer space change) settles.left
        ∙ sym (fold_quiet change space quiet (inconsistent_spaces before) all_below before)
        ∙ ap (fold failing (in_layer space change before)) (sym (quiet_inconsistent change before space quiet));
  }

  settled_own : layer_at after space ≡ layer_at before space
  settled_own = settled_same (λ layers. layer_at layers space) (λ t layers e. failing_own space t e layers)

  settled_layer : layer_of after space ≡ layer_of before space
  settled_layer = ap (λ (o : Option Layer). unwrap_or o (new_layer space)) settled_own

  settled_view : view after space ≡ view before space
  settled_view = settled_same (λ layers. view layers space) (λ t layers e. failing_view space t e layers)

  settled_end : (how : Layer → Layer) → ending space how after ≡ ending space how before
  settled_end how = settled_same (λ layers. ending space how layers) (λ t layers e. failing_end space t e how layers)

  not_below_top : (s t : List ℕ) → is_top t ≡ true → is_properly_below s t ≡ true → ⊥
  not_below_top [] [] e k = false≢true k
  not_below_top (n ∷ s) [] e k = false≢true k
  not_below_top s (n ∷ t) e k = false≢true e

  settled_top : top_is_inconsistent before ≡ false
  settled_top = elim (decide (top_is_inconsistent before)) [
    | inl e ↦ (let l = some_of (λ (l : Layer). is_top l.space && is_inconsistent before l) before e in
        let there : In l.0.space (inconsistent_spaces before) =
        map_in (λ (m : Layer). m.space) (filter (is_inconsistent before) before) l.0 (in_filter (is_inconsistent before) before l.0 (In-from_contains before l.0 l.1) (and-right _ _ l.2)) in
        absurd (not_below_top space l.0.space (and-left _ _ l.2) (all_below l.0.space there)))
    | inr e ↦ e
  ]

pub quiet_settles : QuietSettles
quiet_settles change space before after quiet settles = settled_quiet space before after settles change quiet

pub keeps_own : KeepsOwn
keeps_own space before after settles = record {
  at = settled_own space before after settles;
  layer = settled_layer space before after settles;
  stack =
      λ id e. subst (λ (s : List ℕ). ◌≡◌ (frames_in (thread_at (layer_of after s).threads id.number)) (frames_in (thread_at (layer_of before s).threads id.number))) (sym e)
      (ap (λ (l : Layer). frames_in (thread_at l.threads id.number)) (settled_layer space before after settles));
  variable = ap (λ (l : Layer). named space l.next.variable) (settled_layer space before after settles);
}

pub keeps_view : KeepsView
keeps_view space before after settles = settled_view space before after settles

pub ends_same : EndsSame
ends_same space how before after settles = settled_end space before after settles how

pub changes_settle : ChangesSettle
changes_settle id [] before after settles = settles
changes_settle id (change ∷ changes) before after settles =
    subst (λ (f : List Layer → List Layer). Settles id.space (changed_all id changes (f before)) (changed_all id changes (f after))) (λ i layers. sym (changed_by id layers change) i)
    (changes_settle id changes (in_layer id.space (edit_of id.number change) before) (in_layer id.space (edit_of id.number change) after)
    (settled_quiet id.space before after settles (edit_of id.number change) (edit_quiet id.number change)))

pub settled_by : Settled
settled_by statements mover cost space before after queue shown settles =
    let left : Configuration = record { layers = before; queue = queue; shown = shown } in
    ap (λ (b : Bool). if b then top_failed cost left else (Moved cost, requeued statements mover left (triggered statements (without_inconsistent before)))) (settled_top space before after settles)
    ∙ ap (λ (ls : List Layer). (Moved cost, requeued statements mover left (triggered statements ls))) (sym settles.left)

pub tell_settles : TellSettles
tell_settles space ts old new below left = record { below = below; left = left }

pub top_kept : TopKept
top_kept space before after settles = settled_top space before after settles
