-- The least propagator that is due, and its run, where a space is alone.
use Rattle.std.proofs.Common.{◌≡◌, ℕ, Bool, true, false, if◌then◌else◌, List, [], ◌∷◌, refl, sym, ap, ◌∙◌, Option, Some, None, option_map}
use Rattle.std.specs.List.{find}
use Rattle.oz_base.specs.Lists.{given_or, first_given}
use Rattle.oz_language.specs.declared.kernel.Statement.{Statement}
use Rattle.oz_semantics.specs.Names.{is_below, is_top}
use Rattle.oz_semantics.specs.Store.{View}
use Rattle.oz_semantics.specs.Configurations.{is_open, view, in_layer, failed}
use Rattle.oz_semantics.specs.Propagation.{is_due, Run, Fails, Narrows, run_of, after_run}
use Rattle.oz_semantics.specs.Settling.{Turned, settled, failing, top_failed}
use Rattle.oz_semantics.specs.Schedule.{due_in, least_due, after_run_of, propagated}
use Rattle.oz_semantics.specs.declared.configuration.Propagator.{Propagator}
use Rattle.oz_semantics.specs.declared.configuration.Layer.{Layer}
use Rattle.oz_semantics.specs.declared.configuration.Configuration.{Configuration}
use Rattle.view_laws.specs.Needs.{NoneNeeded}
use Rattle.view_laws.specs.Steps.{IsSound}
use Rattle.view_laws.proofs.Members.{not_both}
use Rattle.view_laws.proofs.NameLaws.{below_itself}
use Rattle.turn_laws.proofs.DueLaws.{due_of}
use Rattle.alone_laws.specs.Alone.{is_kept, quieted, alone_layers, alone}
use Rattle.alone_laws.proofs.OutsideLaws.{Stay, change_stays, end_stays}
use Rattle.alone_laws.proofs.WaitLaws.{live_at}
use Rattle.alone_laws.proofs.RestLaws.{top_not_below}
use Rattle.alone_laws.proofs.AloneLaws.{own_first, kept_first, not_kept_first, own_view}
use Rattle.alone_laws.proofs.AloneParts.{quiet_layer}
use Rattle.alone_laws.proofs.AloneRest.{end_alone, settled_alone}
use Rattle.alone_laws.proofs.AloneEdits.{own_edit}

-- The least that is due

abbrev Due : Type 0
Due = Option (Layer × Propagator)

module _ (s : List ℕ) (layers : List Layer) where
  abbrev part : List Layer
  part = alone_layers s layers

  abbrev due_by : View → Layer → Due
  due_by v l = if is_open l.status then option_map {U = Layer × Propagator} (λ (p : Propagator). (l, p)) (find (is_due v) l.propagators) else None

  own_due : (l : Layer) → is_below s l.space ≡ true → due_in part l ≡ due_in layers l
  own_due l e = ap (λ v. due_by v l) (own_view s l.space e layers)

  quiet_due : (l : Layer) → is_kept s l ≡ true → is_below s l.space ≡ false → due_in part (quieted s l) ≡ None
  quiet_due l e f = ap (due_in part) (quiet_layer s l e f) ∙ by (is_open l.status)
    where
      by : (b : Bool) → ◌≡◌ {A = Due} (if b then None else None) None
      by true = refl
      by false = refl

  abbrev least_in : List Layer → Due
  least_in ls = first_given (due_in part) (alone_layers s ls)

  first_own : (l : Layer) (ls : List Layer) → is_below s l.space ≡ true → least_in (l ∷ ls) ≡ given_or (due_in layers l) (least_in ls)
  first_own l ls e = ap (first_given (due_in part)) (own_first s l ls e) ∙ ap (λ (o : Due). given_or o (least_in ls)) (own_due l e)

  first_other : (l : Layer) (ls : List Layer) → is_below s l.space ≡ false → least_in (l ∷ ls) ≡ least_in ls
  first_other l ls e = by (is_kept s l) refl
    where
      by : (b : Bool) → is_kept s l ≡ b → least_in (l ∷ ls) ≡ least_in ls
      by true k = ap (first_given (due_in part)) (kept_first s l ls k) ∙ ap (λ (o : Due). given_or o (least_in ls)) (quiet_due l k e)
      by false k = ap (first_given (due_in part)) (not_kept_first s l ls k)

  none_along : (ls : List Layer) → first_given (due_in layers) ls ≡ None → least_in ls ≡ None
  none_along [] e = refl
  none_along (l ∷ ls) e = by (due_in layers l) (is_below s l.space) refl refl e (none_along ls)
    where
      by : (o : Due) (b : Bool) → due_in layers l ≡ o → is_below s l.space ≡ b → given_or o (first_given (due_in layers) ls) ≡ None → (first_given (due_in layers) ls ≡ None → least_in ls ≡ None)
          → least_in (l ∷ ls) ≡ None
      by None true k i q rest = first_own l ls i ∙ ap (λ (o : Due). given_or o (least_in ls)) k ∙ rest q
      by None false k i q rest = first_other l ls i ∙ rest q
      by (Some d) b k i q rest = cc

  found_along : (ls : List Layer) (due : Layer × Propagator) → is_below s due.0.space ≡ true → first_given (due_in layers) ls ≡ Some due → least_in ls ≡ Some due
  found_along [] due own e = cc
  found_along (l ∷ ls) due own e = by (due_in layers l) (is_below s l.space) refl refl e (found_along ls due own)
    where
      by : (o : Due) (b : Bool) → due_in layers l ≡ o → is_below s l.space ≡ b → given_or o (first_given (due_in layers) ls) ≡ Some due → (first_given (due_in layers) ls ≡ Some due → least_in ls ≡ Some due)
          → least_in (l ∷ ls) ≡ Some due
      by None true k i q rest = first_own l ls i ∙ ap (λ (o : Due). given_or o (least_in ls)) k ∙ rest q
      by None false k i q rest = first_other l ls i ∙ rest q
      by (Some d) true k i q rest = first_own l ls i ∙ ap (λ (o : Due). given_or o (least_in ls)) k ∙ q
      by (Some d) false k i q rest = absurd (not_both _ own (sym (ap (λ (m : Layer). is_below s m.space) (due_of layers l due (k ∙ q)).0) ∙ i))

  pub none_alone : least_due layers ≡ None → least_due part ≡ None
  none_alone e = none_along layers e

  pub due_alone : (due : Layer × Propagator) → is_below s due.0.space ≡ true → least_due layers ≡ Some due → least_due part ≡ Some due
  due_alone due own e = found_along layers due own e

-- Its run

module _ (statements : List Statement) (s : List ℕ) (due : Layer × Propagator) (inner : is_below s due.0.space ≡ true) (child : is_top s ≡ false)
    (before : List Layer) (sound : IsSound before) (quiet : NoneNeeded statements before) (there : live_at before due.0.space ≡ true) where
  abbrev u : List ℕ
  u = due.0.space

  abbrev AloneIs : Turned → Turned → Type 0
  AloneIs one turned = ◌≡◌ {A = Turned} one (turned.0, alone s turned.1)

  settles_alone : (c : Configuration) (ls layers : List Layer) → Stay u before layers → ls ≡ alone_layers s layers
      → AloneIs (settled statements None 1 (record (alone s c) { layers = ls })) (settled statements None 1 (record c { layers = layers }))
  settles_alone c ls layers n e =
      ap (λ (ms : List Layer). settled statements None 1 (record (alone s c) { layers = ms })) e
      ∙ settled_alone statements s u inner before sound quiet there child None 1 (record c { layers = layers }) n

  fails_by : (c : Configuration)
      → ◌≡◌ {A = Turned} (if is_top u then top_failed 1 c else settled statements None 1 (record c { layers = failing c.layers u })) (settled statements None 1 (record c { layers = failing c.layers u }))
  fails_by c = ap (λ (b : Bool). if b then top_failed 1 c else settled statements None 1 (record c { layers = failing c.layers u })) (top_not_below s u child inner)

  run_alone : (c : Configuration) (run : Run) → Stay u before c.layers → AloneIs (after_run_of statements due.0 due.1 (alone s c) run) (after_run_of statements due.0 due.1 c run)
  run_alone c Fails n =
      fails_by (alone s c)
      ∙ settles_alone c (failing (alone_layers s c.layers) u) (failing c.layers u) (end_stays u u failed c.layers (below_itself u) (λ l. refl) ∙ n) (sym (end_alone statements s u inner u failed c.layers inner (λ l. refl)))
      ∙ ap (λ (w : Turned). (w.0, alone s w.1)) (sym (fails_by c))
  run_alone c (Narrows ts) n =
      let f : Layer → Layer = after_run (view c.layers u) due.1 ts in
      settles_alone c (in_layer u (after_run (view (alone_layers s c.layers) u) due.1 ts) (alone_layers s c.layers)) (in_layer u f c.layers) (change_stays u u f c.layers (below_itself u) (λ l. refl) ∙ n)
      (ap (λ (v : View). in_layer u (after_run v due.1 ts) (alone_layers s c.layers)) (own_view s u inner c.layers) ∙ sym (own_edit s u inner f (λ l. refl) c.layers))

  pub propagated_alone : (c : Configuration) → Stay u before c.layers → AloneIs (propagated statements due (alone s c)) (propagated statements due c)
  propagated_alone c n =
      ap (λ (v : View). after_run_of statements due.0 due.1 (alone s c) (run_of v due.1)) (own_view s u inner c.layers)
      ∙ run_alone c (run_of (view c.layers u) due.1) n
