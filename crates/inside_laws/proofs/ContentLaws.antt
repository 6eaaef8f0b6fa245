-- Nothing of what is below a space comes into its tells, cells and ports by a step of its threads, but by a merge: two steps side by side.
use Rattle.std.proofs.Common.{◌≡◌, inl, ℕ, ◌+◌, Bool, true, false, not, ◌&&◌, cond, if◌then◌else◌, List, [], ◌∷◌, ◌++◌, drop, length, refl, sym, ap, ap₂, subst, ◌∙◌, append_assoc, Option, Some, None, is_some}
use Rattle.std.specs.Prelude.{option_map}
use Rattle.std.specs.List.{list_all, find}
use Rattle.std.proofs.lemmas.Bool.{false≢true}
use Rattle.std.proofs.lemmas.List.{append-nil}
use Rattle.oz_base.specs.Lists.{edit_first}
use Rattle.oz_base.specs.declared.names.Ident.{Ident}
use Rattle.oz_base.specs.declared.interval.Interval.{Interval}
use Rattle.oz_language.specs.declared.kernel.Kernel.{Kernel}
use Rattle.oz_language.specs.declared.kernel.Statement.{Statement}
use Rattle.oz_semantics.specs.Names.{is_top, is_below, is_properly_below}
use Rattle.oz_semantics.specs.Store.{View, is_consistent}
use Rattle.oz_semantics.specs.Terms.{Term}
use Rattle.oz_semantics.specs.Configurations.{is_of, layer_at, layer_of, thread_at, frames_in, stack_of, view, in_layer, with_frames, without_terminated, telling, giving_out, ending, failed, raised_by}
use Rattle.oz_semantics.specs.Answers.{Edit, Creates, Commits, Copies, Injects, TakesIn, Answer, Acts, Edits, RaisesKind, RaisesTerm, Operates, Widens, Rests}
use Rattle.oz_semantics.specs.Changes.{Change, changed, changed_all}
use Rattle.oz_semantics.specs.Effects.{Effect, Makes, Tells, ShowsText, act_effect}
use Rattle.oz_semantics.specs.Exceptions.{is_failure, new_term_tells, raise_term, with_term, unwound}
use Rattle.oz_semantics.specs.Texts.{Printed, term_text}
use Rattle.oz_semantics.specs.Triggers.{triggered}
use Rattle.oz_semantics.specs.Settling.{Turned, may_fail, settled, failing, top_is_inconsistent, top_failed, requeued, term_variable, with_raised, top_ended, without_inconsistent}
use Rattle.oz_semantics.specs.Steps.{went_on, ended_by, uncaught, raised_to, raised, raised_kind, told, after_effect, edit_tells, edited, after_edit, after_answer, without_top, stepped}
use Rattle.oz_semantics.specs.Propagation.{Run, Fails, Narrows, run_of, noted, noting, after_run}
use Rattle.oz_semantics.specs.Schedule.{run_failed, after_run_of, propagated, turn_of}
use Rattle.oz_semantics.specs.declared.value.Tell.{Tell}
use Rattle.oz_semantics.specs.declared.configuration.Frame.{Frame}
use Rattle.oz_semantics.specs.declared.configuration.Propagator.{Propagator}
use Rattle.oz_semantics.specs.declared.configuration.Layer.{Layer}
use Rattle.oz_semantics.specs.declared.configuration.Configuration.{Configuration}
use Rattle.oz_semantics.specs.declared.outcome.RaiseKind.{RaiseKind}
use Rattle.oz_semantics.specs.declared.outcome.RaiseKind.TheVariants.{FailureTell}
use Rattle.oz_semantics.specs.declared.outcome.Stepped.TheVariants.{Moved, TopEnded, Quiescent}
use Rattle.oz_laws.proofs.SameLaws.{and-left, and-right}
use Rattle.view_laws.specs.Sights.{is_led}
use Rattle.view_laws.specs.Trees.{is_ascending}
use Rattle.view_laws.proofs.NameLaws.{below_itself, names_equal}
use Rattle.view_laws.proofs.SightLaws.{tells_to, tells_all, of_space, later_silent, raise_unseen, creation_unseen, commitment_unseen}
use Rattle.view_laws.proofs.TreeLaws.{names_edited, ascending_leads}
use Rattle.view_laws.proofs.ChangeLaws.{edit_of, changed_by}
use Rattle.need_laws.specs.Needs.{Fires}
use Rattle.edit_laws.proofs.ViewLaws.{not_above, injection_unseen}
use Rattle.edit_laws.proofs.CopySights.{copy_unseen}
use Rattle.settle_laws.specs.Settles.{IsQuiet}
use Rattle.settle_laws.proofs.EditLaws.{edits_join, are_quiet, edit_quiet, quiet_view, term_settles}
use Rattle.settle_laws.proofs.FitLaws.{FitsIn, AnswerFits, answer_fits, fits_kept}
use Rattle.inside_laws.specs.Settled.{IsSettled}
use Rattle.inside_laws.specs.Contents.{Contents, contents_of, contents_at, answer_of, is_taking, is_merge, OnlyMergeAdds, RunAddsItsOwn}
use Rattle.inside_laws.proofs.OwnLaws.{Keeps, own_at, own_layer, own_change, own_end}
use Rattle.inside_laws.proofs.EditedLaws.{child_inner, next_inner, own_edited, edited_status, edited_keeps}
use Rattle.inside_laws.proofs.LeftLaws.{was_left}
use Rattle.inside_laws.proofs.RestLaws.{fate, fated, IsResting, parts_keep}
use Rattle.inside_laws.proofs.StepLaws.{head_in, head_rests, turn_steps, due_head, due_rests}

-- What a space is told it sees behind all else, where no later layer is above an earlier one

module _ (t : List ℕ) (ts : List Tell) where
  told_here : (l : Layer) (ls : List Layer) → l.space ≡ t → list_all (λ (m : Layer). not (is_below m.space l.space)) ls ≡ true → view (telling ts l ∷ ls) t ≡ view (l ∷ ls) t ++ ts
  told_here l ls e led =
      let inside : is_below l.space t ≡ true = subst (λ s. is_below l.space s ≡ true) e (below_itself l.space) in
      let rest : view ls t ≡ [] = later_silent t t ls (λ s k. k) (subst (λ s. list_all (λ (m : Layer). not (is_below m.space s)) ls ≡ true) e led) in
      ap₂ (λ (us vs : List Tell). us ++ vs) (tells_all t (telling ts l) inside) rest
      ∙ append-nil (l.tells ++ ts)
      ∙ sym (ap (λ (us : List Tell). us ++ ts) (ap₂ (λ (us vs : List Tell). us ++ vs) (tells_all t l inside) rest ∙ append-nil l.tells))

  told_last : (layers : List Layer) → is_led layers ≡ true → is_some (layer_at layers t) ≡ true → view (in_layer t (telling ts) layers) t ≡ view layers t ++ ts
  told_last [] led e = absurd (false≢true e)
  told_last (l ∷ ls) led e = by (is_of t l) refl e (told_last ls (and-right _ _ led))
    where
      by : (b : Bool) → is_of t l ≡ b → is_some (cond b (Some l) (find (is_of t) ls)) ≡ true
          → (is_some (find (is_of t) ls) ≡ true → view (edit_first (is_of t) (telling ts) ls) t ≡ view ls t ++ ts)
          → view (cond b (telling ts l ∷ ls) (l ∷ edit_first (is_of t) (telling ts) ls)) t ≡ view (l ∷ ls) t ++ ts
      by true k f rest = told_here l ls (of_space t l k) (and-left _ _ led)
      by false k f rest = ap (λ (us : List Tell). tells_to t l ++ us) (rest f) ∙ sym (append_assoc (tells_to t l) (view ls t) ts)

-- Edits that are no merge

none_edited : (t : List ℕ) (a b : List Layer) (edit : Edit) (l : Layer) → is_taking edit ≡ false → own_edited t a edit l ≡ own_edited t b edit l
none_edited t a b (Creates procedure x) l e = refl
none_edited t a b (Commits child i) l e = refl
none_edited t a b (Copies child x) l e = refl
none_edited t a b (Injects child procedure) l e = refl
none_edited t a b (TakesIn child x) l e = absurd (false≢true (sym e))

none_told : (a b : List Layer) (edit : Edit) (l : Layer) → is_taking edit ≡ false → edit_tells a l edit ≡ edit_tells b l edit
none_told a b (Creates procedure x) l e = refl
none_told a b (Commits child i) l e = refl
none_told a b (Copies child x) l e = refl
none_told a b (Injects child procedure) l e = refl
none_told a b (TakesIn child x) l e = absurd (false≢true (sym e))

edit_unseen : (k : Kernel) (t : List ℕ) (before layers : List Layer) (l : Layer) → Keeps t before layers l → (edit : Edit) → FitsIn layers t edit → is_taking edit ≡ false
    → view (edited k.statements t edit layers) t ≡ view layers t
edit_unseen k t before layers l keeps (Creates procedure x) fits e = creation_unseen layers t t procedure
edit_unseen k t before layers l keeps (Commits child i) fits e = commitment_unseen k.statements layers child t i (inl (not_above t child (child_inner t child fits.below)))
edit_unseen k t before layers l keeps (Copies child x) fits e = copy_unseen t child t layers (not_above t _ (next_inner t before layers l keeps))
edit_unseen k t before layers l keeps (Injects child procedure) fits e = injection_unseen child t procedure layers
edit_unseen k t before layers l keeps (TakesIn child x) fits e = absurd (false≢true (sym e))

-- Triggers leave the contents

fires_contents : (l m : Layer) → Fires l m → contents_of m ≡ contents_of l
fires_contents l m f = λ i. record { tells = f.tells i; propagators = f.propagators i; cells = f.cells i; ports = f.ports i }

not_properly_itself : (t : List ℕ) → is_properly_below t t ≡ false
not_properly_itself t = ap (λ (b : Bool). is_below t t && not b) (names_equal t) ∙ none (is_below t t)
  where
    none : (b : Bool) → (b && false) ≡ false
    none true = refl
    none false = refl

-- Two steps of one thread, from layers that may differ in all that is below its space

-- where both turns moved, they left the same contents
abbrev Alike : List ℕ → Turned → Turned → Type 0
Alike t (Moved m, e) (Moved n, f) = contents_at e.layers t ≡ contents_at f.layers t
Alike t (Moved m, e) (TopEnded x n, f) = Unit {0}
Alike t (Moved m, e) (Quiescent, f) = Unit {0}
Alike t (TopEnded x m, e) other = Unit {0}
Alike t (Quiescent, e) other = Unit {0}

module _ (k : Kernel) (id : Ident) (one other : List Layer) (first_rests : IsResting k.statements id.space one) (second_rests : IsResting k.statements id.space other) where
  abbrev t : List ℕ
  t = id.space

  -- the space's layer is the same in both, and what it sees
  record Both (a b : List Layer) : Type 0 where
    layer : Layer
    first : Keeps t one a layer
    second : Keeps t other b layer
    left : was_left layer.status ≡ true
    seen : view a t ≡ view b t

  -- or whether it fails
  record BothFated (a b : List Layer) : Type 0 where
    layer : Layer
    first : Keeps t one a layer
    second : Keeps t other b layer
    left : was_left layer.status ≡ true
    alike : fate a t layer ≡ fate b t layer

  both_fated : (a b : List Layer) → Both a b → BothFated a b
  both_fated a b both = record {
    layer = both.layer;
    first = both.first;
    second = both.second;
    left = both.left;
    alike = ap (λ (v : View). may_fail both.layer.status && not (is_consistent v)) both.seen;
  }

  -- What follows a step

  followed_contents : (before layers : List Layer) (l : Layer) → IsResting k.statements t before → Keeps t before layers l → was_left l.status ≡ true
      → contents_at (triggered k.statements (without_inconsistent layers)) t ≡ Some (contents_of (fated (fate layers t l) l))
  followed_contents before layers l rests keeps left =
      let m = parts_keep k.statements t before rests layers l keeps left in
      ap (option_map contents_of) (own_at t before (triggered k.statements (without_inconsistent layers)) m.0 m.1) ∙ ap (λ (x : Contents). Some x) (fires_contents (fated (fate layers t l) l) m.0 m.2)

  settled_alike : (mover : Option Ident) (cost price : ℕ) (c d : Configuration) → BothFated c.layers d.layers → Alike t (settled k.statements mover cost c) (settled k.statements mover price d)
  settled_alike mover cost price c d both = by (top_is_inconsistent c.layers) (top_is_inconsistent d.layers)
    where
      by : (p q : Bool)
          → Alike t (if p then top_failed cost c else (Moved cost, requeued k.statements mover c (triggered k.statements (without_inconsistent c.layers))))
          (if q then top_failed price d else (Moved price, requeued k.statements mover d (triggered k.statements (without_inconsistent d.layers))))
      by true q = tt
      by false true = tt
      by false false =
          followed_contents one c.layers both.layer first_rests both.first both.left
          ∙ ap (λ (b : Bool). Some (contents_of (fated b both.layer))) both.alike
          ∙ sym (followed_contents other d.layers both.layer second_rests both.second both.left)

  -- Edits of the space's layer

  quiet_both : (f : Layer → Layer) → IsQuiet f → (a b : List Layer) → Both a b → Both (in_layer t f a) (in_layer t f b)
  quiet_both f quiet a b both = record {
    layer = f both.layer;
    first = own_change t one a both.layer both.first f quiet.space;
    second = own_change t other b both.layer both.second f quiet.space;
    left = ap was_left (quiet.status both.layer) ∙ both.left;
    seen = quiet_view f a t t quiet ∙ both.seen ∙ sym (quiet_view f b t t quiet);
  }

  -- layers in which no later one is above an earlier one
  record Lead (a b : List Layer) : Type 0 where
    first : is_led a ≡ true
    second : is_led b ≡ true

  there : (before layers : List Layer) (l : Layer) → Keeps t before layers l → is_some (layer_at layers t) ≡ true
  there before layers l keeps = ap (λ (o : Option Layer). is_some o) (own_at t before layers l keeps)

  tells_both : (ts : List Tell) (a b : List Layer) → Lead a b → Both a b → Both (in_layer t (telling ts) a) (in_layer t (telling ts) b)
  tells_both ts a b lead both = record {
    layer = telling ts both.layer;
    first = own_change t one a both.layer both.first (telling ts) (λ m. refl);
    second = own_change t other b both.layer both.second (telling ts) (λ m. refl);
    left = both.left;
    seen =
        told_last t ts a lead.first (there one a both.layer both.first) ∙ ap (λ (v : View). v ++ ts) both.seen ∙ sym (told_last t ts b lead.second (there other b both.layer both.second));
  }

  term_seen : (term : Term) (before layers : List Layer) (l : Layer) → is_led layers ≡ true → Keeps t before layers l → view (in_layer t (with_term term) layers) t ≡ view layers t ++ new_term_tells l term
  term_seen term before layers l led keeps =
      let ts : List Tell = new_term_tells (layer_of layers t) term in
      sym (ap (λ ls. view ls t) (term_settles t term layers l (own_at t before layers l keeps)))
      ∙ quiet_view (giving_out (length term)) (in_layer t (telling ts) layers) t t (are_quiet.variables (length term))
      ∙ told_last t ts layers led (there before layers l keeps)
      ∙ ap (λ (m : Layer). view layers t ++ new_term_tells m term) (own_layer t before layers l keeps)

  term_both : (term : Term) (a b : List Layer) → Lead a b → Both a b → Both (in_layer t (with_term term) a) (in_layer t (with_term term) b)
  term_both term a b lead both = record {
    layer = with_term term both.layer;
    first = own_change t one a both.layer both.first (with_term term) (λ m. refl);
    second = own_change t other b both.layer both.second (with_term term) (λ m. refl);
    left = both.left;
    seen =
        term_seen term one a both.layer lead.first both.first
        ∙ ap (λ (v : View). v ++ new_term_tells both.layer term) both.seen
        ∙ sym (term_seen term other b both.layer lead.second both.second);
  }

  -- The space ends

  end_both : (x : Ident) (p : Bool) (a b : List Layer) → Both a b → BothFated (ending t (λ l. if p then failed l else raised_by x l) a) (ending t (λ l. if p then failed l else raised_by x l) b)
  end_both x true a b both = record {
    layer = failed both.layer;
    first = own_end t (λ l. if true then failed l else raised_by x l) one a both.layer (λ m. refl) both.first;
    second = own_end t (λ l. if true then failed l else raised_by x l) other b both.layer (λ m. refl) both.second;
    left = refl;
    alike = refl;
  }
  end_both x false a b both = record {
    layer = raised_by x both.layer;
    first = own_end t (λ l. if false then failed l else raised_by x l) one a both.layer (λ m. refl) both.first;
    second = own_end t (λ l. if false then failed l else raised_by x l) other b both.layer (λ m. refl) both.second;
    left = refl;
    alike =
        ap (λ (v : View). not (is_consistent v))
        (raise_unseen a t t x (not_properly_itself t) ∙ both.seen ∙ sym (raise_unseen b t t x (not_properly_itself t)));
  }

  -- Exceptions

  went_alike : (cost price : ℕ) (a b : List Layer) (c d : Configuration) → Both a b → Alike t (went_on k.statements id cost a c) (went_on k.statements id price b d)
  went_alike cost price a b c d both =
      let more = quiet_both without_terminated are_quiet.terminated a b both in
      settled_alike (Some id) cost price (record c { layers = in_layer t without_terminated a }) (record d { layers = in_layer t without_terminated b })
      (both_fated (in_layer t without_terminated a) (in_layer t without_terminated b) more)

  abbrev cleared : List Layer → List Layer
  cleared layers = without_inconsistent (in_layer t (λ l. without_terminated (with_frames id.number (λ frames. []) l)) layers)

  uncaught_alike : (x : Ident) (a b : List Layer) (c d : Configuration) → Both a b → Alike t (uncaught k.statements id x a c) (uncaught k.statements id x b d)
  uncaught_alike x a b c d both = by (is_top t)
    where
      ended : BothFated (ending t (ended_by (view a t) x) a) (ending t (ended_by (view b t) x) b)
      ended = subst (λ (v : View). BothFated (ending t (ended_by (view a t) x) a) (ending t (ended_by v x) b)) both.seen (end_both x (is_failure (view a t) x) a b both)

      by : (p : Bool)
          → Alike t (if p then top_ended 1 x (cleared a) c else settled k.statements (Some id) 1 (record c { layers = ending t (ended_by (view a t) x) a }))
          (if p then top_ended 1 x (cleared b) d else settled k.statements (Some id) 1 (record d { layers = ending t (ended_by (view b t) x) b }))
      by true = tt
      by false = settled_alike (Some id) 1 1 (record c { layers = ending t (ended_by (view a t) x) a }) (record d { layers = ending t (ended_by (view b t) x) b }) ended

  raised_to_alike : (x : Ident) (frames : Option (List Frame)) (a b : List Layer) (c d : Configuration) → Both a b → Alike t (raised_to k.statements id x frames a c) (raised_to k.statements id x frames b d)
  raised_to_alike x None a b c d both = uncaught_alike x a b c d both
  raised_to_alike x (Some frames) a b c d both =
      went_alike 1 1 (in_layer t (with_frames id.number (λ rest. frames)) a) (in_layer t (with_frames id.number (λ rest. frames)) b) c d
      (quiet_both (with_frames id.number (λ rest. frames)) (are_quiet.frames id.number (λ rest. frames)) a b both)

  own_same : (a b : List Layer) → Both a b → layer_of a t ≡ layer_of b t
  own_same a b both = own_layer t one a both.layer both.first ∙ sym (own_layer t other b both.layer both.second)

  raised_alike : (x : Ident) (a b : List Layer) (c d : Configuration) → Both a b → Alike t (raised k.statements id x a c) (raised k.statements id x b d)
  raised_alike x a b c d both =
      subst (λ (l : Layer). Alike t (raised k.statements id x a c) (raised_to k.statements id x (unwound x (frames_in (thread_at l.threads id.number))) b d)) (own_same a b both)
      (raised_to_alike x (unwound x (stack_of a id)) a b c d both)

  kind_alike : (kind : RaiseKind) (a b : List Layer) (c d : Configuration) → Lead a b → Both a b → Alike t (raised_kind k.statements id kind a c) (raised_kind k.statements id kind b d)
  kind_alike kind a b c d lead both =
      subst (λ (x : Ident). Alike t (raised_kind k.statements id kind a c) (raised k.statements id x (with_raised kind t b) d)) (ap (λ (l : Layer). record { space = t; number = l.next.variable }) (own_same a b both))
      (raised_alike (term_variable a t) (with_raised kind t a) (with_raised kind t b) c d (term_both (raise_term kind) a b lead both))

  -- What is told

  told_alike : (ts : List Tell) (f g : List Layer → List Layer) (a b : List Layer) (c d : Configuration) → Lead a b → Both a b
      → (Both (in_layer t (telling ts) a) (in_layer t (telling ts) b) → Both (f (in_layer t (telling ts) a)) (g (in_layer t (telling ts) b)))
      → Alike t (told k.statements id ts f a c) (told k.statements id ts g b d)
  told_alike ts f g a b c d lead both leaves =
      subst (λ (v : View). Alike t (told k.statements id ts f a c) (if is_consistent (v ++ ts) then went_on k.statements id 1 (g (in_layer t (telling ts) b)) d else raised_kind k.statements id FailureTell b d)) both.seen
      (by (is_consistent (view a t ++ ts)))
    where
      by : (p : Bool)
          → Alike t (if p then went_on k.statements id 1 (f (in_layer t (telling ts) a)) c else raised_kind k.statements id FailureTell a c)
          (if p then went_on k.statements id 1 (g (in_layer t (telling ts) b)) d else raised_kind k.statements id FailureTell b d)
      by true = went_alike 1 1 (f (in_layer t (telling ts) a)) (g (in_layer t (telling ts) b)) c d (leaves (tells_both ts a b lead both))
      by false = kind_alike FailureTell a b c d lead both

  -- Effects

  changed_both : (changes : List Change) (a b : List Layer) → Both a b → Both (changed_all id changes a) (changed_all id changes b)
  changed_both [] a b both = both
  changed_both (change ∷ changes) a b both =
      changed_both changes (changed id a change) (changed id b change)
      (subst (λ (f : List Layer → List Layer). Both (f a) (f b)) (λ i layers. sym (changed_by id layers change) i) (quiet_both (edit_of id.number change) (edit_quiet id.number change) a b both))

  effect_alike : (effect : Effect) (a b : List Layer) (c d : Configuration) → Lead a b → Both a b → Alike t (after_effect k id a c effect) (after_effect k id b d effect)
  effect_alike (Makes changes) a b c d lead both = went_alike 1 1 (changed_all id changes a) (changed_all id changes b) c d (changed_both changes a b both)
  effect_alike (Tells ts changes) a b c d lead both =
      told_alike ts (changed_all id changes) (changed_all id changes) a b c d lead both (changed_both changes (in_layer t (telling ts) a) (in_layer t (telling ts) b))
  effect_alike (ShowsText x) a b c d lead both =
      let printed : Printed = term_text k.words (view a t) x in
      let copy : Printed = term_text k.words (view b t) x in
      went_alike (1 + printed.nodes) (1 + copy.nodes) a b (record c { shown = c.shown ++ printed.bytes ∷ [] }) (record d { shown = d.shown ++ copy.bytes ∷ [] }) both

  -- Edits of spaces in it

  edited_both : (edit : Edit) → is_taking edit ≡ false → (a b : List Layer) → FitsIn a t edit → FitsIn b t edit → Both a b → Both (edited k.statements t edit a) (edited k.statements t edit b)
  edited_both edit plain a b fits_one fits_other both = record {
    layer = own_edited t a edit both.layer;
    first = edited_keeps t one a both.layer both.first k.statements edit fits_one;
    second = subst (Keeps t other (edited k.statements t edit b)) (none_edited t b a edit both.layer plain) (edited_keeps t other b both.layer both.second k.statements edit fits_other);
    left = ap was_left (edited_status t a edit both.layer) ∙ both.left;
    seen = edit_unseen k t one a both.layer both.first edit fits_one plain ∙ both.seen ∙ sym (edit_unseen k t other b both.layer both.second edit fits_other plain);
  }

  edit_alike : (edit : Edit) → is_taking edit ≡ false → (a b : List Layer) (c d : Configuration) → FitsIn a t edit → FitsIn b t edit → Lead a b → Both a b
      → Alike t (after_edit k.statements id edit a c) (after_edit k.statements id edit b d)
  edit_alike edit plain a b c d fits_one fits_other lead both =
      subst (λ (ts : List Tell). Alike t (after_edit k.statements id edit a c) (told k.statements id ts (edited k.statements t edit) b d)) same
      (told_alike ts (edited k.statements t edit) (edited k.statements t edit) a b c d lead both
      (edited_both edit plain (in_layer t (telling ts) a) (in_layer t (telling ts) b) (fits_kept t (telling ts) a t edit (λ l. refl) fits_one) (fits_kept t (telling ts) b t edit (λ l. refl) fits_other)))
    where
      ts : List Tell
      ts = edit_tells a (layer_of a t) edit

      same : edit_tells a (layer_of a t) edit ≡ edit_tells b (layer_of b t) edit
      same = ap (λ (l : Layer). edit_tells a l edit) (own_same a b both) ∙ none_told a b edit (layer_of b t) plain

  -- A step

  abbrev pop : Layer → Layer
  pop = with_frames id.number (λ frames. drop 1 frames)

  answer_alike : (answer : Answer) → is_merge answer ≡ false → (c d : Configuration) → AnswerFits c.layers t answer → AnswerFits d.layers t answer
      → Lead c.layers d.layers → Lead (without_top id c.layers) (without_top id d.layers) → Both c.layers d.layers
      → Alike t (after_answer k id (without_top id c.layers) c answer) (after_answer k id (without_top id d.layers) d answer)
  answer_alike answer plain c d fits_one fits_other whole lead both = by answer plain fits_one fits_other
    where
      a : List Layer
      a = without_top id c.layers

      b : List Layer
      b = without_top id d.layers

      popped : Both a b
      popped = quiet_both pop (are_quiet.frames id.number (λ frames. drop 1 frames)) c.layers d.layers both

      by : (it : Answer) → is_merge it ≡ false → AnswerFits c.layers t it → AnswerFits d.layers t it → Alike t (after_answer k id a c it) (after_answer k id b d it)
      by (Acts act) p f g =
          subst (λ (l : Layer). Alike t (after_answer k id a c (Acts act)) (after_effect k id b d (act_effect l act))) (own_same a b popped)
          (effect_alike (act_effect (layer_of a t) act) a b c d lead popped)
      by (Edits edit) p f g =
          edit_alike edit p a b c d (fits_kept t pop c.layers t edit (λ l. refl) f) (fits_kept t pop d.layers t edit (λ l. refl) g) lead popped
      by (RaisesKind kind) p f g = kind_alike kind a b c d lead popped
      by (RaisesTerm x) p f g = raised_alike x a b c d popped
      by (Operates op space x) p f g = settled_alike (Some id) 1 1 c d (both_fated c.layers d.layers both)
      by (Widens ts) p f g = told_alike ts (λ ls. ls) (λ ls. ls) c.layers d.layers c d whole both (λ told. told)
      by (Rests ready) p f g = settled_alike (Some id) 1 1 c d (both_fated c.layers d.layers both)

  pub step_alike : (c d : Configuration) (l : Layer) → is_led c.layers ≡ true → is_led d.layers ≡ true → is_led (without_top id c.layers) ≡ true → is_led (without_top id d.layers) ≡ true
      → Keeps t one c.layers l → Keeps t other d.layers l → was_left l.status ≡ true → view c.layers t ≡ view d.layers t
      → answer_of k.statements c.layers id ≡ answer_of k.statements d.layers id → is_merge (answer_of k.statements c.layers id) ≡ false
      → Alike t (stepped k id c) (stepped k id d)
  step_alike c d l whole_one whole_other led_one led_other first second left seen same plain =
      subst (λ (answer : Answer). Alike t (stepped k id c) (after_answer k id (without_top id d.layers) d answer)) same
      (answer_alike (answer_of k.statements c.layers id) plain c d (answer_fits k.statements c.layers id) (subst (AnswerFits d.layers t) (sym same) (answer_fits k.statements d.layers id))
      (record { first = whole_one; second = whole_other }) (record { first = led_one; second = led_other }) (record { layer = l; first = first; second = second; left = left; seen = seen }))

  -- A run of a propagator

  abbrev note_in : Configuration → Propagator → Layer → Layer
  note_in c p = noting (view c.layers t) (noted (view c.layers t) p.variables)

  told_run : (c : Configuration) (p : Propagator) (ts : List Tell) (layers : List Layer) → in_layer t (telling ts) (in_layer t (note_in c p) layers) ≡ in_layer t (after_run (view c.layers t) p ts) layers
  told_run c p ts layers = edits_join t (telling ts) (note_in c p) layers (λ m. refl)

  narrows_alike : (p : Propagator) (ts : List Tell) (c d : Configuration) → Both c.layers d.layers → Lead (in_layer t (note_in c p) c.layers) (in_layer t (note_in c p) d.layers)
      → Alike t (settled k.statements None 1 (record c { layers = in_layer t (after_run (view c.layers t) p ts) c.layers }))
      (settled k.statements None 1 (record d { layers = in_layer t (after_run (view c.layers t) p ts) d.layers }))
  narrows_alike p ts c d both lead =
      let more = quiet_both (note_in c p) (are_quiet.noted (view c.layers t) (noted (view c.layers t) p.variables)) c.layers d.layers both in
      let run = tells_both ts (in_layer t (note_in c p) c.layers) (in_layer t (note_in c p) d.layers) lead more in
      settled_alike None 1 1 (record c { layers = in_layer t (after_run (view c.layers t) p ts) c.layers }) (record d { layers = in_layer t (after_run (view c.layers t) p ts) d.layers })
      (both_fated (in_layer t (after_run (view c.layers t) p ts) c.layers) (in_layer t (after_run (view c.layers t) p ts) d.layers)
      (subst (λ ls. Both ls (in_layer t (after_run (view c.layers t) p ts) d.layers)) (told_run c p ts c.layers)
      (subst (λ ls. Both (in_layer t (telling ts) (in_layer t (note_in c p) c.layers)) ls) (told_run c p ts d.layers) run)))

  fails_alike : (c d : Configuration) → Both c.layers d.layers → Alike t (run_failed k.statements t c) (run_failed k.statements t d)
  fails_alike c d both = by (is_top t)
    where
      by : (b : Bool)
          → Alike t (if b then top_failed 1 c else settled k.statements None 1 (record c { layers = failing c.layers t })) (if b then top_failed 1 d else settled k.statements None 1 (record d { layers = failing d.layers t }))
      by true = tt
      by false = settled_alike None 1 1 (record c { layers = failing c.layers t }) (record d { layers = failing d.layers t }) (end_both id true c.layers d.layers both)

  -- a run in a space, by what it sees
  abbrev by_run : Propagator → List ℕ → Configuration → View → Run → Turned
  by_run p s g v Fails = run_failed k.statements s g
  by_run p s g v (Narrows ts) = settled k.statements None 1 (record g { layers = in_layer s (after_run v p ts) g.layers })

  same_run : (l : Layer) (p : Propagator) (g : Configuration) (run : Run) → after_run_of k.statements l p g run ≡ by_run p l.space g (view g.layers l.space) run
  same_run l p g Fails = refl
  same_run l p g (Narrows ts) = refl

  run_alike : (due : Layer × Propagator) (c d : Configuration) → Both c.layers d.layers → Lead (in_layer t (note_in c due.1) c.layers) (in_layer t (note_in c due.1) d.layers) → due.0.space ≡ t
      → Alike t (propagated k.statements due c) (propagated k.statements due d)
  run_alike due c d both lead name =
      subst (λ x. Alike t x (propagated k.statements due d)) (sym (same_run due.0 due.1 c (run_of (view c.layers due.0.space) due.1)))
      (subst (λ x. Alike t (by_run due.1 due.0.space c (view c.layers due.0.space) (run_of (view c.layers due.0.space) due.1)) x) (sym (same_run due.0 due.1 d (run_of (view d.layers due.0.space) due.1)))
      (subst (λ s. Alike t (by_run due.1 s c (view c.layers s) (run_of (view c.layers s) due.1)) (by_run due.1 s d (view d.layers s) (run_of (view d.layers s) due.1))) (sym name)
      (subst (λ (v : View). Alike t (by_run due.1 t c (view c.layers t) (run_of (view c.layers t) due.1)) (by_run due.1 t d v (run_of v due.1))) both.seen (by (run_of (view c.layers t) due.1)))))
    where
      by : (run : Run) → Alike t (by_run due.1 t c (view c.layers t) run) (by_run due.1 t d (view c.layers t) run)
      by Fails = fails_alike c d both
      by (Narrows ts) = narrows_alike due.1 ts c d both lead

-- A turn

popped_leads : (statements : List Statement) (c : Configuration) (id : Ident) → IsSettled statements c → is_led (without_top id c.layers) ≡ true
popped_leads statements c id h =
    ascending_leads (without_top id c.layers) (ap is_ascending (names_edited (is_of id.space) (with_frames id.number (λ frames. drop 1 frames)) c.layers (λ l e. refl)) ∙ h.ordered)

same_layer : (l m : Layer) → ◌≡◌ {A = Option Layer} (Some l) (Some m) → l ≡ m
same_layer l m e = cc

pub only_merge_adds : OnlyMergeAdds
only_merge_adds k c d e f id rest others m n hc hd none_one none_other qc qd own seen same plain one other =
    let first = head_in k.statements c id rest hc qc in
    let second = head_in k.statements d id others hd qd in
    let layer : second.layer ≡ first.layer =
    same_layer second.layer first.layer (sym (own_at id.space d.layers d.layers second.layer second.keeps) ∙ sym own ∙ own_at id.space c.layers c.layers first.layer first.keeps) in
    let whole : Alike id.space (stepped k id (record c { queue = rest })) (stepped k id (record d { queue = others })) =
    step_alike k id c.layers d.layers (head_rests k.statements c id rest hc qc) (head_rests k.statements d id others hd qd) (record c { queue = rest }) (record d { queue = others }) first.layer
    (ascending_leads c.layers hc.ordered) (ascending_leads d.layers hd.ordered) (popped_leads k.statements c id hc) (popped_leads k.statements d id hd) first.keeps (subst (Keeps id.space d.layers d.layers) layer second.keeps) first.left seen same plain in
    let first_turn : stepped k id (record c { queue = rest }) ≡ (Moved m, e) = sym (turn_steps k c id rest none_one qc) ∙ one in
    let second_turn : stepped k id (record d { queue = others }) ≡ (Moved n, f) = sym (turn_steps k d id others none_other qd) ∙ other in
    subst (λ (x : Turned). Alike id.space (Moved m, e) x) second_turn (subst (λ (x : Turned). Alike id.space x (stepped k id (record d { queue = others }))) first_turn whole)

-- A run

noted_leads : (statements : List Statement) (c : Configuration) (space : List ℕ) (v : View) (ds : List (List Interval)) → IsSettled statements c → is_led (in_layer space (noting v ds) c.layers) ≡ true
noted_leads statements c space v ds h =
    ascending_leads (in_layer space (noting v ds) c.layers) (ap is_ascending (names_edited (is_of space) (noting v ds) c.layers (λ l e. refl)) ∙ h.ordered)

pub run_adds_its_own : RunAddsItsOwn
run_adds_its_own k c d e f due m n hc hd first second seen one other =
    let id : Ident = record { space = due.0.space; number = 0 } in
    let head = due_head k.statements c due hc first in
    let late = due_head k.statements d due hd second in
    let v : View = view c.layers due.0.space in
    let ds : List (List Interval) = noted v due.1.variables in
    let whole : Alike due.0.space (propagated k.statements due c) (propagated k.statements due d) =
    run_alike k id c.layers d.layers (due_rests k.statements c due hc first) (due_rests k.statements d due hd second) due c d
    (record { layer = due.0; first = head.keeps; second = late.keeps; left = head.left; seen = seen })
    (record { first = noted_leads k.statements c due.0.space v ds hc; second = noted_leads k.statements d due.0.space v ds hd }) refl in
    let first_turn : propagated k.statements due c ≡ (Moved m, e) = sym (ap (turn_of k c) first) ∙ one in
    let second_turn : propagated k.statements due d ≡ (Moved n, f) = sym (ap (turn_of k d) second) ∙ other in
    subst (λ (x : Turned). Alike due.0.space (Moved m, e) x) second_turn (subst (λ (x : Turned). Alike due.0.space x (propagated k.statements due d)) first_turn whole)
