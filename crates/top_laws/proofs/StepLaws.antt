-- A step of a thread that is none of the top's leaves the top as it was.
use Rattle.std.proofs.Common.{◌≡◌, ℕ, ◌+◌, Bool, true, false, if◌then◌else◌, List, [], ◌∷◌, ◌++◌, refl, sym, subst, arith, Option, Some, None, drop}
use Rattle.oz_base.specs.declared.names.Ident.{Ident}
use Rattle.oz_language.specs.declared.kernel.Kernel.{Kernel}
use Rattle.oz_semantics.specs.Names.{is_top}
use Rattle.oz_semantics.specs.Store.{View, is_consistent}
use Rattle.oz_semantics.specs.Configurations.{layer_of, stack_of, view, in_layer, with_frames, without_terminated, telling, failed, raised_by, ending}
use Rattle.oz_semantics.specs.Answers.{Edit, Answer, Acts, Edits, RaisesKind, RaisesTerm, Operates, Widens, Rests}
use Rattle.oz_semantics.specs.Spaces.{states_of, answer_in}
use Rattle.oz_semantics.specs.Changes.{Change, changed, changed_all}
use Rattle.oz_semantics.specs.Effects.{Effect, Makes, Tells, ShowsText, act_effect}
use Rattle.oz_semantics.specs.Exceptions.{is_failure, raise_term, with_term, unwound}
use Rattle.oz_semantics.specs.Texts.{Printed, term_text}
use Rattle.oz_semantics.specs.Triggers.{triggered}
use Rattle.oz_semantics.specs.Settling.{Turned, settled, failing, top_failed, requeued, term_variable, with_raised, top_ended, without_inconsistent}
use Rattle.oz_semantics.specs.Steps.{went_on, ended_by, uncaught, raised_to, raised, raised_kind, told, after_effect, edit_tells, edited, after_edit, after_answer, without_top, stepped}
use Rattle.oz_semantics.specs.declared.value.Tell.{Tell}
use Rattle.oz_semantics.specs.declared.configuration.Frame.{Frame}
use Rattle.oz_semantics.specs.declared.configuration.Propagator.{Propagator}
use Rattle.oz_semantics.specs.declared.configuration.Layer.{Layer}
use Rattle.oz_semantics.specs.Propagation.{Run, Fails, Narrows, after_run}
use Rattle.oz_semantics.specs.Schedule.{after_run_of}
use Rattle.oz_semantics.specs.declared.configuration.Configuration.{Configuration}
use Rattle.oz_semantics.specs.declared.outcome.RaiseKind.{RaiseKind}
use Rattle.oz_semantics.specs.declared.outcome.RaiseKind.TheVariants.{FailureTell}
use Rattle.oz_semantics.specs.declared.outcome.Stepped.TheVariants.{Moved, TopEnded, Quiescent}
use Rattle.view_laws.specs.Steps.{IsSound, IsNumbered}
use Rattle.view_laws.proofs.ChangeLaws.{edit_of, changed_by}
use Rattle.settle_laws.proofs.FitLaws.{FitsIn, AnswerFits, answer_fits, fits_kept}
use Rattle.turn_laws.proofs.NumberedLaws.{none_numbered, edits_numbered}
use Rattle.turn_laws.proofs.OrderlyLaws.{IsEdit, frames_edit, terminated_edit, tells_edit, change_edit, term_edit}
use Rattle.top_laws.proofs.EditedLaws.{edited_leaves}
use Rattle.top_laws.proofs.OutsideLaws.{LeavesTop, edit_leaves, end_leaves, left_leaves, TopUnneeded, begun_leaves, top_fits}

-- the machine moved and left the top as it was, or nothing could step
abbrev pub MovedBelow : List Layer → Turned → Type 0
MovedBelow before (Moved cost, d) = LeavesTop before d.layers
MovedBelow before (TopEnded x cost, d) = ⊥
MovedBelow before (Quiescent, d) = Unit {0}

module _ (k : Kernel) (before : List Layer) (sound : IsSound before) (unneeded : TopUnneeded k.statements before) (id : Ident) (inner : is_top id.space ≡ false) where
  follows : (cost : ℕ) (c : Configuration) → LeavesTop before c.layers → MovedBelow before (settled k.statements (Some id) cost c)
  follows cost c leaves =
      let fits = top_fits before c.layers sound leaves in
      subst (λ (b : Bool). MovedBelow before (if b then top_failed cost c else (Moved cost, requeued k.statements (Some id) c (triggered k.statements (without_inconsistent c.layers))))) (sym fits)
      (begun_leaves k.statements before (without_inconsistent c.layers) unneeded (left_leaves before c.layers fits leaves))

  went_leaves : (cost : ℕ) (layers : List Layer) (c : Configuration) → LeavesTop before layers → MovedBelow before (went_on k.statements id cost layers c)
  went_leaves cost layers c leaves = follows cost (record c { layers = in_layer id.space without_terminated layers }) (edit_leaves id.space inner without_terminated before layers terminated_edit leaves)

  -- Exceptions

  end_is : (x : Ident) (b : Bool) (l : Layer) → ((if b then failed l else raised_by x l).space ≡ l.space) × ((if b then failed l else raised_by x l).next ≡ l.next)
  end_is x true l = (refl, refl)
  end_is x false l = (refl, refl)

  end_numbered : (x : Ident) (b : Bool) (l : Layer) → IsNumbered l → IsNumbered (if b then failed l else raised_by x l)
  end_numbered x true l h = none_numbered (failed l) refl h.begins
  end_numbered x false l h = none_numbered (raised_by x l) refl h.begins

  uncaught_leaves : (x : Ident) (layers : List Layer) (c : Configuration) → LeavesTop before layers → MovedBelow before (uncaught k.statements id x layers c)
  uncaught_leaves x layers c leaves =
      let how : Layer → Layer = ended_by (view layers id.space) x in
      subst
      (λ (b : Bool).
      MovedBelow before (if b
      then top_ended 1 x (without_inconsistent (in_layer id.space (λ l. without_terminated (with_frames id.number (λ frames. []) l)) layers)) c
      else settled k.statements (Some id) 1 (record c { layers = ending id.space how layers })))
      (sym inner)
      (follows 1 (record c { layers = ending id.space how layers })
      (end_leaves id.space inner how before layers (λ l. end_is x (is_failure (view layers id.space) x) l) (λ l h. end_numbered x (is_failure (view layers id.space) x) l h) leaves))

  raised_to_leaves : (x : Ident) (frames : Option (List Frame)) (layers : List Layer) (c : Configuration) → LeavesTop before layers → MovedBelow before (raised_to k.statements id x frames layers c)
  raised_to_leaves x None layers c leaves = uncaught_leaves x layers c leaves
  raised_to_leaves x (Some frames) layers c leaves =
      went_leaves 1 (in_layer id.space (with_frames id.number (λ rest. frames)) layers) c
      (edit_leaves id.space inner (with_frames id.number (λ rest. frames)) before layers (frames_edit id.number (λ rest. frames)) leaves)

  raised_leaves : (x : Ident) (layers : List Layer) (c : Configuration) → LeavesTop before layers → MovedBelow before (raised k.statements id x layers c)
  raised_leaves x layers c leaves = raised_to_leaves x (unwound x (stack_of layers id)) layers c leaves

  kind_leaves : (kind : RaiseKind) (layers : List Layer) (c : Configuration) → LeavesTop before layers → MovedBelow before (raised_kind k.statements id kind layers c)
  kind_leaves kind layers c leaves =
      raised_leaves (term_variable layers id.space) (with_raised kind id.space layers) c
      (edit_leaves id.space inner (with_term (raise_term kind)) before layers (term_edit (raise_term kind)) leaves)

  -- Effects

  changes_leave : (changes : List Change) (layers : List Layer) → LeavesTop before layers → LeavesTop before (changed_all id changes layers)
  changes_leave [] layers leaves = leaves
  changes_leave (change ∷ changes) layers leaves =
      changes_leave changes (changed id layers change)
      (subst (LeavesTop before) (sym (changed_by id layers change)) (edit_leaves id.space inner (edit_of id.number change) before layers (change_edit id.number change) leaves))

  -- where the change leaves the top, once the space was told
  told_leaves : (ts : List Tell) (change : List Layer → List Layer) (layers : List Layer) (c : Configuration) → LeavesTop before layers
      → (LeavesTop before (in_layer id.space (telling ts) layers) → LeavesTop before (change (in_layer id.space (telling ts) layers)))
      → MovedBelow before (told k.statements id ts change layers c)
  told_leaves ts change layers c leaves stays = by (is_consistent (view layers id.space ++ ts))
    where
      by : (b : Bool) → MovedBelow before (if b then went_on k.statements id 1 (change (in_layer id.space (telling ts) layers)) c else raised_kind k.statements id FailureTell layers c)
      by true = went_leaves 1 (change (in_layer id.space (telling ts) layers)) c (stays (edit_leaves id.space inner (telling ts) before layers (tells_edit ts) leaves))
      by false = kind_leaves FailureTell layers c leaves

  effect_leaves : (layers : List Layer) (c : Configuration) (effect : Effect) → LeavesTop before layers → MovedBelow before (after_effect k id layers c effect)
  effect_leaves layers c (Makes changes) leaves = went_leaves 1 (changed_all id changes layers) c (changes_leave changes layers leaves)
  effect_leaves layers c (Tells ts changes) leaves = told_leaves ts (changed_all id changes) layers c leaves (changes_leave changes (in_layer id.space (telling ts) layers))
  effect_leaves layers c (ShowsText x) leaves =
      let printed : Printed = term_text k.words (view layers id.space) x in
      went_leaves (1 + printed.nodes) layers (record c { shown = c.shown ++ printed.bytes ∷ [] }) leaves

  edit_moves : (edit : Edit) (layers : List Layer) (c : Configuration) → FitsIn layers id.space edit → LeavesTop before layers → MovedBelow before (after_edit k.statements id edit layers c)
  edit_moves edit layers c fits leaves =
      let ts : List Tell = edit_tells layers (layer_of layers id.space) edit in
      told_leaves ts (edited k.statements id.space edit) layers c leaves
      (edited_leaves k.statements id.space edit before (in_layer id.space (telling ts) layers) inner (fits_kept id.space (telling ts) layers id.space edit (λ l. refl) fits))

  -- of a thread that takes its statement off its stack
  answer_leaves : (c : Configuration) (answer : Answer) → AnswerFits c.layers id.space answer → LeavesTop before (without_top id c.layers) → LeavesTop before c.layers
      → MovedBelow before (after_answer k id (without_top id c.layers) c answer)
  answer_leaves c (Acts act) fits leaves first = effect_leaves (without_top id c.layers) c (act_effect (layer_of (without_top id c.layers) id.space) act) leaves
  answer_leaves c (Edits edit) fits leaves first =
      edit_moves edit (without_top id c.layers) c (fits_kept id.space (with_frames id.number (λ frames. drop 1 frames)) c.layers id.space edit (λ l. refl) fits) leaves
  answer_leaves c (RaisesKind kind) fits leaves first = kind_leaves kind (without_top id c.layers) c leaves
  answer_leaves c (RaisesTerm x) fits leaves first = raised_leaves x (without_top id c.layers) c leaves
  answer_leaves c (Operates op space x) fits leaves first = follows 1 c first
  answer_leaves c (Widens ts) fits leaves first = told_leaves ts (λ ls. ls) c.layers c first (λ told. told)
  answer_leaves c (Rests ready) fits leaves first = follows 1 c first

  pub step_below : (c : Configuration) → LeavesTop before c.layers → MovedBelow before (stepped k id c)
  step_below c leaves =
      answer_leaves c (answer_in k.statements c.layers (states_of k.statements c.layers) id.space (stack_of c.layers id)) (answer_fits k.statements c.layers id)
      (edit_leaves id.space inner (with_frames id.number (λ frames. drop 1 frames)) before c.layers (frames_edit id.number (λ frames. drop 1 frames)) leaves) leaves

-- nor does a run of a propagator that is none of the top's

run_edit : (v : View) (p : Propagator) (ts : List Tell) → IsEdit (after_run v p ts)
run_edit v p ts = record { space = λ l. refl; children = λ l. omega arith; numbered = edits_numbered.run v p ts }

module _ (k : Kernel) (before : List Layer) (sound : IsSound before) (unneeded : TopUnneeded k.statements before) (l : Layer) (p : Propagator) (inner : is_top l.space ≡ false) where
  run_follows : (c : Configuration) → LeavesTop before c.layers → MovedBelow before (settled k.statements None 1 c)
  run_follows c leaves =
      let fits = top_fits before c.layers sound leaves in
      subst (λ (b : Bool). MovedBelow before (if b then top_failed 1 c else (Moved 1, requeued k.statements None c (triggered k.statements (without_inconsistent c.layers))))) (sym fits)
      (begun_leaves k.statements before (without_inconsistent c.layers) unneeded (left_leaves before c.layers fits leaves))

  pub propagation_below : (c : Configuration) (run : Run) → LeavesTop before c.layers → MovedBelow before (after_run_of k.statements l p c run)
  propagation_below c Fails leaves =
      subst (λ (b : Bool). MovedBelow before (if b then top_failed 1 c else settled k.statements None 1 (record c { layers = failing c.layers l.space }))) (sym inner)
      (run_follows (record c { layers = failing c.layers l.space }) (end_leaves l.space inner failed before c.layers (λ m. (refl, refl)) edits_numbered.failure leaves))
  propagation_below c (Narrows ts) leaves =
      let f : Layer → Layer = after_run (view c.layers l.space) p ts in
      run_follows (record c { layers = in_layer l.space f c.layers }) (edit_leaves l.space inner f before c.layers (run_edit (view c.layers l.space) p ts) leaves)
