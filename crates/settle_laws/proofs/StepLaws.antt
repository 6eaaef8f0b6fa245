-- What is so of each step.
use Rattle.std.proofs.Common.{◌≡◌, ℕ, ◌+◌, ◌≤◌, Bool, true, false, if◌then◌else◌, List, [], ◌∷◌, ◌++◌, refl, sym, subst, arith, Option, Some, None, drop}
use Rattle.oz_base.specs.declared.names.Ident.{Ident}
use Rattle.oz_language.specs.declared.kernel.Kernel.{Kernel}
use Rattle.oz_semantics.specs.Names.{is_top}
use Rattle.oz_semantics.specs.Store.{is_consistent}
use Rattle.oz_semantics.specs.Configurations.{layer_of, stack_of, view, in_layer, with_frames, without_terminated, telling, failed, raised_by, ending}
use Rattle.oz_semantics.specs.Answers.{Edit, Answer, Acts, Edits, RaisesKind, RaisesTerm, Operates, Widens, Rests}
use Rattle.oz_semantics.specs.Spaces.{states_of, answer_in}
use Rattle.oz_semantics.specs.Changes.{Change, changed, changed_all}
use Rattle.oz_semantics.specs.Effects.{Effect, Makes, Tells, ShowsText, act_effect}
use Rattle.oz_semantics.specs.Exceptions.{is_failure, raise_term, with_term, unwound}
use Rattle.oz_semantics.specs.Texts.{Printed, term_text}
use Rattle.oz_semantics.specs.Settling.{Turned, settled, term_variable, with_raised, top_ended, without_inconsistent, failing, top_failed}
use Rattle.oz_semantics.specs.Propagation.{Run, Fails, Narrows, run_of, after_run}
use Rattle.oz_semantics.specs.Schedule.{least_due, after_run_of, turn_of_queue, turn_of, turn}
use Rattle.oz_semantics.specs.Steps.{went_on, ended_by, uncaught, raised_to, raised, raised_kind, told, after_effect, edit_tells, edited, after_edit, after_answer, without_top, stepped}
use Rattle.oz_semantics.specs.declared.value.Tell.{Tell}
use Rattle.oz_semantics.specs.declared.configuration.Frame.{Frame}
use Rattle.oz_semantics.specs.declared.configuration.Propagator.{Propagator}
use Rattle.oz_semantics.specs.declared.configuration.Layer.{Layer}
use Rattle.oz_semantics.specs.declared.configuration.Configuration.{Configuration}
use Rattle.oz_semantics.specs.declared.outcome.Stepped.TheVariants.{Quiescent}
use Rattle.oz_semantics.specs.declared.outcome.RaiseKind.{RaiseKind}
use Rattle.oz_semantics.specs.declared.outcome.RaiseKind.TheVariants.{FailureTell}
use Rattle.view_laws.specs.Sights.{IsEnd}
use Rattle.view_laws.proofs.ChangeLaws.{edit_of, changed_by, edit_keeps}
use Rattle.settle_laws.proofs.FitLaws.{FitsIn, AnswerFits, answer_fits, fits_kept}

-- What is so of all that follows a step, and of each end of the top, is so of each step: from layers that are good, where each edit of a step keeps them so
module _ (Good : List Layer → Type 0) (Holds : Turned → Type 0) (k : Kernel)
    (edits : (space : List ℕ) (f : Layer → Layer) (layers : List Layer) → ((l : Layer) → ((f l).space ≡ l.space) × (l.next.child ≤ (f l).next.child)) → Good layers → Good (in_layer space f layers))
    (changed_tree : (parent : List ℕ) (edit : Edit) (layers : List Layer) → FitsIn layers parent edit → Good layers → Good (edited k.statements parent edit layers))
    (ended : (space : List ℕ) (how : Layer → Layer) (layers : List Layer) → IsEnd how → Good layers → Good (ending space how layers))
    (follows : (mover : Option Ident) (cost : ℕ) (c : Configuration) → Good c.layers → 1 ≤ cost → Holds (settled k.statements mover cost c))
    (ends : (x : Ident) (layers : List Layer) (c : Configuration) → Good layers → Holds (top_ended 1 x (without_inconsistent layers) c))
    (fails : (c : Configuration) → Good c.layers → Holds (top_failed 1 c)) where
  one : 1 ≤ 1
  one = omega arith

  went_holds : (id : Ident) (cost : ℕ) (layers : List Layer) (c : Configuration) → Good layers → 1 ≤ cost → Holds (went_on k.statements id cost layers c)
  went_holds id cost layers c good h =
      follows (Some id) cost (record c { layers = in_layer id.space without_terminated layers }) (edits id.space without_terminated layers (λ l. (refl, omega arith)) good) h

  ended_end : (x : Ident) (b : Bool) (l : Layer) → ((if b then failed l else raised_by x l).space ≡ l.space) × ((if b then failed l else raised_by x l).next ≡ l.next)
  ended_end x true l = (refl, refl)
  ended_end x false l = (refl, refl)

  uncaught_holds : (id x : Ident) (layers : List Layer) (c : Configuration) → Good layers → Holds (uncaught k.statements id x layers c)
  uncaught_holds id x layers c good = by (is_top id.space)
    where
      by : (b : Bool)
          → Holds (if b
          then top_ended 1 x (without_inconsistent (in_layer id.space (λ l. without_terminated (with_frames id.number (λ frames. []) l)) layers)) c
          else settled k.statements (Some id) 1 (record c { layers = ending id.space (ended_by (view layers id.space) x) layers }))
      by true =
          ends x (in_layer id.space (λ l. without_terminated (with_frames id.number (λ frames. []) l)) layers) c
          (edits id.space (λ l. without_terminated (with_frames id.number (λ frames. []) l)) layers (λ l. (refl, omega arith)) good)
      by false =
          follows (Some id) 1 (record c { layers = ending id.space (ended_by (view layers id.space) x) layers })
          (ended id.space (ended_by (view layers id.space) x) layers (λ l. ended_end x (is_failure (view layers id.space) x) l) good) one

  raised_to_holds : (id x : Ident) (frames : Option (List Frame)) (layers : List Layer) (c : Configuration) → Good layers → Holds (raised_to k.statements id x frames layers c)
  raised_to_holds id x None layers c good = uncaught_holds id x layers c good
  raised_to_holds id x (Some frames) layers c good =
      went_holds id 1 (in_layer id.space (with_frames id.number (λ rest. frames)) layers) c (edits id.space (with_frames id.number (λ rest. frames)) layers (λ l. (refl, omega arith)) good) one

  raised_holds : (id x : Ident) (layers : List Layer) (c : Configuration) → Good layers → Holds (raised k.statements id x layers c)
  raised_holds id x layers c good = raised_to_holds id x (unwound x (stack_of layers id)) layers c good

  kind_holds : (id : Ident) (kind : RaiseKind) (layers : List Layer) (c : Configuration) → Good layers → Holds (raised_kind k.statements id kind layers c)
  kind_holds id kind layers c good =
      raised_holds id (term_variable layers id.space) (with_raised kind id.space layers) c (edits id.space (with_term (raise_term kind)) layers (λ l. (refl, omega arith)) good)

  changed_good : (id : Ident) (changes : List Change) (layers : List Layer) → Good layers → Good (changed_all id changes layers)
  changed_good id [] layers good = good
  changed_good id (change ∷ changes) layers good =
      let kept = edit_keeps id.number change in
      changed_good id changes (changed id layers change)
      (subst Good (sym (changed_by id layers change)) (edits id.space (edit_of id.number change) layers (λ l. (kept.space l, omega (arith, kept.children l))) good))

  -- where the change leaves good layers, once the space was told
  told_holds : (id : Ident) (ts : List Tell) (change : List Layer → List Layer) (layers : List Layer) (c : Configuration) → Good layers
      → (Good (in_layer id.space (telling ts) layers) → Good (change (in_layer id.space (telling ts) layers))) → Holds (told k.statements id ts change layers c)
  told_holds id ts change layers c good leaves = by (is_consistent (view layers id.space ++ ts))
    where
      by : (b : Bool) → Holds (if b then went_on k.statements id 1 (change (in_layer id.space (telling ts) layers)) c else raised_kind k.statements id FailureTell layers c)
      by true = went_holds id 1 (change (in_layer id.space (telling ts) layers)) c (leaves (edits id.space (telling ts) layers (λ l. (refl, omega arith)) good)) one
      by false = kind_holds id FailureTell layers c good

  effect_holds : (id : Ident) (layers : List Layer) (c : Configuration) (effect : Effect) → Good layers → Holds (after_effect k id layers c effect)
  effect_holds id layers c (Makes changes) good = went_holds id 1 (changed_all id changes layers) c (changed_good id changes layers good) one
  effect_holds id layers c (Tells ts changes) good = told_holds id ts (changed_all id changes) layers c good (changed_good id changes (in_layer id.space (telling ts) layers))
  effect_holds id layers c (ShowsText x) good =
      let printed : Printed = term_text k.words (view layers id.space) x in
      went_holds id (1 + printed.nodes) layers (record c { shown = c.shown ++ printed.bytes ∷ [] }) good (omega arith)

  edit_holds : (id : Ident) (edit : Edit) (layers : List Layer) (c : Configuration) → FitsIn layers id.space edit → Good layers → Holds (after_edit k.statements id edit layers c)
  edit_holds id edit layers c fits good =
      let ts : List Tell = edit_tells layers (layer_of layers id.space) edit in
      told_holds id ts (edited k.statements id.space edit) layers c good
      (changed_tree id.space edit (in_layer id.space (telling ts) layers) (fits_kept id.space (telling ts) layers id.space edit (λ l. refl) fits))

  -- of a thread that takes its statement off its stack
  answer_holds : (id : Ident) (c : Configuration) (answer : Answer) → AnswerFits c.layers id.space answer → Good (without_top id c.layers) → Good c.layers
      → Holds (after_answer k id (without_top id c.layers) c answer)
  answer_holds id c (Acts act) fits good first = effect_holds id (without_top id c.layers) c (act_effect (layer_of (without_top id c.layers) id.space) act) good
  answer_holds id c (Edits edit) fits good first =
      edit_holds id edit (without_top id c.layers) c (fits_kept id.space (with_frames id.number (λ frames. drop 1 frames)) c.layers id.space edit (λ l. refl) fits) good
  answer_holds id c (RaisesKind kind) fits good first = kind_holds id kind (without_top id c.layers) c good
  answer_holds id c (RaisesTerm x) fits good first = raised_holds id x (without_top id c.layers) c good
  answer_holds id c (Operates op space x) fits good first = follows (Some id) 1 c first one
  answer_holds id c (Widens ts) fits good first = told_holds id ts (λ ls. ls) c.layers c first (λ told. told)
  answer_holds id c (Rests ready) fits good first = follows (Some id) 1 c first one

  pub step_holds : (id : Ident) (c : Configuration) → Good c.layers → Holds (stepped k id c)
  step_holds id c good =
      answer_holds id c (answer_in k.statements c.layers (states_of k.statements c.layers) id.space (stack_of c.layers id)) (answer_fits k.statements c.layers id)
      (edits id.space (with_frames id.number (λ frames. drop 1 frames)) c.layers (λ l. (refl, omega arith)) good) good

  -- and of each run of a propagator
  run_holds : (l : Layer) (p : Propagator) (c : Configuration) (run : Run) → Good c.layers → Holds (after_run_of k.statements l p c run)
  run_holds l p c Fails good = by (is_top l.space)
    where
      by : (b : Bool) → Holds (if b then top_failed 1 c else settled k.statements None 1 (record c { layers = failing c.layers l.space }))
      by true = fails c good
      by false = follows None 1 (record c { layers = failing c.layers l.space }) (ended l.space failed c.layers (λ m. (refl, refl)) good) one
  run_holds l p c (Narrows ts) good =
      follows None 1 (record c { layers = in_layer l.space (after_run (view c.layers l.space) p ts) c.layers })
      (edits l.space (after_run (view c.layers l.space) p ts) c.layers (λ m. (refl, omega arith)) good) one

  -- so of each turn
  pub turn_holds : (rests : (c : Configuration) → Good c.layers → Holds (Quiescent, c)) (c : Configuration) → Good c.layers → Holds (turn k c)
  turn_holds rests c good = by (least_due c.layers)
    where
      by_queue : (queue : List Ident) → Holds (turn_of_queue k c queue)
      by_queue [] = rests c good
      by_queue (id ∷ queue) = step_holds id (record c { queue = queue }) good

      by : (o : Option (Layer × Propagator)) → Holds (turn_of k c o)
      by None = by_queue c.queue
      by (Some due) = run_holds due.0 due.1 c (run_of (view c.layers due.0.space) due.1) good

-- So it is of what asks nothing of the layers
pub each_step : (Holds : Turned → Type 0) (k : Kernel) → ((mover : Option Ident) (cost : ℕ) (c : Configuration) → 1 ≤ cost → Holds (settled k.statements mover cost c))
    → ((x : Ident) (layers : List Layer) (c : Configuration) → Holds (top_ended 1 x layers c)) → (id : Ident) (c : Configuration) → Holds (stepped k id c)
each_step Holds k follows ends id c =
    step_holds (λ (layers : List Layer). Unit {0}) Holds k (λ space f layers h good. tt) (λ parent edit layers fits good. tt) (λ space how layers h good. tt) (λ mover cost d good h. follows mover cost d h)
    (λ x layers d good. ends x (without_inconsistent layers) d) (λ d good. ends _ _ d) id c tt

-- and of each turn
pub each_turn : (Holds : Turned → Type 0) (k : Kernel) → ((mover : Option Ident) (cost : ℕ) (c : Configuration) → 1 ≤ cost → Holds (settled k.statements mover cost c))
    → ((x : Ident) (layers : List Layer) (c : Configuration) → Holds (top_ended 1 x layers c)) → ((c : Configuration) → Holds (Quiescent, c)) → (c : Configuration) → Holds (turn k c)
each_turn Holds k follows ends rests c =
    turn_holds (λ (layers : List Layer). Unit {0}) Holds k (λ space f layers h good. tt) (λ parent edit layers fits good. tt) (λ space how layers h good. tt) (λ mover cost d good h. follows mover cost d h)
    (λ x layers d good. ends x (without_inconsistent layers) d) (λ d good. ends _ _ d) (λ d good. rests d) c tt
