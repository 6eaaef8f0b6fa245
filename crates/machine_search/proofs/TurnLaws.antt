-- Each turn that makes a step costs 1 at least, and after it each thread that can step is queued.
use Rattle.std.proofs.Common.{◌≡◌, ℕ, ◌+◌, ◌<◌, Bool, true, false, if◌then◌else◌, List, [], ◌∷◌, ◌++◌, Option, Some, None, refl, arith}
use Rattle.oz_base.specs.declared.names.Ident.{Ident}
use Rattle.oz_language.specs.declared.kernel.Statement.{Statement}
use Rattle.oz_language.specs.declared.kernel.Kernel.{Kernel}
use Rattle.oz_semantics.specs.Names.{is_top}
use Rattle.oz_semantics.specs.Store.{is_consistent}
use Rattle.oz_semantics.specs.Configurations.{layer_of, stack_of, view, in_layer, with_frames, without_terminated, telling, ending}
use Rattle.oz_semantics.specs.Answers.{Edit, Answer, Acts, Edits, RaisesKind, RaisesTerm, Operates, Widens, Rests}
use Rattle.oz_semantics.specs.Spaces.{states_of, answer_in}
use Rattle.oz_semantics.specs.Changes.{changed_all}
use Rattle.oz_semantics.specs.Effects.{Effect, Makes, Tells, ShowsText, act_effect}
use Rattle.oz_semantics.specs.Exceptions.{unwound}
use Rattle.oz_semantics.specs.Texts.{Printed, term_text}
use Rattle.oz_semantics.specs.Triggers.{triggered}
use Rattle.oz_semantics.specs.Settling.{Turned, term_variable, with_raised, top_is_inconsistent, without_inconsistent, runnable, requeued, settled, failing, top_failed}
use Rattle.oz_semantics.specs.Steps.{went_on, ended_by, uncaught, raised_to, raised, told, shown_by, after_effect, edit_tells, edited, after_edit, after_answer, without_top, stepped}
use Rattle.oz_semantics.specs.Propagation.{Run, Fails, Narrows, run_of, after_run}
use Rattle.oz_semantics.specs.Schedule.{least_due, after_run_of, turn_of_queue, turn_of, turn}
use Rattle.oz_semantics.specs.declared.configuration.Propagator.{Propagator}
use Rattle.oz_semantics.specs.declared.value.Tell.{Tell}
use Rattle.oz_semantics.specs.declared.configuration.Frame.{Frame}
use Rattle.oz_semantics.specs.declared.configuration.Layer.{Layer}
use Rattle.oz_semantics.specs.declared.configuration.Configuration.{Configuration}
use Rattle.oz_semantics.specs.declared.outcome.RaiseKind.TheVariants.{FailureTell}
use Rattle.oz_semantics.specs.declared.outcome.Stepped.TheVariants.{Moved, Quiescent, TopEnded}
use Rattle.machine_search.specs.Rests.{IsSettled}
use Rattle.machine_search.proofs.QueueLaws.{all_queued}
use Rattle.machine_search.proofs.TopLaws.{still_consistent, begun_consistent}

-- a step was made
abbrev pub IsStep : List Statement → Turned → Type 0
IsStep statements (Moved cost, d) = (0 < cost) × IsSettled statements d
IsStep statements (TopEnded exception cost, d) = (0 < cost) × (true ≡ true)
IsStep statements (Quiescent, d) = ⊥

either : (statements : List Statement) (b : Bool) (t u : Turned) → IsStep statements t → IsStep statements u → IsStep statements (if b then t else u)
either statements true t u p q = p
either statements false t u p q = q

settled_step : (statements : List Statement) (mover : Option Ident) (cost : ℕ) (c : Configuration) → 0 < cost → IsStep statements (settled statements mover cost c)
settled_step statements mover cost c paid = by (top_is_inconsistent c.layers) refl
  where
    by : (b : Bool) → top_is_inconsistent c.layers ≡ b → IsStep statements (if b then top_failed cost c else (Moved cost, requeued statements mover c (triggered statements (without_inconsistent c.layers))))
    by true e = (paid, refl)
    by false e = (paid, (begun_consistent statements (without_inconsistent c.layers) (still_consistent c.layers e), all_queued (runnable statements (triggered statements (without_inconsistent c.layers))) mover c.queue))

-- a step of a thread
module _ (k : Kernel) (id : Ident) where
  uncaught_step : (x : Ident) (layers : List Layer) (c : Configuration) → IsStep k.statements (uncaught k.statements id x layers c)
  uncaught_step x layers c =
      either k.statements (is_top id.space) _ _ (omega arith, refl)
      (settled_step k.statements (Some id) 1 (record c { layers = ending id.space (ended_by (view layers id.space) x) layers }) (omega arith))

  went_on_step : (cost : ℕ) (layers : List Layer) (c : Configuration) → 0 < cost → IsStep k.statements (went_on k.statements id cost layers c)
  went_on_step cost layers c paid = settled_step k.statements (Some id) cost (record c { layers = in_layer id.space without_terminated layers }) paid

  raised_to_step : (x : Ident) (o : Option (List Frame)) (layers : List Layer) (c : Configuration) → IsStep k.statements (raised_to k.statements id x o layers c)
  raised_to_step x None layers c = uncaught_step x layers c
  raised_to_step x (Some frames) layers c = went_on_step 1 (in_layer id.space (with_frames id.number (λ rest. frames)) layers) c (omega arith)

  raised_step : (x : Ident) (layers : List Layer) (c : Configuration) → IsStep k.statements (raised k.statements id x layers c)
  raised_step x layers c = raised_to_step x (unwound x (stack_of layers id)) layers c

  told_step : (ts : List Tell) (change : List Layer → List Layer) (layers : List Layer) (c : Configuration) → IsStep k.statements (told k.statements id ts change layers c)
  told_step ts change layers c =
      either k.statements (is_consistent (view layers id.space ++ ts)) _ _ (went_on_step 1 (change (in_layer id.space (telling ts) layers)) c (omega arith))
      (raised_step (term_variable layers id.space) (with_raised FailureTell id.space layers) c)

  shown_step : (printed : Printed) (layers : List Layer) (c : Configuration) → IsStep k.statements (shown_by k.statements id printed layers c)
  shown_step printed layers c = went_on_step (1 + printed.nodes) layers (record c { shown = c.shown ++ printed.bytes ∷ [] }) (omega arith)

  effect_step : (layers : List Layer) (c : Configuration) (e : Effect) → IsStep k.statements (after_effect k id layers c e)
  effect_step layers c (Makes changes) = went_on_step 1 (changed_all id changes layers) c (omega arith)
  effect_step layers c (Tells ts changes) = told_step ts (changed_all id changes) layers c
  effect_step layers c (ShowsText x) = shown_step (term_text k.words (view layers id.space) x) layers c

  edit_step : (edit : Edit) (layers : List Layer) (c : Configuration) → IsStep k.statements (after_edit k.statements id edit layers c)
  edit_step edit layers c = told_step (edit_tells layers (layer_of layers id.space) edit) (edited k.statements id.space edit) layers c

  answer_step : (layers : List Layer) (c : Configuration) (a : Answer) → IsStep k.statements (after_answer k id layers c a)
  answer_step layers c (Acts act) = effect_step layers c (act_effect (layer_of layers id.space) act)
  answer_step layers c (Edits edit) = edit_step edit layers c
  answer_step layers c (RaisesKind kind) = raised_step (term_variable layers id.space) (with_raised kind id.space layers) c
  answer_step layers c (RaisesTerm x) = raised_step x layers c
  answer_step layers c (Operates op space x) = settled_step k.statements (Some id) 1 c (omega arith)
  answer_step layers c (Widens ts) = told_step ts (λ ls. ls) c.layers c
  answer_step layers c (Rests ready) = settled_step k.statements (Some id) 1 c (omega arith)

  pub stepped_step : (c : Configuration) → IsStep k.statements (stepped k id c)
  stepped_step c = answer_step (without_top id c.layers) c (answer_in k.statements c.layers (states_of k.statements c.layers) id.space (stack_of c.layers id))

-- a run of a propagator
after_run_step : (statements : List Statement) (l : Layer) (p : Propagator) (c : Configuration) (run : Run) → IsStep statements (after_run_of statements l p c run)
after_run_step statements l p c Fails =
    either statements (is_top l.space) _ _ (omega arith, refl) (settled_step statements None 1 (record c { layers = failing c.layers l.space }) (omega arith))
after_run_step statements l p c (Narrows ts) = settled_step statements None 1 (record c { layers = in_layer l.space (after_run (view c.layers l.space) p ts) c.layers }) (omega arith)

-- a turn makes a step, or else no propagator is due and the queue is empty
pub queue_step : (k : Kernel) (c : Configuration) (id : Ident) (queue : List Ident) → IsStep k.statements (turn_of_queue k c (id ∷ queue))
queue_step k c id queue = stepped_step k id (record c { queue = queue })

pub run_step : (k : Kernel) (c : Configuration) (due : Layer × Propagator) → IsStep k.statements (turn_of k c (Some due))
run_step k c due = after_run_step k.statements due.0 due.1 c (run_of (view c.layers due.0.space) due.1)

-- Costs

abbrev pub IsPaid : Turned → Type 0
IsPaid (Moved cost, c) = 0 < cost
IsPaid (TopEnded exception cost, c) = 0 < cost
IsPaid (Quiescent, c) = true ≡ true

step_paid : (statements : List Statement) (t : Turned) → IsStep statements t → IsPaid t
step_paid statements (Moved cost, c) h = h.0
step_paid statements (TopEnded exception cost, c) h = h.0
step_paid statements (Quiescent, c) h = refl

queue_paid : (k : Kernel) (c : Configuration) (queue : List Ident) → IsPaid (turn_of_queue k c queue)
queue_paid k c [] = refl
queue_paid k c (id ∷ queue) = step_paid k.statements (turn_of_queue k c (id ∷ queue)) (queue_step k c id queue)

due_paid : (k : Kernel) (c : Configuration) (due : Option (Layer × Propagator)) → IsPaid (turn_of k c due)
due_paid k c None = queue_paid k c c.queue
due_paid k c (Some due) = step_paid k.statements (turn_of k c (Some due)) (run_step k c due)

pub turn_paid : (k : Kernel) (c : Configuration) → IsPaid (turn k c)
turn_paid k c = due_paid k c (least_due c.layers)
