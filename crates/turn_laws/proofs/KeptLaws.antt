-- What is so of a configuration is so after each turn, and where a program opens, the search begins, or a space is committed.
use Rattle.std.proofs.Common.{◌≡◌, inl, inr, ℕ, ◌+◌, ◌≤◌, Bool, true, false, not, ◌&&◌, if◌then◌else◌, List, [], ◌∷◌, ◌++◌, refl, sym, ap, subst, ◌∙◌, Option, Some, None, is_some, drop, arith}
use Rattle.std.proofs.lemmas.Bool.{false≢true}
use Rattle.oz_base.specs.Lists.{list_eq, holds_of}
use Rattle.oz_base.specs.declared.names.Ident.{Ident}
use Rattle.oz_language.specs.declared.kernel.Statement.{Statement}
use Rattle.oz_language.specs.declared.kernel.Kernel.{Kernel}
use Rattle.oz_semantics.specs.Names.{is_top, is_below, child_name, space_lt}
use Rattle.oz_semantics.specs.Store.{View, is_consistent}
use Rattle.oz_semantics.specs.Configurations.{is_of, layer_at, layer_of, stack_of, view, in_layer, with_frames, without_terminated, telling, counting_child, spawning, ending, failed, raised_by, frames_of, next_child, new_layer}
use Rattle.oz_semantics.specs.Answers.{Edit, Answer, Acts, Edits, RaisesKind, RaisesTerm, Operates, Widens, Rests}
use Rattle.oz_semantics.specs.Spaces.{sight, states_of, answer_in}
use Rattle.oz_semantics.specs.Edits.{starting, created, committing, committed}
use Rattle.oz_semantics.specs.Changes.{changed_all}
use Rattle.oz_semantics.specs.Effects.{Effect, Makes, Tells, ShowsText, act_effect}
use Rattle.oz_semantics.specs.Exceptions.{is_failure, raise_term, with_term, unwound}
use Rattle.oz_semantics.specs.Texts.{Printed, term_text}
use Rattle.oz_semantics.specs.Triggers.{triggered}
use Rattle.oz_semantics.specs.Settling.{Turned, may_fail, is_inconsistent, is_among, top_is_inconsistent, failing, top_failed, top_ended, without_inconsistent, runnable, requeued, settled, term_variable, with_raised}
use Rattle.oz_semantics.specs.Steps.{went_on, ended_by, uncaught, raised_to, raised, raised_kind, told, after_effect, edit_tells, edited, after_edit, after_answer, without_top, stepped}
use Rattle.oz_semantics.specs.Propagation.{Run, Fails, Narrows, run_of, after_run}
use Rattle.oz_semantics.specs.Schedule.{least_due, after_run_of, propagated, turn_of_queue, turn_of}
use Rattle.oz_semantics.specs.Runs.{opening_environment, top_layer, left_by}
use Rattle.oz_semantics.specs.declared.value.Tell.{Tell}
use Rattle.oz_semantics.specs.declared.configuration.Frame.{Frame}
use Rattle.oz_semantics.specs.declared.configuration.Propagator.{Propagator}
use Rattle.oz_semantics.specs.declared.configuration.Layer.{Layer}
use Rattle.oz_semantics.specs.declared.configuration.Configuration.{Configuration}
use Rattle.oz_semantics.specs.declared.outcome.RaiseKind.{RaiseKind}
use Rattle.oz_semantics.specs.declared.outcome.RaiseKind.TheVariants.{FailureTell}
use Rattle.oz_semantics.specs.declared.outcome.Stepped.TheVariants.{Moved, TopEnded, Quiescent}
use Rattle.oz_laws.proofs.SameLaws.{In, In-from_contains, contains-from_In, and-left, and-right}
use Rattle.view_laws.specs.Steps.{IsSound, IsNumbered}
use Rattle.view_laws.specs.Queues.{is_once}
use Rattle.view_laws.specs.Needs.{NoneNeeded}
use Rattle.view_laws.proofs.Members.{decide, not_both, some_of, has-left, has-right}
use Rattle.view_laws.proofs.ListLaws.{in_edit, found_in}
use Rattle.view_laws.proofs.SightLaws.{creation_unseen, commitment_unseen, commitment_seen}
use Rattle.view_laws.proofs.ChoiceLaws.{committed_consistent}
use Rattle.view_laws.specs.Sights.{committed_tells}
use Rattle.view_laws.proofs.NameLaws.{names_equal}
use Rattle.view_laws.proofs.TreeLaws.{in_put}
use Rattle.view_laws.proofs.QueueLaws.{queue_exact, queue_once, not_false}
use Rattle.view_laws.proofs.NumberLaws.{runnable_once}
use Rattle.need_laws.proofs.FireLaws.{all_fired}
use Rattle.need_laws.proofs.AfterLaws.{fired_sound}
use Rattle.need_laws.proofs.RoundLaws.{none_left, none_in}
use Rattle.edit_laws.proofs.NameLaws.{top_is}
use Rattle.settle_laws.specs.Turns.{opening_layers}
use Rattle.settle_laws.proofs.FitLaws.{FitsIn, AnswerFits, answer_fits, fits_kept}
use Rattle.settle_laws.proofs.SoundLaws.{some_found, left_sound, sound_top}
use Rattle.settle_laws.proofs.TellLaws.{consistent_part}
use Rattle.settle_laws.proofs.OpeningLaws.{opening_sound}
use Rattle.settle_laws.proofs.TreeSteps.{opening_tree}
use Rattle.turn_laws.specs.Orderly.{AreOrderly}
use Rattle.turn_laws.specs.Kept.{IsKept, KeptTurn, KeptStep, KeptRun, KeptOpening, KeptRoot, KeptChosen}
use Rattle.turn_laws.proofs.NumberedLaws.{none_numbered, spawned_numbered, edits_numbered}
use Rattle.turn_laws.proofs.OrderlyLaws.{IsEdit, edit_orderly, end_orderly, left_orderly, fired_orderly, frames_edit, term_edit, popped_orderly, tells_edit, changed_orderly, ended_orderly, created_orderly, committed_orderly, edited_orderly}

-- where the machine moved, it is so
abbrev MovedKept : List Statement → Turned → Type 0
MovedKept statements (Moved cost, d) = IsKept statements d
MovedKept statements (TopEnded x cost, d) = Unit {0}
MovedKept statements (Quiescent, d) = Unit {0}

-- What follows a step

requeued_kept : (statements : List Statement) (mover : Option Ident) (c : Configuration) (layers : List Layer) → AreOrderly layers → IsSound layers → NoneNeeded statements layers
    → is_once c.queue ≡ true → holds_of (is_among c.queue) mover ≡ false → IsKept statements (requeued statements mover c layers)
requeued_kept statements mover c layers good sound content once apart = record {
  tree = good.tree;
  top = good.top;
  numbered = good.numbered;
  sound = sound;
  content = content;
  exact = λ id. queue_exact (runnable statements layers) mover c.queue id;
  once = queue_once (runnable statements layers) mover c.queue (runnable_once statements layers good.tree.ordered good.numbered) once apart;
}

-- where those that are inconsistent have failed, and what is needed has begun
begun_kept : (statements : List Statement) (mover : Option Ident) (c : Configuration) (layers : List Layer) → AreOrderly layers → is_once c.queue ≡ true → holds_of (is_among c.queue) mover ≡ false
    → IsKept statements (requeued statements mover c (triggered statements (without_inconsistent layers)))
begun_kept statements mover c layers good once apart =
    let left : List Layer = without_inconsistent layers in
    let fires = all_fired statements left in
    requeued_kept statements mover c (triggered statements left) (fired_orderly left (triggered statements left) fires (left_orderly layers good))
    (fired_sound left (triggered statements left) fires (left_sound layers good.tree)) (none_left statements left) once apart

settled_kept : (statements : List Statement) (mover : Option Ident) (cost : ℕ) (c : Configuration) → AreOrderly c.layers → is_once c.queue ≡ true → holds_of (is_among c.queue) mover ≡ false
    → MovedKept statements (settled statements mover cost c)
settled_kept statements mover cost c good once apart = by (top_is_inconsistent c.layers)
  where
    by : (b : Bool) → MovedKept statements (if b then top_failed cost c else (Moved cost, requeued statements mover c (triggered statements (without_inconsistent c.layers))))
    by true = tt
    by false = begun_kept statements mover c c.layers good once apart

-- where the top is consistent
left_kept : (statements : List Statement) (mover : Option Ident) (cost : ℕ) (c : Configuration) → AreOrderly c.layers → is_once c.queue ≡ true → holds_of (is_among c.queue) mover ≡ false
    → top_is_inconsistent c.layers ≡ false → IsKept statements (left_by (settled statements mover cost c))
left_kept statements mover cost c good once apart e =
    subst (λ (b : Bool). IsKept statements (left_by (if b then top_failed cost c else (Moved cost, requeued statements mover c (triggered statements (without_inconsistent c.layers)))))) (sym e)
    (begun_kept statements mover c c.layers good once apart)

-- Steps

-- the thread was taken off a queue that has each once
record IsOff (id : Ident) (queue : List Ident) : Type 0 where
  once : is_once queue ≡ true
  apart : is_among queue id ≡ false

module _ (k : Kernel) (id : Ident) where
  follows : (cost : ℕ) (c : Configuration) → AreOrderly c.layers → IsOff id c.queue → MovedKept k.statements (settled k.statements (Some id) cost c)
  follows cost c good off = settled_kept k.statements (Some id) cost c good off.once off.apart

  went_kept : (cost : ℕ) (layers : List Layer) (c : Configuration) → AreOrderly layers → IsOff id c.queue → MovedKept k.statements (went_on k.statements id cost layers c)
  went_kept cost layers c good off = follows cost (record c { layers = in_layer id.space without_terminated layers }) (ended_orderly id.space layers good) off

  end_is : (x : Ident) (b : Bool) (l : Layer) → ((if b then failed l else raised_by x l).space ≡ l.space) × ((if b then failed l else raised_by x l).next ≡ l.next)
  end_is x true l = (refl, refl)
  end_is x false l = (refl, refl)

  end_numbered : (x : Ident) (b : Bool) (l : Layer) → IsNumbered l → IsNumbered (if b then failed l else raised_by x l)
  end_numbered x true l h = none_numbered (failed l) refl h.begins
  end_numbered x false l h = none_numbered (raised_by x l) refl h.begins

  uncaught_kept : (x : Ident) (layers : List Layer) (c : Configuration) → AreOrderly layers → IsOff id c.queue → MovedKept k.statements (uncaught k.statements id x layers c)
  uncaught_kept x layers c good off = by (is_top id.space)
    where
      by : (b : Bool)
          → MovedKept k.statements (if b
          then top_ended 1 x (without_inconsistent (in_layer id.space (λ l. without_terminated (with_frames id.number (λ frames. []) l)) layers)) c
          else settled k.statements (Some id) 1 (record c { layers = ending id.space (ended_by (view layers id.space) x) layers }))
      by true = tt
      by false =
          follows 1 (record c { layers = ending id.space (ended_by (view layers id.space) x) layers })
          (end_orderly id.space (ended_by (view layers id.space) x) layers (λ l. end_is x (is_failure (view layers id.space) x) l) (λ l h. end_numbered x (is_failure (view layers id.space) x) l h) good) off

  raised_to_kept : (x : Ident) (frames : Option (List Frame)) (layers : List Layer) (c : Configuration) → AreOrderly layers → IsOff id c.queue
      → MovedKept k.statements (raised_to k.statements id x frames layers c)
  raised_to_kept x None layers c good off = uncaught_kept x layers c good off
  raised_to_kept x (Some frames) layers c good off =
      went_kept 1 (in_layer id.space (with_frames id.number (λ rest. frames)) layers) c
      (edit_orderly id.space (with_frames id.number (λ rest. frames)) layers (frames_edit id.number (λ rest. frames)) good) off

  raised_kept : (x : Ident) (layers : List Layer) (c : Configuration) → AreOrderly layers → IsOff id c.queue → MovedKept k.statements (raised k.statements id x layers c)
  raised_kept x layers c good off = raised_to_kept x (unwound x (stack_of layers id)) layers c good off

  kind_kept : (kind : RaiseKind) (layers : List Layer) (c : Configuration) → AreOrderly layers → IsOff id c.queue → MovedKept k.statements (raised_kind k.statements id kind layers c)
  kind_kept kind layers c good off =
      raised_kept (term_variable layers id.space) (with_raised kind id.space layers) c (edit_orderly id.space (with_term (raise_term kind)) layers (term_edit (raise_term kind)) good) off

  -- where the change leaves orderly layers, once the space was told
  told_kept : (ts : List Tell) (change : List Layer → List Layer) (layers : List Layer) (c : Configuration) → AreOrderly layers
      → (AreOrderly (in_layer id.space (telling ts) layers) → AreOrderly (change (in_layer id.space (telling ts) layers))) → IsOff id c.queue
      → MovedKept k.statements (told k.statements id ts change layers c)
  told_kept ts change layers c good leaves off = by (is_consistent (view layers id.space ++ ts))
    where
      by : (b : Bool)
          → MovedKept k.statements (if b then went_on k.statements id 1 (change (in_layer id.space (telling ts) layers)) c else raised_kind k.statements id FailureTell layers c)
      by true = went_kept 1 (change (in_layer id.space (telling ts) layers)) c (leaves (edit_orderly id.space (telling ts) layers (tells_edit ts) good)) off
      by false = kind_kept FailureTell layers c good off

  effect_kept : (layers : List Layer) (c : Configuration) (effect : Effect) → AreOrderly layers → IsOff id c.queue → MovedKept k.statements (after_effect k id layers c effect)
  effect_kept layers c (Makes changes) good off = went_kept 1 (changed_all id changes layers) c (changed_orderly id changes layers good) off
  effect_kept layers c (Tells ts changes) good off = told_kept ts (changed_all id changes) layers c good (changed_orderly id changes (in_layer id.space (telling ts) layers)) off
  effect_kept layers c (ShowsText x) good off =
      let printed : Printed = term_text k.words (view layers id.space) x in
      went_kept (1 + printed.nodes) layers (record c { shown = c.shown ++ printed.bytes ∷ [] }) good off

  edit_kept : (edit : Edit) (layers : List Layer) (c : Configuration) → FitsIn layers id.space edit → AreOrderly layers → IsOff id c.queue → MovedKept k.statements (after_edit k.statements id edit layers c)
  edit_kept edit layers c fits good off =
      let ts : List Tell = edit_tells layers (layer_of layers id.space) edit in
      told_kept ts (edited k.statements id.space edit) layers c good
      (edited_orderly k.statements id.space edit (in_layer id.space (telling ts) layers) (fits_kept id.space (telling ts) layers id.space edit (λ l. refl) fits)) off

  -- of a thread that takes its statement off its stack
  answer_kept : (c : Configuration) (answer : Answer) → AnswerFits c.layers id.space answer → AreOrderly (without_top id c.layers) → AreOrderly c.layers → IsOff id c.queue
      → MovedKept k.statements (after_answer k id (without_top id c.layers) c answer)
  answer_kept c (Acts act) fits good first off = effect_kept (without_top id c.layers) c (act_effect (layer_of (without_top id c.layers) id.space) act) good off
  answer_kept c (Edits edit) fits good first off =
      edit_kept edit (without_top id c.layers) c (fits_kept id.space (with_frames id.number (λ frames. drop 1 frames)) c.layers id.space edit (λ l. refl) fits) good off
  answer_kept c (RaisesKind kind) fits good first off = kind_kept kind (without_top id c.layers) c good off
  answer_kept c (RaisesTerm x) fits good first off = raised_kept x (without_top id c.layers) c good off
  answer_kept c (Operates op space x) fits good first off = follows 1 c first off
  answer_kept c (Widens ts) fits good first off = told_kept ts (λ ls. ls) c.layers c first (λ told. told) off
  answer_kept c (Rests ready) fits good first off = follows 1 c first off

  step_leaves : (c : Configuration) → AreOrderly c.layers → IsOff id c.queue → MovedKept k.statements (stepped k id c)
  step_leaves c good off =
      answer_kept c (answer_in k.statements c.layers (states_of k.statements c.layers) id.space (stack_of c.layers id)) (answer_fits k.statements c.layers id) (popped_orderly id c.layers good) good off

head_leaves : (k : Kernel) (id : Ident) (queue : List Ident) (c : Configuration) → IsKept k.statements (record c { queue = id ∷ queue })
    → MovedKept k.statements (stepped k id (record c { queue = queue }))
head_leaves k id queue c kept =
    step_leaves k id (record c { queue = queue }) (record { tree = kept.tree; top = kept.top; numbered = kept.numbered })
    (record { once = and-right _ _ kept.once; apart = not_false _ (and-left _ _ kept.once) })

pub kept_step : KeptStep
kept_step k id queue c n d kept e = subst (MovedKept k.statements) e (head_leaves k id queue c kept)

-- Runs of propagators

run_edit : (v : View) (p : Propagator) (ts : List Tell) → IsEdit (after_run v p ts)
run_edit v p ts = record { space = λ l. refl; children = λ l. omega arith; numbered = edits_numbered.run v p ts }

run_leaves : (statements : List Statement) (l : Layer) (p : Propagator) (c : Configuration) (run : Run) → IsKept statements c → MovedKept statements (after_run_of statements l p c run)
run_leaves statements l p c Fails kept = by (is_top l.space)
  where
    by : (b : Bool) → MovedKept statements (if b then top_failed 1 c else settled statements None 1 (record c { layers = failing c.layers l.space }))
    by true = tt
    by false =
        settled_kept statements None 1 (record c { layers = failing c.layers l.space })
        (end_orderly l.space failed c.layers (λ m. (refl, refl)) edits_numbered.failure (record { tree = kept.tree; top = kept.top; numbered = kept.numbered })) kept.once refl
run_leaves statements l p c (Narrows ts) kept =
    settled_kept statements None 1 (record c { layers = in_layer l.space (after_run (view c.layers l.space) p ts) c.layers })
    (edit_orderly l.space (after_run (view c.layers l.space) p ts) c.layers (run_edit (view c.layers l.space) p ts) (record { tree = kept.tree; top = kept.top; numbered = kept.numbered })) kept.once refl

propagated_leaves : (statements : List Statement) (due : Layer × Propagator) (c : Configuration) → IsKept statements c → MovedKept statements (propagated statements due c)
propagated_leaves statements due c kept = run_leaves statements due.0 due.1 c (run_of (view c.layers due.0.space) due.1) kept

pub kept_run : KeptRun
kept_run statements due c n d kept e = subst (MovedKept statements) e (propagated_leaves statements due c kept)

queue_leaves : (k : Kernel) (c : Configuration) (queue : List Ident) → IsKept k.statements (record c { queue = queue }) → MovedKept k.statements (turn_of_queue k c queue)
queue_leaves k c [] kept = tt
queue_leaves k c (id ∷ queue) kept = head_leaves k id queue c kept

turn_leaves : (k : Kernel) (c : Configuration) (due : Option (Layer × Propagator)) → IsKept k.statements c → MovedKept k.statements (turn_of k c due)
turn_leaves k c None kept = queue_leaves k c c.queue kept
turn_leaves k c (Some due) kept = propagated_leaves k.statements due c kept

pub kept_turn : KeptTurn
kept_turn k c n d kept e = subst (MovedKept k.statements) e (turn_leaves k c (least_due c.layers) kept)

-- Where a program opens

opening_numbered : (fs : List Frame) (l m : Layer) → l.threads ≡ [] → 1 ≤ l.next.thread → In m (spawning fs l ∷ []) → IsNumbered m
opening_numbered fs l m e begins (inl q) = subst IsNumbered q (spawned_numbered fs l (none_numbered l e begins))
opening_numbered fs l m e begins (inr h) = elim h [ ]

opening_orderly : (k : Kernel) → AreOrderly (opening_layers k)
opening_orderly k = record {
  tree = opening_tree k;
  top = refl;
  numbered = λ l c. opening_numbered (frames_of opening_environment k.body) top_layer l refl (omega arith) (In-from_contains (opening_layers k) l c);
}

pub kept_opening : KeptOpening
kept_opening k =
    left_kept k.statements None 0 (record { layers = opening_layers k; queue = []; shown = [] }) (opening_orderly k) refl refl (sound_top (opening_layers k) (opening_sound k))

-- Where the search begins

module _ (parent : List ℕ) (procedure : Ident) (layers : List Layer) (sound : IsSound layers) where
  abbrev made : List Layer
  made = created parent procedure layers

  abbrev new : Layer
  new = starting procedure (new_layer (next_child (layer_of layers parent)))

  not_top_child : (s : List ℕ) (n : ℕ) → is_top (child_name s n) ≡ false
  not_top_child [] n = refl
  not_top_child (a ∷ s) n = refl

  new_not_top : is_top new.space ≡ false
  new_not_top = not_top_child (layer_of layers parent).space (layer_of layers parent).next.child

  seen : (m : Layer) → is_inconsistent made m ≡ is_inconsistent layers m
  seen m = ap (λ (v : View). may_fail m.status && not (is_consistent v)) (creation_unseen layers parent m.space procedure)

  grown_sound : (m : Layer) → In m (in_layer parent counting_child layers) → is_inconsistent layers m ≡ false
  grown_sound m h = elim (in_edit (is_of parent) counting_child layers m h) [
    | inl k ↦ sound m (contains-from_In layers m k)
    | inr r ↦ (ap (is_inconsistent layers) r.2 ∙ sound r.0 (contains-from_In layers r.0 (found_in (is_of parent) counting_child layers r.0 r.1).0))
  ]

  pub created_top : top_is_inconsistent made ≡ false
  created_top = elim (decide (top_is_inconsistent made)) [
    | inl e ↦ (let l = some_of (λ (m : Layer). is_top m.space && is_inconsistent made m) made e in
        let top = and-left (is_top l.0.space) (is_inconsistent made l.0) l.2 in
        let bad = and-right (is_top l.0.space) (is_inconsistent made l.0) l.2 in
        elim (in_put (λ (other : Layer). space_lt new.space other.space) new (in_layer parent counting_child layers) l.0 (In-from_contains made l.0 l.1)) [
          | inl q ↦ absurd (not_both _ top (ap (λ (m : Layer). is_top m.space) q ∙ new_not_top))
          | inr h ↦ absurd (not_both _ bad (seen l.0 ∙ grown_sound l.0 h))
        ])
    | inr e ↦ e
  ]

pub kept_root : KeptRoot
kept_root statements procedure c kept =
    left_kept statements None 1 (record c { layers = created [] procedure c.layers })
    (created_orderly [] procedure c.layers kept.top (record { tree = kept.tree; top = kept.top; numbered = kept.numbered })) kept.once refl (created_top [] procedure c.layers kept.sound)

-- Where it commits a space

top_name : (s : List ℕ) → is_top s ≡ true → is_below s [] ≡ true
top_name [] e = refl
top_name (n ∷ s) e = absurd (false≢true e)

top_only : (s : List ℕ) → is_below s [] ≡ true → s ≡ []
top_only [] e = refl
top_only (n ∷ s) e = absurd (false≢true e)

found_there : (layers : List Layer) (m : Layer) (space : List ℕ) → In m layers → m.space ≡ space → is_some (layer_at layers space) ≡ true
found_there layers m space h e = ap is_some (some_found (is_of space) layers m h (subst (λ s. list_eq m.space s ≡ true) e (names_equal m.space))).1

and_left_known : (a b c : Bool) → a ≡ true → b ≡ true → (a && (b && not c)) ≡ false → c ≡ true
and_left_known true true true e f g = refl
and_left_known true true false e f g = absurd (false≢true (sym g))
and_left_known true false c e f g = absurd (false≢true f)
and_left_known false b c e f g = absurd (false≢true e)

-- a layer of the top that may fail saw what is consistent before, and does so still
module _ (statements : List Statement) (space : List ℕ) (i : ℕ) (layers : List Layer) (sound : top_is_inconsistent layers ≡ false) where
  abbrev later : List Layer
  later = committed statements space i layers

  seen_above : (m : Layer) → In m layers → is_top m.space ≡ true → is_consistent (view layers m.space) ≡ true → (b : Bool) → is_below space m.space ≡ b → is_consistent (view later m.space) ≡ true
  seen_above m h top e false apart = ap is_consistent (commitment_unseen statements layers space m.space i (inl apart)) ∙ e
  seen_above m h top e true below =
      let own : space ≡ m.space = top_only space (subst (λ s. is_below space s ≡ true) (top_is m.space top) below) ∙ sym (top_is m.space top) in
      let besides = commitment_seen statements layers space m.space i (found_there layers m space h (sym own)) below in
      consistent_part (view later m.space) (view layers m.space ++ committed_tells statements layers space i)
      (λ t c. elim (besides.only t c) [ inl k ↦ has-left t _ _ k | inr k ↦ has-right t (view layers m.space) _ k ])
      (subst (λ s. is_consistent (view layers s ++ committed_tells statements layers space i) ≡ true) own
      (committed_consistent statements layers space i (ap (λ s. is_consistent (view layers s)) own ∙ e)))

  no_top : (m l : Layer) → In m layers → m.space ≡ l.space → m.status ≡ l.status → is_top l.space ≡ true → is_inconsistent later l ≡ true → ⊥
  no_top m l h same_space same_status top bad =
      let own_top : is_top m.space ≡ true = ap is_top same_space ∙ top in
      let before : is_consistent (view layers m.space) ≡ true =
      and_left_known (is_top m.space) (may_fail m.status) (is_consistent (view layers m.space)) own_top (ap may_fail same_status ∙ and-left (may_fail l.status) _ bad)
      (none_in (λ (n : Layer). is_top n.space && is_inconsistent layers n) layers sound m h) in
      not_both _ (and-right (may_fail l.status) _ bad) (ap not (ap (λ s. is_consistent (view later s)) (sym same_space) ∙ seen_above m h own_top before (is_below space m.space) refl))

  -- it leaves a consistent top consistent
  pub committed_top : top_is_inconsistent later ≡ false
  committed_top = elim (decide (top_is_inconsistent later)) [
    | inl e ↦ (let l = some_of (λ (m : Layer). is_top m.space && is_inconsistent later m) later e in
        let top = and-left (is_top l.0.space) (is_inconsistent later l.0) l.2 in
        let bad = and-right (is_top l.0.space) (is_inconsistent later l.0) l.2 in
        elim (in_edit (is_of space) (committing (sight statements layers space) i) layers l.0 (In-from_contains later l.0 l.1)) [
          | inl h ↦ absurd (no_top l.0 l.0 h refl refl top bad)
          | inr r ↦ absurd (no_top r.0 l.0 (found_in (is_of space) (committing (sight statements layers space) i) layers r.0 r.1).0 (ap (λ (m : Layer). m.space) (sym r.2)) (ap (λ (m : Layer). m.status) (sym r.2)) top bad)
        ])
    | inr e ↦ e
  ]

pub kept_chosen : KeptChosen
kept_chosen statements space i c kept =
    left_kept statements None 1 (record c { layers = committed statements space i c.layers })
    (committed_orderly statements space i c.layers (record { tree = kept.tree; top = kept.top; numbered = kept.numbered })) kept.once refl
    (committed_top statements space i c.layers (sound_top c.layers kept.sound))
