-- A step of a thread leaves the layers as they are that are not below its space.
use Rattle.std.proofs.Common.{◌≡◌, inl, inr, ℕ, ◌+◌, Bool, true, false, if◌then◌else◌, List, [], ◌∷◌, ◌++◌, drop, refl, sym, ap, subst, ◌∙◌, Option, Some, None, filter, cond}
use Rattle.std.proofs.lemmas.Bool.{false≢true}
use Rattle.oz_base.specs.Lists.{holds_of}
use Rattle.oz_base.specs.declared.names.Ident.{Ident}
use Rattle.oz_language.specs.declared.kernel.Statement.{Statement}
use Rattle.oz_language.specs.declared.kernel.Kernel.{Kernel}
use Rattle.oz_semantics.specs.Names.{is_top}
use Rattle.oz_semantics.specs.Store.{is_consistent}
use Rattle.oz_semantics.specs.Configurations.{is_of, is_open, layer_of, stack_of, view, in_layer, with_frames, without_terminated, telling, ending, failed, raised_by}
use Rattle.oz_semantics.specs.Answers.{Edit, Answer, Acts, Edits, RaisesKind, RaisesTerm, Operates, Widens, Rests}
use Rattle.oz_semantics.specs.Spaces.{states_of, answer_in}
use Rattle.oz_semantics.specs.Changes.{Change, changed_all}
use Rattle.oz_semantics.specs.Effects.{Effect, Makes, Tells, ShowsText, act_effect}
use Rattle.oz_semantics.specs.Exceptions.{is_failure, raise_term, with_term, unwound}
use Rattle.oz_semantics.specs.Texts.{Printed, term_text}
use Rattle.oz_semantics.specs.Triggers.{triggered}
use Rattle.oz_semantics.specs.Settling.{Turned, settled, failing, top_failed, requeued, term_variable, with_raised, top_ended, without_inconsistent, runnable_in, runnable}
use Rattle.oz_semantics.specs.Steps.{went_on, ended_by, uncaught, raised_to, raised, raised_kind, told, after_effect, edit_tells, edited, after_edit, after_answer, without_top, stepped}
use Rattle.oz_semantics.specs.Propagation.{Run, Fails, Narrows, run_of, after_run}
use Rattle.oz_semantics.specs.Schedule.{least_due, after_run_of, propagated, turn_of_queue, turn_of, turn}
use Rattle.oz_semantics.specs.declared.value.Tell.{Tell}
use Rattle.oz_semantics.specs.declared.configuration.Frame.{Frame}
use Rattle.oz_semantics.specs.declared.configuration.Status.{Status}
use Rattle.oz_semantics.specs.declared.configuration.Status.TheVariants as status
use Rattle.oz_semantics.specs.declared.configuration.Propagator.{Propagator}
use Rattle.oz_semantics.specs.declared.configuration.Layer.{Layer}
use Rattle.oz_semantics.specs.declared.configuration.Configuration.{Configuration}
use Rattle.oz_semantics.specs.declared.outcome.RaiseKind.{RaiseKind}
use Rattle.oz_semantics.specs.declared.outcome.RaiseKind.TheVariants.{FailureTell}
use Rattle.oz_semantics.specs.declared.outcome.Stepped.TheVariants.{Moved}
use Rattle.oz_laws.proofs.SameLaws.{In, In-flat_back, and-right}
use Rattle.view_laws.specs.Trees.{is_ascending, names_of}
use Rattle.view_laws.proofs.Members.{decide}
use Rattle.view_laws.proofs.ListLaws.{among_in, in_among, filter_none}
use Rattle.view_laws.proofs.NameLaws.{names_equal}
use Rattle.view_laws.proofs.SightLaws.{of_space}
use Rattle.view_laws.proofs.TreeLaws.{one_of_name}
use Rattle.view_laws.proofs.QueueLaws.{can_from}
use Rattle.edit_laws.proofs.NameLaws.{top_is}
use Rattle.settle_laws.proofs.FitLaws.{FitsIn, AnswerFits, answer_fits, fits_kept}
use Rattle.turn_laws.proofs.DueLaws.{least_found}
use Rattle.inside_laws.specs.Settled.{IsSettled}
use Rattle.inside_laws.specs.Outside.{outside, StepsStayInside, LayersStay, RunsStayInside, RunLayersStay}
use Rattle.inside_laws.proofs.OwnLaws.{Keeps, own_at, own_change, own_end, layer_outside}
use Rattle.inside_laws.proofs.EditedLaws.{edited_status, edited_keeps, changed_keeps, changed_status, own_edited, own_changed}
use Rattle.inside_laws.proofs.LeftLaws.{was_left}
use Rattle.inside_laws.proofs.RestLaws.{IsResting, top_sound, parts_keep}

-- The space of a thread that can step

pub open_left : (st : Status) → is_open st ≡ true → was_left st ≡ true
open_left status.Open e = refl
open_left status.Failed e = refl
open_left (status.Raised x) e = refl
open_left status.Merged e = absurd (false≢true e)

-- a layer is the only one of its name
pub only_named : (t : List ℕ) (ls : List Layer) (l : Layer) → is_ascending (names_of ls) ≡ true → In l ls → l.space ≡ t → filter (is_of t) ls ≡ l ∷ []
only_named t [] l e h q = elim h [ ]
only_named t (m ∷ ls) l e (inl k) q =
    let named : m.space ≡ t = ap (λ (n : Layer). n.space) k ∙ q in
    ap (λ (b : Bool). cond b (m ∷ filter (is_of t) ls) (filter (is_of t) ls)) (subst (λ s. is_of s m ≡ true) named (names_equal m.space))
    ∙ ap (λ (ns : List Layer). m ∷ ns) (filter_none (is_of t) ls (λ n i. apart n i named)) ∙ ap (λ (n : Layer). n ∷ []) k
  where
    apart : (n : Layer) → In n ls → m.space ≡ t → is_of t n ≡ false
    apart n i named = elim (decide (is_of t n)) [
      | inl r ↦ absurd (one_of_name m ls n e i (of_space t n r ∙ sym named))
      | inr r ↦ r
    ]
only_named t (m ∷ ls) l e (inr h) q = by (is_of t m) refl (only_named t ls l (and-right _ _ e) h q)
  where
    by : (b : Bool) → is_of t m ≡ b → filter (is_of t) ls ≡ l ∷ [] → cond b (m ∷ filter (is_of t) ls) (filter (is_of t) ls) ≡ l ∷ []
    by true r rest = absurd (one_of_name m ls l e h (q ∙ sym (of_space t m r)))
    by false r rest = rest

-- the layer of the thread at the head of the queue
pub record HeadIn (t : List ℕ) (layers : List Layer) : Type 0 where
  pub layer : Layer
  pub keeps : Keeps t layers layers layer
  pub left : was_left layer.status ≡ true

pub head_in : (statements : List Statement) (c : Configuration) (id : Ident) (rest : List Ident) → IsSettled statements c → c.queue ≡ id ∷ rest → HeadIn id.space c.layers
head_in statements c id rest h q =
    let held : In id c.queue = subst (λ ids. In id ids) (sym q) (inl refl) in
    let able : In id (runnable statements c.layers) = among_in (runnable statements c.layers) id (sym (h.exact id) ∙ in_among c.queue id held) in
    let l = In-flat_back (runnable_in statements c.layers) id c.layers able in
    let can = can_from statements c.layers l.0 id l.2 in
    record {
      layer = l.0;
      keeps = record { stays = refl; own = only_named id.space c.layers l.0 h.ordered l.1 (ap (λ (i : Ident). i.space) can.name) };
      left = open_left l.0.status can.opened;
    }

pub head_rests : (statements : List Statement) (c : Configuration) (id : Ident) (rest : List Ident) → IsSettled statements c → c.queue ≡ id ∷ rest → IsResting statements id.space c.layers
head_rests statements c id rest h q =
    let head = head_in statements c id rest h q in
    record {
      sound = h.sound;
      content = h.content;
      left = ap (holds_of (λ (l : Layer). was_left l.status)) (own_at id.space c.layers c.layers head.layer head.keeps) ∙ head.left;
    }

-- A step of a thread of a space that is not the top

module _ (k : Kernel) (id : Ident) (before : List Layer) (rests : IsResting k.statements id.space before) (inner : is_top id.space ≡ false) where
  abbrev t : List ℕ
  t = id.space

  record IsGood (layers : List Layer) : Type 0 where
    layer : Layer
    keeps : Keeps t before layers layer
    left : was_left layer.status ≡ true

  abbrev Inside : Turned → Type 0
  Inside turned = outside t turned.1.layers ≡ outside t before

  edit_good : (f : Layer → Layer) (layers : List Layer) → ((m : Layer) → (f m).space ≡ m.space) → ((m : Layer) → (f m).status ≡ m.status) → IsGood layers → IsGood (in_layer t f layers)
  edit_good f layers named same good =
      record { layer = f good.layer; keeps = own_change t before layers good.layer good.keeps f named; left = ap was_left (same good.layer) ∙ good.left }

  follows : (mover : Option Ident) (cost : ℕ) (c : Configuration) → IsGood c.layers → Inside (settled k.statements mover cost c)
  follows mover cost c good =
      subst (λ (b : Bool). Inside (if b then top_failed cost c else (Moved cost, requeued k.statements mover c (triggered k.statements (without_inconsistent c.layers)))))
      (sym (top_sound k.statements t before rests inner c.layers good.keeps.stays)) (parts_keep k.statements t before rests c.layers good.layer good.keeps good.left).1.stays

  went_inside : (cost : ℕ) (layers : List Layer) (c : Configuration) → IsGood layers → Inside (went_on k.statements id cost layers c)
  went_inside cost layers c good = follows (Some id) cost (record c { layers = in_layer t without_terminated layers }) (edit_good without_terminated layers (λ m. refl) (λ m. refl) good)

  end_good : (x : Ident) (b : Bool) (layers : List Layer) → IsGood layers → IsGood (ending t (λ l. if b then failed l else raised_by x l) layers)
  end_good x b layers good = record {
    layer = if b then failed good.layer else raised_by x good.layer;
    keeps = own_end t (λ l. if b then failed l else raised_by x l) before layers good.layer (named b) good.keeps;
    left = still b;
  }
    where
      named : (p : Bool) (m : Layer) → (if p then failed m else raised_by x m).space ≡ m.space
      named true m = refl
      named false m = refl

      still : (p : Bool) → was_left (if p then failed good.layer else raised_by x good.layer).status ≡ true
      still true = refl
      still false = refl

  uncaught_inside : (x : Ident) (layers : List Layer) (c : Configuration) → IsGood layers → Inside (uncaught k.statements id x layers c)
  uncaught_inside x layers c good =
      subst
      (λ (b : Bool).
      Inside (if b
      then top_ended 1 x (without_inconsistent (in_layer t (λ l. without_terminated (with_frames id.number (λ frames. []) l)) layers)) c
      else settled k.statements (Some id) 1 (record c { layers = ending t (ended_by (view layers t) x) layers }))) (sym inner)
      (follows (Some id) 1 (record c { layers = ending t (ended_by (view layers t) x) layers }) (end_good x (is_failure (view layers t) x) layers good))

  raised_to_inside : (x : Ident) (frames : Option (List Frame)) (layers : List Layer) (c : Configuration) → IsGood layers → Inside (raised_to k.statements id x frames layers c)
  raised_to_inside x None layers c good = uncaught_inside x layers c good
  raised_to_inside x (Some frames) layers c good =
      went_inside 1 (in_layer t (with_frames id.number (λ rest. frames)) layers) c (edit_good (with_frames id.number (λ rest. frames)) layers (λ m. refl) (λ m. refl) good)

  raised_inside : (x : Ident) (layers : List Layer) (c : Configuration) → IsGood layers → Inside (raised k.statements id x layers c)
  raised_inside x layers c good = raised_to_inside x (unwound x (stack_of layers id)) layers c good

  kind_inside : (kind : RaiseKind) (layers : List Layer) (c : Configuration) → IsGood layers → Inside (raised_kind k.statements id kind layers c)
  kind_inside kind layers c good =
      raised_inside (term_variable layers t) (with_raised kind t layers) c (edit_good (with_term (raise_term kind)) layers (λ m. refl) (λ m. refl) good)

  -- where the change leaves good layers, once the space was told
  told_inside : (ts : List Tell) (change : List Layer → List Layer) (layers : List Layer) (c : Configuration) → IsGood layers
      → (IsGood (in_layer t (telling ts) layers) → IsGood (change (in_layer t (telling ts) layers))) → Inside (told k.statements id ts change layers c)
  told_inside ts change layers c good leaves = by (is_consistent (view layers t ++ ts))
    where
      by : (b : Bool) → Inside (if b then went_on k.statements id 1 (change (in_layer t (telling ts) layers)) c else raised_kind k.statements id FailureTell layers c)
      by true = went_inside 1 (change (in_layer t (telling ts) layers)) c (leaves (edit_good (telling ts) layers (λ m. refl) (λ m. refl) good))
      by false = kind_inside FailureTell layers c good

  changed_good : (changes : List Change) (layers : List Layer) → IsGood layers → IsGood (changed_all id changes layers)
  changed_good changes layers good = record {
    layer = own_changed id.number changes good.layer;
    keeps = changed_keeps id changes before layers good.layer good.keeps;
    left = ap was_left (changed_status id.number changes good.layer) ∙ good.left;
  }

  effect_inside : (layers : List Layer) (c : Configuration) (effect : Effect) → IsGood layers → Inside (after_effect k id layers c effect)
  effect_inside layers c (Makes changes) good = went_inside 1 (changed_all id changes layers) c (changed_good changes layers good)
  effect_inside layers c (Tells ts changes) good = told_inside ts (changed_all id changes) layers c good (changed_good changes (in_layer t (telling ts) layers))
  effect_inside layers c (ShowsText x) good =
      let printed : Printed = term_text k.words (view layers t) x in
      went_inside (1 + printed.nodes) layers (record c { shown = c.shown ++ printed.bytes ∷ [] }) good

  edited_good : (edit : Edit) (layers : List Layer) → FitsIn layers t edit → IsGood layers → IsGood (edited k.statements t edit layers)
  edited_good edit layers fits good = record {
    layer = own_edited t layers edit good.layer;
    keeps = edited_keeps t before layers good.layer good.keeps k.statements edit fits;
    left = ap was_left (edited_status t layers edit good.layer) ∙ good.left;
  }

  edit_inside : (edit : Edit) (layers : List Layer) (c : Configuration) → FitsIn layers t edit → IsGood layers → Inside (after_edit k.statements id edit layers c)
  edit_inside edit layers c fits good =
      let ts : List Tell = edit_tells layers (layer_of layers t) edit in
      told_inside ts (edited k.statements t edit) layers c good (edited_good edit (in_layer t (telling ts) layers) (fits_kept t (telling ts) layers t edit (λ l. refl) fits))

  -- of a thread that takes its statement off its stack
  answer_inside : (c : Configuration) (answer : Answer) → AnswerFits c.layers t answer → IsGood (without_top id c.layers) → IsGood c.layers → Inside (after_answer k id (without_top id c.layers) c answer)
  answer_inside c (Acts act) fits good first = effect_inside (without_top id c.layers) c (act_effect (layer_of (without_top id c.layers) t) act) good
  answer_inside c (Edits edit) fits good first =
      edit_inside edit (without_top id c.layers) c (fits_kept t (with_frames id.number (λ frames. drop 1 frames)) c.layers t edit (λ l. refl) fits) good
  answer_inside c (RaisesKind kind) fits good first = kind_inside kind (without_top id c.layers) c good
  answer_inside c (RaisesTerm x) fits good first = raised_inside x (without_top id c.layers) c good
  answer_inside c (Operates op space x) fits good first = follows (Some id) 1 c first
  answer_inside c (Widens ts) fits good first = told_inside ts (λ ls. ls) c.layers c first (λ told. told)
  answer_inside c (Rests ready) fits good first = follows (Some id) 1 c first

  pub step_inside : (c : Configuration) (l : Layer) → Keeps t before c.layers l → was_left l.status ≡ true → Inside (stepped k id c)
  step_inside c l keeps left =
      let good : IsGood c.layers = record { layer = l; keeps = keeps; left = left } in
      answer_inside c (answer_in k.statements c.layers (states_of k.statements c.layers) t (stack_of c.layers id)) (answer_fits k.statements c.layers id)
      (edit_good (with_frames id.number (λ frames. drop 1 frames)) c.layers (λ m. refl) (λ m. refl) good) good

-- A turn

none_outside_top : (layers : List Layer) → outside [] layers ≡ []
none_outside_top [] = refl
none_outside_top (l ∷ ls) = none_outside_top ls

-- The turn is a step where no propagator is due

pub turn_steps : (k : Kernel) (c : Configuration) (id : Ident) (rest : List Ident) → least_due c.layers ≡ None → c.queue ≡ id ∷ rest → turn k c ≡ stepped k id (record c { queue = rest })
turn_steps k c id rest none q = ap (turn_of k c) none ∙ ap (turn_of_queue k c) q

pub steps_stay_inside : StepsStayInside
steps_stay_inside k c id rest h none q =
    subst (λ (t : Turned). outside id.space t.1.layers ≡ outside id.space c.layers) (sym (turn_steps k c id rest none q)) (by (is_top id.space) refl)
  where
    head : HeadIn id.space c.layers
    head = head_in k.statements c id rest h q

    by : (b : Bool) → is_top id.space ≡ b → outside id.space (stepped k id (record c { queue = rest })).1.layers ≡ outside id.space c.layers
    by true e =
        subst (λ s. outside s (stepped k id (record c { queue = rest })).1.layers ≡ outside s c.layers) (sym (top_is id.space e))
        (none_outside_top (stepped k id (record c { queue = rest })).1.layers ∙ sym (none_outside_top c.layers))
    by false e = step_inside k id c.layers (head_rests k.statements c id rest h q) e (record c { queue = rest }) head.layer head.keeps head.left

pub layers_stay : LayersStay
layers_stay k c id rest other h none q apart = layer_outside id.space other apart (turn k c).1.layers c.layers (steps_stay_inside k c id rest h none q)

-- Runs

abbrev pub due_head : (statements : List Statement) (c : Configuration) (due : Layer × Propagator) → IsSettled statements c → least_due c.layers ≡ Some due → HeadIn due.0.space c.layers
due_head statements c due h e =
    let d = least_found c.layers due e in
    record { layer = due.0; keeps = record { stays = refl; own = only_named due.0.space c.layers due.0 h.ordered d.0 refl }; left = open_left due.0.status d.1.opened }

pub due_rests : (statements : List Statement) (c : Configuration) (due : Layer × Propagator) → IsSettled statements c → least_due c.layers ≡ Some due → IsResting statements due.0.space c.layers
due_rests statements c due h e =
    let head = due_head statements c due h e in
    record {
      sound = h.sound;
      content = h.content;
      left = ap (holds_of (λ (l : Layer). was_left l.status)) (own_at due.0.space c.layers c.layers head.layer head.keeps) ∙ head.left;
    }

-- what follows a run in layers whose space is not the top
module _ (statements : List Statement) (t : List ℕ) (before : List Layer) (rests : IsResting statements t before) (inner : is_top t ≡ false) where
  run_follows : (c : Configuration) (l : Layer) → Keeps t before c.layers l → was_left l.status ≡ true → outside t (settled statements None 1 c).1.layers ≡ outside t before
  run_follows c l keeps left =
      subst (λ (b : Bool). outside t (if b then top_failed 1 c else (Moved 1, requeued statements None c (triggered statements (without_inconsistent c.layers)))).1.layers ≡ outside t before)
      (sym (top_sound statements t before rests inner c.layers keeps.stays)) (parts_keep statements t before rests c.layers l keeps left).1.stays

  run_inside : (c : Configuration) (l : Layer) (p : Propagator) (run : Run) → l.space ≡ t → Keeps t before c.layers l → was_left l.status ≡ true
      → outside t (after_run_of statements l p c run).1.layers ≡ outside t before
  run_inside c l p Fails name keeps left =
      subst (λ (b : Bool). outside t (if b then top_failed 1 c else settled statements None 1 (record c { layers = failing c.layers l.space })).1.layers ≡ outside t before) (sym (ap is_top name ∙ inner))
      (run_follows (record c { layers = failing c.layers l.space }) (failed l)
      (subst (λ s. Keeps t before (failing c.layers s) (failed l)) (sym name) (own_end t failed before c.layers l (λ m. refl) keeps)) refl)
  run_inside c l p (Narrows ts) name keeps left =
      let f : Layer → Layer = after_run (view c.layers l.space) p ts in
      run_follows (record c { layers = in_layer l.space f c.layers }) (f l)
      (subst (λ s. Keeps t before (in_layer s f c.layers) (f l)) (sym name) (own_change t before c.layers l keeps f (λ m. refl))) left

pub runs_stay_inside : RunsStayInside
runs_stay_inside k c due h e =
    subst (λ (t : Turned). outside due.0.space t.1.layers ≡ outside due.0.space c.layers) (sym (ap (turn_of k c) e)) (by (is_top due.0.space) refl)
  where
    head : HeadIn due.0.space c.layers
    head = due_head k.statements c due h e

    by : (b : Bool) → is_top due.0.space ≡ b → outside due.0.space (propagated k.statements due c).1.layers ≡ outside due.0.space c.layers
    by true q =
        subst (λ s. outside s (propagated k.statements due c).1.layers ≡ outside s c.layers) (sym (top_is due.0.space q))
        (none_outside_top (propagated k.statements due c).1.layers ∙ sym (none_outside_top c.layers))
    by false q =
        run_inside k.statements due.0.space c.layers (due_rests k.statements c due h e) q c due.0 due.1 (run_of (view c.layers due.0.space) due.1) refl head.keeps head.left

pub run_layers_stay : RunLayersStay
run_layers_stay k c due other h e apart = layer_outside due.0.space other apart (turn k c).1.layers c.layers (runs_stay_inside k c due h e)
