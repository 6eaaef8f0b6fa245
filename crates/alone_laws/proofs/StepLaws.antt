-- A step of a space that is not the top leaves the layers as they are that are not below it, and what was shown.
use Rattle.std.proofs.Common.{◌≡◌, ℕ, Bool, true, false, if◌then◌else◌, List, [], ◌∷◌, ◌++◌, refl, sym, ap, subst, ◌∙◌, Option, Some, None, drop}
use Rattle.std.proofs.lemmas.Bool.{false≢true}
use Rattle.oz_base.specs.declared.names.Ident.{Ident}
use Rattle.oz_language.specs.declared.kernel.Statement.{Statement}
use Rattle.oz_language.specs.declared.kernel.Kernel.{Kernel}
use Rattle.oz_semantics.specs.Names.{is_below, is_top, is_child_of}
use Rattle.oz_semantics.specs.Store.{View, is_consistent}
use Rattle.oz_semantics.specs.Configurations.{layer_of, stack_of, view, in_layer, with_frames, without_terminated, telling, failed, raised_by, ending}
use Rattle.oz_semantics.specs.Answers.{Act, Passes, Shows, Edit, Creates, Commits, Copies, Injects, TakesIn, Answer, Acts, Edits, RaisesKind, RaisesTerm, Operates, Widens, Rests}
use Rattle.oz_semantics.specs.Spaces.{sight, states_of, answer_in}
use Rattle.oz_semantics.specs.Edits.{starting, committing}
use Rattle.oz_semantics.specs.Statements.{stack_answer}
use Rattle.oz_semantics.specs.Changes.{Change, changed, changed_all}
use Rattle.oz_semantics.specs.Effects.{Effect, Makes, Tells, ShowsText, act_effect}
use Rattle.oz_semantics.specs.Exceptions.{is_failure, raise_term, with_term, unwound}
use Rattle.oz_semantics.specs.Triggers.{triggered}
use Rattle.oz_semantics.specs.Settling.{Turned, runnable, queue_after, settled, failing, top_failed, requeued, term_variable, with_raised, top_ended, without_inconsistent}
use Rattle.oz_semantics.specs.Steps.{went_on, ended_by, uncaught, raised_to, raised, raised_kind, told, after_effect, edit_tells, edited, after_edit, after_answer, without_top, stepped}
use Rattle.oz_semantics.specs.Propagation.{Run, Fails, Narrows, after_run}
use Rattle.oz_semantics.specs.Schedule.{after_run_of}
use Rattle.oz_semantics.specs.declared.configuration.Propagator.{Propagator}
use Rattle.oz_semantics.specs.declared.value.Tell.{Tell}
use Rattle.oz_semantics.specs.declared.configuration.Frame.{Frame}
use Rattle.oz_semantics.specs.declared.configuration.Layer.{Layer}
use Rattle.oz_semantics.specs.declared.configuration.Configuration.{Configuration}
use Rattle.oz_semantics.specs.declared.outcome.RaiseKind.{RaiseKind}
use Rattle.oz_semantics.specs.declared.outcome.RaiseKind.TheVariants.{FailureTell}
use Rattle.oz_semantics.specs.declared.outcome.Stepped.TheVariants.{Moved, TopEnded, Quiescent}
use Rattle.view_laws.specs.Needs.{NoneNeeded}
use Rattle.view_laws.specs.Steps.{IsSound}
use Rattle.view_laws.proofs.NameLaws.{below_itself}
use Rattle.view_laws.proofs.ChangeLaws.{edit_of, changed_by, edit_keeps}
use Rattle.settle_laws.proofs.FitLaws.{FitsIn, AnswerFits, answer_fits}
use Rattle.alone_laws.proofs.OutsideLaws.{Stay, child_below, change_stays, end_stays, creation_stays, copy_stays, taken_stays}
use Rattle.alone_laws.proofs.ShowLaws.{act_shows, shows, state_silent, stack_silent}
use Rattle.alone_laws.proofs.WaitLaws.{live_at}
use Rattle.alone_laws.proofs.RestLaws.{triggered_stays, failures_stay, top_sound}

-- Edits of the spaces in a space

abbrev pub IsChildOf : List ℕ → List ℕ → Type 0
IsChildOf parent child = is_child_of parent child ≡ true

-- what a thread of the space edits is a child of it
abbrev pub EditIsOf : List ℕ → Edit → Type 0
EditIsOf parent (Creates procedure x) = Unit {0}
EditIsOf parent (Commits child i) = IsChildOf parent child
EditIsOf parent (Copies child x) = IsChildOf parent child
EditIsOf parent (Injects child procedure) = IsChildOf parent child
EditIsOf parent (TakesIn child x) = IsChildOf parent child

-- so of what its statement answers
abbrev pub AnswerIsOf : List ℕ → Answer → Type 0
AnswerIsOf parent (Acts act) = Unit {0}
AnswerIsOf parent (Edits edit) = EditIsOf parent edit
AnswerIsOf parent (RaisesKind kind) = Unit {0}
AnswerIsOf parent (RaisesTerm x) = Unit {0}
AnswerIsOf parent (Operates op space x) = Unit {0}
AnswerIsOf parent (Widens ts) = Unit {0}
AnswerIsOf parent (Rests ready) = Unit {0}

fits_is_of : (layers : List Layer) (parent : List ℕ) (edit : Edit) → FitsIn layers parent edit → EditIsOf parent edit
fits_is_of layers parent (Creates procedure x) fits = tt
fits_is_of layers parent (Commits child i) fits = fits.below
fits_is_of layers parent (Copies child x) fits = fits.below
fits_is_of layers parent (Injects child procedure) fits = fits.below
fits_is_of layers parent (TakesIn child x) fits = fits.below

answer_is_of : (layers : List Layer) (parent : List ℕ) (a : Answer) → AnswerFits layers parent a → AnswerIsOf parent a
answer_is_of layers parent (Acts act) fits = tt
answer_is_of layers parent (Edits edit) fits = fits_is_of layers parent edit fits
answer_is_of layers parent (RaisesKind kind) fits = tt
answer_is_of layers parent (RaisesTerm x) fits = tt
answer_is_of layers parent (Operates op space x) fits = tt
answer_is_of layers parent (Widens ts) fits = tt
answer_is_of layers parent (Rests ready) fits = tt

pub step_is_of : (statements : List Statement) (layers : List Layer) (id : Ident) → AnswerIsOf id.space (answer_in statements layers (states_of statements layers) id.space (stack_of layers id))
step_is_of statements layers id =
    answer_is_of layers id.space (answer_in statements layers (states_of statements layers) id.space (stack_of layers id)) (answer_fits statements layers id)

pub edited_stays : (statements : List Statement) (parent : List ℕ) (edit : Edit) (layers : List Layer) → EditIsOf parent edit → Stay parent layers (edited statements parent edit layers)
edited_stays statements parent (Creates procedure x) layers e = creation_stays parent procedure layers
edited_stays statements parent (Commits child i) layers e = change_stays parent child (committing (sight statements layers child) i) layers (child_below parent child e) (λ l. refl)
edited_stays statements parent (Copies child x) layers e = copy_stays parent child layers
edited_stays statements parent (Injects child procedure) layers e = change_stays parent child (starting procedure) layers (child_below parent child e) (λ l. refl)
edited_stays statements parent (TakesIn child x) layers e = taken_stays parent child layers (child_below parent child e)

-- The end of a space keeps its name

pub ended_space : (v : View) (x : Ident) (l : Layer) → (ended_by v x l).space ≡ l.space
ended_space v x l = by (is_failure v x)
  where
    by : (b : Bool) → (if b then failed l else raised_by x l).space ≡ l.space
    by true = refl
    by false = refl

-- What a turn of a space leaves, which began with these layers and this queue, where this thread stepped, if one did: the machine moved
abbrev pub Rested : List Statement → List ℕ → Option Ident → List Layer → Configuration → Turned → Type 0
Rested statements space mover before c (Moved cost, d) = Stay space before d.layers × (d.queue ≡ queue_after (runnable statements d.layers) mover c.queue) × (d.shown ≡ c.shown)
Rested statements space mover before c (TopEnded x cost, d) = ⊥
Rested statements space mover before c (Quiescent, d) = ⊥

module _ (statements : List Statement) (t : List ℕ) (mover : Option Ident) (before : List Layer) (sound : IsSound before) (quiet : NoneNeeded statements before) (there : live_at before t ≡ true)
    (child : is_top t ≡ false) where
  follows_turn : (cost : ℕ) (c : Configuration) → Stay t before c.layers → Rested statements t mover before c (settled statements mover cost c)
  follows_turn cost c n =
      subst (λ (b : Bool). Rested statements t mover before c (if b then top_failed cost c else (Moved cost, requeued statements mover c (triggered statements (without_inconsistent c.layers)))))
      (sym (top_sound statements t before sound quiet there child c.layers n))
      (triggered_stays statements t before sound quiet there (without_inconsistent c.layers) (failures_stay statements t before sound quiet there c.layers n), refl, refl)

-- A run of a propagator
module _ (statements : List Statement) (t : List ℕ) (before : List Layer) (sound : IsSound before) (quiet : NoneNeeded statements before) (there : live_at before t ≡ true) (child : is_top t ≡ false) where
  pub run_rests : (c : Configuration) (l : Layer) (p : Propagator) (run : Run) → l.space ≡ t → Stay t before c.layers → Rested statements t None before c (after_run_of statements l p c run)
  run_rests c l p Fails name n =
      subst (λ (b : Bool). Rested statements t None before c (if b then top_failed 1 c else settled statements None 1 (record c { layers = failing c.layers l.space }))) (sym (ap is_top name ∙ child))
      (follows_turn statements t None before sound quiet there child 1 (record c { layers = failing c.layers l.space })
      (end_stays t l.space failed c.layers (subst (λ u. is_below t u ≡ true) (sym name) (below_itself t)) (λ m. refl) ∙ n))
  run_rests c l p (Narrows ts) name n =
      let f : Layer → Layer = after_run (view c.layers l.space) p ts in
      follows_turn statements t None before sound quiet there child 1 (record c { layers = in_layer l.space f c.layers })
      (change_stays t l.space f c.layers (subst (λ u. is_below t u ≡ true) (sym name) (below_itself t)) (λ m. refl) ∙ n)

module _ (k : Kernel) (id : Ident) (before : List Layer) (sound : IsSound before) (quiet : NoneNeeded k.statements before) (there : live_at before id.space ≡ true) where
  abbrev St : List Layer → Type 0
  St layers = Stay id.space before layers

  pub edit_stays : (f : Layer → Layer) (layers : List Layer) → ((l : Layer) → (f l).space ≡ l.space) → St layers → St (in_layer id.space f layers)
  edit_stays f layers h n = change_stays id.space id.space f layers (below_itself id.space) h ∙ n

  pub changes_stay : (changes : List Change) (layers : List Layer) → St layers → St (changed_all id changes layers)
  changes_stay [] layers n = n
  changes_stay (change ∷ changes) layers n =
      changes_stay changes (changed id layers change) (subst St (sym (changed_by id layers change)) (edit_stays (edit_of id.number change) layers (edit_keeps id.number change).space n))

  module _ (child : is_top id.space ≡ false) where
    abbrev Rs : Configuration → Turned → Type 0
    Rs c turned = Rested k.statements id.space (Some id) before c turned

    follows : (cost : ℕ) (c : Configuration) → St c.layers → Rs c (settled k.statements (Some id) cost c)
    follows cost c n = follows_turn k.statements id.space (Some id) before sound quiet there child cost c n

    went_rests : (cost : ℕ) (layers : List Layer) (c : Configuration) → St layers → Rs c (went_on k.statements id cost layers c)
    went_rests cost layers c n = follows cost (record c { layers = in_layer id.space without_terminated layers }) (edit_stays without_terminated layers (λ l. refl) n)

    -- Exceptions

    uncaught_rests : (x : Ident) (layers : List Layer) (c : Configuration) → St layers → Rs c (uncaught k.statements id x layers c)
    uncaught_rests x layers c n =
        let how : Layer → Layer = ended_by (view layers id.space) x in
        subst
        (λ (b : Bool).
        Rs c (if b
        then top_ended 1 x (without_inconsistent (in_layer id.space (λ l. without_terminated (with_frames id.number (λ frames. []) l)) layers)) c
        else settled k.statements (Some id) 1 (record c { layers = ending id.space how layers })))
        (sym child)
        (follows 1 (record c { layers = ending id.space how layers })
        (end_stays id.space id.space how layers (below_itself id.space) (ended_space (view layers id.space) x) ∙ n))

    raised_to_rests : (x : Ident) (o : Option (List Frame)) (layers : List Layer) (c : Configuration) → St layers → Rs c (raised_to k.statements id x o layers c)
    raised_to_rests x None layers c n = uncaught_rests x layers c n
    raised_to_rests x (Some frames) layers c n =
        went_rests 1 (in_layer id.space (with_frames id.number (λ rest. frames)) layers) c (edit_stays (with_frames id.number (λ rest. frames)) layers (λ l. refl) n)

    raised_rests : (x : Ident) (layers : List Layer) (c : Configuration) → St layers → Rs c (raised k.statements id x layers c)
    raised_rests x layers c n = raised_to_rests x (unwound x (stack_of layers id)) layers c n

    kind_rests : (kind : RaiseKind) (layers : List Layer) (c : Configuration) → St layers → Rs c (raised_kind k.statements id kind layers c)
    kind_rests kind layers c n =
        raised_rests (term_variable layers id.space) (with_raised kind id.space layers) c (edit_stays (with_term (raise_term kind)) layers (λ l. refl) n)

    -- Acts and edits

    told_rests : (ts : List Tell) (change : List Layer → List Layer) (layers : List Layer) (c : Configuration) → St layers → (St (in_layer id.space (telling ts) layers) → St (change (in_layer id.space (telling ts) layers)))
        → Rs c (told k.statements id ts change layers c)
    told_rests ts change layers c n stays = by (is_consistent (view layers id.space ++ ts))
      where
        by : (b : Bool) → Rs c (if b then went_on k.statements id 1 (change (in_layer id.space (telling ts) layers)) c else raised_kind k.statements id FailureTell layers c)
        by true = went_rests 1 (change (in_layer id.space (telling ts) layers)) c (stays (edit_stays (telling ts) layers (λ l. refl) n))
        by false = kind_rests FailureTell layers c n

    effect_rests : (layers : List Layer) (c : Configuration) (act : Act) → act_shows act ≡ false → St layers → Rs c (after_effect k id layers c (act_effect (layer_of layers id.space) act))
    effect_rests layers c act silent n = by (act_effect (layer_of layers id.space) act) (no_text act silent)
      where
        shows_text : Effect → Bool
        shows_text (ShowsText x) = true
        shows_text (Makes changes) = false
        shows_text (Tells ts changes) = false

        no_text : (act : Act) → act_shows act ≡ false → shows_text (act_effect (layer_of layers id.space) act) ≡ false
        no_text (Shows x) e = absurd (false≢true (sym e))
        no_text Passes e = refl
        no_text a e = refl

        by : (effect : Effect) → shows_text effect ≡ false → Rs c (after_effect k id layers c effect)
        by (Makes changes) e = went_rests 1 (changed_all id changes layers) c (changes_stay changes layers n)
        by (Tells ts changes) e = told_rests ts (changed_all id changes) layers c n (changes_stay changes (in_layer id.space (telling ts) layers))
        by (ShowsText x) e = absurd (false≢true (sym e))

    edit_rests : (edit : Edit) (layers : List Layer) (c : Configuration) → EditIsOf id.space edit → St layers → Rs c (after_edit k.statements id edit layers c)
    edit_rests edit layers c own n =
        let ts : List Tell = edit_tells layers (layer_of layers id.space) edit in
        told_rests ts (edited k.statements id.space edit) layers c n (λ m. edited_stays k.statements id.space edit (in_layer id.space (telling ts) layers) own ∙ m)

    answer_rests : (layers : List Layer) (c : Configuration) (a : Answer) → AnswerIsOf id.space a → shows a ≡ false → St layers → St c.layers → Rs c (after_answer k id layers c a)
    answer_rests layers c (Acts act) own silent n m = effect_rests layers c act silent n
    answer_rests layers c (Edits edit) own silent n m = edit_rests edit layers c own n
    answer_rests layers c (RaisesKind kind) own silent n m = kind_rests kind layers c n
    answer_rests layers c (RaisesTerm x) own silent n m = raised_rests x layers c n
    answer_rests layers c (Operates op space x) own silent n m = follows 1 c m
    answer_rests layers c (Widens ts) own silent n m = told_rests ts (λ ls. ls) c.layers c m (λ h. h)
    answer_rests layers c (Rests ready) own silent n m = follows 1 c m

    pub step_rests : (c : Configuration) → St c.layers → Rs c (stepped k id c)
    step_rests c n =
        let s = sight k.statements c.layers id.space in
        let frames = stack_of c.layers id in
        answer_rests (without_top id c.layers) c (answer_in k.statements c.layers (states_of k.statements c.layers) id.space frames) (step_is_of k.statements c.layers id)
        (state_silent c.layers s (states_of k.statements c.layers) (stack_answer s frames) (stack_silent s child frames))
        (edit_stays (with_frames id.number (λ frames. drop 1 frames)) c.layers (λ l. refl) n) n
