-- What follows a step that told nothing.
use Rattle.std.proofs.Common.{Contains, arith, ◌≡◌, ℕ, Bool, true, false, ◌&&◌, ◌||◌, cond, if◌then◌else◌, List, [], ◌∷◌, ◌++◌, refl, sym, ap, subst, ◌∙◌, Option, Some, None, map, filter, drop, unwrap_or}
use Rattle.std.specs.Prelude.{IfSome, option_to_list}
use Rattle.std.specs.List.{find, list_any}
use Rattle.std.proofs.lemmas.List.Folds.{list_any-append}
use Rattle.std.proofs.lemmas.Bool.{false≢true}
use Rattle.oz_base.specs.Lists.{first, list_eq, holds_of}
use Rattle.oz_base.specs.Names.{ident_eq}
use Rattle.oz_base.specs.declared.names.Ident.{Ident}
use Rattle.oz_language.specs.declared.kernel.Statement.{Statement}
use Rattle.oz_semantics.specs.Names.{named}
use Rattle.oz_semantics.specs.Configurations.{is_of, layer_at, layer_of, thread_at, frames_in, is_open, in_layer, with_frames, without_terminated, new_layer}
use Rattle.oz_semantics.specs.Sights.{Sight, can_step}
use Rattle.oz_semantics.specs.Statements.{stack_answer}
use Rattle.oz_semantics.specs.Readiness.{answer_ready}
use Rattle.oz_semantics.specs.Spaces.{sight, states_of, thread_ready}
use Rattle.oz_semantics.specs.Changes.{Change, Pushes, Spawns, Holds, changed_all}
use Rattle.oz_semantics.specs.Answers.{Act, Passes, GoesOn, Declares, Starts, GivesValue, GivesTerm, GivesVariable, MakesProcedure, MakesName, MakesCell, Reads, Writes, Exchanges, MakesPort, Sends, Delays, Confines, Posts, Shows}
use Rattle.oz_semantics.specs.Effects.{Makes, declared_changes, act_effect}
use Rattle.oz_acts.specs.Doings.{IsDone, is_quiet, started_by}
use Rattle.oz_semantics.specs.Settling.{Turned, is_among, mover_in, queue_after, runnable_in, runnable}
use Rattle.oz_semantics.specs.Steps.{went_on, without_top}
use Rattle.oz_semantics.specs.declared.configuration.Frame.{Frame}
use Rattle.oz_semantics.specs.declared.configuration.Thread.{Thread}
use Rattle.oz_semantics.specs.declared.configuration.Layer.{Layer}
use Rattle.oz_semantics.specs.declared.configuration.Configuration.{Configuration}
use Rattle.oz_semantics.specs.declared.outcome.Stepped.{Stepped}
use Rattle.oz_semantics.specs.declared.outcome.Stepped.TheVariants.{Moved, TopEnded, Quiescent}
use Rattle.oz_language.specs.declared.kernel.Kernel.{Kernel}
use Rattle.oz_semantics.specs.Schedule.{turn}
use Rattle.oz_machine.proofs.TurnLaws as turns
use Rattle.turn_laws.proofs.KeptLaws.{kept_turn}
use Rattle.oz_machine.specs.Turns.{HasNotEnded, IsTurn}
use Rattle.oz_base.specs.ListLaws.{list_eq-equivalence}
use Rattle.oz_laws.proofs.SameLaws.{ident_eq-refl}
use Rattle.view_laws.specs.Queues.{AreNew}
use Rattle.view_laws.specs.Needs.{NoneNeeded}
use Rattle.view_laws.specs.Spaceless.{has_spaces}
use Rattle.view_laws.proofs.SpacelessLaws.{spaceless_ready, quiet_spaceless}
use Rattle.oz_semantics.specs.declared.configuration.Status.{Status}
use Rattle.view_laws.specs.Steps.{MadeOf}
use Rattle.view_laws.proofs.NumberLaws.{step_new}
use Rattle.view_laws.proofs.QueueLaws.{queue_exact}
use Rattle.view_laws.proofs.QuietLaws.{quiet_queue}
use Rattle.view_laws.proofs.StepLaws.{changes_made, stack_made}
use Rattle.turn_laws.specs.Orderly.{AreOrderly}
use Rattle.turn_laws.specs.Kept.{IsKept, IsThere}
use Rattle.turn_laws.proofs.OrderlyLaws.{changes_orderly, stack_orderly}
use Rattle.turn_laws.proofs.HeadLaws.{mover_alone, kept_layers, kept_head, head_numbered, kept_changes, kept_stack}
use Rattle.unneeded_laws.specs.Unneeded.{adds_trigger}
use Rattle.quiet_laws.specs.Unknown.{given_by}
use Rattle.oz_machine.specs.Quiet.{top_steps, able_in, able_of, delays, gives_out, IsHead, news_of, names_in}
use Rattle.oz_acts.proofs.PlaceLaws.{layer_of_name}

-- What the first statement of a thread can do

pub holds_frames : (statements : List Statement) (layers : List Layer) (space : List ℕ) (o : Option Thread) → has_spaces layers ≡ false
    → holds_of (λ (t : Thread). can_step (thread_ready statements layers space t)) o ≡ can_step (answer_ready (stack_answer (sight statements layers space) (frames_in o)))
holds_frames statements layers space None none = refl
holds_frames statements layers space (Some t) none = ap can_step (spaceless_ready statements layers (states_of statements layers) space t none)

-- in an open space this alone tells whether the thread is among those that can step
able_alone : (statements : List Statement) (layers : List Layer) (id : Ident) → has_spaces layers ≡ false → AreOrderly layers → is_open (layer_of layers id.space).status ≡ true
    → is_among (runnable statements layers) id ≡ top_steps statements layers id
able_alone statements layers id none good opened =
    mover_alone statements layers id good
    ∙ ap (λ (b : Bool). b && holds_of (λ (t : Thread). can_step (thread_ready statements layers id.space t)) (thread_at (layer_of layers id.space).threads id.number)) opened
    ∙ holds_frames statements layers id.space (thread_at (layer_of layers id.space).threads id.number) none

pub mover_joins : (statements : List Statement) (layers : List Layer) (id : Ident) → has_spaces layers ≡ false → AreOrderly layers → is_open (layer_of layers id.space).status ≡ true
    → mover_in (Some id) (runnable statements layers) ≡ able_in statements layers id
mover_joins statements layers id none good opened = ap (λ (b : Bool). if b then id ∷ [] else []) (able_alone statements layers id none good opened)

-- a thread without statements can do nothing
pub empty_steps : (s : Sight) (frames : List Frame) → None ≡ first frames → false ≡ can_step (answer_ready (stack_answer s frames))
empty_steps s [] e = refl
empty_steps s (frame ∷ frames) e = absurd (cc)

-- nor can one of a space that is not there
pub nowhere_steps : (statements : List Statement) (layers : List Layer) (id : Ident) → layer_at layers id.space ≡ None → false ≡ top_steps statements layers id
nowhere_steps statements layers id e =
    sym (ap (λ (o : Option Layer). can_step (answer_ready (stack_answer (sight statements layers id.space) (frames_in (thread_at (unwrap_or o (new_layer id.space)).threads id.number))))) e)

-- The layer that changed

pub edited_at : (space : List ℕ) (edit : Layer → Layer) (before : Layer) (layers : List Layer) → layer_at layers space ≡ Some before → is_of space (edit before) ≡ true
    → layer_at (in_layer space edit layers) space ≡ Some (edit before)
edited_at space edit before [] e same = absurd (cc)
edited_at space edit before (l ∷ ls) e same = by (is_of space l) refl e (λ rest. edited_at space edit before ls rest same)
  where
    by : (b : Bool) → is_of space l ≡ b → cond b (Some l) (find (is_of space) ls) ≡ Some before
        → (find (is_of space) ls ≡ Some before → find (is_of space) (in_layer space edit ls) ≡ Some (edit before))
        → find (is_of space) (cond b (edit l ∷ ls) (l ∷ in_layer space edit ls)) ≡ Some (edit before)
    by true t rest more =
        let is : l ≡ before = cc in
        rw is (ap (λ (b : Bool). cond b (Some (edit before)) (find (is_of space) ls)) same)
    by false t rest more = ap (λ (b : Bool). cond b (Some l) (find (is_of space) (in_layer space edit ls))) t ∙ more rest

-- the layer of the thread that a statement was taken off
pub popped_layer : (id : Ident) (layers : List Layer) → layer_at layers id.space ≡ Some (layer_of layers id.space)
    → layer_of (without_top id layers) id.space ≡ with_frames id.number (λ frames. drop 1 frames) (layer_of layers id.space)
popped_layer id layers at =
    let pops : Layer → Layer = with_frames id.number (λ (frames : List Frame). drop 1 frames) in
    ap (λ (o : Option Layer). unwrap_or o (new_layer id.space))
    (edited_at id.space pops (layer_of layers id.space) layers at (subst (λ s. list_eq s id.space ≡ true) (sym (layer_of_name layers id.space)) (list_eq-equivalence.refl id.space)))

-- what a layer gives out next does not depend on the stacks of its threads
pub popped_next : (id : Ident) (layers : List Layer) → layer_at layers id.space ≡ Some (layer_of layers id.space)
    → (layer_of (without_top id layers) id.space).next ≡ (layer_of layers id.space).next
popped_next id layers at = ap (λ (l : Layer). l.next) (popped_layer id layers at)

-- it is as open as before
pub made_open : (id : Ident) (layers result : List Layer) (before : Layer) (news : List Thread) (made : MadeOf id layers result before news) → layer_at layers id.space ≡ Some before → is_of id.space before ≡ true
    → is_open before.status ≡ true → is_open (layer_of result id.space).status ≡ true
made_open id layers result before news made at same opened =
    let after = made.after in
    let own : is_of id.space after ≡ true = ap (λ s. list_eq s id.space) made.steps.space ∙ same in
    let found : layer_at result id.space ≡ Some after = ap (λ ls. layer_at ls id.space) made.left ∙ edited_at id.space (λ l. after) before layers at own in
    ap (λ (o : Option Layer). is_open (unwrap_or o (new_layer id.space)).status) found ∙ ap is_open made.steps.status ∙ opened

-- New threads

-- either it stands there or none does
pub alone_among : (b c : Bool) (n m : Ident) → m ≡ n → ident_eq n n ≡ true → (if b then (if c then m ∷ [] else []) else []) ≡ (if is_among (if b then (if c then m ∷ [] else []) else []) n then n ∷ [] else [])
alone_among true true n m e same =
    ap (λ (i : Ident). i ∷ []) e ∙ sym (ap (λ (d : Bool). if d || false then n ∷ [] else []) (ap (ident_eq n) e ∙ same))
alone_among true false n m e same = refl
alone_among false c n m e same = refl

-- a list of one
pub alone_in : (b : Bool) (p : Thread → Bool) (space : List ℕ) (t : Thread)
    → (if b then map (λ (u : Thread). named space u.number) (filter p (t ∷ [])) else []) ≡ (if b then (if p t then named space t.number ∷ [] else []) else [])
alone_in false p space t = refl
alone_in true p space t = by (p t) refl
  where
    by : (c : Bool) → p t ≡ c → map (λ (u : Thread). named space u.number) (filter p (t ∷ [])) ≡ (if p t then named space t.number ∷ [] else [])
    by true e = rw e refl
    by false e = rw e refl

pub none_open : (b : Bool) → ◌≡◌ {A = List Ident} (if b then [] else []) []
none_open true = refl
none_open false = refl

-- the threads of these names
pub none_named : (space : List ℕ) (ts : List Thread) → names_in space ts ≡ [] → ts ≡ []
none_named space [] e = refl
none_named space (t ∷ ts) e = absurd (cc)

pub one_named : (space : List ℕ) (ts : List Thread) (n : Ident) → names_in space ts ≡ n ∷ [] → (t : Thread) × (ts ≡ t ∷ []) × (named space t.number ≡ n)
one_named space [] n e = absurd (cc)
one_named space (t ∷ []) n e = (t, refl, (cc))
one_named space (t ∷ u ∷ ts) n e = absurd (cc)

-- the name, the status and the threads of a layer decide which of its threads can step
same_runnable : (statements : List Statement) (layers : List Layer) (a b : Layer) → a.space ≡ b.space → a.status ≡ b.status → a.threads ≡ b.threads → runnable_in statements layers a ≡ runnable_in statements layers b
same_runnable statements layers a b space status threads =
    ap (λ (k : Status). if is_open k then map (λ (t : Thread). named a.space t.number) (filter (λ t. can_step (thread_ready statements layers a.space t)) a.threads) else []) status
    ∙ ap (λ s. if is_open b.status then map (λ (t : Thread). named s t.number) (filter (λ t. can_step (thread_ready statements layers s t)) a.threads) else []) space
    ∙ ap (λ ts. if is_open b.status then map (λ (t : Thread). named b.space t.number) (filter (λ t. can_step (thread_ready statements layers b.space t)) ts) else []) threads

pub or_false : (a b : Bool) → (a || b) ≡ false → (a ≡ false) × (b ≡ false)
or_false true b e = absurd (cc)
or_false false b e = (refl, e)

pub among_append : (xs ys : List Ident) (id : Ident) → is_among (xs ++ ys) id ≡ (is_among xs id || is_among ys id)
among_append xs ys id = list_any-append (ident_eq id) xs ys

-- a thread that is not the one that stepped does not join with it
not_mover : (b : Bool) (id n : Ident) → ident_eq n id ≡ false → is_among (if b then id ∷ [] else []) n ≡ false
not_mover true id n e = ap (λ (c : Bool). c || false) e
not_mover false id n e = refl

-- no step without a tell makes a space a value, or ends that
made_spaceless : (id : Ident) (layers result : List Layer) (before : Layer) (news : List Thread) → MadeOf id layers result before news → layer_at layers id.space ≡ Some before → has_spaces result ≡ false → has_spaces layers ≡ false
made_spaceless id layers result before news made at none =
    sym (ap has_spaces made.left ∙ quiet_spaceless (λ l. made.after) layers id.space (λ l e. made.steps.tells ∙ ap (λ (m : Layer). m.tells) (one l e))) ∙ none
  where
    one : (l : Layer) → layer_at layers id.space ≡ Some l → before ≡ l
    one l e = let said : Some before ≡ Some l = sym at ∙ e in cc

module _ (statements : List Statement) (id : Ident) (layers result : List Layer) (queue : List Ident) (shown : List (List ℕ)) (changes : List Change)
    (head : IsHead statements id layers queue shown) (spaceless : has_spaces result ≡ false) (left : result ≡ in_layer id.space without_terminated (changed_all id changes (without_top id layers))) where
  abbrev before : Layer
  before = layer_of layers id.space

  abbrev c : Configuration
  c = record { layers = layers; queue = queue; shown = shown }

  there : IsThere statements layers id
  there = kept_head statements id queue c head

  abbrev news : List Thread
  news = news_of before changes

  made : MadeOf id layers result before news
  made = subst (λ ls. MadeOf id layers ls before news) (sym left) (changes_made id changes layers before there.layer there.thread)

  spaceless_before : has_spaces layers ≡ false
  spaceless_before = made_spaceless id layers result before news made there.layer spaceless

  good : AreOrderly result
  good = subst AreOrderly (sym left) (changes_orderly id changes layers (kept_layers statements (record c { queue = id ∷ queue }) head))

  opened : is_open (layer_of result id.space).status ≡ true
  opened =
      made_open id layers result before news made there.layer (subst (λ s. list_eq s id.space ≡ true) (sym (layer_of_name layers id.space)) (list_eq-equivalence.refl id.space)) there.opened

  abbrev ids : List Ident
  ids = runnable statements result

  abbrev able_news : List Ident
  able_news = runnable_in statements result (record before { threads = news })

  abbrev steps_there : Thread → Bool
  steps_there t = can_step (thread_ready statements result before.space t)

  -- of the queue after the step these are what is neither of the rest nor the thread itself
  queue_is : queue_after ids (Some id) queue ≡ queue ++ mover_in (Some id) ids ++ able_news
  queue_is =
      ap (λ ls. queue_after (runnable statements ls) (Some id) queue) made.left
      ∙ quiet_queue statements layers id queue before made.after news spaceless_before there.layer made.steps head.exact head.once new_ones
      ∙ ap (λ ls. queue ++ mover_in (Some id) (runnable statements ls) ++ runnable_in statements ls (record made.after { threads = news })) (sym made.left)
      ∙ ap (λ xs. queue ++ mover_in (Some id) ids ++ xs) (same_runnable statements result (record made.after { threads = news }) (record before { threads = news }) made.steps.space made.steps.status refl)
    where
      new_ones : AreNew id.space news (id ∷ queue)
      new_ones = step_new statements changes layers id.space (id ∷ queue) before head.tree.ordered there.layer (head_numbered statements id queue c head) head.exact

  -- one new thread joins exactly where it can step
  one_joins : (n : Ident) (t : Thread) → news ≡ t ∷ [] → named id.space t.number ≡ n → able_news ≡ able_in statements result n
  one_joins n t is e =
      let mine : named before.space t.number ≡ n = ap (λ s. named s t.number) (layer_of_name layers id.space) ∙ e in
      let single : able_news ≡ (if is_open before.status then (if steps_there t then named before.space t.number ∷ [] else []) else [])
      = ap (λ ts. runnable_in statements result (record before { threads = ts })) is ∙ alone_in (is_open before.status) steps_there before.space t in
      let alone : able_news ≡ (if is_among able_news n then n ∷ [] else [])
      = single ∙ alone_among (is_open before.status) (steps_there t) n (named before.space t.number) mine (ident_eq-refl n)
      ∙ ap (λ xs. if is_among xs n then n ∷ [] else []) (sym single) in
      let new : is_among (id ∷ queue) n ≡ false
      = subst (λ m. is_among (id ∷ queue) m ≡ false) e
      (step_new statements changes layers id.space (id ∷ queue) before head.tree.ordered there.layer (head_numbered statements id queue c head) head.exact t (subst (λ ts. Contains ts t) (sym is) (0, omega arith, refl))) in
      let apart = or_false (ident_eq n id) (is_among queue n) new in
      let counted : is_among ids n ≡ is_among able_news n
      = sym (queue_exact ids (Some id) queue n) ∙ ap (λ q. is_among q n) queue_is ∙ among_append (queue ++ mover_in (Some id) ids) able_news n
      ∙ ap (λ b. b || is_among able_news n)
      (among_append queue (mover_in (Some id) ids) n ∙ ap (λ b. b || is_among (mover_in (Some id) ids) n) apart.1 ∙ not_mover (is_among ids id) id n apart.0) in
      let as_open : is_open (layer_of result n.space).status ≡ true = subst (λ s. is_open (layer_of result s).status ≡ true) (ap (λ (i : Ident). i.space) e) opened in
      alone ∙ ap (λ (b : Bool). if b then n ∷ [] else []) (sym counted ∙ able_alone statements result n spaceless good as_open)

  news_join : (started : Option Ident) → names_in id.space news ≡ option_to_list started → able_news ≡ able_of statements result started
  news_join None e = ap (λ ts. runnable_in statements result (record before { threads = ts })) (none_named id.space news e) ∙ none_open (is_open before.status)
  news_join (Some n) e = let one = one_named id.space news n e in one_joins n one.0 one.1 one.2

-- a step that made changes
pub quiet_turn : (statements : List Statement) (id : Ident) (layers old new : List Layer) (queue after : List Ident) (shown : List (List ℕ)) (changes : List Change) (started : Option Ident) (cost : ℕ)
    → IsHead statements id layers queue shown → old ≡ changed_all id changes (without_top id layers) → names_in id.space (news_of (layer_of layers id.space) changes) ≡ option_to_list started
    → new ≡ in_layer id.space without_terminated old → NoneNeeded statements new → has_spaces new ≡ false → after ≡ (queue ++ able_in statements new id) ++ able_of statements new started
    → ◌≡◌ {A = Turned} (went_on statements id cost old (record { layers = old; queue = queue; shown = shown })) (Moved cost, record { layers = new; queue = after; shown = shown })
quiet_turn statements id layers old new queue after shown changes started cost head is names left none spaceless joined =
    let result : new ≡ in_layer id.space without_terminated (changed_all id changes (without_top id layers)) = left ∙ ap (in_layer id.space without_terminated) is in
    let c : Configuration = record { layers = layers; queue = queue; shown = shown } in
    let same : queue ++ mover_in (Some id) (runnable statements new) ++ runnable_in statements new (record (layer_of layers id.space) { threads = news_of (layer_of layers id.space) changes }) ≡ after
    = ap (λ xs. queue ++ xs ++ runnable_in statements new (record (layer_of layers id.space) { threads = news_of (layer_of layers id.space) changes }))
    (mover_joins statements new id spaceless (good statements id layers new queue shown changes head spaceless result) (opened statements id layers new queue shown changes head spaceless result))
    ∙ ap (λ xs. queue ++ able_in statements new id ++ xs) (news_join statements id layers new queue shown changes head spaceless result started names)
    ∙ sym joined in
    ap (λ ls. went_on statements id cost ls (record c { layers = ls })) is
    ∙ kept_changes statements c id queue changes cost head (spaceless_before statements id layers new queue shown changes head spaceless result) new result none
    ∙ ap (λ q. (Moved cost, record c { layers = new; queue = q })) same

-- and one where it goes on with another stack
pub unwound_turn : (statements : List Statement) (id : Ident) (layers old new : List Layer) (queue after : List Ident) (shown : List (List ℕ)) (frames : List Frame) (cost : ℕ)
    → IsHead statements id layers queue shown → old ≡ in_layer id.space (with_frames id.number (λ rest. frames)) (without_top id layers)
    → new ≡ in_layer id.space without_terminated old → NoneNeeded statements new → has_spaces new ≡ false → after ≡ queue ++ able_in statements new id
    → ◌≡◌ {A = Turned} (went_on statements id cost old (record { layers = old; queue = queue; shown = shown })) (Moved cost, record { layers = new; queue = after; shown = shown })
unwound_turn statements id layers old new queue after shown frames cost head is left none spaceless joined =
    let result : new ≡ in_layer id.space without_terminated (in_layer id.space (with_frames id.number (λ rest. frames)) (without_top id layers)) = left ∙ ap (in_layer id.space without_terminated) is in
    let c : Configuration = record { layers = layers; queue = queue; shown = shown } in
    let there = kept_head statements id queue c head in
    let before = layer_of layers id.space in
    let made : MadeOf id layers new before [] = subst (λ ls. MadeOf id layers ls before []) (sym result) (stack_made id frames layers before there.layer there.thread) in
    let good : AreOrderly new = subst AreOrderly (sym result) (stack_orderly id frames layers (kept_layers statements (record c { queue = id ∷ queue }) head)) in
    let opened = made_open id layers new before [] made there.layer (subst (λ s. list_eq s id.space ≡ true) (sym (layer_of_name layers id.space)) (list_eq-equivalence.refl id.space)) there.opened in
    let same : queue ++ mover_in (Some id) (runnable statements new) ≡ after = ap (λ xs. queue ++ xs) (mover_joins statements new id spaceless good opened) ∙ sym joined in
    ap (λ ls. went_on statements id cost ls (record c { layers = ls })) is
    ∙ kept_stack statements c id queue frames cost head (made_spaceless id layers new before [] made there.layer spaceless) new result none
    ∙ ap (λ q. (Moved cost, record c { layers = new; queue = q })) same

-- Quiet acts

-- the changes that a quiet act makes, none of which adds a by-need computation, and the thread that it starts
pub record MakesQuietly (id : Ident) (l : Layer) (act : Act) (old new : List Layer) : Type 0 where
  pub changes : List Change
  pub effect : act_effect l act ≡ Makes changes
  pub made : new ≡ changed_all id changes (without_top id old)
  pub started : names_in id.space (news_of l changes) ≡ started_by id.space l act
  pub adds : list_any adds_trigger changes ≡ false
  pub gives : gives_out act ≡ false → given_by changes ≡ 0

pub quiet_done : (id : Ident) (l : Layer) (act : Act) (old new : List Layer) → is_quiet act ≡ true → delays act ≡ false → IsDone id (act_effect l act) old new true → MakesQuietly id l act old new
quiet_done id l Passes old new e still h = record { changes = []; effect = refl; made = h; started = refl; adds = refl; gives = λ k. refl }
quiet_done id l (GoesOn frames) old new e still h = record { changes = Pushes frames ∷ []; effect = refl; made = h; started = refl; adds = refl; gives = λ k. refl }
quiet_done id l (Declares environment names body) old new e still h = record { changes = declared_changes l environment names body; effect = refl; made = h; started = refl; adds = refl; gives = λ k. absurd (false≢true (sym k)) }
quiet_done id l (Starts frames) old new e still h = record { changes = Spawns frames ∷ []; effect = refl; made = h; started = refl; adds = refl; gives = λ k. refl }
quiet_done id l (GivesValue x v) old new e still h = absurd (false≢true e)
quiet_done id l (GivesTerm x t) old new e still h = absurd (false≢true e)
quiet_done id l (GivesVariable x y) old new e still h = absurd (false≢true e)
quiet_done id l (MakesProcedure x parameters body environment) old new e still h = absurd (false≢true e)
quiet_done id l (MakesName x) old new e still h = absurd (false≢true e)
quiet_done id l (MakesCell x content) old new e still h = absurd (false≢true e)
quiet_done id l (Reads n x) old new e still h = absurd (false≢true e)
quiet_done id l (Writes n content) old new e still h = record { changes = Holds n content ∷ []; effect = refl; made = h; started = refl; adds = refl; gives = λ k. refl }
quiet_done id l (Exchanges n x content) old new e still h = absurd (false≢true e)
quiet_done id l (MakesPort x stream) old new e still h = absurd (false≢true e)
quiet_done id l (Sends n item) old new e still h = absurd (false≢true e)
quiet_done id l (Confines ts) old new e still h = absurd (false≢true e)
quiet_done id l (Posts ts relation xs) old new e still h = absurd (false≢true e)
quiet_done id l (Delays procedure x) old new e still h = absurd (false≢true (sym still))
quiet_done id l (Shows x) old new e still h = absurd (false≢true e)

-- What is kept from turn to turn

pub kept_turned : (k : Kernel) (c d : Configuration) (fuel : ℕ) (o : Option Stepped) → IsKept k.statements c → IsTurn (turn k c) fuel c d o → IfSome o HasNotEnded → IsKept k.statements d
kept_turned k c d fuel None kept t h = subst (IsKept k.statements) (sym t.1) kept
kept_turned k c d fuel (Some (Moved cost)) kept t h = kept_turn k c cost d kept t
kept_turned k c d fuel (Some (TopEnded x cost)) kept t h = absurd h
kept_turned k c d fuel (Some Quiescent) kept t h = subst (IsKept k.statements) (sym (turns.quiet_turn k c d t)) kept
