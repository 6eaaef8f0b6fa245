-- What follows a step that tells nothing.
use Rattle.std.proofs.Common.{◌≡◌, inl, inr, ℕ, Bool, true, false, not, ◌&&◌, if◌then◌else◌, List, [], ◌∷◌, ◌++◌, refl, sym, ap, ap₂, subst, ◌∙◌, Some, is_some, filter, map}
use Rattle.std.specs.List.{fold}
use Rattle.std.proofs.lemmas.List.{append-nil}
use Rattle.oz_base.specs.declared.names.Ident.{Ident}
use Rattle.oz_language.specs.declared.kernel.Statement.{Statement}
use Rattle.oz_semantics.specs.Names.{is_top, named}
use Rattle.oz_semantics.specs.Store.{View, is_consistent}
use Rattle.oz_semantics.specs.Configurations.{is_of, layer_at, thread_at, is_open, view, in_layer}
use Rattle.oz_semantics.specs.Sights.{can_step}
use Rattle.oz_semantics.specs.Spaces.{thread_ready}
use Rattle.oz_semantics.specs.Triggers.{triggered}
use Rattle.oz_semantics.specs.Settling.{Turned, may_fail, is_inconsistent, failing, without_inconsistent, top_is_inconsistent, mover_in, queue_after, requeued, runnable_in, runnable, settled, top_failed}
use Rattle.oz_semantics.specs.declared.configuration.Thread.{Thread}
use Rattle.oz_semantics.specs.declared.configuration.Status.{Status}
use Rattle.oz_semantics.specs.declared.configuration.Layer.{Layer}
use Rattle.oz_semantics.specs.declared.configuration.Configuration.{Configuration}
use Rattle.oz_semantics.specs.declared.outcome.Stepped.TheVariants.{Moved}
use Rattle.oz_laws.proofs.SameLaws.{In, In-from_contains, contains-from_In, and-right}
use Rattle.view_laws.specs.Trees.{is_ascending, names_of}
use Rattle.view_laws.specs.Spaceless.{has_spaces}
use Rattle.view_laws.specs.Needs.{NoneNeeded}
use Rattle.view_laws.specs.Queues.{is_once, IsExact, StepsTo, AreNew}
use Rattle.view_laws.specs.Steps.{spawned_from, MadeOf, IsNumbered, IsSound, QuietSound, QuietSettles, ChangesSettle, StackSettle}
use Rattle.view_laws.proofs.Members.{decide, not_both, some_of}
use Rattle.view_laws.proofs.ListLaws.{among_in, in_among, filter_none, in_edit, found_in}
use Rattle.view_laws.proofs.SightLaws.{quiet_unseen}
use Rattle.view_laws.proofs.QuietLaws.{quiet_queue}
use Rattle.view_laws.proofs.StepLaws.{changes_made, stack_made}
use Rattle.view_laws.proofs.NeedLaws.{nothing_fires}
use Rattle.view_laws.proofs.NumberLaws.{own_layer, first_numbered, step_new}
use Rattle.oz_semantics.specs.Configurations.{with_frames, without_terminated}
use Rattle.oz_semantics.specs.Changes.{changed_all}
use Rattle.oz_semantics.specs.Steps.{without_top, went_on}

-- What follows a step

keep_all : (layers : List Layer) → ((l : Layer) → In l layers → is_inconsistent layers l ≡ false) → without_inconsistent layers ≡ layers
keep_all layers h = ap (λ (ls : List Layer). fold failing layers (map (λ (l : Layer). l.space) ls)) (filter_none (is_inconsistent layers) layers h)

top_kept : (layers : List Layer) → ((l : Layer) → In l layers → is_inconsistent layers l ≡ false) → top_is_inconsistent layers ≡ false
top_kept layers h = elim (decide (top_is_inconsistent layers)) [
  | inl e ↦ (let l = some_of (λ (l : Layer). is_top l.space && is_inconsistent layers l) layers e in absurd (not_both _ (and-right _ _ l.2) (h l.0 (In-from_contains layers l.0 l.1))))
  | inr e ↦ e
]

seen_later : (layers : List Layer) (id : Ident) (before after : Layer) (news : List Thread) → layer_at layers id.space ≡ Some before → StepsTo id.number before after news → (other : List ℕ)
    → view (in_layer id.space (λ l. after) layers) other ≡ view layers other
seen_later layers id before after news at steps other =
    quiet_unseen (λ l. after) layers id.space other (λ l e. steps.space ∙ ap (λ (m : Layer). m.space) (one l e)) (λ l e. steps.tells ∙ ap (λ (m : Layer). m.tells) (one l e))
  where
    one : (l : Layer) → layer_at layers id.space ≡ Some l → before ≡ l
    one l e = let k : before ≡ l = cc in k

module _ (layers : List Layer) (id : Ident) (before after : Layer) (news : List Thread) (at : layer_at layers id.space ≡ Some before) (steps : StepsTo id.number before after news)
    (sound : IsSound layers) where
  abbrev later : List Layer
  later = in_layer id.space (λ l. after) layers

  same_test : (l : Layer) → is_inconsistent later l ≡ is_inconsistent layers l
  same_test l = ap (λ (v : View). may_fail l.status && not (is_consistent v)) (seen_later layers id before after news at steps l.space)

  sound_after : (l : Layer) → In l later → is_inconsistent later l ≡ false
  sound_after l h = same_test l ∙ elim (in_edit (is_of id.space) (λ m. after) layers l h) [
    | inl k ↦ sound l (contains-from_In layers l k)
    | inr r ↦ (let there = (found_in (is_of id.space) (λ (m : Layer). m) layers r.0 r.1).0 in
        let same : before ≡ r.0 = cc in
        ap (λ (m : Layer). is_inconsistent layers m) r.2
        ∙ ap₂ (λ (s : Status) (p : List ℕ). may_fail s && not (is_consistent (view layers p))) (steps.status ∙ ap (λ (m : Layer). m.status) same) (steps.space ∙ ap (λ (m : Layer). m.space) same)
        ∙ sound r.0 (contains-from_In layers r.0 there))
  ]

pub quiet_sound : QuietSound
quiet_sound layers id before after news at steps sound l h = sound_after layers id before after news at steps sound l (In-from_contains (in_layer id.space (λ m. after) layers) l h)

pub quiet_settles : QuietSettles
quiet_settles statements c id queue before after news cost spaceless at steps exact once fresh sound layers e none =
    let left : Configuration = record c { layers = layers; queue = queue } in
    let kept : (l : Layer) → In l layers → is_inconsistent layers l ≡ false =
    subst (λ ls. (l : Layer) → In l ls → is_inconsistent ls l ≡ false) (sym e) (sound_after c.layers id before after news at steps sound) in
    let queued : queue_after (runnable statements layers) (Some id) queue ≡ queue ++ mover_in (Some id) (runnable statements layers) ++ runnable_in statements layers (record after { threads = news }) =
    subst (λ ls. queue_after (runnable statements ls) (Some id) queue ≡ queue ++ mover_in (Some id) (runnable statements ls) ++ runnable_in statements ls (record after { threads = news })) (sym e)
    (quiet_queue statements c.layers id queue before after news spaceless at steps exact once fresh) in
    ap (λ (b : Bool). if b then top_failed cost left else (Moved cost, requeued statements (Some id) left (triggered statements (without_inconsistent layers)))) (top_kept layers kept)
    ∙ ap (λ (ls : List Layer). (Moved cost, requeued statements (Some id) left (triggered statements ls))) (keep_all layers kept)
    ∙ ap (λ (ls : List Layer). (Moved cost, requeued statements (Some id) left ls)) (nothing_fires statements layers none)
    ∙ ap (λ (q : List Ident). (Moved cost, record c { layers = layers; queue = q })) queued

-- A thread at the head of the queue stands in its layer

module _ (statements : List Statement) (c : Configuration) (id : Ident) (queue : List Ident) (before : Layer) (spaceless : has_spaces c.layers ≡ false) (ascending : is_ascending (names_of c.layers) ≡ true)
    (at : layer_at c.layers id.space ≡ Some before) (numbered : IsNumbered before) (exact : IsExact statements c.layers (id ∷ queue)) (once : is_once (id ∷ queue) ≡ true) (sound : IsSound c.layers) where
  there : is_some (thread_at before.threads id.number) ≡ true
  there =
      let ran : In id (runnable statements c.layers) = among_in (runnable statements c.layers) id (sym (exact id) ∙ in_among (id ∷ queue) id (inl refl)) in
      let s = own_layer statements c.layers id.space before ascending at id refl ran in
      ap is_some (subst (λ n. thread_at before.threads n ≡ Some s.thread) (ap (λ (i : Ident). i.number) s.name) (first_numbered before.threads s.thread numbered.rising s.among))

  -- the layer's name and status are those before
  same_news : (layers : List Layer) (after : Layer) (news : List Thread) → StepsTo id.number before after news
      → runnable_in statements layers (record after { threads = news }) ≡ runnable_in statements layers (record before { threads = news })
  same_news layers after news steps =
      ap₂ (λ (s : Status) (p : List ℕ). if is_open s then map (λ (t : Thread). named p t.number) (filter (λ (t : Thread). can_step (thread_ready statements layers p t)) news) else [])
      steps.status steps.space

  settle_made : (result : List Layer) (news : List Thread) (cost : ℕ) → MadeOf id c.layers result before news → AreNew id.space news (id ∷ queue) → NoneNeeded statements result
      → ◌≡◌ {A = Turned} (settled statements (Some id) cost (record c { layers = result; queue = queue })) (
        Moved cost,
        record c { layers = result; queue = queue ++ mover_in (Some id) (runnable statements result) ++ runnable_in statements result (record before { threads = news }) },
      )
  settle_made result news cost made fresh none =
      quiet_settles statements c id queue before made.after news cost spaceless at made.steps exact once fresh sound result made.left none
      ∙ ap (λ (q : List Ident). (Moved cost, record c { layers = result; queue = queue ++ mover_in (Some id) (runnable statements result) ++ q })) (same_news result made.after news made.steps)

  none_new : AreNew id.space [] (id ∷ queue)
  none_new t h = elim (In-from_contains [] t h) [ ]

  no_news : (layers : List Layer) → runnable_in statements layers (record before { threads = [] }) ≡ []
  no_news layers = by (is_open before.status)
    where
      by : (b : Bool) → (if b then map (λ (t : Thread). named before.space t.number) (filter (λ (t : Thread). can_step (thread_ready statements layers before.space t)) []) else []) ≡ []
      by true = refl
      by false = refl

pub changes_settle : ChangesSettle
changes_settle statements c id queue before changes cost spaceless ascending at numbered exact once sound layers e none =
    let made = changes_made id changes c.layers before at (there statements c id queue before spaceless ascending at numbered exact once sound) in
    subst (λ (ls : List Layer). ◌≡◌ {A = Turned} (went_on statements id cost (changed_all id changes (without_top id c.layers)) (record c { queue = queue })) (
      Moved cost,
      record c { layers = ls; queue = queue ++ mover_in (Some id) (runnable statements ls) ++ runnable_in statements ls (record before { threads = spawned_from before.next.thread changes }) },
    )) (sym e)
    (settle_made statements c id queue before spaceless ascending at numbered exact once sound (in_layer id.space without_terminated (changed_all id changes (without_top id c.layers)))
    (spawned_from before.next.thread changes) cost made (step_new statements changes c.layers id.space (id ∷ queue) before ascending at numbered exact) (subst (NoneNeeded statements) e none))

pub stack_settle : StackSettle
stack_settle statements c id queue before frames cost spaceless ascending at numbered exact once sound layers e none =
    let made = stack_made id frames c.layers before at (there statements c id queue before spaceless ascending at numbered exact once sound) in
    let result : List Layer = in_layer id.space without_terminated (in_layer id.space (with_frames id.number (λ rest. frames)) (without_top id c.layers)) in
    let able : List Ident = mover_in (Some id) (runnable statements result) in
    subst (λ (ls : List Layer). ◌≡◌ {A = Turned} (went_on statements id cost (in_layer id.space (with_frames id.number (λ rest. frames)) (without_top id c.layers)) (record c { queue = queue }))
    (Moved cost, record c { layers = ls; queue = queue ++ mover_in (Some id) (runnable statements ls) })) (sym e)
    (settle_made statements c id queue before spaceless ascending at numbered exact once sound result [] cost made (none_new statements c id queue before spaceless ascending at numbered exact once sound)
    (subst (NoneNeeded statements) e none)
    ∙ ap (λ (q : List Ident). (Moved cost, record c { layers = result; queue = queue ++ able ++ q })) (no_news statements c id queue before spaceless ascending at numbered exact once sound result)
    ∙ ap (λ (q : List Ident). (Moved cost, record c { layers = result; queue = q })) (append-nil (queue ++ able)))
