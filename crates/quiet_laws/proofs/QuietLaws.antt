-- What a step that tells nothing makes of the queue.
use Rattle.std.proofs.Common.{◌≡◌, ◌⊎◌, inl, inr, ℕ, Bool, true, false, not, if◌then◌else◌, List, [], ◌∷◌, ◌++◌, drop, filter, map, refl, sym, ap, ap₂, subst, ◌∙◌, arith, Option, Some}
use Rattle.std.specs.List.{range_with_len}
use Rattle.std.proofs.lemmas.List.{append-nil, map-append}
use Rattle.std.proofs.lemmas.List.Elements.{filter-append}
use Rattle.oz_base.specs.Lists.{list_eq, is_empty}
use Rattle.oz_base.specs.declared.names.Ident.{Ident}
use Rattle.oz_language.specs.declared.kernel.Statement.{Statement}
use Rattle.oz_semantics.specs.Names.{is_properly_below, parent_of, named}
use Rattle.oz_semantics.specs.Configurations.{is_of, layer_at, layer_of, is_numbered, is_open, view, in_layer, in_thread, with_frames, without_terminated}
use Rattle.oz_semantics.specs.Sights.{can_step}
use Rattle.oz_semantics.specs.Spaces.{states_of, thread_ready}
use Rattle.oz_semantics.specs.Changes.{Change, changed_all}
use Rattle.oz_semantics.specs.Settling.{Turned, is_among, mover_in, queue_after, runnable_in, runnable, settled}
use Rattle.oz_semantics.specs.Steps.{without_top}
use Rattle.oz_semantics.specs.declared.configuration.Frame.{Frame}
use Rattle.oz_semantics.specs.declared.configuration.Thread.{Thread}
use Rattle.oz_semantics.specs.declared.configuration.Status.{Status}
use Rattle.oz_semantics.specs.declared.configuration.Layer.{Layer}
use Rattle.oz_semantics.specs.declared.configuration.Configuration.{Configuration}
use Rattle.oz_semantics.specs.declared.outcome.Stepped.TheVariants.{Moved}
use Rattle.oz_laws.proofs.SameLaws.{In, In-from_contains, contains-from_In, In-flat, eq-true}
use Rattle.view_laws.specs.Needs.{NoneNeeded}
use Rattle.view_laws.specs.Queues.{StepsTo, AreNew}
use Rattle.view_laws.specs.Steps.{spawned_from, MadeOf, IsSound}
use Rattle.view_laws.proofs.Members.{In-left, In-right, In-cases, decide, not_both}
use Rattle.view_laws.proofs.ListLaws.{among_in, in_among, filter_in, filter_all, filter_none, in_map, in_edit, edited_in, found_in}
use Rattle.view_laws.proofs.NameLaws.{names_equal, properly}
use Rattle.view_laws.proofs.SightLaws.{space_of, quiet_unseen}
use Rattle.view_laws.proofs.QueueLaws.{mover_able, able_mover, not_among, from_can}
use Rattle.view_laws.proofs.StepLaws.{changes_made, stack_made}
use Rattle.view_laws.proofs.NumberLaws.{step_new}
use Rattle.view_laws.proofs.NeedLaws.{nothing_fires}
use Rattle.view_laws.proofs.SettleLaws.{quiet_sound}
use Rattle.settle_laws.proofs.SettleLaws.{settled_by}
use Rattle.settle_laws.proofs.SoundLaws.{sound_settles}
use Rattle.turn_laws.specs.Kept.{IsKept}
use Rattle.turn_laws.specs.Telling.{others_of}
use Rattle.turn_laws.proofs.HeadLaws.{kept_head, head_numbered}
use Rattle.quiet_laws.specs.Unknown.{given_by, given_in, AreUnknown}
use Rattle.quiet_laws.specs.Among.{woken, rejoined, ChangesAmong, StackAmong}
use Rattle.quiet_laws.specs.Awake.{IsAble, ChangesAwake, StackAwake}
use Rattle.quiet_laws.proofs.UnknownLaws.{none_given}
use Rattle.quiet_laws.proofs.HeldLaws.{GivesMore, gives_more}
use Rattle.quiet_laws.proofs.GivenLaws.{Gave, changes_gave, edit_gave, popped_there, gave_there}
use Rattle.quiet_laws.proofs.AwakeLaws.{WakesNone, wakes_none, quiet_awake}
use Rattle.quiet_laws.proofs.WakeLaws.{GoesTo, filter_twice, frames_there, found_put, queued, rest_rejoins, same_there}

abbrev has_frames : Thread → Bool
has_frames th = not (is_empty th.frames)

not_properly_itself : (s : List ℕ) → is_properly_below s s ≡ false
not_properly_itself s = elim (decide (is_properly_below s s)) [ inl k ↦ absurd ((properly s s k).1 refl) | inr k ↦ k ]

steps_go : (number : ℕ) (before after : Layer) (news : List Thread) → StepsTo number before after news → GoesTo number before after news
steps_go number before after news s = record { change = s.change; space = s.space; status = s.status; threads = s.threads }

module _ (statements : List Statement) (c : Configuration) (id : Ident) (queue : List Ident) (before after : Layer) (news : List Thread) (xs : List Ident) (kept : IsKept statements (record c { queue = id ∷ queue }))
    (at : layer_at c.layers id.space ≡ Some before) (steps : StepsTo id.number before after news) (gives : GivesMore before after xs) (unknown : AreUnknown statements c.layers id.space xs)
    (fresh : AreNew id.space news (id ∷ queue)) where
  abbrev old : List Layer
  old = c.layers

  abbrev t : List ℕ
  t = id.space

  abbrev new : List Layer
  new = in_layer t (λ l. after) old

  abbrev goes : GoesTo id.number before after news
  goes = steps_go id.number before after news steps

  -- each space sees what it saw
  seen : (u : List ℕ) → view new u ≡ view old u
  seen u = quiet_unseen (λ l. after) old t u (λ l e. steps.space ∙ ap (λ (m : Layer). m.space) (one l e)) (λ l e. steps.tells ∙ ap (λ (m : Layer). m.tells) (one l e))
    where
      one : (l : Layer) → layer_at old t ≡ Some l → before ≡ l
      one l e = let k : before ≡ l = cc in k

  -- where the thread can step still, none of the proper ancestors wakes
  pub wakes_as : (result layers : List Layer) → result ≡ new → layers ≡ result → IsAble statements layers id → WakesNone statements layers id queue
  wakes_as result layers e f able =
      subst (λ (ls : List Layer). WakesNone statements ls id queue) (sym (f ∙ e))
      (wakes_none statements c id queue before after news xs kept at goes gives unknown (λ u k. seen u) (λ l i k. (seen l.space, seen (parent_of l.space)))
      (subst (λ (ls : List Layer). IsAble statements ls id) (f ∙ e) able))

  -- and what a thread of the space can do is what it could do
  own_same : (th : Thread) → thread_ready statements new t th ≡ thread_ready statements old t th
  own_same = same_there statements c id queue before after news xs kept at goes gives unknown (λ u e. seen u) (λ l i e. (seen l.space, seen (parent_of l.space))) t (seen t) (not_properly_itself t)

  abbrev ids : List Ident
  ids = runnable statements new

  abbrev stay : List Ident
  stay = rejoined statements new id queue

  all_queued : queue_after ids (Some id) queue ≡ stay ++ woken statements new t stay ++ others_of stay (runnable_in statements new after)
  all_queued =
      queued statements c id queue before after news xs kept at goes gives unknown (λ u e. seen u) (λ l i e. (seen l.space, seen (parent_of l.space)))
      ∙ ap (λ (q : List Ident). q ++ woken statements new t q ++ others_of q (runnable_in statements new after))
      (rest_rejoins statements c id queue before after news xs kept at goes gives unknown (λ u e. seen u) (λ l i e. (seen l.space, seen (parent_of l.space))) (λ th e. ap can_step (own_same th) ∙ e))

  -- The thread that stepped, the others of its layer, and the new ones

  own : after.space ≡ t
  own = steps.space ∙ space_of old t before at

  abbrev number_of : Thread → Ident
  number_of th = named after.space th.number

  abbrev stepped : List Thread
  stepped = in_thread id.number (λ (th : Thread). record th { frames = steps.change th.frames }) before.threads

  abbrev ready : Thread → Bool
  ready th = can_step (thread_ready statements new after.space th)

  ready_was : (th : Thread) → ready th ≡ can_step (thread_ready statements old before.space th)
  ready_was th = ap (λ s. can_step (thread_ready statements new s th)) own ∙ ap can_step (own_same th) ∙ ap (λ s. can_step (thread_ready statements old s th)) (sym (space_of old t before at))

  abbrev old_in : Bool → List Ident
  old_in b = if b then map number_of (filter ready (filter has_frames stepped)) else []

  abbrev new_in : Bool → List Ident
  new_in b = if b then map number_of (filter ready news) else []

  ready_parts : filter ready after.threads ≡ filter ready (filter has_frames stepped) ++ filter ready news
  ready_parts =
      ap (filter ready) (steps.threads ∙ filter-append has_frames stepped news)
      ∙ filter-append ready (filter has_frames stepped) (filter has_frames news)
      ∙ ap (λ ts. filter ready (filter has_frames stepped) ++ ts) (filter_twice ready has_frames (λ th e. frames_there statements new (states_of statements new) after.space th.frames e) news)

  able_parts : runnable_in statements new after ≡ old_in (is_open after.status) ++ new_in (is_open after.status)
  able_parts = by (is_open after.status)
    where
      by : (b : Bool) → (if b then map number_of (filter ready after.threads) else []) ≡ old_in b ++ new_in b
      by true = ap (map number_of) ready_parts ∙ map-append number_of (filter ready (filter has_frames stepped)) (filter ready news)
      by false = refl

  is_mine : (th : Thread) → th.number ≡ id.number → number_of th ≡ id
  is_mine th e = ap₂ (λ (s : List ℕ) (n : ℕ). named s n) own e

  -- what can step now of the old threads could before, or is the one that stepped
  old_before : (o : Ident) (b : Bool) → is_open after.status ≡ b → In o (old_in b) → (id ≡ o) ⊎ In o (runnable_in statements old before)
  old_before o false e h = elim h [ ]
  old_before o true e h =
      let th = in_map number_of (filter ready (filter has_frames stepped)) o h in
      let f = filter_in ready (filter has_frames stepped) th.0 th.1 in
      let g = filter_in has_frames stepped th.0 f.0 in
      elim (in_edit (is_numbered id.number) (λ (u : Thread). record u { frames = steps.change u.frames }) before.threads th.0 g.0) [
        | inl k ↦ inr (from_can statements old before o (record {
          opened = ap is_open (sym steps.status) ∙ e;
          thread = th.0;
          among = k;
          ready = sym (ready_was th.0) ∙ f.1;
          name = ap (λ s. named s th.0.number) (sym steps.space) ∙ th.2;
        }))
        | inr u ↦ (let numbered = (found_in (is_numbered id.number) (λ (v : Thread). v) before.threads u.0 u.1).1 in
            inl (sym (is_mine th.0 (ap (λ (v : Thread). v.number) u.2 ∙ eq-true u.0.number id.number numbered)) ∙ th.2))
      ]

  abbrev held : List Ident
  held = id ∷ queue

  abbrev comes : Ident → Bool
  comes o = not (is_among stay o)

  abbrev old_able : List Ident
  old_able = old_in (is_open after.status)

  abbrev new_able : List Ident
  new_able = new_in (is_open after.status)

  -- what can step of the layer can step
  able_ids : (o : Ident) → In o (runnable_in statements new after) → In o ids
  able_ids o h = In-flat (runnable_in statements new) after o new (edited_in (is_of t) (λ m. after) old before at) h

  before_held : (o : Ident) → In o (runnable_in statements old before) → In o held
  before_held o h =
      among_in held o (kept.exact o ∙ in_among (runnable statements old) o (In-flat (runnable_in statements old) before o old (found_in (is_of t) (λ (m : Layer). m) old before at).0 h))

  held_stays : (o : Ident) → In o ids → In o held → In o stay
  held_stays o h (inl e) = In-right o queue (mover_in (Some id) ids) (subst (λ i. In i (mover_in (Some id) ids)) e (able_mover ids id (subst (λ i. In i ids) (sym e) h)))
  held_stays o h (inr k) = In-left o queue (mover_in (Some id) ids) k

  stay_held : (o : Ident) → In o stay → In o held
  stay_held o h = elim (In-cases o queue (mover_in (Some id) ids) h) [
    | inl k ↦ inr k
    | inr k ↦ inl (let m : ◌≡◌ {A = Option Ident} (Some id) (Some o) = (mover_able (Some id) ids o k).1 in let e : id ≡ o = cc in e)
  ]

  old_stays : filter comes old_able ≡ []
  old_stays = filter_none comes old_able (λ o h.
      ap not (in_among stay o (held_stays o (able_ids o (subst (In o) (sym able_parts) (In-left o old_able new_able h)))
      (elim (old_before o (is_open after.status) refl h) [ inl e ↦ inl e | inr k ↦ before_held o k ]))))

  new_apart : (o : Ident) (b : Bool) → In o (new_in b) → In o held → ⊥
  new_apart o false h k = elim h [ ]
  new_apart o true h k =
      let th = in_map number_of (filter ready news) o h in
      let f = filter_in ready news th.0 th.1 in
      not_both _ (in_among held o k) (ap (is_among held) (sym (ap (λ s. named s th.0.number) (sym own) ∙ th.2)) ∙ fresh th.0 (contains-from_In news th.0 f.0))

  new_comes : filter comes new_able ≡ new_able
  new_comes = filter_all comes new_able (λ o h. ap not (not_among stay o (λ k. new_apart o (is_open after.status) h (stay_held o k))))

  own_comes : others_of stay (runnable_in statements new after) ≡ new_able
  own_comes = ap (filter comes) able_parts ∙ filter-append comes old_able new_able ∙ ap₂ (λ (ys zs : List Ident). ys ++ zs) old_stays new_comes

  -- the layer's name and status are those before
  same_news : new_able ≡ runnable_in statements new (record before { threads = news })
  same_news =
      ap₂ (λ (s : Status) (p : List ℕ). if is_open s then map (λ (th : Thread). named p th.number) (filter (λ (th : Thread). can_step (thread_ready statements new p th)) news) else [])
      steps.status steps.space

  news_queued : queue_after ids (Some id) queue ≡ stay ++ woken statements new t stay ++ runnable_in statements new (record before { threads = news })
  news_queued = all_queued ∙ ap (λ (ys : List Ident). stay ++ woken statements new t stay ++ ys) (own_comes ∙ same_news)

  still_sound : IsSound new
  still_sound = quiet_sound old id before after news at steps kept.sound

  settles_new : (cost : ℕ) → NoneNeeded statements new
      → ◌≡◌ {A = Turned} (settled statements (Some id) cost (record c { layers = new; queue = queue }))
      (Moved cost, record c { layers = new; queue = stay ++ woken statements new t stay ++ runnable_in statements new (record before { threads = news }) })
  settles_new cost none =
      settled_by statements (Some id) cost t new new queue c.shown (sound_settles t new still_sound)
      ∙ ap (λ (ls : List Layer). (Moved cost, record c { layers = ls; queue = queue_after (runnable statements ls) (Some id) queue })) (nothing_fires statements new none)
      ∙ ap (λ (q : List Ident). (Moved cost, record c { layers = new; queue = q })) news_queued

  -- the layers by another name
  pub settles_as : (cost : ℕ) (result layers : List Layer) → result ≡ new → layers ≡ result → NoneNeeded statements layers
      → ◌≡◌ {A = Turned} (settled statements (Some id) cost (record c { layers = result; queue = queue })) (
        Moved cost,
        record c {
          layers = layers;
          queue =
              rejoined statements layers id queue
              ++ woken statements layers t (rejoined statements layers id queue)
              ++ runnable_in statements layers (record before { threads = news });
        },
      )
  settles_as cost result layers e f none =
      ap (λ (ls : List Layer). settled statements (Some id) cost (record c { layers = ls; queue = queue })) e
      ∙ settles_new cost (subst (NoneNeeded statements) (f ∙ e) none)
      ∙ ap (λ (ls : List Layer). (
        Moved cost,
        record c {
          layers = ls;
          queue = rejoined statements ls id queue ++ woken statements ls t (rejoined statements ls id queue) ++ runnable_in statements ls (record before { threads = news });
        },
      )) (sym (f ∙ e))

-- A step that makes changes

module _ (statements : List Statement) (c : Configuration) (id : Ident) (queue : List Ident) (kept : IsKept statements (record c { queue = id ∷ queue })) where
  abbrev before : Layer
  before = layer_of c.layers id.space

  there : layer_at c.layers id.space ≡ Some before
  there = (kept_head statements id queue c kept).layer

  -- the layer at the end of the step, and what it has given out
  made_gives : (result : List Layer) (news : List Thread) (n : ℕ) (made : MadeOf id c.layers result before news) → Gave result id.space before n
      → GivesMore before made.after (map (named before.space) (range_with_len before.next.variable n))
  made_gives result news n made gave =
      let own : made.after.space ≡ id.space = made.steps.space ∙ space_of c.layers id.space before there in
      let found : layer_at result id.space ≡ Some made.after =
      ap (λ ls. layer_at ls id.space) made.left ∙ found_put id.space made.after (subst (λ s. list_eq s id.space ≡ true) (sym own) (names_equal id.space)) c.layers before there in
      gives_more before made.after n made.steps.space (gave_there result id.space before made.after n gave found)

  -- so where it makes changes
  pub changes_give : (changes : List Change)
      (made : MadeOf id c.layers (in_layer id.space without_terminated (changed_all id changes (without_top id c.layers))) before (spawned_from before.next.thread changes))
      → GivesMore before made.after (given_in before changes)
  changes_give changes made =
      let rest : List Layer = without_top id c.layers in
      let gave = changes_gave id changes rest (with_frames id.number (λ frames. drop 1 frames) before) (popped_there id c.layers before there) in
      let given : Gave (in_layer id.space without_terminated (changed_all id changes rest)) id.space before (given_by changes) =
      edit_gave id.space without_terminated (λ l. refl) (λ l. refl) (changed_all id changes rest) before (given_by changes)
      (record { layer = gave.layer; there = gave.there; variable = gave.variable }) in
      made_gives (in_layer id.space without_terminated (changed_all id changes rest)) (spawned_from before.next.thread changes) (given_by changes) made given

pub changes_among : ChangesAmong
changes_among statements c id queue changes cost kept unknown layers e none =
    let first : Layer = layer_of c.layers id.space in
    let head = kept_head statements id queue c kept in
    let made = changes_made id changes c.layers first head.layer head.thread in
    settles_as statements c id queue first made.after (spawned_from first.next.thread changes) (given_in first changes) kept head.layer made.steps (changes_give statements c id queue kept changes made) unknown
    (step_new statements changes c.layers id.space (id ∷ queue) first kept.tree.ordered head.layer (head_numbered statements id queue c kept) kept.exact) cost
    (in_layer id.space without_terminated (changed_all id changes (without_top id c.layers))) layers made.left e none

-- where the thread can step still

pub changes_awake : ChangesAwake
changes_awake statements c id queue changes cost kept unknown layers e none able =
    let first : Layer = layer_of c.layers id.space in
    let head = kept_head statements id queue c kept in
    let made = changes_made id changes c.layers first head.layer head.thread in
    let news : List Thread = spawned_from first.next.thread changes in
    changes_among statements c id queue changes cost kept unknown layers e none
    ∙ ap (λ (q : List Ident). (Moved cost, record c { layers = layers; queue = q }))
    (quiet_awake statements layers id queue (runnable_in statements layers (record first { threads = news }))
    (wakes_as statements c id queue first made.after news (given_in first changes) kept head.layer made.steps (changes_give statements c id queue kept changes made) unknown
    (step_new statements changes c.layers id.space (id ∷ queue) first kept.tree.ordered head.layer (head_numbered statements id queue c kept) kept.exact)
    (in_layer id.space without_terminated (changed_all id changes (without_top id c.layers))) layers made.left e able))

-- or goes on with another stack

stack_gives : (statements : List Statement) (c : Configuration) (id : Ident) (queue : List Ident) (frames : List Frame) (kept : IsKept statements (record c { queue = id ∷ queue }))
    (made : MadeOf id c.layers (in_layer id.space without_terminated (in_layer id.space (with_frames id.number (λ rest. frames)) (without_top id c.layers))) (layer_of c.layers id.space) [])
    → GivesMore (layer_of c.layers id.space) made.after (given_in (layer_of c.layers id.space) [])
stack_gives statements c id queue frames kept made =
    let first : Layer = layer_of c.layers id.space in
    let put : Layer → Layer = with_frames id.number (λ rest. frames) in
    let popped : Gave (without_top id c.layers) id.space first 0 =
    record { layer = with_frames id.number (λ fs. drop 1 fs) first; there = popped_there id c.layers first (kept_head statements id queue c kept).layer; variable = omega arith } in
    let given : Gave (in_layer id.space without_terminated (in_layer id.space put (without_top id c.layers))) id.space first 0 =
    edit_gave id.space without_terminated (λ l. refl) (λ l. refl) (in_layer id.space put (without_top id c.layers)) first 0
    (edit_gave id.space put (λ l. refl) (λ l. refl) (without_top id c.layers) first 0 popped) in
    made_gives statements c id queue kept (in_layer id.space without_terminated (in_layer id.space put (without_top id c.layers))) [] 0 made given

pub stack_among : StackAmong
stack_among statements c id queue frames cost kept layers e none =
    let first : Layer = layer_of c.layers id.space in
    let head = kept_head statements id queue c kept in
    let result : List Layer = in_layer id.space without_terminated (in_layer id.space (with_frames id.number (λ rest. frames)) (without_top id c.layers)) in
    let made : MadeOf id c.layers result first [] = stack_made id frames c.layers first head.layer head.thread in
    settles_as statements c id queue first made.after [] (given_in first []) kept head.layer made.steps (stack_gives statements c id queue frames kept made)
    (none_given statements c.layers id.space [] refl) (λ t h. elim (In-from_contains [] t h) [ ]) cost result layers made.left e none
    ∙ ap (λ (ys : List Ident). (
      Moved cost,
      record c { layers = layers; queue = rejoined statements layers id queue ++ woken statements layers id.space (rejoined statements layers id queue) ++ ys },
    )) (no_news layers first)
    ∙ ap (λ (q : List Ident). (Moved cost, record c { layers = layers; queue = q })) (append-nil (rejoined statements layers id queue ++ woken statements layers id.space (rejoined statements layers id queue)))
  where
    no_news : (ls : List Layer) (l : Layer) → runnable_in statements ls (record l { threads = [] }) ≡ []
    no_news ls l = by (is_open l.status)
      where
        by : (b : Bool) → (if b then map (λ (t : Thread). named l.space t.number) (filter (λ (t : Thread). can_step (thread_ready statements ls l.space t)) []) else []) ≡ []
        by true = refl
        by false = refl

pub stack_awake : StackAwake
stack_awake statements c id queue frames cost kept layers e none able =
    let first : Layer = layer_of c.layers id.space in
    let head = kept_head statements id queue c kept in
    let result : List Layer = in_layer id.space without_terminated (in_layer id.space (with_frames id.number (λ rest. frames)) (without_top id c.layers)) in
    let made : MadeOf id c.layers result first [] = stack_made id frames c.layers first head.layer head.thread in
    let wakes =
    wakes_as statements c id queue first made.after [] (given_in first []) kept head.layer made.steps (stack_gives statements c id queue frames kept made)
    (none_given statements c.layers id.space [] refl) (λ t h. elim (In-from_contains [] t h) [ ]) result layers made.left e able in
    stack_among statements c id queue frames cost kept layers e none
    ∙ ap (λ (q : List Ident). (Moved cost, record c { layers = layers; queue = q }))
    (sym (append-nil (rejoined statements layers id queue ++ woken statements layers id.space (rejoined statements layers id queue)))
    ∙ quiet_awake statements layers id queue [] wakes ∙ append-nil (queue ++ id ∷ []))
