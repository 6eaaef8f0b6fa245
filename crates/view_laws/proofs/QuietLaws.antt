-- What a step that tells nothing makes of the queue.
use Rattle.std.proofs.Common.{◌≡◌, ◌⊎◌, inl, inr, ℕ, Bool, true, false, not, if◌then◌else◌, List, [], ◌∷◌, ◌++◌, refl, sym, ap, ap₂, subst, ◌∙◌, Option, Some, filter, map, cond, flat_map}
use Rattle.std.specs.List.{find}
use Rattle.std.proofs.lemmas.Bool.{false≢true}
use Rattle.std.proofs.lemmas.List.{append-nil, map-append}
use Rattle.std.proofs.lemmas.List.Elements.{filter-append}
use Rattle.std.proofs.lemmas.Grind.{flat_map-append}
use Rattle.oz_base.specs.Lists.{edit_first, is_empty}
use Rattle.oz_base.specs.declared.names.Ident.{Ident}
use Rattle.oz_language.specs.declared.kernel.Statement.{Statement}
use Rattle.oz_semantics.specs.Names.{named}
use Rattle.oz_semantics.specs.Store.{View}
use Rattle.oz_semantics.specs.Configurations.{is_of, layer_at, is_numbered, is_open, view, in_layer, in_thread}
use Rattle.oz_semantics.specs.Sights.{States, Readiness, can_step}
use Rattle.oz_semantics.specs.Readiness.{answer_ready}
use Rattle.oz_semantics.specs.Spaces.{states_of, answer_in, thread_ready}
use Rattle.oz_semantics.specs.Settling.{is_among, mover_in, queue_after, runnable_in, runnable}
use Rattle.oz_semantics.specs.declared.configuration.Frame.{Frame}
use Rattle.oz_semantics.specs.declared.configuration.Thread.{Thread}
use Rattle.oz_semantics.specs.declared.configuration.Layer.{Layer}
use Rattle.oz_laws.proofs.SameLaws.{In, contains-from_In, In-flat, In-flat_back, eq-true}
use Rattle.view_laws.specs.Spaceless.{has_spaces, plain_ready}
use Rattle.view_laws.specs.Readies.{seeing}
use Rattle.view_laws.specs.Queues.{IsExact, is_once, StepsTo, AreNew, QuietQueue}
use Rattle.view_laws.proofs.Members.{In-left, In-right, In-cases, not_both}
use Rattle.view_laws.proofs.ListLaws.{among_in, in_among, filter_in, in_filter, filter_all, filter_none, in_map, in_edit, edit_in, found_in}
use Rattle.view_laws.proofs.SightLaws.{space_of, quiet_unseen}
use Rattle.view_laws.proofs.SpacelessLaws.{spaceless_ready, quiet_spaceless}
use Rattle.view_laws.proofs.QueueLaws.{mover_able, able_mover, stay, not_among, once_head, can_from, from_can}

-- The place of what is changed

record Split {A : Type 0} (test : A → Bool) (change : A → A) (xs : List A) (x : A) : Type 0 where
  front : List A
  back : List A
  before : xs ≡ front ++ x ∷ back
  after : edit_first test change xs ≡ front ++ change x ∷ back

split : {A : Type 0} (test : A → Bool) (change : A → A) (xs : List A) (x : A) → find test xs ≡ Some x → Split test change xs x
split test change [] x e = cc
split {A = A} test change (y ∷ ys) x e = by (test y) refl e (split test change ys x)
  where
    by : (b : Bool) → test y ≡ b → cond b (Some y) (find test ys) ≡ Some x → (find test ys ≡ Some x → Split test change ys x) → Split test change (y ∷ ys) x
    by true k f rest =
        let same : y ≡ x = cc in
        record {
          front = [];
          back = ys;
          before = ap (λ z. z ∷ ys) same;
          after = ap (λ (b : Bool). cond b (change y ∷ ys) (y ∷ edit_first test change ys)) k ∙ ap (λ z. change z ∷ ys) same;
        }
    by false k f rest =
        let s = rest f in
        record {
          front = y ∷ s.front;
          back = s.back;
          before = ap (λ zs. y ∷ zs) s.before;
          after = ap (λ (b : Bool). cond b (change y ∷ ys) (y ∷ edit_first test change ys)) k ∙ ap (λ zs. y ∷ zs) s.after;
        }

-- a test that asks for more leaves nothing for the other to take away
filter_twice : {A : Type 0} (p q : A → Bool) → ((x : A) → p x ≡ true → q x ≡ true) → (xs : List A) → filter p (filter q xs) ≡ filter p xs
filter_twice p q h [] = refl
filter_twice {A = A} p q h (x ∷ xs) = by (p x) (q x) refl refl (filter_twice p q h xs)
  where
    by : (a b : Bool) → p x ≡ a → q x ≡ b → filter p (filter q xs) ≡ filter p xs → filter p (cond b (x ∷ filter q xs) (filter q xs)) ≡ cond a (x ∷ filter p xs) (filter p xs)
    by true true e f r = ap (λ (c : Bool). cond c (x ∷ filter p (filter q xs)) (filter p (filter q xs))) e ∙ ap (λ ys. x ∷ ys) r
    by false true e f r = ap (λ (c : Bool). cond c (x ∷ filter p (filter q xs)) (filter p (filter q xs))) e ∙ r
    by true false e f r = absurd (not_both _ (h x e) f)
    by false false e f r = r

-- only a thread with statements can step
frames_there : (statements : List Statement) (layers : List Layer) (states : States) (space : List ℕ) (frames : List Frame)
    → can_step (answer_ready (answer_in statements layers states space frames)) ≡ true → not (is_empty frames) ≡ true
frames_there statements layers states space [] e = absurd (false≢true e)
frames_there statements layers states space (frame ∷ rest) e = refl

abbrev has_frames : Thread → Bool
has_frames t = not (is_empty t.frames)

module _ (statements : List Statement) (layers : List Layer) (id : Ident) (queue : List Ident) (before after : Layer) (news : List Thread) (at : layer_at layers id.space ≡ Some before)
    (steps : StepsTo id.number before after news) (none : has_spaces layers ≡ false) where
  abbrev changed : List Layer
  changed = in_layer id.space (λ l. after) layers

  found_one : (l : Layer) → layer_at layers id.space ≡ Some l → before ≡ l
  found_one l e = let k : before ≡ l = cc in k

  seen : (other : List ℕ) → view changed other ≡ view layers other
  seen other =
      quiet_unseen (λ l. after) layers id.space other (λ l e. steps.space ∙ ap (λ (m : Layer). m.space) (found_one l e))
      (λ l e. steps.tells ∙ ap (λ (m : Layer). m.tells) (found_one l e))

  still_none : has_spaces changed ≡ false
  still_none = quiet_spaceless (λ l. after) layers id.space (λ l e. steps.tells ∙ ap (λ (m : Layer). m.tells) (found_one l e)) ∙ none

  -- what a thread can do, and what the threads of a layer can, they could before
  same_ready : (space : List ℕ) (t : Thread) → thread_ready statements changed space t ≡ thread_ready statements layers space t
  same_ready space t =
      spaceless_ready statements changed (states_of statements changed) space t still_none
      ∙ ap (λ (v : View). plain_ready (seeing statements space v) t) (seen space)
      ∙ sym (spaceless_ready statements layers (states_of statements layers) space t none)

  same_runnable : (l : Layer) → runnable_in statements changed l ≡ runnable_in statements layers l
  same_runnable l =
      let each : ◌≡◌ {A = Thread → Readiness} (thread_ready statements changed l.space) (thread_ready statements layers l.space) = λ i t. same_ready l.space t i in
      ap (λ (f : Thread → Readiness). if is_open l.status then map (λ (t : Thread). named l.space t.number) (filter (λ t. can_step (f t)) l.threads) else []) each

  abbrev able : Layer → List Ident
  able = runnable_in statements layers

  abbrev ids : List Ident
  ids = flat_map able changed

  same_ids : runnable statements changed ≡ ids
  same_ids = ap (λ (f : Layer → List Ident). flat_map f changed) (λ i l. same_runnable l i)

  own : after.space ≡ id.space
  own = steps.space ∙ space_of layers id.space before at

  -- The thread that stepped, the others of its layer, and the new ones

  abbrev number_of : Thread → Ident
  number_of t = named after.space t.number

  abbrev stepped : List Thread
  stepped = in_thread id.number (λ (t : Thread). record t { frames = steps.change t.frames }) before.threads

  abbrev ready : Thread → Bool
  ready t = can_step (thread_ready statements layers after.space t)

  abbrev old_in : Bool → List Ident
  old_in b = if b then map number_of (filter ready (filter has_frames stepped)) else []

  abbrev new_in : Bool → List Ident
  new_in b = if b then map number_of (filter ready news) else []

  ready_parts : filter ready after.threads ≡ filter ready (filter has_frames stepped) ++ filter ready news
  ready_parts =
      ap (filter ready) (steps.threads ∙ filter-append has_frames stepped news)
      ∙ filter-append ready (filter has_frames stepped) (filter has_frames news)
      ∙ ap (λ ts. filter ready (filter has_frames stepped) ++ ts) (filter_twice ready has_frames (λ t e. frames_there statements layers (states_of statements layers) after.space t.frames e) news)

  able_parts : able after ≡ old_in (is_open after.status) ++ new_in (is_open after.status)
  able_parts = by (is_open after.status)
    where
      by : (b : Bool) → (if b then map number_of (filter ready after.threads) else []) ≡ old_in b ++ new_in b
      by true = ap (map number_of) ready_parts ∙ map-append number_of (filter ready (filter has_frames stepped)) (filter ready news)
      by false = refl

  is_mine : (t : Thread) → t.number ≡ id.number → number_of t ≡ id
  is_mine t e = ap₂ (λ (s : List ℕ) (n : ℕ). named s n) own e

  -- what can step now of the old threads could before, or is the one that stepped
  old_before : (o : Ident) (b : Bool) → is_open after.status ≡ b → In o (old_in b) → (id ≡ o) ⊎ In o (able before)
  old_before o false e h = elim h [ ]
  old_before o true e h =
      let t = in_map number_of (filter ready (filter has_frames stepped)) o h in
      let f = filter_in ready (filter has_frames stepped) t.0 t.1 in
      let g = filter_in has_frames stepped t.0 f.0 in
      elim (in_edit (is_numbered id.number) (λ (u : Thread). record u { frames = steps.change u.frames }) before.threads t.0 g.0) [
        | inl k ↦ inr (from_can statements layers before o (record {
          opened = ap is_open (sym steps.status) ∙ e;
          thread = t.0;
          among = k;
          ready = ap (λ s. can_step (thread_ready statements layers s t.0)) (sym steps.space) ∙ f.1;
          name = ap (λ s. named s t.0.number) (sym steps.space) ∙ t.2;
        }))
        | inr u ↦ (let numbered = (found_in (is_numbered id.number) (λ (v : Thread). v) before.threads u.0 u.1).1 in
            inl (sym (is_mine t.0 (ap (λ (v : Thread). v.number) u.2 ∙ eq-true u.0.number id.number numbered)) ∙ t.2))
      ]

  -- what could step before of the layer can step now, but perhaps the one that stepped
  still_able : (o : Ident) → (id ≡ o → ⊥) → In o (able before) → In o (able after)
  still_able o apart h =
      let c = can_from statements layers before o h in
      let there : In c.thread stepped =
      elim (edit_in (is_numbered id.number) (λ (u : Thread). record u { frames = steps.change u.frames }) before.threads c.thread c.among) [
        | inl k ↦ k
        | inr e ↦ (let numbered = (found_in (is_numbered id.number) (λ (v : Thread). v) before.threads c.thread e).1 in
            absurd (apart (sym (is_mine c.thread (eq-true c.thread.number id.number numbered)) ∙ ap (λ s. named s c.thread.number) steps.space ∙ c.name)))
      ] in
      let kept : In c.thread (filter has_frames (stepped ++ news)) =
      in_filter has_frames (stepped ++ news) c.thread (In-left c.thread stepped news there) (frames_there statements layers (states_of statements layers) before.space c.thread.frames c.ready) in
      from_can statements layers after o (record {
        opened = ap is_open steps.status ∙ c.opened;
        thread = c.thread;
        among = subst (In c.thread) (sym steps.threads) kept;
        ready = ap (λ s. can_step (thread_ready statements layers s c.thread)) steps.space ∙ c.ready;
        name = ap (λ s. named s c.thread.number) steps.space ∙ c.name;
      })

  -- The lists of all

  abbrev parted : Split (is_of id.space) (λ l. after) layers before
  parted = split (is_of id.space) (λ l. after) layers before at

  abbrev rest_of : List Layer → List Ident
  rest_of ls = flat_map able ls

  ids_parts : ids ≡ rest_of parted.front ++ (able after ++ rest_of parted.back)
  ids_parts = ap (flat_map able) parted.after ∙ flat_map-append able parted.front (after ∷ parted.back)

  was_parts : runnable statements layers ≡ rest_of parted.front ++ (able before ++ rest_of parted.back)
  was_parts = ap (flat_map able) parted.before ∙ flat_map-append able parted.front (before ∷ parted.back)

  module _ (exact : IsExact statements layers (id ∷ queue)) (once : is_once (id ∷ queue) ≡ true) (fresh : AreNew id.space news (id ∷ queue)) where
    abbrev held : List Ident
    held = id ∷ queue

    ran_held : (o : Ident) → In o (runnable statements layers) → In o held
    ran_held o h = among_in held o (exact o ∙ in_among (runnable statements layers) o h)

    held_ran : (o : Ident) → In o held → In o (runnable statements layers)
    held_ran o h = among_in (runnable statements layers) o (sym (exact o) ∙ in_among held o h)

    abbrev staying : List Ident
    staying = stay ids (Some id) queue

    stays : (o : Ident) → In o ids → In o held → In o staying
    stays o h (inl e) = In-right o (filter (is_among ids) queue) (mover_in (Some id) ids) (subst (λ i. In i (mover_in (Some id) ids)) e (able_mover ids id (subst (λ i. In i ids) (sym e) h)))
    stays o h (inr k) = In-left o (filter (is_among ids) queue) (mover_in (Some id) ids) (in_filter (is_among ids) queue o k (in_among ids o h))

    abbrev comes : Ident → Bool
    comes o = not (is_among staying o)

    not_again : (o : Ident) → In o ids → In o held → comes o ≡ false
    not_again o h k = ap not (in_among staying o (stays o h k))

    -- all that could step before and can now stands in the queue already
    front_stays : filter comes (rest_of parted.front) ≡ []
    front_stays = filter_none comes (rest_of parted.front) (λ o h. not_again o
        (subst (In o) (sym ids_parts) (In-left o (rest_of parted.front) (able after ++ rest_of parted.back) h))
        (ran_held o (subst (In o) (sym was_parts) (In-left o (rest_of parted.front) (able before ++ rest_of parted.back) h))))

    back_stays : filter comes (rest_of parted.back) ≡ []
    back_stays = filter_none comes (rest_of parted.back) (λ o h. not_again o
        (subst (In o) (sym ids_parts) (In-right o (rest_of parted.front) (able after ++ rest_of parted.back) (In-right o (able after) (rest_of parted.back) h)))
        (ran_held o (subst (In o) (sym was_parts) (In-right o (rest_of parted.front) (able before ++ rest_of parted.back) (In-right o (able before) (rest_of parted.back) h)))))

    before_ran : (o : Ident) → In o (able before) → In o (runnable statements layers)
    before_ran o h = subst (In o) (sym was_parts) (In-right o (rest_of parted.front) (able before ++ rest_of parted.back) (In-left o (able before) (rest_of parted.back) h))

    after_able : (o : Ident) → In o (able after) → In o ids
    after_able o h = subst (In o) (sym ids_parts) (In-right o (rest_of parted.front) (able after ++ rest_of parted.back) (In-left o (able after) (rest_of parted.back) h))

    abbrev old : List Ident
    old = old_in (is_open after.status)

    abbrev new : List Ident
    new = new_in (is_open after.status)

    old_stays : filter comes old ≡ []
    old_stays = filter_none comes old (λ o h. not_again o
        (after_able o (subst (In o) (sym able_parts) (In-left o old new h)))
        (elim (old_before o (is_open after.status) refl h) [ inl e ↦ inl e | inr k ↦ ran_held o (before_ran o k) ]))

    staying_held : (o : Ident) → In o staying → In o held
    staying_held o h = elim (In-cases o (filter (is_among ids) queue) (mover_in (Some id) ids) h) [
      | inl k ↦ inr (filter_in (is_among ids) queue o k).0
      | inr k ↦ inl (let m : ◌≡◌ {A = Option Ident} (Some id) (Some o) = (mover_able (Some id) ids o k).1 in let e : id ≡ o = cc in e)
    ]

    new_apart : (o : Ident) (b : Bool) → In o (new_in b) → In o held → ⊥
    new_apart o false h k = elim h [ ]
    new_apart o true h k =
        let t = in_map number_of (filter ready news) o h in
        let f = filter_in ready news t.0 t.1 in
        not_both _ (in_among held o k) (ap (is_among held) (sym (ap (λ s. named s t.0.number) (sym own) ∙ t.2)) ∙ fresh t.0 (contains-from_In news t.0 f.0))

    new_comes : filter comes new ≡ new
    new_comes = filter_all comes new (λ o h. ap not (not_among staying o (λ k. new_apart o (is_open after.status) h (staying_held o k))))

    all_comes : filter comes ids ≡ new
    all_comes =
        ap (filter comes) ids_parts
        ∙ filter-append comes (rest_of parted.front) (able after ++ rest_of parted.back)
        ∙ ap₂ (λ (xs ys : List Ident). xs ++ ys) front_stays
        (filter-append comes (able after) (rest_of parted.back)
        ∙ ap₂ (λ (xs ys : List Ident). xs ++ ys)
        (ap (filter comes) able_parts ∙ filter-append comes old new ∙ ap₂ (λ (xs ys : List Ident). xs ++ ys) old_stays new_comes)
        back_stays
        ∙ append-nil new)

    -- and nothing leaves the rest of the queue
    rest_able : (o : Ident) → In o queue → In o ids
    rest_able o h =
        let l = In-flat_back able o layers (held_ran o (inr h)) in
        elim (edit_in (is_of id.space) (λ l. after) layers l.0 l.1) [
          | inl k ↦ In-flat able l.0 o changed k l.2
          | inr e ↦ after_able o
              (still_able o (λ q. once_head id queue once (subst (λ i. In i queue) (sym q) h)) (subst (λ (m : Layer). In o (able m)) (sym (found_one l.0 e)) l.2))
        ]

    queue_stays : filter (is_among ids) queue ≡ queue
    queue_stays = filter_all (is_among ids) queue (λ o h. in_among ids o (rest_able o h))

    quiet_by : queue_after ids (Some id) queue ≡ queue ++ mover_in (Some id) ids ++ new
    quiet_by =
        ap (λ zs. (filter (is_among ids) queue ++ mover_in (Some id) ids) ++ zs) all_comes
        ∙ ap (λ zs. (zs ++ mover_in (Some id) ids) ++ new) queue_stays

    pub quiet : queue_after (runnable statements changed) (Some id) queue
        ≡ queue ++ mover_in (Some id) (runnable statements changed) ++ runnable_in statements changed (record after { threads = news })
    quiet = subst (λ zs. queue_after zs (Some id) queue ≡ queue ++ mover_in (Some id) zs ++ runnable_in statements changed (record after { threads = news })) (sym same_ids)
        (quiet_by ∙ ap (λ zs. queue ++ mover_in (Some id) ids ++ zs) (sym (same_runnable (record after { threads = news }))))

pub quiet_queue : QuietQueue
quiet_queue statements layers id queue before after news none at steps exact once fresh = quiet statements layers id queue before after news at steps none exact once fresh
