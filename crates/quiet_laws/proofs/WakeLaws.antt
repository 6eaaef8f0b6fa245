-- What a step of the thread at the head makes of the queue, where only its own space may see more than before: of the rest only
-- threads of the space may leave, and besides those only threads of its ancestors come.
use Rattle.std.proofs.Common.{◌≡◌, inl, inr, ℕ, Bool, true, false, not, ◌||◌, cond, List, [], ◌∷◌, ◌++◌, filter, refl, sym, ap, ap₂, subst, ◌∙◌, append_assoc, Option, Some, unwrap_or}
use Rattle.std.specs.List.{find, list_any}
use Rattle.std.proofs.lemmas.Bool.{false≢true}
use Rattle.oz_base.specs.Lists.{list_eq, is_empty}
use Rattle.oz_base.specs.declared.names.Ident.{Ident}
use Rattle.oz_language.specs.declared.kernel.Statement.{Statement}
use Rattle.oz_semantics.specs.Names.{is_below, is_properly_below, parent_of, named}
use Rattle.oz_semantics.specs.Configurations.{is_of, layer_at, layer_of, new_layer, is_numbered, is_open, view, in_layer, in_thread}
use Rattle.oz_semantics.specs.Sights.{States, can_step}
use Rattle.oz_semantics.specs.Readiness.{answer_ready}
use Rattle.oz_semantics.specs.Spaces.{states_of, answer_in, thread_ready, goes_on}
use Rattle.oz_semantics.specs.Settling.{is_among, mover_in, queue_after, runnable_in, runnable}
use Rattle.oz_semantics.specs.declared.configuration.Frame.{Frame}
use Rattle.oz_semantics.specs.declared.configuration.Thread.{Thread}
use Rattle.oz_semantics.specs.declared.configuration.Layer.{Layer}
use Rattle.oz_semantics.specs.declared.configuration.Configuration.{Configuration}
use Rattle.oz_laws.proofs.SameLaws.{In, In-flat, In-flat_back, eq-true}
use Rattle.view_laws.specs.Trees.{is_ascending, names_of}
use Rattle.view_laws.specs.Queues.{is_due_below}
use Rattle.view_laws.proofs.Members.{In-left, bool_eq, decide, not_both, or_left}
use Rattle.view_laws.proofs.ListLaws.{among_in, in_among, in_filter, filter_all, filter_none, in_edit, edit_in, edited_in, found_in}
use Rattle.view_laws.proofs.NameLaws.{below_itself, names_equal, equal_names, properly_by, properly}
use Rattle.view_laws.proofs.SightLaws.{space_of}
use Rattle.view_laws.proofs.TreeLaws.{names_edited, ascending_leads, same_named_layer}
use Rattle.view_laws.proofs.QueueLaws.{once_head, can_from, from_can}
use Rattle.edit_laws.proofs.ViewLaws.{not_above}
use Rattle.turn_laws.specs.Kept.{IsKept}
use Rattle.turn_laws.specs.Telling.{others_of, is_able_still, staying}
use Rattle.turn_laws.proofs.HeadLaws.{kept_goes_on}
use Rattle.quiet_laws.specs.Unknown.{AreUnknown}
use Rattle.quiet_laws.specs.Among.{woken, rejoined}
use Rattle.quiet_laws.proofs.StateLaws.{Pairs, Rests, thread_still, thread_same}
use Rattle.quiet_laws.proofs.HeldLaws.{GivesMore, layer_rests}
use Rattle.quiet_laws.proofs.ComeLaws.{own_of, above_come}

-- Lists

-- a test that asks for more leaves nothing for the other to take away
pub filter_twice : {A : Type 0} (p q : A → Bool) → ((x : A) → p x ≡ true → q x ≡ true) → (xs : List A) → filter p (filter q xs) ≡ filter p xs
filter_twice p q h [] = refl
filter_twice {A = A} p q h (x ∷ xs) = by (p x) (q x) refl refl (filter_twice p q h xs)
  where
    by : (a b : Bool) → p x ≡ a → q x ≡ b → filter p (filter q xs) ≡ filter p xs → filter p (cond b (x ∷ filter q xs) (filter q xs)) ≡ cond a (x ∷ filter p xs) (filter p xs)
    by true true e f r = ap (λ (c : Bool). cond c (x ∷ filter p (filter q xs)) (filter p (filter q xs))) e ∙ ap (λ ys. x ∷ ys) r
    by false true e f r = ap (λ (c : Bool). cond c (x ∷ filter p (filter q xs)) (filter p (filter q xs))) e ∙ r
    by true false e f r = absurd (not_both _ (h x e) f)
    by false false e f r = r

filter_same : {A : Type 0} (p q : A → Bool) (xs : List A) → ((x : A) → In x xs → p x ≡ q x) → filter p xs ≡ filter q xs
filter_same p q [] h = refl
filter_same p q (x ∷ xs) h =
    ap (λ (b : Bool). cond b (x ∷ filter p xs) (filter p xs)) (h x (inl refl)) ∙ ap (λ ys. cond (q x) (x ∷ ys) ys) (filter_same p q xs (λ y i. h y (inr i)))

-- a thread of another space stays in the queue
pub other_able_still : (statements : List Statement) (layers : List Layer) (space : List ℕ) (o : Ident) → (o.space ≡ space → ⊥) → is_able_still statements layers space o ≡ true
other_able_still statements layers space o apart = elim (decide (list_eq o.space space)) [
  | inl k ↦ absurd (apart (equal_names o.space space k))
  | inr k ↦ ap (λ b. not b || is_among (runnable_in statements layers (layer_of layers space)) o) k
]

-- only a thread with statements can step
pub frames_there : (statements : List Statement) (layers : List Layer) (states : States) (space : List ℕ) (frames : List Frame)
    → can_step (answer_ready (answer_in statements layers states space frames)) ≡ true → not (is_empty frames) ≡ true
frames_there statements layers states space [] e = absurd (false≢true e)
frames_there statements layers states space (frame ∷ rest) e = refl

abbrev has_frames : Thread → Bool
has_frames t = not (is_empty t.frames)

-- the layer that is put in the place of the first of its name is found there
pub found_put : (space : List ℕ) (after : Layer) → is_of space after ≡ true → (ls : List Layer) (l : Layer) → layer_at ls space ≡ Some l → layer_at (in_layer space (λ m. after) ls) space ≡ Some after
found_put space after own [] l e = cc
found_put space after own (m ∷ ls) l e = by (is_of space m) refl e (found_put space after own ls l)
  where
    by : (b : Bool) → is_of space m ≡ b → cond b (Some m) (layer_at ls space) ≡ Some l → (layer_at ls space ≡ Some l → layer_at (in_layer space (λ n. after) ls) space ≡ Some after)
        → find (is_of space) (cond b (after ∷ ls) (m ∷ in_layer space (λ n. after) ls)) ≡ Some after
    by true k f rest = ap (λ (b : Bool). cond b (Some after) (find (is_of space) ls)) own
    by false k f rest = ap (λ (b : Bool). cond b (Some m) (layer_at (in_layer space (λ n. after) ls) space)) k ∙ rest f

-- The layers

pairs_itself : (space : List ℕ) (ls : List Layer) → Pairs space ls ls
pairs_itself space [] = tt
pairs_itself space (l ∷ ls) = (record { named = refl; status = refl; kept = λ e. refl }, pairs_itself space ls)

pairs_put : (space : List ℕ) (after : Layer) (ls : List Layer) → ((l : Layer) → layer_at ls space ≡ Some l → (after.space ≡ l.space) × (after.status ≡ l.status)) → Pairs space ls (in_layer space (λ m. after) ls)
pairs_put space after [] h = tt
pairs_put space after (l ∷ ls) h = by (is_of space l) refl h (pairs_put space after ls)
  where
    by : (b : Bool) → is_of space l ≡ b → ((m : Layer) → cond b (Some l) (layer_at ls space) ≡ Some m → (after.space ≡ m.space) × (after.status ≡ m.status))
        → (((m : Layer) → layer_at ls space ≡ Some m → (after.space ≡ m.space) × (after.status ≡ m.status)) → Pairs space ls (in_layer space (λ m. after) ls))
        → Pairs space (l ∷ ls) (cond b (after ∷ ls) (l ∷ in_layer space (λ m. after) ls))
    by true e f rest =
        let same = f l refl in
        (record { named = same.0; status = same.1; kept = λ off. absurd (not_both _ (subst (λ s. is_below s space ≡ true) (sym (equal_names l.space space e)) (below_itself space)) off) }, pairs_itself space ls)
    by false e f rest = (record { named = refl; status = refl; kept = λ off. refl }, rest f)

-- the layer once the thread of this number made a step: that has another stack, new threads stand behind the others, and those
-- without statements are gone
pub record GoesTo (number : ℕ) (before after : Layer) (news : List Thread) : Type 0 where
  pub change : List Frame → List Frame
  pub space : after.space ≡ before.space
  pub status : after.status ≡ before.status
  pub threads : after.threads ≡ filter (λ (t : Thread). not (is_empty t.frames)) (in_thread number (λ (t : Thread). record t { frames = change t.frames }) before.threads ++ news)

module _ (statements : List Statement) (c : Configuration) (id : Ident) (queue : List Ident) (before after : Layer) (news : List Thread) (xs : List Ident) (kept : IsKept statements (record c { queue = id ∷ queue }))
    (at : layer_at c.layers id.space ≡ Some before) (goes : GoesTo id.number before after news) (gives : GivesMore before after xs) (unknown : AreUnknown statements c.layers id.space xs) where
  abbrev old : List Layer
  old = c.layers

  abbrev t : List ℕ
  t = id.space

  abbrev pub new : List Layer
  new = in_layer t (λ l. after) old

  found_one : (l : Layer) → layer_at old t ≡ Some l → before ≡ l
  found_one l e = let k : before ≡ l = cc in k

  own : before.space ≡ t
  own = space_of old t before at

  pub after_own : after.space ≡ t
  after_own = goes.space ∙ own

  pub pairs : Pairs t old new
  pairs = pairs_put t after old (λ l e. let same = found_one l e in (goes.space ∙ ap (λ (m : Layer). m.space) same, goes.status ∙ ap (λ (m : Layer). m.status) same))

  pub ascending : is_ascending (names_of new) ≡ true
  ascending = ap is_ascending (names_edited (is_of t) (λ m. after) old (λ l e. goes.space ∙ ap (λ (m : Layer). m.space) (found_one l e))) ∙ kept.tree.ordered

  pub goes_above : (u : List ℕ) → is_below u t ≡ true → goes_on statements old u ≡ true
  goes_above u e =
      kept_goes_on statements (record c { queue = id ∷ queue }) u kept
      ∙ or_left (list_any (λ (o : Ident). is_below u o.space) (id ∷ queue)) (is_due_below c.layers u)
      (or_left (is_below u t) (list_any (λ (o : Ident). is_below u o.space) queue) e)

  -- the layer of the step is not that of another space
  not_own : (l : Layer) → is_below l.space t ≡ false → l.space ≡ t → ⊥
  not_own l off e = not_both _ (subst (λ s. is_below s t ≡ true) (sym e) (below_itself t)) off

  module _ (unseen : (u : List ℕ) → is_below t u ≡ false → view new u ≡ view old u)
      (lower : (l : Layer) → In l old → is_below l.space t ≡ false → (view new l.space ≡ view old l.space) × (view new (parent_of l.space) ≡ view old (parent_of l.space))) where
    pub rests : (l : Layer) → In l old → is_below l.space t ≡ false → Rests statements t old new l
    rests l i off = let seen = lower l i off in layer_rests statements t old before after xs at own goes.space gives unknown l i seen.0 seen.1

    pub still : (u : List ℕ) → view new u ≡ view old u → (th : Thread) → can_step (thread_ready statements old u th) ≡ true → can_step (thread_ready statements new u th) ≡ true
    still = thread_still statements t old new pairs rests kept.tree.ordered goes_above

    pub same_there : (u : List ℕ) → view new u ≡ view old u → is_properly_below u t ≡ false → (th : Thread) → thread_ready statements new u th ≡ thread_ready statements old u th
    same_there = thread_same statements t old new pairs rests

    layer_still : (l : Layer) → In l old → (l.space ≡ t → ⊥) → (th : Thread) → can_step (thread_ready statements old l.space th) ≡ true → can_step (thread_ready statements new l.space th) ≡ true
    layer_still l i apart th = by (is_below l.space t) refl
      where
        by : (b : Bool) → is_below l.space t ≡ b → can_step (thread_ready statements old l.space th) ≡ true → can_step (thread_ready statements new l.space th) ≡ true
        by false e = still l.space (lower l i e).0 th
        by true e = still l.space (unseen l.space (not_above l.space t (properly_by l.space t e apart))) th

    abbrev held : List Ident
    held = id ∷ queue

    abbrev pub ids : List Ident
    ids = runnable statements new

    ran_held : (o : Ident) → In o (runnable statements old) → In o held
    ran_held o h = among_in held o (kept.exact o ∙ in_among (runnable statements old) o h)

    held_ran : (o : Ident) → In o held → In o (runnable statements old)
    held_ran o h = among_in (runnable statements old) o (sym (kept.exact o) ∙ in_among held o h)

    pub own_there : layer_at new t ≡ Some after
    own_there = found_put t after (subst (λ s. list_eq s t ≡ true) (sym after_own) (names_equal t)) old before at

    own_layer : layer_of new t ≡ after
    own_layer = ap (λ (o : Option Layer). unwrap_or o (new_layer t)) own_there

    own_in : In after new
    own_in = edited_in (is_of t) (λ m. after) old before at

    -- Only threads of the space leave the rest of the queue

    other_able : (o : Ident) → In o queue → (o.space ≡ t → ⊥) → In o ids
    other_able o h apart =
        let l = In-flat_back (runnable_in statements old) o old (held_ran o (inr h)) in
        let s = can_from statements old l.0 o l.2 in
        let off : l.0.space ≡ t → ⊥ = λ q. apart (ap (λ (n : Ident). n.space) (sym s.name) ∙ q) in
        elim (edit_in (is_of t) (λ m. after) old l.0 l.1) [
          | inl k ↦ In-flat (runnable_in statements new) l.0 o new k
              (from_can statements new l.0 o (record { opened = s.opened; thread = s.thread; among = s.among; ready = layer_still l.0 l.1 off s.thread s.ready; name = s.name }))
          | inr e ↦ absurd (off (space_of old t l.0 e))
        ]

    -- a thread of the space can step just where its layer says so
    own_runs : (o : Ident) → o.space ≡ t → is_among ids o ≡ is_among (runnable_in statements new after) o
    own_runs o q = bool_eq _ _ forward back
      where
        forward : is_among ids o ≡ true → is_among (runnable_in statements new after) o ≡ true
        forward e =
            let l = In-flat_back (runnable_in statements new) o new (among_in ids o e) in
            let s = can_from statements new l.0 o l.2 in
            let name : l.0.space ≡ after.space = ap (λ (n : Ident). n.space) s.name ∙ q ∙ sym after_own in
            let same : l.0 ≡ after = same_named_layer new l.0 after ascending l.1 own_in name in
            in_among (runnable_in statements new after) o (subst (λ (m : Layer). In o (runnable_in statements new m)) same l.2)

        back : is_among (runnable_in statements new after) o ≡ true → is_among ids o ≡ true
        back e = in_among ids o (In-flat (runnable_in statements new) after o new own_in (among_in (runnable_in statements new after) o e))

    abbrev able_still : Ident → Bool
    able_still = is_able_still statements new t

    own_still_is : (o : Ident) → list_eq o.space t ≡ true → able_still o ≡ is_among (runnable_in statements new after) o
    own_still_is o k =
        ap (λ b. not b || is_among (runnable_in statements new (layer_of new t)) o) k ∙ ap (λ (l : Layer). is_among (runnable_in statements new l) o) own_layer

    rest_stays : filter (is_among ids) queue ≡ filter able_still queue
    rest_stays = filter_same (is_among ids) able_still queue (λ o h. elim (decide (list_eq o.space t)) [
      | inl k ↦ own_runs o (equal_names o.space t k) ∙ sym (own_still_is o k)
      | inr k ↦ (let n : o.space ≡ t → ⊥ = λ q. not_both _ (subst (λ s. list_eq s t ≡ true) (sym q) (names_equal t)) k in
          in_among ids o (other_able o h n) ∙ sym (other_able_still statements new t o n))
    ])

    -- No thread of another space comes that is not above

    abbrev pub stay : List Ident
    stay = staying statements new id queue

    abbrev comes : Ident → Bool
    comes o = not (is_among stay o)

    was_queued : (l : Layer) (o : Ident) → In l new → is_below l.space t ≡ false → In o (runnable_in statements new l) → In o queue
    was_queued l o h off i = elim (in_edit (is_of t) (λ m. after) old l h) [
      | inl k ↦ (let s = can_from statements new l o i in
          let seen = lower l k off in
          let not_over : is_properly_below l.space t ≡ false = elim (decide (is_properly_below l.space t)) [ inl q ↦ absurd (not_both _ (properly l.space t q).0 off) | inr q ↦ q ] in
          let ready = ap can_step (sym (same_there l.space seen.0 not_over s.thread)) ∙ s.ready in
          let ran : In o (runnable statements old) =
          In-flat (runnable_in statements old) l o old k (from_can statements old l o (record { opened = s.opened; thread = s.thread; among = s.among; ready = ready; name = s.name })) in
          elim (ran_held o ran) [
            | inl q ↦ absurd (not_own l off (ap (λ (n : Ident). n.space) (s.name ∙ sym q)))
            | inr q ↦ q
          ])
      | inr r ↦ absurd (not_own l off (ap (λ (m : Layer). m.space) r.2 ∙ after_own))
    ]

    stays_queued : (l : Layer) (o : Ident) → In l new → is_below l.space t ≡ false → In o (runnable_in statements new l) → In o stay
    stays_queued l o h off i =
        let s = can_from statements new l o i in
        let apart : o.space ≡ t → ⊥ = λ q. not_own l off (ap (λ (n : Ident). n.space) s.name ∙ q) in
        In-left o (filter able_still queue) (mover_in (Some id) ids) (in_filter able_still queue o (was_queued l o h off i) (other_able_still statements new t o apart))

    none_comes : (l : Layer) → In l new → is_below l.space t ≡ false → filter comes (runnable_in statements new l) ≡ []
    none_comes l h off = filter_none comes (runnable_in statements new l) (λ o i. ap not (in_among stay o (stays_queued l o h off i)))

    pub queued : queue_after ids (Some id) queue ≡ stay ++ woken statements new t stay ++ others_of stay (runnable_in statements new after)
    queued =
        ap (λ (q : List Ident). (q ++ mover_in (Some id) ids) ++ filter (λ o. not (is_among (q ++ mover_in (Some id) ids) o)) ids) rest_stays
        ∙ ap (λ (q : List Ident). stay ++ q) (above_come (runnable_in statements new) comes t new (ascending_leads new ascending) none_comes
        ∙ ap (λ (o : Option Layer). woken statements new t stay ++ filter comes (own_of (runnable_in statements new) o)) own_there)
        ∙ sym (append_assoc stay (woken statements new t stay) (others_of stay (runnable_in statements new after)))

    -- Where each thread of the space that could step can step still, nothing leaves the rest of the queue

    module _ (own_still : (th : Thread) → can_step (thread_ready statements old t th) ≡ true → can_step (thread_ready statements new t th) ≡ true) where
      abbrev stepped : List Thread
      stepped = in_thread id.number (λ (th : Thread). record th { frames = goes.change th.frames }) before.threads

      -- a thread of the layer that is not the one that stepped
      stays_there : (th : Thread) (o : Ident) → named before.space th.number ≡ o → (id ≡ o → ⊥) → In th before.threads → In th stepped
      stays_there th o name apart i = elim (edit_in (is_numbered id.number) (λ (u : Thread). record u { frames = goes.change u.frames }) before.threads th i) [
        | inl k ↦ k
        | inr e ↦ (let numbered = (found_in (is_numbered id.number) (λ (v : Thread). v) before.threads th e).1 in
            absurd (apart (sym (ap₂ (λ (s : List ℕ) (n : ℕ). named s n) own (eq-true th.number id.number numbered)) ∙ name)))
      ]

      -- what could step before of the layer can step now, but perhaps the one that stepped
      own_able : (o : Ident) → (id ≡ o → ⊥) → In o (runnable_in statements old before) → In o (runnable_in statements new after)
      own_able o apart h =
          let s = can_from statements old before o h in
          let there : In s.thread (filter has_frames (stepped ++ news)) =
          in_filter has_frames (stepped ++ news) s.thread (In-left s.thread stepped news (stays_there s.thread o s.name apart s.among))
          (frames_there statements old (states_of statements old) before.space s.thread.frames s.ready) in
          let ready : can_step (thread_ready statements new t s.thread) ≡ true = own_still s.thread (ap (λ u. can_step (thread_ready statements old u s.thread)) (sym own) ∙ s.ready) in
          from_can statements new after o (record {
            opened = ap is_open goes.status ∙ s.opened;
            thread = s.thread;
            among = subst (In s.thread) (sym goes.threads) there;
            ready = ap (λ u. can_step (thread_ready statements new u s.thread)) after_own ∙ ready;
            name = ap (λ u. named u s.thread.number) goes.space ∙ s.name;
          })

      own_queued : (o : Ident) → In o queue → o.space ≡ t → In o (runnable_in statements new after)
      own_queued o h q =
          let l = In-flat_back (runnable_in statements old) o old (held_ran o (inr h)) in
          let s = can_from statements old l.0 o l.2 in
          let name : l.0.space ≡ before.space = ap (λ (n : Ident). n.space) s.name ∙ q ∙ sym own in
          let same : l.0 ≡ before = same_named_layer old l.0 before kept.tree.ordered l.1 (found_in (is_of t) (λ (m : Layer). m) old before at).0 name in
          own_able o (λ k. once_head id queue kept.once (subst (λ i. In i queue) (sym k) h)) (subst (λ (m : Layer). In o (runnable_in statements old m)) same l.2)

      pub rest_rejoins : stay ≡ rejoined statements new id queue
      rest_rejoins = ap (λ (q : List Ident). q ++ mover_in (Some id) ids) (filter_all able_still queue (λ o h. elim (decide (list_eq o.space t)) [
        | inl k ↦ own_still_is o k ∙ in_among (runnable_in statements new after) o (own_queued o h (equal_names o.space t k))
        | inr k ↦ other_able_still statements new t o (λ q. not_both _ (subst (λ s. list_eq s t ≡ true) (sym q) (names_equal t)) k)
      ]))
