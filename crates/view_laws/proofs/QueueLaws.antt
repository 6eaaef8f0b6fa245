-- The queue after a step, and what it tells.
use Rattle.std.proofs.Common.{◌≡◌, inl, inr, ℕ, Bool, true, false, not, ◌||◌, if◌then◌else◌, List, [], ◌∷◌, ◌++◌, refl, sym, ap, subst, ◌∙◌, Option, Some, None, filter, map, cond}
use Rattle.std.specs.List.{list_any}
use Rattle.std.proofs.lemmas.Bool.{false≢true}
use Rattle.oz_base.specs.Lists.{holds_of}
use Rattle.oz_base.specs.declared.names.Ident.{Ident}
use Rattle.oz_language.specs.declared.kernel.Statement.{Statement}
use Rattle.oz_semantics.specs.Names.{is_below, named}
use Rattle.oz_semantics.specs.Configurations.{is_open, view}
use Rattle.oz_semantics.specs.Sights.{can_step}
use Rattle.oz_semantics.specs.Spaces.{states_of, readinesses, thread_ready, has_due, layers_below, goes_on}
use Rattle.oz_semantics.specs.Settling.{is_among, mover_in, queue_after, runnable_in, runnable}
use Rattle.oz_semantics.specs.declared.configuration.Thread.{Thread}
use Rattle.oz_semantics.specs.declared.configuration.Layer.{Layer}
use Rattle.oz_laws.proofs.SameLaws.{In, In-from_contains, contains-from_In, In-flat, In-flat_back, and-left, and-right}
use Rattle.view_laws.specs.Queues.{is_once, IsExact, is_due_below, QueueExact, QueueOnce, QueueTells}
use Rattle.view_laws.proofs.Members.{In-left, In-right, In-cases, bool_eq, decide, not_both, and_both, some_of, by_some}
use Rattle.view_laws.proofs.ListLaws.{among_in, in_among, filter_in, in_filter, map_in, in_map}

-- The queue after a step holds exactly those that can

pub mover_able : (mover : Option Ident) (ids : List Ident) (id : Ident) → In id (mover_in mover ids) → In id ids × (mover ≡ Some id)
mover_able None ids id h = elim h [ ]
mover_able (Some m) ids id h = by (is_among ids m) refl h
  where
    by : (b : Bool) → is_among ids m ≡ b → In id (if b then m ∷ [] else []) → In id ids × (Some m ≡ Some id)
    by true e (inl k) = (subst (λ i. In i ids) k (among_in ids m e), ap (λ i. Some i) k)
    by true e (inr k) = elim k [ ]
    by false e k = elim k [ ]

pub able_mover : (ids : List Ident) (id : Ident) → In id ids → In id (mover_in (Some id) ids)
able_mover ids id h = subst (λ (b : Bool). In id (if b then id ∷ [] else [])) (sym (in_among ids id h)) (inl refl)

module _ (ids : List Ident) (mover : Option Ident) (queue : List Ident) where
  abbrev pub stay : List Ident
  stay = filter (is_among ids) queue ++ mover_in mover ids

  stay_able : (id : Ident) → In id stay → In id ids
  stay_able id h = elim (In-cases id (filter (is_among ids) queue) (mover_in mover ids) h) [
    | inl k ↦ among_in ids id (filter_in (is_among ids) queue id k).1
    | inr k ↦ (mover_able mover ids id k).0
  ]

  abbrev others : Ident → Bool
  others id = not (is_among stay id)

  queued_able : (id : Ident) → In id (queue_after ids mover queue) → In id ids
  queued_able id h = elim (In-cases id stay (filter others ids) h) [
    | inl k ↦ stay_able id k
    | inr k ↦ (filter_in others ids id k).0
  ]

  able_queued : (id : Ident) → In id ids → In id (queue_after ids mover queue)
  able_queued id h = elim (decide (is_among stay id)) [
    | inl k ↦ In-left id stay (filter others ids) (among_in stay id k)
    | inr k ↦ In-right id stay (filter others ids) (in_filter others ids id h (ap not k))
  ]

  pub queue_holds : (id : Ident) → is_among (queue_after ids mover queue) id ≡ is_among ids id
  queue_holds id =
      bool_eq _ _ (λ e. in_among ids id (queued_able id (among_in (queue_after ids mover queue) id e)))
      (λ e. in_among (queue_after ids mover queue) id (able_queued id (among_in ids id e)))

pub queue_exact : QueueExact
queue_exact ids mover queue id = queue_holds ids mover queue id

-- Each once

pub not_false : (b : Bool) → not b ≡ true → b ≡ false
not_false true e = absurd (false≢true e)
not_false false e = refl

not_in : (ids : List Ident) (id : Ident) → is_among ids id ≡ false → In id ids → ⊥
not_in ids id e h = not_both _ (in_among ids id h) e

pub not_among : (ids : List Ident) (id : Ident) → (In id ids → ⊥) → is_among ids id ≡ false
not_among ids id n = elim (decide (is_among ids id)) [ inl e ↦ absurd (n (among_in ids id e)) | inr e ↦ e ]

once_cons : (id : Ident) (ids : List Ident) → (In id ids → ⊥) → is_once ids ≡ true → is_once (id ∷ ids) ≡ true
once_cons id ids n e = and_both _ _ (ap not (not_among ids id n)) e

pub once_head : (id : Ident) (ids : List Ident) → is_once (id ∷ ids) ≡ true → In id ids → ⊥
once_head id ids e h = not_in ids id (not_false _ (and-left _ _ e)) h

pub once_append : (xs ys : List Ident) → is_once xs ≡ true → is_once ys ≡ true → ((x : Ident) → In x xs → In x ys → ⊥) → is_once (xs ++ ys) ≡ true
once_append [] ys h k n = k
once_append (x ∷ xs) ys h k n =
    once_cons x (xs ++ ys) (λ i. elim (In-cases x xs ys i) [ inl a ↦ once_head x xs h a | inr b ↦ n x (inl refl) b ])
    (once_append xs ys (and-right _ _ h) k (λ z i. n z (inr i)))

pub once_filter : (p : Ident → Bool) (xs : List Ident) → is_once xs ≡ true → is_once (filter p xs) ≡ true
once_filter p [] h = refl
once_filter p (x ∷ xs) h = by (p x) (once_filter p xs (and-right _ _ h))
  where
    by : (b : Bool) → is_once (filter p xs) ≡ true → is_once (cond b (x ∷ filter p xs) (filter p xs)) ≡ true
    by true k = once_cons x (filter p xs) (λ i. once_head x xs h (filter_in p xs x i).0) k
    by false k = k

once_mover : (mover : Option Ident) (ids : List Ident) → is_once (mover_in mover ids) ≡ true
once_mover None ids = refl
once_mover (Some m) ids = by (is_among ids m)
  where
    by : (b : Bool) → is_once (if b then m ∷ [] else []) ≡ true
    by true = refl
    by false = refl

pub queue_once : QueueOnce
queue_once ids mover queue once each apart =
    once_append (stay ids mover queue) (filter (λ id. not (is_among (stay ids mover queue) id)) ids)
    (once_append (filter (is_among ids) queue) (mover_in mover ids) (once_filter (is_among ids) queue each) (once_mover mover ids) (λ x i j.
    let m : mover ≡ Some x = (mover_able mover ids x j).1 in
    not_in queue x (ap (holds_of (is_among queue)) (sym m) ∙ apart) (filter_in (is_among ids) queue x i).0))
    (once_filter (λ id. not (is_among (stay ids mover queue) id)) ids once)
    (λ x i j. not_in (stay ids mover queue) x (not_false _ (filter_in (λ id. not (is_among (stay ids mover queue) id)) ids x j).1) i)

-- one of two tests passes somewhere
pub any_or : {A : Type 0} (p q : A → Bool) (xs : List A) → list_any (λ x. p x || q x) xs ≡ (list_any p xs || list_any q xs)
any_or p q [] = refl
any_or p q (x ∷ xs) = ap (λ b. p x || q x || b) (any_or p q xs) ∙ sorted (p x) (q x) (list_any p xs) (list_any q xs)
  where
    sorted : (a b c d : Bool) → (a || b || (c || d)) ≡ ((a || c) || (b || d))
    sorted true b c d = refl
    sorted false true true d = refl
    sorted false true false d = refl
    sorted false false c d = refl

-- The threads that can step

module _ (statements : List Statement) (layers : List Layer) where
  abbrev pub can : Layer → Thread → Bool
  can l t = can_step (thread_ready statements layers l.space t)

  pub record CanStep (l : Layer) (id : Ident) : Type 0 where
    pub opened : is_open l.status ≡ true
    pub thread : Thread
    pub among : In thread l.threads
    pub ready : can l thread ≡ true
    pub name : named l.space thread.number ≡ id

  pub can_from : (l : Layer) (id : Ident) → In id (runnable_in statements layers l) → CanStep l id
  can_from l id h = by (is_open l.status) refl h
    where
      by : (b : Bool) → is_open l.status ≡ b → In id (if b then map (λ (t : Thread). named l.space t.number) (filter (can l) l.threads) else []) → CanStep l id
      by true e k =
          let t = in_map (λ (u : Thread). named l.space u.number) (filter (can l) l.threads) id k in
          let f = filter_in (can l) l.threads t.0 t.1 in
          record { opened = e; thread = t.0; among = f.0; ready = f.1; name = t.2 }
      by false e k = elim k [ ]

  pub from_can : (l : Layer) (id : Ident) → CanStep l id → In id (runnable_in statements layers l)
  from_can l id c =
      subst (λ (b : Bool). In id (if b then map (λ (t : Thread). named l.space t.number) (filter (can l) l.threads) else [])) (sym c.opened)
      (subst (λ i. In i (map (λ (t : Thread). named l.space t.number) (filter (can l) l.threads))) c.name
      (map_in (λ (t : Thread). named l.space t.number) (filter (can l) l.threads) c.thread (in_filter (can l) l.threads c.thread c.among c.ready)))

  -- a layer of which a thread can step has one in the list, and conversely
  ready_found : (l : Layer) (b : Bool) → is_open l.status ≡ b → list_any can_step (if b then map (thread_ready statements layers l.space) l.threads else []) ≡ true → (id : Ident) × CanStep l id
  ready_found l true e k =
      let r = some_of can_step (map (thread_ready statements layers l.space) l.threads) k in
      let t = in_map (thread_ready statements layers l.space) l.threads r.0 (In-from_contains (map (thread_ready statements layers l.space) l.threads) r.0 r.1) in
      (named l.space t.0.number, record { opened = e; thread = t.0; among = t.1; ready = ap can_step t.2 ∙ r.2; name = refl })
  ready_found l false e k = absurd (false≢true k)

  abbrev goes : Layer → Bool
  goes l = list_any can_step (readinesses statements layers (states_of statements layers) l)

  goes_able : (l : Layer) → goes l ≡ true → (id : Ident) × CanStep l id
  goes_able l e = ready_found l (is_open l.status) refl e

  able_goes : (l : Layer) (id : Ident) → CanStep l id → goes l ≡ true
  able_goes l id c =
      subst (λ (b : Bool). list_any can_step (if b then map (thread_ready statements layers l.space) l.threads else []) ≡ true) (sym c.opened)
      (by_some can_step (map (thread_ready statements layers l.space) l.threads) (thread_ready statements layers l.space c.thread)
      (contains-from_In (map (thread_ready statements layers l.space) l.threads) (thread_ready statements layers l.space c.thread)
      (map_in (thread_ready statements layers l.space) l.threads c.thread c.among)) c.ready)

  module _ (queue : List Ident) (space : List ℕ) (exact : IsExact statements layers queue) where
    abbrev below : Layer → Bool
    below l = is_below space l.space

    abbrev stands : Ident → Bool
    stands id = is_below space id.space

    told_queue : list_any goes (layers_below layers space) ≡ true → list_any stands queue ≡ true
    told_queue e =
        let l = some_of goes (layers_below layers space) e in
        let f = filter_in below layers l.0 (In-from_contains (layers_below layers space) l.0 l.1) in
        let id = goes_able l.0 l.2 in
        let there : In id.0 (runnable statements layers) = In-flat (runnable_in statements layers) l.0 id.0 layers f.0 (from_can l.0 id.0 id.1) in
        let held : In id.0 queue = among_in queue id.0 (exact id.0 ∙ in_among (runnable statements layers) id.0 there) in
        by_some stands queue id.0 (contains-from_In queue id.0 held) (ap (λ (i : Ident). is_below space i.space) (sym id.1.name) ∙ f.1)

    queue_told : list_any stands queue ≡ true → list_any goes (layers_below layers space) ≡ true
    queue_told e =
        let id = some_of stands queue e in
        let there : In id.0 (runnable statements layers) = among_in (runnable statements layers) id.0 (sym (exact id.0) ∙ in_among queue id.0 (In-from_contains queue id.0 id.1)) in
        let l = In-flat_back (runnable_in statements layers) id.0 layers there in
        let c = can_from l.0 id.0 l.2 in
        let kept : In l.0 (layers_below layers space) = in_filter below layers l.0 l.1 (ap (λ (i : Ident). is_below space i.space) c.name ∙ id.2) in
        by_some goes (layers_below layers space) l.0 (contains-from_In (layers_below layers space) l.0 kept) (able_goes l.0 id.0 c)

    abbrev is_due_in : Layer → Bool
    is_due_in l = has_due (view layers l.space) l

    pub told_by_queue : goes_on statements layers space ≡ (list_any stands queue || is_due_below layers space)
    told_by_queue =
        any_or goes is_due_in (layers_below layers space)
        ∙ ap (λ b. b || is_due_below layers space) (bool_eq _ _ told_queue queue_told)

pub queue_tells : QueueTells
queue_tells statements layers queue space exact = told_by_queue statements layers queue space exact
