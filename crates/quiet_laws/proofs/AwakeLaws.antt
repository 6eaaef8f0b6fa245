-- Where the thread that stepped can step still, no thread of another space wakes.
use Rattle.std.proofs.Common.{◌≡◌, inl, inr, ℕ, Bool, true, false, not, if◌then◌else◌, List, [], ◌∷◌, ◌++◌, filter, flat_map, refl, sym, ap, ap₂, subst, ◌∙◌, Option, Some, None, unwrap_or}
use Rattle.std.specs.List.{list_any}
use Rattle.std.proofs.lemmas.Bool.{false≢true}
use Rattle.std.proofs.lemmas.List.{append-nil}
use Rattle.oz_base.specs.Lists.{list_eq}
use Rattle.oz_base.specs.declared.names.Ident.{Ident}
use Rattle.oz_language.specs.declared.kernel.Statement.{Statement}
use Rattle.oz_semantics.specs.Names.{is_below, is_properly_below, parent_of, named}
use Rattle.oz_semantics.specs.Configurations.{is_of, layer_at, new_layer, is_numbered, thread_at, frames_in, is_open, view, in_layer}
use Rattle.oz_semantics.specs.Sights.{Sight, States, can_step}
use Rattle.oz_semantics.specs.Answers.{Answer, Acts, Edits, RaisesKind, RaisesTerm, Operates, Widens, Rests}
use Rattle.oz_semantics.specs.Operations.{by_state}
use Rattle.oz_semantics.specs.Statements.{stack_answer}
use Rattle.oz_semantics.specs.Readiness.{answer_ready}
use Rattle.oz_semantics.specs.Spaces.{sight, states_of, thread_ready, goes_on}
use Rattle.oz_semantics.specs.Settling.{is_among, mover_in, runnable_in, runnable}
use Rattle.oz_semantics.specs.declared.configuration.Thread.{Thread}
use Rattle.oz_semantics.specs.declared.configuration.Layer.{Layer}
use Rattle.oz_semantics.specs.declared.configuration.Configuration.{Configuration}
use Rattle.oz_laws.proofs.SameLaws.{In, contains-from_In, In-flat, In-flat_back, eq-true}
use Rattle.view_laws.specs.Queues.{is_due_below}
use Rattle.view_laws.proofs.Members.{In-left, by_some, or_left}
use Rattle.view_laws.proofs.ListLaws.{among_in, in_among, filter_in, in_filter, filter_none, in_edit, found_in}
use Rattle.view_laws.proofs.NameLaws.{names_equal, properly}
use Rattle.view_laws.proofs.SightLaws.{space_of}
use Rattle.view_laws.proofs.QueueLaws.{can_from, from_can, queue_tells}
use Rattle.edit_laws.proofs.ViewLaws.{not_above}
use Rattle.turn_laws.specs.Kept.{IsKept}
use Rattle.turn_laws.specs.Telling.{others_of, is_able_still, staying}
use Rattle.turn_laws.proofs.HeadLaws.{kept_head}
use Rattle.quiet_laws.specs.Unknown.{AreUnknown}
use Rattle.quiet_laws.specs.Among.{above_of, woken, rejoined}
use Rattle.quiet_laws.specs.Awake.{IsAble, rest_and}
use Rattle.quiet_laws.proofs.HeldLaws.{GivesMore}
use Rattle.quiet_laws.proofs.WakeLaws.{GoesTo, other_able_still, found_put, pairs, ascending, goes_above, rests, after_own}
use Rattle.quiet_laws.proofs.StillLaws.{thread_stays}

-- Threads that can step by what their space sees alone

-- an answer that is a step is the same by all states
stated : (layers : List Layer) (s : Sight) (known : States) (a : Answer) → can_step (answer_ready a) ≡ true → by_state layers s known a ≡ a
stated layers s known (Operates op space x) e = absurd (false≢true e)
stated layers s known (Acts act) e = refl
stated layers s known (Edits edit) e = refl
stated layers s known (RaisesKind kind) e = refl
stated layers s known (RaisesTerm x) e = refl
stated layers s known (Widens ts) e = refl
stated layers s known (Rests ready) e = refl

pub able_ready : (statements : List Statement) (layers : List Layer) (space : List ℕ) (t : Thread) → can_step (answer_ready (stack_answer (sight statements layers space) t.frames)) ≡ true
    → can_step (thread_ready statements layers space t) ≡ true
able_ready statements layers space t e =
    ap (λ (a : Answer). can_step (answer_ready a)) (stated layers (sight statements layers space) (states_of statements layers) (stack_answer (sight statements layers space) t.frames) e) ∙ e

-- one that is not there can't step
pub able_there : (s : Sight) (o : Option Thread) → can_step (answer_ready (stack_answer s (frames_in o))) ≡ true → (t : Thread) × (o ≡ Some t) × (can_step (answer_ready (stack_answer s t.frames)) ≡ true)
able_there s None e = absurd (false≢true e)
able_there s (Some t) e = (t, refl, e)

-- so it is among those that can step, in a space that is open
pub able_in_layer : (statements : List Statement) (layers : List Layer) (id : Ident) (l : Layer) → layer_at layers id.space ≡ Some l → is_open l.status ≡ true → IsAble statements layers id → In id (runnable_in statements layers l)
able_in_layer statements layers id l at opened able =
    let here = able_there (sight statements layers id.space) (thread_at l.threads id.number)
    (sym (ap (λ (o : Option Layer). can_step (answer_ready (stack_answer (sight statements layers id.space) (frames_in (thread_at (unwrap_or o (new_layer id.space)).threads id.number))))) at) ∙ able) in
    let found = found_in (is_numbered id.number) (λ (t : Thread). t) l.threads here.0 here.1 in
    let own : l.space ≡ id.space = space_of layers id.space l at in
    from_can statements layers l id (record {
      opened = opened;
      thread = here.0;
      among = found.0;
      ready = ap (λ s. can_step (thread_ready statements layers s here.0)) own ∙ able_ready statements layers id.space here.0 here.2;
      name = ap₂ (λ (s : List ℕ) (n : ℕ). named s n) own (eq-true here.0.number id.number found.1);
    })

pub able_runs : (statements : List Statement) (layers : List Layer) (id : Ident) (l : Layer) → layer_at layers id.space ≡ Some l → is_open l.status ≡ true → IsAble statements layers id → In id (runnable statements layers)
able_runs statements layers id l at opened able =
    In-flat (runnable_in statements layers) l id layers (found_in (is_of id.space) (λ (m : Layer). m) layers l at).0 (able_in_layer statements layers id l at opened able)

-- The step

-- the thread that stepped joins the rest of the queue, and none of the proper ancestors of its space wakes, where of the rest all of other
-- spaces stay
pub record WakesNone (statements : List Statement) (layers : List Layer) (id : Ident) (queue : List Ident) : Type 0 where
  pub joins : mover_in (Some id) (runnable statements layers) ≡ id ∷ []
  pub none : (rest : List Ident) → ((o : Ident) → In o queue → (o.space ≡ id.space → ⊥) → In o rest) → woken statements layers id.space (rest ++ id ∷ []) ≡ []

module _ (statements : List Statement) (c : Configuration) (id : Ident) (queue : List Ident) (before after : Layer) (news : List Thread) (xs : List Ident) (kept : IsKept statements (record c { queue = id ∷ queue }))
    (at : layer_at c.layers id.space ≡ Some before) (goes : GoesTo id.number before after news) (gives : GivesMore before after xs) (unknown : AreUnknown statements c.layers id.space xs)
    (unseen : (u : List ℕ) → is_below id.space u ≡ false → view (in_layer id.space (λ l. after) c.layers) u ≡ view c.layers u)
    (lower : (l : Layer) → In l c.layers → is_below l.space id.space ≡ false
    → (view (in_layer id.space (λ m. after) c.layers) l.space ≡ view c.layers l.space) × (view (in_layer id.space (λ m. after) c.layers) (parent_of l.space) ≡ view c.layers (parent_of l.space)))
    (able : IsAble statements (in_layer id.space (λ l. after) c.layers) id) where
  abbrev old : List Layer
  old = c.layers

  abbrev t : List ℕ
  t = id.space

  abbrev new : List Layer
  new = in_layer t (λ l. after) old

  abbrev ids : List Ident
  ids = runnable statements new

  own : after.space ≡ t
  own = after_own statements c id queue before after news xs kept at goes gives unknown

  own_there : layer_at new t ≡ Some after
  own_there = found_put t after (subst (λ s. list_eq s t ≡ true) (sym own) (names_equal t)) old before at

  opened : is_open after.status ≡ true
  opened = ap is_open goes.status ∙ ap (λ (o : Option Layer). is_open (unwrap_or o (new_layer t)).status) (sym at) ∙ (kept_head statements id queue c kept).opened

  able_id : In id ids
  able_id = able_runs statements new id after own_there opened able

  goes_still : (u : List ℕ) → is_below u t ≡ true → goes_on statements new u ≡ true
  goes_still u e =
      queue_tells statements new ids u (λ o. refl)
      ∙ or_left (list_any (λ (o : Ident). is_below u o.space) ids) (is_due_below new u) (by_some (λ (o : Ident). is_below u o.space) ids id (contains-from_In ids id able_id) e)

  same_ready : (u : List ℕ) → view new u ≡ view old u → (th : Thread) → thread_ready statements new u th ≡ thread_ready statements old u th
  same_ready =
      thread_stays statements t old new (pairs statements c id queue before after news xs kept at goes gives unknown)
      (rests statements c id queue before after news xs kept at goes gives unknown unseen lower) kept.tree.ordered
      (ascending statements c id queue before after news xs kept at goes gives unknown) (goes_above statements c id queue before after news xs kept at goes gives unknown) goes_still

  -- what can step of a proper ancestor could step before, so it was in the queue
  was_queued : (l : Layer) (o : Ident) → In l new → is_properly_below l.space t ≡ true → In o (runnable_in statements new l) → In o queue
  was_queued l o h above i = elim (in_edit (is_of t) (λ m. after) old l h) [
    | inl k ↦ (let s = can_from statements new l o i in
        let ready = ap can_step (sym (same_ready l.space (unseen l.space (not_above l.space t above)) s.thread)) ∙ s.ready in
        let ran : In o (runnable statements old) =
        In-flat (runnable_in statements old) l o old k (from_can statements old l o (record { opened = s.opened; thread = s.thread; among = s.among; ready = ready; name = s.name })) in
        let held : In o (id ∷ queue) = among_in (id ∷ queue) o (kept.exact o ∙ in_among (runnable statements old) o ran) in
        elim held [
          | inl q ↦ absurd ((properly l.space t above).1 (ap (λ (n : Ident). n.space) (s.name ∙ sym q)))
          | inr q ↦ q
        ])
    | inr r ↦ absurd ((properly l.space t above).1 (ap (λ (m : Layer). m.space) r.2 ∙ own))
  ]

  module _ (rest : List Ident) (stays : (o : Ident) → In o queue → (o.space ≡ t → ⊥) → In o rest) where
    abbrev stay : List Ident
    stay = rest ++ id ∷ []

    none_wakes : woken statements new t stay ≡ []
    none_wakes = filter_none (λ (o : Ident). not (is_among stay o)) (flat_map (runnable_in statements new) (above_of new t)) each
      where
        each : (o : Ident) → In o (flat_map (runnable_in statements new) (above_of new t)) → not (is_among stay o) ≡ false
        each o i =
            let l = In-flat_back (runnable_in statements new) o (above_of new t) i in
            let f = filter_in (λ (m : Layer). is_properly_below m.space t) new l.0 l.1 in
            let s = can_from statements new l.0 o l.2 in
            let apart : o.space ≡ t → ⊥ = λ q. (properly l.0.space t f.1).1 (ap (λ (n : Ident). n.space) s.name ∙ q) in
            ap not (in_among stay o (In-left o rest (id ∷ []) (stays o (was_queued l.0 o f.0 f.1 l.2) apart)))

  pub wakes_none : WakesNone statements new id queue
  wakes_none = record { joins = ap (λ (b : Bool). if b then id ∷ [] else []) (in_among ids id able_id); none = none_wakes }

-- the queue is then shorter to say
pub quiet_awake : (statements : List Statement) (layers : List Layer) (id : Ident) (queue ys : List Ident) → WakesNone statements layers id queue
    → rejoined statements layers id queue ++ woken statements layers id.space (rejoined statements layers id queue) ++ ys ≡ (queue ++ id ∷ []) ++ ys
quiet_awake statements layers id queue ys w =
    ap (λ (ms : List Ident). queue ++ ms ++ woken statements layers id.space (queue ++ ms) ++ ys) w.joins
    ∙ ap (λ (zs : List Ident). queue ++ id ∷ [] ++ zs ++ ys) (w.none queue (λ o h apart. h)) ∙ ap (λ (zs : List Ident). zs ++ ys) (append-nil (queue ++ id ∷ []))

pub told_awake : (statements : List Statement) (layers : List Layer) (id : Ident) (queue ys : List Ident) → WakesNone statements layers id queue
    → staying statements layers id queue ++ woken statements layers id.space (staying statements layers id queue) ++ others_of (staying statements layers id queue) ys
    ≡ rest_and statements layers id queue ++ others_of (rest_and statements layers id queue) ys
told_awake statements layers id queue ys w =
    let rest : List Ident = filter (is_able_still statements layers id.space) queue in
    ap (λ (ms : List Ident). rest ++ ms ++ woken statements layers id.space (rest ++ ms) ++ others_of (rest ++ ms) ys) w.joins
    ∙ ap (λ (zs : List Ident). rest ++ id ∷ [] ++ zs ++ others_of (rest ++ id ∷ []) ys)
    (w.none rest (λ o h apart. in_filter (is_able_still statements layers id.space) queue o h (other_able_still statements layers id.space o apart)))
    ∙ ap (λ (zs : List Ident). zs ++ others_of (rest ++ id ∷ []) ys) (append-nil (rest ++ id ∷ []))
