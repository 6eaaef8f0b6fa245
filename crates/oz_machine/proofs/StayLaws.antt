-- A thread that did not step stays in its space.
use Rattle.std.proofs.Common.{◌≡◌, inl, inr, ◌||◌, ℕ, Bool, true, false, not, cond, List, [], ◌∷◌, ◌++◌, refl, sym, ap, ap₂, subst, ◌∙◌, Some, Option, drop, filter}
use Rattle.std.specs.Prelude.{unwrap_or}
use Rattle.std.specs.List.{list_all}
use Rattle.std.proofs.lemmas.Bool.{false≢true, eqb-true}
use Rattle.oz_base.specs.Lists.{list_eq, is_empty}
use Rattle.oz_base.specs.declared.names.Ident.{Ident}
use Rattle.oz_language.specs.declared.kernel.Statement.{Statement}
use Rattle.oz_semantics.specs.Names.{named}
use Rattle.oz_semantics.specs.Readiness.{answer_ready}
use Rattle.oz_semantics.specs.Sights.{can_step}
use Rattle.oz_semantics.specs.Spaces.{answer_in, states_of, thread_ready}
use Rattle.oz_semantics.specs.Configurations.{is_of, is_numbered, layer_at, layer_of, new_layer, in_layer, in_thread, with_frames, without_terminated, telling}
use Rattle.oz_semantics.specs.Changes.{Change, GivesOut, CountsProcedure, CountsName, Pushes, Spawns, AddsCell, Holds, AddsPort, EndsAt, AddsTrigger, AddsPropagator, changed, changed_all, done}
use Rattle.oz_semantics.specs.Settling.{is_among, runnable_in, runnable}
use Rattle.oz_semantics.specs.Steps.{without_top}
use Rattle.oz_semantics.specs.declared.value.Tell.{Tell}
use Rattle.oz_semantics.specs.declared.configuration.Frame.{Frame}
use Rattle.oz_semantics.specs.declared.configuration.Thread.{Thread}
use Rattle.oz_semantics.specs.declared.configuration.Layer.{Layer}
use Rattle.oz_laws.proofs.SameLaws.{In, In-flat_back, and-left, and-right}
use Rattle.view_laws.proofs.Members.{decide, not_both, In-left}
use Rattle.view_laws.proofs.ListLaws.{among_in, in_among, in_filter, found_in}
use Rattle.view_laws.proofs.NameLaws.{equal_names}
use Rattle.view_laws.proofs.QueueLaws.{can_from}
use Rattle.view_laws.proofs.ChangeLaws.{edit_of, changed_by, edit_keeps}
use Rattle.turn_laws.specs.Telling.{is_able_still}
use Rattle.turn_laws.proofs.HeadLaws.{find_layer}
use Rattle.oz_machine.specs.Quiet.{IsHead}
use Rattle.oz_machine.proofs.QuietLaws.{edited_at}

-- An edit of another thread leaves it as it is
edit_leaves : (number : ℕ) (change : Thread → Thread) (ts : List Thread) (t : Thread) → is_numbered number t ≡ false → In t ts → In t (in_thread number change ts)
edit_leaves number change [] t other h = h
edit_leaves number change (s ∷ ts) t other h = by (is_numbered number s) refl h (edit_leaves number change ts t other)
  where
    by : (b : Bool) → is_numbered number s ≡ b → In t (s ∷ ts) → (In t ts → In t (in_thread number change ts)) → In t (cond b (change s ∷ ts) (s ∷ in_thread number change ts))
    by true e (inl k) rest = absurd (not_both _ (ap (is_numbered number) (sym k) ∙ e) other)
    by true e (inr k) rest = inr k
    by false e (inl k) rest = inl k
    by false e (inr k) rest = inr (rest k)

module _ (number : ℕ) (t : Thread) (other : is_numbered number t ≡ false) where
  change_leaves : (change : Change) (l : Layer) → In t l.threads → In t (edit_of number change l).threads
  change_leaves (GivesOut n) l h = h
  change_leaves CountsProcedure l h = h
  change_leaves CountsName l h = h
  change_leaves (Pushes frames) l h = edit_leaves number (λ s. record s { frames = frames ++ s.frames }) l.threads t other h
  change_leaves (Spawns frames) l h = In-left t l.threads (record { number = l.next.thread; frames = frames } ∷ []) h
  change_leaves (AddsCell content) l h = h
  change_leaves (Holds n content) l h = h
  change_leaves (AddsPort end) l h = h
  change_leaves (EndsAt n end) l h = h
  change_leaves (AddsTrigger procedure variable) l h = h
  change_leaves (AddsPropagator relation variables) l h = h

-- the thread is in the space
abbrev pub HasThread : List Layer → List ℕ → Thread → Type 0
HasThread layers space t = (l : Layer) × (layer_at layers space ≡ Some l) × In t l.threads

has_edit : (space : List ℕ) (edit : Layer → Layer) (layers : List Layer) (t : Thread) → ((l : Layer) → (edit l).space ≡ l.space) → ((l : Layer) → In t l.threads → In t (edit l).threads)
    → HasThread layers space t → HasThread (in_layer space edit layers) space t
has_edit space edit layers t names leaves h =
    let own : is_of space h.0 ≡ true = (found_in (is_of space) (λ (l : Layer). l) layers h.0 h.1).1 in
    (edit h.0, edited_at space edit h.0 layers h.1 (ap (λ s. list_eq s space) (names h.0) ∙ own), leaves h.0 h.2)

has_changes : (id : Ident) (t : Thread) → is_numbered id.number t ≡ false → (changes : List Change) (layers : List Layer) → HasThread layers id.space t → HasThread (changed_all id changes layers) id.space t
has_changes id t other [] layers h = h
has_changes id t other (change ∷ changes) layers h =
    has_changes id t other changes (changed id layers change)
    (subst (λ (ls : List Layer). HasThread ls id.space t) (sym (changed_by id layers change))
    (has_edit id.space (edit_of id.number change) layers t (edit_keeps id.number change).space (change_leaves id.number t other change) h))

has_done : (id : Ident) (t : Thread) → is_numbered id.number t ≡ false → not (is_empty t.frames) ≡ true → (ts : List Tell) (changes : List Change) (layers : List Layer) → HasThread layers id.space t
    → HasThread (in_layer id.space without_terminated (done id ts changes (without_top id layers))) id.space t
has_done id t other going ts changes layers h =
    let pops : Layer → Layer = with_frames id.number (λ (frames : List Frame). drop 1 frames) in
    let popped = has_edit id.space pops layers t (λ l. refl) (λ l k. edit_leaves id.number (λ s. record s { frames = drop 1 s.frames }) l.threads t other k) h in
    let told = has_edit id.space (telling ts) (without_top id layers) t (λ l. refl) (λ l k. k) popped in
    has_edit id.space without_terminated (done id ts changes (without_top id layers)) t (λ l. refl) (λ l k. in_filter (λ (s : Thread). not (is_empty s.frames)) l.threads t k going)
    (has_changes id t other changes (in_layer id.space (telling ts) (without_top id layers)) told)

-- a thread without statements cannot step
going_on : (statements : List Statement) (layers : List Layer) (space : List ℕ) (t : Thread) → can_step (thread_ready statements layers space t) ≡ true → not (is_empty t.frames) ≡ true
going_on statements layers space t e = by t.frames refl
  where
    by : (fs : List Frame) → t.frames ≡ fs → not (is_empty t.frames) ≡ true
    by [] k = absurd (false≢true (sym (ap (λ (fs : List Frame). can_step (answer_ready (answer_in statements layers (states_of statements layers) space fs))) k) ∙ e))
    by (f ∷ fs) k = ap (λ (xs : List Frame). not (is_empty xs)) k

all_pass : {A : Type 0} (p : A → Bool) (xs : List A) (x : A) → list_all p xs ≡ true → In x xs → p x ≡ true
all_pass p [] x e h = elim h [ ]
all_pass p (y ∷ ys) x e (inl k) = sym (ap p k) ∙ and-left (p y) (list_all p ys) e
all_pass p (y ∷ ys) x e (inr k) = all_pass p ys x (and-right (p y) (list_all p ys) e) k

filter_all : {A : Type 0} (p : A → Bool) (xs : List A) → ((x : A) → In x xs → p x ≡ true) → filter p xs ≡ xs
filter_all p [] h = refl
filter_all p (x ∷ xs) h = ap (λ b. cond b (x ∷ filter p xs) (filter p xs)) (h x (inl refl)) ∙ ap (λ ys. x ∷ ys) (filter_all p xs (λ y k. h y (inr k)))

-- Where the thread that stepped is then alone in its space, no other thread of the queue is of that space
module _ (statements : List Statement) (id : Ident) (layers new : List Layer) (queue : List Ident) (shown : List (List ℕ)) (ts : List Tell) (changes : List Change)
    (head : IsHead statements id layers queue shown) (result : new ≡ in_layer id.space without_terminated (done id ts changes (without_top id layers)))
    (single : list_all (is_numbered id.number) (layer_of new id.space).threads ≡ true) where
  other_space : (o : Ident) → In o queue → list_eq o.space id.space ≡ true → ⊥
  other_space o h same =
      let name : o.space ≡ id.space = equal_names o.space id.space same in
      let runs : In o (runnable statements layers) = among_in (runnable statements layers) o (sym (head.exact o) ∙ in_among (id ∷ queue) o (inr h)) in
      let k = In-flat_back (runnable_in statements layers) o layers runs in
      let can = can_from statements layers k.0 o k.2 in
      let space : k.0.space ≡ id.space = ap (λ (i : Ident). i.space) can.name ∙ name in
      let there : layer_at layers id.space ≡ Some k.0 = subst (λ s. layer_at layers s ≡ Some k.0) space (find_layer layers k.0 head.tree.ordered k.1) in
      let apart : is_numbered id.number can.thread ≡ false = elim (decide (is_numbered id.number can.thread)) [
        | inl e ↦ (let is : o ≡ id = sym can.name ∙ ap₂ (λ (s : List ℕ) (n : ℕ). named s n) space (eqb-true can.thread.number id.number e) in
            absurd (not_both _ (in_among queue id (subst (λ (i : Ident). In i queue) is h)) (not_true (is_among queue id) (and-left _ _ head.once))))
        | inr e ↦ e
      ] in
      let stays = subst (λ (ls : List Layer). HasThread ls id.space can.thread) (sym result)
      (has_done id can.thread apart (going_on statements layers k.0.space can.thread can.ready) ts changes layers (k.0, there, can.among)) in
      let own : layer_of new id.space ≡ stays.0 = ap (λ (o : Option Layer). unwrap_or o (new_layer id.space)) stays.1 in
      not_both _ (all_pass (is_numbered id.number) (layer_of new id.space).threads can.thread single (subst (λ (l : Layer). In can.thread l.threads) (sym own) stays.2)) apart
    where
      not_true : (b : Bool) → not b ≡ true → b ≡ false
      not_true true e = absurd (false≢true e)
      not_true false e = refl

  -- so all of it stays
  pub queue_stays : filter (is_able_still statements new id.space) queue ≡ queue
  queue_stays = filter_all (is_able_still statements new id.space) queue each
    where
      each : (o : Ident) → In o queue → is_able_still statements new id.space o ≡ true
      each o h = by (list_eq o.space id.space) refl
        where
          by : (b : Bool) → list_eq o.space id.space ≡ b → is_able_still statements new id.space o ≡ true
          by true e = absurd (other_space o h e)
          by false e = ap (λ (b : Bool). not b || is_among (runnable_in statements new (layer_of new id.space)) o) e
