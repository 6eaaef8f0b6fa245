-- The numbers of threads, and what they tell of the queue.
use Rattle.std.proofs.Common.{◌≡◌, inl, inr, ℕ, ◌+◌, ◌<◌, ◌≤◌, ◌==◌, Bool, true, false, not, ◌&&◌, if◌then◌else◌, List, [], ◌∷◌, ◌++◌, refl, sym, ap, ap₂, subst, ◌∙◌, arith, Contains, Option, Some, None, length, filter, map, cond, flat_map}
use Rattle.std.specs.List.{find}
use Rattle.std.proofs.lemmas.Bool.{false≢true}
use Rattle.std.proofs.lemmas.List.{map-append}
use Rattle.oz_base.specs.Lists.{edit_first, is_empty, holds_of}
use Rattle.oz_base.specs.declared.names.Ident.{Ident}
use Rattle.oz_language.specs.declared.kernel.Statement.{Statement}
use Rattle.oz_semantics.specs.Names.{named}
use Rattle.oz_semantics.specs.Configurations.{is_of, layer_at, is_numbered, thread_at, is_open, in_thread}
use Rattle.oz_semantics.specs.Sights.{can_step}
use Rattle.oz_semantics.specs.Spaces.{thread_ready}
use Rattle.oz_semantics.specs.Changes.{Change, Spawns}
use Rattle.oz_semantics.specs.Settling.{is_among, runnable_in, runnable}
use Rattle.oz_semantics.specs.declared.configuration.Thread.{Thread}
use Rattle.oz_semantics.specs.declared.configuration.Layer.{Layer}
use Rattle.oz_laws.proofs.SameLaws.{In, In-from_contains, contains-from_In, In-flat, In-flat_back, and-left, and-right, eq-true, eq-refl}
use Rattle.view_laws.specs.Trees.{is_ascending, names_of}
use Rattle.view_laws.specs.Queues.{is_once}
use Rattle.view_laws.specs.Steps.{spawned_from, MadeOf, IsRising, IsNumbered, StepNumbered, StepNew, RunnableOnce, MoverTold}
use Rattle.view_laws.proofs.Members.{In-cases, bool_eq, and_both}
use Rattle.view_laws.proofs.ListLaws.{among_in, in_among, filter_in, map_in, in_map, found_in}
use Rattle.view_laws.proofs.SightLaws.{space_of}
use Rattle.view_laws.proofs.TreeLaws.{same_named_layer, one_of_name}
use Rattle.view_laws.proofs.QueueLaws.{CanStep, can_from, from_can, not_among, once_append}

-- Rising numbers

abbrev number_in : Thread → ℕ
number_in t = t.number

abbrev numbers : List Thread → List ℕ
numbers ts = map number_in ts

pub rising_append : (ms ns : List ℕ) → IsRising ms → IsRising ns → ((m n : ℕ) → In m ms → In n ns → m < n) → IsRising (ms ++ ns)
rising_append [] ns h k less = k
rising_append (m ∷ ms) ns h k less = (
  λ n c. elim (In-cases n ms ns (In-from_contains (ms ++ ns) n c)) [
    | inl i ↦ h.0 n (contains-from_In ms n i)
    | inr i ↦ less m n (inl refl) i
  ],
  rising_append ms ns h.1 k (λ a n i j. less a n (inr i) j),
)

rising_filter : (p : Thread → Bool) (ts : List Thread) → IsRising (numbers ts) → IsRising (numbers (filter p ts))
rising_filter p [] h = tt
rising_filter p (t ∷ ts) h = by (p t) (rising_filter p ts h.1)
  where
    less : (n : ℕ) → Contains (numbers (filter p ts)) n → t.number < n
    less n c =
        let r = in_map number_in (filter p ts) n (In-from_contains (numbers (filter p ts)) n c) in
        h.0 n (contains-from_In (numbers ts) n (subst (λ k. In k (numbers ts)) r.2 (map_in number_in ts r.0 (filter_in p ts r.0 r.1).0)))

    by : (b : Bool) → IsRising (numbers (filter p ts)) → IsRising (numbers (cond b (t ∷ filter p ts) (filter p ts)))
    by true k = (less, k)
    by false k = k

numbers_edited : (test : Thread → Bool) (change : Thread → Thread) → ((t : Thread) → (change t).number ≡ t.number) → (ts : List Thread) → numbers (edit_first test change ts) ≡ numbers ts
numbers_edited test change h [] = refl
numbers_edited test change h (t ∷ ts) = by (test t) (numbers_edited test change h ts)
  where
    by : (b : Bool) → numbers (edit_first test change ts) ≡ numbers ts → numbers (cond b (change t ∷ ts) (t ∷ edit_first test change ts)) ≡ t.number ∷ numbers ts
    by true rest = ap (λ n. n ∷ numbers ts) (h t)
    by false rest = ap (λ ns. t.number ∷ ns) rest

-- New threads

record SpawnedAt (n : ℕ) (changes : List Change) (m : ℕ) : Type 0 where
  from : n ≤ m
  below : m < n + length (spawned_from n changes)

spawned_at : (n : ℕ) (changes : List Change) (m : ℕ) → In m (numbers (spawned_from n changes)) → SpawnedAt n changes m
spawned_at n [] m h = elim h [ ]
spawned_at n (Spawns frames ∷ changes) m (inl e) = record { from = omega (arith, e); below = omega (arith, e) }
spawned_at n (Spawns frames ∷ changes) m (inr h) = let r = spawned_at (n + 1) changes m h in record { from = omega (arith, r.from); below = omega (arith, r.below) }
spawned_at n (change ∷ changes) m h = let r = spawned_at n changes m h in record { from = r.from; below = r.below }

spawned_rising : (n : ℕ) (changes : List Change) → IsRising (numbers (spawned_from n changes))
spawned_rising n [] = tt
spawned_rising n (Spawns frames ∷ changes) = (
  λ m c. let r = spawned_at (n + 1) changes m (In-from_contains (numbers (spawned_from (n + 1) changes)) m c) in omega (arith, r.from),
  spawned_rising (n + 1) changes,
)
spawned_rising n (change ∷ changes) = spawned_rising n changes

-- Layers after a step

module _ (id : Ident) (changes : List Change) (layers result : List Layer) (before : Layer) (made : MadeOf id layers result before (spawned_from before.next.thread changes)) (numbered : IsNumbered before) where
  abbrev news : List Thread
  news = spawned_from before.next.thread changes

  abbrev old : List Thread
  old = in_thread id.number (λ (t : Thread). record t { frames = made.steps.change t.frames }) before.threads

  old_numbers : numbers old ≡ numbers before.threads
  old_numbers = numbers_edited (is_numbered id.number) (λ (t : Thread). record t { frames = made.steps.change t.frames }) (λ t. refl) before.threads

  old_given : (m : ℕ) → In m (numbers old) → m < before.next.thread
  old_given m h =
      let r = in_map number_in before.threads m (subst (In m) old_numbers h) in
      subst (λ k. k < before.next.thread) r.2 (numbered.given r.0 (contains-from_In before.threads r.0 r.1))

  new_given : (m : ℕ) → In m (numbers news) → SpawnedAt before.next.thread changes m
  new_given m h = spawned_at before.next.thread changes m h

  all_rising : IsRising (numbers (old ++ news))
  all_rising = subst IsRising (sym (map-append number_in old news))
      (rising_append (numbers old) (numbers news) (subst IsRising (sym old_numbers) numbered.rising) (spawned_rising before.next.thread changes)
      (λ m n i j. let a = old_given m i in let b = new_given n j in omega (arith, a, b.from)))

  abbrev has_frames : Thread → Bool
  has_frames t = not (is_empty t.frames)

  all_given : (t : Thread) → In t (old ++ news) → t.number < made.after.next.thread
  all_given t h = elim (In-cases t old news h) [
    | inl i ↦ (let a = old_given t.number (map_in number_in old t i) in omega (arith, a, made.next))
    | inr i ↦ (let b = new_given t.number (map_in number_in news t i) in omega (arith, b.below, made.next))
  ]

  -- the old numbers are those before, and the new ones come behind them
  all_counted : (t : Thread) → In t (old ++ news) → 1 ≤ t.number
  all_counted t h = elim (In-cases t old news h) [
    | inl i ↦ (let r = in_map number_in before.threads t.number (subst (In t.number) old_numbers (map_in number_in old t i)) in
        subst (λ k. 1 ≤ k) r.2 (numbered.counted r.0 (contains-from_In before.threads r.0 r.1)))
    | inr i ↦ (let b = new_given t.number (map_in number_in news t i) in omega (arith, b.from, numbered.begins))
  ]

  pub numbered_after : IsNumbered made.after
  numbered_after = record {
    begins = omega (arith, numbered.begins, made.next);
    counted = λ t c. all_counted t (filter_in has_frames (old ++ news) t (subst (In t) made.steps.threads (In-from_contains made.after.threads t c))).0;
    rising = subst (λ ts. IsRising (numbers ts)) (sym made.steps.threads) (rising_filter has_frames (old ++ news) all_rising);
    given = λ t c. all_given t (filter_in has_frames (old ++ news) t (subst (In t) made.steps.threads (In-from_contains made.after.threads t c))).0;
  }

pub step_numbered : StepNumbered
step_numbered id changes layers result before made numbered = numbered_after id changes layers result before made numbered

-- A thread of a name

module _ (statements : List Statement) (layers : List Layer) (space : List ℕ) (l : Layer) (ascending : is_ascending (names_of layers) ≡ true) (at : layer_at layers space ≡ Some l) where
  -- is one of the layer
  pub own_layer : (id : Ident) → id.space ≡ space → In id (runnable statements layers) → CanStep statements layers l id
  own_layer id e h =
      let k = In-flat_back (runnable_in statements layers) id layers h in
      let c = can_from statements layers k.0 id k.2 in
      let name : k.0.space ≡ space = ap (λ (i : Ident). i.space) c.name ∙ e in
      let same : k.0 ≡ l = same_named_layer layers k.0 l ascending k.1 (found_in (is_of space) (λ (m : Layer). m) layers l at).0 (name ∙ sym (space_of layers space l at)) in
      subst (λ (m : Layer). CanStep statements layers m id) same c

pub step_new : StepNew
step_new statements changes layers space queue before ascending at numbered exact t c =
    not_among queue (named space t.number) (λ h.
    let ran : In (named space t.number) (runnable statements layers) = among_in (runnable statements layers) (named space t.number) (sym (exact (named space t.number)) ∙ in_among queue (named space t.number) h) in
    let s = own_layer statements layers space before ascending at (named space t.number) refl ran in
    let less = numbered.given s.thread (contains-from_In before.threads s.thread s.among) in
    let same : s.thread.number ≡ t.number = ap (λ (i : Ident). i.number) s.name in
    let more = spawned_at before.next.thread changes t.number (map_in number_in (spawned_from before.next.thread changes) t (In-from_contains (spawned_from before.next.thread changes) t c)) in
    absurd (omega (arith, less, same, more.from)))

-- Each once

once_names : (space : List ℕ) (ts : List Thread) → IsRising (numbers ts) → is_once (map (λ (t : Thread). named space t.number) ts) ≡ true
once_names space [] h = refl
once_names space (t ∷ ts) h = and_both _ _ (ap not (not_among (map (λ (u : Thread). named space u.number) ts) (named space t.number) apart)) (once_names space ts h.1)
  where
    apart : In (named space t.number) (map (λ (u : Thread). named space u.number) ts) → ⊥
    apart i =
        let r = in_map (λ (u : Thread). named space u.number) ts (named space t.number) i in
        let less = h.0 r.0.number (contains-from_In (numbers ts) r.0.number (map_in number_in ts r.0 r.1)) in
        let same : r.0.number ≡ t.number = ap (λ (x : Ident). x.number) r.2 in
        absurd (omega (arith, less, same))

module _ (statements : List Statement) (layers : List Layer) where
  once_in : (l : Layer) → IsNumbered l → is_once (runnable_in statements layers l) ≡ true
  once_in l h = by (is_open l.status)
    where
      by : (b : Bool) → is_once (if b then map (λ (t : Thread). named l.space t.number) (filter (λ t. can_step (thread_ready statements layers l.space t)) l.threads) else []) ≡ true
      by true = once_names l.space (filter (λ t. can_step (thread_ready statements layers l.space t)) l.threads) (rising_filter (λ t. can_step (thread_ready statements layers l.space t)) l.threads h.rising)
      by false = refl

  once_of : (ls : List Layer) → is_ascending (names_of ls) ≡ true → ((l : Layer) → In l ls → IsNumbered l) → is_once (flat_map (runnable_in statements layers) ls) ≡ true
  once_of [] e h = refl
  once_of (l ∷ ls) e h =
      once_append (runnable_in statements layers l) (flat_map (runnable_in statements layers) ls) (once_in l (h l (inl refl))) (once_of ls (and-right _ _ e) (λ m i. h m (inr i)))
      (λ x i j.
      let m = In-flat_back (runnable_in statements layers) x ls j in
      let a = can_from statements layers l x i in
      let b = can_from statements layers m.0 x m.2 in
      one_of_name l ls m.0 e m.1 (ap (λ (y : Ident). y.space) (b.name ∙ sym a.name)))

pub runnable_once : RunnableOnce
runnable_once statements layers e h = once_of statements layers layers e (λ l i. h l (contains-from_In layers l i))

-- Whether a thread can step

-- a thread is the first of its number
pub first_numbered : (ts : List Thread) (t : Thread) → IsRising (numbers ts) → In t ts → thread_at ts t.number ≡ Some t
first_numbered [] t h i = elim i [ ]
first_numbered (u ∷ ts) t h (inl e) = ap (λ (b : Bool). cond b (Some u) (find (is_numbered t.number) ts)) (ap (λ (v : Thread). v.number == t.number) e ∙ eq-refl t.number) ∙ ap (λ v. Some v) e
first_numbered (u ∷ ts) t h (inr i) = by (is_numbered t.number u) refl (first_numbered ts t h.1 i)
  where
    less : u.number < t.number
    less = h.0 t.number (contains-from_In (numbers ts) t.number (map_in number_in ts t i))

    by : (b : Bool) → is_numbered t.number u ≡ b → find (is_numbered t.number) ts ≡ Some t → cond b (Some u) (find (is_numbered t.number) ts) ≡ Some t
    by true e rest = absurd (omega (arith, less, eq-true u.number t.number e))
    by false e rest = rest

held_by : {A : Type 0} (test : A → Bool) (o : Option A) → holds_of test o ≡ true → (x : A) × (o ≡ Some x) × (test x ≡ true)
held_by test None e = absurd (false≢true e)
held_by test (Some x) e = (x, refl, e)

pub mover_told : MoverTold
mover_told statements layers id l ascending at numbered = bool_eq _ _ forward back
  where
    own : l.space ≡ id.space
    own = space_of layers id.space l at

    forward : is_among (runnable statements layers) id ≡ true
        → (is_open l.status && holds_of (λ (t : Thread). can_step (thread_ready statements layers id.space t)) (thread_at l.threads id.number)) ≡ true
    forward e =
        let c = own_layer statements layers id.space l ascending at id refl (among_in (runnable statements layers) id e) in
        let number : c.thread.number ≡ id.number = ap (λ (i : Ident). i.number) c.name in
        let first : thread_at l.threads id.number ≡ Some c.thread = subst (λ n. thread_at l.threads n ≡ Some c.thread) number (first_numbered l.threads c.thread numbered.rising c.among) in
        and_both _ _ c.opened
        (ap (holds_of (λ (t : Thread). can_step (thread_ready statements layers id.space t))) first
        ∙ ap (λ s. can_step (thread_ready statements layers s c.thread)) (sym own) ∙ c.ready)

    back : (is_open l.status && holds_of (λ (t : Thread). can_step (thread_ready statements layers id.space t)) (thread_at l.threads id.number)) ≡ true
        → is_among (runnable statements layers) id ≡ true
    back e =
        let r = held_by (λ (t : Thread). can_step (thread_ready statements layers id.space t)) (thread_at l.threads id.number) (and-right (is_open l.status) _ e) in
        let f = found_in (is_numbered id.number) (λ (t : Thread). t) l.threads r.0 r.1 in
        in_among (runnable statements layers) id (In-flat (runnable_in statements layers) l id layers (found_in (is_of id.space) (λ (m : Layer). m) layers l at).0 (from_can statements layers l id (record {
          opened = and-left (is_open l.status) _ e;
          thread = r.0;
          among = f.0;
          ready = ap (λ s. can_step (thread_ready statements layers s r.0)) own ∙ r.2;
          name = ap₂ (λ (s : List ℕ) (n : ℕ). named s n) own (eq-true r.0.number id.number f.1);
        })))
