-- Who sleeps once those who are due were asked.
use Rattle.std.proofs.Common.{arith, ◌≡◌, ◌⊎◌, ◌+◌, ◌≤◌, inl, inr, ℕ, Bool, true, false, if◌then◌else◌, List, [], ◌∷◌, ◌++◌, length, map, refl, sym, ap, ap₂, subst, ◌∙◌, Contains, Option, Result, Ok, Err, append-nil, append_assoc, length-append}
use Rattle.std.specs.Prelude.{option_to_list}
use Rattle.std.specs.Result.{OnErr}
use Rattle.oz_base.specs.Lists.{list_eq}
use Rattle.oz_base.specs.declared.names.Ident.{Ident}
use Rattle.oz_language.specs.declared.kernel.Statement.{Statement}
use Rattle.oz_semantics.specs.Names.{named}
use Rattle.oz_semantics.specs.Settling.{is_among, queue_after, runnable}
use Rattle.oz_semantics.specs.declared.configuration.Layer.{Layer}
use Rattle.oz_laws.proofs.SameLaws.{In-from_contains, contains-from_In}
use Rattle.view_laws.proofs.Members.{not_both, has-cases, has-left, has-right}
use Rattle.view_laws.specs.Queues.{IsExact}
use Rattle.view_laws.proofs.QueueLaws.{queue_exact}
use Rattle.sleep_laws.specs.Woken.{top_able, told_queue}
use Rattle.oz_sleep.specs.Laid.{AreLaid, Lays, LaysMore, RestsIn, RestsOr}
use Rattle.oz_sleep.specs.declared.sleeping.Sleeping.{Sleeping}
use Rattle.oz_sleep.proofs.LaidLaws.{lays_then, more_then, or_from, or_then}
use Rattle.oz_machine.specs.Asleep.{AreLaidBut, Sleeps}
use Rattle.oz_machine.specs.Quiet.{able_in}
use Rattle.oz_machine.specs.declared.course.Due.{Due}
use Rattle.oz_machine.specs.declared.course.Due.TheVariants.{Nobody, Mover, Told, Everybody}
use Rattle.oz_machine.specs.declared.course.Course.{Course}

-- Those who can't step fall asleep

only_one : (x y : Ident) → Contains (x ∷ []) y → x ≡ y
only_one x y c = elim (In-from_contains (x ∷ []) y c) [ inl e ↦ e | inr i ↦ elim i [ ] ]

able_there : (statements : List Statement) (layers : List Layer) (id : Ident) → top_able statements layers id ≡ true → Contains (able_in statements layers id) id
able_there statements layers id e = subst (λ (b : Bool). Contains (if b then id ∷ [] else []) id) (sym e) (contains-from_In (id ∷ []) id (inl refl))

module _ (statements : List Statement) (layers : List Layer) where
  abbrev AreIn : Sleeping → List Ident → Ident → Type 0
  AreIn s after o = Contains after o ⊎ RestsIn statements layers s o

  one_in : (s : Sleeping) (after front : List Ident) (id o : Ident) → ((p : Ident) → Contains (able_in statements layers id) p → Contains after p) → RestsOr statements layers s id → Contains (id ∷ []) o → AreIn s after o
  one_in s after front id o within rests c = subst (AreIn s after) (only_one id o c) (elim rests [ inl e ↦ inl (within id (able_there statements layers id e)) | inr r ↦ inr r ])

  -- one was asked
  pub one_slept : (old new : Sleeping) (queue after : List Ident) (id : Ident) → after ≡ queue ++ able_in statements layers id → LaysMore layers old new
      → (top_able statements layers id ≡ false → RestsIn statements layers new id) → Lays statements layers old (queue ++ id ∷ []) → Lays statements layers new after
  one_slept old new queue after id is more rests = lays_then statements layers old new (queue ++ id ∷ []) after more each
    where
      inside : (o : Ident) → Contains (queue ++ able_in statements layers id) o → Contains after o
      inside o = subst (λ (os : List Ident). Contains os o) (sym is)

      each : (o : Ident) → Contains (queue ++ id ∷ []) o → AreIn new after o
      each o c = elim (has-cases o queue (id ∷ []) c) [
        | inl k ↦ inl (inside o (has-left o queue (able_in statements layers id) k))
        | inr k ↦ one_in new after queue id o (λ p h. inside p (has-right p queue (able_in statements layers id) h)) (or_from statements layers new id rests) k
      ]

  -- two were asked
  pub both_slept : (old mid new : Sleeping) (queue after : List Ident) (id other : Ident) → after ≡ (queue ++ able_in statements layers id) ++ able_in statements layers other
      → LaysMore layers old mid → (top_able statements layers id ≡ false → RestsIn statements layers mid id)
      → LaysMore layers mid new → (top_able statements layers other ≡ false → RestsIn statements layers new other)
      → Lays statements layers old (queue ++ id ∷ other ∷ []) → Lays statements layers new after
  both_slept old mid new queue after id other is one first two second = lays_then statements layers old new (queue ++ id ∷ other ∷ []) after (more_then layers old mid new one two) each
    where
      inside : (o : Ident) → Contains ((queue ++ able_in statements layers id) ++ able_in statements layers other) o → Contains after o
      inside o = subst (λ (os : List Ident). Contains os o) (sym is)

      front : (o : Ident) → Contains (queue ++ able_in statements layers id) o → Contains after o
      front o k = inside o (has-left o (queue ++ able_in statements layers id) (able_in statements layers other) k)

      each : (o : Ident) → Contains (queue ++ id ∷ other ∷ []) o → AreIn new after o
      each o c = elim (has-cases o queue (id ∷ other ∷ []) c) [
        | inl k ↦ inl (front o (has-left o queue (able_in statements layers id) k))
        | inr k ↦ elim (has-cases o (id ∷ []) (other ∷ []) k) [
          | inl h ↦ one_in new after queue id o (λ p q. front p (has-right p queue (able_in statements layers id) q)) (or_then statements layers mid new id two (or_from statements layers mid id first)) h
          | inr h ↦ one_in new after queue other o (λ p q. inside p (has-right p (queue ++ able_in statements layers id) (able_in statements layers other) q)) (or_from statements layers new other second) h
        ]
      ]

-- Who joined, by the length of the queue

longer : (queue : List Ident) (id : Ident) → length (queue ++ id ∷ []) ≡ length queue + 1
longer queue id = length-append queue (id ∷ [])

pub one_joined : (b : Bool) (queue after : List Ident) (id : Ident) → after ≡ queue ++ (if b then id ∷ [] else []) → (length after ≡ length queue → ⊥) → queue ++ id ∷ [] ≡ after
one_joined true queue after id is e = sym is
one_joined false queue after id is e = absurd (e (ap length (is ∙ append-nil queue)))

pub both_joined : (a b : Bool) (queue after : List Ident) (id other : Ident) → after ≡ (queue ++ (if a then id ∷ [] else [])) ++ (if b then other ∷ [] else []) → length after ≡ length queue + 2
    → queue ++ id ∷ other ∷ [] ≡ after
both_joined true true queue after id other is e = sym (is ∙ append_assoc queue (id ∷ []) (other ∷ []))
both_joined true false queue after id other is e =
    absurd (let l : length after ≡ length queue + 1 = ap length (is ∙ append-nil (queue ++ id ∷ [])) ∙ longer queue id in omega (arith, l, e))
both_joined false true queue after id other is e =
    absurd (let l : length after ≡ length queue + 1 = ap length (is ∙ ap (λ (os : List Ident). os ++ other ∷ []) (append-nil queue)) ∙ longer queue other in omega (arith, l, e))
both_joined false false queue after id other is e =
    absurd (let l : length after ≡ length queue = ap length (is ∙ append-nil (queue ++ []) ∙ append-nil queue) in omega (arith, l, e))

-- no fewer are there
pub no_fewer : (queue some more after : List Ident) → after ≡ (queue ++ some) ++ more → length queue ≤ length after
no_fewer queue some more after is =
    let l : length after ≡ length (queue ++ some) + length more = ap length is ∙ length-append (queue ++ some) more in
    let k = length-append queue some in
    omega (arith, l, k)

-- The one that told something is alone

pub alone_told : (statements : List Statement) (layers : List Layer) (mover : Ident) (woken : List ℕ) (queue : List Ident) → woken ≡ [] → queue ≡ []
    → queue ++ able_in statements layers mover ≡ told_queue statements layers mover woken queue
alone_told statements layers mover woken queue nobody none =
    ap (λ (os : List Ident). os ++ able_in statements layers mover) none ∙ sym (append-nil (able_in statements layers mover)) ∙ sym (ap₂ (told_queue statements layers mover) nobody none)

pub none_long : {A : Type 0} (xs : List A) → length xs ≡ 0 → xs ≡ []
none_long [] e = refl
none_long (x ∷ xs) e = absurd (cc)

-- Where it refused

pub err_then : {A E P Q : Type 0} (r : Result A E) → (P → Q) → OnErr r P → OnErr r Q
err_then (Ok a) f h = tt
err_then (Err e) f h = f h

pub left_sleeps : (statements : List Statement) (s : Sleeping) (c : Course) (queue : List Ident) → queue ≡ c.queue → (s.known ≡ true → AreLaidBut statements c.levels s c.due c.queue) → Sleeps statements s (record c { queue = queue })
left_sleeps statements s c queue e laid known = subst (AreLaidBut statements c.levels s c.due) (sym e) (laid known)

-- Everybody was asked

pub requeued_exact : (statements : List Statement) (layers : List Layer) (mover : Option Ident) (queue after : List Ident) → after ≡ queue_after (runnable statements layers) mover queue → IsExact statements layers after
requeued_exact statements layers mover queue after is id = ap (λ (os : List Ident). is_among os id) is ∙ queue_exact (runnable statements layers) mover queue id

pub unknown_lays : (statements : List Statement) (layers : List Layer) (s : Sleeping) (ids : List Ident) → s.known ≡ false → Lays statements layers s ids
unknown_lays statements layers s ids e known = absurd (not_both s.known known e)

-- Who is due

module _ (statements : List Statement) (layers : List Layer) (due : Due) (queue : List Ident) where
  abbrev Kept : Sleeping → Sleeping → Ident → Type 0
  Kept old mid id = mid.known ≡ true → (mid ≡ old) × (list_eq old.space id.space ≡ true)

  abbrev IsBut : Sleeping → Type 0
  IsBut s = s.known ≡ true → AreLaidBut statements layers s due queue

  kept_lays : (old mid : Sleeping) (id : Ident) (ids : List Ident) → Kept old mid id → (old.known ≡ true → list_eq old.space id.space ≡ true → AreLaid statements layers old ids) → Lays statements layers mid ids
  kept_lays old mid id ids keep laid known =
      let k = keep known in
      subst (λ (s : Sleeping). AreLaid statements layers s ids) (sym k.0) (laid (subst (λ (s : Sleeping). s.known ≡ true) k.0 known) k.1)

  pub mover_lays : (old mid : Sleeping) (id : Ident) (started : Option Ident) → due ≡ Mover id started → Kept old mid id → IsBut old → Lays statements layers mid (queue ++ id ∷ option_to_list started)
  mover_lays old mid id started is keep laid =
      kept_lays old mid id (queue ++ id ∷ option_to_list started) keep (λ known. subst (λ (d : Due). AreLaidBut statements layers old d queue) is (laid known))

  pub told_lays : (old mid : Sleeping) (id : Ident) (woken : List ℕ) → due ≡ Told id woken → Kept old mid id → IsBut old → Lays statements layers mid (queue ++ id ∷ map (named id.space) woken)
  told_lays old mid id woken is keep laid =
      kept_lays old mid id (queue ++ id ∷ map (named id.space) woken) keep (λ known. subst (λ (d : Due). AreLaidBut statements layers old d queue) is (laid known))

  pub none_lays : (s : Sleeping) → due ≡ Nobody → IsBut s → Lays statements layers s queue
  none_lays s is laid known = subst (λ (d : Due). AreLaidBut statements layers s d queue) is (laid known)

  -- where it refused
  pub mover_left : (s : Sleeping) (id : Ident) (started : Option Ident) → due ≡ Mover id started → Lays statements layers s (queue ++ id ∷ option_to_list started) → IsBut s
  mover_left s id started is lays known = subst (λ (d : Due). AreLaidBut statements layers s d queue) (sym is) (λ own. lays known)

  pub told_left : (s : Sleeping) (id : Ident) (woken : List ℕ) → due ≡ Told id woken → Lays statements layers s (queue ++ id ∷ map (named id.space) woken) → IsBut s
  told_left s id woken is lays known = subst (λ (d : Due). AreLaidBut statements layers s d queue) (sym is) (λ own. lays known)

  pub all_left : (s : Sleeping) (mover : Option Ident) → due ≡ Everybody mover → AreLaidBut statements layers s due queue
  all_left s mover is = subst (λ (d : Due). AreLaidBut statements layers s d queue) (sym is) tt
