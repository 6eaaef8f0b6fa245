-- What contracts see of a shared pool and of its workers.
use Rattle.oz_search.specs.Histories.{History}
use Rattle.std.specs.Prelude.{◌≡◌, ◌<◌, ℕ, Bool, true, List, [], ◌∷◌, Option, Some}
use Rattle.std.specs.Option.{is_some}
use Rattle.atomic_table.specs.Seated.{TableId}
use Rattle.oz_search.specs.declared.history.Entry.{Entry}
use Rattle.oz_search.specs.Histories.{claim_of}
use Rattle.turn_lock.specs.declared.kept.View.{View}
use Rattle.turn_lock.specs.Views.{first, has}
use Rattle.node_pool.specs.declared.tree.Mark.{Mark}

module _ {T : Type 0} where
  -- what never changes of a pool with this tag and budget
  abbrev pub mark : T → ℕ → Mark T
  mark x b = record { tag = x; budget = b }

-- the lock says which pool it is. The budget is in steps
pub record PoolView (T : Type 0) : Type 0 where
  pub lock : TableId
  pub tag : T
  pub budget : ℕ

-- of which pool the worker is, the numbers that it stands for, what it has seen of the history, and how many numbers were drawn, where it draws them
pub record WorkerView (T B L : Type 0) : Type 0 where
  pub lock : TableId
  pub mark : Option (Mark T)
  pub numbers : List ℕ
  pub seen : History B L
  pub drawn : Option ℕ

module _ {T B L : Type 0} where
  -- the number that its new entries name
  abbrev pub number : WorkerView T B L → ℕ
  number w = first w.numbers

  -- the path that its number has out
  abbrev pub claim : WorkerView T B L → Option (List B)
  claim w = claim_of w.seen (number w)

  -- it is a worker of this pool
  abbrev pub IsOf : WorkerView T B L → PoolView T → Type 0
  IsOf w p = (w.lock ≡ p.lock) × (w.mark ≡ Some (mark p.tag p.budget))

  -- the worker that a new pool has
  abbrev pub first_worker : PoolView T → WorkerView T B L
  first_worker p = record { lock = p.lock; mark = Some (mark p.tag p.budget); numbers = 0 ∷ []; seen = []; drawn = Some 1 }

  -- the same worker, with the history h seen
  abbrev pub at_history : WorkerView T B L → History B L → WorkerView T B L
  at_history w h = record w { seen = h }

  -- of the worker only what it has seen is another
  abbrev pub IsOnlyLater : WorkerView T B L → WorkerView T B L → Type 0
  IsOnlyLater w u = u ≡ at_history w u.seen

  -- it stands for all numbers that were drawn
  abbrev pub StandsForAll : WorkerView T B L → Type 0
  StandsForAll w = (k : ℕ) × (w.drawn ≡ Some k) × ((n : ℕ) → n < k → has n w.numbers ≡ true)

  -- the worker with the seat of this view, under the lock l
  abbrev pub worker_view : TableId → View (Mark T) (Entry (List B) L) → WorkerView T B L
  worker_view l v = record { lock = l; mark = v.fixed; numbers = v.numbers; seen = v.seen; drawn = v.drawn }

  -- what a worker keeps beside its seat
  pub record IsWorker (v : View (Mark T) (Entry (List B) L)) (number : ℕ) (drawn : Option ℕ) (has_claim : Bool) : Type 0 where
    pub named : number ≡ first v.numbers
    pub draws : drawn ≡ v.drawn
    pub alone : v.told ≡ []
    pub claims : has_claim ≡ is_some (claim_of v.seen (first v.numbers))
