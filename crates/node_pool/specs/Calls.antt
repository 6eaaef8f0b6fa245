-- What a worker's turn finds, and what it leaves.
use Rattle.oz_search.specs.Histories.{History}
use Rattle.std.specs.Prelude.{◌≡◌, ℕ, ◌+◌, true, not, ◌&&◌, ◌||◌, List, [], ◌∷◌, ◌++◌, Option, Some, None, Result, Ok, Err, MatchResult, if◌then◌else◌}
use Rattle.std.specs.Option.{option_or, is_some}
use mathlib.Core.List.{IsPrefix}
use Rattle.oz_search.specs.declared.history.Entry.{Entry}
use Rattle.oz_search.specs.declared.history.StopCause.{StopCause}
use Rattle.oz_search.specs.Searches.{Search}
use Rattle.oz_search.specs.Histories.{own}
use Rattle.pool_state.specs.declared.pool.Claimed.{Claimed}
use Rattle.pool_state.specs.declared.pool.Claimed.TheVariants as claimed
use Rattle.pool_state.specs.declared.pool.Settled.{Settled}
use Rattle.pool_state.specs.declared.pool.Settled.TheVariants as settled
use Rattle.pool_state.specs.Pool.{AnswersClaim, after_stop, halt}
use Rattle.pool_state.specs.Settles.{AnswersSettle}
use Rattle.turn_lock.specs.Views.{has, IsOnceEach}
use Rattle.node_pool.specs.Workers.{WorkerView, number, claim}

-- the path that a claim gave, if any
abbrev pub path_of : {P : Type 0} → Claimed P → Option P
path_of (claimed.Node p) = Some p
path_of claimed.Idle = None
path_of claimed.Finished = None
path_of (claimed.Stopped e) = None

abbrev pub claimed_path : {P E : Type 0} → Result (Claimed P) E → Option P
claimed_path (Ok a) = path_of a
claimed_path (Err e) = None

-- what is left of the claim c after a split or a leaf: it is out no more where the answer is Done
abbrev pub left_by : {P : Type 0} → Option P → Settled → Option P
left_by c settled.Done = None
left_by c (settled.Spent t) = c
left_by c (settled.Stopped e) = c

abbrev pub claim_left : {P E : Type 0} → Option P → Result Settled E → Option P
claim_left c (Ok a) = left_by c a
claim_left c (Err e) = c

module _ {T B L : Type 0} where
  -- the worker's turn finds h: it begins with what the worker had seen, and has no entry more of its numbers
  pub record TurnFinds (w : WorkerView T B L) (h : History B L) : Type 0 where
    pub later : IsPrefix w.seen h
    pub own_same : (n : ℕ) → has n w.numbers ≡ true → own n h ≡ own n w.seen

  -- the answer to a claim is that of the pool at the history that the turn found. After an error nothing has changed
  abbrev pub ClaimTurn : {E : Type 0} → Search B L → WorkerView T B L → Result (Claimed (List B)) E → WorkerView T B L → Type 0
  ClaimTurn k w r u = (h : History B L) × TurnFinds w h × MatchResult r (λ a. AnswersClaim k h (number w) a u.seen) (λ _. u.seen ≡ h)

  -- the same of a split or a leaf with these steps and this entry
  abbrev pub SettleTurn : {E : Type 0} → ℕ → ℕ → Entry (List B) L → WorkerView T B L → Result Settled E → WorkerView T B L → Type 0
  SettleTurn budget steps e w r u = (h : History B L) × TurnFinds w h × MatchResult r (λ a. AnswersSettle budget h (number w) steps e a u.seen) (λ _. u.seen ≡ h)

  -- the worker stops for this cause, unless somebody has stopped before
  abbrev pub StopTurn : StopCause → WorkerView T B L → WorkerView T B L → Type 0
  StopTurn cause w u = (h : History B L) × TurnFinds w h × (u.seen ≡ after_stop h (halt (number w) cause))

  -- a second worker has the next number k. Both have seen what the turn found
  pub record Enrolled (w u x : WorkerView T B L) : Type 0 where
    pub h : History B L
    pub found : TurnFinds w h
    pub k : ℕ
    pub drew : w.drawn ≡ Some k
    pub giver : u ≡ record w { seen = h; drawn = Some (k + 1) }
    pub newcomer : x ≡ record w { numbers = k ∷ []; seen = h; drawn = None }

  -- where the second alone has a claim out, it goes first
  abbrev pub in_order : WorkerView T B L → WorkerView T B L → WorkerView T B L × WorkerView T B L
  in_order v w = if not (is_some (claim v)) && is_some (claim w) then (w, v) else (v, w)

  -- u stands for the numbers of v and w, and has seen what the turn found: it begins with what each had seen, and has no entry more of the numbers of either.
  -- Its number is that of v, unless w alone has a claim out. No number is of both
  pub record Joined (v w u : WorkerView T B L) : Type 0 where
    pub first : TurnFinds v u.seen
    pub second : TurnFinds w u.seen
    pub stands : (n : ℕ) → has n u.numbers ≡ (has n v.numbers || has n w.numbers)
    pub numbers : u.numbers ≡ (in_order v w).0.numbers ++ (in_order v w).1.numbers
    pub drawn : u.drawn ≡ option_or (in_order v w).0.drawn (in_order v w).1.drawn
    pub once : IsOnceEach u.numbers
