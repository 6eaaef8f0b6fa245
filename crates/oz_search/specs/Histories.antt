-- The history of a pool of nodes: the list of its entries, the oldest first. A node is open until a worker claims it, then out
-- until the worker says what it is.
use Rattle.std.specs.Prelude.{◌≡◌, ℕ, ◌+◌, ◌≤◌, ◌<◌, ◌==◌, Bool, true, false, not, ◌&&◌, ◌||◌, List, [], ◌∷◌, ◌++◌, Option, Some, None, if◌then◌else◌}
use Rattle.std.specs.List.{list_any, sum_by, fold, filter}
use Rattle.std.specs.Ordering.{is_gt}
use Rattle.oz_search.specs.declared.history.Entry.{Entry}
use Rattle.oz_search.specs.declared.history.Entry.TheVariants.{Claim, Split, Leaf, Stop}
use Rattle.oz_search.specs.declared.history.Halt.{Halt}
use Rattle.oz_search.specs.declared.history.StopCause.{StopCause}
use Rattle.oz_search.specs.declared.history.StopCause.TheVariants.{Memory, Fuel, Total}
use Rattle.oz_search.specs.declared.tree.Report.{Report}
use Rattle.oz_search.specs.declared.tree.Kind.TheVariants.{Alternatives, End}
use Rattle.oz_search.specs.Searches.{Search}
use Rattle.oz_search.specs.Paths.{same_path, same_alternative, is_child, alternatives_cmp}
use Rattle.oz_search.specs.Trees.{report}
use Rattle.oz_search.specs.Nodes.{Fuelled, IsNodeAt}

abbrev pub History : Type 0 → Type 0 → Type 0
History B L = List (Entry (List B) L)

-- ---- of an entry

-- the steps that it adds
abbrev pub steps_of : {B L : Type 0} → Entry (List B) L → ℕ
steps_of (Claim w q) = 0
steps_of (Split w q n s) = s
steps_of (Leaf w q l s) = s
steps_of (Stop h) = 0

-- the number of the worker whose it is
abbrev pub worker_of : {B L : Type 0} → Entry (List B) L → ℕ
worker_of (Claim w p) = w
worker_of (Split w p n s) = w
worker_of (Leaf w p l s) = w
worker_of (Stop e) = e.worker

-- ---- of a history

-- the steps of all entries
abbrev pub total_of : {B L : Type 0} → History B L → ℕ
total_of h = sum_by steps_of h

-- the first stop
abbrev pub stop_of : {B L : Type 0} → History B L → Option Halt
stop_of [] = None
stop_of (Claim w q ∷ h) = stop_of h
stop_of (Split w q n s ∷ h) = stop_of h
stop_of (Leaf w q l s ∷ h) = stop_of h
stop_of (Stop e ∷ h) = Some e

-- the entries of the worker w
abbrev pub own : {B L : Type 0} → ℕ → History B L → History B L
own w h = filter (λ e. worker_of e == w) h

-- the claim of the worker w after one entry more, where c was its claim
abbrev pub claim_after : {B L : Type 0} → ℕ → Option (List B) → Entry (List B) L → Option (List B)
claim_after w c (Claim v q) = if w == v then Some q else c
claim_after w c (Split v q n s) = if w == v then None else c
claim_after w c (Leaf v q l s) = if w == v then None else c
claim_after w c (Stop e) = c

-- the path that w has out, by its own entries alone: what it has claimed last and not settled. In a history that replays,
-- is_out_to says the same
abbrev pub claim_of : {B L : Type 0} → History B L → ℕ → Option (List B)
claim_of h w = fold (claim_after w) None h

module _ {B L : Type 0} (k : Search B L) where
  -- ---- what an entry does

  -- it claims p
  abbrev pub claims : List B → Entry (List B) L → Bool
  claims p (Claim w q) = same_path k p q
  claims p (Split w q n s) = false
  claims p (Leaf w q l s) = false
  claims p (Stop h) = false

  -- it is w's claim of p
  abbrev pub claims_as : ℕ → List B → Entry (List B) L → Bool
  claims_as w p (Claim v q) = (w == v) && same_path k p q
  claims_as w p (Split v q n s) = false
  claims_as w p (Leaf v q l s) = false
  claims_as w p (Stop h) = false

  -- it claims the alternative to which p leads, by whatever branch
  abbrev pub claims_alternative : List B → Entry (List B) L → Bool
  claims_alternative p (Claim w q) = same_alternative k p q
  claims_alternative p (Split w q n s) = false
  claims_alternative p (Leaf w q l s) = false
  claims_alternative p (Stop h) = false

  -- it says what the node at p is
  abbrev pub settles : List B → Entry (List B) L → Bool
  settles p (Claim w q) = false
  settles p (Split w q n s) = same_path k p q
  settles p (Leaf w q l s) = same_path k p q
  settles p (Stop h) = false

  -- it splits a node of which p is a child
  abbrev pub offers : List B → Entry (List B) L → Bool
  offers p (Claim w q) = false
  offers p (Split w q n s) = is_child k q n p
  offers p (Leaf w q l s) = false
  offers p (Stop h) = false

  -- ---- what a history says

  -- the root is offered, and each child of a split node
  abbrev pub is_offered : History B L → List B → Bool
  is_offered h p = same_path k p [] || list_any (offers p) h

  -- somebody has claimed p
  abbrev pub is_claimed : History B L → List B → Bool
  is_claimed h p = list_any (claims p) h

  -- somebody has claimed the alternative to which p leads
  abbrev pub is_alternative_claimed : History B L → List B → Bool
  is_alternative_claimed h p = list_any (claims_alternative p) h

  -- somebody has said what the node at p is
  abbrev pub is_settled : History B L → List B → Bool
  is_settled h p = list_any (settles p) h

  -- p is open: offered, and the alternative to which it leads is claimed by nobody
  abbrev pub is_open : History B L → List B → Bool
  is_open h p = is_offered h p && not (is_alternative_claimed h p)

  -- p is out: claimed, and not settled
  abbrev pub is_out : History B L → List B → Bool
  is_out h p = is_claimed h p && not (is_settled h p)

  -- p is out, and it is w that has claimed it
  abbrev pub is_out_to : History B L → ℕ → List B → Bool
  is_out_to h w p = list_any (claims_as w p) h && not (is_settled h p)

  abbrev pub IsNothingOpen : History B L → Type 0
  IsNothingOpen h = (p : List B) → is_open h p ≡ false

  abbrev pub IsNothingOut : History B L → Type 0
  IsNothingOut h = (p : List B) → is_out h p ≡ false

  -- p is open, and no open path is further to the left
  abbrev pub IsLeftmost : History B L → List B → Type 0
  IsLeftmost h p = (is_open h p ≡ true) × ((q : List B) → is_open h q ≡ true → is_gt (alternatives_cmp k p q) ≡ false)

  -- w has no claim out
  abbrev pub IsFree : History B L → ℕ → Type 0
  IsFree h w = (p : List B) → is_out_to h w p ≡ false

  -- w has one out
  abbrev pub HasClaim : History B L → ℕ → Type 0
  HasClaim h w = (p : List B) × (is_out_to h w p ≡ true)

  -- ---- which histories replay

  -- after h, the worker w may stop for this cause
  abbrev pub MayStop : ℕ → History B L → ℕ → StopCause → Type 0
  MayStop budget h w Memory = Unit {0}
  MayStop budget h w Fuel = HasClaim h w
  MayStop budget h w (Total t) = HasClaim h w × (budget < t)

  -- the entry may come after h
  abbrev pub IsAllowed : ℕ → History B L → Entry (List B) L → Type 0
  IsAllowed budget h (Claim w p) = IsLeftmost h p × IsFree h w × (k.admits h p ≡ true)
  IsAllowed budget h (Split w p n s) = (is_out_to h w p ≡ true) × (1 ≤ n) × (1 ≤ s) × (total_of h + s ≤ budget)
  IsAllowed budget h (Leaf w p l s) = (is_out_to h w p ≡ true) × (1 ≤ s) × (total_of h + s ≤ budget)
  IsAllowed budget h (Stop e) = MayStop budget h e.worker e.cause

  -- each entry is allowed by those before it, and nothing follows a stop
  abbrev pub Replays : ℕ → History B L → Type 0
  Replays budget h = (before : History B L) (e : Entry (List B) L) (after : History B L) → h ≡ before ++ e ∷ after → (stop_of before ≡ None) × IsAllowed budget before e

-- ---- which histories are legal for a tree, where a node has at most the steps of the whole budget

module _ {B L : Type 0} (within : Fuelled B L) where
  -- a stop of the worker w after these entries agrees with the node that it has claimed: for want of fuel, where the node is not
  -- there within the budget, since it has more own steps; by the total, where this is the total before with the node's own steps
  abbrev pub AgreesStop : ℕ → History B L → ℕ → StopCause → Type 0
  AgreesStop budget before w Memory = Unit {0}
  AgreesStop budget before w Fuel = (p : List B) × (claim_of before w ≡ Some p) × (within budget p ≡ None)
  AgreesStop budget before w (Total t) = (p : List B) × (r : Report L) × (claim_of before w ≡ Some p) × IsNodeAt within p r × (t ≡ total_of before + r.steps)

  -- the entry says what the tree has there
  abbrev pub AgreesAt : ℕ → History B L → Entry (List B) L → Type 0
  AgreesAt budget before (Claim w p) = Unit {0}
  AgreesAt budget before (Split w p n s) = within budget p ≡ Some (report (Alternatives n) s)
  AgreesAt budget before (Leaf w p l s) = within budget p ≡ Some (report (End l) s)
  AgreesAt budget before (Stop e) = AgreesStop budget before e.worker e.cause

  -- all entries do
  abbrev pub Agrees : ℕ → History B L → Type 0
  Agrees budget h = (before : History B L) (e : Entry (List B) L) (after : History B L) → h ≡ before ++ e ∷ after → AgreesAt budget before e

  -- it replays and agrees with the tree
  abbrev pub IsLegal : Search B L → ℕ → History B L → Type 0
  IsLegal k budget h = Replays k budget h × Agrees budget h
