-- When a search is over, and what a worker is told.
use Rattle.std.proofs.Common.{◌≡◌, ℕ, ◌≤◌, List, [], ◌∷◌, ◌++◌, Option, Some, None, Result, Ok, Err, MatchResult, inl, inr, refl, sym, ap, subst, ◌∙◌}
use mathlib.Core.List.{IsPrefix}
use Rattle.oz_search.specs.Searches.{Search, IsSearch}
use Rattle.oz_search.specs.Histories.{History, Replays, IsNothingOpen, IsNothingOut, stop_of}
use Rattle.oz_search.specs.Nodes.{Maker, IsMaker, Met, Node, OutOfFuel, NotANode, report_met, tree}
use Rattle.oz_search.specs.Trees.{Tree}
use Rattle.oz_search.specs.declared.history.Entry.{Entry}
use Rattle.oz_search.specs.declared.history.Entry.TheVariants.{Claim, Split, Leaf, Stop}
use Rattle.oz_search.specs.declared.history.Halt.{Halt}
use Rattle.oz_search.specs.declared.history.StopCause.{StopCause}
use Rattle.oz_search.specs.declared.history.StopCause.TheVariants as causes
use Rattle.oz_search.specs.declared.tree.Report.{Report}
use Rattle.oz_semantics.specs.declared.configuration.Configuration.{Configuration}
use Rattle.search_law.proofs.Entries.{stop_push}
use Rattle.search_law.proofs.Last.{stays_law}
use Rattle.search_law.proofs.NodeLaws.{tree_law}
use Rattle.pool_state.specs.Pool.{AnswersClaim, after_stop, halt, unless_stopped}
use Rattle.pool_state.specs.declared.pool.Claimed.{Claimed}
use Rattle.pool_state.specs.declared.pool.Claimed.TheVariants as claimed
use Rattle.pool_state.specs.declared.pool.Settled.{Settled}
use Rattle.pool_state.specs.declared.pool.Settled.TheVariants as settled
use Rattle.node_pool.specs.Workers.{PoolView, WorkerView, IsOf, IsOnlyLater, claim, number}
use Rattle.node_pool.specs.Calls.{ClaimTurn, StopTurn, SettleTurn, claim_left}
use Rattle.recompute.specs.Origins.{Origin, met_by}
use Rattle.recompute.specs.Ways.{answer_of}
use Rattle.recompute.specs.declared.explorer.Solved.TheVariants as solved
use Rattle.search_crew.specs.Crews.{IsOver, IsReady, IsSame, HasExplored, IsTold}

module _ {B L : Type 0} where
  -- ---- stops

  -- the first stop stays the first
  stop_stays : (h t : History B L) (e : Halt) → stop_of h ≡ Some e → stop_of (h ++ t) ≡ Some e
  stop_stays [] t e i = absurd (cc (i))
  stop_stays (Claim w q ∷ h) t e i = stop_stays h t e i
  stop_stays (Split w q n s ∷ h) t e i = stop_stays h t e i
  stop_stays (Leaf w q l s ∷ h) t e i = stop_stays h t e i
  stop_stays (Stop x ∷ h) t e i = i

  -- after a stop somebody has stopped
  stopped_after : (h : History B L) (x : Halt) → (e : Halt) × (stop_of (after_stop h x) ≡ Some e)
  stopped_after h x = by (stop_of h) refl
    where
      by : (o : Option Halt) → stop_of h ≡ o → (e : Halt) × (stop_of (unless_stopped o h x) ≡ Some e)
      by None i = (x, stop_push h (Stop x) i)
      by (Some e) i = (e, i)

  over_by : (k : Search B L) (h u : History B L) (e : Halt) → stop_of h ≡ Some e → u ≡ h → IsOver k u
  over_by k h u e i same = inr (e, ap stop_of same ∙ i)

  -- what is over stays over
  pub over_stays : (k : Search B L) → IsSearch k → (budget : ℕ) (h u : History B L) → Replays k budget u → IsPrefix h u → IsOver k h → IsOver k u
  over_stays k its budget h u replays prefix (inl is) =
      inl (subst (λ (x : History B L). IsNothingOpen k x × IsNothingOut k x) prefix.1
      (stays_law B L k its budget h prefix.0 (subst (Replays k budget) (sym prefix.1) replays) is.0 is.1))
  over_stays k its budget h u replays prefix (inr (e, i)) = inr (e, ap stop_of (sym prefix.1) ∙ stop_stays h prefix.0 e i)

module _ {T B L : Type 0} where
  -- ---- the same worker, later

  pub later_of : (p : PoolView T) (w u : WorkerView T B L) → IsOf w p → IsOnlyLater w u → IsOf u p
  later_of p w u is same = (ap (λ (x : WorkerView T B L). x.lock) same ∙ is.0, ap (λ (x : WorkerView T B L). x.mark) same ∙ is.1)

  pub later_same : (w u : WorkerView T B L) → IsOnlyLater w u → IsSame w u
  later_same w u same = (ap (λ (x : WorkerView T B L). x.numbers) same, ap (λ (x : WorkerView T B L). x.drawn) same)

  -- it stops
  pub stops : (k : Search B L) (p : PoolView T) (cause : StopCause) (w u : WorkerView T B L) → IsOf w p → IsOnlyLater w u → StopTurn cause w u → HasExplored k p w u
  stops k p cause w u is same turn =
      let x = stopped_after turn.0 (halt (number w) cause) in
      (later_of p w u is same, later_same w u same, inr (x.0, ap stop_of turn.2 ∙ x.1))

  -- it was told of a node
  pub told : {E : Type 0} (k : Search B L) (budget steps : ℕ) (e : Entry (List B) L) (w u : WorkerView T B L) (r : Result Settled E) → claim u ≡ claim_left (claim w) r
      → SettleTurn budget steps e w r u → IsTold k u r
  told k budget steps e w u (Ok settled.Done) c turn = c
  told k budget steps e w u (Ok (settled.Spent t)) c turn =
      let x = halt (number w) (causes.Total t) in
      inr (x, ap stop_of turn.2.3 ∙ stop_push turn.0 (Stop x) turn.2.0)
  told k budget steps e w u (Ok (settled.Stopped x)) c turn = over_by k turn.0 u.seen x turn.2.0 turn.2.1
  told k budget steps e w u (Err x) c turn = tt

  -- ---- claims

  -- the worker was told that nothing is open and nothing out
  pub finishes : {E : Type 0} (k : Search B L) (p : PoolView T) (first w u : WorkerView T B L) (r : Result (Claimed (List B)) E) → IsReady p w → IsSame first w → IsOnlyLater w u
      → ClaimTurn k w r u → r ≡ Ok claimed.Finished → HasExplored k p first u
  finishes {E} k p first w u r ready same later turn e =
      let now = later_same w u later in
      let found : AnswersClaim k turn.0 (number w) claimed.Finished u.seen = subst (λ (x : Result (Claimed (List B)) E). MatchResult x (λ a. AnswersClaim k turn.0 (number w) a u.seen) (λ y. u.seen ≡ turn.0)) e turn.2 in (
        later_of p w u ready.0 later,
        (now.0 ∙ same.0, now.1 ∙ same.1),
        inl (subst (λ (x : History B L). IsNothingOpen k x × IsNothingOut k x) (sym found.3) (found.1, found.2)),
      )

-- ---- the node at a path

module _ {L : Type 0} where
  node_of : (m : Met Configuration L) (r : Report L) → solved.Node r ≡ answer_of m → report_met m ≡ Some r
  node_of (Node x) r e = cc (e)
  node_of (OutOfFuel at) r e = absurd (cc (e))
  node_of (NotANode at) r e = absurd (cc (e))

  none_of_fuel : (m : Met Configuration L) (at : ℕ) → solved.OutOfFuel at ≡ answer_of m → report_met m ≡ None
  none_of_fuel (Node x) at e = absurd (cc (e))
  none_of_fuel (OutOfFuel n) at e = refl
  none_of_fuel (NotANode n) at e = absurd (cc (e))

  none_of_node : (m : Met Configuration L) (at : ℕ) → solved.NotANode at ≡ answer_of m → report_met m ≡ None
  none_of_node (Node x) at e = absurd (cc (e))
  none_of_node (OutOfFuel n) at e = absurd (cc (e))
  none_of_node (NotANode n) at e = refl

-- in a tree whose nodes the maker makes
module _ {B L : Type 0} (k : Search B L) (m : Maker B L Configuration) (o : Origin) (fuel : ℕ) (within : Tree B L) (grows : within ≡ tree k m fuel o.config) (p : List B) where
  pub node_there : (r : Report L) → solved.Node r ≡ answer_of (met_by k m o fuel p) → within p ≡ Some r
  node_there r e = ap (λ (x : Tree B L). x p) grows ∙ node_of (met_by k m o fuel p) r e

  pub short_there : (at : ℕ) → solved.OutOfFuel at ≡ answer_of (met_by k m o fuel p) → within p ≡ None
  short_there at e = ap (λ (x : Tree B L). x p) grows ∙ none_of_fuel (met_by k m o fuel p) at e

  pub refused_there : (at : ℕ) → solved.NotANode at ≡ answer_of (met_by k m o fuel p) → within p ≡ None
  refused_there at e = ap (λ (x : Tree B L). x p) grows ∙ none_of_node (met_by k m o fuel p) at e

  pub node_costs : IsMaker m → (r : Report L) → solved.Node r ≡ answer_of (met_by k m o fuel p) → (1 ≤ r.steps) × (r.steps ≤ fuel)
  node_costs is r e = (tree_law B L Configuration k m is o.config).costs fuel p r (node_of (met_by k m o fuel p) r e)
