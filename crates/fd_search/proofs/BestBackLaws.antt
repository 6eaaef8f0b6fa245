-- Best search: what a run comes to is known before each of its steps.
use Rattle.std.proofs.Common.{ℕ, suc}
use Rattle.oz_language.specs.declared.kernel.Constant.{Constant}
use Rattle.oz_semantics.specs.declared.configuration.Configuration.{Configuration}
use Rattle.fd_stores.specs.Stores.{Store, Runs, Fails}
use Rattle.fd_turns.specs.Nodes.{failed_config}
use Rattle.fd_turns.specs.Moves.{stays, moves}
use Rattle.fd_search.specs.Laws.{Setting, StepsTo}
use Rattle.fd_search.specs.BestSearching.{EndsBelow, failed, solved, divided, ComesBelow, StepsBelowLaw}
use Rattle.fd_search.proofs.BackLaws.{fails_then, rests_then, failed_stops, failed_state}

module _ (its : Setting) (feature : Constant) (cost : ℕ) where
  ends_then : (c : Configuration) (s m : Store) → Runs its.constraints s m → EndsBelow its feature cost c m → EndsBelow its feature cost c s
  ends_then c s m r (failed f e) = failed (fails_then its.constraints s m r f) e
  ends_then c s m r (solved n q e f g h) = solved n (rests_then its.constraints s m n r q) e f g h
  ends_then c s m r (divided n p q e f g h) = divided n p (rests_then its.constraints s m n r q) e f g h

  pub back_below : (c e : Configuration) (s m : Store) → StepsTo its.kernel c e → Runs its.constraints s m → ComesBelow its feature cost e m → ComesBelow its feature cost c s
  back_below c e s m h r q = record { last = q.last; turns = suc q.turns; moves = moves h.0 h.1 q.moves; stops = q.stops; ends = ends_then q.last s m r q.ends }

  pub failing_below : (c : Configuration) (n : ℕ) (s : Store) → StepsTo its.kernel c (failed_config its.top n) → Fails its.constraints s → ComesBelow its feature cost c s
  failing_below c n s h f = record {
    last = failed_config its.top n;
    turns = 1;
    moves = moves h.0 h.1 stays;
    stops = failed_stops its.kernel.statements its.top n;
    ends = failed f (failed_state its.kernel.statements its.top n);
  }

  pub steps_below_law : StepsBelowLaw its feature cost
  steps_below_law = record { back = back_below; failing = failing_below }
