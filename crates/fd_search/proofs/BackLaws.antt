-- What a run comes to is known before each of its steps.
use Rattle.std.proofs.Common.{◌≡◌, ℕ, suc, false, List, Some, refl}
use Rattle.oz_language.specs.declared.kernel.Statement.{Statement}
use Rattle.oz_semantics.specs.Spaces.{goes_on, state}
use Rattle.oz_semantics.specs.declared.configuration.Configuration.{Configuration}
use Rattle.oz_semantics.specs.declared.outcome.State.TheVariants.{Failed}
use Rattle.fd_stores.specs.Stores.{Store, Constraint, Runs, Fails, Rests}
use Rattle.fd_turns.specs.Nodes.{Top, node_space, failed_config}
use Rattle.fd_turns.specs.Moves.{stays, moves}
use Rattle.fd_steps.proofs.DueTurns.{runs_then}
use Rattle.fd_search.specs.Searching.{Ends, failed, solved, divided}
use Rattle.fd_search.specs.Laws.{Setting, Stands, Arrives, StepsTo, StepsLaw}

-- ---- runs before

pub fails_then : (cs : List Constraint) (s m : Store) → Runs cs s m → Fails cs m → Fails cs s
fails_then cs s m r f = record { before = f.before; runs = runs_then cs r f.runs; constraint = f.constraint; among = f.among; fails = f.fails }

pub rests_then : (cs : List Constraint) (s m e : Store) → Runs cs s m → Rests cs m e → Rests cs s e
rests_then cs s m e r q = record { runs = runs_then cs r q.runs; rest = q.rest }

-- ---- a space that has failed

pub failed_stops : (statements : List Statement) (t : Top) (n : ℕ) → goes_on statements (failed_config t n).layers node_space ≡ false
failed_stops statements t n = refl

pub failed_state : (statements : List Statement) (t : Top) (n : ℕ) → state statements (failed_config t n).layers node_space ≡ Some Failed
failed_state statements t n = refl

module _ (its : Setting) where
  abbrev EndsAt : Configuration → Store → Type 0
  EndsAt c s = Ends its.kernel its.constraints its.distribution its.shown (Stands its) c s

  ends_then : (c : Configuration) (s m : Store) → Runs its.constraints s m → EndsAt c m → EndsAt c s
  ends_then c s m r (failed f e) = failed (fails_then its.constraints s m r f) e
  ends_then c s m r (solved n q e f g) = solved n (rests_then its.constraints s m n r q) e f g
  ends_then c s m r (divided n p q e f g h) = divided n p (rests_then its.constraints s m n r q) e f g h

  pub back : (c e : Configuration) (s m : Store) → StepsTo its.kernel c e → Runs its.constraints s m → Arrives its e m → Arrives its c s
  back c e s m h r q = record { last = q.last; turns = suc q.turns; moves = moves h.0 h.1 q.moves; stops = q.stops; ends = ends_then q.last s m r q.ends }

  pub failing : (c : Configuration) (n : ℕ) (s : Store) → StepsTo its.kernel c (failed_config its.top n) → Fails its.constraints s → Arrives its c s
  failing c n s h f = record {
    last = failed_config its.top n;
    turns = 1;
    moves = moves h.0 h.1 stays;
    stops = failed_stops its.kernel.statements its.top n;
    ends = failed f (failed_state its.kernel.statements its.top n);
  }

  pub steps_law : StepsLaw its
  steps_law = record { back = back; failing = failing }
