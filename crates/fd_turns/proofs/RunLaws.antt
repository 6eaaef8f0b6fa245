-- The turns of propagators.
use Rattle.std.proofs.Common.{◌≡◌, ℕ, Bool, true, false, if◌then◌else◌, List, [], ◌∷◌, ◌++◌, Option, Some, None, option_map, refl, sym, ◌∙◌, ap, subst}
use Rattle.std.specs.List.{find}
use Rattle.oz_base.specs.Lists.{edit_first, first_given, given_or}
use Rattle.oz_language.specs.declared.kernel.Statement.{Statement}
use Rattle.oz_language.specs.declared.kernel.Kernel.{Kernel}
use Rattle.oz_semantics.specs.Store.{View, is_consistent}
use Rattle.oz_semantics.specs.Configurations.{view, in_layer}
use Rattle.oz_semantics.specs.Sights.{can_step}
use Rattle.oz_semantics.specs.Readiness.{answer_ready}
use Rattle.oz_semantics.specs.Propagation.{is_due, noted, Run, Fails, Narrows, run_of, after_run}
use Rattle.oz_semantics.specs.Settling.{Turned, settled}
use Rattle.oz_semantics.specs.Schedule.{due_in, least_due, after_run_of, propagated, turn_of, turn}
use Rattle.oz_semantics.specs.declared.value.Tell.{Tell}
use Rattle.oz_semantics.specs.declared.configuration.LastRun.TheVariants.{Saw}
use Rattle.oz_semantics.specs.declared.configuration.Propagator.{Propagator}
use Rattle.oz_semantics.specs.declared.configuration.Layer.{Layer}
use Rattle.oz_semantics.specs.declared.configuration.Configuration.{Configuration}
use Rattle.oz_semantics.specs.declared.outcome.Stepped.TheVariants.{Moved}
use Rattle.fd_turns.specs.Nodes.{Top, Node, top_layer, node_space, node_thread, node_layer, seen, answered, config, failed_layer, failed_config}
use Rattle.fd_turns.proofs.SettleLaws.{IsPlainAnswer, queue_if, queue_rested, view_is, settled_as, settled_failed}

-- after a run of the first propagator that is due, in which it saw these domains
abbrev pub ran : View → Propagator → List Tell → Node → Node
ran v p ts s = record s { tells = s.tells ++ ts; propagators = edit_first (is_due v) (λ (q : Propagator). record q { last = Saw (noted v p.variables) }) s.propagators }

module _ (k : Kernel) (t : Top) (s : Node) where
  abbrev layers : List Layer
  layers = top_layer t ∷ node_layer s ∷ []

  abbrev here : Configuration
  here = config k.statements t s

  -- the first of them that is due is the least of all
  pub least_is : least_due layers ≡ option_map (λ p. (node_layer s, p)) (find (is_due (seen t s)) s.propagators)
  least_is = ap (λ v. given_or (option_map (λ p. (node_layer s, p)) (find (is_due v) s.propagators)) None) (view_is k.statements t s) ∙ by (option_map (λ p. (node_layer s, p)) (find (is_due (seen t s)) s.propagators)) where
    by : {A : Type 0} (o : Option A) → given_or o None ≡ o
    by None = refl
    by (Some a) = refl

  module _ (p : Propagator) (due : find (is_due (seen t s)) s.propagators ≡ Some p) where
    turn_is : turn k here ≡ after_run_of k.statements (node_layer s) p here (run_of (seen t s) p)
    turn_is =
        ap (turn_of k here) (least_is ∙ ap (option_map (λ q. (node_layer s, q))) due)
        ∙ ap (λ v. after_run_of k.statements (node_layer s) p here (run_of v p)) (view_is k.statements t s)

    pub runs_on : (ts : List Tell) → run_of (seen t s) p ≡ Narrows ts → is_consistent t.tells ≡ true → is_consistent (seen t (ran (seen t s) p ts s)) ≡ true → IsPlainAnswer (answered k.statements t (ran (seen t s) p ts s))
        → turn k here ≡ (Moved 1, config k.statements t (ran (seen t s) p ts s))
    runs_on ts e a b c =
        turn_is ∙ ap (after_run_of k.statements (node_layer s) p here) e
        ∙ ap (λ v. settled k.statements None 1 (record here { layers = top_layer t ∷ node_layer (ran v p ts s) ∷ [] })) (view_is k.statements t s)
        ∙ settled_as k.statements t (ran (seen t s) p ts s) c a b None here.queue (queue_rested _ _)

    pub runs_out : run_of (seen t s) p ≡ Fails → is_consistent t.tells ≡ true → turn k here ≡ (Moved 1, failed_config t s.next)
    runs_out e a = turn_is ∙ ap (after_run_of k.statements (node_layer s) p here) e ∙ settled_failed k.statements t s.next a None (can_step (answer_ready (answered k.statements t s)))
