-- Best search: the run of the space ends, once its thread distributes.
use Rattle.std.proofs.Common.{[], ◌∷◌, sym, subst}
use Rattle.fd_search.specs.BestSearching.{ComesBelow, RunBelowLaw}
use Rattle.fd_search.proofs.NextLaws.{conf}
use Rattle.fd_search.proofs.RunLaws.{arrives, full_stands}
use Rattle.fd_search.proofs.BestBackLaws.{back_below, failing_below}
use Rattle.fd_search.proofs.BestEndLaws.{comes_solved, comes_divided}

pub run_below_law : RunBelowLaw
run_below_law its feature cost c s g k h =
    subst (λ z. ComesBelow its feature cost z s) (sym h.here)
    (subst (ComesBelow its feature cost (conf its h.state (h.frame ∷ []))) h.store
    (arrives its g (ComesBelow its feature cost) (back_below its feature cost) (failing_below its feature cost) (comes_solved its g feature cost k) (comes_divided its g feature cost k) h.state (full_stands its c s h) h.frame h.distributes))
