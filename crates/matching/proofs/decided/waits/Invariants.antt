use Rattle.std.proofs.Common.{◌≡◌, ◌∷◌, [], length}
use Rattle.environments.specs.Environments.{Environment}
use Rattle.oz_semantics.specs.Matching.{matched}
use Rattle.matching.specs.Lefts.{subjects_of}
use Rattle.matching.specs.Verdicts.{waits_in}
use Rattle.matching.proofs.decided.waits.Given as goal

-- what is left waits for what the whole does
abbrev pub invariant-nodes : goal.invariant-nodes
invariant-nodes l =
    (environment : Environment) → waits_in (matched l.store l.left.nodes.now (subjects_of l.left) environment) ≡ waits_in (matched l.store l.pattern (l.subject ∷ []) environment)

abbrev pub decreases-nodes : goal.decreases-nodes
decreases-nodes l = length l.left.nodes.now
