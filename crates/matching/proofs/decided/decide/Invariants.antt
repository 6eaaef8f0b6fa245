use Rattle.std.proofs.Common.{◌≡◌, ◌∷◌, [], length}
use Rattle.oz_semantics.specs.Matching.{matched}
use Rattle.matching.specs.Lefts.{subjects_of}
use Rattle.matching.proofs.decided.decide.Given as goal

-- what is left comes to what the whole does
abbrev pub invariant-nodes : goal.invariant-nodes
invariant-nodes l = matched l.store l.left.nodes.now (subjects_of l.left) l.extended ≡ matched l.store l.pattern (l.subject ∷ []) l.environment

abbrev pub decreases-nodes : goal.decreases-nodes
decreases-nodes l = length l.left.nodes.now
