use Rattle.std.proofs.Common.{◌∙◌, sym}
use Rattle.matching.proofs.MatchLaws.{when_over}
use Rattle.matching.proofs.decided.decide.Goals as goal

pub returns : goal.returns
returns c = sym (when_over c.args.store.now c.nodes.left c.nodes.extended c.in_default.ensures) ∙ c.nodes.invariant
