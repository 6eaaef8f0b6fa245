use Rattle.std.proofs.Common.{◌∙◌, sym, ap}
use Rattle.matching.specs.Verdicts.{waits_in}
use Rattle.matching.proofs.MatchLaws.{when_over, taken_waits}
use Rattle.matching.proofs.decided.waits.Goals as goal

pub nodes-preserved : goal.nodes-preserved
nodes-preserved c = λ environment.
    taken_waits c.args.store.now c.nodes.left c.take.new.self c.enter.new.self c.in-Some.piece.now c.in-Some.place.now c.in-Fields.fields environment c.in-Some.ensures c.in-Fields.ensures
    c.in_ok-enter-in-Fields.ensures.nodes c.in_ok-enter-in-Fields.ensures.subjects
    ∙ c.nodes.invariant environment

pub returns : goal.returns
returns c = λ environment. sym (ap waits_in (when_over c.args.store.now c.nodes.left environment c.in_default.ensures)) ∙ c.nodes.invariant environment
