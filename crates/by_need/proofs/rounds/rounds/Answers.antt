use Rattle.std.proofs.Common.{◌∙◌, ◌-◌, sym, subst, arith}
use Rattle.by_need.specs.Rounds.{IsRound}
use Rattle.by_need.proofs.RoundLaws.{no_round, round_more, no_more}
use Rattle.by_need.proofs.rounds.rounds.Goals as goal

pub passes-preserved : goal.passes-preserved
passes-preserved c =
    sym (round_more c.args.statements.now c.passes.more (c.passes.more - 1) _ _ (omega (arith, c.passes-test.true))
    (rw c.latest.ensures at (subst (IsRound c.args.statements.now c.latest.result.now) c.in-Some.is c.in_ok-round.ensures)))
    ∙ c.passes.invariant

pub returns-in-None : goal.returns-in-None
returns-in-None c =
    sym (no_round c.args.statements.now c.passes.more _ (rw c.latest.ensures at (subst (IsRound c.args.statements.now c.latest.result.now) c.in-None.is c.in_ok-round.ensures)))
    ∙ c.passes.invariant

pub returns : goal.returns
returns c = sym (no_more c.args.statements.now c.passes.more _ (omega (arith, c.passes-test.false))) ∙ c.passes.invariant
