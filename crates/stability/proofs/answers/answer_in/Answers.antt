use Rattle.std.proofs.Common.{sym, ap, subst, ◌∙◌, option_copied}
use Rattle.std.proofs.lemmas.Result.{IfOk-weaker}
use Rattle.oz_semantics.specs.Answers as answers
use Rattle.oz_semantics.specs.Operations.{by_state}
use Rattle.oz_semantics.specs.Statements.{code_answer}
use Rattle.oz_semantics.specs.Spaces.{sight}
use Rattle.operations.specs.Outcomes.{IsOutcome}
use Rattle.stability.specs.Known.{known}
use Rattle.stability.proofs.AnsweredLaws.{none_answers, top_answer}
use Rattle.stability.proofs.answers.answer_in.Goals as goal

pub returns-in-None : goal.returns-in-None
returns-in-None c =
    λ l e frames h. none_answers c.args.statements.now c.args.levels.now (known c.args.levels.now c.args.states.now) l.space frames (h ∙ ap option_copied c.in-None.is)

pub returns-in_ok-answer-in-Some : goal.returns-in_ok-answer-in-Some
returns-in_ok-answer-in-Some c =
    λ l e.
    let layers = c.args.levels.now in
    let own = sight c.args.statements.now layers l.space in
    let frame = c.in-Some.frame.now in
    IfOk-weaker c.resolved.result _ _
    (λ o h frames k.
    subst (λ (a : answers.Answer). IsOutcome (by_state layers own (known layers c.args.states.now) a) o) (sym (top_answer own frames frame (k ∙ ap option_copied c.in-Some.is))) h)
    (c.resolved.ensures l e c.args.statements.now (code_answer own frame.environment frame.code)
    (rw (c.space_at-space.ensures l e, c.store_at-store.ensures l e) at c.in_ok-answer-in-Some.ensures))
