use Rattle.std.proofs.Common.{ap, subst}
use Rattle.std.proofs.lemmas.Result.{IfOk-weaker}
use Rattle.oz_semantics.specs.Statements.{code_answer}
use Rattle.oz_semantics.specs.Spaces.{sight}
use Rattle.builtins.specs.Answers.{IsAnswer}
use Rattle.stability.specs.Known.{known}
use Rattle.stability.proofs.AnsweredLaws.{is_operation, top_alone, top_operates}
use Rattle.stability.proofs.readiness.resolved.Goals as goal

pub returns-in-Operates : goal.returns-in-Operates
returns-in-Operates c =
    λ l e.
    let layers = c.args.levels.now in
    let own = sight c.args.statements.now layers l.space in
    let is = rw (c.space_at-space.ensures l e, c.store_at-store.ensures l e) at c.in_ok-answer.ensures in
    IfOk-weaker c.operation_ready.result _ _
    (λ r h t k plain.
    top_operates c.args.statements.now layers (known layers c.args.states.now) l.space t r c.args.frame.now _ _ _ k (subst (IsAnswer (code_answer own c.args.frame.now.environment c.args.frame.now.code)) c.in-Operates.is is) (h c.args.statements.now))
    (c.operation_ready.ensures l e)

pub returns-in-Acts : goal.returns-in-Acts
returns-in-Acts c =
    λ l e t k plain.
    top_alone c.args.statements.now c.args.levels.now (known c.args.levels.now c.args.states.now) l.space t c.args.ready c.args.frame.now c.in_ok-answer.answer k
    (rw (c.space_at-space.ensures l e, c.store_at-store.ensures l e) at c.in_ok-answer.ensures) (ap is_operation c.in-Acts.is) plain

pub returns-in-Edits : goal.returns-in-Edits
returns-in-Edits c =
    λ l e t k plain.
    top_alone c.args.statements.now c.args.levels.now (known c.args.levels.now c.args.states.now) l.space t c.args.ready c.args.frame.now c.in_ok-answer.answer k
    (rw (c.space_at-space.ensures l e, c.store_at-store.ensures l e) at c.in_ok-answer.ensures) (ap is_operation c.in-Edits.is) plain

pub returns-in-RaisesKind : goal.returns-in-RaisesKind
returns-in-RaisesKind c =
    λ l e t k plain.
    top_alone c.args.statements.now c.args.levels.now (known c.args.levels.now c.args.states.now) l.space t c.args.ready c.args.frame.now c.in_ok-answer.answer k
    (rw (c.space_at-space.ensures l e, c.store_at-store.ensures l e) at c.in_ok-answer.ensures) (ap is_operation c.in-RaisesKind.is) plain

pub returns-in-RaisesTerm : goal.returns-in-RaisesTerm
returns-in-RaisesTerm c =
    λ l e t k plain.
    top_alone c.args.statements.now c.args.levels.now (known c.args.levels.now c.args.states.now) l.space t c.args.ready c.args.frame.now c.in_ok-answer.answer k
    (rw (c.space_at-space.ensures l e, c.store_at-store.ensures l e) at c.in_ok-answer.ensures) (ap is_operation c.in-RaisesTerm.is) plain

pub returns-in-Widens : goal.returns-in-Widens
returns-in-Widens c =
    λ l e t k plain.
    top_alone c.args.statements.now c.args.levels.now (known c.args.levels.now c.args.states.now) l.space t c.args.ready c.args.frame.now c.in_ok-answer.answer k
    (rw (c.space_at-space.ensures l e, c.store_at-store.ensures l e) at c.in_ok-answer.ensures) (ap is_operation c.in-Widens.is) plain

pub returns-in-Rests : goal.returns-in-Rests
returns-in-Rests c =
    λ l e t k plain.
    top_alone c.args.statements.now c.args.levels.now (known c.args.levels.now c.args.states.now) l.space t c.args.ready c.args.frame.now c.in_ok-answer.answer k
    (rw (c.space_at-space.ensures l e, c.store_at-store.ensures l e) at c.in_ok-answer.ensures) (ap is_operation c.in-Rests.is) plain
