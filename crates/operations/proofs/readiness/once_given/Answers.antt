use Rattle.std.proofs.Common.{ap, sym, subst, ◌∙◌, option_copied}
use Rattle.std.proofs.lemmas.Result.{IfOk-weaker}
use Rattle.builtins.specs.Answers.{IsReady}
use Rattle.builtins.specs.Looks.{awaiting}
use Rattle.operations.specs.Outcomes.{is_decided, once}
use Rattle.operations.proofs.readiness.once_given.Goals as goal

pub returns-in-None : goal.returns-in-None
returns-in-None c =
    let view = c.args.store.now in
    IfOk-weaker c.ready_by.result _ _
    (λ r h. subst (λ o. IsReady view (awaiting c.args.argument.now o (once c.args.space.now (is_decided c.args.state.now))) r) (ap option_copied (sym c.in-None.is) ∙ c.value.ensures) (h view))
    c.ready_by.ensures

pub returns-in-Some : goal.returns-in-Some
returns-in-Some c =
    let view = c.args.store.now in
    IfOk-weaker c.once_decided.result _ _
    (λ r h. subst (λ o. IsReady view (awaiting c.args.argument.now o (once c.args.space.now (is_decided c.args.state.now))) r) (ap option_copied (sym c.in-Some.is) ∙ c.value.ensures) (h view))
    c.once_decided.ensures
