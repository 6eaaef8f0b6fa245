use Rattle.std.proofs.Common.{◌∙◌, sym, ap, subst, option_copied}
use Rattle.std.proofs.lemmas.Result.{IfOk-weaker}
use Rattle.builtins.specs.Answers.{IsReady}
use Rattle.builtins.specs.Looks.{operating_on}
use Rattle.builtins.proofs.readiness.ready_on_space.Goals as goal

pub returns-in-None : goal.returns-in-None
returns-in-None c =
    let view = c.args.store.now in
    IfOk-weaker c.ready_by.result _ _
    (λ r h. subst (λ o. IsReady view (operating_on c.args.space.now c.args.other.now o) r) (ap option_copied (sym c.in-None.is) ∙ c.value.ensures) (h view))
    c.ready_by.ensures

pub returns-in-Some : goal.returns-in-Some
returns-in-Some c =
    let view = c.args.store.now in
    IfOk-weaker c.ready_on.result _ _
    (λ r h. subst (λ o. IsReady view (operating_on c.args.space.now c.args.other.now o) r) (ap option_copied (sym c.in-Some.is) ∙ c.value.ensures) (h view))
    c.ready_on.ensures
