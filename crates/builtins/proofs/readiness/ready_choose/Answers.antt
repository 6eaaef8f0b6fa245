use Rattle.std.proofs.Common.{◌∙◌, sym, ap, subst, option_copied}
use Rattle.std.proofs.lemmas.Result.{IfOk-weaker}
use Rattle.builtins.specs.Answers.{IsReady}
use Rattle.builtins.specs.Looks.{offering, choosing}
use Rattle.builtins.proofs.readiness.ready_choose.Goals as goal

pub returns-in-None : goal.returns-in-None
returns-in-None c =
    let view = c.args.store.now in
    IfOk-weaker c.ready_by.result _ _
    (λ r h x. subst (λ o. IsReady view (choosing x c.args.number.now o) r) (ap option_copied (sym c.in-None.is) ∙ c.value.ensures) (h view))
    c.ready_by.ensures

pub returns-in-Some : goal.returns-in-Some
returns-in-Some c =
    let view = c.args.store.now in
    λ x. subst (λ q. IsReady view q c.offering.result)
    (ap (offering x) c.choice_in.ensures ∙ ap (choosing x c.args.number.now) (ap option_copied (sym c.in-Some.is) ∙ c.value.ensures)) (c.offering.ensures view x)
