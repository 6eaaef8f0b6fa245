use Rattle.std.proofs.Common.{◌∙◌, ◌++◌, ap, subst, List}
use Rattle.std.proofs.lemmas.Result.{on_ok_weaker}
use Rattle.oz_base.specs.declared.names.Ident.{Ident}
use Rattle.builtins.specs.Answers.{IsReady}
use Rattle.by_need.proofs.WaitLaws.{adds_waits, waits_said, offers_said}
use Rattle.by_need.proofs.triggers.add_waits.Goals as goal

pub returns-in-Waits : goal.returns-in-Waits
returns-in-Waits c =
    on_ok_weaker c.append.result
    (λ e view defined h.
    let said = waits_said view defined c.in-Waits.waits (subst (IsReady view defined) c.in-Waits.is h) in
    adds_waits view defined c.in-Waits.waits said.0 c.args.waited.now _ (e ∙ ap (λ (xs : List Ident). c.args.waited.now ++ xs) c.into_vec.ensures) said.1 said.2)
    c.append.ensures

pub returns-in-Offers : goal.returns-in-Offers
returns-in-Offers c =
    on_ok_weaker c.append-in-Offers.result
    (λ e view defined h.
    let said = offers_said view defined c.in-Offers.count c.in-Offers.waits (subst (IsReady view defined) c.in-Offers.is h) in
    adds_waits view defined c.in-Offers.waits said.0 c.args.waited.now _ (e ∙ ap (λ (xs : List Ident). c.args.waited.now ++ xs) c.into_vec-in-Offers.ensures) said.1 said.2)
    c.append-in-Offers.ensures
