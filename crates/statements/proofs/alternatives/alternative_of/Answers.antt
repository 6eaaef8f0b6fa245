use Rattle.std.proofs.Common.{◌≡◌, ◌∙◌, List, Option, Some, ap, sym, map, option_copied}
use Rattle.std.proofs.lemmas.Result.{IfOk-weaker}
use Rattle.environments.specs.Environments.{bound}
use Rattle.oz_language.specs.declared.kernel.Identifier.{Identifier}
use Rattle.oz_language.specs.declared.kernel.Statement.{Statement}
use Rattle.oz_language.specs.declared.kernel.Statement.TheVariants.{Call}
use Rattle.statements.specs.Offers.{alternative_in, alternative_of, called_offer}
use Rattle.statements.proofs.alternatives.alternative_of.Goals as goal

pub returns-in-Some-Call : goal.returns-in-Some-Call
returns-in-Some-Call c =
    let view = c.args.store.now in
    let e = c.args.environment.now in
    let i = c.args.index in
    let is : c.in-Some-Call.field-0.now ≡ Call c.in-Some-Call.procedure c.in-Some-Call.arguments = rw c.in-Some-Call.is at c.in-Some-Call.field-0-is in
    IfOk-weaker c.alternative_of_call.result _ _
    (λ frames h. h ∙ ap (λ (ns : List Identifier). alternative_in i (called_offer view (bound e c.in-Some-Call.procedure) (map (bound e) ns))) c.as_slice.ensures
    ∙ ap (λ (o : Option Statement). alternative_of view e i o) (sym (ap option_copied c.in-Some-Call.is ∙ ap (λ st. Some st) is)))
    c.alternative_of_call.ensures
