use Rattle.std.proofs.Common.{◌∙◌, [], ◌∷◌, Option, ap, sym}
use Rattle.std.proofs.lemmas.Result.{IfOk-weaker}
use Rattle.oz_language.specs.declared.kernel.Statement.{Statement}
use Rattle.oz_semantics.specs.Sights.{Sight, offer_of}
use Rattle.oz_semantics.specs.Readiness.{answer_ready}
use Rattle.oz_semantics.specs.Statements.{code_answer}
use Rattle.oz_semantics.specs.declared.configuration.Code.{Code}
use Rattle.statements.specs.Offers.{alternative_in, alternative_of}
use Rattle.statements.proofs.OfferLaws.{numbered_offers, called_offers}
use Rattle.statements.proofs.alternatives.alternative_of_frame.Goals as goal

pub returns-in-Statement : goal.returns-in-Statement
returns-in-Statement c =
    let e = c.args.frame.now.environment in
    IfOk-weaker c.alternative_of.result _ _
    (λ frames h space.
    let s : Sight = record { statements = c.args.statements.now; space = space; view = c.args.store.now } in
    h ∙ ap (λ (o : Option Statement). alternative_of c.args.store.now e c.args.index o) c.statement_at.ensures ∙ numbered_offers s e c.args.index _
    ∙ ap (λ (k : Code). alternative_in c.args.index (offer_of (answer_ready (code_answer s e k)))) (sym c.in-Statement.is))
    c.alternative_of.ensures

pub returns-in-Call : goal.returns-in-Call
returns-in-Call c =
    IfOk-weaker c.alternative_called.result _ _
    (λ frames h space.
    let s : Sight = record { statements = c.args.statements.now; space = space; view = c.args.store.now } in
    h ∙ sym (ap (alternative_in c.args.index) (called_offers s c.in-Call.procedure (c.in-Call.argument ∷ [])))
    ∙ ap (λ (k : Code). alternative_in c.args.index (offer_of (answer_ready (code_answer s c.args.frame.now.environment k)))) (sym c.in-Call.is))
    c.alternative_called.ensures
