use Rattle.std.proofs.Common.{◌≡◌, ◌∷◌, [], ◌∙◌, List, ap, sym, option_copied}
use Rattle.std.proofs.lemmas.Result.{IfOk-weaker}
use Rattle.environments.specs.Environments.{bound}
use Rattle.oz_language.specs.declared.kernel.Piece.{Piece}
use Rattle.oz_semantics.specs.Matching.{matched}
use Rattle.oz_semantics.specs.Readiness.{answer_ready}
use Rattle.oz_semantics.specs.Statements.{clause}
use Rattle.builtins.specs.Looks.{ready_by}
use Rattle.matching.specs.Verdicts.{waits_in}
use Rattle.statements.proofs.ReadyLaws.{ready_along, match_waits}
use Rattle.statements.proofs.readiness.ready_match.Goals as goal

pub returns : goal.returns
returns c =
    let view = c.args.store.now in
    let e = c.args.environment.now in
    let awaited : option_copied c.as_ref.result ≡ waits_in (matched view c.args.pattern.now (bound e c.args.subject ∷ []) e) =
    c.as_ref.ensures.value ∙ c.in_ok-awaited.ensures e
    ∙ ap (λ (ps : List Piece). waits_in (matched view ps (c.look-subject.result.now ∷ []) e)) c.as_slice.ensures
    ∙ ap (λ x. waits_in (matched view c.args.pattern.now (x ∷ []) e)) c.look-subject.ensures
    in
    IfOk-weaker c.ready_by.result _ _
    (λ r h accepted otherwise.
    let m = matched view c.args.pattern.now (bound e c.args.subject ∷ []) e in
    ready_along view (ready_by (option_copied c.as_ref.result)) (answer_ready (clause e accepted otherwise m)) r (ap ready_by awaited ∙ sym (match_waits e accepted otherwise m)) (h view))
    c.ready_by.ensures
