use Rattle.std.proofs.Common.{◌≡◌, List, [], ◌∷◌, ap, ◌∙◌}
use Rattle.oz_base.specs.declared.names.Ident.{Ident}
use Rattle.oz_semantics.specs.Changes.{AddsPropagator}
use Rattle.oz_acts.proofs.DoneLaws.{tells_done}
use Rattle.oz_acts.proofs.acts.post.Goals as goal

pub returns-clause-ok : goal.returns-clause-ok
returns-clause-ok c =
    let posting = c.args.posting.now in
    let relation = c.in_ok-copied.field-0 in
    let variables = c.in_ok-copied-2.field-0 in
    let moves : AddsPropagator relation variables ∷ [] ≡ AddsPropagator posting.relation posting.variables ∷ [] =
    ap (λ r. AddsPropagator r variables ∷ []) c.in_ok-copied.ensures ∙ ap (λ (xs : List Ident). AddsPropagator posting.relation xs ∷ []) c.in_ok-copied-2.ensures in
    tells_done c.args.id.now c.as_slice.result.now posting.tells (AddsPropagator relation variables ∷ []) (AddsPropagator posting.relation posting.variables ∷ []) c.args.levels.now c.tell_by.new.self
    c.tell_by.result c.as_slice.ensures moves c.tell_by.ensures.told
