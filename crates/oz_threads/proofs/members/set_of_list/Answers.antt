use Rattle.std.proofs.Common.{ap, ◌∙◌, ◌∷◌, [], ◌++◌, take, List, sym}
use Rattle.std.proofs.lemmas.List.{take_more}
use Rattle.oz_base.specs.declared.names.Ident.{Ident}
use Rattle.oz_semantics.specs.Settling.{is_among}
use Rattle.oz_threads.proofs.MemberLaws.{put_more}
use Rattle.oz_threads.proofs.members.set_of_list.Goals as goal

pub loop-id-preserved : goal.loop-id-preserved
loop-id-preserved c =
    let ids = c.args.ids.now in
    let more = take_more ids c.loop-id.id-index c.id-item.result c.loop-id-test.true in
    λ q. put_more _ _ _ _ c.in_ok-insert.ensures.updates.0 c.loop-id.invariant q
    ∙ ap (λ (x : Ident). is_among (take c.loop-id.id-index ids ++ x ∷ []) q) (c.in_ok-copied.ensures ∙ c.id-item.is)
    ∙ ap (λ (xs : List Ident). is_among xs q) (sym more)
