use Rattle.std.proofs.Common.{ap, ◌∙◌, ◌∷◌, [], ◌++◌, map, List, sym, Bor}
use Rattle.std.proofs.lemmas.List.{map_push}
use Rattle.oz_base.specs.declared.names.Ident.{Ident}
use Rattle.oz_semantics.specs.Settling.{is_among}
use Rattle.oz_threads.proofs.MemberLaws.{put_more}
use Rattle.oz_threads.proofs.members.set_of_queue.Goals as goal

pub loop-id-preserved : goal.loop-id-preserved
loop-id-preserved c =
    λ q. put_more _ _ _ _ c.in_ok-insert.ensures.updates.0 c.loop-id.invariant q
    ∙ ap (λ (x : Ident). is_among (map (λ (x : Bor Ident). x.now) c.loop-id.yielded ++ x ∷ []) q) c.in_ok-copied.ensures
    ∙ ap (λ (xs : List Ident). is_among xs q) (sym (map_push (λ (x : Bor Ident). x.now) c.loop-id.yielded c.in-Some.id))
