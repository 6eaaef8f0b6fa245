use Rattle.std.proofs.Common.{◌++◌, filter, ap, ◌∙◌, List}
use Rattle.std.specs.Prelude.{option_copied, option_to_list}
use Rattle.oz_base.specs.declared.names.Ident.{Ident}
use Rattle.oz_semantics.specs.Settling.{is_among}
use Rattle.oz_threads.specs.Members.{joins}
use Rattle.oz_threads.proofs.MemberLaws.{requeued_by}
use Rattle.oz_threads.proofs.queue.Queue.requeue.Goals as goal

pub returns-clause-ok : goal.returns-clause-ok
returns-clause-ok c =
    let seen = c.self.view_is in
    requeued_by c.args.ids.now (option_copied c.args.mover) c.args.self.now _ c.in_ok-able.ensures _ _ _ _ (c.in_ok-mover.ensures c.args.ids.now c.in_ok-able.ensures)
    (c.in_ok-others.ensures ∙ ap (λ (xs : List Ident). filter (joins (is_among xs) (option_copied c.args.mover)) c.args.ids.now) seen)
    (c.in_ok-join.ensures.ok ∙ ap (λ (xs : List Ident). xs ++ option_to_list c.in_ok-mover.mover ++ c.in_ok-others.others.items) seen) c.retain.ensures
