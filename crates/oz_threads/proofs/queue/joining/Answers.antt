use Rattle.std.proofs.Common.{◌≡◌, ap, subst, not, ◌&&◌, List}
use Rattle.std.specs.Prelude.{option_copied, IfOk}
use Rattle.oz_base.specs.declared.names.Ident.{Ident}
use Rattle.oz_semantics.specs.Settling.{is_among}
use Rattle.oz_threads.specs.Members.{is_member, joins, is_mover}
use Rattle.oz_threads.proofs.MemberLaws.{filter_same}
use Rattle.oz_threads.proofs.queue.joining.Goals as goal

pub returns : goal.returns
returns c =
    let h = c.in_ok-queued.ensures in
    let mover = option_copied c.args.mover in
    let e = filter_same (joins (is_member c.in_ok-queued.queued) mover) (joins (is_among c.args.queue.now.items) mover) c.args.ids.now
    (λ id. ap (λ b. not b && not (is_mover mover id)) (h id)) in
    subst (λ (xs : List Ident). IfOk c.others_of.result (λ others. others.items ≡ xs)) e c.others_of.ensures
