use Rattle.std.proofs.Common.{List, ap, sym, ◌∙◌, ◌+◌, ◌++◌, arith, take, drop, length, ◌-◌, slice_set}
use Rattle.std.proofs.lemmas.List.{length-drop, take_all, with_items_is}
use Rattle.std.specs.List.{remove}
use Rattle.oz_semantics.specs.declared.configuration.Thread.{Thread}
use Rattle.space_core.proofs.ThreadListLaws.{as_many_left, let_gone}
use Rattle.space_core.proofs.thread_list.ThreadList.let_go.Goals as goal

pub returns : goal.returns
returns c =
    let v = c.self.inside.threads in
    let gone = c.self.inside.gone in
    let seen = c.deref_mut.result.now in
    let front = c.put_first.new.threads in
    let thread : Thread = record { number = c.index_mut.result.now.number; frames = c.new.result } in
    let part = take (length seen - gone) (drop gone seen) in
    let is = take_all (length seen - gone) (drop gone seen) (omega (arith, length-drop gone seen)) ∙ ap (drop gone) c.deref_mut.ensures.value in
    let many = as_many_left v.items seen front part gone c.deref_mut.ensures.value c.self.invariant is c.put_first.ensures.length in
    ap (λ (us : List Thread). drop (gone + 1) (slice_set us gone thread)) (with_items_is v (take gone seen ++ (front ++ drop (length seen - gone) (drop gone seen))) (many ∙ sym v.ok.0))
    ∙ let_gone v.items seen front part gone c.args.place thread c.deref_mut.ensures.value c.self.invariant is c.put_first.ensures.rest
    ∙ ap (λ (ts : List Thread). remove ts c.args.place) c.self.view_is
