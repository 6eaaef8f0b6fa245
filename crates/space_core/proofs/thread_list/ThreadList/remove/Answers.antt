use Rattle.std.proofs.Common.{List, drop, ap, ◌∙◌}
use Rattle.std.specs.List.{remove}
use Rattle.oz_semantics.specs.declared.configuration.Thread.{Thread}
use Rattle.space_core.proofs.ThreadListLaws.{removed_behind}
use Rattle.space_core.proofs.thread_list.ThreadList.remove.Goals as goal

pub returns-then-place-as_slice : goal.returns-then-place-as_slice
returns-then-place-as_slice c =
    ap (drop c.self.inside.gone) c.remove-thread.ensures.items
    ∙ removed_behind c.self.inside.threads.items c.self.inside.gone c.args.place c.self.invariant
    ∙ ap (λ (ts : List Thread). remove ts c.args.place) c.self.view_is
