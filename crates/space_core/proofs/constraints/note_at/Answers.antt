use Rattle.std.proofs.Common.{ap, ◌∙◌, slice_set}
use Rattle.space_core.specs.Constraints.{noting_last}
use Rattle.space_core.proofs.PostingLaws.{noted_there, noted_nowhere}
use Rattle.space_core.proofs.constraints.note_at.Goals as goal

pub returns-then-index-len : goal.returns-then-index-len
returns-then-index-len c =
    ap (slice_set c.args.propagators.now c.args.index) c.note_last.ensures
    ∙ noted_there c.args.propagators.now c.args.index c.len.result c.len.ensures c.if-index-len.true c.get_mut.result.now c.get_mut.ensures.value (noting_last c.args.seen)

pub returns-else-index-len : goal.returns-else-index-len
returns-else-index-len c = noted_nowhere c.args.propagators.now c.args.index c.len.result c.len.ensures c.if-index-len.false (noting_last c.args.seen)
