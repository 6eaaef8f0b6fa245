use Rattle.std.proofs.Common.{◌++◌, ◌∷◌, [], List, ap, ◌∙◌}
use Rattle.oz_semantics.specs.Renamings.{renamed_thread}
use Rattle.oz_semantics.specs.declared.configuration.Thread.{Thread}
use Rattle.renamed_terms.specs.Meanings.{renaming_of}
use Rattle.space_core.specs.Merging.{raised_by}
use Rattle.space_core.proofs.MergeLists.{nested_next}
use Rattle.space_core.proofs.threads.raised_all.Goals as goal

pub loop-thread-preserved : goal.loop-thread-preserved
loop-thread-preserved c =
    c.in_ok-push.ensures.items
    ∙ ap (λ (ts : List Thread). ts ++ c.in_ok-raised.field-0 ∷ []) c.loop-thread.invariant
    ∙ nested_next (raised_by c.args.raise) (renamed_thread (renaming_of c.args.by.now)) c.args.threads.now c.loop-thread.thread-index c.thread-item.result c.in_ok-raised.field-0 c.loop-thread-test.true c.thread-item.is c.in_ok-raised.ensures
