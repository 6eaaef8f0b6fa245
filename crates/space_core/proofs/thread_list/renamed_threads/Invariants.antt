use Rattle.std.proofs.Common.{◌≡◌, map, take}
use Rattle.oz_semantics.specs.Renamings.{renamed_thread}
use Rattle.renamed_terms.specs.Meanings.{renaming_of}
use Rattle.space_core.proofs.thread_list.renamed_threads.Given as goal

-- those so far
abbrev pub invariant-loop-thread : goal.invariant-loop-thread
invariant-loop-thread l = l.after.items ≡ map (renamed_thread (renaming_of l.by)) (take l.thread-index l.threads)
