use Rattle.std.proofs.Common.{List, sym, subst}
use Rattle.oz_semantics.specs.declared.configuration.Thread.{Thread}
use Rattle.renamed_terms.specs.Meanings.{renaming_of}
use Rattle.space_core.specs.Threads.{IsKept}
use Rattle.space_core.proofs.RenamedLaws.{kept_renamed}
use Rattle.space_core.proofs.threads.Threads.renamed.Goals as goal

pub invariant_of-result : goal.invariant_of-result
invariant_of-result c =
    subst (λ (ts : List Thread). IsKept ts c.self.inside.next c.self.inside.ended) (sym c.in_ok-renamed.ensures)
    (kept_renamed (renaming_of c.args.by.now) c.self.inside.threads c.self.inside.next c.self.inside.ended c.self.invariant)
