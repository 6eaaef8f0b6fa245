use Rattle.std.proofs.Common.{◌≡◌}
use Rattle.term_store.specs.Closing.{Going, Follows, left_over}
use Rattle.term_store.specs.Logs.{told_in}
use Rattle.term_store.proofs.closing.Draft.settle.Given as goal

abbrev pub invariant-pairs : goal.invariant-pairs
invariant-pairs l =
    (l.self.log ≡ l.initial.self.log)
    × Going (told_in l.self.log) l.self.classes l.self.pending.items
    × Follows l.initial.self.touched.items l.self.touched.items l.initial.self.classes l.self.classes

abbrev pub decreases-pairs : goal.decreases-pairs
decreases-pairs l = left_over (told_in l.self.log) l.self.classes l.self.pending.items
