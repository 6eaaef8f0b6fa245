use Rattle.std.proofs.Common.{ℕ, List, map}
use Rattle.oz_language.specs.declared.kernel.Statement.{Statement}
use Rattle.kernel_form.specs.Entries.{left_of, weights}
use Rattle.kernel_form.specs.Pending.{Leads}
use Rattle.kernel_form.proofs.entries.next_statement.Given as goal

abbrev pub invariant-entries : goal.invariant-entries
invariant-entries l =
    (all : List Statement) (text : List ℕ)
    → Leads l.words all (map left_of l.initial.pending) l.initial.out.items text
    → Leads l.words all (map left_of l.pending) l.out.items text

abbrev pub decreases-entries : goal.decreases-entries
decreases-entries l = weights (map left_of l.pending)
