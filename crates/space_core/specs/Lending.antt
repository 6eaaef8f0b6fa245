-- What the threads of a space are once one that was lent was written.
use Rattle.std.specs.Prelude.{ℕ, List, slice_set}
use Rattle.std.specs.Borrow.{Lends, Fml, MutBor}
use Rattle.oz_semantics.specs.declared.configuration.Thread.{Thread}
use Rattle.oz_semantics.specs.contracts.configuration.Thread as thread
use Rattle.space_core.specs.contracts.thread_list.ThreadList.{the_row}

-- once the borrow r ends, the place has the last value written through r
abbrev pub lends_thread : MutBor (List Thread) → ℕ → MutBor Thread → Fml
lends_thread s place r = Lends the_row thread.the_row s r (slice_set s.now place)
