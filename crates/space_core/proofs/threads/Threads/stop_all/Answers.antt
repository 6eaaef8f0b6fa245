use Rattle.std.proofs.Common.{List, sym, subst}
use Rattle.oz_semantics.specs.declared.configuration.Thread.{Thread}
use Rattle.space_core.specs.declared.ended.Ended.TheVariants.{Nobody}
use Rattle.space_core.specs.Threads.{IsKept}
use Rattle.space_core.proofs.ThreadLaws.{kept_none}
use Rattle.space_core.proofs.threads.Threads.stop_all.Goals as goal

pub invariant_of-self : goal.invariant_of-self
invariant_of-self c = subst (λ (ts : List Thread). IsKept ts c.self.inside.next Nobody) (sym c.new.ensures) (kept_none c.self.inside.threads c.self.inside.next c.self.inside.ended c.self.invariant)
