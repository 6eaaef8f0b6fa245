use Rattle.std.proofs.Common.{List, subst}
use Rattle.settle_laws.specs.Settles.{Settles}
use Rattle.settle_laws.proofs.SettleLaws.{nothing_fails}
use Rattle.oz_semantics.specs.Settling.{failing}
use Rattle.oz_semantics.specs.declared.configuration.Layer.{Layer}
use Rattle.oz_machine.proofs.propagating.fail_child.Goals as goal

pub returns-clause-turn : goal.returns-clause-turn
returns-clause-turn c = λ statements.
    let s = c.args.space.now in
    let new = c.fail.new.self in
    c.follow_run.ensures.turn statements s (failing c.args.course.now.levels s) (subst (λ (ls : List Layer). Settles s ls new) c.fail.ensures (nothing_fails s new c.consistent.ensures))
