use Rattle.oz_semantics.specs.Configurations.{in_layer, without_terminated}
use Rattle.settle_laws.proofs.EditLaws.{are_quiet}
use Rattle.settle_laws.proofs.SettleLaws.{quiet_settles}
use Rattle.oz_machine.proofs.following.go_on.Goals as goal

pub returns-clause-turn : goal.returns-clause-turn
returns-clause-turn c = λ statements before h.
    let id = c.args.mover.now in
    let q = quiet_settles without_terminated id.space before c.args.course.now.levels are_quiet.terminated h in
    c.follow.ensures.turn statements id (in_layer id.space without_terminated before) c.requires (rw c.drop_terminated.ensures q)
