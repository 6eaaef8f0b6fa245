use Rattle.std.proofs.Common.{List, ℕ, subst, refl}
use Rattle.std.proofs.lemmas.Result.{on_ok_weaker}
use Rattle.suspension.specs.Changes.{Gains}
use Rattle.suspension.proofs.KeyLaws.{enters}
use Rattle.suspension.proofs.sleepers.Sleepers.enter.Goals as goal

pub returns : goal.returns
returns c =
    on_ok_weaker c.insert.result
    (λ w. enters c.args.number c.args.key.now c.args.self.now c.admit.new.self
    record { variables = c.admit.new.self.variables; lists = c.insert.new.self; taken = c.admit.new.self.taken } c.in_ok-admit.ensures c.add.new.list
    (subst (λ (xs : List ℕ). Gains c.args.number xs c.add.new.list) c.in_ok-list.ensures c.in_ok-add.ensures) w refl) c.insert.ensures.ok
