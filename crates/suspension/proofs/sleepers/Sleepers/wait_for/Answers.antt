use Rattle.std.proofs.Common.{Some, None, subst}
use Rattle.std.proofs.lemmas.Result.{on_ok_weaker}
use Rattle.oz_semantics.specs.Store.{Same, reversed, joined}
use Rattle.suspension.specs.Changes.{Finds}
use Rattle.suspension.proofs.KeyLaws.{falls_one, is_key_of, root_same}
use Rattle.suspension.proofs.sleepers.Sleepers.wait_for.Goals as goal

pub returns-in-Some : goal.returns-in-Some
returns-in-Some c =
    let f : Finds c.args.store.now c.args.self.now c.args.variable.now (Some c.in-Some.key) =
    subst (Finds c.args.store.now c.args.self.now c.args.variable.now) c.in-Some.is c.in_ok-key.ensures in
    on_ok_weaker c.enter.result
    (λ e. falls_one c.args.store.now c.args.number c.args.variable.now c.in-Some.key c.args.self.now c.enter.new.self e f.1
    (λ a l h s. a.apart l c.in-Some.key h (is_key_of c.args.self.now c.in-Some.key f.0) s)) c.enter.ensures

pub returns-in-None : goal.returns-in-None
returns-in-None c =
    let f : Finds c.args.store.now c.args.self.now c.args.variable.now None =
    subst (Finds c.args.store.now c.args.self.now c.args.variable.now) c.in-None.is c.in_ok-key.ensures in
    let x_r : Same c.args.store.now c.args.variable.now c.root.result.now =
    root_same c.args.store.now c.classes.result.now c.classes.ensures c.args.variable.now c.root.result.now c.root.ensures.root in
    on_ok_weaker c.enter-in-None.result
    (λ e. falls_one c.args.store.now c.args.number c.args.variable.now c.root.result.now c.args.self.now c.enter-in-None.new.self e x_r
    (λ a l h s. absurd (f a.listed l h (joined x_r (reversed s))))) c.enter-in-None.ensures
