use Rattle.std.proofs.Common.{refl, subst}
use Rattle.std.proofs.lemmas.Result.{on_ok_weaker}
use Rattle.watching.specs.Lists.{Adds}
use Rattle.watching.proofs.KeyLaws.{adds_keyed, gathers_keyed}
use Rattle.watching.proofs.keys.Keys.make.Goals as goal

pub returns : goal.returns
returns c =
    on_ok_weaker c.gather.result
    (λ g ps k a d. gathers_keyed c.args.store.now ps c.args.root.now c.args.self.now c.gather.new.self (g k.listed) k a d) c.gather.ensures

pub returns-then-not-any_equal : goal.returns-then-not-any_equal
returns-then-not-any_equal c =
    on_ok_weaker c.add.result
    (λ a ps k b d. adds_keyed c.args.store.now ps c.args.root.now c.args.self.now c.add.new.self (c.if-not-any_equal.ensures refl k.listed)
    (subst (Adds c.args.self.now c.add.new.self c.args.root.now) c.new.ensures a) k b d) c.add.ensures
