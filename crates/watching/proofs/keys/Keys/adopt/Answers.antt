use Rattle.std.proofs.Common.{◌≡◌, None, subst, sym}
use Rattle.std.proofs.lemmas.Result.{on_ok_weaker}
use Rattle.ident_map.specs.Entries.{entry}
use Rattle.watching.specs.Lists.{Adds}
use Rattle.watching.proofs.KeyLaws.{rooted_more}
use Rattle.watching.proofs.keys.Keys.adopt.Goals as goal

pub returns : goal.returns
returns c =
    let none : entry c.args.self.now.lists c.root-root.result.now ≡ None = sym c.in_default.ensures in
    on_ok_weaker c.add.result
    (λ a ps tells is part told r. rooted_more c.args.store.now ps c.args.classes.now tells part c.args.variable.now is told c.args.self.now c.add.new.self r c.root-root.result.now
    c.root-root.ensures.root none (sym c.if-not-has_domain.ensures) (subst (Adds c.args.self.now c.add.new.self c.root-root.result.now) c.new.ensures a)) c.add.ensures
