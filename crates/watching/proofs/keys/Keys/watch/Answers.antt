use Rattle.std.proofs.Common.{◌≡◌, ◌∙◌, true, is_some, sym, ap}
use Rattle.std.proofs.lemmas.Result.{on_ok_weaker}
use Rattle.oz_laws.proofs.StoreLaws.{domain_row}
use Rattle.oz_semantics.specs.Store.{Same, domain_of}
use Rattle.watching.specs.Lists.{AreKeyed}
use Rattle.watching.proofs.KeyLaws.{enters_watched, root_same}
use Rattle.watching.proofs.keys.Keys.watch.Goals as goal

pub returns : goal.returns
returns c =
    let s : Same c.args.store.now c.args.variable.now c.root-root.result.now = root_same c.args.store.now c.classes.result.now c.classes.ensures c.args.variable.now c.root-root.result.now c.root-root.ensures.root in
    let d : is_some (domain_of c.args.store.now c.root-root.result.now) ≡ true =
    ap is_some (sym (domain_row c.args.store.now c.args.variable.now c.root-root.result.now s)) ∙ sym c.if-not-has_domain.ensures in
    on_ok_weaker c.enter.result
    (λ e ps k a. (let m : AreKeyed c.args.store.now ps c.root-root.result.now c.args.self.now c.make.new.self = c.in_ok-make.ensures ps k a d in
    enters_watched c.args.store.now ps c.make.new.self c.enter.new.self c.root-root.result.now c.args.index e c.args.variable.now c.args.self.now s m.kept m.keys m.apart)) c.enter.ensures
