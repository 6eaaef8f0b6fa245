use Rattle.std.proofs.Common.{refl, sym}
use Rattle.oz_semantics.specs.Store.{Same, domain_of}
use Rattle.watching.specs.declared.watched.Watched.{Watched}
use Rattle.watching.proofs.KeyLaws.{root_same}
use Rattle.watching.proofs.DueLaws.{on_ok_both, none_left}
use Rattle.watching.proofs.WatchLaws.{attended, wakes_nothing}
use Rattle.watching.proofs.watched.Watched.attend.Goals as goal

pub returns-then-not-has_domain : goal.returns-then-not-has_domain
returns-then-not-has_domain c =
    λ ps t. wakes_nothing c.args.store.now ps c.args.variable.now c.args.self.now (none_left (domain_of c.args.store.now c.args.variable.now) (sym c.if-not-has_domain.ensures)) t

pub returns : goal.returns
returns c =
    let s : Same c.args.store.now c.args.variable.now c.root-root.result.now = root_same c.args.store.now c.classes.result.now c.classes.ensures c.args.variable.now c.root-root.result.now c.root-root.ensures.root in
    let middle : Watched = record { keys = c.make.new.self; due = c.args.self.now.due } in
    on_ok_both _ _ _ c.wake.result
    (λ f g ps t. attended c.args.store.now ps c.root-root.result.now c.args.variable.now c.args.self.now middle c.wake.new.self s refl (c.in_ok-make.ensures ps) (sym c.if-not-has_domain.ensures) f g t)
    c.wake.ensures.keys c.wake.ensures.due
